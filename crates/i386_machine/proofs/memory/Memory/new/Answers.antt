use Rattle.std.proofs.Common.{◌≡◌, ◌-◌, ◌+◌, ◌≤◌, ◌++◌, ℕ, ◌∷◌, [], List, ap, sym, subst, ◌∙◌, map, length, true, false, arith}
use Rattle.i386_machine.specs.declared.memory.Piece.{Piece}
use Rattle.i386_machine.specs.Pieces.{region_of, EndsWithin}
use Rattle.i386_machine.specs.Regions.{Shape, shapes, Disjoint, length-zeros}
use Rattle.i386_machine.proofs.memory.Memory.new.Goals as goal

pub invariant_of-result : goal.invariant_of-result
invariant_of-result c =
    let p : Piece = record { base = 3221225472 - c.args.stack; bytes = c.in_ok-bytes.bytes; writable = true; executable = false } in
    let pushed : c.push.new.self.items ≡ p ∷ [] = c.in_ok-push.ensures.items ∙ ap (λ (ps : List Piece). ps ++ p ∷ []) c.new-pieces.ensures.items in
    let long : length c.in_ok-bytes.bytes.items ≡ c.args.stack = ap length c.in_ok-bytes.ensures ∙ length-zeros c.args.stack in
    let below = c.requires in
    let low : 3221225472 - c.args.stack + length c.in_ok-bytes.bytes.items ≤ 4294967296 = omega (arith, long) in
    record {
      apart = subst (λ (ps : List Piece). Disjoint (shapes (map region_of ps))) (sym pushed) (tt, tt);
      ends = subst (λ (ps : List Piece). EndsWithin (shapes (map region_of ps))) (sym pushed) (low, tt);
      data_within = omega (arith, ap length pushed);
      slots = c.in_ok-no_slots.ensures.length;
      known = c.in_ok-no_slots.ensures.known (map region_of c.push.new.self.items);
    }

pub returns-clause-shape : goal.returns-clause-shape
returns-clause-shape c =
    let p : Piece = record { base = 3221225472 - c.args.stack; bytes = c.in_ok-bytes.bytes; writable = true; executable = false } in
    let shaped : ℕ → List Shape = λ n. record { base = 3221225472 - c.args.stack; size = n; writable = true; executable = false } ∷ [] in
    ap (λ (ps : List Piece). shapes (map region_of ps)) c.in_ok-push.ensures.items
    ∙ ap (λ (ps : List Piece). shapes (map region_of (ps ++ p ∷ []))) c.new-pieces.ensures.items
    ∙ ap shaped (ap length c.in_ok-bytes.ensures ∙ length-zeros c.args.stack)
