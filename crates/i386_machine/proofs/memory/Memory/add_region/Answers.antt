use Rattle.std.proofs.Common.{◌≡◌, ℕ, ◌+◌, ◌-◌, ◌≤◌, ◌++◌, ◌∷◌, [], List, sym, ap, subst, ◌∙◌, map, length, arith, length-append}
use Rattle.i386_machine.specs.declared.memory.Piece.{Piece}
use Rattle.i386_machine.specs.Pieces.{region_of, EndsWithin}
use Rattle.i386_machine.specs.Regions.{Region, shape_of, shapes, ApartFrom, Disjoint, zeros, length-zeros}
use Rattle.i386_machine.proofs.Accesses.{shapes_push, ends_push}
use Rattle.i386_machine.specs.laws.Regions.{disjoint_push}
use Rattle.i386_machine.specs.Known.{AllKnown}
use Rattle.i386_machine.proofs.Kept.{AllKnown_pushed}
use Rattle.i386_machine.proofs.memory.Memory.add_region.Goals as goal

pub invariant_of-self-2 : goal.invariant_of-self-2
invariant_of-self-2 c =
    let p : Piece = record { base = c.args.base; bytes = c.in_ok-held.held; writable = c.args.writable; executable = c.args.executable } in
    let pushed : c.push.new.self.items ≡ c.self.inside.pieces.items ++ p ∷ [] = c.in_ok-push.ensures.items in
    let whole = c.requires.whole in
    let long : c.args.size ≡ length c.in_ok-held.held.items = omega (arith, ap length c.in_ok-held.ensures, length-append c.args.bytes.now (zeros (c.args.size - length c.args.bytes.now)), length-zeros (c.args.size - length c.args.bytes.now)) in
    let below = c.requires.ends in
    let low : c.args.base + length c.in_ok-held.held.items ≤ 4294967296 = omega (arith, long) in
    let apart : ApartFrom (shape_of (region_of p)) (shapes (map region_of c.self.inside.pieces.items)) =
    subst (λ (n : ℕ). ApartFrom (record { base = c.args.base; size = n; writable = c.args.writable; executable = c.args.executable }) (shapes (map region_of c.self.inside.pieces.items))) long (subst (λ (m : List Region). ApartFrom (record { base = c.args.base; size = c.args.size; writable = c.args.writable; executable = c.args.executable }) (shapes m)) (sym c.self.view_is) c.requires.apart) in
    record {
      apart = subst (λ (ps : List Piece). Disjoint (shapes (map region_of ps))) (sym pushed) (subst Disjoint (sym (shapes_push c.self.inside.pieces.items p)) (disjoint_push (shape_of (region_of p)) (shapes (map region_of c.self.inside.pieces.items)) c.self.invariant.apart apart));
      ends = subst (λ (ps : List Piece). EndsWithin (shapes (map region_of ps))) (sym pushed) (subst EndsWithin (sym (shapes_push c.self.inside.pieces.items p)) (ends_push (shape_of (region_of p)) (shapes (map region_of c.self.inside.pieces.items)) c.self.invariant.ends low));
      data_within = let l = c.self.invariant.data_within in omega (arith, ap length pushed, length-append c.self.inside.pieces.items (p ∷ []));
      slots = c.self.invariant.slots;
      known = subst (λ (ps : List Piece). AllKnown (map region_of ps) c.self.inside.slots.items) (sym pushed) (AllKnown_pushed c.self.inside.pieces.items p c.self.inside.slots.items apart c.self.invariant.known);
    }

pub returns-clause-shape : goal.returns-clause-shape
returns-clause-shape c =
    let p : Piece = record { base = c.args.base; bytes = c.in_ok-held.held; writable = c.args.writable; executable = c.args.executable } in
    let pushed : c.push.new.self.items ≡ c.self.inside.pieces.items ++ p ∷ [] = c.in_ok-push.ensures.items in
    let whole = c.requires.whole in
    let long : length c.in_ok-held.held.items ≡ c.args.size = omega (arith, ap length c.in_ok-held.ensures, length-append c.args.bytes.now (zeros (c.args.size - length c.args.bytes.now)), length-zeros (c.args.size - length c.args.bytes.now)) in
    ap (λ (ps : List Piece). shapes (map region_of ps)) pushed ∙ shapes_push c.self.inside.pieces.items p
    ∙ ap (λ (n : ℕ). shapes (map region_of c.self.inside.pieces.items) ++ record { base = c.args.base; size = n; writable = c.args.writable; executable = c.args.executable } ∷ []) long
    ∙ ap (λ (m : List Region). shapes m ++ record { base = c.args.base; size = c.args.size; writable = c.args.writable; executable = c.args.executable } ∷ []) c.self.view_is
