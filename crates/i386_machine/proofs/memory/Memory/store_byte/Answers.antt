use Rattle.std.proofs.Common.{◌≡◌, ℕ, ◌-◌, List, refl, sym, ap, subst, ◌∙◌, set, arith}
use Rattle.std.proofs.lemmas.List.{length-set}
use Rattle.std.specs.Vec.{with_item}
use Rattle.cc_base.specs.Words.{byte_of}
use Rattle.i386_machine.specs.declared.memory.Piece.{Piece}
use Rattle.i386_machine.specs.Pieces.{HasNone, HasAt, EndsWithin}
use Rattle.i386_machine.specs.Regions.{Region, store_byte, Disjoint}
use Rattle.i386_machine.proofs.Accesses.{store_byte_none, store_byte_at, store_byte_refused, same_shapes}
use Rattle.i386_machine.proofs.Kept.{AllKnown_stored}
use Rattle.i386_machine.proofs.memory.Memory.store_byte.Goals as goal

pub returns-in_default-clause-stored : goal.returns-in_default-clause-stored
returns-in_default-clause-stored c =
    let h : HasNone c.self.inside.pieces.items c.args.at 1 = subst (λ (ps : List Piece). HasNone ps c.args.at 1) c.deref.ensures.value c.in_default.ensures in
    ap (λ (m : List Region). store_byte m c.args.at c.args.byte) (sym c.self.view_is) ∙ store_byte_none c.self.inside.pieces.items c.args.at c.args.byte h

pub returns-then-not-piece-clause-stored : goal.returns-then-not-piece-clause-stored
returns-then-not-piece-clause-stored c =
    let h : HasAt c.self.inside.pieces.items c.args.at 1 c.in-Some.index = subst (λ (ps : List Piece). HasAt ps c.args.at 1 c.in-Some.index) c.deref.ensures.value c.in-Some.ensures in
    let p = c.index_mut-piece.result.now in
    let refused = store_byte_refused c.self.inside.pieces.items c.args.at c.in-Some.index p c.self.invariant.apart c.index_mut-piece.ensures.value c.args.byte h c.if-not-piece.true in
    ap (λ (m : List Region). store_byte m c.args.at c.args.byte) (sym c.self.view_is) ∙ refused

pub invariant_of-self-2 : goal.invariant_of-self-2
invariant_of-self-2 c =
    let h : HasAt c.self.inside.pieces.items c.args.at 1 c.in-Some.index = subst (λ (ps : List Piece). HasAt ps c.args.at 1 c.in-Some.index) c.deref.ensures.value c.in-Some.ensures in
    let p = c.index_mut-piece.result.now in
    let new : Piece = record p { bytes = with_item p.bytes (c.args.at - p.base) c.args.byte } in
    let xs : List ℕ = set p.bytes.items (c.args.at - p.base) c.args.byte in
    let same = same_shapes c.self.inside.pieces.items c.args.at c.in-Some.index p c.self.invariant.apart c.index_mut-piece.ensures.value 1 new xs h refl (length-set p.bytes.items (c.args.at - p.base) c.args.byte) in
    record {
      apart = subst Disjoint same c.self.invariant.apart;
      ends = subst EndsWithin same c.self.invariant.ends;
      data_within = let w = h.within in omega (arith, length-set c.self.inside.pieces.items c.in-Some.index new);
      slots = c.self.invariant.slots;
      known = AllKnown_stored c.self.inside.pieces.items c.args.at 1 c.in-Some.index p new xs c.self.inside.slots.items c.index_mut-piece.ensures.value h c.if-not-piece.false refl (length-set p.bytes.items (c.args.at - p.base) c.args.byte) c.self.invariant.known;
    }

pub returns-clause-stored : goal.returns-clause-stored
returns-clause-stored c =
    let h : HasAt c.self.inside.pieces.items c.args.at 1 c.in-Some.index = subst (λ (ps : List Piece). HasAt ps c.args.at 1 c.in-Some.index) c.deref.ensures.value c.in-Some.ensures in
    let p = c.index_mut-piece.result.now in
    let new : Piece = record p { bytes = with_item p.bytes (c.args.at - p.base) c.args.byte } in
    let small : c.args.byte ≡ byte_of c.args.byte 0 = omega (arith, c.ranges.byte.fits) in
    let xs : List ℕ = set p.bytes.items (c.args.at - p.base) c.args.byte in
    ap (λ (m : List Region). store_byte m c.args.at c.args.byte) (sym c.self.view_is)
    ∙ store_byte_at c.self.inside.pieces.items c.args.at c.in-Some.index p c.self.invariant.apart c.index_mut-piece.ensures.value c.args.byte new xs h c.if-not-piece.false refl (ap (set p.bytes.items (c.args.at - p.base)) small)
