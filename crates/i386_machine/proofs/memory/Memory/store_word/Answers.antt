use Rattle.std.proofs.Common.{◌≡◌, ℕ, ◌+◌, ◌-◌, List, sym, ap, subst, ◌∙◌, set, length, arith}
use Rattle.std.proofs.lemmas.List.{with_items_is, length-set}
use Rattle.std.specs.Vec.{with_items}
use Rattle.cc_base.specs.Words.{byte_of}
use Rattle.i386_machine.specs.declared.memory.Piece.{Piece}
use Rattle.i386_machine.specs.Pieces.{region_of, HasNone, HasAt, EndsWithin}
use Rattle.i386_machine.specs.Regions.{Region, store_word, Disjoint}
use Rattle.i386_machine.proofs.Accesses.{store_word_none, store_word_at, store_word_refused, same_shapes}
use Rattle.i386_machine.proofs.Kept.{AllKnown_stored}
use Rattle.i386_machine.proofs.memory.Memory.store_word.Goals as goal

pub returns-in_default-clause-stored : goal.returns-in_default-clause-stored
returns-in_default-clause-stored c =
    let h : HasNone c.self.inside.pieces.items c.args.at 4 = subst (λ (ps : List Piece). HasNone ps c.args.at 4) c.deref.ensures.value c.in_default.ensures in
    ap (λ (m : List Region). store_word m c.args.at c.args.word) (sym c.self.view_is) ∙ store_word_none c.self.inside.pieces.items c.args.at c.args.word h

pub returns-then-not-piece-clause-stored : goal.returns-then-not-piece-clause-stored
returns-then-not-piece-clause-stored c =
    let h : HasAt c.self.inside.pieces.items c.args.at 4 c.in-Some.index = subst (λ (ps : List Piece). HasAt ps c.args.at 4 c.in-Some.index) c.deref.ensures.value c.in-Some.ensures in
    let p = c.index_mut-piece.result.now in
    let refused = store_word_refused c.self.inside.pieces.items c.args.at c.in-Some.index p c.self.invariant.apart c.index_mut-piece.ensures.value c.args.word h c.if-not-piece.true in
    ap (λ (m : List Region). store_word m c.args.at c.args.word) (sym c.self.view_is) ∙ refused

pub invariant_of-self-2 : goal.invariant_of-self-2
invariant_of-self-2 c =
    let h : HasAt c.self.inside.pieces.items c.args.at 4 c.in-Some.index = subst (λ (ps : List Piece). HasAt ps c.args.at 4 c.in-Some.index) c.deref.ensures.value c.in-Some.ensures in
    let p = c.index_mut-piece.result.now in
    let new : Piece = record p { bytes = with_items p.bytes c.put_word.new.bytes } in
    let bytes : c.deref_mut.result.now ≡ p.bytes.items = c.deref_mut.ensures.value in
    let long : length c.put_word.new.bytes ≡ p.bytes.len = c.put_word.auto.bytes ∙ c.deref_mut.ensures.len in
    let xs : (with_items p.bytes c.put_word.new.bytes).items ≡ c.put_word.new.bytes = with_items_is p.bytes c.put_word.new.bytes long in
    let is : region_of new ≡ record (region_of p) { bytes = c.put_word.new.bytes } = ap (λ (ys : List ℕ). record (region_of p) { bytes = ys }) xs in
    let same = same_shapes c.self.inside.pieces.items c.args.at c.in-Some.index p c.self.invariant.apart c.index_mut-piece.ensures.value 4 new c.put_word.new.bytes h is (c.put_word.auto.bytes ∙ ap length bytes) in
    record {
      apart = subst Disjoint same c.self.invariant.apart;
      ends = subst EndsWithin same c.self.invariant.ends;
      data_within = let w = h.within in omega (arith, length-set c.self.inside.pieces.items c.in-Some.index new);
      slots = c.self.invariant.slots;
      known = AllKnown_stored c.self.inside.pieces.items c.args.at 4 c.in-Some.index p new c.put_word.new.bytes c.self.inside.slots.items c.index_mut-piece.ensures.value h c.if-not-piece.false is (c.put_word.auto.bytes ∙ ap length bytes) c.self.invariant.known;
    }

pub returns-clause-stored : goal.returns-clause-stored
returns-clause-stored c =
    let h : HasAt c.self.inside.pieces.items c.args.at 4 c.in-Some.index = subst (λ (ps : List Piece). HasAt ps c.args.at 4 c.in-Some.index) c.deref.ensures.value c.in-Some.ensures in
    let p = c.index_mut-piece.result.now in
    let new : Piece = record p { bytes = with_items p.bytes c.put_word.new.bytes } in
    let bytes : c.deref_mut.result.now ≡ p.bytes.items = c.deref_mut.ensures.value in
    let long : length c.put_word.new.bytes ≡ p.bytes.len = c.put_word.auto.bytes ∙ c.deref_mut.ensures.len in
    let xs : (with_items p.bytes c.put_word.new.bytes).items ≡ c.put_word.new.bytes = with_items_is p.bytes c.put_word.new.bytes long in
    let is : region_of new ≡ record (region_of p) { bytes = c.put_word.new.bytes } = ap (λ (ys : List ℕ). record (region_of p) { bytes = ys }) xs in
    ap (λ (m : List Region). store_word m c.args.at c.args.word) (sym c.self.view_is)
    ∙ store_word_at c.self.inside.pieces.items c.args.at c.in-Some.index p c.self.invariant.apart c.index_mut-piece.ensures.value c.args.word new c.put_word.new.bytes h c.if-not-piece.false is (c.put_word.ensures ∙ ap (λ (ys : List ℕ). set (set (set (set ys (c.args.at - p.base) (byte_of c.args.word 0)) (c.args.at - p.base + 1) (byte_of c.args.word 1)) (c.args.at - p.base + 2) (byte_of c.args.word 2)) (c.args.at - p.base + 3) (byte_of c.args.word 3)) bytes)
