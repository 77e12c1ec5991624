use Rattle.std.proofs.Common.{ℕ, ◌+◌, ◌-◌, List, Some, sym, ap, subst, ◌∙◌, get_or}
use Rattle.cc_base.specs.Words.{join}
use Rattle.i386_machine.specs.declared.memory.Piece.{Piece}
use Rattle.i386_machine.specs.Pieces.{HasNone, HasAt}
use Rattle.i386_machine.specs.Regions.{Region, held_word_at}
use Rattle.i386_machine.proofs.Accesses.{held_word_none, held_word_refused, held_word_found}
use Rattle.i386_machine.proofs.memory.Memory.held_word.Goals as goal

pub returns-in_default-clause-word : goal.returns-in_default-clause-word
returns-in_default-clause-word c =
    let h : HasNone c.self.inside.pieces.items c.args.at 4 = subst (λ (ps : List Piece). HasNone ps c.args.at 4) c.deref.ensures.value c.in_default.ensures in
    sym (ap (λ (m : List Region). held_word_at m c.args.at) (sym c.self.view_is) ∙ held_word_none c.self.inside.pieces.items c.args.at h)

pub returns-then-not-piece-clause-word : goal.returns-then-not-piece-clause-word
returns-then-not-piece-clause-word c =
    let h : HasAt c.self.inside.pieces.items c.args.at 4 c.in-Some.index = subst (λ (ps : List Piece). HasAt ps c.args.at 4 c.in-Some.index) c.deref.ensures.value c.in-Some.ensures in
    let p = c.index-piece.result.now in
    sym (ap (λ (m : List Region). held_word_at m c.args.at) (sym c.self.view_is) ∙ held_word_refused c.self.inside.pieces.items c.args.at c.in-Some.index p c.self.invariant.apart c.index-piece.ensures h c.if-not-piece.true)

pub returns-clause-word : goal.returns-clause-word
returns-clause-word c =
    let h : HasAt c.self.inside.pieces.items c.args.at 4 c.in-Some.index = subst (λ (ps : List Piece). HasAt ps c.args.at 4 c.in-Some.index) c.deref.ensures.value c.in-Some.ensures in
    let p = c.index-piece.result.now in
    let found = held_word_found c.self.inside.pieces.items c.args.at c.in-Some.index p c.self.invariant.apart c.index-piece.ensures h c.if-not-piece.false in
    let bytes = c.deref-2.ensures.value in
    let is = c.word_in.ensures ∙ ap (λ (xs : List ℕ). join (get_or xs (c.args.at - p.base) 0) (get_or xs (c.args.at - p.base + 1) 0) (get_or xs (c.args.at - p.base + 2) 0) (get_or xs (c.args.at - p.base + 3) 0)) bytes in
    ap (λ (x : ℕ). Some x) is ∙ sym found ∙ ap (λ (m : List Region). held_word_at m c.args.at) c.self.view_is
