use Rattle.std.proofs.Common.{List, sym, ap, subst, ◌∙◌}
use Rattle.i386_machine.specs.declared.memory.Piece.{Piece}
use Rattle.i386_machine.specs.Pieces.{HasNone, HasAt}
use Rattle.i386_machine.specs.Regions.{Region, shapes, writable}
use Rattle.i386_machine.proofs.Accesses.{is_writable_none, is_writable_at}
use Rattle.i386_machine.proofs.memory.Memory.is_writable.Goals as goal

pub returns-in_default-clause-right : goal.returns-in_default-clause-right
returns-in_default-clause-right c =
    let h : HasNone c.self.inside.pieces.items c.args.at 1 = subst (λ (ps : List Piece). HasNone ps c.args.at 1) c.deref.ensures.value c.in_default.ensures in
    sym (ap (λ (m : List Region). writable (shapes m) c.args.at 1) (sym c.self.view_is) ∙ is_writable_none c.self.inside.pieces.items c.args.at h)

pub returns-clause-right : goal.returns-clause-right
returns-clause-right c =
    let h : HasAt c.self.inside.pieces.items c.args.at 1 c.in-Some.index = subst (λ (ps : List Piece). HasAt ps c.args.at 1 c.in-Some.index) c.deref.ensures.value c.in-Some.ensures in
    let p = c.index.result.now in
    sym (ap (λ (m : List Region). writable (shapes m) c.args.at 1) (sym c.self.view_is) ∙ is_writable_at c.self.inside.pieces.items c.args.at c.in-Some.index p c.self.invariant.apart c.index.ensures h)
