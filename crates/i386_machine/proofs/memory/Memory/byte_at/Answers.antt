use Rattle.std.proofs.Common.{◌<◌, ℕ, ◌-◌, List, Some, sym, ap, subst, ◌∙◌, length}
use Rattle.std.proofs.lemmas.List.{get_or_read}
use Rattle.i386_machine.specs.declared.memory.Piece.{Piece}
use Rattle.i386_machine.specs.Pieces.{HasNone, HasAt}
use Rattle.i386_machine.specs.Regions.{Region, byte_at}
use Rattle.i386_machine.proofs.Accesses.{load_byte_none, load_byte_at, byte_inside}
use Rattle.i386_machine.proofs.memory.Memory.byte_at.Goals as goal

pub returns-in_default : goal.returns-in_default
returns-in_default c =
    let h : HasNone c.self.inside.pieces.items c.args.at 1 = subst (λ (ps : List Piece). HasNone ps c.args.at 1) c.deref.ensures.value c.in_default.ensures in
    sym (ap (λ (m : List Region). byte_at m c.args.at) (sym c.self.view_is) ∙ load_byte_none c.self.inside.pieces.items c.args.at h)

pub returns : goal.returns
returns c =
    let h : HasAt c.self.inside.pieces.items c.args.at 1 c.in-Some.index = subst (λ (ps : List Piece). HasAt ps c.args.at 1 c.in-Some.index) c.deref.ensures.value c.in-Some.ensures in
    let p = c.index-piece.result.now in
    let found = load_byte_at c.self.inside.pieces.items c.args.at c.in-Some.index p c.self.invariant.apart c.index-piece.ensures h in
    let p_at = c.self.inside.pieces.items in
    let inside : c.args.at - p.base < length p.bytes.items = byte_inside p_at c.args.at c.in-Some.index p c.index-piece.ensures 0 h in
    ap (λ (x : ℕ). Some x) (get_or_read p.bytes.items (c.args.at - p.base) c.index.result.now inside c.index.ensures 0) ∙ sym found ∙ ap (λ (m : List Region). byte_at m c.args.at) c.self.view_is
