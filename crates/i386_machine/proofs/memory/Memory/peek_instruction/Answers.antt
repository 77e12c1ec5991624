use Rattle.std.proofs.Common.{ℕ, ◌-◌, List, Option, Some, None, Bool, cond, option_map, drop, sym, ap, subst, ◌∙◌}
use Rattle.std.proofs.lemmas.List.{take_rest}
use Rattle.i386_code.specs.Reading.{decoded}
use Rattle.i386_code.specs.declared.instr.Decoded.{Decoded}
use Rattle.i386_machine.specs.declared.memory.Piece.{Piece}
use Rattle.i386_machine.specs.Pieces.{HasNone, HasAt}
use Rattle.i386_machine.specs.Regions.{Region, fetch}
use Rattle.i386_machine.proofs.Accesses.{code_none, code_at}
use Rattle.i386_machine.proofs.memory.Memory.peek_instruction.Goals as goal

pub returns-in_default : goal.returns-in_default
returns-in_default c =
    let h : HasNone c.self.inside.pieces.items c.args.at 1 = subst (λ (ps : List Piece). HasNone ps c.args.at 1) c.deref.ensures.value c.in_default.ensures in
    sym (ap (option_map decoded) (ap (λ (m : List Region). fetch m c.args.at) (sym c.self.view_is) ∙ code_none c.self.inside.pieces.items c.args.at h))

pub returns-then-not-piece : goal.returns-then-not-piece
returns-then-not-piece c =
    let h : HasAt c.self.inside.pieces.items c.args.at 1 c.in-Some.index = subst (λ (ps : List Piece). HasAt ps c.args.at 1 c.in-Some.index) c.deref.ensures.value c.in-Some.ensures in
    let p = c.index-piece.result.now in
    let found = code_at c.self.inside.pieces.items c.args.at c.in-Some.index p c.self.invariant.apart c.index-piece.ensures h in
    let chosen : Bool → Option (List ℕ) = λ b. cond b (Some (drop (c.args.at - p.base) p.bytes.items)) None in
    sym (ap (option_map decoded) (ap (λ (m : List Region). fetch m c.args.at) (sym c.self.view_is) ∙ found ∙ ap chosen c.if-not-piece.true))

pub returns : goal.returns
returns c =
    let h : HasAt c.self.inside.pieces.items c.args.at 1 c.in-Some.index = subst (λ (ps : List Piece). HasAt ps c.args.at 1 c.in-Some.index) c.deref.ensures.value c.in-Some.ensures in
    let p = c.index-piece.result.now in
    let found = code_at c.self.inside.pieces.items c.args.at c.in-Some.index p c.self.invariant.apart c.index-piece.ensures h in
    let chosen : Bool → Option (List ℕ) = λ b. cond b (Some (drop (c.args.at - p.base) p.bytes.items)) None in
    let code = take_rest c.deref-2.result.now (c.args.at - p.base) ∙ ap (drop (c.args.at - p.base)) c.deref-2.ensures.value in
    ap (λ (d : Decoded). Some d) (c.decode.ensures.value ∙ ap decoded code)
    ∙ sym (ap (option_map decoded) (ap (λ (m : List Region). fetch m c.args.at) (sym c.self.view_is) ∙ found ∙ ap chosen c.if-not-piece.false))
