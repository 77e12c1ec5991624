use Rattle.std.proofs.Common.{◌<◌, subst, ◌∙◌}
use Rattle.typing_units.proofs.Walked.{face_more}
use Rattle.typing_units.proofs.faces.add_symbols.Goals as goal

pub symbols-preserved : goal.symbols-preserved
symbols-preserved c =
    face_more c.args.symbols.now c.args.scope.now c.args.needs.now c.symbols.face c.face_with.new.face c.symbols.number (subst (λ n. c.symbols.number < n) c.len-number-end.ensures c.symbols-test.true) c.in_ok-face_with.ensures ∙ c.symbols.invariant
