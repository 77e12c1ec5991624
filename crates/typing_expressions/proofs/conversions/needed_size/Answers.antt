use Rattle.std.proofs.Common.{sym, ap, ◌∙◌}
use Rattle.std.proofs.lemmas.Bool.{false≢true}
use Rattle.typing_types.specs.Operators.{is_pointer_at}
use Rattle.typing_expressions.proofs.NeededSizes.{unknown_when_too_large}
use Rattle.typing_expressions.proofs.conversions.needed_size.Goals as goal

pub returns-in-TooLarge : goal.returns-in-TooLarge
returns-in-TooLarge c =
    let told = c.in-TooLarge.ensures in
    sym (unknown_when_too_large c.args.structs.now c.args.ctype.now told.0 (λ e. false≢true (c.if-is_pointer.ensures ∙ ap is_pointer_at e)) told.1 told.2)
