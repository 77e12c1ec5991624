use Rattle.std.proofs.Common.{Option, subst}
use Rattle.std.specs.Prelude.{IfSome}
use Rattle.command_words.specs.declared.words.Order.{Order}
use Rattle.command_words.specs.Commands.{Fits}
use Rattle.command_words.specs.Orders.{texts, request_of}
use Rattle.mean_tests.proofs.lines.answer_of.Goals as goal

pub perform-requires-clause-fits : goal.perform-requires-clause-fits
perform-requires-clause-fits c =
    let words = texts c.as_slice.result.now in
    let P : Option Order → Type 0 = λ o. IfSome o (λ order. Fits words (request_of order)) in
    (words, subst P c.in-Some.is c.in_ok-order.ensures.some)
