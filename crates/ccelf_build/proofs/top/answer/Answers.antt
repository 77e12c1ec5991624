use Rattle.std.proofs.Common.{Option, subst}
use Rattle.std.specs.Prelude.{IfSome}
use Rattle.command_words.specs.declared.words.Order.{Order}
use Rattle.command_words.specs.Commands.{Fits}
use Rattle.command_words.specs.Orders.{texts, request_of}
use Rattle.ccelf_build.proofs.Raising.{does_honest}
use Rattle.ccelf_build.proofs.top.answer.Goals as goal

pub perform-requires-clause-fits : goal.perform-requires-clause-fits
perform-requires-clause-fits g c =
    let words = texts c.args.words.now in
    let P : Option Order → Type 0 = λ o. IfSome o (λ order. Fits words (request_of order)) in
    (words, subst P c.in-Some.is c.in-Ok.ensures.some)

pub returns-clause-words : goal.returns-clause-words
returns-clause-words g c = λ e r f. (does_honest (request_of c.in-Some.order) _ _ c.perform.result c.perform.ensures).1 e

pub returns-clause-tells : goal.returns-clause-tells
returns-clause-tells g c = (does_honest (request_of c.in-Some.order) _ _ c.perform.result c.perform.ensures).0
