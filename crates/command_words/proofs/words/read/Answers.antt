use Rattle.std.proofs.Common.{codes, string_bytes, sym, ◌∙◌}
use Rattle.std.specs.Prelude.{option_map}
use Rattle.command_words.specs.Orders.{texts, request_of}
use Rattle.command_words.proofs.CommandFacts.{begin_with, compile_only, show_only, none_fits}
use Rattle.command_words.proofs.words.read.Goals as goal

pub returns-then-eq-clause-only : goal.returns-then-eq-clause-only
returns-then-eq-clause-only c =
    let words = begin_with string_bytes c.args.words.now c.in-Some.rest.now c.in-Some.command.now c.as_str-command.result.now (codes "compile") c.in-Some.ensures.cases.0 c.as_str-command.ensures.value (sym c.eq.ensures ∙ c.if-eq.true) in
    compile_only (texts c.args.words.now) (texts c.in-Some.rest.now) (option_map request_of c.read_compile.result) words c.read_compile.ensures.only

pub returns-then-eq-clause-none : goal.returns-then-eq-clause-none
returns-then-eq-clause-none c = none_fits (texts c.args.words.now) c.read_compile.result (returns-then-eq-clause-only c)

pub returns-then-eq-4-clause-only : goal.returns-then-eq-4-clause-only
returns-then-eq-4-clause-only c =
    let words = begin_with string_bytes c.args.words.now c.in-Some.rest.now c.in-Some.command.now c.as_str-command.result.now (codes "show") c.in-Some.ensures.cases.0 c.as_str-command.ensures.value (sym c.eq-4.ensures ∙ c.if-eq-4.true) in
    show_only (texts c.args.words.now) (texts c.in-Some.rest.now) (option_map request_of c.read_show.result) words c.read_show.ensures.only

pub returns-then-eq-4-clause-none : goal.returns-then-eq-4-clause-none
returns-then-eq-4-clause-none c = none_fits (texts c.args.words.now) c.read_show.result (returns-then-eq-4-clause-only c)
