use Rattle.std.proofs.Common.{◌≡◌, rules, sym, ◌∙◌, ap}
use denote.Enum.Bare.{same_true}
use Rattle.text_grammar.specs.contracts.kind.Kind.{the_type}
use Rattle.text_grammar.specs.laws.Programs.{taken}
use Rattle.text_grammar.specs.laws.ProgramSteps.{taken_some}
use Rattle.text_parser.proofs.cursor.Cursor.next_if.Goals as goal

pub returns-in-Some : goal.returns-in-Some
returns-in-Some c =
    let same : c.in-Some.x.kind ≡ c.args.kind = sym c.kind.ensures ∙ same_true the_type (search rules) _ _ (sym c.if-eq.ensures) in
    (sym c.in-Some.ensures, ap (taken c.args.kind) (sym c.in-Some.ensures) ∙ taken_some c.args.kind c.in-Some.x same, c.skip.ensures, same)
