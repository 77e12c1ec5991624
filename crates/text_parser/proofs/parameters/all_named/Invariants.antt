use Rattle.std.proofs.Common.{◌≡◌, drop}
use Rattle.text_grammar.specs.Grammar.{all_named}
use Rattle.text_parser.proofs.parameters.all_named.Given as goal

abbrev pub invariant-parameters : goal.invariant-parameters
invariant-parameters l = all_named l.parameter-items ≡ all_named (drop l.parameter-index l.parameter-items)
