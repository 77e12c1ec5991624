use Rattle.text_grammar.proofs.ValueLemmas.{number_some}
use Rattle.text_grammar.proofs.values.number_value.Goals as goal

pub number-requires : goal.number-requires
number-requires c = number_some c.args.run.now c.requires
