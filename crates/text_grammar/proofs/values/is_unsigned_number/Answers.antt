use Rattle.text_grammar.proofs.ValueLemmas.{number_some}
use Rattle.text_grammar.proofs.values.is_unsigned_number.Goals as goal

pub is_unsigned-requires : goal.is_unsigned-requires
is_unsigned-requires c = number_some c.args.run.now c.requires
