use Rattle.text_grammar.proofs.ValueLemmas.{reads_digits}
use Rattle.text_grammar.proofs.values.hex_value.Goals as goal

pub unreachable-requires : goal.unreachable-requires
unreachable-requires c = c.in-None.ensures (reads_digits 16 c.hex_count.result c.args.text.now c.hex_count.ensures.value c.requires)
