use Rattle.std.proofs.Common.{◌≡◌, take, arith}
use Rattle.std.proofs.lemmas.Grind.{common_steps}
use Rattle.text_grammar.proofs.ValueLemmas.{reads_digits}
use Rattle.text_grammar.proofs.values.octal_value.Goals as goal

pub unreachable-requires : goal.unreachable-requires
unreachable-requires c =
    let most : take c.min.result c.args.text.now ≡ take 3 c.args.text.now = grind (arith, common_steps) in
    c.in-None.ensures (reads_digits 8 c.octal_count.result (take c.min.result c.args.text.now) c.octal_count.ensures.value (rw most c.requires))
