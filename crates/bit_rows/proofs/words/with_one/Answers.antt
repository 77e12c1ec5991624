use Rattle.std.proofs.lemmas.Nat.Bits.{bit_at_set_same, bit_at_set_other}
use Rattle.std.specs.Int.{w64}
use Rattle.bit_rows.proofs.Ones.{is_one-of, one}
use Rattle.bit_rows.proofs.words.with_one.Goals as goal

pub returns-clause-there : goal.returns-clause-there
returns-clause-there c = one _ c.args.place (bit_at_set_same w64 c.args.word c.args.place c.requires)

pub returns-clause-others : goal.returns-clause-others
returns-clause-others c = λ k apart. is_one-of _ c.args.word k k (bit_at_set_other w64 c.args.word c.args.place c.requires k apart)
