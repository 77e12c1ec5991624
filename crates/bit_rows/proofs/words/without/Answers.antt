use Rattle.std.proofs.lemmas.Nat.Bits.{bit_at_clear_same, bit_at_clear_other}
use Rattle.std.specs.Int.{w64}
use Rattle.bit_rows.proofs.Ones.{is_one-of, not_one}
use Rattle.bit_rows.proofs.words.without.Goals as goal

pub returns-clause-gone : goal.returns-clause-gone
returns-clause-gone c = not_one _ c.args.place (bit_at_clear_same w64 c.args.word c.args.place c.requires)

pub returns-clause-others : goal.returns-clause-others
returns-clause-others c = λ k below apart. is_one-of _ c.args.word k k (bit_at_clear_other w64 c.args.word c.args.place c.requires k below apart)
