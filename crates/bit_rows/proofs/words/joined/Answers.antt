use Rattle.std.proofs.Common.{arith}
use Rattle.bit_rows.proofs.Ones.{is_one-or, all_there, some_new}
use Rattle.bit_rows.proofs.words.joined.Goals as goal

pub returns-then-new-eq0-clause-none : goal.returns-then-new-eq0-clause-none
returns-then-new-eq0-clause-none c = all_there c.args.word c.args.added (omega (arith, c.ranges.word.fits)) c.if-new-eq0.true

pub returns-else-new-eq0-clause-ones : goal.returns-else-new-eq0-clause-ones
returns-else-new-eq0-clause-ones c = λ k below. is_one-or c.args.word c.args.added k

pub returns-else-new-eq0-clause-new : goal.returns-else-new-eq0-clause-new
returns-else-new-eq0-clause-new c =
    some_new c.args.word c.args.added (omega (arith, c.ranges.word.fits)) (omega (arith, c.ranges.added.fits)) (omega (arith, c.if-new-eq0.false))
