use Rattle.std.proofs.Common.{arith}
use Rattle.bit_rows.proofs.Ones.{none_from, first_there, first_within, none_before}
use Rattle.bit_rows.proofs.words.first_one.Goals as goal

pub returns-then-rest-eq0-clause-none : goal.returns-then-rest-eq0-clause-none
returns-then-rest-eq0-clause-none c = λ k above below. none_from c.args.word c.args.from c.if-rest-eq0.true k above

pub returns-else-rest-eq0-clause-found : goal.returns-else-rest-eq0-clause-found
returns-else-rest-eq0-clause-found c =
    (omega arith, first_within c.args.word c.args.from (omega (arith, c.ranges.word.fits)) (omega (arith, c.if-rest-eq0.false)), first_there c.args.word c.args.from (omega (arith, c.ranges.word.fits)) (omega (arith, c.if-rest-eq0.false)))

pub returns-else-rest-eq0-clause-none_before : goal.returns-else-rest-eq0-clause-none_before
returns-else-rest-eq0-clause-none_before c =
    none_before c.args.word c.args.from (omega (arith, c.ranges.word.fits)) (omega (arith, c.if-rest-eq0.false))
