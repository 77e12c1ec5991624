use Rattle.std.proofs.Common.{ap, ◌∙◌, ℤ, to_z, of_z, w32, w64}
use Rattle.i386_arith.proofs.SignedDivision.{signed_quotient}
use Rattle.i386_arith.proofs.division.divide_signed.Goals as goal

pub returns : goal.returns
returns c =
    let divisible = c.in_ok-quotient.ensures in
    signed_quotient c.args.high c.args.low c.args.divisor c.cast_signed-dividend.result c.from-divisor.result c.in_ok-quotient.quotient c.cast_unsigned.result c.cast_unsigned-2.result
    c.ranges.high.fits c.ranges.low.fits c.ranges.divisor.fits
    (c.cast_signed-dividend.ensures ∙ ap (to_z w64) c.double_word.ensures) (c.from-divisor.ensures ∙ ap (λ (z : ℤ). to_z w32 (of_z w32 z)) c.cast_signed.ensures)
    divisible.0.0 divisible.0.1 divisible.1
    c.if-quotient-ltminus2147483648.false c.if-quotient-gt2147483647.false c.cast_unsigned.ensures c.cast_unsigned-2.ensures
