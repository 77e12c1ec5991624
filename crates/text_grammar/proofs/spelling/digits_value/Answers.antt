use Rattle.std.proofs.Common.{◌≡◌, take, arith, ap, sym, ◌∙◌}
use Rattle.std.specs.Char.{digit_value}
use Rattle.std.proofs.lemmas.Int.Digits.{digits_more}
use Rattle.std.proofs.lemmas.List.{take_all}
use Rattle.text_grammar.proofs.DigitLemmas.{digit_in, next_value, next_is_less}
use Rattle.text_grammar.proofs.spelling.digits_value.Goals as goal

pub returns-in_err-digit : goal.returns-in_err-digit
returns-in_err-digit c =
    rw c.from_residual.ensures
    (λ h. c.in_err-digit.ensures.value (rw c.from.ensures (digit_in c.args.radix c.args.digits.now c.loop-byte.byte-index h.0 (omega arith))))

pub returns-in_err-checked_mul : goal.returns-in_err-checked_mul
returns-in_err-checked_mul c =
    rw c.from_residual-in_err-checked_mul.ensures
    (λ h.
    let less = next_is_less c.args.radix c.args.digits.now c.loop-byte.byte-index c.loop-byte.value c.in_ok-digit.digit c.requires.low (omega arith) c.loop-byte.invariant.same (c.in_ok-digit.ensures.value.1 ∙ ap digit_value c.from.ensures) in
    c.in_err-checked_mul.ensures (omega (arith, less, h.1)))

pub returns-in_err-value : goal.returns-in_err-value
returns-in_err-value c =
    rw c.from_residual-in_err-value.ensures
    (λ h.
    let less = next_is_less c.args.radix c.args.digits.now c.loop-byte.byte-index c.loop-byte.value c.in_ok-digit.digit c.requires.low (omega arith) c.loop-byte.invariant.same (c.in_ok-digit.ensures.value.1 ∙ ap digit_value c.from.ensures) in
    c.in_err-value.ensures (omega (arith, less, h.1, c.in_ok-checked_mul.ensures)))

pub loop-byte-preserved : goal.loop-byte-preserved
loop-byte-preserved c =
    record {
      digits = digits_more c.args.radix c.args.digits.now c.loop-byte.byte-index (omega arith) c.loop-byte.invariant.digits (rw (sym c.from.ensures) c.in_ok-digit.ensures.value.0);
      same =
          let next = next_value c.args.radix c.args.digits.now c.loop-byte.byte-index c.loop-byte.value c.in_ok-digit.digit (omega arith) c.loop-byte.invariant.same (c.in_ok-digit.ensures.value.1 ∙ ap digit_value c.from.ensures) in
          omega (arith, next, c.in_ok-value.ensures, c.in_ok-checked_mul.ensures);
      fits = omega (arith, c.in_ok-value.ensures);
    }

pub returns : goal.returns
returns c =
    let whole : take c.loop-byte.byte-index c.args.digits.now ≡ c.args.digits.now = take_all c.loop-byte.byte-index c.args.digits.now (omega arith) in
    let digits = rw whole at c.loop-byte.invariant.digits in
    let same = rw whole at c.loop-byte.invariant.same in
    ((digits, omega (arith, same, c.loop-byte.invariant.fits)), same)
