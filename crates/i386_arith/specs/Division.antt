-- Division of two words by one (Intel SDM, volume 2, under DIV and IDIV).
use Rattle.std.specs.Prelude.{ℕ, ◌+◌, ◌*◌, ◌/◌, ◌%◌, ◌==◌, nat_lt, int_div, int_rem, if◌then◌else◌, Option, Some, None}
use Rattle.std.specs.Int.{w32, w64, cast_signed, cast_unsigned}
use Rattle.i386_arith.specs.declared.division.Division.{Division}
use Rattle.i386_arith.specs.Words.{signed, is_signed_word}

-- the number of 64 bits that two words make
abbrev pub double_word : ℕ → ℕ → ℕ
double_word high low = high * 4294967296 + low

-- Quotient and remainder without signs. There are none where the divisor is 0 or the quotient takes more than 32 bits.
abbrev pub divided : ℕ → ℕ → ℕ → Option Division
divided high low divisor =
    if divisor == 0 then None
    else if nat_lt (double_word high low / divisor) 4294967296 then Some (record { quotient = double_word high low / divisor; remainder = double_word high low % divisor })
    else None

-- The same of signed numbers: the quotient is cut off toward zero, and the remainder has the dividend's sign. There are
-- none where the divisor is 0 or the quotient is no signed word.
abbrev pub signed_divided : ℕ → ℕ → ℕ → Option Division
signed_divided high low divisor =
    let dividend = cast_signed w64 (double_word high low) in
    if divisor == 0 then None
    else if is_signed_word (int_div dividend (signed divisor)) then Some (record { quotient = cast_unsigned w32 (int_div dividend (signed divisor)); remainder = cast_unsigned w32 (int_rem dividend (signed divisor)) })
    else None
