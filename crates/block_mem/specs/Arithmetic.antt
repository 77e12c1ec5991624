-- Arithmetic on words of 32 bits. A word stands for itself or, read as signed, for a number from -2 ^ 31 to 2 ^ 31 - 1 (C11, 6.2.6.2).
use Rattle.std.specs.Prelude.{ℕ, ◌+◌, ◌-◌, ◌*◌, ◌/◌, ◌%◌, ◌^◌, Bool, cond, ◌&&◌, ◌||◌, eqb, ltb, int_div, int_rem}
use Rattle.std.specs.Int.{w32, cast_signed, cast_unsigned, int_shr}

-- a truth value as an `int` (C11, 6.5.8 and 6.5.9)
abbrev pub bit : Bool → ℕ
bit b = cond b 1 0

-- a byte as the word of the same signed number (C11, 6.3.1.3)
abbrev pub signed_byte : ℕ → ℕ
signed_byte x = cond (ltb x 128) x (x + 4294967040)

-- the difference modulo 2 ^ 32, also where the second number is no word
abbrev pub minus32 : ℕ → ℕ → ℕ
minus32 a b = (a + (2 ^ 32 - b % 2 ^ 32)) % 2 ^ 32

abbrev pub product32 : ℕ → ℕ → ℕ
product32 a b = (a * b) % 2 ^ 32

-- every bit is turned (C11, 6.5.3.3)
abbrev pub complement32 : ℕ → ℕ
complement32 a = 2 ^ 32 - 1 - a

-- the quotient cut toward zero, and the remainder that goes with it (C11, 6.5.5)
abbrev pub signed_quotient : ℕ → ℕ → ℕ
signed_quotient a b = cast_unsigned w32 (int_div (cast_signed w32 a) (cast_signed w32 b))

abbrev pub signed_remainder : ℕ → ℕ → ℕ
signed_remainder a b = cast_unsigned w32 (int_rem (cast_signed w32 a) (cast_signed w32 b))

-- the quotient is no word: the divisor is 0, or -2147483648 is divided by -1
abbrev pub has_no_quotient : ℕ → ℕ → Bool
has_no_quotient a b = eqb b 0 || (eqb a 2147483648 && eqb b 4294967295)

-- shifts, by fewer than 32 places (C11, 6.5.7); that of a negative number to the right keeps the sign, by this project's own rule
abbrev pub shifted_left : ℕ → ℕ → ℕ
shifted_left a b = (a * 2 ^ b) % 2 ^ 32

abbrev pub shifted_right : ℕ → ℕ → ℕ
shifted_right a b = a / 2 ^ b

abbrev pub shifted_right_signed : ℕ → ℕ → ℕ
shifted_right_signed a b = cast_unsigned w32 (int_shr (cast_signed w32 a) b)
