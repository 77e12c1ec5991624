-- Words of 32 bits as signed numbers, in two's complement (Intel SDM, volume 1, 4.2.1).
use Rattle.std.specs.Prelude.{ℕ, ℤ, pos, negsuc, ◌-◌, Bool, ◌&&◌, int_le, nat_lt, if◌then◌else◌}
use Rattle.std.specs.Int.{w32, cast_signed}

-- a word as a signed number
abbrev pub signed : ℕ → ℤ
signed word = cast_signed w32 word

-- whether a number is one of those, from -2^31 to 2^31 - 1
abbrev pub is_signed_word : ℤ → Bool
is_signed_word number = int_le (negsuc 2147483647) number && int_le number (pos 2147483647)

-- all bits the other way round
abbrev pub complement : ℕ → ℕ
complement word = 4294967295 - word

-- the sign of a word in all bits of another
abbrev pub sign_word : ℕ → ℕ
sign_word word = if nat_lt word 2147483648 then 0 else 4294967295
