-- Sums of sizes of objects, each rounded up to a multiple of 4. They are limited for the objects that a unit defines, and for the
-- locals of a function that are not `register`.
use Rattle.std.specs.Prelude.{ℕ, ◌+◌, min, Bool, nat_lt, Option}
use Rattle.std.specs.Option.{option_map_or}
use Rattle.std.specs.Int.{next_multiple_of}

abbrev pub greatest_sum : ℕ
greatest_sum = 16777216

-- a sum past the greatest is told as the greatest plus 1
abbrev pub with_size : ℕ → ℕ → ℕ
with_size sum size = min (sum + next_multiple_of size 4) (greatest_sum + 1)

-- what has no size adds nothing: a rule is broken already
abbrev pub with_maybe_size : ℕ → Option ℕ → ℕ
with_maybe_size sum size = option_map_or (with_size sum) size sum

abbrev pub is_past_sum : ℕ → Bool
is_past_sum sum = nat_lt greatest_sum sum
