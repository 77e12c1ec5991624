-- Numbers as text.
use Rattle.std.specs.Prelude.{ℕ, ◌-◌, List, ◌++◌, length, replicate, false}
use Rattle.std.specs.Fmt.{digits}

-- the hexadecimal text in lower case, with zeros in front up to this many digits
abbrev pub hex_of : ℕ → ℕ → List ℕ
hex_of value least = replicate (least - length (digits 16 false value)) 48 ++ digits 16 false value
