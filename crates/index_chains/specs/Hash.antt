-- The hash of a symbol's name: `elf_hash` of the System V gABI, chapter 5, "Hash Table".
use Rattle.std.specs.Prelude.{ℕ, ◌+◌, ◌-◌, ◌*◌, ◌/◌, ◌%◌, ◌^◌, List, fold, bit_and, bit_xor, ◌==◌, if◌then◌else◌}

-- the hash after one more byte c: h = (h << 4) + c; if (g = h & 0xf0000000) h ^= g >> 24; h &= ~g
abbrev pub hash_step : ℕ → ℕ → ℕ
hash_step hash byte =
    let sum = (hash * 2 ^ 4 + byte) % 2 ^ 32 in
    let high = bit_and sum 0xF0000000 in
    bit_and (if high == 0 then sum else bit_xor sum (high / 2 ^ 24)) (0xFFFFFFFF - high)

-- from 0, over all bytes of the name
abbrev pub hash_of : List ℕ → ℕ
hash_of name = fold hash_step 0 name
