-- Words of 32 bits and their four bytes, the lowest first (System V gABI, ELF32, data representation; SDM volume 1, 1.3.1).
use Rattle.std.specs.Prelude.{◌≡◌, ℕ, zero, suc, ◌+◌, ◌*◌, ◌/◌, ◌-◌, ◌%◌, ◌^◌, ◌<◌, List, [], ◌∷◌}
use Rattle.std.proofs.Common.{arith}

-- the byte number k of a word
abbrev pub byte_of : ℕ → ℕ → ℕ
byte_of w zero = w % 256
byte_of w (suc k) = byte_of (w / 256) k

-- the word of four bytes
abbrev pub join : ℕ → ℕ → ℕ → ℕ → ℕ
join a b c d = a + 256 * (b + 256 * (c + 256 * d))

-- the four bytes of a word
abbrev pub word_bytes : ℕ → List ℕ
word_bytes w = byte_of w 0 ∷ byte_of w 1 ∷ byte_of w 2 ∷ byte_of w 3 ∷ []

-- a sum and a difference of words
abbrev pub add32 : ℕ → ℕ → ℕ
add32 a b = (a + b) % 4294967296

abbrev pub sub32 : ℕ → ℕ → ℕ
sub32 a b = (a + (4294967296 - b)) % 4294967296

pub join-word_bytes : (w : ℕ) → w < 2 ^ 32 → join (byte_of w 0) (byte_of w 1) (byte_of w 2) (byte_of w 3) ≡ w
join-word_bytes w small = omega arith

pub byte_of-small : (w k : ℕ) → byte_of w k < 256
byte_of-small w zero = omega arith
byte_of-small w (suc k) = byte_of-small (w / 256) k
