-- Fields of what stands at a place of a file.
use Rattle.std.proofs.Common.{◌≡◌, ap, ◌∙◌, ℕ, ◌+◌, ◌*◌, ◌<◌, ◌≤◌, List, length, get_or, arith}
use Rattle.elf_file.specs.Places.{half_at, Stands}
use Rattle.elf_file.proofs.StandsFacts.{stands_get}

pub byte_stands : (file bytes : List ℕ) (at i : ℕ) → Stands file at bytes → i < length bytes → get_or file (at + i) 0 ≡ get_or bytes i 0
byte_stands file bytes at i s h = stands_get file bytes at i 0 s h

-- a number of 16 bits of what stands is one of the file
pub half_stands : (file bytes : List ℕ) (at i : ℕ) → Stands file at bytes → i + 2 ≤ length bytes → half_at file (at + i) ≡ half_at bytes i
half_stands file bytes at i s h =
    let one : at + i + 1 ≡ at + (i + 1) = omega arith in
    ap (λ (n : ℕ). n + 256 * get_or file (at + i + 1) 0) (stands_get file bytes at i 0 s (omega arith))
    ∙ ap (λ (n : ℕ). get_or bytes i 0 + 256 * n) (ap (λ (n : ℕ). get_or file n 0) one ∙ stands_get file bytes at (i + 1) 0 s (omega arith))
