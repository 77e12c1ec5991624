-- Identifiers by their bytes.
use Rattle.std.proofs.Common.{ℕ, ◌≤◌, List, [], ◌∷◌, length, arith}
use Rattle.std.specs.Prelude.{All, slice_index_or}
use Rattle.second_form.specs.SecondForm.{IsDigit, IsWordByte, IsIdentifier}

pub words_of : (name : List ℕ) → IsIdentifier name → All IsWordByte name
words_of [] h = absurd h
words_of (first ∷ rest) h = h.1

pub identifier_of : (name : List ℕ) → 1 ≤ length name → ¬ IsDigit (slice_index_or name 0 0) → All IsWordByte name → IsIdentifier name
identifier_of [] l n a = absurd (omega (arith, l))
identifier_of (first ∷ rest) l n a = (n, a)
