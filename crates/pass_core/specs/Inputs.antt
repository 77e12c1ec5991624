-- The inputs of runs.
use Rattle.std.specs.Prelude.{◌≡◌, ◌<◌, ◌⊎◌, ℕ, List, All}

-- an input is a list of bytes
abbrev pub AreBytes : List ℕ → Type 0
AreBytes input = All (λ byte. byte < 256) input

-- the word that a run gets where it asks for a byte: the byte, or -1 where none is left
abbrev pub minus_one : ℕ
minus_one = 4294967295

abbrev pub IsAnswer : ℕ → Type 0
IsAnswer word = (word < 256) ⊎ (word ≡ minus_one)
