-- What an object begins with: its first bytes, and its words that are pointers at first (C11, 6.7.9, 10 and 21). What no part gives
-- is zero.
use Rattle.std.specs.Prelude.{ℕ, ◌-◌, List, [], ◌∷◌, ◌++◌, length, replicate}
use Rattle.cc_base.specs.Words.{word_bytes}
use Rattle.typing_initialisers.specs.declared.constant_pointer.Address.{Address}
use Rattle.typing_initialisers.specs.declared.constant.Constant.{Constant}
use Rattle.typing_initialisers.specs.declared.constant.Constant.TheVariants as constant
use Rattle.typing_initialisers.specs.declared.data.Data.{Data}

-- a part of an object, as an item of its initialiser gives it: bytes, or a word that points into an object
pub data Part : Type 0 where
  Bytes : (at : ℕ) (bytes : List ℕ) → Part
  Pointer : (at : ℕ) (to : Address) → Part

-- the part that a constant gives at a place
abbrev pub part_at : ℕ → Constant → Part
part_at at (constant.Byte b) = Bytes at (b ∷ [])
part_at at (constant.Word w) = Bytes at (word_bytes w)
part_at at (constant.Pointer to) = Pointer at to

-- zeros up to a place
abbrev pub padded : ℕ → List ℕ → List ℕ
padded at bytes = bytes ++ replicate (at - length bytes) 0

abbrev pub nothing : Data
nothing = record { bytes = []; words = [] }

-- one more part, behind those that there are
abbrev pub with_part : Data → Part → Data
with_part d (Bytes at bytes) = record d { bytes = padded at d.bytes ++ bytes }
with_part d (Pointer at to) =
    record { bytes = padded at d.bytes ++ (0 ∷ 0 ∷ 0 ∷ 0 ∷ []); words = d.words ++ record { offset = at; to = to } ∷ [] }

-- these parts in turn
abbrev pub with_parts : Data → List Part → Data
with_parts d [] = d
with_parts d (p ∷ ps) = with_parts (with_part d p) ps
