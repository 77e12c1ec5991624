-- Bytes four by four, and how they are kept.
use Rattle.std.specs.Prelude.{◌≡◌, ℕ, ◌+◌, ◌/◌, ◌%◌, ◌<◌, ◌≤◌, ◌^◌, cond, eqb, List, length, get_or, map, Option, Some, None, sum_by}
use Rattle.std.specs.List.{range_with_len}
use Rattle.cc_base.specs.Words.{join}
use Rattle.block_mem.specs.declared.value.Byte.{Byte}
use Rattle.block_mem.specs.declared.value.Byte.TheVariants.{Unset, Plain}
use Rattle.block_mem.specs.declared.quads.Cell.{Cell}
use Rattle.block_mem.specs.declared.quads.Cell.TheVariants as cell
use Rattle.block_mem.specs.declared.quads.Word.{Word}
use Rattle.block_mem.specs.declared.quads.Word.TheVariants.{Simple, Mixed}
use Rattle.block_mem.specs.declared.quads.Quad.{Quad}

abbrev pub byte_of_cell : Cell → Byte
byte_of_cell cell.Unset = Unset
byte_of_cell (cell.Plain x) = Plain x

abbrev pub unset_quad : Quad
unset_quad = record { zero = Unset; one = Unset; two = Unset; three = Unset }

abbrev pub quad_of_cells : Cell → Cell → Cell → Cell → Quad
quad_of_cells p q r s = record { zero = byte_of_cell p; one = byte_of_cell q; two = byte_of_cell r; three = byte_of_cell s }

abbrev pub quad_of_plain : ℕ → ℕ → ℕ → ℕ → Quad
quad_of_plain a b c d = record { zero = Plain a; one = Plain b; two = Plain c; three = Plain d }

-- one byte of four, and four with another one there
abbrev pub pick : ℕ → Quad → Byte
pick k q = cond (eqb k 0) q.zero (cond (eqb k 1) q.one (cond (eqb k 2) q.two q.three))

abbrev pub with_byte : ℕ → Byte → Quad → Quad
with_byte k x q = cond (eqb k 0) (record q { zero = x }) (cond (eqb k 1) (record q { one = x }) (cond (eqb k 2) (record q { two = x }) (record q { three = x })))

-- the bytes of a word, where these are the quads of the mixed ones
abbrev pub quad_in : List Quad → Word → Quad
quad_in mixed (Simple p q r s) = quad_of_cells p q r s
quad_in mixed (Mixed a b c d) = get_or mixed (join a b c d) unset_quad

abbrev pub unset_word : Word
unset_word = Simple cell.Unset cell.Unset cell.Unset cell.Unset

-- the number of a mixed word's quad
abbrev pub entry_of : Word → Option ℕ
entry_of (Simple p q r s) = None
entry_of (Mixed a b c d) = Some (join a b c d)

abbrev pub one_if_simple : Word → ℕ
one_if_simple (Simple p q r s) = 1
one_if_simple (Mixed a b c d) = 0

-- each mixed word has a quad of its own, there are no others, and there is room for those of all words
pub record IsPacked (words : List Word) (mixed : List Quad) (capacity : ℕ) : Type 0 where
  pub within : (w e : ℕ) → entry_of (get_or words w unset_word) ≡ Some e → e < length mixed
  pub alone : (v w e : ℕ) → entry_of (get_or words v unset_word) ≡ Some e → entry_of (get_or words w unset_word) ≡ Some e → v ≡ w
  pub count : length mixed + sum_by one_if_simple words ≡ length words
  pub room : length words ≤ capacity
  pub few : length words ≤ 2 ^ 30

-- the byte at an offset
abbrev pub byte_in : List Quad → ℕ → Byte
byte_in qs i = pick (i % 4) (get_or qs (i / 4) unset_quad)

-- the first bytes of the quads
abbrev pub bytes_of : List Quad → ℕ → List Byte
bytes_of qs size = map (byte_in qs) (range_with_len 0 size)
