-- The ELF header of 32-bit files for the i386 (System V gABI, chapter 4, ELF header; Intel386 supplement, chapter 4).
use Rattle.std.specs.Prelude.{◌≡◌, ℕ, ◌≤◌, ◌⊎◌, ◌^◌, List, [], ◌∷◌, length, slice_index}
use Rattle.elf_file.specs.Places.{word_at, half_at, Stands}

-- e_entry, e_phoff, e_shoff, e_phnum, e_shnum, e_shstrndx
abbrev pub e_entry : List ℕ → ℕ
e_entry file = word_at file 24

abbrev pub e_phoff : List ℕ → ℕ
e_phoff file = word_at file 28

abbrev pub e_shoff : List ℕ → ℕ
e_shoff file = word_at file 32

abbrev pub e_phnum : List ℕ → ℕ
e_phnum file = half_at file 44

abbrev pub e_shnum : List ℕ → ℕ
e_shnum file = half_at file 48

abbrev pub e_shstrndx : List ℕ → ℕ
e_shstrndx file = half_at file 50

-- What both kinds of file have at their beginning. e_type is 1 (ET_REL) or 2 (ET_EXEC). The bytes 7 to 15 may be any.
pub record HeaderBytes (file : List ℕ) (e_type : ℕ) : Type 0 where
  pub whole : 52 ≤ length file
  pub magic : Stands file 0 (0x7f ∷ 0x45 ∷ 0x4c ∷ 0x46 ∷ [])
  pub ei_class : slice_index file 4 ≡ 1
  pub ei_data : slice_index file 5 ≡ 1
  pub ei_version : slice_index file 6 ≡ 1
  pub type : half_at file 16 ≡ e_type
  pub machine : half_at file 18 ≡ 3
  pub version : word_at file 20 ≡ 1
  pub ehsize : half_at file 40 ≡ 52

-- 0, or a power of two
abbrev pub IsAlignment : ℕ → Type 0
IsAlignment align = (align ≡ 0) ⊎ ((n : ℕ) × (align ≡ 2 ^ n))
