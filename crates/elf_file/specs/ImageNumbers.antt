-- What the headers of an image say besides what is the same in each, and the image that they give (gABI, chapter 5, program header).
use Rattle.std.specs.Prelude.{◌≡◌, ℕ, ◌+◌, ◌<◌, ◌≤◌, ◌==◌, List, [], ◌∷◌, length, if◌then◌else◌}
use Rattle.elf_file.specs.Places.{word_at, words_bytes, Stands}
use Rattle.elf_file.specs.Written.{ZerosUpTo}
use Rattle.elf_file.specs.Object.{bytes_in}
use Rattle.elf_file.specs.Image.{first_address, end_address, offset_of, image_header}
use Rattle.elf_file.specs.declared.image.ImageParts.{ImageParts}
use Rattle.elf_file.specs.declared.image.SegmentPart.{SegmentPart}
use Rattle.elf_file.specs.declared.image_headers.Numbers.{Numbers}

-- p_type 1 (PT_LOAD), p_offset, p_vaddr, p_paddr, p_filesz, p_memsz, p_flags, p_align
abbrev pub program_words : Numbers → List ℕ
program_words n = 1 ∷ offset_of n.start ∷ n.start ∷ n.start ∷ n.file_size ∷ n.size ∷ n.flags ∷ 4096 ∷ []

-- both headers
abbrev pub image_headers : Numbers → List (List ℕ)
image_headers n = image_header n.entry ∷ words_bytes (program_words n) ∷ []

-- where the segment's bytes stand. Where there are none, the end of the headers
abbrev pub contents_at : Numbers → ℕ
contents_at n = if n.file_size == 0 then 84 else offset_of n.start

-- the numbers of an image of one segment
abbrev pub numbers_of : ℕ → SegmentPart → Numbers
numbers_of entry segment = record { entry = entry; start = segment.start; file_size = length segment.bytes; size = segment.size; flags = segment.flags }

-- the numbers that stand in a file: e_entry, p_vaddr, p_filesz, p_memsz, p_flags
abbrev pub numbers_in : List ℕ → Numbers
numbers_in file = record { entry = word_at file 24; start = word_at file 60; file_size = word_at file 68; size = word_at file 72; flags = word_at file 76 }

-- the segment has a size above 0 and no more bytes than its size, and lies from the first address up to the end of all
pub record Proper (n : Numbers) : Type 0 where
  pub some : 0 < n.size
  pub short : n.file_size ≤ n.size
  pub from : first_address ≤ n.start
  pub to : n.start + n.size ≤ end_address

-- the headers are those of an image with these numbers: e_ident, e_type and e_machine; the words behind them; the sizes and counts; the program header
pub record HeadersStand (file : List ℕ) (n : Numbers) : Type 0 where
  pub ident : Stands file 0 (0x7f ∷ 0x45 ∷ 0x4c ∷ 0x46 ∷ 1 ∷ 1 ∷ 1 ∷ 0 ∷ 0 ∷ 0 ∷ 0 ∷ 0 ∷ 0 ∷ 0 ∷ 0 ∷ 0 ∷ 2 ∷ 0 ∷ 3 ∷ 0 ∷ [])
  pub words : Stands file 20 (words_bytes (1 ∷ n.entry ∷ 52 ∷ 0 ∷ 0 ∷ []))
  pub counts : Stands file 40 (52 ∷ 0 ∷ 32 ∷ 0 ∷ 1 ∷ 0 ∷ 0 ∷ 0 ∷ 0 ∷ 0 ∷ 0 ∷ 0 ∷ [])
  pub program : Stands file 52 (words_bytes (program_words n))

-- behind the headers there are zeros up to the segment's bytes, and nothing behind these
pub record ContentsStand (file : List ℕ) (n : Numbers) : Type 0 where
  pub whole : length file ≡ contents_at n + n.file_size
  pub gap : ZerosUpTo file 84 (contents_at n)

-- the file is that of an image with these numbers
pub record ImageStands (file : List ℕ) (n : Numbers) : Type 0 where
  pub proper : Proper n
  pub headers : HeadersStand file n
  pub contents : ContentsStand file n

-- the image that a file's headers give
abbrev pub image_at : List ℕ → Numbers → ImageParts
image_at file n = record { entry = n.entry; segments = record { start = n.start; flags = n.flags; size = n.size; bytes = bytes_in file (contents_at n) n.file_size } ∷ [] }

abbrev pub image_in : List ℕ → ImageParts
image_in file = image_at file (numbers_in file)
