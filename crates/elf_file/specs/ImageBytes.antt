-- An image and the bytes of its file, for any program headers (System V gABI, chapter 5, program header).
use Rattle.std.specs.Prelude.{◌≡◌, ◌≢◌, ℕ, ◌+◌, ◌*◌, ◌%◌, ◌^◌, ◌<◌, ◌≤◌, ◌==◌, nat_lt, ◌&&◌, Bool, List, length, map, slice_index_or}
use Rattle.std.specs.List.{filter, range_with_len}
use Rattle.elf_file.specs.Places.{word_at, half_at, Stands}
use Rattle.elf_file.specs.HeaderBytes.{HeaderBytes, IsAlignment, e_entry, e_phoff, e_phnum}
use Rattle.elf_file.specs.ImageView.{segment_of}
use Rattle.elf_file.specs.declared.image.ImageParts.{ImageParts}
use Rattle.elf_file.specs.declared.image.SegmentPart.{SegmentPart}

pub record ProgramHeader : Type 0 where
  pub p_type : ℕ
  pub p_offset : ℕ
  pub p_vaddr : ℕ
  pub p_filesz : ℕ
  pub p_memsz : ℕ
  pub p_flags : ℕ
  pub p_align : ℕ

-- the program header that stands at a place of the file
abbrev pub program_header_at : List ℕ → ℕ → ProgramHeader
program_header_at file at = record {
  p_type = word_at file at;
  p_offset = word_at file (at + 4);
  p_vaddr = word_at file (at + 8);
  p_filesz = word_at file (at + 16);
  p_memsz = word_at file (at + 20);
  p_flags = word_at file (at + 24);
  p_align = word_at file (at + 28);
}

-- the program headers, counted from 0
abbrev pub program_at : List ℕ → ℕ → ProgramHeader
program_at file k = program_header_at file (e_phoff file + 32 * k)

abbrev pub programs_in : List ℕ → List ProgramHeader
programs_in file = map (program_at file) (range_with_len 0 (e_phnum file))

-- of type ET_EXEC, with 1 to 64 program headers of 32 bytes that have room in the file
pub record ImageHeaderBytes (file : List ℕ) : Type 0 where
  pub header : HeaderBytes file 2
  pub phentsize : half_at file 42 ≡ 32
  pub some : 1 ≤ e_phnum file
  pub few : e_phnum file ≤ 64
  pub table : e_phoff file + 32 * e_phnum file ≤ length file

-- PT_LOAD
abbrev pub IsLoadable : ProgramHeader → Type 0
IsLoadable h = h.p_type ≡ 1

-- A loadable header has no more bytes in the file than in memory, and they are in the file. Its place in the file and its address agree modulo its alignment. It
-- ends within the address space, and begins behind each loadable one before it.
pub record LoadableFits (file : List ℕ) (k : ℕ) (h : ProgramHeader) : Type 0 where
  pub short : h.p_filesz ≤ h.p_memsz
  pub inside : 0 < h.p_filesz → h.p_offset + h.p_filesz ≤ length file
  pub aligned : IsAlignment h.p_align
  pub congruent : 0 < h.p_align → h.p_offset % h.p_align ≡ h.p_vaddr % h.p_align
  pub ends : h.p_vaddr + h.p_memsz ≤ 2 ^ 32
  pub rises : (j : ℕ) → j < k → IsLoadable (program_at file j) → (program_at file j).p_vaddr + (program_at file j).p_memsz ≤ h.p_vaddr

-- no PT_DYNAMIC, PT_INTERP or PT_TLS. Other types that are not loadable say nothing of the image
pub record ProgramFits (file : List ℕ) (k : ℕ) : Type 0 where
  pub no_dynamic : (program_at file k).p_type ≢ 2
  pub no_interp : (program_at file k).p_type ≢ 3
  pub no_tls : (program_at file k).p_type ≢ 7
  pub loadable : IsLoadable (program_at file k) → LoadableFits file k (program_at file k)

-- the loadable headers that are not empty, which are the segments
abbrev pub is_segment : ProgramHeader → Bool
is_segment h = (h.p_type == 1) && nat_lt 0 h.p_memsz

abbrev pub segments_in : List ℕ → List ProgramHeader
segments_in file = filter is_segment (programs_in file)

-- a segment is as its header says
pub record SegmentBytes (file : List ℕ) (h : ProgramHeader) (segment : SegmentPart) : Type 0 where
  pub start : segment.start ≡ h.p_vaddr
  pub flags : segment.flags ≡ h.p_flags
  pub size : segment.size ≡ h.p_memsz
  pub count : length segment.bytes ≡ h.p_filesz
  pub bytes : Stands file h.p_offset segment.bytes

abbrev pub no_program : ProgramHeader
no_program = record { p_type = 0; p_offset = 0; p_vaddr = 0; p_filesz = 0; p_memsz = 0; p_flags = 0; p_align = 0 }

-- The file is one of this image.
pub record ImageBytes (image : ImageParts) (file : List ℕ) : Type 0 where
  pub header : ImageHeaderBytes file
  pub programs : (k : ℕ) → k < e_phnum file → ProgramFits file k
  pub entry : image.entry ≡ e_entry file
  pub count : length image.segments ≡ length (segments_in file)
  pub segments : (k : ℕ) → k < length image.segments → SegmentBytes file (slice_index_or (segments_in file) k no_program) (segment_of image k)
