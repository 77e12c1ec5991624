-- Images: executable files of one segment (gABI, chapter 4, ELF header, and chapter 5, program header).
use Rattle.std.specs.Prelude.{◌≡◌, ℕ, ◌+◌, ◌-◌, ◌<◌, ◌≤◌, ◌^◌, ◌==◌, List, [], ◌∷◌, ◌++◌, length, if◌then◌else◌}
use Rattle.elf_file.specs.Places.{words_bytes, Stands}
use Rattle.elf_file.specs.Written.{ZerosUpTo}
use Rattle.elf_file.specs.declared.image.ImageParts.{ImageParts}
use Rattle.elf_file.specs.declared.image.SegmentPart.{SegmentPart}

-- the address of the beginning of the file
abbrev pub file_address : ℕ
file_address = 0x08048000

-- the first address that a segment may have
abbrev pub first_address : ℕ
first_address = 0x08049000

-- the end of all addresses of an image
abbrev pub end_address : ℕ
end_address = 0x09048000

-- the place in the file of what stands at an address
abbrev pub offset_of : ℕ → ℕ
offset_of address = address - file_address

-- e_ident: ELF, 32 bits, the low byte first, version 1. Then e_type 2 (ET_EXEC), e_machine 3 (EM_386); e_version 1, e_entry, e_phoff 52, e_shoff, e_flags;
-- e_ehsize 52, e_phentsize 32, e_phnum 1, and nothing of sections
abbrev pub image_header : ℕ → List ℕ
image_header entry = (0x7f ∷ 0x45 ∷ 0x4c ∷ 0x46 ∷ 1 ∷ 1 ∷ 1 ∷ 0 ∷ 0 ∷ 0 ∷ 0 ∷ 0 ∷ 0 ∷ 0 ∷ 0 ∷ 0 ∷ 2 ∷ 0 ∷ 3 ∷ 0 ∷ [])
    ++ (words_bytes (1 ∷ entry ∷ 52 ∷ 0 ∷ 0 ∷ []) ++ (52 ∷ 0 ∷ 32 ∷ 0 ∷ 1 ∷ 0 ∷ 0 ∷ 0 ∷ 0 ∷ 0 ∷ 0 ∷ 0 ∷ []))

-- p_type 1 (PT_LOAD), p_offset, p_vaddr, p_paddr, p_filesz, p_memsz, p_flags, p_align
abbrev pub program_header : SegmentPart → List ℕ
program_header segment = words_bytes (1 ∷ offset_of segment.start ∷ segment.start ∷ segment.start ∷ length segment.bytes ∷ segment.size ∷ segment.flags ∷ 4096 ∷ [])

-- There is one segment. It has a size above 0 and no more bytes than its size, and lies from the first address up to the end of all.
pub record WellFormedImage (parts : ImageParts) : Type 0 where
  pub segment : SegmentPart
  pub one : parts.segments ≡ segment ∷ []
  pub some : 0 < segment.size
  pub short : length segment.bytes ≤ segment.size
  pub from : first_address ≤ segment.start
  pub to : segment.start + segment.size ≤ end_address

-- the numbers that nothing else bounds have 32 bits
pub record ImageInRange (parts : ImageParts) (segment : SegmentPart) : Type 0 where
  pub entry : parts.entry < 2 ^ 32
  pub flags : segment.flags < 2 ^ 32

-- where the file ends: behind the segment's bytes, and where it has none behind the headers
abbrev pub image_end : SegmentPart → ℕ
image_end segment = if length segment.bytes == 0 then 84 else offset_of segment.start + length segment.bytes

-- Both headers stand at the beginning, the segment's bytes at their place, and zeros between them.
pub record WrittenBySegment (parts : ImageParts) (segment : SegmentPart) (file : List ℕ) : Type 0 where
  pub header : Stands file 0 (image_header parts.entry)
  pub program : Stands file 52 (program_header segment)
  pub gap : 0 < length segment.bytes → ZerosUpTo file 84 (offset_of segment.start)
  pub bytes : 0 < length segment.bytes → Stands file (offset_of segment.start) segment.bytes
  pub length_is : length file ≡ image_end segment

-- the file that is written for these parts
abbrev pub WrittenImage : ImageParts → List ℕ → Type 0
WrittenImage parts file = (segment : SegmentPart) × (parts.segments ≡ segment ∷ []) × WrittenBySegment parts segment file

-- the file is the one that is written for these parts
pub record IsImageOf (parts : ImageParts) (file : List ℕ) : Type 0 where
  pub well_formed : WellFormedImage parts
  pub in_range : ImageInRange parts well_formed.segment
  pub written : WrittenImage parts file
