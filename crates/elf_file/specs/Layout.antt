-- Where the parts of a written object stand, and the tables that say so (gABI, chapter 4: ELF header, sections, string table).
use Rattle.std.specs.Prelude.{ℕ, ◌+◌, ◌*◌, ◌/◌, List, [], ◌∷◌, ◌++◌}
use Rattle.std.specs.List.{flat_map}
use Rattle.elf_file.specs.Places.{words_bytes}
use Rattle.elf_file.specs.declared.layout.Sizes.{Sizes}
use Rattle.elf_file.specs.declared.layout.Places.{Places}

-- the next multiple of 4
abbrev pub aligned_4 : ℕ → ℕ
aligned_4 n = (n + 3) / 4 * 4

-- The contents follow the header, each at the next multiple of its alignment, and the section headers follow them. The text stands at 64.
abbrev pub fixed_at : Sizes → ℕ
fixed_at sizes = aligned_4 (64 + sizes.text)

abbrev pub held_at : Sizes → ℕ
held_at sizes = aligned_4 (fixed_at sizes + sizes.fixed)

abbrev pub zeros_at : Sizes → ℕ
zeros_at sizes = aligned_4 (held_at sizes + sizes.held)

-- The zeroed bytes have a place, and no bytes in the file. The relocations of the text stand there.
abbrev pub fixed_relocs_at : Sizes → ℕ
fixed_relocs_at sizes = zeros_at sizes + 8 * sizes.text_relocs

abbrev pub held_relocs_at : Sizes → ℕ
held_relocs_at sizes = fixed_relocs_at sizes + 8 * sizes.fixed_relocs

abbrev pub symbols_at : Sizes → ℕ
symbols_at sizes = held_relocs_at sizes + 8 * sizes.held_relocs

abbrev pub strings_at : Sizes → ℕ
strings_at sizes = symbols_at sizes + 16 * sizes.symbols

abbrev pub names_at : Sizes → ℕ
names_at sizes = strings_at sizes + sizes.strings

abbrev pub headers_at : Sizes → ℕ
headers_at sizes = aligned_4 (names_at sizes + 84)

abbrev pub file_length : Sizes → ℕ
file_length sizes = headers_at sizes + 440

abbrev pub places_of : Sizes → Places
places_of sizes = record {
  fixed = fixed_at sizes;
  held = held_at sizes;
  zeros = zeros_at sizes;
  fixed_relocs = fixed_relocs_at sizes;
  held_relocs = held_relocs_at sizes;
  symbols = symbols_at sizes;
  strings = strings_at sizes;
  names = names_at sizes;
  headers = headers_at sizes;
}

-- e_ident: ELF, 32 bits, the low byte first, version 1. Then e_type 1 (ET_REL), e_machine 3 (EM_386); e_version 1, e_entry, e_phoff, e_shoff, e_flags;
-- e_ehsize 52, e_phentsize 0, e_phnum 0, e_shentsize 40, e_shnum 11, e_shstrndx 10
abbrev pub file_header : ℕ → List ℕ
file_header headers = (0x7f ∷ 0x45 ∷ 0x4c ∷ 0x46 ∷ 1 ∷ 1 ∷ 1 ∷ 0 ∷ 0 ∷ 0 ∷ 0 ∷ 0 ∷ 0 ∷ 0 ∷ 0 ∷ 0 ∷ 1 ∷ 0 ∷ 3 ∷ 0 ∷ [])
    ++ (words_bytes (1 ∷ 0 ∷ 0 ∷ headers ∷ 0 ∷ []) ++ (52 ∷ 0 ∷ 0 ∷ 0 ∷ 0 ∷ 0 ∷ 40 ∷ 0 ∷ 11 ∷ 0 ∷ 10 ∷ 0 ∷ []))

-- the section headers: sh_name, sh_type, sh_flags, sh_addr, sh_offset, sh_size, sh_link, sh_info, sh_addralign, sh_entsize
abbrev pub section_headers : Sizes → List (List ℕ)
section_headers sizes =
    (0 ∷ 0 ∷ 0 ∷ 0 ∷ 0 ∷ 0 ∷ 0 ∷ 0 ∷ 0 ∷ 0 ∷ [])
    ∷ (1 ∷ 1 ∷ 6 ∷ 0 ∷ 64 ∷ sizes.text ∷ 0 ∷ 0 ∷ 16 ∷ 0 ∷ [])
    ∷ (7 ∷ 1 ∷ 2 ∷ 0 ∷ fixed_at sizes ∷ sizes.fixed ∷ 0 ∷ 0 ∷ 4 ∷ 0 ∷ [])
    ∷ (15 ∷ 1 ∷ 3 ∷ 0 ∷ held_at sizes ∷ sizes.held ∷ 0 ∷ 0 ∷ 4 ∷ 0 ∷ [])
    ∷ (21 ∷ 8 ∷ 3 ∷ 0 ∷ zeros_at sizes ∷ sizes.zeros ∷ 0 ∷ 0 ∷ 4 ∷ 0 ∷ [])
    ∷ (26 ∷ 9 ∷ 0 ∷ 0 ∷ zeros_at sizes ∷ (8 * sizes.text_relocs) ∷ 8 ∷ 1 ∷ 4 ∷ 8 ∷ [])
    ∷ (36 ∷ 9 ∷ 0 ∷ 0 ∷ fixed_relocs_at sizes ∷ (8 * sizes.fixed_relocs) ∷ 8 ∷ 2 ∷ 4 ∷ 8 ∷ [])
    ∷ (48 ∷ 9 ∷ 0 ∷ 0 ∷ held_relocs_at sizes ∷ (8 * sizes.held_relocs) ∷ 8 ∷ 3 ∷ 4 ∷ 8 ∷ [])
    ∷ (58 ∷ 2 ∷ 0 ∷ 0 ∷ symbols_at sizes ∷ (16 * sizes.symbols) ∷ 9 ∷ sizes.locals ∷ 4 ∷ 16 ∷ [])
    ∷ (66 ∷ 3 ∷ 0 ∷ 0 ∷ strings_at sizes ∷ sizes.strings ∷ 0 ∷ 0 ∷ 1 ∷ 0 ∷ [])
    ∷ (74 ∷ 3 ∷ 0 ∷ 0 ∷ names_at sizes ∷ 84 ∷ 0 ∷ 0 ∷ 1 ∷ 0 ∷ [])
    ∷ []

unfoldable pub section_table : Sizes → List ℕ
section_table sizes = flat_map words_bytes (section_headers sizes)
