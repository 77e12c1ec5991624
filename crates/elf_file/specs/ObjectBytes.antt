-- An object and the bytes of its file, for any sections in any order (System V gABI, chapter 4: ELF header, sections, string table, symbol table, relocation).
use Rattle.std.specs.Prelude.{◌≡◌, ◌≢◌, ℕ, ◌+◌, ◌*◌, ◌/◌, ◌%◌, ◌<◌, ◌≤◌, ◌==◌, ◌||◌, ◌&&◌, ◌⊎◌, ◌↔◌, ◌++◌, Bool, true, false, List, [], ◌∷◌, length, slice_index, slice_index_or, All, AllPairs, if◌then◌else◌}
use Rattle.std.specs.List.{flat_map}
use Rattle.elf_file.specs.Places.{word_at, half_at, Stands}
use Rattle.elf_file.specs.Written.{kind_number, bind_number, reloc_number, ZerosUpTo}
use Rattle.elf_file.specs.WellFormed.{IsNamed}
use Rattle.elf_file.specs.Object.{Section, Object, section_of, symbol_of, HasBytes, place_of}
use Rattle.elf_file.specs.HeaderBytes.{HeaderBytes, IsAlignment, e_shoff, e_shnum, e_shstrndx}
use Rattle.elf_file.specs.declared.parts.SymbolPart.{SymbolPart}
use Rattle.elf_file.specs.declared.parts.RelocPart.{RelocPart}
use Rattle.elf_file.specs.declared.parts.SymbolKind.TheVariants.{File}
use Rattle.elf_file.specs.declared.parts.SymbolPlace.TheVariants.{Undefined, At, Absolute}
use Rattle.elf_file.specs.declared.parts.KeptKind.{KeptKind}
use Rattle.elf_file.specs.declared.parts.KeptKind.TheVariants.{Dropped, Text, Fixed, Held, Zeros}

-- of type ET_REL, with 1 to 65,279 section headers of 40 bytes that have room in the file, one of which is that of the sections' names
pub record ObjectHeaderBytes (file : List ℕ) : Type 0 where
  pub header : HeaderBytes file 1
  pub shentsize : half_at file 46 ≡ 40
  pub some : 1 ≤ e_shnum file
  pub few : e_shnum file ≤ 65279
  pub names : e_shstrndx file < e_shnum file
  pub table : e_shoff file + 40 * e_shnum file ≤ length file

pub record SectionHeader : Type 0 where
  pub sh_type : ℕ
  pub sh_flags : ℕ
  pub sh_offset : ℕ
  pub sh_size : ℕ
  pub sh_link : ℕ
  pub sh_info : ℕ
  pub sh_addralign : ℕ
  pub sh_entsize : ℕ

-- the section header that stands at a place of the file
abbrev pub section_header_at : List ℕ → ℕ → SectionHeader
section_header_at file at = record {
  sh_type = word_at file (at + 4);
  sh_flags = word_at file (at + 8);
  sh_offset = word_at file (at + 16);
  sh_size = word_at file (at + 20);
  sh_link = word_at file (at + 24);
  sh_info = word_at file (at + 28);
  sh_addralign = word_at file (at + 32);
  sh_entsize = word_at file (at + 36);
}

-- the sections, counted from 0. Section 0 is SHT_NULL and has no flags, whatever its header says
abbrev pub section_at : List ℕ → ℕ → SectionHeader
section_at file k = let header = section_header_at file (e_shoff file + 40 * k) in
    if k == 0 then record header { sh_type = 0; sh_flags = 0 } else header

-- SHF_WRITE, SHF_ALLOC, SHF_EXECINSTR
abbrev pub is_writable : SectionHeader → Bool
is_writable h = h.sh_flags % 2 == 1

abbrev pub is_allocated : SectionHeader → Bool
is_allocated h = h.sh_flags / 2 % 2 == 1

abbrev pub is_executable : SectionHeader → Bool
is_executable h = h.sh_flags / 4 % 2 == 1

-- What is in memory is kept, where it is SHT_PROGBITS or SHT_NOBITS: zeroed bytes, text, writable bytes, and the others are read-only.
abbrev pub kept_as : SectionHeader → KeptKind
kept_as h =
    if is_allocated h && (h.sh_type == 1 || h.sh_type == 8) then
    if h.sh_type == 8 then Zeros else (if is_executable h then Text else (if is_writable h then Held else Fixed))
    else Dropped

-- the symbol table: the first section that is SHT_SYMTAB
pub record IsSymbolTable (file : List ℕ) (t : ℕ) : Type 0 where
  pub there : t < e_shnum file
  pub type : (section_at file t).sh_type ≡ 2
  pub first : (k : ℕ) → k < t → (section_at file k).sh_type ≢ 2

-- it has entries of 16 bytes, a string table (SHT_STRTAB), and no more local symbols than symbols
pub record SymbolTableFits (file : List ℕ) (h : SectionHeader) : Type 0 where
  pub entsize : h.sh_entsize ≡ 16
  pub whole : h.sh_size % 16 ≡ 0
  pub link : h.sh_link < e_shnum file
  pub strings : (section_at file h.sh_link).sh_type ≡ 3
  pub info : h.sh_info ≤ h.sh_size / 16

-- a relocation table has entries of 8 bytes, the symbol table, and the section that it changes
pub record RelocTableFits (file : List ℕ) (h : SectionHeader) : Type 0 where
  pub entsize : h.sh_entsize ≡ 8
  pub whole : h.sh_size % 8 ≡ 0
  pub link : IsSymbolTable file h.sh_link
  pub changes : 0 < h.sh_info
  pub there : h.sh_info < e_shnum file

-- A section from 1 on has no flags but SHF_WRITE, SHF_ALLOC, SHF_EXECINSTR, SHF_MERGE, SHF_STRINGS and SHF_INFO_LINK, and an alignment up to 4096. It lies in
-- the file, but for SHT_NULL and SHT_NOBITS. It is no SHT_RELA, SHT_GROUP or SHT_SYMTAB_SHNDX, and of those in memory each is SHT_PROGBITS, SHT_NOTE or SHT_NOBITS.
-- No other symbol table comes before a symbol table.
pub record SectionFits (file : List ℕ) (k : ℕ) (h : SectionHeader) : Type 0 where
  pub flags : (h.sh_flags < 128) × (h.sh_flags / 8 % 2 ≡ 0)
  pub aligned : IsAlignment h.sh_addralign
  pub page : h.sh_addralign ≤ 4096
  pub inside : h.sh_type ≢ 0 → h.sh_type ≢ 8 → h.sh_offset + h.sh_size ≤ length file
  pub no_rela : h.sh_type ≢ 4
  pub no_group : h.sh_type ≢ 17
  pub no_index : h.sh_type ≢ 18
  pub in_memory : is_allocated h ≡ true → (h.sh_type ≡ 1) ⊎ ((h.sh_type ≡ 7) ⊎ (h.sh_type ≡ 8))
  pub one_table : h.sh_type ≡ 2 → (j : ℕ) → j < k → (section_at file j).sh_type ≢ 2
  pub symbol_table : h.sh_type ≡ 2 → SymbolTableFits file h
  pub reloc_table : h.sh_type ≡ 9 → RelocTableFits file h

-- a section of the object is as its header says
pub record SectionBytes (file : List ℕ) (h : SectionHeader) (section : Section) : Type 0 where
  pub kind : section.kind ≡ kept_as h
  pub size : section.size ≡ h.sh_size
  pub align : section.align ≡ h.sh_addralign
  pub bytes : HasBytes section.kind → (length section.bytes ≡ h.sh_size) × Stands file h.sh_offset section.bytes
  pub no_bytes : (HasBytes section.kind → ⊥) → section.bytes ≡ []

-- the fields of the symbol table's entry at a place of the file. Its st_other may be any
abbrev pub st_name : List ℕ → ℕ → ℕ
st_name file at = word_at file at

abbrev pub st_value : List ℕ → ℕ → ℕ
st_value file at = word_at file (at + 4)

abbrev pub st_size : List ℕ → ℕ → ℕ
st_size file at = word_at file (at + 8)

abbrev pub st_info : List ℕ → ℕ → ℕ
st_info file at = slice_index file (at + 12)

abbrev pub st_shndx : List ℕ → ℕ → ℕ
st_shndx file at = half_at file (at + 14)

-- A symbol is as its entry says. Its name ends with the first zero, which is inside the string table.
pub record SymbolBytes (file : List ℕ) (strings : SectionHeader) (at : ℕ) (symbol : SymbolPart) : Type 0 where
  pub name_inside : st_name file at + length symbol.name < strings.sh_size
  pub name : Stands file (strings.sh_offset + st_name file at) (symbol.name ++ 0 ∷ [])
  pub no_zero : All (λ byte. byte ≢ 0) symbol.name
  pub value : symbol.value ≡ st_value file at
  pub size : symbol.size ≡ st_size file at
  pub info : st_info file at ≡ bind_number symbol.local * 16 + kind_number symbol.kind
  pub place : symbol.place ≡ place_of (st_shndx file at)

-- The local symbols are those before sh_info, and defined but for entry 0. A symbol is apart from all sections (SHN_ABS) only where it is that of a file. Else it lies
-- in its section. What other objects may see has a name, is no section or file, and is not dropped.
pub record SymbolPasses (file : List ℕ) (table : SectionHeader) (k : ℕ) (symbol : SymbolPart) : Type 0 where
  pub locals_first : (symbol.local ≡ true) ↔ (k < table.sh_info)
  pub defined : 0 < k → symbol.local ≡ true → symbol.place ≢ Undefined
  pub apart : symbol.place ≡ Absolute → symbol.kind ≡ File
  pub there : (section : ℕ) → symbol.place ≡ At section → section < e_shnum file
  pub inside : (section : ℕ) → symbol.place ≡ At section → symbol.value + symbol.size ≤ (section_at file section).sh_size
  pub named : symbol.local ≡ false → IsNamed symbol
  pub kept : symbol.local ≡ false → (section : ℕ) → symbol.place ≡ At section → kept_as (section_at file section) ≢ Dropped

-- the symbols are those of the table, in its order. Entry 0 is zero
pub record SymbolTableBytes (file : List ℕ) (table : SectionHeader) (object : Object) : Type 0 where
  pub count : length object.symbols ≡ table.sh_size / 16
  pub no_symbol : 0 < length object.symbols → ZerosUpTo file table.sh_offset (table.sh_offset + 16)
  pub each : (k : ℕ) → k < length object.symbols → SymbolBytes file (section_at file table.sh_link) (table.sh_offset + 16 * k) (symbol_of object k)
  pub pass : (k : ℕ) → k < length object.symbols → SymbolPasses file table k (symbol_of object k)

pub record SymbolsBytes (file : List ℕ) (object : Object) : Type 0 where
  pub table : (t : ℕ) → IsSymbolTable file t → SymbolTableBytes file (section_at file t) object
  pub no_table : ((t : ℕ) → IsSymbolTable file t → ⊥) → object.symbols ≡ []

-- the fields of a relocation table's entry at a place of the file
abbrev pub r_offset : List ℕ → ℕ → ℕ
r_offset file at = word_at file at

abbrev pub r_info : List ℕ → ℕ → ℕ
r_info file at = word_at file (at + 4)

-- a relocation is as its entry says. It changes the section of its table
pub record RelocBytes (file : List ℕ) (at changes : ℕ) (reloc : RelocPart) : Type 0 where
  pub section : reloc.section ≡ changes
  pub offset : reloc.offset ≡ r_offset file at
  pub info : r_info file at ≡ reloc.symbol * 256 + reloc_number reloc.kind

-- A relocation changes a word inside a section that has bytes, by a symbol of the table that does not stand apart and is not dropped.
pub record RelocPasses (file : List ℕ) (object : Object) (reloc : RelocPart) : Type 0 where
  pub has_bytes : (section_at file reloc.section).sh_type ≢ 8
  pub inside : reloc.offset + 4 ≤ (section_at file reloc.section).sh_size
  pub after_zero : 0 < reloc.symbol
  pub in_table : reloc.symbol < length object.symbols
  pub against : (symbol_of object reloc.symbol).place ≢ Absolute
  pub kept : (section : ℕ) → (symbol_of object reloc.symbol).place ≡ At section → kept_as (section_at file section) ≢ Dropped

-- the relocations of a table (SHT_REL) that changes a kept section, in its order. Every other section has none
abbrev pub Changes : List ℕ → SectionHeader → Type 0
Changes file h = (h.sh_type ≡ 9) × (kept_as (section_at file h.sh_info) ≢ Dropped)

pub record RelocTableBytes (file : List ℕ) (h : SectionHeader) (relocs : List RelocPart) : Type 0 where
  pub count : Changes file h → length relocs ≡ h.sh_size / 8
  pub each : Changes file h → (k : ℕ) (d : RelocPart) → k < length relocs → RelocBytes file (h.sh_offset + 8 * k) h.sh_info (slice_index_or relocs k d)
  pub none : (Changes file h → ⊥) → relocs ≡ []

-- The relocations are those of the sections in their order. Of two that change one section the later one's word is behind the first one's.
pub record RelocsBytes (file : List ℕ) (object : Object) : Type 0 where
  pub tables : List (List RelocPart)
  pub count : length tables ≡ e_shnum file
  pub each : (k : ℕ) → k < e_shnum file → RelocTableBytes file (section_at file k) (slice_index_or tables k [])
  pub whole : object.relocs ≡ flat_map (λ relocs. relocs) tables
  pub pass : All (RelocPasses file object) object.relocs
  pub rise : AllPairs (λ first later. first.section ≡ later.section → first.offset + 4 ≤ later.offset) object.relocs

-- The file is one of this object.
pub record ObjectBytes (object : Object) (file : List ℕ) : Type 0 where
  pub header : ObjectHeaderBytes file
  pub sections_fit : (k : ℕ) → 0 < k → k < e_shnum file → SectionFits file k (section_at file k)
  pub count : length object.sections ≡ e_shnum file
  pub sections : (k : ℕ) → k < e_shnum file → SectionBytes file (section_at file k) (section_of object k)
  pub symbols : SymbolsBytes file object
  pub relocs : RelocsBytes file object
