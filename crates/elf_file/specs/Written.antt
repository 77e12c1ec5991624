-- The one file that is written for an object's parts.
use Rattle.std.specs.Prelude.{◌≡◌, ℕ, ◌+◌, ◌*◌, ◌-◌, ◌==◌, List, [], ◌∷◌, ◌++◌, Bool, length, replicate, if◌then◌else◌, codes}
use Rattle.std.specs.List.{flat_map, count_by}
use Rattle.elf_file.specs.Places.{words_bytes, half_bytes, Stands}
use Rattle.elf_file.specs.Layout.{fixed_at, held_at, zeros_at, symbols_at, strings_at, names_at, headers_at, file_length, file_header, section_table}
use Rattle.elf_file.specs.declared.layout.Sizes.{Sizes}
use Rattle.elf_file.specs.declared.parts.ObjectParts.{ObjectParts}
use Rattle.elf_file.specs.declared.parts.SymbolPart.{SymbolPart}
use Rattle.elf_file.specs.declared.parts.RelocPart.{RelocPart}
use Rattle.elf_file.specs.declared.parts.SymbolKind.{SymbolKind}
use Rattle.elf_file.specs.declared.parts.SymbolKind.TheVariants.{NoType, Object, Func, Section, File}
use Rattle.elf_file.specs.declared.parts.SymbolPlace.{SymbolPlace}
use Rattle.elf_file.specs.declared.parts.SymbolPlace.TheVariants.{Undefined, At, Absolute}
use Rattle.elf_file.specs.declared.parts.RelocKind.{RelocKind}
use Rattle.elf_file.specs.declared.parts.RelocKind.TheVariants.{Abs, Rel}

-- STT_NOTYPE, STT_OBJECT, STT_FUNC, STT_SECTION, STT_FILE
abbrev pub kind_number : SymbolKind → ℕ
kind_number NoType = 0
kind_number Object = 1
kind_number Func = 2
kind_number Section = 3
kind_number File = 4

-- SHN_UNDEF, a section's number, SHN_ABS
abbrev pub place_number : SymbolPlace → ℕ
place_number Undefined = 0
place_number (At section) = section
place_number Absolute = 0xfff1

-- STB_LOCAL, STB_GLOBAL
abbrev pub bind_number : Bool → ℕ
bind_number local = if local then 0 else 1

-- R_386_32, R_386_PC32
abbrev pub reloc_number : RelocKind → ℕ
reloc_number Abs = 1
reloc_number Rel = 2

-- an entry of the symbol table: st_name, st_value, st_size, st_info, st_other, st_shndx
abbrev pub symbol_entry : ℕ → SymbolPart → List ℕ
symbol_entry name symbol = words_bytes (name ∷ symbol.value ∷ symbol.size ∷ [])
    ++ ((bind_number symbol.local * 16 + kind_number symbol.kind) ∷ 0 ∷ half_bytes (place_number symbol.place))

-- the entries of symbols whose names stand one after the other from this place of the string table on
abbrev pub symbol_entries : ℕ → List SymbolPart → List ℕ
symbol_entries name [] = []
symbol_entries name (symbol ∷ symbols) = symbol_entry name symbol ++ symbol_entries (name + (length symbol.name + 1)) symbols

-- entry 0 is zero. The first name stands behind the zero at the start of the string table
abbrev pub symbol_table : List SymbolPart → List ℕ
symbol_table symbols = replicate 16 0 ++ symbol_entries 1 symbols

-- the names in order, each with its zero, behind a zero
abbrev pub string_table : List SymbolPart → List ℕ
string_table symbols = 0 ∷ flat_map (λ symbol. symbol.name ++ 0 ∷ []) symbols

-- an entry of a relocation table: r_offset, r_info
abbrev pub reloc_entry : RelocPart → List ℕ
reloc_entry reloc = words_bytes (reloc.offset ∷ (reloc.symbol * 256 + reloc_number reloc.kind) ∷ [])

abbrev pub reloc_table : List RelocPart → List ℕ
reloc_table relocs = flat_map reloc_entry relocs

-- the names of the sections
abbrev pub section_names : List ℕ
section_names = 0 ∷ codes ".text" ++ 0 ∷ codes ".rodata" ++ 0 ∷ codes ".data" ++ 0 ∷ codes ".bss" ++ 0 ∷ codes ".rel.text" ++ 0 ∷ codes ".rel.rodata"
    ++ 0 ∷ codes ".rel.data" ++ 0 ∷ codes ".symtab" ++ 0 ∷ codes ".strtab" ++ 0 ∷ codes ".shstrtab" ++ 0 ∷ []

-- how many relocations change this section
abbrev pub relocs_of : ℕ → List RelocPart → ℕ
relocs_of section relocs = count_by (λ reloc. reloc.section == section) relocs

-- how long the parts are. Entry 0 counts among the symbols and the local symbols
abbrev pub sizes_of : ObjectParts → Sizes
sizes_of parts = record {
  text = length parts.text;
  fixed = length parts.fixed;
  held = length parts.held;
  zeros = parts.zeros;
  text_relocs = relocs_of 1 parts.relocs;
  fixed_relocs = relocs_of 2 parts.relocs;
  held_relocs = relocs_of 3 parts.relocs;
  symbols = length parts.symbols + 1;
  locals = count_by (λ symbol. symbol.local) parts.symbols + 1;
  strings = length (string_table parts.symbols);
}

-- there are only zeros from one place of the file up to another
abbrev pub ZerosUpTo : List ℕ → ℕ → ℕ → Type 0
ZerosUpTo file from to = Stands file from (replicate (to - from) 0)

-- Each part stands at the place that follows from the sizes, each gap is zero, and nothing follows the section headers.
pub record WrittenBy (sizes : Sizes) (parts : ObjectParts) (file : List ℕ) : Type 0 where
  pub header : Stands file 0 (file_header (headers_at sizes))
  pub before_text : ZerosUpTo file 52 64
  pub text : Stands file 64 parts.text
  pub before_fixed : ZerosUpTo file (64 + sizes.text) (fixed_at sizes)
  pub fixed : Stands file (fixed_at sizes) parts.fixed
  pub before_held : ZerosUpTo file (fixed_at sizes + sizes.fixed) (held_at sizes)
  pub held : Stands file (held_at sizes) parts.held
  pub before_relocs : ZerosUpTo file (held_at sizes + sizes.held) (zeros_at sizes)
  pub relocs : Stands file (zeros_at sizes) (reloc_table parts.relocs)
  pub symbols : Stands file (symbols_at sizes) (symbol_table parts.symbols)
  pub strings : Stands file (strings_at sizes) (string_table parts.symbols)
  pub names : Stands file (names_at sizes) section_names
  pub before_headers : ZerosUpTo file (names_at sizes + 84) (headers_at sizes)
  pub headers : Stands file (headers_at sizes) (section_table sizes)
  pub length_is : length file ≡ file_length sizes

-- the file that is written for these parts
abbrev pub Written : ObjectParts → List ℕ → Type 0
Written parts file = WrittenBy (sizes_of parts) parts file
