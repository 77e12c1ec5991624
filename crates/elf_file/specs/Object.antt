-- What a view shows of an object, and where it stands in the file (gABI, chapter 4: sections, string table, symbol table, relocation).
use Rattle.std.specs.Prelude.{ℕ, ◌+◌, ◌*◌, ◌/◌, ◌%◌, ◌==◌, List, [], ◌∷◌, true, map, length, take, drop, slice_index, slice_index_or, if◌then◌else◌}
use Rattle.std.specs.List.{before_first, range_with_len}
use Rattle.elf_file.specs.Places.{word_at, half_at}
use Rattle.elf_file.specs.Layout.{fixed_at, held_at, zeros_at, symbols_at, strings_at}
use Rattle.elf_file.specs.Written.{sizes_of}
use Rattle.elf_file.specs.declared.layout.Sizes.{Sizes}
use Rattle.elf_file.specs.declared.parts.ObjectParts.{ObjectParts}
use Rattle.elf_file.specs.declared.parts.SymbolPart.{SymbolPart}
use Rattle.elf_file.specs.declared.parts.RelocPart.{RelocPart}
use Rattle.elf_file.specs.declared.parts.SymbolKind.{SymbolKind}
use Rattle.elf_file.specs.declared.parts.SymbolKind.TheVariants as kinds
use Rattle.elf_file.specs.declared.parts.SymbolPlace.{SymbolPlace}
use Rattle.elf_file.specs.declared.parts.SymbolPlace.TheVariants.{Undefined, At, Absolute}
use Rattle.elf_file.specs.declared.parts.RelocKind.{RelocKind}
use Rattle.elf_file.specs.declared.parts.RelocKind.TheVariants.{Abs, Rel}
use Rattle.elf_file.specs.declared.parts.KeptKind.{KeptKind}
use Rattle.elf_file.specs.declared.parts.KeptKind.TheVariants.{Dropped, Text, Fixed, Held, Zeros}

-- a section: whether it is kept and as what, its size and alignment, and its bytes, if it is kept and has bytes in the file
pub record Section : Type 0 where
  pub kind : KeptKind
  pub size : ℕ
  pub align : ℕ
  pub bytes : List ℕ

-- the sections and the symbols, each from entry 0 on, and the relocations of the kept sections
pub record Object : Type 0 where
  pub sections : List Section
  pub symbols : List SymbolPart
  pub relocs : List RelocPart

abbrev pub dropped : ℕ → ℕ → Section
dropped size align = record { kind = Dropped; size = size; align = align; bytes = [] }

abbrev pub kept : KeptKind → ℕ → List ℕ → Section
kept kind align bytes = record { kind = kind; size = length bytes; align = align; bytes = bytes }

-- symbol 0
abbrev pub no_symbol : SymbolPart
no_symbol = record { name = []; local = true; kind = kinds.NoType; place = Undefined; value = 0; size = 0 }

abbrev pub no_reloc : RelocPart
no_reloc = record { section = 0; offset = 0; symbol = 0; kind = Abs }

-- one section, symbol and relocation of an object, by its number
abbrev pub section_of : Object → ℕ → Section
section_of object section = slice_index_or object.sections section (dropped 0 0)

abbrev pub symbol_of : Object → ℕ → SymbolPart
symbol_of object symbol = slice_index_or object.symbols symbol no_symbol

abbrev pub reloc_of : Object → ℕ → RelocPart
reloc_of object index = slice_index_or object.relocs index no_reloc

-- the section has bytes in the file, and they are kept
abbrev pub HasBytes : KeptKind → Type 0
HasBytes Dropped = ⊥
HasBytes Text = Unit {0}
HasBytes Fixed = Unit {0}
HasBytes Held = Unit {0}
HasBytes Zeros = ⊥

-- the sections of a written object with these sizes, and with these bytes in the sections 1 to 3
abbrev pub sections_of : Sizes → List ℕ → List ℕ → List ℕ → List Section
sections_of sizes text fixed held =
    dropped 0 0 ∷ kept Text 16 text ∷ kept Fixed 4 fixed ∷ kept Held 4 held ∷ record { kind = Zeros; size = sizes.zeros; align = 4; bytes = [] }
    ∷ dropped (8 * sizes.text_relocs) 4 ∷ dropped (8 * sizes.fixed_relocs) 4 ∷ dropped (8 * sizes.held_relocs) 4
    ∷ dropped (16 * sizes.symbols) 4 ∷ dropped sizes.strings 1 ∷ dropped 84 1 ∷ []

-- the object of these parts
abbrev pub object_of : ObjectParts → Object
object_of parts = record {
  sections = sections_of (sizes_of parts) parts.text parts.fixed parts.held;
  symbols = no_symbol ∷ parts.symbols;
  relocs = parts.relocs;
}

-- what the numbers of the file stand for
abbrev pub kind_of : ℕ → SymbolKind
kind_of number = if number == 0 then kinds.NoType else (if number == 1 then kinds.Object else (if number == 2 then kinds.Func else (if number == 3 then kinds.Section else kinds.File)))

abbrev pub place_of : ℕ → SymbolPlace
place_of number = if number == 0 then Undefined else (if number == 0xfff1 then Absolute else At number)

abbrev pub reloc_kind_of : ℕ → RelocKind
reloc_kind_of number = if number == 1 then Abs else Rel

-- so many bytes of the file from a place on
abbrev pub bytes_in : List ℕ → ℕ → ℕ → List ℕ
bytes_in file at size = take size (drop at file)

-- the name that begins at this place of the string table, and ends before a zero
abbrev pub name_in : List ℕ → ℕ → List ℕ
name_in strings name = before_first (λ byte. byte == 0) (drop name strings)

-- the symbol of an entry of the symbol table
abbrev pub symbol_in : List ℕ → List ℕ → SymbolPart
symbol_in strings entry = record {
  name = name_in strings (word_at entry 0);
  local = slice_index entry 12 / 16 == 0;
  kind = kind_of (slice_index entry 12 % 16);
  place = place_of (half_at entry 14);
  value = word_at entry 4;
  size = word_at entry 8;
}

-- the relocation of an entry of the text's relocation table
abbrev pub reloc_in : List ℕ → RelocPart
reloc_in entry = record {
  section = 1;
  offset = word_at entry 0;
  symbol = word_at entry 4 / 256;
  kind = reloc_kind_of (word_at entry 4 % 256);
}

-- the bytes of an entry of either table, by its number
abbrev pub symbol_bytes : List ℕ → Sizes → ℕ → List ℕ
symbol_bytes file sizes symbol = bytes_in file (symbols_at sizes + 16 * symbol) 16

abbrev pub reloc_bytes : List ℕ → Sizes → ℕ → List ℕ
reloc_bytes file sizes index = bytes_in file (zeros_at sizes + 8 * index) 8

abbrev pub strings_in : List ℕ → Sizes → List ℕ
strings_in file sizes = bytes_in file (strings_at sizes) sizes.strings

-- the entries of the symbol table and of the relocation table with these numbers: so many, from a number on
abbrev pub symbols_in : List ℕ → Sizes → ℕ → ℕ → List SymbolPart
symbols_in file sizes first count = map (λ symbol. symbol_in (strings_in file sizes) (symbol_bytes file sizes symbol)) (range_with_len first count)

abbrev pub relocs_in : List ℕ → Sizes → List RelocPart
relocs_in file sizes = map (λ index. reloc_in (reloc_bytes file sizes index)) (range_with_len 0 sizes.text_relocs)

-- the object that stands in a file with these sizes
abbrev pub object_in : List ℕ → Sizes → Object
object_in file sizes = record {
  sections = sections_of sizes (bytes_in file 64 sizes.text) (bytes_in file (fixed_at sizes) sizes.fixed) (bytes_in file (held_at sizes) sizes.held);
  symbols = symbols_in file sizes 0 sizes.symbols;
  relocs = relocs_in file sizes;
}
