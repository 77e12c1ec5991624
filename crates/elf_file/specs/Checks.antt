-- What the reader looks at: the sizes that a file's section headers give, and the parts that stand in it.
use Rattle.std.specs.Prelude.{◌≡◌, ℕ, ◌+◌, ◌-◌, ◌/◌, ◌^◌, ◌<◌, ◌≤◌, List, [], ◌∷◌, true, length, take}
use Rattle.std.specs.List.{count_by}
use Rattle.elf_file.specs.Places.{word_at, Stands}
use Rattle.elf_file.specs.Layout.{places_of, zeros_at, symbols_at, strings_at, names_at, headers_at, file_header, file_length}
use Rattle.elf_file.specs.Written.{symbol_entry, reloc_entry, string_table, section_names, ZerosUpTo}
use Rattle.elf_file.specs.WellFormed.{SymbolFits, RelocFits}
use Rattle.elf_file.specs.Pieces.{joined, padded, ending}
use Rattle.elf_file.specs.Object.{symbol_in, reloc_in, bytes_in, symbol_bytes, reloc_bytes, strings_in, symbols_in, relocs_in}
use Rattle.elf_file.specs.declared.layout.Sizes.{Sizes}
use Rattle.elf_file.specs.declared.parts.ObjectParts.{ObjectParts}
use Rattle.elf_file.specs.declared.parts.SymbolPart.{SymbolPart}

-- the sizes of a file whose section headers stand at its end
abbrev pub sizes_at : List ℕ → ℕ → Sizes
sizes_at file headers = record {
  text = word_at file (headers + 60);
  fixed = 0;
  held = 0;
  zeros = 0;
  text_relocs = word_at file (headers + 220) / 8;
  fixed_relocs = 0;
  held_relocs = 0;
  symbols = word_at file (headers + 340) / 16;
  locals = word_at file (headers + 348);
  strings = word_at file (headers + 380);
}

abbrev pub sizes_in : List ℕ → Sizes
sizes_in file = sizes_at file (length file - 440)

-- the parts that stand in a file with these sizes
abbrev pub parts_in : List ℕ → Sizes → ObjectParts
parts_in file sizes = record {
  text = bytes_in file 64 sizes.text;
  fixed = [];
  held = [];
  zeros = 0;
  symbols = symbols_in file sizes 1 (sizes.symbols - 1);
  relocs = relocs_in file sizes;
}

-- the headers, the names of the sections and the gaps are as written
pub record FrameStands (file : List ℕ) (sizes : Sizes) : Type 0 where
  pub header : Stands file 0 (joined (padded (file_header (headers_at sizes)) 12))
  pub before_relocs : ZerosUpTo file (64 + sizes.text) (zeros_at sizes)
  pub names : Stands file (names_at sizes) section_names
  pub ending : Stands file (names_at sizes + 84) (joined (ending sizes (places_of sizes)))

-- an entry of the symbol table is as written, wherever its name stands, and its symbol fits
pub record EntryFits (sections strings entry : List ℕ) : Type 0 where
  pub written : entry ≡ symbol_entry (word_at entry 0) (symbol_in strings entry)
  pub fits : SymbolFits sections (symbol_in strings entry)

-- an entry of the relocation table is as written, and its relocation fits
pub record RelocEntryFits (sections entry : List ℕ) (symbols : List SymbolPart) : Type 0 where
  pub written : entry ≡ reloc_entry (reloc_in entry)
  pub fits : RelocFits sections symbols (reloc_in entry)

-- the symbols that stand in the file, without entry 0
abbrev pub symbols_of : List ℕ → Sizes → List SymbolPart
symbols_of file sizes = symbols_in file sizes 1 (sizes.symbols - 1)

-- each symbol's entry is as written but for the place of its name, and the symbol fits
abbrev pub EntriesFit : List ℕ → List ℕ → Sizes → Type 0
EntriesFit sections file sizes = (k : ℕ) → k + 1 < sizes.symbols → EntryFits sections (strings_in file sizes) (symbol_bytes file sizes (k + 1))

-- the name of a symbol stands behind those of the symbols before it, inside the string table
pub record NameStands (file : List ℕ) (sizes : Sizes) (k : ℕ) : Type 0 where
  pub place : word_at (symbol_bytes file sizes (k + 1)) 0 ≡ length (string_table (take k (symbols_of file sizes)))
  pub inside : length (string_table (take (k + 1) (symbols_of file sizes))) ≤ sizes.strings

pub record NamesStand (file : List ℕ) (sizes : Sizes) : Type 0 where
  pub each : (k : ℕ) → k + 1 < sizes.symbols → NameStands file sizes k
  pub whole : length (string_table (symbols_of file sizes)) ≡ sizes.strings

-- before a local symbol each symbol is local
pub record LocalsFirst (file : List ℕ) (sizes : Sizes) : Type 0 where
  pub each : (k : ℕ) → k + 1 < sizes.symbols → (symbol_in (strings_in file sizes) (symbol_bytes file sizes (k + 1))).local ≡ true → count_by (λ symbol. symbol.local) (take k (symbols_of file sizes)) ≡ k
  pub whole : count_by (λ symbol. symbol.local) (symbols_of file sizes) + 1 ≡ sizes.locals

abbrev pub RelocsFit : List ℕ → List ℕ → Sizes → Type 0
RelocsFit sections file sizes = (k : ℕ) → k < sizes.text_relocs → RelocEntryFits sections (reloc_bytes file sizes k) (symbols_of file sizes)

-- the words that are changed rise, and do not overlap
abbrev pub RelocsRise : List ℕ → Sizes → Type 0
RelocsRise file sizes = (k : ℕ) → k + 1 < sizes.text_relocs → (reloc_in (reloc_bytes file sizes k)).offset + 4 ≤ (reloc_in (reloc_bytes file sizes (k + 1))).offset

-- how many bytes the sections 0 to 4 have
abbrev pub sections_in : Sizes → List ℕ
sections_in sizes = 0 ∷ sizes.text ∷ sizes.fixed ∷ sizes.held ∷ sizes.zeros ∷ []

-- the sizes of a file of text alone, that are those of the whole file, with no more symbols than a relocation can name
pub record HasSizes (file : List ℕ) (sizes : Sizes) : Type 0 where
  pub read : sizes ≡ sizes_in file
  pub whole : length file ≡ file_length sizes
  pub some : 0 < sizes.symbols
  pub few : sizes.symbols ≤ 2 ^ 24

-- the symbol table and the string table are as written, and the symbols fit
pub record SymbolsStand (file : List ℕ) (sizes : Sizes) : Type 0 where
  pub no_symbol : ZerosUpTo file (symbols_at sizes) (symbols_at sizes + 16)
  pub start : Stands file (strings_at sizes) (0 ∷ [])
  pub entries : EntriesFit (sections_in sizes) file sizes
  pub names : NamesStand file sizes
  pub locals : LocalsFirst file sizes

-- the relocation table is as written, and the relocations fit
pub record RelocsStand (file : List ℕ) (sizes : Sizes) : Type 0 where
  pub fit : RelocsFit (sections_in sizes) file sizes
  pub rise : RelocsRise file sizes

-- the file is as written
pub record AllStands (file : List ℕ) (sizes : Sizes) : Type 0 where
  pub frame : FrameStands file sizes
  pub symbols : SymbolsStand file sizes
  pub relocs : RelocsStand file sizes
