-- Which parts have a written object.
use Rattle.std.specs.Prelude.{◌≡◌, ◌≢◌, ℕ, ◌+◌, ◌-◌, ◌^◌, ◌<◌, ◌≤◌, ◌⊎◌, List, [], ◌∷◌, length, All, AllPairs, false, true, slice_index}
use Rattle.std.specs.List.{AllAdjacentBelow, HoldsAt}
use Rattle.elf_file.specs.Layout.{file_length}
use Rattle.elf_file.specs.Written.{sizes_of}
use Rattle.elf_file.specs.declared.parts.ObjectParts.{ObjectParts}
use Rattle.elf_file.specs.declared.parts.SymbolPart.{SymbolPart}
use Rattle.elf_file.specs.declared.parts.RelocPart.{RelocPart}
use Rattle.elf_file.specs.declared.parts.SymbolKind.TheVariants.{Section, File}
use Rattle.elf_file.specs.declared.parts.SymbolPlace.{SymbolPlace}
use Rattle.elf_file.specs.declared.parts.SymbolPlace.TheVariants.{Undefined, At, Absolute}

-- how many bytes the sections 0 to 4 have: none, text, read-only, writable and zeroed ones
abbrev pub section_sizes : ObjectParts → List ℕ
section_sizes parts = 0 ∷ length parts.text ∷ length parts.fixed ∷ length parts.held ∷ parts.zeros ∷ []

-- An undefined symbol is not local. A defined one lies in a section from 1 to 4. Only the symbol of a file stands apart from all sections.
abbrev pub IsPlaced : List ℕ → SymbolPart → SymbolPlace → Type 0
IsPlaced sections symbol Undefined = symbol.local ≡ false
IsPlaced sections symbol (At section) = (0 < section) × (section ≤ 4) × (symbol.value + symbol.size ≤ slice_index sections section)
IsPlaced sections symbol Absolute = symbol.kind ≡ File

-- what other objects may see has a name, and is no section or file
pub record IsNamed (symbol : SymbolPart) : Type 0 where
  pub some : 0 < length symbol.name
  pub no_section : symbol.kind ≢ Section
  pub no_file : symbol.kind ≢ File

-- a symbol of an object whose sections have these sizes
pub record SymbolFits (sections : List ℕ) (symbol : SymbolPart) : Type 0 where
  pub placed : IsPlaced sections symbol symbol.place
  pub named : symbol.local ≡ false → IsNamed symbol
  pub no_zero : All (λ byte. byte ≢ 0) symbol.name

-- A relocation changes a word inside one of the sections 1 to 3, by a symbol of the table that does not stand apart.
pub record RelocFits (sections : List ℕ) (symbols : List SymbolPart) (reloc : RelocPart) : Type 0 where
  pub from_text : 0 < reloc.section
  pub to_writable : reloc.section ≤ 3
  pub inside : reloc.offset + 4 ≤ slice_index sections reloc.section
  pub after_zero : 0 < reloc.symbol
  pub in_table : reloc.symbol ≤ length symbols
  pub against : HoldsAt (λ symbol. symbol.place ≢ Absolute) symbols (reloc.symbol - 1)

-- a later relocation is of a later section, or its word is behind the word of the first
abbrev pub StandsBefore : RelocPart → RelocPart → Type 0
StandsBefore first later = (first.section < later.section) ⊎ ((first.section ≡ later.section) × (first.offset + 4 ≤ later.offset))

pub record WellFormed (parts : ObjectParts) : Type 0 where
  pub symbols : All (SymbolFits (section_sizes parts)) parts.symbols
  pub locals_first : AllPairs (λ first later. later.local ≡ true → first.local ≡ true) parts.symbols
  pub few_symbols : length parts.symbols < 2 ^ 24
  pub relocs : All (RelocFits (section_sizes parts) parts.symbols) parts.relocs
  pub relocs_rise : AllAdjacentBelow StandsBefore parts.relocs (length parts.relocs)
  pub small : file_length (sizes_of parts) < 2 ^ 32
