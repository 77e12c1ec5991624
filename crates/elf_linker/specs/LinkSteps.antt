-- What the linker keeps while it works: an index of definitions, and how far the code is made.
use Rattle.std.specs.Prelude.{◌≡◌, ℕ, ◌+◌, ◌<◌, ◌≤◌, Bool, cond, not, ◌&&◌, ◌==◌, nat_lt, List, ◌++◌, ◌⊎◌, length, take, get_or, find, Option, Some, None, All, option_and_then, true}
use Rattle.elf_file.specs.Image.{first_address, end_address}
use Rattle.elf_file.specs.declared.parts.SymbolPlace.{SymbolPlace}
use Rattle.elf_file.specs.declared.parts.SymbolPlace.TheVariants.{Undefined, At, Absolute}
use Rattle.std.specs.HashMap.{HashMap, get_by}
use Rattle.std.specs.Str.{bytes_eq}
use denote.Ref.{Bor}
use Rattle.elf_file.specs.Object.{Object, symbol_of}
use Rattle.elf_file.specs.Read.{IsObject}
use Rattle.elf_file.specs.declared.parts.SymbolPart.{SymbolPart}
use Rattle.elf_linker.specs.Placement.{text_of, text_address, texts_end_from, whole_end}
use Rattle.elf_file.specs.declared.parts.SymbolKind.{SymbolKind}
use Rattle.elf_linker.specs.Names.{is_object, is_definition, is_use, defines, all_symbols, is_defined, definition, defined_before, size_differs}
use Rattle.elf_linker.specs.Linked.{object_at, IsPlaced, offset}
use Rattle.elf_linker.specs.Runtime.{with_runtime}
use Rattle.elf_linker.specs.declared.fault.LinkFault.{LinkFault}
use Rattle.elf_linker.specs.declared.fault.LinkFault.TheVariants.{Doubled, Unresolved}
use Rattle.elf_linker.specs.declared.definitions.Site.{Site}

-- the objects of an image: each is one that is read, and there is the runtime and at most 4,096 others
pub record AreObjects (objects : List Object) : Type 0 where
  pub few : length objects ≤ 4097
  pub read : All IsObject objects

-- what an index by names holds for a name
abbrev pub found_at : {V S : Type 0} → HashMap (Bor (List ℕ)) V S → List ℕ → Option V
found_at index name = get_by (λ key. bytes_eq name key.now) index

-- the symbol of an object, by the numbers of both
abbrev pub symbol_at : List Object → ℕ → ℕ → SymbolPart
symbol_at objects number symbol = symbol_of (object_at objects number) symbol

-- all symbols that stand before this one
abbrev pub symbols_before : List Object → ℕ → ℕ → List SymbolPart
symbols_before objects number symbol = all_symbols (take number objects) ++ take symbol (object_at objects number).symbols

-- what is noted for a name: the first of these symbols that defines it
pub record IsFirst (objects : List Object) (symbols : List SymbolPart) (name : List ℕ) (site : Site) : Type 0 where
  pub in_objects : site.object < length objects
  pub in_table : site.symbol < length (object_at objects site.object).symbols
  pub first : find (defines name) symbols ≡ Some (symbol_at objects site.object site.symbol)

abbrev pub IsNoted : List Object → List SymbolPart → List ℕ → Option Site → Type 0
IsNoted objects symbols name None = find (defines name) symbols ≡ None
IsNoted objects symbols name (Some site) = IsFirst objects symbols name site

-- each definition among these symbols is noted
abbrev pub AreNoted : {S : Type 0} → List Object → List SymbolPart → HashMap (Bor (List ℕ)) Site S → Type 0
AreNoted objects symbols index = (name : List ℕ) → IsNoted objects symbols name (found_at index name)

-- what is wrong with one symbol
abbrev pub doubled_at : List Object → ℕ → ℕ → SymbolPart → Option LinkFault
doubled_at objects number place symbol = cond (is_definition symbol && defined_before objects number (object_at objects number).symbols place symbol.name) (Some (Doubled number place)) None

abbrev pub unresolved_at : List Object → ℕ → ℕ → SymbolPart → Option LinkFault
unresolved_at objects number place symbol = cond (is_use symbol && not (is_defined objects symbol.name)) (Some (Unresolved number place)) None

abbrev pub sized_at : List Object → ℕ → ℕ → SymbolPart → Option LinkFault
sized_at objects number place symbol = cond (is_use symbol) (option_and_then (size_differs number place symbol.size) (definition objects symbol.name)) None

-- the addresses of the objects' texts
pub record AreTexts (objects : List Object) (texts : List ℕ) : Type 0 where
  pub each : length texts ≡ length objects
  pub are : (number : ℕ) → number < length objects → get_or texts number 0 ≡ text_address objects number

-- the address lies in the text of none of the first objects
abbrev pub IsGapTo : List Object → ℕ → ℕ → Type 0
IsGapTo objects number address = (earlier : ℕ) → earlier < number → ¬ ((text_address objects earlier ≤ address) × (address < text_address objects earlier + (text_of (object_at objects earlier)).size))

-- the code of the first objects is made
pub record IsMade (objects : List Object) (number : ℕ) (code : List ℕ) : Type 0 where
  pub ends : first_address + length code ≡ texts_end_from first_address (take number objects)
  pub placed : (earlier : ℕ) → earlier < number → IsPlaced objects code earlier
  pub gaps : (address : ℕ) → first_address ≤ address → address < first_address + length code → IsGapTo objects number address → get_or code (offset address) 0 ≡ 0

-- all that decides the addresses of names, where nothing passes the last address of an image
pub record AreAddresses {S : Type 0} (objects : List Object) (index : HashMap (Bor (List ℕ)) Site S) (texts : List ℕ) (behind : ℕ) : Type 0 where
  pub are : AreObjects objects
  pub noted : AreNoted objects (all_symbols objects) index
  pub places : AreTexts objects texts
  pub empty : behind ≡ whole_end objects
  pub inside : whole_end objects ≤ end_address

-- the symbol lies in a section, or it is a name that is defined
abbrev pub IsAnswered : List Object → SymbolPart → SymbolPlace → Type 0
IsAnswered objects symbol Undefined = is_defined objects symbol.name ≡ true
IsAnswered objects symbol (At section) = Unit {0}
IsAnswered objects symbol Absolute = ⊥

-- the symbols of all relocations are answered
abbrev pub AreAnswered : List Object → Type 0
AreAnswered objects = (number : ℕ) → number < length objects → All (λ reloc. IsAnswered objects (symbol_at objects number reloc.symbol) (symbol_at objects number reloc.symbol).place) (object_at objects number).relocs

-- the word does not lie at this place of the code
abbrev pub IsAside : ℕ → ℕ → Type 0
IsAside at k = (k < at) ⊎ (at + 4 ≤ k)

-- an object's text stands at its place as it is in the object
pub record IsCopied (objects : List Object) (number : ℕ) (code : List ℕ) : Type 0 where
  pub inside : offset (text_address objects number) + (text_of (object_at objects number)).size ≤ length code
  pub bytes : (byte : ℕ) → byte < (text_of (object_at objects number)).size → get_or code (offset (text_address objects number) + byte) 0 ≡ get_or (text_of (object_at objects number)).bytes byte 0

-- the last object is the runtime
pub record HasRuntime (objects : List Object) : Type 0 where
  pub given : List Object
  pub is : objects ≡ with_runtime given

-- the objects are those of an image, which does not pass the last address
pub record FitImage (objects : List Object) : Type 0 where
  pub are : AreObjects objects
  pub inside : whole_end objects ≤ end_address

-- a use that states this size agrees with a symbol of this type and size
abbrev pub agree : ℕ → SymbolKind → ℕ → Bool
agree stated kind size = not (nat_lt 0 stated && (is_object kind && (nat_lt 0 size && not (stated == size))))
