-- What each address of an image holds that is linked from objects, the runtime the last of them (Intel386 supplement, chapter 4, relocation).
use Rattle.std.specs.Prelude.{◌≡◌, ℕ, ◌+◌, ◌-◌, ◌<◌, ◌≤◌, List, [], ◌∷◌, length, take, drop, get_or, false, All, codes, slice_index_or}
use Rattle.cc_base.specs.Words.{word_bytes, add32, sub32}
use Rattle.elf_file.specs.Image.{first_address, end_address}
use Rattle.elf_file.specs.Places.{word_at}
use Rattle.elf_file.specs.Object.{Object, symbol_of}
use Rattle.elf_file.specs.declared.parts.RelocPart.{RelocPart}
use Rattle.elf_file.specs.declared.parts.RelocKind.{RelocKind}
use Rattle.elf_file.specs.declared.parts.RelocKind.TheVariants.{Abs, Rel}
use Rattle.elf_file.specs.declared.parts.SymbolPart.{SymbolPart}
use Rattle.elf_file.specs.declared.parts.SymbolPlace.{SymbolPlace}
use Rattle.elf_file.specs.declared.parts.SymbolPlace.TheVariants.{Undefined, At, Absolute}
use Rattle.elf_file.specs.declared.image.ImageParts.{ImageParts}
use Rattle.elf_linker.specs.Placement.{text_of, text_address, texts_end, whole_end, section_address}

abbrev pub object_at : List Object → ℕ → Object
object_at objects number = slice_index_or objects number (record { sections = []; symbols = []; relocs = [] })

-- the address is that of a symbol that lies in this section of an object: the section's address and the symbol's value
abbrev pub IsAt : List Object → ℕ → SymbolPart → ℕ → ℕ → Type 0
IsAt objects number symbol section address = (symbol.place ≡ At section) × (address ≡ section_address objects number section + symbol.value)

-- the address is that of a definition of the name that other objects see
pub record IsDefinedAt (objects : List Object) (name : List ℕ) (address : ℕ) : Type 0 where
  pub number : ℕ
  pub symbol : ℕ
  pub section : ℕ
  pub in_objects : number < length objects
  pub in_table : symbol < length (object_at objects number).symbols
  pub shown : (symbol_of (object_at objects number) symbol).local ≡ false
  pub named : (symbol_of (object_at objects number) symbol).name ≡ name
  pub at : IsAt objects number (symbol_of (object_at objects number) symbol) section address

-- S, the address of a symbol of the object with this number. That of a name that the object does not define is the address of its definition
abbrev pub HasAddress : List Object → ℕ → SymbolPart → SymbolPlace → ℕ → Type 0
HasAddress objects number symbol Undefined address = IsDefinedAt objects symbol.name address
HasAddress objects number symbol (At section) address = address ≡ section_address objects number section + symbol.value
HasAddress objects number symbol Absolute address = ⊥

-- the word that is stored: S + A, or S + A - P, modulo 2^32
abbrev pub stored : RelocKind → ℕ → ℕ → ℕ → ℕ
stored Abs address addend place = add32 address addend
stored Rel address addend place = sub32 (add32 address addend) place

-- the place in the code of an address
abbrev pub offset : ℕ → ℕ
offset address = address - first_address

-- a relocation's word stands where the object's text is placed. Its addend is the word in the object
pub record IsRelocated (objects : List Object) (code : List ℕ) (number : ℕ) (reloc : RelocPart) : Type 0 where
  pub address : ℕ
  pub has : HasAddress objects number (symbol_of (object_at objects number) reloc.symbol) (symbol_of (object_at objects number) reloc.symbol).place address
  pub holds : take 4 (drop (offset (text_address objects number) + reloc.offset) code)
      ≡ word_bytes (stored reloc.kind address (word_at (text_of (object_at objects number)).bytes reloc.offset) (text_address objects number + reloc.offset))

-- the byte of the text belongs to the relocation's word
abbrev pub Covers : ℕ → RelocPart → Type 0
Covers byte reloc = (reloc.offset ≤ byte) × (byte < reloc.offset + 4)

-- an object's text is placed: each word with a relocation is relocated, and each other byte is as in the object
pub record IsPlaced (objects : List Object) (code : List ℕ) (number : ℕ) : Type 0 where
  pub relocated : All (IsRelocated objects code number) (object_at objects number).relocs
  pub others : (byte : ℕ) → byte < (text_of (object_at objects number)).size → All (λ reloc. ¬ Covers byte reloc) (object_at objects number).relocs
      → get_or code (offset (text_address objects number) + byte) 0 ≡ get_or (text_of (object_at objects number)).bytes byte 0

-- the address lies in no object's text
abbrev pub IsGap : List Object → ℕ → Type 0
IsGap objects address = (number : ℕ) → number < length objects
    → ¬ ((text_address objects number ≤ address) × (address < text_address objects number + (text_of (object_at objects number)).size))

-- The image has one segment, which may be read and executed. It holds each object's text where that is placed, and zeros between them.
pub record Linked (objects : List Object) (image : ImageParts) : Type 0 where
  pub code : List ℕ
  pub segments : image.segments ≡ record { start = first_address; flags = 5; size = length code; bytes = code } ∷ []
  pub entry : IsDefinedAt objects (codes "_start") image.entry
  pub ends : first_address + length code ≡ texts_end objects
  pub inside : whole_end objects ≤ end_address
  pub placed : (number : ℕ) → number < length objects → IsPlaced objects code number
  pub gaps : (address : ℕ) → first_address ≤ address → address < texts_end objects → IsGap objects address → get_or code (offset address) 0 ≡ 0
