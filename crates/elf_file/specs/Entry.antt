-- What an entry of the symbol table says of its symbol, but for the name.
use Rattle.std.specs.Prelude.{◌≡◌, ℕ, ◌/◌, ◌%◌, ◌==◌, List, length, slice_index}
use Rattle.elf_file.specs.Places.{word_at, half_at}
use Rattle.elf_file.specs.Object.{kind_of, place_of}
use Rattle.elf_file.specs.declared.parts.SymbolPart.{SymbolPart}

pub record IsEntry (entry : List ℕ) (symbol : SymbolPart) : Type 0 where
  pub long : length entry ≡ 16
  pub local : symbol.local ≡ (slice_index entry 12 / 16 == 0)
  pub kind : symbol.kind ≡ kind_of (slice_index entry 12 % 16)
  pub place : symbol.place ≡ place_of (half_at entry 14)
  pub value : symbol.value ≡ word_at entry 4
  pub size : symbol.size ≡ word_at entry 8
