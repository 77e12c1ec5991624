-- The file of a unit's object is read back as that object.
use Rattle.std.specs.Prelude.{◌≡◌, ℕ, ◌<◌, ◌^◌, List, length, Option, Some, None, All}
use Rattle.std.proofs.Common.{arith, refl}
use Rattle.std.proofs.lemmas.List.Elements.{All-map}
use Rattle.second_form.specs.declared.second_items.Item.{Item}
use Rattle.second_form.specs.SecondForm.{IsItem}
use Rattle.elf_file.specs.Read.{IsFileOf}
use Rattle.elf_file.specs.Written.{Written}
use Rattle.elf_file.specs.declared.parts.SymbolPart.{SymbolPart}
use Rattle.second_code.specs.Parts.{text_of, definition_from, symbol_names, symbol_from, symbol_of, parts_of}
use Rattle.second_code.specs.Weights.{IsLight}
use Rattle.second_code.specs.declared.definitions.Definition.{Definition}
use Rattle.second_code.proofs.PartsFit.{definition_within, parts_fit}
use Rattle.second_code.proofs.Sizes.{object_small}

abbrev FitsWords : SymbolPart → Type 0
FitsWords symbol = (symbol.value < 2 ^ 32) × (symbol.size < 2 ^ 32)

symbol_small : (items : List Item) (name : List ℕ) → length (text_of items) < 2 ^ 32 → (o : Option Definition) → definition_from 0 items name ≡ o → FitsWords (symbol_from name o)
symbol_small items name short None e = (omega arith, omega arith)
symbol_small items name short (Some definition) e = let h = definition_within items 0 name definition e in (omega (arith, h, short), omega (arith, h, short))

pub unit_file : (file : List ℕ) (items : List Item) → IsLight items → All IsItem items → Written (parts_of items) file → IsFileOf (parts_of items) file
unit_file file items light each written =
    let small = object_small items light in
    record {
      well_formed = parts_fit items each small.symbols small.file;
      in_range = All-map FitsWords (symbol_of items) (symbol_names items) (λ k d h. symbol_small items _ small.text (definition_from 0 items _) refl);
      only_text = record { fixed = refl; held = refl; zeros = refl };
      written = written;
    }
