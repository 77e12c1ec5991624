-- Objects that were made of texts, by the items and by the typed units of these.
use Rattle.std.proofs.Common.{ℕ, List, [], ◌∷◌, refl, subst}
use Rattle.clight_unit.specs.declared.unit.ClightUnit.{ClightUnit as TypedUnit}
use Rattle.typing_units.specs.Typing.{Typed}
use Rattle.second_form.specs.declared.second_items.Item.{Item}
use Rattle.second_symbols.specs.Sources.{AreSources}
use Rattle.second_code.specs.Parts.{parts_of}
use Rattle.elf_file.specs.Read.{IsFileOf}
use Rattle.commands.specs.Steps.{HasForm}
use Rattle.ccelf_build.specs.Contents.{Contents, AreAll}
use Rattle.ccelf_build.specs.Sources.{IsTyped}
use Rattle.ccelf_build.specs.Told.{Compiled, IsCompiled, items_of, AreMade}

-- the file is the object of a text of these items
pub record IsMadeOf (items : List Item) (file : List ℕ) : Type 0 where
  pub text : List ℕ
  pub form : HasForm text items
  pub written : IsFileOf (parts_of items) file

abbrev pub AreMadeOf : List (List Item) → List (List ℕ) → Type 0
AreMadeOf [] [] = Unit {0}
AreMadeOf [] (file ∷ files) = ⊥
AreMadeOf (items ∷ units) [] = ⊥
AreMadeOf (items ∷ units) (file ∷ files) = IsMadeOf items file × AreMadeOf units files

-- the items of units whose objects these are
pub record ItemsMade (sources : List TypedUnit) (files : List (List ℕ)) : Type 0 where
  pub units : List (List Item)
  pub are : AreMadeOf units files
  pub sources_are : AreSources units sources

pub items_made : (sources : List TypedUnit) (files : List (List ℕ)) → AreMade sources files → ItemsMade sources files
items_made [] [] h = record { units = []; are = tt; sources_are = refl }
items_made [] (file ∷ files) h = absurd h
items_made (source ∷ sources) [] h = absurd h
items_made (source ∷ sources) (file ∷ files) h =
    let more : ItemsMade sources files = items_made sources files h.1 in
    let made = h.0.object in
    record {
      units = made.items ∷ more.units;
      are = (record { text = h.0.text; form = made.form; written = made.written }, more.are);
      sources_are = (record { tree = made.form.tree; form = made.form.form; typed = subst (Typed made.form.tree) h.0.typed made.form.typed }, more.sources_are);
    }

-- the typed units of texts that were compiled
pub record Sources (files : Contents) (units : List (List ℕ)) (all : List Compiled) : Type 0 where
  pub sources : List TypedUnit
  pub typed : AreAll (IsTyped files) units sources
  pub are : AreSources (items_of all) sources

pub sources_of : (files : Contents) (units : List (List ℕ)) (all : List Compiled) → AreAll (IsCompiled files) units all → Sources files units all
sources_of files [] [] h = record { sources = []; typed = tt; are = refl }
sources_of files [] (made ∷ all) h = absurd h
sources_of files (unit ∷ units) [] h = absurd h
sources_of files (unit ∷ units) (made ∷ all) h =
    let more : Sources files units all = sources_of files units all h.1 in
    let form = h.0.form in
    record {
      sources = form.unit ∷ more.sources;
      typed = (record { text = h.0.text; stands = h.0.stands; has = record { tree = form.tree; parsed = form.parsed; typed = form.typed } }, more.typed);
      are = (record { tree = form.tree; form = form.form; typed = form.typed }, more.are);
    }
