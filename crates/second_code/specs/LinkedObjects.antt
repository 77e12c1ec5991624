-- The objects that units of the second form are linked from.
use Rattle.std.specs.Prelude.{List, map}
use Rattle.text_grammar.specs.declared.tree.External.{External}
use Rattle.second_form.specs.declared.second_items.Item.{Item}
use Rattle.second_form.specs.SecondForm.{IsSecondForm}
use Rattle.elf_file.specs.Object.{Object, object_of}
use Rattle.elf_linker.specs.Runtime.{with_runtime}
use Rattle.second_code.specs.Parts.{parts_of}

-- the items are those of a tree of the form
pub record IsUnit (items : List Item) : Type 0 where
  pub tree : List External
  pub form : IsSecondForm tree items

abbrev pub unit_object : List Item → Object
unit_object items = object_of (parts_of items)

-- those of the units, each made from its unit alone, and the runtime as the last one
abbrev pub linked_objects : List (List Item) → List Object
linked_objects units = with_runtime (map unit_object units)
