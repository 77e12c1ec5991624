-- The object of a tree of the second form.
use Rattle.std.specs.Prelude.{ℕ, ◌^◌, ◌<◌, List, length}
use Rattle.text_grammar.specs.declared.tree.External.{External}
use Rattle.second_form.specs.declared.second_items.Item.{Item}
use Rattle.second_form.specs.SecondForm.{IsSecondForm}
use Rattle.elf_file.specs.Layout.{file_length}
use Rattle.elf_file.specs.Read.{IsFileOf}
use Rattle.elf_file.specs.Written.{sizes_of}
use Rattle.second_code.specs.Parts.{text_of, symbol_names, parts_of}

-- The tree is of the second form, and the file is the one that is written for the parts of its items. So it is read back as their object
pub record IsObjectOf (tree : List External) (file : List ℕ) : Type 0 where
  pub items : List Item
  pub form : IsSecondForm tree items
  pub written : IsFileOf (parts_of items) file

-- numbers of 32 bits reach over the text and the file, and those of a relocation over the symbols
pub record IsSmall (items : List Item) : Type 0 where
  pub text : length (text_of items) < 2 ^ 32
  pub symbols : length (symbol_names items) < 2 ^ 24
  pub file : file_length (sizes_of (parts_of items)) < 2 ^ 32
