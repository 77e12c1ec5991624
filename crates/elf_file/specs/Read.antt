-- Which files are read.
use Rattle.std.specs.Prelude.{◌≡◌, ℕ, ◌^◌, ◌<◌, List, [], All}
use Rattle.elf_file.specs.Written.{Written}
use Rattle.elf_file.specs.WellFormed.{WellFormed}
use Rattle.elf_file.specs.Object.{Object, object_of}
use Rattle.elf_file.specs.declared.parts.ObjectParts.{ObjectParts}

-- there is text, and no other section has bytes
pub record OnlyText (parts : ObjectParts) : Type 0 where
  pub fixed : parts.fixed ≡ []
  pub held : parts.held ≡ []
  pub zeros : parts.zeros ≡ 0

-- the numbers that nothing else bounds have 32 bits
abbrev pub InRange : ObjectParts → Type 0
InRange parts = All (λ symbol. (symbol.value < 2 ^ 32) × (symbol.size < 2 ^ 32)) parts.symbols

-- the file is the one that is written for these parts
pub record IsFileOf (parts : ObjectParts) (file : List ℕ) : Type 0 where
  pub well_formed : WellFormed parts
  pub in_range : InRange parts
  pub only_text : OnlyText parts
  pub written : Written parts file

-- what every object that is read is: the object of well-formed parts, with text alone
pub record IsObject (object : Object) : Type 0 where
  pub parts : ObjectParts
  pub well_formed : WellFormed parts
  pub in_range : InRange parts
  pub only_text : OnlyText parts
  pub is : object ≡ object_of parts
