-- The objects that are given to the linker.
use Rattle.std.specs.Prelude.{◌≤◌, List, length, All}
use Rattle.elf_file.specs.Object.{Object}
use Rattle.elf_file.specs.Read.{IsObject}

-- each is one that is read, and there are at most 4,096
pub record AreInputs (objects : List Object) : Type 0 where
  pub few : length objects ≤ 4096
  pub read : All IsObject objects
