-- What holds of the fields of a view.
use Rattle.std.specs.Prelude.{◌≡◌, ℕ, ◌^◌, ◌<◌, List, length}
use Rattle.elf_file.specs.Layout.{places_of, file_length}
use Rattle.elf_file.specs.Object.{object_in}
use Rattle.elf_file.specs.Read.{IsObject}
use Rattle.elf_file.specs.declared.layout.Sizes.{Sizes}
use Rattle.elf_file.specs.declared.layout.Places.{Places}

-- The sizes are those of the whole file, and the places follow from them.
pub record IsWhole (file : List ℕ) (sizes : Sizes) (at : Places) : Type 0 where
  pub whole : length file ≡ file_length sizes
  pub small : length file < 2 ^ 32
  pub places : at ≡ places_of sizes

-- and what stands in the file is an object
pub record IsView (file : List ℕ) (sizes : Sizes) (at : Places) : Type 0 where
  pub whole : IsWhole file sizes at
  pub object : IsObject (object_in file sizes)
