-- What reading files as objects comes to.
use Rattle.std.specs.Prelude.{◌≡◌, ◌<◌, ◌^◌, ℕ, List, All, length, Result, Ok, Err}
use Rattle.elf_file.specs.Object.{Object}
use Rattle.elf_linker.specs.Linked.{object_at}
use Rattle.commands.specs.declared.answer.Answer.{Answer}
use Rattle.commands.specs.declared.answer.Answer.TheVariants as answer
use Rattle.commands.specs.Steps.{IsObjectFile, IsNoObject, AreObjectFiles, IsFirstNoObject}

-- numbers of 32 bits reach over each file
abbrev pub AreSmall : List (List ℕ) → Type 0
AreSmall files = All (λ file. length file < 2 ^ 32) files

-- one file is read
pub data ReadOne (name file : List ℕ) : Result Object Answer → Type 0 where
  is_object : (object : Object) → IsObjectFile file object → ReadOne name file (Ok object)
  is_none : (which : List ℕ) → which ≡ name → IsNoObject file → ReadOne name file (Err (answer.ObjectForm which))
  no_memory : ReadOne name file (Err answer.Memory)

-- files are read, one after the other
pub data ReadFrom (names files : List (List ℕ)) : Result (List Object) Answer → Type 0 where
  are_objects : (objects : List Object) → AreObjectFiles files objects → ReadFrom names files (Ok objects)
  has_none : (which : List ℕ) → IsFirstNoObject names files which → ReadFrom names files (Err (answer.ObjectForm which))
  no_memory_left : ReadFrom names files (Err answer.Memory)

-- there is a symbol with these numbers
pub record IsThere (objects : List Object) (number symbol : ℕ) : Type 0 where
  pub object : number < length objects
  pub entry : symbol < length (object_at objects number).symbols
