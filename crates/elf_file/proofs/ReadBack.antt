-- A file that passes the checks is that of the parts in it, and the file of parts passes them.
use Rattle.std.proofs.Common.{◌≡◌, sym, ap, subst, ◌∙◌, ℕ, ◌+◌, ◌-◌, ◌/◌, ◌^◌, ◌<◌, List, length}
use Rattle.elf_file.specs.Places.{word_at}
use Rattle.elf_file.specs.Written.{sizes_of}
use Rattle.elf_file.specs.Object.{object_of, object_in}
use Rattle.elf_file.specs.Read.{IsFileOf}
use Rattle.elf_file.specs.Checks.{parts_in, HasSizes, AllStands}
use Rattle.elf_file.specs.declared.layout.Sizes.{Sizes}
use Rattle.elf_file.specs.declared.parts.ObjectParts.{ObjectParts}
use Rattle.elf_file.proofs.Entries.{AreBytes}
use Rattle.elf_file.proofs.SizesBack.{sizes_back}
use Rattle.elf_file.proofs.PartsBack.{parts_back}
use Rattle.elf_file.proofs.ChecksBack.{AllStands-written}
use Rattle.elf_file.proofs.PartsForth.{Passes, IsFileOf-forth, object_forth}

-- the parts that were found, and the object of them
abbrev pub Found : List ℕ → Sizes → Type 0
Found file sizes = IsFileOf (parts_in file sizes) file × (object_in file sizes ≡ object_of (parts_in file sizes))

pub found : (file : List ℕ) (sizes : Sizes) → AreBytes file → length file < 2 ^ 32 → HasSizes file sizes → AllStands file sizes → Found file sizes
found file sizes bytes small has stands =
    let passes : Passes file sizes = record { bytes = bytes; whole = has.whole; small = small; some = has.some; few = has.few; stands = stands } in
    let P : Sizes → Type 0 = λ s. Passes file s in
    let F : Sizes → Type 0 = λ s. Found file s in
    let read = subst P has.read passes in
    let h = length file - 440 in
    subst F (sym has.read) (
      IsFileOf-forth file (word_at file (h + 60)) (word_at file (h + 220) / 8) (word_at file (h + 340) / 16) (word_at file (h + 348)) (word_at file (h + 380)) read,
      object_forth file (word_at file (h + 60)) (word_at file (h + 220) / 8) (word_at file (h + 340) / 16) (word_at file (h + 348)) (word_at file (h + 380)) read,
    )

pub sizes_are : (file : List ℕ) (sizes : Sizes) (parts : ObjectParts) → HasSizes file sizes → IsFileOf parts file → sizes_of parts ≡ sizes
sizes_are file sizes parts has is = sizes_back parts file is ∙ sym has.read

pub stands_back : (file : List ℕ) (sizes : Sizes) (parts : ObjectParts) → HasSizes file sizes → IsFileOf parts file → AllStands file sizes
stands_back file sizes parts has is = let A : Sizes → Type 0 = λ s. AllStands file s in subst A (sizes_are file sizes parts has is) (AllStands-written parts file is)

pub object_back : (file : List ℕ) (sizes : Sizes) (parts : ObjectParts) → HasSizes file sizes → IsFileOf parts file → Found file sizes → object_in file sizes ≡ object_of parts
object_back file sizes parts has is f =
    f.1 ∙ ap object_of (ap (λ (s : Sizes). parts_in file s) (sym (sizes_are file sizes parts has is)) ∙ parts_back parts file is)
