-- Objects by their numbers, and their files.
use Rattle.std.proofs.Common.{◌≡◌, ℕ, zero, suc, ◌<◌, ◌≤◌, List, [], ◌∷◌, get_or, length, refl, sym, ap, ◌∙◌, subst, arith, length-append}
use Rattle.std.proofs.lemmas.List.{get_or_append_left}
use Rattle.std.proofs.Math.Seq.{get_or-append_seam}
use Rattle.elf_file.specs.Object.{Object, object_of}
use Rattle.elf_file.specs.Read.{IsFileOf}
use Rattle.elf_linker.specs.Runtime.{runtime, with_runtime}
use Rattle.elf_linker.specs.Linked.{object_at}
use Rattle.commands.specs.Steps.{IsObjectFile, AreObjectFiles}

abbrev empty : Object
empty = record { sections = []; symbols = []; relocs = [] }

pub same_many : (files : List (List ℕ)) (objects : List Object) → AreObjectFiles files objects → length files ≡ length objects
same_many [] [] a = refl
same_many (file ∷ files) (object ∷ objects) a = ap suc (same_many files objects a.1)
same_many [] (object ∷ objects) a = absurd a
same_many (file ∷ files) [] a = absurd a

pub file_there : (files : List (List ℕ)) (objects : List Object) → AreObjectFiles files objects → (k : ℕ) (file : List ℕ) → k < length files → file ≡ get_or files k file → IsObjectFile file (object_at objects k)
file_there [] objects a k file l e = let none : ⊥ = omega (arith, l) in absurd none
file_there (first ∷ files) [] a k file l e = absurd a
file_there (first ∷ files) (object ∷ objects) a zero file l e = let P : List ℕ → Type 0 = λ f. IsObjectFile f object in subst P (sym e) a.0
file_there (first ∷ files) (object ∷ objects) a (suc k) file l e = file_there files objects a.1 k file (omega (arith, l)) e

-- the runtime has the number after the last object
pub last_object : (objects : List Object) (number : ℕ) → length objects ≤ number → number < length (with_runtime objects) → object_at (with_runtime objects) number ≡ object_of runtime
last_object objects number m l =
    let n = length-append objects (object_of runtime ∷ []) in
    let same : number ≡ length objects = omega (arith, m, l, n) in
    ap (λ (k : ℕ). object_at (with_runtime objects) k) same ∙ get_or-append_seam objects (object_of runtime) [] empty

pub own_object : (objects : List Object) (number : ℕ) → number < length objects → object_at (with_runtime objects) number ≡ object_at objects number
own_object objects number l = get_or_append_left objects (object_of runtime ∷ []) empty number l

-- the view of a file is its object
pub view_is : (file : List ℕ) (object view : Object) (o : IsObjectFile file object) → (IsFileOf o.parts file → view ≡ object_of o.parts) → view ≡ object
view_is file object view o back = back o.file_of ∙ sym o.is
