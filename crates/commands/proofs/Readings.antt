-- Files that are read as objects, one after the other.
use Rattle.std.proofs.Common.{◌≡◌, ℕ, ◌+◌, ◌<◌, List, [], ◌∷◌, ◌++◌, drop, get_or, length, Result, Ok, Err, sym, ap, ◌∙◌, subst, arith, append-nil}
use Rattle.std.proofs.lemmas.List.{drop_more, drop_all}
use Rattle.elf_file.specs.Object.{Object}
use Rattle.commands.specs.declared.answer.Answer.{Answer}
use Rattle.commands.specs.declared.answer.Answer.TheVariants as answer
use Rattle.commands.specs.Steps.{IsObjectFile, IsFirstNoObject, this, later}
use Rattle.commands.specs.LinkingSteps.{ReadOne, is_object, is_none, no_memory, ReadFrom, are_objects, has_none, no_memory_left}
use Rattle.commands.proofs.EachSteps.{prepend, prepend_none, prepend_two}

-- the files so far are those of these objects, and what the rest comes to is what all come to
abbrev pub Reading : List (List ℕ) → List (List ℕ) → List (List ℕ) → List (List ℕ) → List Object → Type 0
Reading names files rest_names rest objects = (result : Result (List Object) Answer) → ReadFrom rest_names rest result → ReadFrom names files (prepend objects result)

pub begun_reading : (names files : List (List ℕ)) → Reading names files names files []
begun_reading names files result r = let P : Result (List Object) Answer → Type 0 = λ x. ReadFrom names files x in subst P (prepend_none result) r

one_read : (name file : List ℕ) (names files : List (List ℕ)) (object : Object) → IsObjectFile file object → (result : Result (List Object) Answer) → ReadFrom names files result → ReadFrom (name ∷ names) (file ∷ files) (prepend (object ∷ []) result)
one_read name file names files object o (Ok objects) (are_objects _ a) = are_objects (object ∷ objects) (o, a)
one_read name file names files object o (Err (answer.ObjectForm which)) (has_none _ h) = has_none which (later name file which names files object o h)
one_read name file names files object o (Err answer.Memory) no_memory_left = no_memory_left
one_read name file names files object o (Err answer.Words) h = elim h [ ]
one_read name file names files object o (Err (answer.Missing _)) h = elim h [ ]
one_read name file names files object o (Err answer.ReadFault) h = elim h [ ]
one_read name file names files object o (Err answer.WriteFault) h = elim h [ ]
one_read name file names files object o (Err (answer.LimitFile _)) h = elim h [ ]
one_read name file names files object o (Err (answer.LimitForm _)) h = elim h [ ]
one_read name file names files object o (Err (answer.LimitText _)) h = elim h [ ]
one_read name file names files object o (Err (answer.LimitDeep _ _)) h = elim h [ ]
one_read name file names files object o (Err (answer.Syntax _ _ _)) h = elim h [ ]
one_read name file names files object o (Err (answer.Typing _ _ _)) h = elim h [ ]
one_read name file names files object o (Err (answer.LimitUnit _ _ _)) h = elim h [ ]
one_read name file names files object o (Err answer.Shown) h = elim h [ ]
one_read name file names files object o (Err (answer.Doubled _ _)) h = elim h [ ]
one_read name file names files object o (Err (answer.Unresolved _ _)) h = elim h [ ]
one_read name file names files object o (Err (answer.Sized _ _ _ _)) h = elim h [ ]
one_read name file names files object o (Err (answer.Range _)) h = elim h [ ]
one_read name file names files object o (Err (answer.ImageForm _)) h = elim h [ ]
one_read name file names files object o (Err (answer.ImageSegment _ _)) h = elim h [ ]
one_read name file names files object o (Err (answer.ImageEntry _)) h = elim h [ ]
one_read name file names files object o (Err (answer.ObjectStored _)) h = elim h [ ]
one_read name file names files object o (Err (answer.ImageStored _)) h = elim h [ ]
one_read name file names files object o (Err (answer.Ended _)) h = elim h [ ]
one_read name file names files object o (Err answer.Spent) h = elim h [ ]
one_read name file names files object o (Err (answer.Stuck _ _)) h = elim h [ ]
one_read name file names files object o (Err (answer.Wrong _)) h = elim h [ ]
one_read name file names files object o (Err (answer.Deep _)) h = elim h [ ]

pub one_more_read : (names files : List (List ℕ)) (name file : List ℕ) (rest_names rest : List (List ℕ)) (objects : List Object) (object : Object) → Reading names files (name ∷ rest_names) (file ∷ rest) objects → ReadOne name file (Ok object)
    → Reading names files rest_names rest (objects ++ object ∷ [])
one_more_read names files name file rest_names rest objects object reading (is_object _ o) result r =
    let P : Result (List Object) Answer → Type 0 = λ x. ReadFrom names files x in
    subst P (prepend_two objects object result) (reading (prepend (object ∷ []) result) (one_read name file rest_names rest object o result r))

none_read : (name file : List ℕ) (rest_names rest : List (List ℕ)) (told : Answer) → ReadOne name file (Err told) → ReadFrom (name ∷ rest_names) (file ∷ rest) (Err told)
none_read name file rest_names rest (answer.ObjectForm which) (is_none _ e h) =
    let P : List ℕ → Type 0 = λ n. IsFirstNoObject (name ∷ rest_names) (file ∷ rest) n in has_none which (subst P (sym e) (this name file rest_names rest h))
none_read name file rest_names rest answer.Memory no_memory = no_memory_left
none_read name file rest_names rest answer.Words h = elim h [ ]
none_read name file rest_names rest (answer.Missing _) h = elim h [ ]
none_read name file rest_names rest answer.ReadFault h = elim h [ ]
none_read name file rest_names rest answer.WriteFault h = elim h [ ]
none_read name file rest_names rest (answer.LimitFile _) h = elim h [ ]
none_read name file rest_names rest (answer.LimitForm _) h = elim h [ ]
none_read name file rest_names rest (answer.LimitText _) h = elim h [ ]
none_read name file rest_names rest (answer.LimitDeep _ _) h = elim h [ ]
none_read name file rest_names rest (answer.Syntax _ _ _) h = elim h [ ]
none_read name file rest_names rest (answer.Typing _ _ _) h = elim h [ ]
none_read name file rest_names rest (answer.LimitUnit _ _ _) h = elim h [ ]
none_read name file rest_names rest answer.Shown h = elim h [ ]
none_read name file rest_names rest (answer.Doubled _ _) h = elim h [ ]
none_read name file rest_names rest (answer.Unresolved _ _) h = elim h [ ]
none_read name file rest_names rest (answer.Sized _ _ _ _) h = elim h [ ]
none_read name file rest_names rest (answer.Range _) h = elim h [ ]
none_read name file rest_names rest (answer.ImageForm _) h = elim h [ ]
none_read name file rest_names rest (answer.ImageSegment _ _) h = elim h [ ]
none_read name file rest_names rest (answer.ImageEntry _) h = elim h [ ]
none_read name file rest_names rest (answer.ObjectStored _) h = elim h [ ]
none_read name file rest_names rest (answer.ImageStored _) h = elim h [ ]
none_read name file rest_names rest (answer.Ended _) h = elim h [ ]
none_read name file rest_names rest answer.Spent h = elim h [ ]
none_read name file rest_names rest (answer.Stuck _ _) h = elim h [ ]
none_read name file rest_names rest (answer.Wrong _) h = elim h [ ]
none_read name file rest_names rest (answer.Deep _) h = elim h [ ]

pub failed_read : (names files : List (List ℕ)) (name file : List ℕ) (rest_names rest : List (List ℕ)) (objects : List Object) (told : Answer) → Reading names files (name ∷ rest_names) (file ∷ rest) objects → ReadOne name file (Err told) → ReadFrom names files (Err told)
failed_read names files name file rest_names rest objects told reading r = reading (Err told) (none_read name file rest_names rest told r)

pub all_read : (names files : List (List ℕ)) (objects : List Object) → Reading names files [] [] objects → ReadFrom names files (Ok objects)
all_read names files objects reading = let P : List Object → Type 0 = λ xs. ReadFrom names files (Ok xs) in subst P (append-nil objects) (reading (Ok []) (are_objects [] tt))

pub no_room : (names files : List (List ℕ)) → ReadFrom names files (Err answer.Memory)
no_room names files = no_memory_left

pub opened_file : (files : List (List ℕ)) (k : ℕ) (file : List ℕ) → k < length files → file ≡ get_or files k file → drop k files ≡ file ∷ drop (k + 1) files
opened_file files k file l at = drop_more files k file l ∙ ap (λ (f : List ℕ). f ∷ drop (k + 1) files) (sym at)

pub no_files : (files : List (List ℕ)) (k : ℕ) → length files ≡ k → drop k files ≡ []
no_files files k l = drop_all k files (omega (arith, l))
