-- What stands under the names of files, where these tell their bytes, and what is put there.
use Rattle.std.specs.Prelude.{◌≡◌, ℕ, ◌<◌, ◌≤◌, List, [], ◌∷◌, ◌++◌, length, Some, None}
use Rattle.std.specs.Ordering.{nat_cmp}
use Rattle.std.specs.Cmp.Lexicographic.{slice_cmp}
use Rattle.std.specs.FinMap.{FinMap, get, insert}
use Rattle.cc_base.specs.Outside.{file_limit}
use Rattle.commands.specs.Doing.{Outside}

-- the bytes of each name
abbrev pub Contents : Type 0
Contents = FinMap (slice_cmp nat_cmp) (List ℕ)

-- under the name stand these bytes, no more than a file may have
pub record StandsAt (files : Contents) (name bytes : List ℕ) : Type 0 where
  pub there : get files name ≡ Some bytes
  pub short : length bytes ≤ file_limit

-- there is no such file
abbrev pub IsAbsent : Contents → List ℕ → Type 0
IsAbsent files name = get files name ≡ None

-- the file has more bytes than a file may have
abbrev pub IsLong : Contents → List ℕ → Type 0
IsLong files name = (bytes : List ℕ) × (get files name ≡ Some bytes) × (file_limit < length bytes)

-- each of these names is one of those things, in their order
abbrev pub AreAll : {A : Type 0} → (List ℕ → A → Type 0) → List (List ℕ) → List A → Type 0
AreAll is [] [] = Unit {0}
AreAll is [] (a ∷ all) = ⊥
AreAll is (name ∷ names) [] = ⊥
AreAll is (name ∷ names) (a ∷ all) = is name a × AreAll is names all

-- a name of which this is so, where each name before it is one of those things
pub record FirstStop {A : Type 0} (is : List ℕ → A → Type 0) (names : List (List ℕ)) (stops : List ℕ → Type 0) : Type 0 where
  pub done : List (List ℕ)
  pub all : List A
  pub are : AreAll is done all
  pub name : List ℕ
  pub left : List (List ℕ)
  pub order : names ≡ done ++ name ∷ left
  pub so : stops name

-- bytes that are put under a name
pub record NamedBytes : Type 0 where
  pub name : List ℕ
  pub bytes : List ℕ

-- the contents after these puts, one after the other
abbrev pub put_all : List NamedBytes → Contents → Contents
put_all [] files = files
put_all (put ∷ puts) files = put_all puts (insert files put.name put.bytes)

-- these puts were made, and nothing was taken or emitted
pub record DidPut (files : Contents) (puts : List NamedBytes) (old new : Outside) : Type 0 where
  pub put : new.files.told ≡ Some (put_all puts files)
  pub input : new.input ≡ old.input
  pub output : new.output ≡ old.output
