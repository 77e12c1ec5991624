-- What was told first of each name.
use Rattle.std.specs.Prelude.{◌≡◌, ℕ, Bool, cond, ◌&&◌, List, Option, Some, None}
use Rattle.std.specs.Option.{option_or}
use Rattle.std.specs.HashMap.{HashMap, get_by}
use Rattle.std.specs.Str.{bytes_eq}
use denote.Ref.{Bor}
use Rattle.cc_base.specs.Faces.{first_answer}

-- what a map holds for a name
abbrev pub found : {V S : Type 0} → HashMap (Bor (List ℕ)) V S → List ℕ → Option V
found m name = get_by (λ key. bytes_eq name key.now) m

-- the map holds this for each name
abbrev pub Tells : {V S : Type 0} → HashMap (Bor (List ℕ)) V S → (List ℕ → Option V) → Type 0
Tells m what = (name : List ℕ) → found m name ≡ what name

-- the new map holds what the old one does, and this for the other names
abbrev pub Adds : {V S : Type 0} → HashMap (Bor (List ℕ)) V S → HashMap (Bor (List ℕ)) V S → (List ℕ → Option V) → Type 0
Adds old new more = (name : List ℕ) → found new name ≡ option_or (found old name) (more name)

-- a value that is told of one name, or of none
abbrev pub told : {V : Type 0} → Bool → List ℕ → V → List ℕ → Option V
told tells key value name = cond (bytes_eq key name && tells) (Some value) None

-- the value of the first item of a list that passes a test. Items are numbered from k
abbrev pub first_with : {A V : Type 0} → (A → Bool) → (ℕ → A → V) → ℕ → List A → Option V
first_with test value k xs = first_answer (λ i x. cond (test x) (Some (value i x)) None) k xs
