-- What an object's parts are made from: lists of borrowed names and of calls, and indexes by names.
use Rattle.std.specs.Prelude.{ℕ, Bool, List, map, Option, Some, None}
use Rattle.std.specs.HashMap.{HashMap, get_by}
use Rattle.std.specs.HashSet.{HashSet, contains_by}
use Rattle.std.specs.Str.{bytes_eq}
use denote.Ref.{Bor}
use Rattle.second_code.specs.declared.calls.CallSite.{CallSite}
use Rattle.second_code.specs.Parts.{Use}

-- the bytes of borrowed names
abbrev pub bytes_of : List (Bor (List ℕ)) → List (List ℕ)
bytes_of names = map (λ name. name.now) names

-- a call whose name is borrowed
abbrev pub use_of : CallSite → Use
use_of call = record { callee = call.callee.now; place = call.place }

-- what an index by names holds for a name
abbrev pub found_at : {V S : Type 0} → HashMap (Bor (List ℕ)) V S → List ℕ → Option V
found_at index name = get_by (λ key. bytes_eq name key.now) index

-- whether a set of names has a name
abbrev pub has : {S : Type 0} → HashSet (Bor (List ℕ)) S → List ℕ → Bool
has set name = contains_by (λ key. bytes_eq name key.now) set

-- the first that there is
abbrev pub or_later : {V : Type 0} → Option V → Option V → Option V
or_later None later = later
or_later (Some first) later = Some first

-- the number, and where there is none the count
abbrev pub number_or : Option ℕ → ℕ → ℕ
number_or None count = count
number_or (Some number) count = number
