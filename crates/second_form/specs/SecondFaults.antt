-- Which lists of units of the second form are programs, and what is wrong with another.
use Rattle.std.specs.Prelude.{◌≡◌, ℕ, suc, Bool, false, not, ◌&&◌, List, [], ◌∷◌, ◌++◌, codes, find, filter, Option, Some, None, is_some, if◌then◌else◌}
use Rattle.std.specs.List.{list_any}
use Rattle.std.specs.Str.{bytes_eq}
use Rattle.second_form.specs.declared.second_items.SmallStmt.{SmallStmt}
use Rattle.second_form.specs.declared.second_items.SmallStmt.TheVariants.{Put, Call, Return}
use Rattle.second_form.specs.declared.second_items.Item.{Item}
use Rattle.second_form.specs.SecondRun.{own, shown}

-- a call of the name
abbrev pub is_call_of : List ℕ → SmallStmt → Bool
is_call_of name (Put n) = false
is_call_of name (Call called) = bytes_eq called name
is_call_of name (Return n) = false

abbrev pub has_call_of : List ℕ → Option (List SmallStmt) → Bool
has_call_of name None = false
has_call_of name (Some statements) = list_any (is_call_of name) statements

-- a unit's names, in the order of the first tokens that name them. Each called name is declared before, so these tokens stand in heads
abbrev pub names_of : List Item → List (List ℕ)
names_of [] = []
names_of (item ∷ items) = item.name ∷ filter (λ name. not (bytes_eq item.name name)) (names_of items)

-- the names that a unit shows to others, and those that it calls and does not define
abbrev pub is_shown : List ℕ → List Item → Bool
is_shown name items = is_some (shown items name)

abbrev pub is_wanted : List ℕ → List Item → Bool
is_wanted name items = list_any (λ item. has_call_of name item.body) items && not (is_some (own items name))

abbrev pub shown_names : List Item → List (List ℕ)
shown_names items = filter (λ name. is_shown name items) (names_of items)

abbrev pub wanted_names : List Item → List (List ℕ)
wanted_names items = filter (λ name. is_wanted name items) (names_of items)

-- what is wrong: a definition of a name that an earlier unit shows too, or a use of one that no unit shows. The units are counted from 0. The runtime, which uses `main`, has the number after the last
pub data SourceFault : Type 0 where
  Doubled : ℕ → List ℕ → SourceFault
  Unresolved : ℕ → List ℕ → SourceFault

abbrev pub fault_or : (List ℕ → SourceFault) → Option (List ℕ) → Option SourceFault → Option SourceFault
fault_or fault (Some name) others = Some (fault name)
fault_or fault None others = others

-- the first definition that is doubled, of the units that have the numbers from this one on, and what is found where there is none
abbrev pub doubled_or : List (List Item) → ℕ → List (List Item) → Option SourceFault → Option SourceFault
doubled_or earlier number [] others = others
doubled_or earlier number (unit ∷ units) others =
    fault_or (Doubled number) (find (λ name. list_any (is_shown name) earlier) (shown_names unit)) (doubled_or (earlier ++ unit ∷ []) (suc number) units others)

-- the first use that is unresolved. The runtime's use is the last
abbrev pub unresolved : List (List Item) → ℕ → List (List Item) → Option SourceFault
unresolved all number [] = if list_any (is_shown (codes "main")) all then None else Some (Unresolved number (codes "main"))
unresolved all number (unit ∷ units) = fault_or (Unresolved number) (find (λ name. not (list_any (is_shown name) all)) (wanted_names unit)) (unresolved all (suc number) units)

-- the first doubled definition, else the first unresolved use
abbrev pub source_fault : List (List Item) → Option SourceFault
source_fault units = doubled_or [] 0 units (unresolved units 0 units)

abbrev pub Linkable : List (List Item) → Type 0
Linkable units = source_fault units ≡ None
