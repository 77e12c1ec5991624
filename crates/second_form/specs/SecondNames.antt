-- An index of the names of a list of items.
use Rattle.std.specs.Prelude.{◌≡◌, ◌≤◌, ℕ, Bool, true, false, not, ◌&&◌, ◌||◌, List, Option, Some, None, is_some, IsSome, cond, codes}
use Rattle.std.specs.HashMap.{HashMap, get_by}
use Rattle.std.specs.Str.{bytes_eq}
use denote.Ref.{Bor}
use Rattle.second_form.specs.declared.second_items.Item.{Item}
use Rattle.second_form.specs.declared.second_names.Known.{Known}
use Rattle.second_form.specs.SecondForm.{IsAt, HasCall, DeclaredBy, Defined}

-- what the index tells of a name
abbrev pub known_of : {S : Type 0} → HashMap (Bor (List ℕ)) Known S → List ℕ → Option Known
known_of names name = get_by (λ key. bytes_eq name key.now) names

-- whether both are static or neither is
abbrev pub is_alike : Bool → Bool → Bool
is_alike true true = true
is_alike false false = true
is_alike true false = false
is_alike false true = false

-- what is known of a name after one more item of it, where that agrees with the others
abbrev pub joined_with : Option Known → ℕ → Item → Option Known
joined_with None place item = Some (record { local = item.local; first = place; defined = is_some item.body })
joined_with (Some known) place item =
    cond (is_alike known.local item.local && not (known.defined && is_some item.body)) (Some (record { local = known.local; first = known.first; defined = known.defined || is_some item.body })) None

-- what is known of a name tells of all its items
pub record Knows (items : List Item) (name : List ℕ) (known : Known) : Type 0 where
  pub first : DeclaredBy items known.first name
  pub least : (place : ℕ) (item : Item) → IsAt items place item → item.name ≡ name → known.first ≤ place
  pub alike : (place : ℕ) (item : Item) → IsAt items place item → item.name ≡ name → item.local ≡ known.local
  pub defined : known.defined ≡ true → Defined items name
  pub undefined : known.defined ≡ false → (place : ℕ) (item : Item) → IsAt items place item → item.name ≡ name → ¬ IsSome item.body

-- and a name of which nothing is known has none
abbrev pub KnowsIfAny : List Item → List ℕ → Option Known → Type 0
KnowsIfAny items name None = (place : ℕ) (item : Item) → IsAt items place item → ¬ (item.name ≡ name)
KnowsIfAny items name (Some known) = Knows items name known

pub record Indexes {S : Type 0} (items : List Item) (names : HashMap (Bor (List ℕ)) Known S) : Type 0 where
  pub knows : (name : List ℕ) → KnowsIfAny items name (known_of names name)

-- it was first seen at the place or before it
abbrev pub IsSeenBy : Option Known → ℕ → Type 0
IsSeenBy None place = ⊥
IsSeenBy (Some known) place = known.first ≤ place

abbrev pub IsDefined : Option Known → Type 0
IsDefined None = ⊥
IsDefined (Some known) = known.defined ≡ true

-- what the index tells of an item: its calls are declared, and where it is static it is defined and not `main`
pub record KeepsItem {S : Type 0} (names : HashMap (Bor (List ℕ)) Known S) (place : ℕ) (item : Item) : Type 0 where
  pub calls : (name : List ℕ) → HasCall item.body name → IsSeenBy (known_of names name) place
  pub defined : item.local ≡ true → IsDefined (known_of names item.name)
  pub main : item.name ≡ codes "main" → item.local ≡ false
