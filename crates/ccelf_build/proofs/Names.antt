-- Names of files: what a put leaves of the others, and that the objects of units are none of the units.
use Rattle.std.proofs.Common.{◌≡◌, ◌≢◌, ◌<◌, ◌∷◌, ◌++◌, [], ℕ, suc, ◌+◌, List, Some, map, length, get_or, Bool, true, false, refl, ap, ◌∙◌, sym, arith, length-append}
use Rattle.std.specs.Prelude.{cond}
use Rattle.std.specs.FinMap.{get, insert, get-insert}
use Rattle.std.specs.Str.{bytes_eq}
use Rattle.std.specs.Cmp.Lexicographic.{nat_list_cmp_total}
use Rattle.std.proofs.lemmas.List.{get_or_append_left, get_or-append-add, get_or-map, length-map}
use Rattle.std.proofs.lemmas.Map.Text.{is_eq-slice_cmp}
use Rattle.std.proofs.lemmas.Slice.Eq.{bytes_eq-Decides}
use Rattle.command_words.specs.Commands.{AreNames, object_name}
use Rattle.ccelf_build.specs.Contents.{Contents}

no_yes : (b : Bool) → (b ≡ true → ⊥) → b ≡ false
no_yes true h = absurd (h refl)
no_yes false h = refl

-- what stands under another name is as before
pub get-other : (files : Contents) (name bytes other : List ℕ) → other ≢ name → get (insert files name bytes) other ≡ get files other
get-other files name bytes other differ =
    let no : bytes_eq other name ≡ false = no_yes (bytes_eq other name) (λ e. differ ((bytes_eq-Decides other name).0 e)) in
    get-insert nat_list_cmp_total files name bytes other ∙ ap (λ (b : Bool). cond b (Some bytes) (get files other)) (is_eq-slice_cmp other name ∙ no)

-- no one of these names is this one
abbrev pub Lacks : List ℕ → List (List ℕ) → Type 0
Lacks name [] = Unit {0}
Lacks name (other ∷ names) = (other ≢ name) × Lacks name names

-- no later unit has the name of the object of an earlier one
abbrev pub Apart : List (List ℕ) → Type 0
Apart [] = Unit {0}
Apart (unit ∷ units) = Lacks (object_name unit) units × Apart units

lacks_from : (name : List ℕ) (names : List (List ℕ)) → ((k : ℕ) → k < length names → get_or names k [] ≢ name) → Lacks name names
lacks_from name [] h = tt
lacks_from name (other ∷ names) h = (h 0 (omega arith), lacks_from name names (λ k l. h (suc k) (omega arith)))

apart_from : (units : List (List ℕ)) → ((k j : ℕ) → k < length units → j < length units → get_or units k [] ≢ object_name (get_or units j [])) → Apart units
apart_from [] h = tt
apart_from (unit ∷ units) h = (lacks_from (object_name unit) units (λ k l. h (suc k) 0 (omega arith) (omega arith)), apart_from units (λ k j l m. h (suc k) (suc j) (omega arith) (omega arith)))

module _ (image : List ℕ) (units : List (List ℕ)) (names : AreNames (image ∷ units ++ map object_name units)) where
  -- a unit's name, and an object's, among all names
  unit_at : (k : ℕ) → k < length units → get_or (image ∷ units ++ map object_name units) (suc k) [] ≡ get_or units k []
  unit_at k l = get_or_append_left units (map object_name units) [] k l

  object_at : (j : ℕ) → j < length units → get_or (image ∷ units ++ map object_name units) (suc (length units + j)) [] ≡ object_name (get_or units j [])
  object_at j l = get_or-append-add units (map object_name units) j [] ∙ get_or-map object_name units j [] [] l

  many : length (image ∷ units ++ map object_name units) ≡ suc (length units + length units)
  many = let a = length-append units (map object_name units) in let b = length-map units object_name in omega arith

  pub units_apart : Apart units
  units_apart =
      apart_from units (λ k j l m e.
      names.differ (suc k) (suc (length units + j)) [] (omega arith) (let n = many in omega arith) (unit_at k l ∙ e ∙ sym (object_at j m)))
