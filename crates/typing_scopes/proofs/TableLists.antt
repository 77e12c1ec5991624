-- Lists of names with what is known of them, and the maps that hold them.
use Rattle.std.proofs.Common.{◌≡◌, ℕ, ◌+◌, zero, suc, Bool, true, false, not, cond, List, [], ◌∷◌, map, length, position, slice_get, Option, Some, None, refl, sym, ap, ◌∙◌}
use Rattle.std.specs.Prelude.{nat_lt}
use Rattle.std.specs.List.{prefix_len}
use Rattle.std.proofs.lemmas.List.{length-map}
use Rattle.std.specs.Option.{option_map}
use Rattle.std.specs.Map.{lookup, keys_of}
use Rattle.std.specs.Str.{bytes_eq}
use Rattle.indexmap.specs.IndexMap.{insert_entry}
use denote.Ref.{Bor}
use Rattle.typing_scopes.specs.Tables.{found, found_at, with_entry}

module _ {V : Type 0} where
  abbrev pub stripped : Bor (List ℕ) × V → List ℕ × V
  stripped e = (e.0.now, e.1)

  -- a look-up finds what the list has
  pub lookup_stripped : (name : List ℕ) (es : List (Bor (List ℕ) × V)) → lookup (λ (k : Bor (List ℕ)). bytes_eq name k.now) es ≡ found (map stripped es) name
  lookup_stripped name [] = refl
  lookup_stripped name (e ∷ es) = ap (cond (bytes_eq name e.0.now) (Some e.1)) (lookup_stripped name es)

  -- and so does one by place
  pub at_stripped : (es : List (Bor (List ℕ) × V)) (i : ℕ) → option_map (λ (e : Bor (List ℕ) × V). e.1) (slice_get es i) ≡ found_at (map stripped es) i
  at_stripped [] i = refl
  at_stripped (e ∷ es) zero = refl
  at_stripped (e ∷ es) (suc i) = at_stripped es i

  -- an insertion changes the list as it is told
  pub set_stripped : (es : List (Bor (List ℕ) × V)) (k : Bor (List ℕ)) (v : V) → map stripped (insert_entry (λ (x y : Bor (List ℕ)). bytes_eq x.now y.now) es k v) ≡ with_entry (map stripped es) k.now v
  set_stripped [] k v = refl
  set_stripped (e ∷ es) k v = by (bytes_eq k.now e.0.now) (set_stripped es k v)
    where
      eq : Bor (List ℕ) → Bor (List ℕ) → Bool
      eq = λ x y. bytes_eq x.now y.now

      by : (b : Bool) → map stripped (insert_entry eq es k v) ≡ with_entry (map stripped es) k.now v → map stripped (cond b ((e.0, v) ∷ es) (e ∷ insert_entry eq es k v)) ≡ cond b ((e.0.now, v) ∷ map stripped es) (stripped e ∷ with_entry (map stripped es) k.now v)
      by true later = refl
      by false later = ap (λ r. stripped e ∷ r) later

prefix_map : {A : Type 0} (f : A → List ℕ) (p : List ℕ → Bool) (xs : List A) → prefix_len (λ x. p (f x)) xs ≡ prefix_len p (map f xs)
prefix_map f p [] = refl
prefix_map f p (x ∷ xs) = ap (λ n. cond (p (f x)) (1 + n) 0) (prefix_map f p xs)

position_map : {A : Type 0} (f : A → List ℕ) (p : List ℕ → Bool) (xs : List A) → position (λ x. p (f x)) xs ≡ position p (map f xs)
position_map f p xs =
    ap (λ n. cond (nat_lt n (length xs)) (Some n) None) (prefix_map f (λ n. not (p n)) xs)
    ∙ ap (λ n. cond (nat_lt (prefix_len (λ n. not (p n)) (map f xs)) n) (Some (prefix_len (λ n. not (p n)) (map f xs))) None) (sym (length-map xs f))

keys_stripped : {V : Type 0} (es : List (Bor (List ℕ) × V)) → map (λ (k : Bor (List ℕ)). k.now) (keys_of es) ≡ keys_of (map stripped es)
keys_stripped [] = refl
keys_stripped (e ∷ es) = ap (λ ks. e.0.now ∷ ks) (keys_stripped es)

-- a name has the same place in the map and in the list
pub place_stripped : {V : Type 0} (name : List ℕ) (es : List (Bor (List ℕ) × V)) → position (λ (k : Bor (List ℕ)). bytes_eq name k.now) (keys_of es) ≡ position (bytes_eq name) (keys_of (map stripped es))
place_stripped name es =
    position_map (λ (k : Bor (List ℕ)). k.now) (bytes_eq name) (keys_of es) ∙ ap (λ ks. position (bytes_eq name) ks) (keys_stripped es)
