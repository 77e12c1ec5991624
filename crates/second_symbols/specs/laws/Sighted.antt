-- Which names are among a unit's symbols, and where, by what its text says of them.
use Rattle.std.proofs.Common.{◌≡◌, ℕ, suc, ◌+◌, ◌<◌, Bool, true, false, not, ◌&&◌, ◌||◌, cond, List, [], ◌∷◌, ◌++◌, map, filter, length, slice_get, Some, refl, sym, ap, ◌∙◌, subst, arith, append_assoc, append-nil}
use Rattle.std.specs.List.{list_any, position_from}
use Rattle.std.specs.Str.{bytes_eq}
use Rattle.std.proofs.Math.Bool.{or-true, or-false, or_assoc, and-true, and-false}
use Rattle.std.proofs.lemmas.Slice.Eq.{bytes_eq-Decides}
use Rattle.std.proofs.lemmas.List.Folds.{list_any-append}
use Rattle.typing_symbols.specs.Names.{is_among, with_name, with_names}
use Rattle.typing_symbols.specs.Sights.{Seen}
use Rattle.typing_symbols.specs.declared.known.Known.{Known}
use Rattle.typing_symbols.specs.declared.known.Role.{Role}
use Rattle.typing_symbols.specs.declared.known.Role.TheVariants as role
use Rattle.typing_symbols.specs.Symbols.{plays, names_with, known_of, is_local, is_global, names_that, locals_of, names_of}

-- Lists of names

-- names that are found to be alike
pub alike : (n m : List ℕ) → bytes_eq n m ≡ true → n ≡ m
alike n m e = (bytes_eq-Decides n m).0 e

itself : (n : List ℕ) → bytes_eq n n ≡ true
itself n = (bytes_eq-Decides n n).1 refl

-- a name that is added, or that was there
among_one : (n : List ℕ) (xs : List (List ℕ)) (y : List ℕ) → is_among n (with_name xs y) ≡ (is_among n xs || bytes_eq n y)
among_one n xs y = there (is_among y xs) refl
  where
    same : is_among y xs ≡ true → (b : Bool) → bytes_eq n y ≡ b → is_among n xs ≡ (is_among n xs || b)
    same h true e = ap (λ m. is_among m xs) (alike n y e) ∙ h ∙ sym (or-true (is_among n xs))
    same h false e = sym (or-false (is_among n xs))

    there : (b : Bool) → is_among y xs ≡ b → is_among n (cond b xs (xs ++ y ∷ [])) ≡ (is_among n xs || bytes_eq n y)
    there true h = same h (bytes_eq n y) refl
    there false h = list_any-append (bytes_eq n) xs (y ∷ []) ∙ ap (λ b. is_among n xs || b) (or-false (bytes_eq n y))

pub among_all : (n : List ℕ) (xs ys : List (List ℕ)) → is_among n (with_names xs ys) ≡ (is_among n xs || is_among n ys)
among_all n xs [] = sym (or-false (is_among n xs))
among_all n xs (y ∷ ys) =
    among_all n (with_name xs y) ys
    ∙ ap (λ b. b || is_among n ys) (among_one n xs y)
    ∙ or_assoc (is_among n xs) (bytes_eq n y) (is_among n ys)

-- names are only added
adds_one : (xs : List (List ℕ)) (y : List ℕ) → (more : List (List ℕ)) × (with_name xs y ≡ xs ++ more)
adds_one xs y = by (is_among y xs)
  where
    by : (b : Bool) → (more : List (List ℕ)) × (cond b xs (xs ++ y ∷ []) ≡ xs ++ more)
    by true = ([], sym (append-nil xs))
    by false = (y ∷ [], refl)

pub adds_all : (xs ys : List (List ℕ)) → (more : List (List ℕ)) × (with_names xs ys ≡ xs ++ more)
adds_all xs [] = ([], sym (append-nil xs))
adds_all xs (y ∷ ys) =
    let one = adds_one xs y in
    let all = adds_all (with_name xs y) ys in
    (one.0 ++ all.0, all.1 ∙ ap (λ n. n ++ all.0) one.1 ∙ append_assoc xs one.0 all.0)

-- Sights

-- a name stands somewhere as this
abbrev pub sighted : Role → List ℕ → List Seen → Bool
sighted r name sights = list_any (λ (s : Seen). bytes_eq name s.name && plays r s.how) sights

-- it stands somewhere
abbrev pub is_seen : List ℕ → List Seen → Bool
is_seen name sights = list_any (λ (s : Seen). bytes_eq name s.name) sights

among_filtered : (n : List ℕ) (p : Seen → Bool) (sights : List Seen) → is_among n (map (λ (s : Seen). s.name) (filter p sights)) ≡ list_any (λ (s : Seen). bytes_eq n s.name && p s) sights
among_filtered n p [] = refl
among_filtered n p (s ∷ sights) = by (p s) (among_filtered n p sights)
  where
    by : (b : Bool) → is_among n (map (λ (s : Seen). s.name) (filter p sights)) ≡ list_any (λ (s : Seen). bytes_eq n s.name && p s) sights
        → is_among n (map (λ (s : Seen). s.name) (cond b (s ∷ filter p sights) (filter p sights))) ≡ ((bytes_eq n s.name && b) || list_any (λ (s : Seen). bytes_eq n s.name && p s) sights)
    by true later = ap (λ b. bytes_eq n s.name || b) later ∙ ap (λ b. b || list_any (λ (s : Seen). bytes_eq n s.name && p s) sights) (sym (and-true (bytes_eq n s.name)))
    by false later = later ∙ sym (ap (λ b. b || list_any (λ (s : Seen). bytes_eq n s.name && p s) sights) (and-false (bytes_eq n s.name)))

among_with : (r : Role) (n : List ℕ) (sights : List Seen) → is_among n (names_with r sights) ≡ sighted r n sights
among_with r n sights = among_all n [] _ ∙ among_filtered n (λ (s : Seen). plays r s.how) sights

-- a test of the name alone
among_that : (n : List ℕ) (holds : List ℕ → Bool) (sights : List Seen) → is_among n (names_that holds sights) ≡ (holds n && is_seen n sights)
among_that n holds sights = among_filtered n (λ (s : Seen). holds s.name) sights ∙ go sights
  where
    head : (b : Bool) (m : List ℕ) → bytes_eq n m ≡ b → (h : Bool) → holds n ≡ h → (rest : Bool) → ((b && holds m) || (h && rest)) ≡ (h && (b || rest))
    head true m e true h rest = ap (λ b. b || rest) (ap holds (sym (alike n m e)) ∙ h)
    head true m e false h rest = ap (λ b. b || false) (ap holds (sym (alike n m e)) ∙ h)
    head false m e h is rest = refl

    go : (sights : List Seen) → list_any (λ (s : Seen). bytes_eq n s.name && holds s.name) sights ≡ (holds n && is_seen n sights)
    go [] = nothing (holds n)
      where
        nothing : (b : Bool) → false ≡ (b && false)
        nothing true = refl
        nothing false = refl
    go (s ∷ sights) = ap (λ b. (bytes_eq n s.name && holds s.name) || b) (go sights) ∙ head (bytes_eq n s.name) s.name refl (holds n) refl (is_seen n sights)

-- what stands somewhere as something stands somewhere
pub seen_somehow : (r : Role) (n : List ℕ) (sights : List Seen) → sighted r n sights ≡ true → is_seen n sights ≡ true
seen_somehow r n [] h = h
seen_somehow r n (s ∷ sights) h = by (bytes_eq n s.name) (plays r s.how) h (seen_somehow r n sights)
  where
    by : (a b : Bool) → ((a && b) || sighted r n sights) ≡ true → (sighted r n sights ≡ true → is_seen n sights ≡ true) → (a || is_seen n sights) ≡ true
    by true b h later = refl
    by false b h later = later h

-- Symbols

module _ (sights : List Seen) where
  abbrev pub known : Known
  known = known_of sights

  abbrev pub all_names : List (List ℕ)
  all_names = names_of known sights

  abbrev pub local_names : List (List ℕ)
  local_names = locals_of known sights

  local_is : (n : List ℕ) → is_local known n ≡ (sighted role.Definition n sights && sighted role.Static n sights)
  local_is n = ap (λ b. b && is_among n known.statics) (among_with role.Definition n sights) ∙ ap (λ b. sighted role.Definition n sights && b) (among_with role.Static n sights)

  among_locals : (n : List ℕ) → is_among n local_names ≡ (is_local known n && is_seen n sights)
  among_locals n = among_all n [] _ ∙ among_that n (is_local known) sights

  -- a local symbol is a name that is defined and static
  pub local_symbols : (n : List ℕ) → sighted role.Definition n sights ≡ true → is_among n local_names ≡ sighted role.Static n sights
  local_symbols n h =
      among_locals n
      ∙ ap (λ b. is_local known n && b) (seen_somehow role.Definition n sights h)
      ∙ and-true (is_local known n)
      ∙ local_is n
      ∙ ap (λ b. b && sighted role.Static n sights) h

  -- a name that is defined or used has a symbol
  pub has_symbol : (n : List ℕ) → (sighted role.Definition n sights || sighted role.Use n sights) ≡ true → is_among n all_names ≡ true
  has_symbol n h =
      among_all n local_names _
      ∙ ap (λ b. b || is_among n (names_that (is_global known) sights)) (among_locals n)
      ∙ ap (λ b. (is_local known n && is_seen n sights) || b) (among_that n (is_global known) sights)
      ∙ ap (λ b. (is_local known n && b) || (is_global known n && b)) (somewhere (sighted role.Definition n sights) refl h)
      ∙ ap (λ b. (is_local known n && true) || ((b && not (is_local known n)) && true)) (ap (λ b. b || is_among n known.used) (among_with role.Definition n sights) ∙ ap (λ b. sighted role.Definition n sights || b) (among_with role.Use n sights) ∙ h)
      ∙ either (is_local known n)
    where
      somewhere : (d : Bool) → sighted role.Definition n sights ≡ d → (d || sighted role.Use n sights) ≡ true → is_seen n sights ≡ true
      somewhere true e h = seen_somehow role.Definition n sights e
      somewhere false e h = seen_somehow role.Use n sights h

      either : (b : Bool) → ((b && true) || ((true && not b) && true)) ≡ true
      either true = refl
      either false = refl

-- Places

-- where a list has something that passes a test, the first such has a place
pub record Placed {X : Type 0} (p : X → Bool) (k : ℕ) (xs : List X) (limit : ℕ) : Type 0 where
  pub place : ℕ
  pub x : X
  pub first : position_from p k xs ≡ Some (k + place)
  pub at : slice_get xs place ≡ Some x
  pub passes : p x ≡ true
  pub within : place < limit

module _ {X : Type 0} (p : X → Bool) where
  later_one : (k : ℕ) (x : X) (xs : List X) (limit : ℕ) → p x ≡ false → Placed p (k + 1) xs limit → Placed p k (x ∷ xs) (suc limit)
  later_one k x xs limit fails h =
      record {
        place = suc h.place;
        x = h.x;
        first = ap (λ b. cond b (Some k) (position_from p (k + 1) xs)) fails ∙ h.first ∙ ap (λ n. Some n) (let e : k + 1 + h.place ≡ k + suc h.place = omega arith in e);
        at = h.at;
        passes = h.passes;
        within = let w = h.within in omega (arith, w);
      }

  -- it is among the first ones, whatever comes behind them
  pub placed_among : (k : ℕ) (xs ys : List X) → list_any p xs ≡ true → Placed p k (xs ++ ys) (length xs)
  placed_among k [] ys h = cc
  placed_among k (x ∷ xs) ys h = by (p x) refl h (placed_among (k + 1) xs ys)
    where
      by : (b : Bool) → p x ≡ b → (b || list_any p xs) ≡ true → (list_any p xs ≡ true → Placed p (k + 1) (xs ++ ys) (length xs)) → Placed p k (x ∷ xs ++ ys) (suc (length xs))
      by true first h later =
          record {
            place = 0;
            x = x;
            first = ap (λ b. cond b (Some k) (position_from p (k + 1) (xs ++ ys))) first ∙ ap (λ n. Some n) (let e : k ≡ k + 0 = omega arith in e);
            at = refl;
            passes = first;
            within = omega arith;
          }
      by false fails h later = later_one k x (xs ++ ys) (length xs) fails (later h)

  -- it is behind those that do not pass
  pub placed_behind : (k : ℕ) (xs ys : List X) → list_any p xs ≡ false → position_from p k (xs ++ ys) ≡ position_from p (k + length xs) ys
  placed_behind k [] ys h = ap (λ k. position_from p k ys) (let e : k ≡ k + 0 = omega arith in e)
  placed_behind k (x ∷ xs) ys h = by (p x) refl h (placed_behind (k + 1) xs ys)
    where
      by : (b : Bool) → p x ≡ b → (b || list_any p xs) ≡ false → (list_any p xs ≡ false → position_from p (k + 1) (xs ++ ys) ≡ position_from p (k + 1 + length xs) ys) → position_from p k (x ∷ xs ++ ys) ≡ position_from p (k + suc (length xs)) ys
      by true first h later = cc
      by false fails h later = ap (λ b. cond b (Some k) (position_from p (k + 1) (xs ++ ys))) fails ∙ later h ∙ ap (λ k. position_from p k ys) (let e : k + 1 + length xs ≡ k + suc (length xs) = omega arith in e)

  pub placed : (k : ℕ) (xs : List X) → list_any p xs ≡ true → Placed p k xs (length xs)
  placed k xs h = subst (λ ys. Placed p k ys (length xs)) (append-nil xs) (placed_among k xs [] h)
