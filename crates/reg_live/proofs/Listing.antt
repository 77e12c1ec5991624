-- Lists of what rows have, and numbers above all members of a list.
use Rattle.std.specs.Prelude.{◌≡◌, ◌≢◌, ℕ, zero, suc, ◌+◌, ◌<◌, ◌≤◌, ◌↔◌, true, false, List, [], ◌∷◌, ◌++◌, length, map, take, get_or}
use Rattle.std.specs.List.{Contains}
use Rattle.std.specs.List.Sorted.{IsStrictlyIncreasing}
use Rattle.std.proofs.Common.{refl, sym, ◌∙◌, ap, subst, arith, inl, inr, length-append}
use Rattle.std.proofs.lemmas.Option.{slice_get_within}
use Rattle.std.proofs.lemmas.List.{take_more, take_all}
use Rattle.std.proofs.lemmas.List.Elements.{Contains-push_cases}
use Rattle.flow_walks.specs.Flows.{Flow, Routine, entry_flow, places}
use Rattle.flow_walks.specs.Lists.{list_of, IsPlace, Closed, IsExact}
use Rattle.flow_walks.specs.laws.Cover.{node_is_place, closed_has_live}
use Rattle.rtl_lang.specs.declared.syntax.RtlNode.{RtlNode}
use Rattle.rtl_lang.specs.declared.syntax.RtlParts.{RtlParts}
use Rattle.rtl_lang.specs.Routines.{flow_of, routine}
use Rattle.bit_rows.specs.Rows.{Rows, has}
use Rattle.reg_live.specs.Sweeps.{IsSound, IsSettled, AreBelow, Listed}
use Rattle.reg_live.proofs.Clear.{same_or_not}

-- Numbers above lists

pub below_more : (list : List ℕ) (i least most : ℕ) → i < length list → AreBelow least (take i list) → least ≤ most → get_or list i 0 < most → AreBelow most (take (i + 1) list)
below_more list i least most inside below up here =
    let P : List ℕ → Type 0 = λ part. AreBelow most part in
    subst P (sym (take_more list i 0 inside)) (λ k c. elim (Contains-push_cases (take i list) (get_or list i 0) k c) [
      | inl was ↦ (let h : k < least = below k was in omega arith)
      | inr same ↦ omega arith
    ])

pub below_all : (list : List ℕ) (i least : ℕ) → length list ≤ i → AreBelow least (take i list) → AreBelow least list
below_all list i least whole below = let P : List ℕ → Type 0 = λ part. AreBelow least part in subst P (take_all i list whole) below

pub below_weaker : (list : List ℕ) (least most : ℕ) → least ≤ most → AreBelow least list → AreBelow most list
below_weaker list least most up below k c = let h : k < least = below k c in omega arith

-- Lists

list_within : (xs : List (List ℕ)) (x : List ℕ) (n : ℕ) → n < length xs → list_of (xs ++ x ∷ []) n ≡ list_of xs n
list_within [] x n h = absurd (omega arith)
list_within (y ∷ xs) x zero h = refl
list_within (y ∷ xs) x (suc n) h = list_within xs x n (omega arith)

list_last : (xs : List (List ℕ)) (x : List ℕ) → list_of (xs ++ x ∷ []) (length xs) ≡ x
list_last [] x = refl
list_last (y ∷ xs) x = list_last xs x

list_past : (xs : List (List ℕ)) (n : ℕ) → length xs ≤ n → list_of xs n ≡ []
list_past [] n h = refl
list_past (y ∷ xs) zero h = absurd (omega arith)
list_past (y ∷ xs) (suc n) h = list_past xs n (omega arith)

none_rising : IsStrictlyIncreasing []
none_rising k h = absurd (omega arith)

-- another list than the new last one
rising_other : (xs : List (List ℕ)) (x : List ℕ) (n : ℕ) → n ≢ length xs → IsStrictlyIncreasing (list_of xs n) → IsStrictlyIncreasing (list_of (xs ++ x ∷ []) n)
rising_other [] x zero ne h = absurd (ne refl)
rising_other [] x (suc n) ne h = none_rising
rising_other (y ∷ xs) x zero ne h = h
rising_other (y ∷ xs) x (suc n) ne h = rising_other xs x n (λ e. ne (ap suc e)) h

pub listed_none : (rows : Rows) → Listed rows 0 []
listed_none rows = record { long = refl; members = λ n k h. absurd (omega arith); rising = λ n. none_rising }

-- one more row
pub listed_more : (rows : Rows) (count : ℕ) (lists : List (List ℕ)) (x : List ℕ) → Listed rows count lists → ((k : ℕ) → Contains x k ↔ (has rows count k ≡ true)) → IsStrictlyIncreasing x → Listed rows (count + 1) (lists ++ x ∷ [])
listed_more rows count lists x was members rising =
    let last : list_of (lists ++ x ∷ []) count ≡ x = ap (λ (j : ℕ). list_of (lists ++ x ∷ []) j) (sym was.long) ∙ list_last lists x in
    record {
      long = length-append lists (x ∷ []) ∙ ap (λ (j : ℕ). j + 1) was.long;
      members = λ n k h. elim (same_or_not n count) [
        | inl same ↦ (let P : ℕ → Type 0 = λ j. Contains (list_of (lists ++ x ∷ []) j) k ↔ (has rows j k ≡ true) in let Q : List ℕ → Type 0 = λ list. Contains list k ↔ (has rows count k ≡ true) in subst P (sym same) (subst Q (sym last) (members k)))
        | inr other ↦ (let Q : List ℕ → Type 0 = λ list. Contains list k ↔ (has rows n k ≡ true) in let short : n < count = omega arith in let inside : n < length lists = omega (arith, was.long) in subst Q (sym (list_within lists x n inside)) (was.members n k short))
      ];
      rising = λ n. elim (same_or_not n count) [
        | inl same ↦ (let P : List ℕ → Type 0 = IsStrictlyIncreasing in subst P (sym (ap (λ (j : ℕ). list_of (lists ++ x ∷ []) j) same ∙ last)) rising)
        | inr other ↦ rising_other lists x n (let ne : n ≢ length lists = λ e. other (e ∙ was.long) in ne) (was.rising n)
      ];
    }

-- The result

length_map : (xs : List RtlNode) → length (map flow_of xs) ≡ length xs
length_map [] = refl
length_map (x ∷ xs) = ap suc (length_map xs)

pub places_long : (f : RtlParts) → length (places (routine f)) ≡ length f.graph + 1
places_long f = length-append (map flow_of f.graph) (entry_flow (routine f) ∷ []) ∙ ap (λ (n : ℕ). n + 1) (length_map f.graph)

-- clear rows are sound
pub clear_sound : (r : Routine ℕ) (rows : Rows) → ((row bit : ℕ) → has rows row bit ≡ false) → IsSound r rows
clear_sound r rows none n place k here set = let e = sym (none n k) ∙ set in cc

-- lists of rows that are sound and settled are exact
pub listed_exact : (r : Routine ℕ) (rows : Rows) (count : ℕ) (lists : List (List ℕ)) → count ≡ length (places r) → IsSound r rows → ((n : ℕ) → n < count → IsSettled r rows n) → Listed rows count lists → IsExact r lists
listed_exact r rows count lists all sound settled listed =
    let inside : (n : ℕ) (place : Flow ℕ) → IsPlace r n place → n < count = λ n place here. omega (arith, all, slice_get_within (places r) n place here) in
    let closed : Closed r lists = record {
      whole = listed.long ∙ all;
      asked = λ n m place flow k here next there asks.
          (listed.members n k (inside n place here)).1 (settled n (inside n place here) place m here next k (
            flow,
            there,
            elim asks [
              | inl read ↦ inl read
              | inr (member, free) ↦ inr ((listed.members m k (inside m flow (node_is_place r m flow there))).0 member, free)
            ],
          ));
    } in
    record {
      has_live = closed_has_live r lists closed (λ n place k here c. sound n place k here ((listed.members n k (inside n place here)).0 c));
      rising = listed.rising;
    }
