-- A keyword or a sign is compared with the spellings that begin as it does, and is none of the others.
use Rattle.std.proofs.Common.{◌≡◌, ℕ, suc, List, [], ◌∷◌, Option, Some, None, Bool, true, false, if◌then◌else◌, refl, sym, ap, ◌∙◌, ◌+◌, ◌<◌, arith, eq-eqb}
use Rattle.std.specs.Prelude.{slice_index, slice_get, ◌==◌, length, nat_lt, not, cond}
use Rattle.std.specs.Option.{option_and_then, unwrap_or}
use Rattle.std.specs.List.{position, prefix_len}
use Rattle.std.specs.Str.{bytes_eq}
use Rattle.std.proofs.lemmas.Bool.Decides.{Decides-like, Decides-ltb, same_from_decides}
use Rattle.std.proofs.lemmas.Slice.Eq.{bytes_eq-Decides}
use Rattle.text_grammar.specs.declared.kind.Kind.{Kind}
use Rattle.text_grammar.specs.declared.kind.Kind.TheVariants as k
use Rattle.text_parser.specs.Symbols.{spelled}

first_same : (bytes other : List ℕ) (first : ℕ) → slice_index bytes 0 ≡ first → bytes_eq bytes other ≡ true → slice_index other 0 ≡ first
first_same bytes other first h e = ap (λ w. slice_index w 0) (sym ((bytes_eq-Decides bytes other).0 e)) ∙ h

-- the kind beside the first spelling that the bytes are
abbrev pub chosen : List (List ℕ) → List Kind → List ℕ → Kind
chosen [] kinds bytes = k.Unused
chosen (s ∷ spellings) [] bytes = k.Unused
chosen (s ∷ spellings) (kind ∷ kinds) bytes = if bytes_eq bytes s then kind else chosen spellings kinds bytes

nothing : (o : Option ℕ) → unwrap_or (option_and_then (slice_get []) o) k.Unused ≡ k.Unused
nothing None = refl
nothing (Some n) = refl

lt_suc : (a b : ℕ) → nat_lt (suc a) (suc b) ≡ nat_lt a b
lt_suc a b = same_from_decides (nat_lt (suc a) (suc b)) (nat_lt a b) (Decides-like (nat_lt (suc a) (suc b)) (λ (h : suc a < suc b). omega arith) (λ (h : a < b). omega arith) (Decides-ltb (suc a) (suc b))) (Decides-ltb a b)

lt_some : (n : ℕ) → nat_lt 0 (suc n) ≡ true
lt_some n = let h : 0 < suc n = omega arith in (Decides-ltb 0 (suc n)).1 h

one_more : (n : ℕ) → 1 + n ≡ suc n
one_more n = omega arith

-- the choice behind the first spelling, where the bytes are that or are not
step : (s : List ℕ) (spellings : List (List ℕ)) (kind : Kind) (kinds : List Kind) (bytes : List ℕ)
    → spelled (s ∷ spellings) (kind ∷ kinds) bytes ≡ if bytes_eq bytes s then kind else spelled spellings kinds bytes
step s spellings kind kinds bytes = go (bytes_eq bytes s)
  where
    len : ℕ
    len = prefix_len (λ x. not (bytes_eq bytes x)) spellings

    later : (b : Bool) → nat_lt len (length spellings) ≡ b → unwrap_or (option_and_then (slice_get (kind ∷ kinds)) (cond b (Some (suc len)) None)) k.Unused ≡ unwrap_or (option_and_then (slice_get kinds) (cond b (Some len) None)) k.Unused
    later true e = refl
    later false e = refl

    go : (b : Bool) → unwrap_or (option_and_then (slice_get (kind ∷ kinds)) (cond (nat_lt (cond (not b) (1 + len) 0) (suc (length spellings))) (Some (cond (not b) (1 + len) 0)) None)) k.Unused
        ≡ if b then kind else unwrap_or (option_and_then (slice_get kinds) (cond (nat_lt len (length spellings)) (Some len) None)) k.Unused
    go true = ap (λ t. unwrap_or (option_and_then (slice_get (kind ∷ kinds)) (cond t (Some 0) None)) k.Unused) (lt_some (length spellings))
    go false =
        ap (λ m. unwrap_or (option_and_then (slice_get (kind ∷ kinds)) (cond (nat_lt m (suc (length spellings))) (Some m) None)) k.Unused) (one_more len)
        ∙ ap (λ t. unwrap_or (option_and_then (slice_get (kind ∷ kinds)) (cond t (Some (suc len)) None)) k.Unused) (lt_suc len (length spellings))
        ∙ later (nat_lt len (length spellings)) refl

chosen_spelled : (spellings : List (List ℕ)) (kinds : List Kind) (bytes : List ℕ) → spelled spellings kinds bytes ≡ chosen spellings kinds bytes
chosen_spelled [] kinds bytes = refl
chosen_spelled (s ∷ spellings) [] bytes = nothing (position (bytes_eq bytes) (s ∷ spellings))
chosen_spelled (s ∷ spellings) (kind ∷ kinds) bytes =
    step s spellings kind kinds bytes ∙ ap (λ other. if bytes_eq bytes s then kind else other) (chosen_spelled spellings kinds bytes)

-- the kinds beside the spellings that begin so
abbrev pub kinds_from : ℕ → List (List ℕ) → List Kind → List Kind
kinds_from first [] kinds = []
kinds_from first (s ∷ spellings) [] = []
kinds_from first (s ∷ spellings) (kind ∷ kinds) = if slice_index s 0 == first then kind ∷ kinds_from first spellings kinds else kinds_from first spellings kinds

abbrev pub spellings_from : ℕ → List (List ℕ) → List Kind → List (List ℕ)
spellings_from first [] kinds = []
spellings_from first (s ∷ spellings) [] = []
spellings_from first (s ∷ spellings) (kind ∷ kinds) = if slice_index s 0 == first then s ∷ spellings_from first spellings kinds else spellings_from first spellings kinds

chosen_from : (bytes : List ℕ) (first : ℕ) (spellings : List (List ℕ)) (kinds : List Kind) → slice_index bytes 0 ≡ first
    → chosen (spellings_from first spellings kinds) (kinds_from first spellings kinds) bytes ≡ chosen spellings kinds bytes
chosen_from bytes first [] kinds h = refl
chosen_from bytes first (s ∷ spellings) [] h = refl
chosen_from bytes first (s ∷ spellings) (kind ∷ kinds) h = go (slice_index s 0 == first) refl (bytes_eq bytes s) refl (chosen_from bytes first spellings kinds h)
  where
    go : (b : Bool) → (slice_index s 0 == first) ≡ b → (e : Bool) → bytes_eq bytes s ≡ e
        → chosen (spellings_from first spellings kinds) (kinds_from first spellings kinds) bytes ≡ chosen spellings kinds bytes
        → chosen (if b then s ∷ spellings_from first spellings kinds else spellings_from first spellings kinds) (if b then kind ∷ kinds_from first spellings kinds else kinds_from first spellings kinds) bytes
        ≡ (if e then kind else chosen spellings kinds bytes)
    go true p e q r = ap (λ t. if t then kind else chosen (spellings_from first spellings kinds) (kinds_from first spellings kinds) bytes) q ∙ ap (λ other. if e then kind else other) r
    go false p true q r = absurd (let t = eq-eqb (slice_index s 0) first (first_same bytes s first h q) in cc)
    go false p false q r = r

pub by_first : (bytes : List ℕ) (first : ℕ) (spellings : List (List ℕ)) (kinds : List Kind) → slice_index bytes 0 ≡ first
    → spelled (spellings_from first spellings kinds) (kinds_from first spellings kinds) bytes ≡ spelled spellings kinds bytes
by_first bytes first spellings kinds h =
    chosen_spelled (spellings_from first spellings kinds) (kinds_from first spellings kinds) bytes
    ∙ chosen_from bytes first spellings kinds h
    ∙ sym (chosen_spelled spellings kinds bytes)

-- none of the spellings begins so
abbrev pub BeginOtherwise : ℕ → List (List ℕ) → Type 0
BeginOtherwise first [] = Unit {0}
BeginOtherwise first (s ∷ spellings) = (slice_index s 0 ≡ first → ⊥) × BeginOtherwise first spellings

none_chosen : (bytes : List ℕ) (first : ℕ) (spellings : List (List ℕ)) (kinds : List Kind) → slice_index bytes 0 ≡ first → BeginOtherwise first spellings → chosen spellings kinds bytes ≡ k.Unused
none_chosen bytes first [] kinds h a = refl
none_chosen bytes first (s ∷ spellings) [] h a = refl
none_chosen bytes first (s ∷ spellings) (kind ∷ kinds) h a = go (bytes_eq bytes s) refl (none_chosen bytes first spellings kinds h a.1)
  where
    go : (b : Bool) → bytes_eq bytes s ≡ b → chosen spellings kinds bytes ≡ k.Unused → (if b then kind else chosen spellings kinds bytes) ≡ k.Unused
    go true e n = absurd (a.0 (first_same bytes s first h e))
    go false e n = n

pub none_so : (bytes : List ℕ) (first : ℕ) (spellings : List (List ℕ)) (kinds : List Kind) → slice_index bytes 0 ≡ first → BeginOtherwise first spellings → spelled spellings kinds bytes ≡ k.Unused
none_so bytes first spellings kinds h a = chosen_spelled spellings kinds bytes ∙ none_chosen bytes first spellings kinds h a
