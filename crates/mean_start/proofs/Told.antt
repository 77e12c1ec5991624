-- What is told of names, item by item.
use Rattle.std.proofs.Common.{◌≡◌, ℕ, ◌+◌, ◌<◌, ◌≤◌, Bool, true, false, ◌&&◌, cond, List, length, drop, get_or, Option, Some, None, refl, sym, ap, ◌∙◌}
use Rattle.std.specs.Option.{option_or, is_some}
use Rattle.std.specs.Str.{bytes_eq}
use Rattle.std.proofs.lemmas.Slice.Eq.{bytes_eq-Decides}
use Rattle.std.proofs.lemmas.List.{drop_all}
use Rattle.cc_base.specs.Faces.{first_answer}
use Rattle.mean_start.specs.Firsts.{told}
use Rattle.mean_start.proofs.Lists.{drop_at}

pub or_none : {V : Type 0} (o : Option V) → option_or o None ≡ o
or_none None = refl
or_none (Some x) = refl

or_assoc : {V : Type 0} (a b c : Option V) → option_or (option_or a b) c ≡ option_or a (option_or b c)
or_assoc None b c = refl
or_assoc (Some x) b c = refl

names_alike : (xs ys : List ℕ) → bytes_eq xs ys ≡ true → xs ≡ ys
names_alike xs ys h = (bytes_eq-Decides xs ys).0 h

pub nothing : {V : Type 0} (o : Option V) → is_some o ≡ false → o ≡ None
nothing None h = refl
nothing (Some x) h = cc

-- a name that is told first
pub told_first : {V : Type 0} (old : List ℕ → Option V) (t : Bool) (key : List ℕ) (v : V) → t ≡ true → old key ≡ None → (other : List ℕ) → cond (bytes_eq key other) (Some v) (old other) ≡ option_or (old other) (told t key v other)
told_first {V} old t key v s e other = by t s (bytes_eq key other) (old other) (λ h. ap old (sym (names_alike key other h)) ∙ e)
  where
    by : (t : Bool) → t ≡ true → (b : Bool) (o : Option V) → (b ≡ true → o ≡ None) → cond b (Some v) o ≡ option_or o (cond (b && t) (Some v) None)
    by true s true o k = ap (λ (p : Option V). option_or p (Some v)) (sym (k refl))
    by true s false o k = sym (or_none o)
    by false s b o k = cc

-- one item more
pub asked_more : {A V : Type 0} (asks : List ℕ → ℕ → A → Option V) (xs : List A) (i : ℕ) (x : A) (mid new : List ℕ → Option V) → i < length xs → x ≡ get_or xs i x → ((n : List ℕ) → new n ≡ option_or (mid n) (asks n i x)) → (n : List ℕ) → option_or (new n) (first_answer (asks n) (i + 1) (drop (i + 1) xs)) ≡ option_or (mid n) (first_answer (asks n) i (drop i xs))
asked_more {A} {V} asks xs i x mid new h e adds n =
    ap (λ (o : Option V). option_or o (first_answer (asks n) (i + 1) (drop (i + 1) xs))) (adds n)
    ∙ or_assoc (mid n) (asks n i x) (first_answer (asks n) (i + 1) (drop (i + 1) xs))
    ∙ ap (λ (l : List A). option_or (mid n) (first_answer (asks n) i l)) (sym (drop_at xs i x h e))

-- all of them
pub asked_all : {A V : Type 0} (asks : List ℕ → ℕ → A → Option V) (xs : List A) (i : ℕ) (new : List ℕ → Option V) → length xs ≤ i → (n : List ℕ) → new n ≡ option_or (new n) (first_answer (asks n) i (drop i xs))
asked_all {A} asks xs i new h n = sym (ap (λ (l : List A). option_or (new n) (first_answer (asks n) i l)) (drop_all i xs h) ∙ or_none (new n))
