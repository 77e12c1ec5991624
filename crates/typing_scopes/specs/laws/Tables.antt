-- What is known of names after one more is told.
use Rattle.std.specs.Prelude.{ℕ, ◌≡◌, Bool, true, false, cond, List, [], ◌∷◌, Option, Some, None}
use Rattle.std.specs.Str.{bytes_eq}
use Rattle.std.proofs.Common.{refl, sym, ap, ◌∙◌, subst, true≢false}
use Rattle.std.proofs.lemmas.Slice.Eq.{bytes_eq-Decides}
use Rattle.typing_scopes.specs.Tables.{found, with_entry}

names_alike : (xs ys : List ℕ) → bytes_eq xs ys ≡ true → xs ≡ ys
names_alike xs ys h = (bytes_eq-Decides xs ys).0 h

module _ {V : Type 0} where
  -- the name has what was told of it, and all others have what they had
  pub found_with : (es : List (List ℕ × V)) (name other : List ℕ) (v : V) → found (with_entry es name v) other ≡ cond (bytes_eq other name) (Some v) (found es other)
  found_with [] name other v = refl
  found_with (e ∷ es) name other v = by (bytes_eq name e.0) refl (found_with es name other v)
    where
      rest : Option V
      rest = found es other

      again : (b : Bool) → cond b (Some v) rest ≡ cond b (Some v) (cond b (Some e.1) rest)
      again true = refl
      again false = refl

      apart : (a b : Bool) → (a ≡ true → b ≡ true → ⊥) → cond a (Some e.1) (cond b (Some v) rest) ≡ cond b (Some v) (cond a (Some e.1) rest)
      apart true true h = absurd (h refl refl)
      apart true false h = refl
      apart false b h = refl

      by : (b : Bool) → bytes_eq name e.0 ≡ b → found (with_entry es name v) other ≡ cond (bytes_eq other name) (Some v) rest → found (cond b ((e.0, v) ∷ es) (e ∷ with_entry es name v)) other ≡ cond (bytes_eq other name) (Some v) (cond (bytes_eq other e.0) (Some e.1) rest)
      by true same later =
          again (bytes_eq other e.0)
          ∙ ap (λ n. cond (bytes_eq other n) (Some v) (cond (bytes_eq other e.0) (Some e.1) rest)) (sym (names_alike name e.0 same))
      by false differs later =
          ap (λ o. cond (bytes_eq other e.0) (Some e.1) o) later
          ∙ apart (bytes_eq other e.0) (bytes_eq other name)
          (λ is_e is_name. true≢false (sym is_e ∙ ap (λ n. bytes_eq n e.0) (names_alike other name is_name) ∙ differs))
