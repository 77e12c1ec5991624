-- What stands at a place of a list, or else something.
use Rattle.std.proofs.Common.{◌≡◌, ℕ, List, Some, None, get_or, ap, ◌∙◌}
use Rattle.std.specs.Prelude.{slice_get, unwrap_or}
use Rattle.std.proofs.lemmas.Option.{unwrap_or-slice_get}

pub none_or : {A : Type 0} (xs : List A) (i : ℕ) (d : A) → None ≡ slice_get xs i → d ≡ get_or xs i d
none_or xs i d e = ap (λ r. unwrap_or r d) e ∙ unwrap_or-slice_get xs i d

pub some_or : {A : Type 0} (xs : List A) (i : ℕ) (x d : A) → Some x ≡ slice_get xs i → x ≡ get_or xs i d
some_or xs i x d e = ap (λ r. unwrap_or r d) e ∙ unwrap_or-slice_get xs i d
