-- What a sink got in two parts.
use Rattle.std.specs.Prelude.{◌≡◌, ℕ, List, [], ◌∷◌, ◌++◌, Option, Some, None, option_map, Bool}
use Rattle.std.proofs.Common.{◌∙◌, ap, refl, append_assoc}
use Rattle.cc_base.specs.Seen.{SinkSeen}
use Rattle.cc_base.specs.Outside.{grown, flushed_still}

flushed-twice : (f : Bool) (xs ys : List ℕ) → flushed_still (flushed_still f xs) ys ≡ flushed_still f (xs ++ ys)
flushed-twice f [] ys = refl
flushed-twice f (x ∷ xs) [] = refl
flushed-twice f (x ∷ xs) (y ∷ ys) = refl

told-twice : (t : Option (List ℕ)) (xs ys : List ℕ) → option_map (λ got. got ++ ys) (option_map (λ got. got ++ xs) t) ≡ option_map (λ got. got ++ (xs ++ ys)) t
told-twice None xs ys = refl
told-twice (Some got) xs ys = ap (λ x. Some x) (append_assoc got xs ys)

grown-twice : (o : SinkSeen) (xs ys : List ℕ) → grown (grown o xs) ys ≡ grown o (xs ++ ys)
grown-twice o xs ys =
    ap (λ t. record o { told = t; flushed = flushed_still (flushed_still o.flushed xs) ys }) (told-twice o.told xs ys)
    ∙ ap (λ f. record o { told = option_map (λ got. got ++ (xs ++ ys)) o.told; flushed = f }) (flushed-twice o.flushed xs ys)

pub grown_more : (o o' o'' : SinkSeen) (emits : List ℕ) (b : ℕ) → o' ≡ grown o emits → o'' ≡ grown o' (b ∷ []) → o'' ≡ grown o (emits ++ b ∷ [])
grown_more o o' o'' emits b h k = k ∙ ap (λ s. grown s (b ∷ [])) h ∙ grown-twice o emits (b ∷ [])
