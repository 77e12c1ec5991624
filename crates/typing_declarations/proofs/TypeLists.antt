-- Lists of types that are told to be the same have one length.
use Rattle.std.proofs.Common.{◌≡◌, false, ◌&&◌, List, [], ◌∷◌, length, suc, refl, ap, ◌∙◌}
use Rattle.std.proofs.Math.Bool.{and-false}
use Rattle.typing_types.specs.Types.{Derived}
use Rattle.typing_types.specs.Same.{same_type}
use Rattle.typing_declarations.specs.Reserved.{same_types}

pub lengths_differ : (ss ts : List Derived) → (length ss ≡ length ts → ⊥) → same_types ss ts ≡ false
lengths_differ [] [] apart = absurd (apart refl)
lengths_differ [] (t ∷ ts) apart = refl
lengths_differ (s ∷ ss) [] apart = refl
lengths_differ (s ∷ ss) (t ∷ ts) apart =
    ap (λ b. same_type s t && b) (lengths_differ ss ts (λ same. apart (ap suc same))) ∙ and-false (same_type s t)
