-- Types that are told to be one are one, and no others are.
use Rattle.std.specs.Prelude.{ℕ, ◌≡◌, ◌==◌, Bool, true, false, ◌&&◌, List, [], ◌∷◌, Option, Some, None}
use Rattle.std.proofs.Common.{refl, ap, sym, ◌∙◌}
use Rattle.std.proofs.lemmas.Bool.{and_parts, and_from, false≢true, eqb-true, eq-eqb}
use Rattle.typing_types.specs.declared.class.Integer.{Integer}
use Rattle.typing_types.specs.declared.class.Integer.TheVariants as integer
use Rattle.typing_types.specs.declared.class.Base.{Base}
use Rattle.typing_types.specs.declared.class.Base.TheVariants as base
use Rattle.typing_types.specs.Types.{Derived}
use Rattle.typing_types.specs.Same.{same_integer, same_base, same_length, same_lengths, same_type}

same_integer-true : (i j : Integer) → same_integer i j ≡ true → i ≡ j
same_integer-true integer.Char integer.Char h = refl
same_integer-true integer.UnsignedChar integer.UnsignedChar h = refl
same_integer-true integer.Int integer.Int h = refl
same_integer-true integer.UnsignedInt integer.UnsignedInt h = refl
same_integer-true i j h = absurd (false≢true h)

same_integer-self : (i : Integer) → same_integer i i ≡ true
same_integer-self integer.Char = refl
same_integer-self integer.UnsignedChar = refl
same_integer-self integer.Int = refl
same_integer-self integer.UnsignedInt = refl

same_base-true : (a b : Base) → same_base a b ≡ true → a ≡ b
same_base-true (base.Integer i) (base.Integer j) h = ap (λ k. base.Integer k) (same_integer-true i j h)
same_base-true base.Void base.Void h = refl
same_base-true (base.Struct s) (base.Struct t) h = ap (λ k. base.Struct k) (eqb-true s t h)
same_base-true a b h = absurd (false≢true h)

same_base-self : (a : Base) → same_base a a ≡ true
same_base-self (base.Integer i) = same_integer-self i
same_base-self base.Void = refl
same_base-self (base.Struct s) = eq-eqb s s refl

same_length-true : (a b : Option ℕ) → same_length a b ≡ true → a ≡ b
same_length-true None None h = refl
same_length-true (Some n) (Some m) h = ap (λ k. Some k) (eqb-true n m h)
same_length-true a b h = absurd (false≢true h)

same_length-self : (a : Option ℕ) → same_length a a ≡ true
same_length-self None = refl
same_length-self (Some n) = eq-eqb n n refl

same_lengths-true : (a b : List (Option ℕ)) → same_lengths a b ≡ true → a ≡ b
same_lengths-true [] [] h = refl
same_lengths-true (l ∷ ls) (m ∷ ms) h =
    let both = and_parts (same_length l m) (same_lengths ls ms) h in
    ap (λ k. k ∷ ls) (same_length-true l m both.0) ∙ ap (λ k. m ∷ k) (same_lengths-true ls ms both.1)
same_lengths-true a b h = absurd (false≢true h)

same_lengths-self : (a : List (Option ℕ)) → same_lengths a a ≡ true
same_lengths-self [] = refl
same_lengths-self (l ∷ ls) = and_from _ _ (same_length-self l) (same_lengths-self ls)

pub same_type-true : (a b : Derived) → same_type a b ≡ true → a ≡ b
same_type-true a b h =
    let outer = and_parts (same_base a.base b.base && a.stars == b.stars && a.pointers == b.pointers) (same_lengths a.lengths b.lengths) h in
    let middle = and_parts (same_base a.base b.base && a.stars == b.stars) (a.pointers == b.pointers) outer.0 in
    let inner = and_parts (same_base a.base b.base) (a.stars == b.stars) middle.0 in
    ap (λ x. record a { base = x }) (same_base-true a.base b.base inner.0)
    ∙ ap (λ x. record a { base = b.base; stars = x }) (eqb-true a.stars b.stars inner.1)
    ∙ ap (λ x. record a { base = b.base; stars = b.stars; pointers = x }) (eqb-true a.pointers b.pointers middle.1)
    ∙ ap (λ x. record b { lengths = x }) (same_lengths-true a.lengths b.lengths outer.1)

pub same_type-self : (a : Derived) → same_type a a ≡ true
same_type-self a =
    and_from _ _ (and_from _ _ (and_from _ _ (same_base-self a.base) (eq-eqb a.stars a.stars refl)) (eq-eqb a.pointers a.pointers refl)) (same_lengths-self a.lengths)
