-- C's types, of the subset (C11, 6.2.5): integers of one and four bytes, void, structs, pointers and arrays.
use Rattle.std.specs.Prelude.{ℕ, ◌+◌, ◌≤◌, zero, suc, ◌≡◌, ◌==◌, ◌||◌, Bool, true, false, cond, List, [], ◌∷◌, map, Option, Some, None}
use Rattle.text_grammar.specs.declared.tree.Number.{Number}
use Rattle.typing_types.specs.declared.class.Base.{Base}
use Rattle.typing_types.specs.declared.class.Base.TheVariants as base
use Rattle.typing_types.specs.declared.class.Integer.{Integer}
use Rattle.typing_types.specs.declared.class.Class.{Class}
use Rattle.typing_types.specs.declared.class.Class.TheVariants as class
use Rattle.typing_types.specs.declared.class.Extent.{Extent}
use Rattle.typing_types.specs.declared.class.Extent.TheVariants as extent

-- A type that a declaration derives from what it begins with: `pointers` pointers to an array of these lengths, the
-- outermost first, whose elements are `stars` pointers to the base. A length that is not known is none. Without
-- lengths there is no array, and no pointer to one.
pub record Derived : Type 0 where
  pub base : Base
  pub stars : ℕ
  pub lengths : List (Option ℕ)
  pub pointers : ℕ

abbrev pub lengths_of : Extent → List Number → List (Option ℕ)
lengths_of extent.Absent rest = []
lengths_of extent.Unknown rest = None ∷ map (λ (n : Number). Some n.value) rest
lengths_of (extent.Known n) rest = Some n ∷ map (λ (n : Number). Some n.value) rest

-- as many pointers to a base as there are stars
abbrev pub plain : Base → ℕ → Derived
plain b n = record { base = b; stars = n; lengths = []; pointers = 0 }

-- what a declarator says: stars before the name, lengths behind it, and maybe `[ ]` in front of these
abbrev pub declared : Base → ℕ → Bool → List Number → Derived
declared b n is_open ls =
    record { base = b; stars = n; lengths = cond is_open (None ∷ map (λ (l : Number). Some l.value) ls) (map (λ (l : Number). Some l.value) ls); pointers = 0 }

-- an array of unknown length whose length has become known
abbrev pub known_first : ℕ → List (Option ℕ) → List (Option ℕ)
known_first n [] = []
known_first n (l ∷ ls) = Some n ∷ ls

abbrev pub with_length : ℕ → Derived → Derived
with_length n t = record t { lengths = known_first n t.lengths }

-- the outermost length of an array, where it is known
abbrev pub first_length : List (Option ℕ) → Option ℕ
first_length [] = None
first_length (l ∷ ls) = l

abbrev pub length_of : Derived → Option ℕ
length_of t = first_length t.lengths

-- what a base without stars is
abbrev pub class_of_base : Base → Class
class_of_base (base.Integer i) = class.Integer i
class_of_base base.Void = class.Void
class_of_base (base.Struct tag) = class.Struct tag

abbrev pub class_of_stars : Base → ℕ → Class
class_of_stars b zero = class_of_base b
class_of_stars b (suc n) = class.Pointer

abbrev pub class_of_pointers : ℕ → Class
class_of_pointers zero = class.Array
class_of_pointers (suc n) = class.Pointer

abbrev pub class_at : Base → ℕ → List (Option ℕ) → ℕ → Class
class_at b stars [] pointers = class_of_stars b stars
class_at b stars (l ∷ ls) pointers = class_of_pointers pointers

-- what a type is
abbrev pub class_of : Derived → Class
class_of t = class_at t.base t.stars t.lengths t.pointers

-- a pointer to a type (C11, 6.5.3.2)
abbrev pub pointer_at : Base → ℕ → List (Option ℕ) → ℕ → Derived
pointer_at b stars [] pointers = plain b (stars + 1)
pointer_at b stars (l ∷ ls) pointers = record { base = b; stars = stars; lengths = l ∷ ls; pointers = pointers + 1 }

abbrev pub pointer_to : Derived → Derived
pointer_to t = pointer_at t.base t.stars t.lengths t.pointers

-- what a pointer points to, and an array's elements
abbrev pub element_of_stars : Base → ℕ → Option Derived
element_of_stars b zero = None
element_of_stars b (suc n) = Some (plain b n)

abbrev pub element_of_array : Base → ℕ → List (Option ℕ) → List (Option ℕ) → ℕ → Derived
element_of_array b stars all inner zero = record { base = b; stars = stars; lengths = inner; pointers = 0 }
element_of_array b stars all inner (suc n) = record { base = b; stars = stars; lengths = all; pointers = n }

abbrev pub element_at : Base → ℕ → List (Option ℕ) → ℕ → Option Derived
element_at b stars [] pointers = element_of_stars b stars
element_at b stars (l ∷ ls) pointers = Some (element_of_array b stars (l ∷ ls) ls pointers)

abbrev pub element_of : Derived → Option Derived
element_of t = element_at t.base t.stars t.lengths t.pointers

-- a struct, or an array of structs: its size waits for the definition of the struct
abbrev pub is_of_structs_at : Base → ℕ → ℕ → Bool
is_of_structs_at (base.Struct tag) zero zero = true
is_of_structs_at b stars pointers = false

abbrev pub is_of_structs : Derived → Bool
is_of_structs t = is_of_structs_at t.base t.stars t.pointers

-- `void`, or an array of it: no object has such a type
abbrev pub is_of_void_at : Base → ℕ → ℕ → Bool
is_of_void_at base.Void zero zero = true
is_of_void_at b stars pointers = false

abbrev pub is_of_void : Derived → Bool
is_of_void t = is_of_void_at t.base t.stars t.pointers

-- whether a length is 0
abbrev pub is_empty_among : List (Option ℕ) → Bool
is_empty_among [] = false
is_empty_among (None ∷ ls) = is_empty_among ls
is_empty_among (Some n ∷ ls) = n == 0 || is_empty_among ls

-- one pointer more cannot be counted
abbrev pub IsDeep : Derived → Type 0
IsDeep t = 4294967295 ≤ t.stars + t.pointers
