-- The flags of a difference, by the signs of both operands.
use Rattle.std.proofs.Common.{◌≡◌, ℕ, ◌<◌, ◌^◌, Bool, not, ◌==◌, ◌||◌, nat_lt, nat_le, int_lt, int_le, ◌-ℤ◌, refl, ap, ◌∙◌, arith}
use Rattle.std.proofs.lemmas.Int.{ints}
use Rattle.cc_base.specs.Words.{sub32}
use Rattle.i386_code.specs.declared.instr.Cond.TheVariants.{B, Ae, E, Ne, Be, A, L, Ge, Le, G}
use Rattle.i386_arith.specs.Words.{signed, is_signed_word}
use Rattle.i386_arith.specs.Operations.{difference}
use Rattle.i386_arith.specs.Conditions.{holds, differ}
use Rattle.i386_arith.specs.Comparing.{compares, ConditionsCompare}

equal : (a b : ℕ) → a < 2 ^ 32 → b < 2 ^ 32 → (sub32 a b == 0) ≡ (a == b)
equal a b h k = grind arith

below_or_equal : (a b : ℕ) → a < 2 ^ 32 → b < 2 ^ 32 → (nat_lt a b || (a == b)) ≡ nat_le a b
below_or_equal a b h k = grind arith

less : (a b : ℕ) → a < 2 ^ 32 → b < 2 ^ 32 → differ (nat_le 2147483648 (sub32 a b)) (not (is_signed_word (signed a -ℤ signed b))) ≡ int_lt (signed a) (signed b)
less a b h k = grind (arith, ints)

less_or_equal : (a b : ℕ) → a < 2 ^ 32 → b < 2 ^ 32 → ((a == b) || int_lt (signed a) (signed b)) ≡ int_le (signed a) (signed b)
less_or_equal a b h k = grind (arith, ints)

be_is : (a b : ℕ) → a < 2 ^ 32 → b < 2 ^ 32 → holds Be (difference a b).flags ≡ compares Be a b
be_is a b h k = ap (λ (x : Bool). nat_lt a b || x) (equal a b h k) ∙ below_or_equal a b h k

le_is : (a b : ℕ) → a < 2 ^ 32 → b < 2 ^ 32 → holds Le (difference a b).flags ≡ compares Le a b
le_is a b h k = ap (λ (x : Bool). x || holds L (difference a b).flags) (equal a b h k) ∙ ap (λ (x : Bool). (a == b) || x) (less a b h k) ∙ less_or_equal a b h k

pub conditions_compare : ConditionsCompare
conditions_compare B a b h k = refl
conditions_compare Ae a b h k = refl
conditions_compare E a b h k = equal a b h k
conditions_compare Ne a b h k = ap not (equal a b h k)
conditions_compare Be a b h k = be_is a b h k
conditions_compare A a b h k = ap not (be_is a b h k)
conditions_compare L a b h k = less a b h k
conditions_compare Ge a b h k = ap not (less a b h k)
conditions_compare Le a b h k = le_is a b h k
conditions_compare G a b h k = ap not (le_is a b h k)
