-- What the conditions say after a comparison: of the operands themselves, with and without signs.
use Rattle.std.specs.Prelude.{◌≡◌, ℕ, ◌^◌, ◌<◌, Bool, not, ◌==◌, nat_lt, nat_le, int_lt, int_le}
use Rattle.i386_code.specs.declared.instr.Cond.{Cond}
use Rattle.i386_code.specs.declared.instr.Cond.TheVariants.{B, Ae, E, Ne, Be, A, L, Ge, Le, G}
use Rattle.i386_arith.specs.Words.{signed}
use Rattle.i386_arith.specs.Operations.{difference}
use Rattle.i386_arith.specs.Conditions.{holds}

abbrev pub compares : Cond → ℕ → ℕ → Bool
compares B a b = nat_lt a b
compares Ae a b = not (nat_lt a b)
compares E a b = a == b
compares Ne a b = not (a == b)
compares Be a b = nat_le a b
compares A a b = not (nat_le a b)
compares L a b = int_lt (signed a) (signed b)
compares Ge a b = not (int_lt (signed a) (signed b))
compares Le a b = int_le (signed a) (signed b)
compares G a b = not (int_le (signed a) (signed b))

-- after a comparison of any two words each condition holds just where the operands compare so
abbrev pub ConditionsCompare : Type 0
ConditionsCompare = (cond : Cond) (a b : ℕ) → a < 2 ^ 32 → b < 2 ^ 32 → holds cond (difference a b).flags ≡ compares cond a b
