-- What keeps names, and raises neither bound, keeps the rules.
use Rattle.std.specs.Prelude.{◌≡◌, ◌≤◌, ℕ}
use Rattle.std.proofs.Common.{subst, sym, arith}
use Rattle.unit_names.specs.Names.{NamedUnit}
use Rattle.unit_rules.specs.Rules.{IsBounded, Kept}

at_most : {a b c : ℕ} → a ≤ b → b ≤ c → a ≤ c
at_most h g = omega (arith, h, g)

bounds_pass_on : (u : NamedUnit) (bulk low : ℕ) (hold less : ℕ → ℕ) → low ≤ bulk → ((index : ℕ) → less index ≤ hold index) → IsBounded u bulk hold → IsBounded u low less
bounds_pass_on u bulk low hold less lighter holds bounds = record { light = at_most lighter bounds.light; held = λ index. at_most (holds index) (bounds.held index) }

pub rules_pass_on : (u v : NamedUnit) (bulk low : ℕ) (hold less : ℕ → ℕ) → v ≡ u → low ≤ bulk → ((index : ℕ) → less index ≤ hold index) → Kept u bulk hold → Kept v low less
rules_pass_on u v bulk low hold less same lighter holds kept =
    subst (λ (w : NamedUnit). Kept w low less) (sym same)
    (record { names = kept.names; bounds = bounds_pass_on u bulk low hold less lighter holds kept.bounds })
