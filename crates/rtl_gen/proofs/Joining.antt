-- What lists of statements take.
use Rattle.std.specs.Prelude.{◌≡◌, ℕ, max}
use Rattle.std.proofs.Common.{ap, ◌∙◌, arith}
use Rattle.rtl_gen.specs.declared.extents.Extent.{Extent}
use Rattle.rtl_gen.specs.Extents.{both}

abbrev extent : ℕ → ℕ → Extent
extent r d = record { reach = r; depth = d }

max_behind : (a b c : ℕ) → max (max a b) c ≡ max a (max b c)
max_behind a b c = omega arith

max_none : (a : ℕ) → max a 0 ≡ a
max_none a = omega arith

none_max : (a : ℕ) → max 0 a ≡ a
none_max a = omega arith

pub both_behind : (x y z : Extent) → both (both x y) z ≡ both x (both y z)
both_behind x y z = ap (λ (r : ℕ). extent r (max (max x.depth y.depth) z.depth)) (max_behind x.reach y.reach z.reach) ∙ ap (extent (max x.reach (max y.reach z.reach))) (max_behind x.depth y.depth z.depth)

pub both_none : (x : Extent) → both x (record { reach = 0; depth = 0 }) ≡ x
both_none x = ap (λ (r : ℕ). extent r (max x.depth 0)) (max_none x.reach) ∙ ap (extent x.reach) (max_none x.depth)

pub none_both : (x : Extent) → both (record { reach = 0; depth = 0 }) x ≡ x
none_both x = ap (λ (r : ℕ). extent r (max 0 x.depth)) (none_max x.reach) ∙ ap (extent x.reach) (none_max x.depth)
