-- The names of blocks, and their order.
use Rattle.std.specs.Prelude.{◌≡◌, ℕ, Bool, true, false}
use Rattle.std.proofs.Common.{ap, sym, ◌∙◌}
use Rattle.std.specs.declared.cmp.Ordering.{Ordering}
use Rattle.std.specs.Ordering.{nat_cmp, ordering_then, eq_by_cmp}
use Rattle.std.proofs.lemmas.Map.Lookups.{exact_pairs, exact_unsigned}
use Rattle.std.proofs.lemmas.Bool.{false_from_ne_true, both_ways}
use Rattle.std.specs.Cmp.{IsTotalOrder, nat_cmp_total, eq_by_cmp_equiv, Equal-is}
use Rattle.std.specs.FinMap.{IsAntisymmetric}
use Rattle.std.proofs.lemmas.Cmp.{on_total, then_total}
use Rattle.block_mem.specs.declared.value.BlockName.{BlockName}
use Rattle.block_mem.specs.declared.value.BlockName.TheVariants.{Global, Local}

-- objects of file scope before locals, and then by the two numbers
abbrev pub key : BlockName → ℕ × ℕ × ℕ
key (Global unit index) = (0, unit, index)
key (Local activation index) = (1, activation, index)

abbrev pub name_cmp : BlockName → BlockName → Ordering
name_cmp a b = ordering_then (nat_cmp (key a).0 (key b).0) (ordering_then (nat_cmp (key a).1 (key b).1) (nat_cmp (key a).2 (key b).2))

abbrev pub same_name : BlockName → BlockName → Bool
same_name a b = eq_by_cmp name_cmp a b

pub names_total : IsTotalOrder name_cmp
names_total = then_total (on_total (λ s. (key s).0) nat_cmp_total) (then_total (on_total (λ s. (key s).1) nat_cmp_total) (on_total (λ s. (key s).2) nat_cmp_total))

-- names that compare alike are one
pub names_exact : IsAntisymmetric name_cmp
names_exact (Global u i) (Global v j) e = ap (λ (p : ℕ × ℕ). Global p.0 p.1) (exact_pairs nat_cmp nat_cmp exact_unsigned exact_unsigned (u, i) (v, j) e)
names_exact (Local u i) (Local v j) e = ap (λ (p : ℕ × ℕ). Local p.0 p.1) (exact_pairs nat_cmp nat_cmp exact_unsigned exact_unsigned (u, i) (v, j) e)
names_exact (Global u i) (Local v j) e = cc
names_exact (Local u i) (Global v j) e = cc

pub same_name-true : (a b : BlockName) → same_name a b ≡ true → a ≡ b
same_name-true a b h = names_exact a b ((Equal-is (name_cmp a b)).0 h)

pub same_name-refl : (a : BlockName) → same_name a a ≡ true
same_name-refl a = (eq_by_cmp_equiv names_total).refl a

pub same_name-ne : (a b : BlockName) → (a ≡ b → ⊥) → same_name a b ≡ false
same_name-ne a b ne = false_from_ne_true (same_name a b) (λ h. ne (same_name-true a b h))

pub same_name-false : (a b : BlockName) → same_name a b ≡ false → a ≡ b → ⊥
same_name-false a b h e = both_ways (same_name a b) h (ap (same_name a) (sym e) ∙ same_name-refl a)
