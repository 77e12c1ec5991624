-- Changes of a list of locations leave slots unshared.
use Rattle.std.proofs.Common.{◌≡◌, ℕ, zero, suc, List, [], ◌∷◌, ◌++◌, length, set, slice_get, Some, None, ◌⊎◌, inl, inr, refl, sym, ap, subst, ◌∙◌, arith}
use Rattle.ltl_lang.specs.declared.location.Loc.{Loc}
use Rattle.ltl_lang.specs.declared.location.Loc.TheVariants.{Slot}
use Rattle.reg_assign.specs.Assignments.{IsOwn, HasOwnSlots, IsRegister}

got_set : (xs : List Loc) (at : ℕ) (put : Loc) (n : ℕ) (home : Loc) → slice_get (set xs at put) n ≡ Some home → (home ≡ put) ⊎ (slice_get xs n ≡ Some home)
got_set [] at put n home e = inr e
got_set (x ∷ xs) zero put zero home e = inl cc
got_set (x ∷ xs) zero put (suc n) home e = inr e
got_set (x ∷ xs) (suc at) put zero home e = inr e
got_set (x ∷ xs) (suc at) put (suc n) home e = got_set xs at put n home e

pub own_set : (xs : List Loc) (at : ℕ) (put : Loc) → HasOwnSlots xs → IsRegister put → HasOwnSlots (set xs at put)
own_set xs at put own is n home e =
    elim (got_set xs at put n home e) [
      | inl here ↦ subst (λ (h : Loc). IsOwn n h) (sym here) (is n)
      | inr there ↦ own n home there
    ]

got_push : (xs : List Loc) (put : Loc) (n : ℕ) (home : Loc) → slice_get (xs ++ put ∷ []) n ≡ Some home → (slice_get xs n ≡ Some home) ⊎ ((n ≡ length xs) × (home ≡ put))
got_push [] put zero home e = inr (refl, cc)
got_push [] put (suc n) home e = cc
got_push (x ∷ xs) put zero home e = inl e
got_push (x ∷ xs) put (suc n) home e =
    elim (got_push xs put n home e) [
      | inl before ↦ inl before
      | inr (at, is) ↦ inr (omega arith, is)
    ]

pub own_push : (xs : List Loc) (k : ℕ) → length xs ≡ k → HasOwnSlots xs → HasOwnSlots (xs ++ Slot k ∷ [])
own_push xs k long own n home e =
    elim (got_push xs (Slot k) n home e) [
      | inl before ↦ own n home before
      | inr (at, is) ↦ subst (λ (h : Loc). IsOwn n h) (sym is) (omega arith)
    ]
