-- No two temporaries have one fixed home.
use Rattle.std.specs.Prelude.{◌≡◌, ◌≢◌, ℕ, ◌<◌, ◌+◌, All, [], ◌∷◌, ◌++◌, length}
use Rattle.std.specs.List.{range_with_len}
use Rattle.std.proofs.Common.{zero, suc, refl, sym, ap, subst, ◌∙◌, arith}
use Rattle.std.proofs.lemmas.List.Elements.{All-map}
use Rattle.std.proofs.lemmas.List.FromFn.{length-range_with_len, get_or-range_with_len, length-map-range_with_len, get_or-map-range_with_len, map-range_with_len_more}
use Rattle.ltl_lang.specs.declared.location.Loc.TheVariants.{Ebx}
use Rattle.ltl_lang.specs.Meaning.{place}
use Rattle.ltl_lang.specs.Ranges.{IsLoc}
use Rattle.reg_homes.specs.Homes.{home_of}
use Rattle.reg_validate.specs.Fixed.{fixed_home, fixed_homes, fixed_slots}

-- the place of a fixed home is the temporary's number
place_is : (k : ℕ) → place (fixed_home k) ≡ k
place_is zero = refl
place_is (suc zero) = refl
place_is (suc (suc zero)) = refl
place_is (suc (suc (suc zero))) = refl
place_is (suc (suc (suc (suc k)))) = omega arith

pub fixed_apart : (a b : ℕ) → a ≢ b → fixed_home a ≢ fixed_home b
fixed_apart a b ne same = ne (sym (place_is a) ∙ ap place same ∙ place_is b)

pub fixed_home_of : (n k : ℕ) → k < n → home_of (fixed_homes n) k ≡ fixed_home k
fixed_home_of n k lt = get_or-map-range_with_len fixed_home 0 n k k Ebx lt (omega arith)

pub fixed_length : (n : ℕ) → length (fixed_homes n) ≡ n
fixed_length n = length-map-range_with_len fixed_home 0 n

-- each is a register or one of the slots
home_in_range : (n k : ℕ) → k < n → IsLoc (fixed_slots n) (fixed_home k)
home_in_range n zero lt = tt
home_in_range n (suc zero) lt = tt
home_in_range n (suc (suc zero)) lt = tt
home_in_range n (suc (suc (suc zero))) lt = tt
home_in_range n (suc (suc (suc (suc k)))) lt = omega (arith, lt)

-- one temporary more
pub fixed_homes_more : (n : ℕ) → fixed_homes (n + 1) ≡ fixed_homes n ++ fixed_home n ∷ []
fixed_homes_more n = map-range_with_len_more fixed_home 0 n n (omega arith)

-- all of them are in range
pub fixed_in_range : (n : ℕ) → All (IsLoc (fixed_slots n)) (fixed_homes n)
fixed_in_range n =
    All-map (IsLoc (fixed_slots n)) fixed_home (range_with_len 0 n) (λ k d lt.
    let same : 0 + k ≡ k = omega arith in
    let short : k < n = let e = length-range_with_len 0 n in omega (arith, e, lt) in
    subst (λ (j : ℕ). IsLoc (fixed_slots n) (fixed_home j)) (sym (get_or-range_with_len 0 n k d short ∙ same)) (home_in_range n k short))
