-- At the start of a call each argument is in the home of its parameter, where it is wanted.
use Rattle.std.specs.Prelude.{◌≡◌, ◌≢◌, ℕ, ◌<◌, ◌≤◌, List, [], ◌∷◌, length, take, Some}
use Rattle.std.proofs.Common.{zero, suc, ◌∙◌, arith}
use Rattle.block_mem.specs.declared.value.Value.{Value}
use Rattle.rtl_lang.specs.Meaning.{first_temporaries}
use Rattle.ltl_lang.specs.declared.location.Loc.{Loc}
use Rattle.ltl_lang.specs.Meaning.{first_contents}
use Rattle.ltl_lang.specs.laws.Locations.{put_same, put_other}
use Rattle.reg_homes.specs.Homes.{home_of}

-- a temporary that is set is one of the arguments
pub is_argument : (vs : List Value) (j : ℕ) (v : Value) → first_temporaries vs j ≡ Some v → j < length vs
is_argument [] j v e = cc
is_argument (x ∷ vs) zero v e = omega arith
is_argument (x ∷ vs) (suc j) v e = let lt = is_argument vs j v e in omega (arith, lt)

-- no parameter behind it has its home
pub placed_first : (homes : List Loc) (n : ℕ) (vs : List Value) (j : ℕ) (v : Value) → n ≡ length vs → n ≤ length homes → first_temporaries vs j ≡ Some v → ((a : ℕ) → a < n → a ≢ j → home_of homes j ≢ home_of homes a) → first_contents (take n homes) vs (home_of homes j) ≡ Some v
placed_first homes n [] j v len many here apart = cc
placed_first [] n (x ∷ vs) j v len many here apart = absurd (omega (arith, len, many))
placed_first (h ∷ hs) zero (x ∷ vs) j v len many here apart = absurd (omega (arith, len))
placed_first (h ∷ hs) (suc n) (x ∷ vs) zero v len many here apart = put_same (first_contents (take n hs) vs) h x ∙ here
placed_first (h ∷ hs) (suc n) (x ∷ vs) (suc j) v len many here apart =
    put_other (first_contents (take n hs) vs) h (home_of hs j) x (apart 0 (omega arith) (λ e. absurd (omega (arith, e))))
    ∙ placed_first hs n vs j v (omega (arith, len)) (omega (arith, many)) here (λ a lt ne. apart (suc a) (omega (arith, lt)) (λ e. ne (omega (arith, e))))
