-- How ways are joined, and that steps which are met give the law of simulation.
use Rattle.std.specs.Prelude.{◌≡◌, ℕ, ◌+◌, ◌≤◌}
use Rattle.std.proofs.Common.{zero, suc, refl, ap, sym, ◌∙◌, subst, arith}
use Rattle.pass_core.specs.Semantics.{Semantics, iterate, spent_of, Falls, Met, Simulates}
use Rattle.pass_core.specs.Meets.{Reaches, Meets, EachMet}
use Rattle.pass_core.specs.laws.Simulation.{iterate-add}

pub spent-add : {S : Type 0} (b : Semantics S) (m n : ℕ) (s : S) → spent_of b s (m + n) ≡ spent_of b s m + spent_of b (iterate b.step m s) n
spent-add b zero n s = let e : 0 + n ≡ n = omega arith in ap (spent_of b s) e ∙ (let f : spent_of b s n ≡ 0 + spent_of b s n = omega arith in f)
spent-add b (suc m) n s =
    let e : suc m + n ≡ suc (m + n) = omega arith in
    ap (spent_of b s) e ∙ (let h = spent-add b m n (b.step s) in let f : b.price s + spent_of b (b.step s) (m + n) ≡ b.price s + spent_of b (b.step s) m + spent_of b (iterate b.step m (b.step s)) n = omega (arith, h) in f)

-- Ways

-- no step
pub stay : {S : Type 0} (b : Semantics S) (s : S) → Reaches b s s 0 0
stay b s = record { count = 0; there = refl; within = omega arith; more = omega arith }

-- one step
pub one : {S : Type 0} (b : Semantics S) (s u : S) (cost : ℕ) → b.step s ≡ u → b.price s ≤ cost → Reaches b s u 1 cost
one b s u cost e h = record { count = 1; there = e; within = omega (arith, h); more = omega arith }

-- one way behind another
pub then : {S : Type 0} (b : Semantics S) {s u v : S} {k l c d : ℕ} → Reaches b s u k c → Reaches b u v l d → Reaches b s v (k + l) (c + d)
then {S} b {s} {u} {v} {k} {l} {c} {d} x y = record {
  count = x.count + y.count;
  there = iterate-add b.step x.count y.count s ∙ ap (iterate b.step y.count) x.there ∙ y.there;
  within =
      let e = spent-add b x.count y.count s in
      let f : spent_of b (iterate b.step x.count s) y.count ≡ spent_of b u y.count = ap (λ (z : S). spent_of b z y.count) x.there in
      let g = x.within in
      let h = y.within in
      omega (arith, e, f, g, h);
  more = let g = x.more in let h = y.more in omega (arith, g, h);
}

-- from an equal state
pub from_equal : {S : Type 0} (b : Semantics S) {s t u : S} {k c : ℕ} → s ≡ t → Reaches b t u k c → Reaches b s u k c
from_equal {S} b {s} {t} {u} {k} {c} e r = subst (λ (x : S). Reaches b x u k c) (sym e) r

-- at a greater price
pub costing : {S : Type 0} (b : Semantics S) {s u : S} {k c d : ℕ} → c ≤ d → Reaches b s u k c → Reaches b s u k d
costing b h r = record { count = r.count; there = r.there; within = let g = r.within in omega (arith, g, h); more = r.more }

-- with less said of how many steps they are
pub loosely : {S : Type 0} (b : Semantics S) {s u : S} {k c : ℕ} → Reaches b s u k c → Reaches b s u 0 c
loosely b r = record { count = r.count; there = r.there; within = r.within; more = omega arith }

module _ {S T : Type 0} (b : Semantics T) (related : S → T → Type 0) (measure : S → ℕ × ℕ) where
  -- met by one step or more
  pub by_steps : (size : ℕ × ℕ) (new : S) (t u : T) (least cost : ℕ) → 1 ≤ least → Reaches b t u least cost → related new u → Meets b related measure size new t cost
  by_steps size new t u least cost some way alike = record {
    target = u;
    least = least;
    way = way;
    relates = alike;
    falls = λ none. absurd (omega (arith, none, some));
  }

  -- met by no step, where the measure falls
  pub by_none : (size : ℕ × ℕ) (new : S) (t : T) (cost : ℕ) → related new t → Falls (measure new) size → Meets b related measure size new t cost
  by_none size new t cost alike less = record {
    target = t;
    least = 0;
    way = costing b (omega arith) (stay b t);
    relates = alike;
    falls = λ none. less;
  }

  -- with some steps more before
  pub later : (size : ℕ × ℕ) (new : S) (t u : T) (least cost k most : ℕ) → 1 ≤ least → k + cost ≤ most → Reaches b t u least k → Meets b related measure size new u cost → Meets b related measure size new t most
  later size new t u least cost k most some few way m = record {
    target = m.target;
    least = least + m.least;
    way = costing b few (then b way m.way);
    relates = m.relates;
    falls = λ none. absurd (omega (arith, none, some));
  }

  -- at a greater price
  pub cheaply : (size : ℕ × ℕ) (new : S) (t : T) (cost most : ℕ) → cost ≤ most → Meets b related measure size new t cost → Meets b related measure size new t most
  cheaply size new t cost most few m = record {
    target = m.target;
    least = m.least;
    way = costing b few m.way;
    relates = m.relates;
    falls = m.falls;
  }

  -- what the law of simulation asks for
  pub met : (a : Semantics S) (old new : S) (t : T) → Meets b related measure (measure old) new t (a.price old) → Met a b related measure old new t
  met a old new t m = record {
    count = m.way.count;
    relates = subst (λ (x : T). related new x) (sym m.way.there) m.relates;
    within = m.way.within;
    falls = λ none. m.falls (let g = m.way.more in omega (arith, g, none));
  }

  pub each_met : (a : Semantics S) → ((s : S) (t : T) → related s t → b.view t ≡ a.view s) → EachMet a b related measure → Simulates a b related measure
  each_met a alike each = record {
    alike = alike;
    meets = λ s t r running right shallow. met a s (a.step s) t (each s t r running right shallow);
  }
