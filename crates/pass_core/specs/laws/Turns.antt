-- Runs by turns are steady, and turns that are met give the law of simulation.
use Rattle.std.specs.Prelude.{◌≡◌, ◌≢◌, ℕ, ◌+◌, ◌≤◌, List, [], ◌∷◌, ◌++◌}
use Rattle.std.proofs.Common.{suc, ◌∙◌, ap, sym, refl, subst, inl, inr, arith}
use Rattle.cc_base.specs.Runs.{State, IsPrefix}
use Rattle.cc_base.specs.declared.run.Act.{Act}
use Rattle.cc_base.specs.declared.run.Act.TheVariants as act
use Rattle.cc_base.specs.declared.run.Outcome.{Outcome}
use Rattle.cc_base.specs.declared.run.Outcome.TheVariants as outcome
use Rattle.pass_core.specs.Alike.{TurnAlike, RunAlike, IsSound, Goes, Arrives, Moves, EachTurnMet, run_measure}
use Rattle.pass_core.specs.Inputs.{AreBytes, minus_one}
use Rattle.pass_core.specs.Meets.{Meets, EachMet}
use Rattle.pass_core.specs.Refines.{Refines}
use Rattle.pass_core.specs.Semantics.{Steady, Simulates, Falls, run_of}
use Rattle.pass_core.specs.Turns.{Turned, On, Asks, Gives, Ends, Run, Going, Over, seen, after_turn, advance, price_by, Turns, turning}
use Rattle.pass_core.specs.laws.Meets.{stay, one, then, costing, loosely, each_met}
use Rattle.pass_core.specs.laws.Refines.{IsPrefix-refl}
use Rattle.pass_core.specs.laws.Simulation.{halting_steady, simulation_from}

-- Steadiness

adds : {W : Type 0} (t : Turned W) (input : List ℕ) (acts : List Act) → IsPrefix acts (seen (after_turn t input acts)).acts
adds (On w) input acts = IsPrefix-refl acts
adds (Asks f) [] acts = record { rest = act.AtEnd ∷ []; whole = refl }
adds (Asks f) (b ∷ bs) acts = record { rest = act.Took ∷ []; whole = refl }
adds (Gives b w) input acts = record { rest = act.Gave b ∷ []; whole = refl }
adds (Ends o) input acts = IsPrefix-refl acts

advance_adds : {W : Type 0} (turn : W → Turned W) (r : Run W) → IsPrefix (seen r).acts (seen (advance turn r)).acts
advance_adds turn (Going w input acts) = adds (turn w) input acts
advance_adds turn (Over o acts) = IsPrefix-refl acts

-- a turn only adds acts, and what is over stays so
pub run_steady : {W : Type 0} (m : Turns W) → Steady (turning m)
run_steady m = halting_steady (advance m.turn) seen (price_by m.price) (λ r running. advance_adds m.turn r)

-- Ways by turns that only go on

pub goes_none : {V : Type 0} (b : Turns V) (v : V) → Goes b v v 0 0
goes_none b v = λ input acts. stay (turning b) (Going v input acts)

pub goes_one : {V : Type 0} (b : Turns V) (v u : V) (cost : ℕ) → b.turn v ≡ On u → b.price v ≤ cost → Goes b v u 1 cost
goes_one b v u cost is few = λ input acts. one (turning b) (Going v input acts) (Going u input acts) cost (ap (λ t. after_turn t input acts) is) few

pub goes_then : {V : Type 0} (b : Turns V) {v u x : V} {k l c d : ℕ} → Goes b v u k c → Goes b u x l d → Goes b v x (k + l) (c + d)
goes_then b g h = λ input acts. then (turning b) (g input acts) (h input acts)

pub goes_costing : {V : Type 0} (b : Turns V) {v u : V} {k c d : ℕ} → c ≤ d → Goes b v u k c → Goes b v u k d
goes_costing b few g = λ input acts. costing (turning b) few (g input acts)

pub goes_loosely : {V : Type 0} (b : Turns V) {v u : V} {k c : ℕ} → Goes b v u k c → Goes b v u 0 c
goes_loosely b g = λ input acts. loosely (turning b) (g input acts)

-- Turns in runs

sound_turn : {W : Type 0} (t : Turned W) (input : List ℕ) (acts : List Act) → (seen (after_turn t input acts)).outcome ≢ outcome.Wrong → (seen (after_turn t input acts)).outcome ≢ outcome.Deep → IsSound t
sound_turn (On w) input acts right shallow = tt
sound_turn (Asks f) input acts right shallow = tt
sound_turn (Gives b w) input acts right shallow = tt
sound_turn (Ends o) input acts right shallow = (right, shallow)

module _ {W V : Type 0} (related : W → V → Type 0) where
  -- like turns lead like runs to like ones
  pub run_alike : (t : Turned W) (u : Turned V) (input : List ℕ) (acts : List Act) → AreBytes input → TurnAlike related t u → RunAlike related (after_turn t input acts) (after_turn u input acts)
  run_alike (On w) (On v) input acts bytes a = (a, bytes, refl, refl)
  run_alike (Asks f) (Asks g) [] acts bytes a = (a minus_one (inr refl), bytes, refl, refl)
  run_alike (Asks f) (Asks g) (b ∷ bs) acts bytes a = (a b (inl (bytes 0 b (omega arith))), λ k d h. bytes (suc k) d (omega (arith, h)), refl, refl)
  run_alike (Gives b w) (Gives c v) input acts bytes a = (a.1, bytes, refl, ap (λ (k : ℕ). acts ++ act.Gave k ∷ []) a.0)
  run_alike (Ends o) (Ends k) input acts bytes a = (a, refl)
  run_alike (On w) (Asks g) input acts bytes a = absurd a
  run_alike (On w) (Gives c v) input acts bytes a = absurd a
  run_alike (On w) (Ends k) input acts bytes a = absurd a
  run_alike (Asks f) (On v) input acts bytes a = absurd a
  run_alike (Asks f) (Gives c v) input acts bytes a = absurd a
  run_alike (Asks f) (Ends k) input acts bytes a = absurd a
  run_alike (Gives b w) (On v) input acts bytes a = absurd a
  run_alike (Gives b w) (Asks g) input acts bytes a = absurd a
  run_alike (Gives b w) (Ends k) input acts bytes a = absurd a
  run_alike (Ends o) (On v) input acts bytes a = absurd a
  run_alike (Ends o) (Asks g) input acts bytes a = absurd a
  run_alike (Ends o) (Gives c v) input acts bytes a = absurd a

  abbrev stands : Outcome → List Act → State
  stands o x = record { outcome = o; acts = x }

  pub seen_alike : (r : Run W) (s : Run V) → RunAlike related r s → seen s ≡ seen r
  seen_alike (Going w input acts) (Going v others done) h = ap (stands outcome.Running) h.3
  seen_alike (Over o acts) (Over k done) h = ap (λ (x : Outcome). stands x done) h.0 ∙ ap (stands o) h.1
  seen_alike (Going w input acts) (Over k done) h = absurd h
  seen_alike (Over o acts) (Going v others done) h = absurd h

  module _ (a : Turns W) (b : Turns V) (measure : W → ℕ × ℕ) where
    abbrev MetFrom : Run W → Run V → Type 0
    MetFrom r s = Meets (turning b) (RunAlike related) (run_measure measure) (run_measure measure r) ((turning a).step r) s ((turning a).price r)

    arrives : (w : W) (v : V) (input : List ℕ) (acts : List Act) → AreBytes input → Arrives b related measure (measure w) (a.turn w) v (a.price w) → MetFrom (Going w input acts) (Going v input acts)
    arrives w v input acts bytes x =
        let new : Going x.next input acts ≡ after_turn (a.turn w) input acts = ap (λ t. after_turn t input acts) (sym x.is) in
        record {
          target = Going x.target input acts;
          least = x.least;
          way = x.goes input acts;
          relates = subst (λ (r : Run W). RunAlike related r (Going x.target input acts)) new (x.relates, bytes, refl, refl);
          falls = λ none. subst (λ (r : Run W). Falls (run_measure measure r) (measure w)) new (x.falls none);
        }

    moves : (w : W) (v : V) (input : List ℕ) (acts : List Act) → AreBytes input → Moves b related (a.turn w) v (a.price w) → MetFrom (Going w input acts) (Going v input acts)
    moves w v input acts bytes x = record {
      target = after_turn (b.turn x.last) input acts;
      least = 0 + 1;
      way = costing (turning b) x.within (then (turning b) (x.goes input acts) (one (turning b) (Going x.last input acts) (after_turn (b.turn x.last) input acts) (b.price x.last) refl (omega arith)));
      relates = run_alike (a.turn w) (b.turn x.last) input acts bytes x.ends;
      falls = λ none. absurd (omega (arith, none));
    }

    each : EachTurnMet a b related measure → EachMet (turning a) (turning b) (RunAlike related) (run_measure measure)
    each turns (Going w input acts) (Over k done) h running right shallow = absurd h
    each turns (Over o acts) (Going v others done) h running right shallow = absurd h
    each turns (Over o acts) (Over k done) h running right shallow = subst (λ (q : Outcome). MetFrom (Over q acts) (Over k done)) (sym running)
        (let same : k ≡ outcome.Running = h.0 ∙ running in
        subst (λ (q : Outcome). MetFrom (Over outcome.Running acts) (Over q done)) (sym same) (record {
          target = Over outcome.Running done;
          least = 1;
          way = one (turning b) (Over outcome.Running done) (Over outcome.Running done) 0 refl (omega arith);
          relates = (refl, h.1);
          falls = λ none. absurd (omega (arith, none));
        }))
    each turns (Going w input acts) (Going v others done) h running right shallow =
        let same : Going v input acts ≡ Going v others done = ap (λ x. Going v x acts) (sym h.2) ∙ ap (Going v others) (sym h.3) in
        subst (MetFrom (Going w input acts)) same
        (elim (turns w v h.0 (sound_turn (a.turn w) input acts right shallow)) [
          | inl x ↦ arrives w v input acts h.1 x
          | inr x ↦ moves w v input acts h.1 x
        ])

    -- the law of simulation
    pub turns_simulate : EachTurnMet a b related measure → Simulates (turning a) (turning b) (RunAlike related) (run_measure measure)
    turns_simulate turns = each_met (turning b) (RunAlike related) (run_measure measure) (turning a) seen_alike (each turns)

    -- from like turns on, on each input, the second refines the first
    pub turns_refine : EachTurnMet a b related measure → (t : Turned W) (u : Turned V) (input : List ℕ) → (IsSound t → TurnAlike related t u) → AreBytes input → Refines (run_of (turning a) (after_turn t input [])) (run_of (turning b) (after_turn u input []))
    turns_refine turns t u input start bytes =
        simulation_from (turning a) (turning b) (RunAlike related) (run_measure measure) (turns_simulate turns) (run_steady a) (run_steady b) (after_turn t input []) (after_turn u input []) 0
        (λ sound. run_alike t u input [] bytes (start (sound_turn t input [] (sound.right 0) (sound.shallow 0))))
