-- That the second language does what the first does, and the first what the second does.
use Rattle.std.specs.Prelude.{◌≡◌, ◌≢◌, ℕ, ◌%◌, ◌≤◌, Bool, true, false, List, [], ◌∷◌, length, map}
use Rattle.std.proofs.Common.{zero, suc, refl, ap, sym, ◌∙◌, subst, inl, inr, arith}
use Rattle.cc_base.specs.Runs.{GrowsAt}
use Rattle.cc_base.specs.declared.run.Outcome.{Outcome}
use Rattle.cc_base.specs.declared.run.Outcome.TheVariants as outcome
use Rattle.pass_core.specs.Alike.{EachTurnMet, TurnMet, TurnAlike, IsSound}
use Rattle.pass_core.specs.Inputs.{AreBytes, IsAnswer}
use Rattle.pass_core.specs.Lists.{EachMatches}
use Rattle.pass_core.specs.Refines.{Sound, Refines}
use Rattle.pass_core.specs.Semantics.{iterate, run_of}
use Rattle.pass_core.specs.Turns.{Turned, On, Asks, Gives, Ends, Run, Going, Over, seen, Turns, turning}
use Rattle.pass_core.specs.laws.Lists.{same_of_each}
use Rattle.pass_core.specs.laws.Simulation.{run_grows}
use Rattle.pass_core.specs.laws.Turns.{run_steady, goes_none, goes_one, goes_costing, goes_loosely, turns_refine}
use Rattle.pass_tests.specs.declared.unit.ToyUnit.{ToyUnit}
use Rattle.unit_names.specs.Names.{NamedUnit}
use Rattle.unit_names.specs.declared.naming.Naming.{Naming}
use Rattle.cc_base.specs.Faces.{Linkable}
use Rattle.pass_core.specs.Rooms.{Allowed, usual_room}
use Rattle.pass_tests.specs.Toys.{toy_named, greeting, direct_turn, direct, Waiting, unready, slow_turn, slow, joined, all_bytes, direct_after, slow_after, IsCopy}

pub direct_grows : (price : ℕ) (units : List ToyUnit) (input : List ℕ) (n : ℕ) → GrowsAt (direct_after price units input) n
direct_grows price units input n = run_grows (turning (direct price)) (run_steady (direct price)) (Going (all_bytes units) input []) n

pub slow_grows : (units : List ToyUnit) (input : List ℕ) (n : ℕ) → GrowsAt (slow_after units input) n
slow_grows units input n = run_grows (turning slow) (run_steady slow) (Going (unready (all_bytes units)) input []) n

-- No run of the first goes wrong or too deep

abbrev IsFine : Run (List ℕ) → Type 0
IsFine (Going bytes input acts) = Unit {0}
IsFine (Over how acts) = how ≡ outcome.Ended 0

fine_step : (price : ℕ) (r : Run (List ℕ)) → IsFine r → IsFine ((turning (direct price)).step r)
fine_step price (Going [] input acts) h = refl
fine_step price (Going (zero ∷ bytes) [] acts) h = tt
fine_step price (Going (zero ∷ bytes) (b ∷ input) acts) h = tt
fine_step price (Going (suc n ∷ bytes) input acts) h = tt
fine_step price (Over outcome.Running acts) h = cc
fine_step price (Over (outcome.Ended status) acts) h = h
fine_step price (Over outcome.Wrong acts) h = cc
fine_step price (Over outcome.Deep acts) h = cc

fine_after : (price n : ℕ) (r : Run (List ℕ)) → IsFine r → IsFine (iterate (turning (direct price)).step n r)
fine_after price zero r h = h
fine_after price (suc n) r h = fine_after price n ((turning (direct price)).step r) (fine_step price r h)

fine_right : (r : Run (List ℕ)) → IsFine r → (seen r).outcome ≢ outcome.Wrong
fine_right (Going bytes input acts) h w = cc
fine_right (Over how acts) h w = let e = sym w ∙ h in cc

fine_shallow : (r : Run (List ℕ)) → IsFine r → (seen r).outcome ≢ outcome.Deep
fine_shallow (Going bytes input acts) h w = cc
fine_shallow (Over how acts) h w = let e = sym w ∙ h in cc

pub direct_sound : (price : ℕ) (units : List ToyUnit) (input : List ℕ) → Sound (direct_after price units input)
direct_sound price units input = record {
  right = λ n. fine_right (iterate (turning (direct price)).step n (Going (all_bytes units) input [])) (fine_after price n (Going (all_bytes units) input []) tt);
  shallow = λ n. fine_shallow (iterate (turning (direct price)).step n (Going (all_bytes units) input [])) (fine_after price n (Going (all_bytes units) input []) tt);
}

-- One turn by two

abbrev IsUnready : List ℕ → Waiting → Type 0
IsUnready bytes w = w ≡ unready bytes

abbrev still : List ℕ → ℕ × ℕ
still bytes = (0, 0)

slowed : (bytes : List ℕ) → TurnMet slow IsUnready still (0, 0) (direct_turn bytes) (unready bytes) 2
slowed [] = inr (record { last = unready []; before = 0; goes = goes_none slow (unready []); ends = refl; within = omega arith })
slowed (zero ∷ bytes) = inr (record {
  last = record { bytes = zero ∷ bytes; ready = true };
  before = 1;
  goes = goes_loosely slow (goes_one slow (unready (zero ∷ bytes)) (record { bytes = zero ∷ bytes; ready = true }) 1 refl (omega arith));
  ends = λ word answer. refl;
  within = omega arith;
})
slowed (suc n ∷ bytes) = inr (record {
  last = record { bytes = suc n ∷ bytes; ready = true };
  before = 1;
  goes = goes_loosely slow (goes_one slow (unready (suc n ∷ bytes)) (record { bytes = suc n ∷ bytes; ready = true }) 1 refl (omega arith));
  ends = (refl, refl);
  within = omega arith;
})

each_slowed : EachTurnMet (direct 2) slow IsUnready still
each_slowed bytes w same sound = subst (λ (v : Waiting). TurnMet slow IsUnready still (0, 0) (direct_turn bytes) v 2) (sym same) (slowed bytes)

-- Two turns by one

abbrev HasBytes : Waiting → List ℕ → Type 0
HasBytes w bytes = bytes ≡ w.bytes

abbrev turns_before : Bool → ℕ
turns_before true = 0
turns_before false = 1

abbrev waits : Waiting → ℕ × ℕ
waits w = (0, turns_before w.ready)

hurried : (ready : Bool) (bytes : List ℕ) → TurnMet (direct 1) HasBytes waits (0, turns_before ready) (slow_turn ready bytes) bytes 1
hurried ready [] = inr (record { last = []; before = 0; goes = goes_none (direct 1) []; ends = refl; within = omega arith })
hurried false (b ∷ bytes) = inl (record {
  next = record { bytes = b ∷ bytes; ready = true };
  is = refl;
  target = b ∷ bytes;
  least = 0;
  goes = goes_costing (direct 1) (omega arith) (goes_none (direct 1) (b ∷ bytes));
  relates = refl;
  falls = λ none. inr (refl, omega arith);
})
hurried true (zero ∷ bytes) = inr (record { last = zero ∷ bytes; before = 0; goes = goes_none (direct 1) (zero ∷ bytes); ends = λ word answer. refl; within = omega arith })
hurried true (suc n ∷ bytes) = inr (record { last = suc n ∷ bytes; before = 0; goes = goes_none (direct 1) (suc n ∷ bytes); ends = (refl, refl); within = omega arith })

each_hurried : EachTurnMet slow (direct 1) HasBytes waits
each_hurried w bytes same sound = subst (λ (v : List ℕ). TurnMet (direct 1) HasBytes waits (waits w) (slow_turn w.ready w.bytes) v 1) (sym same) (hurried w.ready w.bytes)

-- Units

bytes_same : (us vs : List ToyUnit) → EachMatches IsCopy us vs → all_bytes vs ≡ all_bytes us
bytes_same us vs each = ap joined (same_of_each (λ (u : ToyUnit). u.bytes) (λ (u : ToyUnit). u.bytes) IsCopy (λ u v (m : IsCopy u v). m.bytes) us vs each)

pub slow_refines : (us vs : List ToyUnit) (input : List ℕ) → EachMatches IsCopy us vs → AreBytes input → Refines (direct_after 2 us input) (slow_after vs input)
slow_refines us vs input each bytes = subst (λ (all : List ℕ). Refines (direct_after 2 us input) (run_of (turning slow) (Going (unready all) input []))) (sym (bytes_same us vs each))
    (turns_refine IsUnready (direct 2) slow still each_slowed (On (all_bytes us)) (On (unready (all_bytes us))) input (λ sound. refl) bytes)

pub hurried_refines : (us vs : List ToyUnit) (input : List ℕ) → EachMatches IsCopy us vs → AreBytes input → Refines (slow_after us input) (direct_after 1 vs input)
hurried_refines us vs input each bytes = subst (λ (all : List ℕ). Refines (slow_after us input) (run_of (turning (direct 1)) (Going all input []))) (sym (bytes_same us vs each))
    (turns_refine HasBytes slow (direct 1) waits each_hurried (On (unready (all_bytes us))) (On (all_bytes us)) input (λ sound. refl) bytes)

pub toy_named_same : (u v : ToyUnit) → IsCopy u v → toy_named v ≡ toy_named u
toy_named_same u v m = ap (λ (n : Naming). record { face = n.face; globals = n.globals; symbol_names = n.symbol_names; functions = [] }) m.naming

pub length_kept : (u v : ToyUnit) → IsCopy u v → length v.bytes ≤ length u.bytes
length_kept u v m = let e : length v.bytes ≡ length u.bytes = ap length m.bytes in omega (arith, e)

-- What the passes ask for is met

pub greeting_links : Linkable (map (λ (u : ToyUnit). u.naming.face) (greeting ∷ []))
greeting_links = refl

pub usual_is_allowed : Allowed usual_room
usual_is_allowed = record { pages = 256; some = omega arith; few = omega arith; whole = refl }

pub nothing_held : 0 ≤ 0
nothing_held = omega arith
