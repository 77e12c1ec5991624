-- Two toy languages of bytes that are emitted one after another, where a zero asks for a byte in its place. The first emits one at a
-- turn, the second gets ready for each by a turn before.
use Rattle.std.specs.Prelude.{◌≡◌, ℕ, ◌%◌, Bool, true, false, List, [], ◌∷◌, ◌++◌, map, codes}
use Rattle.std.proofs.Common.{zero, suc}
use Rattle.cc_base.specs.Runs.{State}
use Rattle.cc_base.specs.declared.run.Outcome.TheVariants as outcome
use Rattle.pass_core.specs.Semantics.{run_of}
use Rattle.pass_core.specs.Turns.{Turned, On, Asks, Gives, Ends, Going, Turns, turning}
use Rattle.unit_names.specs.Names.{NamedUnit}
use Rattle.pass_tests.specs.declared.unit.ToyUnit.{ToyUnit}

-- A byte at a turn

abbrev pub direct_turn : List ℕ → Turned (List ℕ)
direct_turn [] = Ends (outcome.Ended 0)
direct_turn (zero ∷ bytes) = Asks (λ word. word ∷ bytes)
direct_turn (suc n ∷ bytes) = Gives (suc n % 256) bytes

abbrev pub direct : ℕ → Turns (List ℕ)
direct price = record { turn = direct_turn; price = λ bytes. price }

-- A byte at two turns

pub record Waiting : Type 0 where
  pub bytes : List ℕ
  pub ready : Bool

abbrev pub unready : List ℕ → Waiting
unready bytes = record { bytes = bytes; ready = false }

abbrev pub slow_turn : Bool → List ℕ → Turned Waiting
slow_turn ready [] = Ends (outcome.Ended 0)
slow_turn false (b ∷ bytes) = On (record { bytes = b ∷ bytes; ready = true })
slow_turn true (zero ∷ bytes) = Asks (λ word. unready (word ∷ bytes))
slow_turn true (suc n ∷ bytes) = Gives (suc n % 256) (unready bytes)

abbrev pub slow : Turns Waiting
slow = record { turn = λ w. slow_turn w.ready w.bytes; price = λ w. 1 }

-- Linked units

abbrev pub joined : List (List ℕ) → List ℕ
joined [] = []
joined (bytes ∷ more) = bytes ++ joined more

abbrev pub all_bytes : List ToyUnit → List ℕ
all_bytes units = joined (map (λ (u : ToyUnit). u.bytes) units)

abbrev pub direct_after : ℕ → List ToyUnit → List ℕ → ℕ → State
direct_after price units input n = run_of (turning (direct price)) (Going (all_bytes units) input []) n

abbrev pub slow_after : List ToyUnit → List ℕ → ℕ → State
slow_after units input n = run_of (turning slow) (Going (unready (all_bytes units)) input []) n

-- the passes change no unit
pub record IsCopy (from to : ToyUnit) : Type 0 where
  pub naming : to.naming ≡ from.naming
  pub bytes : to.bytes ≡ from.bytes

-- no unit of theirs has functions of its own
abbrev pub toy_named : ToyUnit → NamedUnit
toy_named u = record { face = u.naming.face; globals = u.naming.globals; symbol_names = u.naming.symbol_names; functions = [] }

-- a unit that shows `main`, emits an H and then a byte of the input
abbrev pub greeting : ToyUnit
greeting = record {
  naming = record {
    face = record { defs = record { name = codes "main"; function = true; size = 0; need = 64 } ∷ []; uses = [] };
    symbol_names = [];
    globals = [];
  };
  bytes = 72 ∷ 0 ∷ [];
}
