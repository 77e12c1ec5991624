-- Laws of runs: a turn only adds acts, and a run that is over stays as it is.
use Rattle.std.specs.Prelude.{ℕ, List, [], ◌∷◌, ◌++◌, Option, Some, None}
use Rattle.std.proofs.Common.{refl}
use Rattle.cc_base.specs.Runs.{IsPrefix, GrowsAt}
use Rattle.cc_base.specs.declared.run.Act.{Act}
use Rattle.pass_core.specs.laws.Refines.{IsPrefix-refl, IsPrefix-trans}
use Rattle.pass_core.specs.Semantics.{Steady}
use Rattle.pass_core.specs.laws.Simulation.{run_grows, halting_steady}
use Rattle.block_mem.specs.declared.value.Value.TheVariants.{Int}
use Rattle.clight_unit.specs.declared.unit.ClightUnit.{ClightUnit as TypedUnit}
use Rattle.clight_sem.specs.declared.destination.Destination.{Destination}
use Rattle.clight_sem.specs.Functions.{Linked, linked}
use Rattle.clight_sem.specs.States.{World, Turned, On, Asks, Gives, Ends, Run, Going, Over, seen}
use Rattle.clight_sem.specs.Prices.{price}
use Rattle.clight_sem.specs.Turns.{given, minus_one, turn, came, next_byte, after_turn, advance, begun, source, source_after}

-- a run has done these acts, and maybe more
abbrev pub Adds : List Act → Run → Type 0
Adds acts r = IsPrefix acts (seen r).acts

-- with one more
one_more : (acts : List Act) (a : Act) → IsPrefix acts (acts ++ a ∷ [])
one_more acts a = record { rest = a ∷ []; whole = refl }

came_adds : (w : Option World) (input : List ℕ) (acts : List Act) → Adds acts (came w input acts)
came_adds None input acts = IsPrefix-refl acts
came_adds (Some w) input acts = IsPrefix-refl acts

next_byte_adds : (d : Destination) (w : World) (input : List ℕ) (acts : List Act) → Adds acts (next_byte d w input acts)
next_byte_adds d w [] acts = IsPrefix-trans (one_more acts _) (came_adds (given d minus_one w) [] _)
next_byte_adds d w (b ∷ bs) acts = IsPrefix-trans (one_more acts _) (came_adds (given d (Int b) w) bs _)

after_turn_adds : (t : Turned) (input : List ℕ) (acts : List Act) → Adds acts (after_turn t input acts)
after_turn_adds (On w) input acts = IsPrefix-refl acts
after_turn_adds (Asks d w) input acts = next_byte_adds d w input acts
after_turn_adds (Gives b w) input acts = one_more acts _
after_turn_adds (Ends how) input acts = IsPrefix-refl acts

advance_adds : (p : Linked) (r : Run) → Adds (seen r).acts (advance p r)
advance_adds p (Going w input acts) = after_turn_adds (turn p w) input acts
advance_adds p (Over how acts) = IsPrefix-refl acts

-- a turn only adds acts, and what is over stays so
pub source_steady : (p : Linked) → Steady (source p)
source_steady p = halting_steady (advance p) seen price (λ r running. advance_adds p r)

pub source_grows : (units : List TypedUnit) (room : ℕ) (input : List ℕ) (n : ℕ) → GrowsAt (source_after units room input) n
source_grows units room input n = run_grows (source (linked units room)) (source_steady (linked units room)) (begun (linked units room) input) n
