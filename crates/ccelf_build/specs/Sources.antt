-- Texts of units with their typed units, and what these mean where they are linked.
use Rattle.std.specs.Prelude.{ℕ, List}
use Rattle.cc_base.specs.Runs.{State}
use Rattle.clight_unit.specs.declared.unit.ClightUnit.{ClightUnit as TypedUnit}
use Rattle.clight_sem.specs.Turns.{source_after}
use Rattle.commands.specs.Meanings.{HasUnit, room}
use Rattle.ccelf_build.specs.Contents.{Contents, StandsAt, AreAll}

-- under the name stands a unit's text with this typed unit
pub record IsTyped (files : Contents) (name : List ℕ) (unit : TypedUnit) : Type 0 where
  pub text : List ℕ
  pub stands : StandsAt files name text
  pub has : HasUnit text unit

-- how linked units stand on an input after so many turns, with an image's stack
abbrev pub units_after : List TypedUnit → List ℕ → ℕ → State
units_after units input n = source_after units room input n

-- under all names stand typed units, of which this is so
abbrev pub AllTyped : List (List ℕ) → Contents → (List TypedUnit → Type 0) → Type 0
AllTyped names files so = (units : List TypedUnit) × AreAll (IsTyped files) names units × so units
