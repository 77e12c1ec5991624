-- What a list of units of the second form does: linked names, turns, calls, and the stack that calls need.
-- A name means the unit's own function, static or not, else the one that another unit shows (C, linkage of identifiers, 6.2.2).
use Rattle.std.specs.Prelude.{ℕ, zero, suc, ◌+◌, ◌*◌, ◌%◌, List, [], ◌∷◌, ◌++◌, slice_index_or, Option, Some, None, Bool, true, false, not, ◌&&◌, nat_le, if◌then◌else◌, codes}
use Rattle.std.specs.Str.{bytes_eq}
use Rattle.cc_base.specs.Runs.{State}
use Rattle.cc_base.specs.declared.run.Act.{Act}
use Rattle.cc_base.specs.declared.run.Act.TheVariants.{Gave}
use Rattle.cc_base.specs.declared.run.Outcome.{Outcome}
use Rattle.cc_base.specs.declared.run.Outcome.TheVariants as outcome
use Rattle.second_form.specs.declared.second_items.SmallStmt.{SmallStmt}
use Rattle.second_form.specs.declared.second_items.SmallStmt.TheVariants.{Put, Call, Return}
use Rattle.second_form.specs.declared.second_items.Item.{Item}

-- a function that a name means: the number of the unit that defines it, and its statements
pub record Meaning : Type 0 where
  pub unit : ℕ
  pub body : List SmallStmt

-- the body of an item that counts, if it has one, and else that of the others
abbrev pub body_or : Bool → Option (List SmallStmt) → Option (List SmallStmt) → Option (List SmallStmt)
body_or true (Some body) others = Some body
body_or true None others = others
body_or false body others = others

-- the unit's own definition of the name
abbrev pub own : List Item → List ℕ → Option (List SmallStmt)
own [] name = None
own (item ∷ items) name = body_or (bytes_eq item.name name) item.body (own items name)

-- the definition of the name that the unit shows to others: one that is not static
abbrev pub shown : List Item → List ℕ → Option (List SmallStmt)
shown [] name = None
shown (item ∷ items) name = body_or (not item.local && bytes_eq item.name name) item.body (shown items name)

-- what a unit of this number defines, and else what the others do
abbrev pub meaning_or : ℕ → Option (List SmallStmt) → Option Meaning → Option Meaning
meaning_or number (Some body) others = Some (record { unit = number; body = body })
meaning_or number None others = others

-- what the first of these units shows, which have the numbers from this one on
abbrev pub shown_by : ℕ → List (List Item) → List ℕ → Option Meaning
shown_by number [] name = None
shown_by number (unit ∷ units) name = meaning_or number (shown unit name) (shown_by (suc number) units name)

-- what a name means in a unit
abbrev pub means : List (List Item) → ℕ → List ℕ → Option Meaning
means units unit name = meaning_or unit (own (slice_index_or units unit []) name) (shown_by 0 units name)

-- what `main` means to the runtime
abbrev pub main_of : List (List Item) → Option Meaning
main_of units = shown_by 0 units (codes "main")

-- A statement is a node, and so is a number in it. A function is one more.
abbrev pub nodes_of : List SmallStmt → ℕ
nodes_of [] = 1
nodes_of (Put n ∷ body) = 2 + nodes_of body
nodes_of (Call name ∷ body) = 1 + nodes_of body
nodes_of (Return n ∷ body) = 2 + nodes_of body

-- the bytes of stack that a call of the function needs
abbrev pub need_of : List SmallStmt → ℕ
need_of body = 64 + 16 * nodes_of body

-- how many bytes all active calls may need together
abbrev pub stack_room : ℕ
stack_room = 1048512

-- an active call: the unit of its function, what it has still to do, and what it needs
pub record Frame : Type 0 where
  pub unit : ℕ
  pub left : List SmallStmt
  pub need : ℕ

abbrev pub frame_of : Meaning → Frame
frame_of m = record { unit = m.unit; left = m.body; need = need_of m.body }

abbrev pub needs : List Frame → ℕ
needs [] = 0
needs (frame ∷ frames) = frame.need + needs frames

-- a run: the active calls, the newest first, and what was done; or how it is over
pub data Run : Type 0 where
  Going : List Frame → List Act → Run
  Over : Outcome → List Act → Run

-- a call is made, if the stack has room for all of them
abbrev pub entered : List Frame → List Act → Run
entered frames acts = if nat_le (needs frames) stack_room then Going frames acts else Over outcome.Deep acts

-- a call of what the name means. One that means nothing goes wrong
abbrev pub called : Option Meaning → List Frame → List Act → Run
called None frames acts = Over outcome.Wrong acts
called (Some m) frames acts = entered (frame_of m ∷ frames) acts

-- the newest call returns: the run ends with the number modulo 256 where it was the first
abbrev pub returned : ℕ → List Frame → List Act → Run
returned n [] acts = Over (outcome.Ended (n % 256)) acts
returned n (frame ∷ frames) acts = Going (frame ∷ frames) acts

-- with nothing left `main` returns 0, and another function goes wrong
abbrev pub fallen : List Frame → List Act → Run
fallen [] acts = Over (outcome.Ended 0) acts
fallen (frame ∷ frames) acts = Over outcome.Wrong acts

-- the first statement that the newest call has still to do
abbrev pub turn_of : List (List Item) → Frame → List Frame → List Act → List SmallStmt → Run
turn_of units frame frames acts [] = fallen frames acts
turn_of units frame frames acts (Put n ∷ left) = Going (record frame { left = left } ∷ frames) (acts ++ Gave (n % 256) ∷ [])
turn_of units frame frames acts (Call name ∷ left) = called (means units frame.unit name) (record frame { left = left } ∷ frames) acts
turn_of units frame frames acts (Return n ∷ left) = returned n frames acts

-- one turn. What is over stays so
abbrev pub turn : List (List Item) → Run → Run
turn units (Going [] acts) = Over outcome.Wrong acts
turn units (Going (frame ∷ frames) acts) = turn_of units frame frames acts frame.left
turn units (Over how acts) = Over how acts

-- after 0 turns `main` is active, and nothing of it is done
abbrev pub begun : List (List Item) → Run
begun units = called (main_of units) [] []

abbrev pub run_after : List (List Item) → ℕ → Run
run_after units zero = begun units
run_after units (suc n) = turn units (run_after units n)

-- what is seen of a run
abbrev pub seen_of : Run → State
seen_of (Going frames acts) = record { outcome = outcome.Running; acts = acts }
seen_of (Over how acts) = record { outcome = how; acts = acts }

-- what linked units have come to after so many turns
abbrev pub second_after : List (List Item) → ℕ → State
second_after units turns = seen_of (run_after units turns)
