-- Laws of the runs of linked units: acts only grow, what is over stays, and the active calls of a run that goes on fit the stack.
use Rattle.std.specs.Prelude.{◌≡◌, ◌≢◌, ℕ, zero, suc, ◌+◌, ◌%◌, ◌≤◌, ◌<◌, List, [], ◌∷◌, length, Option, Some, None, Bool, true, false, nat_le, if◌then◌else◌}
use Rattle.std.proofs.Common.{refl, sym, ◌∙◌, ap, subst, arith, append-nil}
use Rattle.std.proofs.lemmas.Bool.{leb-true}
use Rattle.cc_base.specs.Runs.{IsPrefix, GrowsAt}
use Rattle.cc_base.specs.declared.run.Act.{Act}
use Rattle.cc_base.specs.declared.run.Act.TheVariants.{Gave}
use Rattle.cc_base.specs.declared.run.Outcome.TheVariants.{Running, Deep}
use Rattle.second_form.specs.declared.second_items.SmallStmt.{SmallStmt}
use Rattle.second_form.specs.declared.second_items.SmallStmt.TheVariants.{Put, Call, Return}
use Rattle.second_form.specs.declared.second_items.Item.{Item}
use Rattle.second_form.specs.SecondRun.{Meaning, means, main_of, stack_room, Frame, frame_of, needs, Run, Going, Over, called, turn_of, turn, run_after, seen_of, second_after}

-- acts only grow
same_acts : (acts : List Act) → IsPrefix acts acts
same_acts acts = record { rest = []; whole = sym (append-nil acts) }

entered_acts : (frames : List Frame) (acts : List Act) (b : Bool) → (seen_of (if b then Going frames acts else Over Deep acts)).acts ≡ acts
entered_acts frames acts true = refl
entered_acts frames acts false = refl

called_acts : (m : Option Meaning) (frames : List Frame) (acts : List Act) → (seen_of (called m frames acts)).acts ≡ acts
called_acts None frames acts = refl
called_acts (Some m) frames acts = entered_acts (frame_of m ∷ frames) acts (nat_le (needs (frame_of m ∷ frames)) stack_room)

acts_as : (acts more : List Act) → more ≡ acts → IsPrefix acts more
acts_as acts more e = record { rest = []; whole = e ∙ sym (append-nil acts) }

turn_of_grows : (units : List (List Item)) (frame : Frame) (frames : List Frame) (acts : List Act) (left : List SmallStmt) → IsPrefix acts (seen_of (turn_of units frame frames acts left)).acts
turn_of_grows units frame [] acts [] = same_acts acts
turn_of_grows units frame (next ∷ frames) acts [] = same_acts acts
turn_of_grows units frame frames acts (Put n ∷ left) = record { rest = Gave (n % 256) ∷ []; whole = refl }
turn_of_grows units frame frames acts (Call name ∷ left) = acts_as acts _ (called_acts (means units frame.unit name) (record frame { left = left } ∷ frames) acts)
turn_of_grows units frame [] acts (Return n ∷ left) = same_acts acts
turn_of_grows units frame (next ∷ frames) acts (Return n ∷ left) = same_acts acts

pub turn_grows : (units : List (List Item)) (r : Run) → IsPrefix (seen_of r).acts (seen_of (turn units r)).acts
turn_grows units (Going [] acts) = same_acts acts
turn_grows units (Going (frame ∷ frames) acts) = turn_of_grows units frame frames acts frame.left
turn_grows units (Over how acts) = same_acts acts

-- what is over stays
pub turn_stays : (units : List (List Item)) (r : Run) → (seen_of r).outcome ≢ Running → turn units r ≡ r
turn_stays units (Going frames acts) over = absurd (over refl)
turn_stays units (Over how acts) over = refl

-- a turn more
next_turn : (units : List (List Item)) (n : ℕ) → run_after units (n + 1) ≡ turn units (run_after units n)
next_turn units n = ap (run_after units) (let e : n + 1 ≡ suc n = omega arith in e)

pub second_grows : (units : List (List Item)) (n : ℕ) → GrowsAt (second_after units) n
second_grows units n = record {
  acts = let P : Run → Type 0 = λ r. IsPrefix (seen_of (run_after units n)).acts (seen_of r).acts in subst P (sym (next_turn units n)) (turn_grows units (run_after units n));
  stays = λ over. ap seen_of (next_turn units n ∙ turn_stays units (run_after units n) over);
}

pub over_stays : (units : List (List Item)) (n more : ℕ) → (second_after units n).outcome ≢ Running → run_after units (n + more) ≡ run_after units n
over_stays units n zero over = ap (run_after units) (let e : n + 0 ≡ n = omega arith in e)
over_stays units n (suc more) over =
    let e : n + suc more ≡ suc (n + more) = omega arith in
    let before : run_after units (n + more) ≡ run_after units n = over_stays units n more over in
    ap (run_after units) e ∙ ap (turn units) before ∙ turn_stays units (run_after units n) over

-- a run that goes on has an active call, and all of them fit the stack
abbrev pub Fits : Run → Type 0
Fits (Going frames acts) = (0 < length frames) × (needs frames ≤ stack_room)
Fits (Over how acts) = Unit {0}

entered_fits : (frame : Frame) (frames : List Frame) (acts : List Act) (b : Bool) → nat_le (needs (frame ∷ frames)) stack_room ≡ b → Fits (if b then Going (frame ∷ frames) acts else Over Deep acts)
entered_fits frame frames acts true e = (omega arith, leb-true (needs (frame ∷ frames)) stack_room e)
entered_fits frame frames acts false e = tt

called_fits : (m : Option Meaning) (frames : List Frame) (acts : List Act) → Fits (called m frames acts)
called_fits None frames acts = tt
called_fits (Some m) frames acts = entered_fits (frame_of m) frames acts (nat_le (needs (frame_of m ∷ frames)) stack_room) refl

turn_of_fits : (units : List (List Item)) (frame : Frame) (frames : List Frame) (acts : List Act) (left : List SmallStmt) → needs (frame ∷ frames) ≤ stack_room → Fits (turn_of units frame frames acts left)
turn_of_fits units frame [] acts [] fits = tt
turn_of_fits units frame (next ∷ frames) acts [] fits = tt
turn_of_fits units frame frames acts (Put n ∷ left) fits = (omega arith, fits)
turn_of_fits units frame frames acts (Call name ∷ left) fits = called_fits (means units frame.unit name) (record frame { left = left } ∷ frames) acts
turn_of_fits units frame [] acts (Return n ∷ left) fits = tt
turn_of_fits units frame (next ∷ frames) acts (Return n ∷ left) fits = (omega arith, omega (arith, fits))

pub turn_fits : (units : List (List Item)) (r : Run) → Fits r → Fits (turn units r)
turn_fits units (Going [] acts) fits = tt
turn_fits units (Going (frame ∷ frames) acts) fits = turn_of_fits units frame frames acts frame.left fits.1
turn_fits units (Over how acts) fits = tt

pub run_fits : (units : List (List Item)) (n : ℕ) → Fits (run_after units n)
run_fits units zero = called_fits (main_of units) [] []
run_fits units (suc n) = turn_fits units (run_after units n) (run_fits units n)
