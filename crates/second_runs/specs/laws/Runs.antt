-- Units of the second form do, turn by turn, what `clight_sem` says of typed units that mirror them.
use Rattle.std.proofs.Common.{◌≡◌, ℕ, ◌+◌, zero, suc, Bool, true, false, cond, eqb, List, [], ◌∷◌, length, slice_get, Option, Some, None, refl, sym, ap, ◌∙◌, subst}
use Rattle.std.specs.Prelude.{nat_le, unwrap_or, if◌then◌else◌}
use Rattle.std.specs.Option.{option_and_then}
use Rattle.cc_base.specs.declared.run.Act.{Act}
use Rattle.cc_base.specs.declared.run.Outcome.{Outcome}
use Rattle.cc_base.specs.declared.run.Outcome.TheVariants as outcome
use Rattle.pass_core.specs.Semantics.{iterate, if_running}
use Rattle.block_mem.specs.Blocks.{Blocks}
use Rattle.block_mem.specs.Start.{start}
use Rattle.block_mem.specs.declared.value.Value.TheVariants.{Int}
use Rattle.block_mem.specs.declared.operator.Op.TheVariants.{Keep}
use Rattle.clight_unit.specs.declared.unit.ClightUnit.{ClightUnit as TypedUnit}
use Rattle.clight_unit.specs.declared.statement.Statement.{Statement, out-Statement}
use Rattle.clight_unit.specs.declared.statement.Statement.TheVariants as typed
use Rattle.clight_unit.specs.declared.statement.Statement.TheOpen.{Statement-F}
use Rattle.clight_unit.specs.declared.statement.Statement.TheViews.{out-roll-Statement}
use Rattle.clight_unit.specs.declared.statement.Simple.{Simple}
use Rattle.clight_unit.specs.declared.statement.Value.{Value as Converted}
use Rattle.clight_unit.specs.declared.expression.Expression.TheVariants as expression
use Rattle.clight_unit.specs.declared.expression.Expression.TheOpen.{Expression-F}
use Rattle.clight_unit.specs.declared.expression.Expression.TheFolds.{fold-roll-Expression}
use Rattle.block_mem.specs.declared.value.Value.{Value}
use Rattle.clight_sem.specs.Values.{Scene, value_of, convert_if, with_value, expression_step, place_step, test_step}
use Rattle.clight_sem.specs.declared.destination.Destination.TheVariants as to
use Rattle.unit_names.specs.declared.meaning.Meaning.{Meaning as Typed}
use Rattle.unit_names.specs.declared.meaning.Meaning.TheVariants as meaning
use Rattle.clight_sem.specs.Functions.{Linked, linked, all_parts, function_at, callee_at, shown_function, main_name}
use Rattle.clight_sem.specs.States.{whole, Frame as TypedFrame, World, On, Ends, Run as TypedRun, Going as GoingOn, Over as IsOver, seen, wrong, with_left, on, scene_of, needs as typed_needs}
use Rattle.clight_sem.specs.Turns.{given, new_frame, with_locals, if_room, entered as typed_entered, called_with, called_if, left_with, left_if, back_in, statement_turn, turn_of as typed_turn_of, after_turn, entered_main, begun as typed_begun, source, source_after}
use Rattle.second_form.specs.declared.second_items.SmallStmt.{SmallStmt}
use Rattle.second_form.specs.declared.second_items.SmallStmt.TheVariants.{Put, Call, Return}
use Rattle.second_form.specs.declared.second_items.Item.{Item}
use Rattle.second_form.specs.SecondForm.{EndsReturning}
use Rattle.second_form.specs.SecondRun.{Meaning, means, main_of, stack_room, Frame, frame_of, needs, Run, Going, Over, called, returned, turn_of, turn, begun, run_after, seen_of, second_after}
use Rattle.second_runs.specs.Mirrors.{AreStatements, AllMirror}
use Rattle.second_runs.specs.laws.Found.{IsMeant, SameMeaning, typed_meaning, meant_same, shown_by_all}
use Rattle.second_runs.specs.laws.Callees.{calls_same, puts_same}

-- What a statement and a number are, one level open

out_simple : (x : Simple) → out-Statement (typed.Simple x) ≡ Statement-F.Simple x
out_simple x = ap out-Statement (sym (typed.rolls-Simple x)) ∙ out-roll-Statement (Statement-F.Simple x)

out_return : (v : Option Converted) → out-Statement (typed.Return v) ≡ Statement-F.Return v
out_return v = ap out-Statement (sym (typed.rolls-Return v)) ∙ out-roll-Statement (Statement-F.Return v)

constant_is : (s : Scene) (n : ℕ) → value_of s (expression.Constant n) ≡ Some (Int n)
constant_is s n = ap (value_of s) (sym (expression.rolls-Constant n)) ∙ fold-roll-Expression (Option Value) (Option Value) (Option Bool) (expression_step s) (place_step s) (test_step s) (Expression-F.Constant n)

-- Runs that stand alike

-- an active call of the second form and one of the typed units: of one unit, with the same left to do, and of the same need
pub record SameFrame (all : List TypedUnit) (s : Frame) (f : TypedFrame) : Type 0 where
  pub u : TypedUnit
  pub body : List Statement
  pub unit : f.unit ≡ s.unit
  pub at : slice_get all s.unit ≡ Some u
  pub left : f.left ≡ whole body
  pub are : AreStatements u s.left body
  pub ends : EndsReturning s.left
  pub need : f.function.need ≡ s.need
  pub result : f.result ≡ to.Nowhere

abbrev pub SameFrames : List TypedUnit → List Frame → List TypedFrame → Type 0
SameFrames all [] fs = fs ≡ []
SameFrames all (s ∷ ss) [] = ⊥
SameFrames all (s ∷ ss) (f ∷ fs) = SameFrame all s f × SameFrames all ss fs

abbrev pub SameRun : List TypedUnit → Run → TypedRun → Type 0
SameRun all (Going frames acts) (GoingOn w input done) = (done ≡ acts) × SameFrames all frames (w.top ∷ w.below)
SameRun all (Going frames acts) (IsOver how done) = ⊥
SameRun all (Over how acts) (GoingOn w input done) = ⊥
SameRun all (Over how acts) (IsOver so done) = (so ≡ how) × (done ≡ acts)

same_needs : (all : List TypedUnit) (ss : List Frame) (fs : List TypedFrame) → SameFrames all ss fs → typed_needs fs ≡ needs ss
same_needs all [] fs h = ap typed_needs h
same_needs all (s ∷ ss) [] h = absurd h
same_needs all (s ∷ ss) (f ∷ fs) h = ap (λ n. n + typed_needs fs) h.0.need ∙ ap (λ n. s.need + n) (same_needs all ss fs h.1)

seen_alike : (all : List TypedUnit) (r : Run) (t : TypedRun) → SameRun all r t → seen t ≡ seen_of r
seen_alike all (Going frames acts) (GoingOn w input done) h = ap (λ acts. record { outcome = outcome.Running; acts = acts }) h.0
seen_alike all (Going frames acts) (IsOver how done) h = absurd h
seen_alike all (Over how acts) (GoingOn w input done) h = absurd h
seen_alike all (Over how acts) (IsOver so done) h = ap (λ how. record { outcome = how; acts = done }) h.0 ∙ ap (λ acts. record { outcome = how; acts = acts }) h.1

module _ (units : List (List Item)) (all : List TypedUnit) (mirror : AllMirror units all) where
  abbrev program : Linked
  program = linked all stack_room

  -- Calls

  if_there_is_room : (ss : List Frame) (w : World) (acts : List Act) (input : List ℕ) (b : Bool) → SameFrames all ss (w.top ∷ w.below)
      → SameRun all (if b then Going ss acts else Over outcome.Deep acts) (after_turn (cond b (On w) (Ends outcome.Deep)) input acts)
  if_there_is_room ss w acts input true h = (refl, h)
  if_there_is_room ss w acts input false h = (refl, refl)

  new_same : (m : Meaning) (r : Option Typed) (h : IsMeant all m r) (calls : ℕ) → SameFrame all (frame_of m) (new_frame m.unit h.f calls [] to.Nowhere)
  new_same m r h calls = record { u = h.u; body = h.f.body; unit = refl; at = h.at; left = refl; are = h.does.statements; ends = h.does.ends; need = h.does.need; result = refl }

  function_is : (m : Meaning) (r : Option Typed) (h : IsMeant all m r) → function_at all m.unit h.index ≡ Some h.f
  function_is m r h = ap (λ (u : Option TypedUnit). option_and_then (λ (u : TypedUnit). slice_get u.functions h.index) u) h.at ∙ h.place

  enters : (m : Meaning) (r : Option Typed) (h : IsMeant all m r) (memory : Blocks) (calls : ℕ) (ss : List Frame) (below : List TypedFrame) (acts : List Act) (input : List ℕ)
      → SameFrames all ss below
      → SameRun all (called (Some m) ss acts) (after_turn (typed_entered program memory calls m.unit (function_at all m.unit h.index) [] to.Nowhere below) input acts)
  enters m r h memory calls ss below acts input same =
      let w : World = record { memory = with_locals memory calls 0 h.f.locals; calls = calls + 1; top = new_frame m.unit h.f calls [] to.Nowhere; below = below } in
      let both : SameFrames all (frame_of m ∷ ss) (w.top ∷ w.below) = (new_same m r h calls, same) in
      subst (λ f. SameRun all (called (Some m) ss acts) (after_turn (typed_entered program memory calls m.unit f [] to.Nowhere below) input acts)) (sym (function_is m r h))
      (subst (λ t. SameRun all (called (Some m) ss acts) (after_turn (cond (eqb 0 (length t.parameters)) (if_room program w) wrong) input acts)) (sym h.does.type)
      (subst (λ n. SameRun all (called (Some m) ss acts) (after_turn (cond (nat_le n stack_room) (On w) (Ends outcome.Deep)) input acts)) (sym (same_needs all (frame_of m ∷ ss) (w.top ∷ w.below) both))
      (if_there_is_room (frame_of m ∷ ss) w acts input (nat_le (needs (frame_of m ∷ ss)) stack_room) both)))

  calls_as : (m : Option Meaning) (r : Option Typed) → SameMeaning all m r → (w : World) (ss : List Frame) (acts : List Act) (input : List ℕ) → SameFrames all ss (w.top ∷ w.below)
      → SameRun all (called m ss acts) (after_turn (called_with program w (unwrap_or r meaning.Nothing) to.Nowhere []) input acts)
  calls_as None r h w ss acts input same =
      subst (λ r. SameRun all (called None ss acts) (after_turn (called_with program w (unwrap_or r meaning.Nothing) to.Nowhere []) input acts)) (sym h) (refl, refl)
  calls_as (Some m) r h w ss acts input same =
      subst (λ r. SameRun all (called (Some m) ss acts) (after_turn (called_with program w (unwrap_or r meaning.Nothing) to.Nowhere []) input acts)) (sym h.is)
      (enters m r h w.memory w.calls ss (w.top ∷ w.below) acts input same)

  -- Returns

  comes_back : (n : ℕ) (w : World) (ss : List Frame) (below : List TypedFrame) (acts : List Act) (input : List ℕ) → w.top.result ≡ to.Nowhere → SameFrames all ss below
      → SameRun all (returned n ss acts) (after_turn (left_with w (Some (Int n)) below) input acts)
  comes_back n w [] below acts input result h = subst (λ below. SameRun all (returned n [] acts) (after_turn (left_with w (Some (Int n)) below) input acts)) (sym h) (refl, refl)
  comes_back n w (s ∷ ss) [] acts input result h = absurd h
  comes_back n w (s ∷ ss) (f ∷ below) acts input result h =
      subst (λ d. SameRun all (returned n (s ∷ ss) acts) (after_turn (on (given d (Int n) (back_in w f below))) input acts)) (sym result) (refl, h)

  -- Statements

  -- the newest call with its first statement taken
  rest_same : (s : Frame) (f : TypedFrame) (h : SameFrame all s f) (left : List SmallStmt) (ts : List Statement) → AreStatements h.u left ts → EndsReturning left
      → SameFrame all (record s { left = left }) (record f { left = whole ts })
  rest_same s f h left ts are ends = record { u = h.u; body = ts; unit = h.unit; at = h.at; left = refl; are = are; ends = ends; need = h.need; result = h.result }

  statement_same : (s : Frame) (ss : List Frame) (w : World) (acts : List Act) (input : List ℕ) (h : SameFrame all s w.top) → SameFrames all ss w.below
      → (left : List SmallStmt) (body : List Statement) → AreStatements h.u left body → EndsReturning left
      → SameRun all (turn_of units s ss acts left) (after_turn (typed_turn_of program w (whole body)) input acts)
  statement_same s ss w acts input h same [] body are ends = absurd ends
  statement_same s ss w acts input h same (x ∷ left) [] are ends = absurd are
  statement_same s ss w acts input h same (Put n ∷ left) (t ∷ ts) are ends =
      let after : World = with_left w (whole ts) in
      let puts : callee_at program w.top.unit are.0.0 ≡ meaning.PutByte =
      ap (λ k. callee_at program k are.0.0) h.unit ∙ puts_same units all stack_room s.unit h.u are.0.0 mirror h.at are.0.1 in
      subst (λ t. SameRun all (turn_of units s ss acts (Put n ∷ left)) (after_turn (statement_turn program after t) input acts)) (sym (ap out-Statement are.0.2 ∙ out_simple _))
      (subst (λ v. SameRun all (turn_of units s ss acts (Put n ∷ left)) (after_turn (called_if program after (callee_at program w.top.unit are.0.0) (Some to.Nowhere) (with_value (convert_if Keep v) (Some []))) input acts)) (sym (constant_is (scene_of program after) n))
      (subst (λ m. SameRun all (turn_of units s ss acts (Put n ∷ left)) (after_turn (called_with program after m to.Nowhere (Int n ∷ [])) input acts)) (sym puts)
      (refl, (rest_same s w.top h left ts are.1 ends, same))))
  statement_same s ss w acts input h same (Call name ∷ left) (t ∷ ts) are ends =
      let after : World = with_left w (whole ts) in
      let r = typed_meaning all s.unit h.u name in
      let calls : callee_at program w.top.unit are.0.0 ≡ unwrap_or r meaning.Nothing =
      ap (λ k. callee_at program k are.0.0) h.unit ∙ calls_same units all stack_room s.unit h.u are.0.0 name mirror h.at are.0.1 are.0.2 in
      subst (λ t. SameRun all (turn_of units s ss acts (Call name ∷ left)) (after_turn (statement_turn program after t) input acts)) (sym (ap out-Statement are.0.3 ∙ out_simple _))
      (subst (λ m. SameRun all (turn_of units s ss acts (Call name ∷ left)) (after_turn (called_with program after m to.Nowhere []) input acts)) (sym calls)
      (calls_as (means units s.unit name) r (meant_same units all s.unit h.u name mirror h.at) after (record s { left = left } ∷ ss) acts input (rest_same s w.top h left ts are.1 ends, same)))
  statement_same s ss w acts input h same (Return n ∷ left) (t ∷ ts) are ends =
      let after : World = with_left w (whole ts) in
      subst (λ t. SameRun all (turn_of units s ss acts (Return n ∷ left)) (after_turn (statement_turn program after t) input acts)) (sym (ap out-Statement are.0 ∙ out_return _))
      (subst (λ v. SameRun all (turn_of units s ss acts (Return n ∷ left)) (after_turn (left_if after (convert_if Keep v)) input acts)) (sym (constant_is (scene_of program after) n))
      (comes_back n after ss w.below acts input h.result same))

  -- Turns

  abbrev step : TypedRun → TypedRun
  step = (source program).step

  over_same : (how : Outcome) (r : TypedRun) → if_running how r r ≡ r
  over_same outcome.Running r = refl
  over_same (outcome.Ended status) r = refl
  over_same outcome.Wrong r = refl
  over_same outcome.Deep r = refl

  turn_same : (r : Run) (t : TypedRun) → SameRun all r t → SameRun all (turn units r) (step t)
  turn_same (Going [] acts) (GoingOn w input done) h = let e : (w.top ∷ w.below) ≡ [] = h.1 in cc
  turn_same (Going (s ∷ ss) acts) (GoingOn w input done) h =
      let top : SameFrame all s w.top = h.1.0 in
      subst (λ done. SameRun all (turn_of units s ss acts s.left) (after_turn (typed_turn_of program w w.top.left) input done)) (sym h.0)
      (subst (λ left. SameRun all (turn_of units s ss acts s.left) (after_turn (typed_turn_of program w left) input acts)) (sym top.left)
      (statement_same s ss w acts input top h.1.1 s.left top.body top.are top.ends))
  turn_same (Going frames acts) (IsOver how done) h = absurd h
  turn_same (Over how acts) (GoingOn w input done) h = absurd h
  turn_same (Over how acts) (IsOver so done) h = subst (λ r. SameRun all (Over how acts) r) (sym (over_same so (IsOver so done))) h

  begins_same : (input : List ℕ) → SameRun all (begun units) (typed_begun program input)
  begins_same input = main_as (main_of units) (shown_function all main_name) (shown_by_all all main_name units mirror)
    where
      main_as : (m : Option Meaning) (r : Option Typed) → SameMeaning all m r → SameRun all (called m [] []) (after_turn (entered_main program r) input [])
      main_as None r h = subst (λ r. SameRun all (called None [] []) (after_turn (entered_main program r) input [])) (sym h) (refl, refl)
      main_as (Some m) r h =
          subst (λ r. SameRun all (called (Some m) [] []) (after_turn (entered_main program r) input [])) (sym h.is)
          (enters m r h (start (all_parts all)) 0 [] [] [] input refl)

  -- one step more, at the end
  step_last : (n : ℕ) (t : TypedRun) → iterate step (suc n) t ≡ step (iterate step n t)
  step_last zero t = refl
  step_last (suc n) t = step_last n (step t)

  runs_same : (input : List ℕ) (n : ℕ) → SameRun all (run_after units n) (iterate step n (typed_begun program input))
  runs_same input zero = begins_same input
  runs_same input (suc n) =
      subst (λ t. SameRun all (run_after units (suc n)) t) (sym (step_last n (typed_begun program input)))
      (turn_same (run_after units n) (iterate step n (typed_begun program input)) (runs_same input n))

-- what linked units of the second form have come to after so many turns is what their typed units have, on every input
pub mirrored_runs : (units : List (List Item)) (all : List TypedUnit) → AllMirror units all → (input : List ℕ) (n : ℕ) → source_after all stack_room input n ≡ second_after units n
mirrored_runs units all mirror input n =
    seen_alike all (run_after units n) (iterate (source (linked all stack_room)).step n (typed_begun (linked all stack_room) input)) (runs_same units all mirror input n)
