-- Laws of runs: whatever the bytes are, regions keep their bases, lengths and rights, acts only grow, and a run that is over stays as it is.
use Rattle.std.specs.Prelude.{◌≡◌, ◌≢◌, ℕ, zero, suc, List, ◌++◌, slice_get}
use Rattle.std.proofs.Common.{refl, sym, ◌∙◌, ap, append-nil, add-one}
use Rattle.cc_base.specs.Runs.{GrowsAt}
use Rattle.cc_base.specs.Seen.{SourceSeen, SinkSeen}
use Rattle.cc_base.specs.declared.run.Act.{Act}
use Rattle.cc_base.specs.declared.run.Outcome.TheVariants as outcome
use Rattle.i386_machine.specs.declared.event.Event.TheVariants as event
use Rattle.i386_machine.specs.declared.event.RunEnd.{RunEnd}
use Rattle.i386_machine.specs.declared.event.RunEnd.TheVariants as end
use Rattle.i386_machine.specs.declared.event.Standing.{Standing}
use Rattle.i386_machine.specs.declared.event.Standing.TheVariants as standing
use Rattle.i386_machine.specs.Regions.{shapes}
use Rattle.i386_machine.specs.Machine.{State}
use Rattle.i386_machine.specs.Step.{Stepped, doing_at, stepped, step}
use Rattle.i386_machine.specs.laws.Steps.{shapes-step, IsOver}
use Rattle.i386_machine.specs.Runs.{Run, acts_of, left_after, advance, after, outcome_of, seen_of, Path, Runs}

-- over all steps regions keep their bases, lengths and rights
pub shapes-Path : (n : ℕ) (m : State) (acts : List Act) (m' : State) → Path m n acts m' → shapes m'.regions ≡ shapes m.regions
shapes-Path zero m acts m' p = ap (λ (s : State). shapes s.regions) p.1
shapes-Path (suc n) m acts m' p = ap (λ (s : State). shapes s.regions) p.leads ∙ shapes-step p.from p.next ∙ shapes-Path n m p.acts_before p.from p.led

pub shapes-after : (m : State) (input : List ℕ) (n : ℕ) → shapes (after m input n).machine.regions ≡ shapes m.regions
shapes-after m input zero = refl
shapes-after m input (suc n) = let run = after m input n in shapes-step run.machine (slice_get run.left 0) ∙ shapes-after m input n

pub shapes-Runs : (m : State) (steps : ℕ) (i : SourceSeen) (o : SinkSeen) (e : RunEnd) (m' : State) (i' : SourceSeen) (o' : SinkSeen) → Runs m steps i o e m' i' o' → shapes m'.regions ≡ shapes m.regions
shapes-Runs m steps i o (end.Ended status) m' i' o' r = shapes-Path steps m r.0.acts m' r.0.path
shapes-Runs m steps i o end.Spent m' i' o' r = shapes-Path steps m r.0.acts m' r.0.path
shapes-Runs m steps i o (end.Stuck eip cause) m' i' o' r = shapes-Path steps m r.0.acts m' r.0.path
shapes-Runs m steps i o end.Read m' i' o' r = shapes-Path r.count m r.ran.acts m' r.ran.path
shapes-Runs m steps i o end.Write m' i' o' r = shapes-Path r.count m r.ran.acts m' r.ran.path
shapes-Runs m steps i o end.Memory m' i' o' r = shapes-Path r.count m r.ran.acts m' r.ran.path

-- a step of a machine that is over, as a run sees it
by_step : Run → Stepped → Run
by_step run s = record { machine = s.after; left = left_after s.event run.left; acts = run.acts ++ acts_of s.event }

advance_over : (s : Standing) (run : Run) → run.machine.standing ≡ s → IsOver s → advance run ≡ run
unfolding by_step
advance_over standing.Running run e h = absurd h
advance_over (standing.Ended status) run e h =
    let is : step run.machine (slice_get run.left 0) ≡ record { event = event.Ended status; after = run.machine } =
    ap (λ (s : Standing). stepped (doing_at s run.machine) run.machine (slice_get run.left 0)) e ∙ ap (λ (s : Standing). record { event = event.Ended status; after = record run.machine { standing = s } }) (sym e) in
    ap (by_step run) is ∙ ap (λ (a : List Act). record run { acts = a }) (append-nil run.acts)
advance_over (standing.Stuck cause) run e h =
    let is : step run.machine (slice_get run.left 0) ≡ record { event = event.Stuck cause; after = run.machine } =
    ap (λ (s : Standing). stepped (doing_at s run.machine) run.machine (slice_get run.left 0)) e ∙ ap (λ (s : Standing). record { event = event.Stuck cause; after = record run.machine { standing = s } }) (sym e) in
    ap (by_step run) is ∙ ap (λ (a : List Act). record run { acts = a }) (append-nil run.acts)

not_running : (s : Standing) → outcome_of s ≢ outcome.Running → IsOver s
not_running standing.Running h = h refl
not_running (standing.Ended status) h = tt
not_running (standing.Stuck cause) h = tt

-- one more step only adds acts, and changes nothing once the run is over
pub GrowsAt-after : (m : State) (input : List ℕ) (n : ℕ) → GrowsAt (λ k. seen_of (after m input k)) n
GrowsAt-after m input n = let run = after m input n in record {
  acts = record { rest = acts_of (step run.machine (slice_get run.left 0)).event; whole = ap (λ k. (after m input k).acts) (add-one n) };
  stays = λ h. ap (λ k. seen_of (after m input k)) (add-one n) ∙ ap seen_of (advance_over run.machine.standing run refl (not_running run.machine.standing h));
}
