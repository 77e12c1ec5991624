-- The machine's run as a run that goes by steps.
use Rattle.std.specs.Prelude.{◌≡◌, ◌≢◌, ℕ, zero, suc, List, ◌++◌, slice_get}
use Rattle.std.proofs.Common.{◌∙◌, ap, sym, refl, subst, append-nil}
use Rattle.cc_base.specs.declared.run.Outcome.TheVariants as outcome
use Rattle.cc_base.specs.Runs.{IsPrefix}
use Rattle.i386_machine.specs.declared.event.Standing.{Standing}
use Rattle.i386_machine.specs.declared.event.Standing.TheVariants as standing
use Rattle.i386_machine.specs.Machine as machine
use Rattle.i386_machine.specs.Step.{doing_at, step, stepped}
use Rattle.i386_machine.specs.Runs.{Run, advance, after, begun, seen_of, outcome_of, acts_of}
use Rattle.pass_core.specs.Semantics.{Semantics, Steady, iterate}
use Rattle.pass_core.specs.laws.Simulation.{iterate-step}
use Rattle.i386_steps.specs.laws.Hops.{hop, hop-is}

abbrev pub image_semantics : Semantics Run
image_semantics = record { step = hop; view = seen_of; price = λ _. 1 }

advance_grows : (r : Run) → IsPrefix (seen_of r).acts (seen_of (advance r)).acts
advance_grows r = record { rest = acts_of (step r.machine (slice_get r.left 0)).event; whole = refl }

-- a machine that is over stays so
over_at : (s : Standing) (r : Run) → r.machine.standing ≡ s → outcome_of s ≢ outcome.Running → seen_of (advance r) ≡ seen_of r
over_at standing.Running r e h = absurd (h refl)
over_at (standing.Ended status) r e h =
    ap (λ d. let s = stepped d r.machine (slice_get r.left 0) in record { outcome = outcome_of s.after.standing; acts = r.acts ++ acts_of s.event }) (ap (λ x. doing_at x r.machine) e)
    ∙ ap (λ a. record { outcome = outcome.Ended status; acts = a }) (append-nil r.acts) ∙ ap (λ x. record { outcome = outcome_of x; acts = r.acts }) (sym e)
over_at (standing.Stuck cause) r e h =
    ap (λ d. let s = stepped d r.machine (slice_get r.left 0) in record { outcome = outcome_of s.after.standing; acts = r.acts ++ acts_of s.event }) (ap (λ x. doing_at x r.machine) e)
    ∙ ap (λ a. record { outcome = outcome.Wrong; acts = a }) (append-nil r.acts) ∙ ap (λ x. record { outcome = outcome_of x; acts = r.acts }) (sym e)

pub image_steady : Steady image_semantics
image_steady = record {
  grows = λ r. subst (λ (x : Run). IsPrefix (seen_of r).acts (seen_of x).acts) (sym (hop-is r)) (advance_grows r);
  stays = λ r h. ap seen_of (hop-is r) ∙ over_at r.machine.standing r refl h;
}

-- the machine's run, step by step
pub after-iterate : (m : machine.State) (input : List ℕ) (n : ℕ) → after m input n ≡ iterate hop n (begun m input)
after-iterate m input zero = refl
after-iterate m input (suc n) = sym (hop-is (after m input n)) ∙ ap hop (after-iterate m input n) ∙ iterate-step hop n (begun m input)
