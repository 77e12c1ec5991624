-- What a run of linked units leaves of the files and the counts.
use Rattle.std.proofs.Common.{◌≡◌, ◌⊎◌, ℕ, List, Err, inl, inr, ap, ◌∙◌, subst}
use Rattle.cc_base.specs.Seen.{FilesSeen, SourceSeen, SinkSeen}
use Rattle.cc_base.specs.Outside.{SinkWanted}
use Rattle.cc_base.specs.declared.run.Outcome.{Outcome}
use Rattle.cc_base.specs.declared.run.Outcome.TheVariants as outcome
use Rattle.clight_unit.specs.declared.unit.ClightUnit.{ClightUnit as TypedUnit}
use Rattle.mean_source.specs.declared.meaning.MeanFault.TheVariants as fault
use Rattle.mean_source.specs.Means.{After, StandsSo, IsEmitting, ComesNext, Comes}
use Rattle.commands.specs.declared.answer.Answer.{Answer}
use Rattle.commands.specs.declared.answer.Answer.TheVariants as answer
use Rattle.commands.specs.Doing.{Outside}
use Rattle.commands.specs.Meanings.{MeansBy}
use Rattle.ccelf_build.specs.Tells.{counts, Raises}

-- no file is touched
pub means_still : (turns : ℕ) (names : List (List ℕ)) (units : List TypedUnit) (old new : Outside) (e : Answer) → MeansBy turns names units old e new → new.files ≡ old.files
means_still turns names units old new (answer.Doubled name file) h = h.2.1
means_still turns names units old new (answer.Unresolved name file) h = h.2.1
means_still turns names units old new (answer.Sized name file stated defined) h = h.2.1
means_still turns names units old new (answer.Ended status) h = h.1
means_still turns names units old new answer.Spent h = h.1
means_still turns names units old new (answer.Wrong turn) h = h.1
means_still turns names units old new (answer.Deep turn) h = h.1
means_still turns names units old new answer.ReadFault h = h.1
means_still turns names units old new answer.WriteFault h = h.1
means_still turns names units old new answer.Memory h = h.1
means_still turns names units old new _ h = absurd h

module _ (old new : Outside) (same : new.files ≡ old.files) where
  -- the outside as it stood when the run was cut off
  abbrev cut_at : SourceSeen → SinkSeen → Outside
  cut_at i o = record { files = new.files; input = i; output = o }

  -- no count rose, as far as the run has come
  stood : (after : After) (n : ℕ) (how : Outcome) (i : SourceSeen) (o : SinkSeen) → StandsSo after n how old.input old.output i o → counts (cut_at i o) ≡ counts old
  stood after n how i o s =
      ap (λ (f : FilesSeen). counts (record { files = f; input = i; output = o })) same ∙ ap (λ (x : SourceSeen). counts (record { files = old.files; input = x; output = o })) s.input
      ∙ ap (λ (x : SinkSeen). counts (record old { output = x })) s.output

  pub not_moved : new.input ≡ old.input → new.output ≡ old.output → counts new ≡ counts old
  not_moved i o =
      ap (λ (f : FilesSeen). counts (record new { files = f })) same ∙ ap (λ (x : SourceSeen). counts (record { files = old.files; input = x; output = new.output })) i
      ∙ ap (λ (x : SinkSeen). counts (record old { output = x })) o

  pub stood_still : (after : After) (n : ℕ) (how : Outcome) → StandsSo after n how old.input old.output new.input new.output → counts new ≡ counts old
  stood_still after n how s = stood after n how new.input new.output s

  pub read_raised : (after : After) (turns : ℕ) → Comes after turns old.input old.output (Err fault.Read) new.input new.output → Raises (counts old) answer.ReadFault (counts new)
  read_raised after turns h =
      subst (λ c. Raises c answer.ReadFault (counts new)) (stood after h.count outcome.Running h.source h.sink h.stands)
      (inr (
        h.fault.1.rose,
        ap (λ (x : SinkSeen). counts (cut_at new.input x)) h.fault.2 ∙ ap (λ (x : SourceSeen). counts (cut_at x h.sink)) h.fault.1.others,
      ))

  pub write_raised : (after : After) (turns : ℕ) → Comes after turns old.input old.output (Err fault.Write) new.input new.output → Raises (counts old) answer.WriteFault (counts new)
  write_raised after turns h =
      subst (λ c. Raises c answer.WriteFault (counts new)) (stood after h.count outcome.Running h.source h.sink h.stands)
      (inr (
        h.fault.1.rose,
        ap (λ (x : SourceSeen). counts (cut_at x new.output)) h.fault.2 ∙ ap (λ (x : SinkSeen). counts (cut_at h.source x)) h.fault.1.others,
      ))

  pub want_raised : (after : After) (turns : ℕ) → Comes after turns old.input old.output (Err fault.Memory) new.input new.output → Raises (counts old) answer.Memory (counts new)
  want_raised after turns (inl h) = inl (not_moved h.0 h.1)
  want_raised after turns (inr h) = subst (λ c. Raises c answer.Memory (counts new)) (stood after h.count outcome.Running h.source h.sink h.stands) (by h.fault.1)
    where
      by : (new.output ≡ h.sink) ⊎ (ComesNext IsEmitting after h.count old.input × SinkWanted h.sink new.output) → Raises (counts (cut_at h.source h.sink)) answer.Memory (counts new)
      by (inl e) = inl (ap (λ (x : SourceSeen). counts (cut_at x new.output)) h.fault.0 ∙ ap (λ (x : SinkSeen). counts (cut_at h.source x)) e)
      by (inr e) = inr (e.1.rose, ap (λ (x : SourceSeen). counts (cut_at x new.output)) h.fault.0 ∙ ap (λ (x : SinkSeen). counts (cut_at h.source x)) e.1.others)
