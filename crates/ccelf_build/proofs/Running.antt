-- What run comes to, where the files and the input tell their bytes.
use Rattle.std.proofs.Common.{◌≡◌, ◌<◌, [], ℕ, List, Some, option_map, drop, refl, inl, inr, ap, ◌∙◌, subst}
use Rattle.cc_base.specs.Seen.{FilesSeen, SourceSeen, SinkSeen}
use Rattle.cc_base.specs.Outside.{grown}
use Rattle.cc_base.specs.Runs.{emitted, taken}
use Rattle.cc_base.specs.declared.run.Act.{Act}
use Rattle.elf_file.specs.declared.image.ImageParts.{ImageParts}
use Rattle.commands.specs.declared.answer.Answer.{Answer}
use Rattle.commands.specs.declared.answer.Answer.TheVariants as answer
use Rattle.commands.specs.Doing.{Outside}
use Rattle.commands.specs.Steps.{Ran, Runs, RunsBy, NextDoes, IsAsked, IsGiven}
use Rattle.commands.specs.Does.{run_does}
use Rattle.ccelf_build.specs.Contents.{Contents, StandsAt, DidPut}
use Rattle.ccelf_build.specs.Told.{RanFor, RanUntil, Comes, IsLoaded, run_told}
use Rattle.ccelf_build.proofs.Runnings.{runs_by}
use Rattle.ccelf_build.proofs.Units.{Tells, FetchRow, fetch_row, fetch_same, fetch_stands, nothing_done}
use Rattle.ccelf_build.proofs.Untouching.{run_still}

module _ (image : ImageParts) (input : List ℕ) (steps : ℕ) (old : Outside) (known : old.input.told ≡ Some input) where
  ran_for : (n : ℕ) (until : Outside) → Ran image n old until → RanFor image input n old until
  ran_for n until r = record {
    emits = ap (λ (x : SinkSeen). x.told) r.output ∙ ap (λ (acts : List Act). (grown old.output (emitted acts)).told) (r.exact input known);
    takes = ap (λ (x : SourceSeen). x.told) r.input ∙ ap (option_map (λ (rest : List ℕ). drop (taken r.acts) rest)) known ∙ ap (λ (acts : List Act). Some (drop (taken acts) input)) (r.exact input known);
  }

  -- a fault that leaves what is told
  cut_at : (P : Act → Type 0) (n : ℕ) (until new : Outside) → n < steps → Ran image n old until → NextDoes image n old P → new.output.told ≡ until.output.told → new.input.told ≡ until.input.told → RanUntil image input steps P old new
  cut_at P n until new l h next o i =
      let r = ran_for n until h in record { count = n; fewer = l; ran = record { emits = o ∙ r.emits; takes = i ∙ r.takes }; next = next input known }

  pub comes_so : (new : Outside) (told : Answer) → RunsBy image steps old told new → Comes image input steps old told new
  comes_so new (answer.Ended status) h = (ran_for steps new h.0, h.1 input known)
  comes_so new answer.Spent h = (ran_for steps new h.0, h.1 input known)
  comes_so new (answer.Stuck eip cause) h = (ran_for steps new h.0, h.1 input known)
  comes_so new answer.ReadFault h =
      cut_at IsAsked h.count h.until new h.fewer h.ran h.next (ap (λ (x : Outside). x.output.told) h.fault.1) (ap (λ (x : SourceSeen). x.told) h.fault.0.others)
  comes_so new answer.WriteFault h =
      cut_at IsGiven h.count h.until new h.fewer h.ran h.next (ap (λ (x : SinkSeen). x.told) h.fault.0.others) (ap (λ (x : Outside). x.input.told) h.fault.1)
  comes_so new answer.Memory h =
      cut_at IsGiven h.count h.until new h.fewer h.ran h.next (ap (λ (x : SinkSeen). x.told) h.fault.0.others) (ap (λ (x : Outside). x.input.told) h.fault.1)
  comes_so new _ h = absurd h

module _ (steps : ℕ) (name : List ℕ) (files : Contents) (input : List ℕ) (old : Outside) (there : Tells files old) (known : old.input.told ≡ Some input) where
  from_fetch : (new : Outside) (e : Answer) → FetchRow files name old e new → run_told steps name files input old e new
  from_fetch new (answer.Missing which) h = h
  from_fetch new (answer.LimitFile which) h = h
  from_fetch new answer.ReadFault h = inl h
  from_fetch new answer.Memory h = inl h
  from_fetch new _ h = absurd h

  from_run : (image : ImageParts) (e : Answer) (new : Outside) → IsLoaded files name image → new.files ≡ old.files → Comes image input steps old e new → run_told steps name files input old e new
  from_run image (answer.Ended status) new is f h = (ap (λ (x : FilesSeen). x.told) f ∙ there, (image, is, h))
  from_run image answer.Spent new is f h = (ap (λ (x : FilesSeen). x.told) f ∙ there, (image, is, h))
  from_run image (answer.Stuck eip cause) new is f h = (ap (λ (x : FilesSeen). x.told) f ∙ there, (image, is, h))
  from_run image answer.ReadFault new is f h = inr (ap (λ (x : FilesSeen). x.told) f ∙ there, (image, is, h))
  from_run image answer.WriteFault new is f h = (ap (λ (x : FilesSeen). x.told) f ∙ there, (image, is, h))
  from_run image answer.Memory new is f h = inr (ap (λ (x : FilesSeen). x.told) f ∙ there, (image, is, h))
  from_run image _ new is f h = absurd h

  here : DidPut files [] old old
  here = nothing_done files old old there refl

  from_bytes : (bytes : List ℕ) → StandsAt files name bytes → (new : Outside) (e : Answer) → Runs steps name bytes old e new → run_told steps name files input old e new
  from_bytes bytes stands new e h =
      runs_by steps name bytes old (λ told end. run_told steps name files input old told end)
      (λ none. (refl, (bytes, stands, none), here))
      (λ image index is fault. (refl, (bytes, stands, (image, is, fault)), here))
      (λ image is fault. (refl, (bytes, stands, (image, is, fault)), here))
      (inl here)
      (λ image is loads told end r.
      from_run image told end (record { bytes = bytes; stands = stands; is = is; loads = loads }) (run_still image steps old end told r) (comes_so image input steps old known end told r))
      e new h

  pub run_row : (new : Outside) (e : Answer) → run_does steps name old e new → run_told steps name files input old e new
  run_row new e (inl h) = from_fetch new e (fetch_row files name old new e there h)
  run_row new e (inr h) =
      let P : Outside → Type 0 = λ from. Runs steps name h.value from e new in
      from_bytes h.value (fetch_stands files name h.value old h.between there h.went) new e (subst P (fetch_same name h.value old h.between h.went) h.goes_on)
