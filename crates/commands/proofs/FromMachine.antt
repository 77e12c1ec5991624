-- What a run of the loaded machine says of the image's bytes.
use Rattle.std.specs.Prelude.{◌≡◌, ◌≢◌, ℕ, suc, ◌+◌, List, [], ◌∷◌, ◌++◌, Option, Some, None, slice_get}
use Rattle.std.proofs.Common.{◌∙◌, ap, sym, refl, subst, arith}
use Rattle.cc_base.specs.Seen.{FilesSeen, SourceSeen, SinkSeen}
use Rattle.cc_base.specs.Outside.{SinkFailed, SinkWanted}
use Rattle.cc_base.specs.declared.run.Act.{Act}
use Rattle.cc_base.specs.declared.run.Act.TheVariants as act
use Rattle.i386_machine.specs.declared.event.Cause.{Cause}
use Rattle.i386_machine.specs.declared.event.Standing.{Standing}
use Rattle.i386_machine.specs.declared.event.Standing.TheVariants as standing
use Rattle.i386_machine.specs.declared.event.RunEnd.TheVariants as end
use Rattle.i386_machine.specs.Machine as machine
use Rattle.i386_machine.specs.Step.{Doing, Asks, Gives, doing, stepped}
use Rattle.i386_machine.specs.Runs as i386
use Rattle.commands.specs.declared.answer.Answer.TheVariants as answer
use Rattle.elf_file.specs.declared.image.ImageParts.{ImageParts}
use Rattle.elf_loader.specs.Load.{loaded, load_fault, image_after}
use Rattle.elf_loader.specs.declared.fault.LoadFault.{LoadFault}
use Rattle.elf_loader.specs.declared.fault.LoadFault.TheVariants as load
use Rattle.commands.specs.Doing.{outside}
use Rattle.commands.specs.Steps.{Ran, Stands, NextDoes, IsAsked, IsGiven, CutOff, RunsBy}

-- the loader found no entry
pub entry_fault : (image : ImageParts) (fault : LoadFault) → fault ≡ load.Entry → (fault ≢ load.Memory → load_fault image ≡ Some fault) → load_fault image ≡ Some load.Entry
entry_fault image fault e h = h (λ m. (let clash : load.Entry ≡ load.Memory = sym e ∙ m in cc)) ∙ ap (λ (f : LoadFault). Some f) e

module _ (image : ImageParts) where
  ran : (files : FilesSeen) (n : ℕ) (i i' : SourceSeen) (o o' : SinkSeen) (m' : machine.State) → i386.Ran (loaded image) n i o m' i' o' → Ran image n (outside files i o) (outside files i' o')
  ran files n i i' o o' m' r = record {
    acts = r.acts;
    exact = λ input told. r.acts_are input told;
    output = r.output;
    input = r.input;
    files = refl;
  }

  stands : (files : FilesSeen) (n : ℕ) (i i' : SourceSeen) (o o' : SinkSeen) (m' : machine.State) (s : Standing) → i386.Ran (loaded image) n i o m' i' o' → m'.standing ≡ s → Stands image n (outside files i o) (i386.outcome_of s)
  stands files n i i' o o' m' s r e input told =
      ap (λ (m : machine.State). i386.outcome_of m.standing) (sym (r.machine_is input told)) ∙ ap i386.outcome_of e

  -- one step more adds what is done then
  acts-next : (input : List ℕ) (n : ℕ) (d : Doing) → doing (i386.after (loaded image) input n).machine ≡ d
      → (image_after image input (n + 1)).acts ≡ (image_after image input n).acts ++ i386.acts_of (stepped d (i386.after (loaded image) input n).machine (slice_get (i386.after (loaded image) input n).left 0)).event
  acts-next input n d e =
      let next : n + 1 ≡ suc n = omega arith in let r = i386.after (loaded image) input n in
      ap (λ (k : ℕ). (image_after image input k).acts) next ∙ ap (λ (x : Doing). r.acts ++ i386.acts_of (stepped x r.machine (slice_get r.left 0)).event) e

  asked : (r : i386.Run) (before after : List Act) (next : Option ℕ) → after ≡ before ++ i386.acts_of (stepped Asks r.machine next).event → (a : Act) × IsAsked a × (after ≡ before ++ a ∷ [])
  asked r before after None h = (act.AtEnd, tt, h)
  asked r before after (Some byte) h = (act.Took, tt, h)

  next_asks : (files : FilesSeen) (n : ℕ) (i i' : SourceSeen) (o o' : SinkSeen) (m' : machine.State) → i386.Ran (loaded image) n i o m' i' o' → i386.IsAsked (doing m') → NextDoes image n (outside files i o) IsAsked
  next_asks files n i i' o o' m' r d input told =
      let run = i386.after (loaded image) input n in
      asked run (image_after image input n).acts (image_after image input (n + 1)).acts (slice_get run.left 0) (acts-next input n Asks (ap doing (sym (r.machine_is input told)) ∙ d))

  next_gives : (files : FilesSeen) (n : ℕ) (i i' : SourceSeen) (o o' : SinkSeen) (m' : machine.State) → i386.Ran (loaded image) n i o m' i' o' → i386.IsGiven (doing m') → NextDoes image n (outside files i o) IsGiven
  next_gives files n i i' o o' m' r d input told = (act.Gave d.0, tt, acts-next input n (Gives d.0) (ap doing (sym (r.machine_is input told)) ∙ d.1))

  module _ (files : FilesSeen) (steps : ℕ) (i i' : SourceSeen) (o o' : SinkSeen) (m m' : machine.State) (is : m ≡ loaded image) where
    from_start : {n : ℕ} {i₁ : SourceSeen} {o₁ : SinkSeen} → i386.Ran m n i o m' i₁ o₁ → i386.Ran (loaded image) n i o m' i₁ o₁
    from_start {n} {i₁} {o₁} r = subst (λ (x : machine.State). i386.Ran x n i o m' i₁ o₁) is r

    pub ended : (status : ℕ) → i386.Runs m steps i o (end.Ended status) m' i' o' → RunsBy image steps (outside files i o) (answer.Ended status) (outside files i' o')
    ended status h = (ran files steps i i' o o' m' (from_start h.0), stands files steps i i' o o' m' (standing.Ended status) (from_start h.0) h.1)

    pub spent : i386.Runs m steps i o end.Spent m' i' o' → RunsBy image steps (outside files i o) answer.Spent (outside files i' o')
    spent h = (ran files steps i i' o o' m' (from_start h.0), stands files steps i i' o o' m' standing.Running (from_start h.0) h.1)

    pub stuck : (eip : ℕ) (cause : Cause) → i386.Runs m steps i o (end.Stuck eip cause) m' i' o' → RunsBy image steps (outside files i o) (answer.Stuck eip cause) (outside files i' o')
    stuck eip cause h = (ran files steps i i' o o' m' (from_start h.0), λ input told. let e = sym ((from_start h.0).machine_is input told) in (ap (λ (x : machine.State). x.eip) e ∙ h.2, ap (λ (x : machine.State). x.standing) e ∙ h.1))

    pub read_failed : i386.Runs m steps i o end.Read m' i' o' → RunsBy image steps (outside files i o) answer.ReadFault (outside files i' o')
    read_failed h = record {
      count = h.count;
      fewer = h.fewer;
      until = outside files h.input h.output;
      ran = ran files h.count i h.input o h.output m' (from_start h.ran);
      next = next_asks files h.count i h.input o h.output m' (from_start h.ran) h.next;
      fault = (h.fault.0, ap (λ (x : SinkSeen). outside files i' x) h.fault.1);
    }

    given : (bad : SinkSeen → SinkSeen → Type 0) → i386.CutOff m steps i o m' i386.IsGiven (λ input output. bad output o' × (i' ≡ input)) → CutOff image steps (outside files i o) (outside files i' o') IsGiven (λ until end. bad until.output end.output × (end ≡ record until { output = end.output }))
    given bad h = record {
      count = h.count;
      fewer = h.fewer;
      until = outside files h.input h.output;
      ran = ran files h.count i h.input o h.output m' (from_start h.ran);
      next = next_gives files h.count i h.input o h.output m' (from_start h.ran) h.next;
      fault = (h.fault.0, ap (λ (x : SourceSeen). outside files x o') h.fault.1);
    }

    pub write_failed : i386.Runs m steps i o end.Write m' i' o' → RunsBy image steps (outside files i o) answer.WriteFault (outside files i' o')
    write_failed h = given SinkFailed h

    pub wanted : i386.Runs m steps i o end.Memory m' i' o' → RunsBy image steps (outside files i o) answer.Memory (outside files i' o')
    wanted h = given SinkWanted h
