-- Why a command has the status that it has: what its row tells.
use Rattle.std.proofs.Common.{◌≡◌, ◌⊎◌, ℕ, List, refl, inl, inr, ap, ◌∙◌, sym, subst}
use Rattle.cc_base.specs.Seen.{SinkSeen}
use Rattle.elf_file.specs.declared.image.ImageParts.{ImageParts}
use Rattle.i386_machine.specs.declared.event.Cause.{Cause}
use Rattle.i386_machine.specs.Runs.{after, outcome_of}
use Rattle.cc_base.specs.declared.run.Outcome.TheVariants as outcome
use Rattle.elf_loader.specs.Load.{image_after}
use Rattle.elf_loader.specs.declared.fault.LoadFault.TheVariants as load
use Rattle.commands.specs.declared.answer.Answer.{Answer}
use Rattle.commands.specs.declared.answer.Answer.TheVariants as answer
use Rattle.commands.specs.declared.answer.Status.{Status}
use Rattle.commands.specs.declared.answer.Status.TheVariants as status
use Rattle.commands.specs.Answers.{status_of}
use Rattle.commands.specs.Doing.{Outside}
use Rattle.ccelf_build.specs.Contents.{Contents}
use Rattle.ccelf_build.specs.Ends.{Ends}
use Rattle.ccelf_build.specs.Told.{IsStuck, IsBuilt, items_of, compile_told, link_told, run_told, show_told, exec_told}
use Rattle.ccelf_build.specs.Meant.{mean_told}
use Rattle.ccelf_build.specs.Laws.{Laws}
use Rattle.ccelf_build.specs.Causes.{Yields, ComesFor, compile_reason, link_reason, run_reason, show_reason, mean_reason, refusal, run_of_units, IsProgram, ExecComesFor}
use Rattle.ccelf_build.proofs.Ending.{ended_so}
use Rattle.second_form.specs.SecondFaults.{source_fault}
use Rattle.ccelf_build.proofs.Listing.{stop_for}
use Rattle.ccelf_build.proofs.Objects.{are_units, none_is}
use Rattle.ccelf_build.proofs.OneReason.{refused_one, not_refused}
use Rattle.ccelf_build.proofs.UnitLists.{files_of, made_all}

pub read_fault : Yields status.ReadFault
read_fault = inl refl

pub write_fault : Yields status.WriteFault
write_fault = inr (inl refl)

pub memory : Yields status.Memory
memory = inr (inr refl)

-- where each status has one reason, the reason of the answer is that of the status
pub comes_by : (reason : Status → Type 0) → ((s t : Status) → reason s → reason t → s ≡ t) → (told : Answer) (out old after new : SinkSeen) (result : Status) → reason (status_of told) ⊎ Yields (status_of told)
    → Ends told out old result after new → ComesFor reason result
comes_by reason one told out old after new result why ends = elim (ended_so told out old after new result ends) [
  | inl same ↦ from_answer same why
  | inr y ↦ record { for = inr y; comes = λ s r. inr y }
]
  where
    from_answer : result ≡ status_of told → reason (status_of told) ⊎ Yields (status_of told) → ComesFor reason result
    from_answer same (inl r) = record { for = inl (subst reason (sym same) r); comes = λ s k. inl (same ∙ one (status_of told) s r k) }
    from_answer same (inr y) = record { for = inr (subst Yields (sym same) y); comes = λ s k. inr (subst Yields (sym same) y) }

-- a stuck machine goes wrong
pub stuck_wrong : (image : ImageParts) (input : List ℕ) (steps eip : ℕ) (cause : Cause) → IsStuck image input steps eip cause → (image_after image input steps).outcome ≡ outcome.Wrong
stuck_wrong image input steps eip cause h = ap outcome_of h.1

pub compile_why : (unit object : List ℕ) (files : Contents) (old new : Outside) (told : Answer) → compile_told unit object files old told new → compile_reason unit files (status_of told) ⊎ Yields (status_of told)
compile_why unit object files old new (answer.Missing which) h = inl h.1
compile_why unit object files old new (answer.LimitFile which) h = inl (inl (inl h.1))
compile_why unit object files old new (answer.LimitText which) h = inl (inl (inr (inl h.1)))
compile_why unit object files old new (answer.LimitDeep which at) h = inl (inl (inr (inr (at, h.1))))
compile_why unit object files old new (answer.Syntax which kind at) h = inl (kind, (at, h.1))
compile_why unit object files old new (answer.Typing which broken at) h = inl (broken, (at, h.1))
compile_why unit object files old new (answer.LimitUnit which limit at) h = inl (inr (inl (limit, (at, h.1))))
compile_why unit object files old new (answer.LimitForm which) h = inl (inr (inr h.1))
compile_why unit object files old new (answer.ObjectStored size) h = inl (h.0, h.1)
compile_why unit object files old new answer.ReadFault h = inr read_fault
compile_why unit object files old new answer.WriteFault h = inr write_fault
compile_why unit object files old new answer.Memory h = inr memory
compile_why unit object files old new _ h = absurd h

pub show_why : (unit : List ℕ) (files : Contents) (old new : Outside) (told : Answer) → show_told unit files old told new → show_reason unit files (status_of told) ⊎ Yields (status_of told)
show_why unit files old new (answer.Missing which) h = inl h.1
show_why unit files old new (answer.LimitFile which) h = inl (inl h.1)
show_why unit files old new (answer.LimitText which) h = inl (inr (inl h.1))
show_why unit files old new (answer.LimitDeep which at) h = inl (inr (inr (at, h.1)))
show_why unit files old new (answer.Syntax which kind at) h = inl (kind, (at, h.1))
show_why unit files old new answer.Shown h = inl (h.tree, h.is)
show_why unit files old new answer.ReadFault h = inr read_fault
show_why unit files old new answer.WriteFault h = inr write_fault
show_why unit files old new answer.Memory h = inr memory
show_why unit files old new _ h = absurd h

pub link_why : (image : List ℕ) (names : List (List ℕ)) (files : Contents) (old new : Outside) (told : Answer) → link_told image names files old told new → link_reason names files (status_of told) ⊎ Yields (status_of told)
link_why image names files old new (answer.Missing which) h = inl (stop_for _ _ _ names (λ name s. s.1) h.0)
link_why image names files old new (answer.LimitFile which) h = inl (stop_for _ _ _ names (λ name s. s.1) h.0)
link_why image names files old new (answer.ObjectForm which) h = inl (h.0.0, h.0.1, (which, h.0.2))
link_why image names files old new (answer.Doubled name file) h = inl (h.0.2.0, h.0.2.1, (h.0.0, h.0.1, h.0.2.2))
link_why image names files old new (answer.Unresolved name file) h = inl (h.0.2.0, h.0.2.1, (h.0.0, h.0.1, h.0.2.2))
link_why image names files old new (answer.Sized name file stated defined) h = inl (h.0.2.0, h.0.2.1, stated, defined, (h.0.0, h.0.1, h.0.2.2))
link_why image names files old new (answer.Range end) h = inl (end, (h.0.0, h.0.1, h.0.2))
link_why image names files old new (answer.ImageStored size) h = inl (h.objects, h.at, h.linked.no_fault)
link_why image names files old new answer.ReadFault h = inr read_fault
link_why image names files old new answer.WriteFault h = inr write_fault
link_why image names files old new answer.Memory h = inr memory
link_why image names files old new _ h = absurd h

pub run_why : (steps : ℕ) (name : List ℕ) (files : Contents) (input : List ℕ) (old new : Outside) (told : Answer) → run_told steps name files input old told new → run_reason steps name files input (status_of told) ⊎ Yields (status_of told)
run_why steps name files input old new (answer.Missing which) h = inl h.1
run_why steps name files input old new (answer.LimitFile which) h = inl h.1
run_why steps name files input old new (answer.ImageForm which) h = inl (inl h.1)
run_why steps name files input old new (answer.ImageSegment which index) h = inl (inr (load.Segment index, h.1))
run_why steps name files input old new (answer.ImageEntry which) h = inl (inr (load.Entry, h.1))
run_why steps name files input old new (answer.Ended code) h = inl (code, (h.1.0, h.1.1, h.1.2.1))
run_why steps name files input old new answer.Spent h = inl (h.1.0, h.1.1, h.1.2.1)
run_why steps name files input old new (answer.Stuck eip cause) h = inl (h.1.0, h.1.1, stuck_wrong h.1.0 input steps eip cause h.1.2.1)
run_why steps name files input old new answer.ReadFault h = inr read_fault
run_why steps name files input old new answer.WriteFault h = inr write_fault
run_why steps name files input old new answer.Memory h = inr memory
run_why steps name files input old new _ h = absurd h

pub exec_why : (steps : ℕ) (image : List ℕ) (units : List (List ℕ)) (files : Contents) (input : List ℕ) (old new : Outside) (told : Answer) → exec_told steps image units files input old told new
    → (refusal units files (status_of told) ⊎ run_of_units steps units files input (status_of told)) ⊎ Yields (status_of told)
exec_why steps image units files input old new (answer.Missing which) h = inl (inl (stop_for _ _ _ units (λ name s. s.1) h.0))
exec_why steps image units files input old new (answer.LimitFile which) h = inl (inl (stop_for _ _ _ units (λ name s. inl (inl s.1)) h.0))
exec_why steps image units files input old new (answer.LimitText which) h = inl (inl (stop_for _ _ _ units (λ name s. inl (inr (inl s.1))) h.0))
exec_why steps image units files input old new (answer.LimitDeep which at) h = inl (inl (stop_for _ _ _ units (λ name s. inl (inr (inr (at, s.1)))) h.0))
exec_why steps image units files input old new (answer.Syntax which kind at) h = inl (inl (stop_for _ _ _ units (λ name s. (kind, (at, s.1))) h.0))
exec_why steps image units files input old new (answer.Typing which broken at) h = inl (inl (stop_for _ _ _ units (λ name s. (broken, (at, s.1))) h.0))
exec_why steps image units files input old new (answer.LimitUnit which limit at) h = inl (inl (stop_for _ _ _ units (λ name s. inr (inl (limit, (at, s.1)))) h.0))
exec_why steps image units files input old new (answer.LimitForm which) h = inl (inl (stop_for _ _ _ units (λ name s. inr (inr s.1)) h.0))
exec_why steps image units files input old new (answer.Doubled name file) h = inl (inl (h.all, h.are, (h.is.0, name, h.is.1)))
exec_why steps image units files input old new (answer.Unresolved name file) h = inl (inl (h.all, h.are, (h.is.0, name, h.is.1)))
exec_why steps image units files input old new (answer.Range end) h = inl (inl (h.all, h.are, (h.is.0, (end, h.is.1))))
exec_why steps image units files input old new (answer.Ended code) h = inl (inr (code, (h.0, h.1.0, h.2.1)))
exec_why steps image units files input old new answer.Spent h = inl (inr (h.0, h.1.0, h.2.1))
exec_why steps image units files input old new (answer.Stuck eip cause) h =
    let wrong = stuck_wrong h.0 input steps eip cause h.2.1 in
    let built = h.1.0 in
    inl (inr ((h.0, built, wrong), (built.sources, built.typed, λ sound. (built.refines sound).sound.right steps wrong)))
exec_why steps image units files input old new answer.ReadFault h = inr read_fault
exec_why steps image units files input old new answer.WriteFault h = inr write_fault
exec_why steps image units files input old new answer.Memory h = inr memory
exec_why steps image units files input old new _ h = absurd h

pub mean_why : (steps : ℕ) (names : List (List ℕ)) (files : Contents) (input : List ℕ) (old new : Outside) (told : Answer) → mean_told steps names files input old told new → mean_reason steps names files input (status_of told) ⊎ Yields (status_of told)
mean_why steps names files input old new (answer.Missing which) h = inl (stop_for _ _ _ names (λ name s. s.1) h.0)
mean_why steps names files input old new (answer.LimitFile which) h = inl (stop_for _ _ _ names (λ name s. inl (inl s.1)) h.0)
mean_why steps names files input old new (answer.LimitText which) h = inl (stop_for _ _ _ names (λ name s. inl (inr (inl s.1))) h.0)
mean_why steps names files input old new (answer.LimitDeep which at) h = inl (stop_for _ _ _ names (λ name s. inl (inr (inr (at, s.1)))) h.0)
mean_why steps names files input old new (answer.Syntax which kind at) h = inl (stop_for _ _ _ names (λ name s. (kind, (at, s.1))) h.0)
mean_why steps names files input old new (answer.Typing which broken at) h = inl (stop_for _ _ _ names (λ name s. (broken, (at, s.1))) h.0)
mean_why steps names files input old new (answer.LimitUnit which limit at) h = inl (stop_for _ _ _ names (λ name s. inr (limit, (at, s.1))) h.0)
mean_why steps names files input old new (answer.Doubled name file) h = let a = h.0 in inl (a.0, a.1, (a.2.0, a.2.1, a.2.2))
mean_why steps names files input old new (answer.Unresolved name file) h = let a = h.0 in inl (a.0, a.1, (a.2.0, a.2.1, a.2.2))
mean_why steps names files input old new (answer.Sized name file stated defined) h = let a = h.0 in inl (a.0, a.1, (a.2.0, a.2.1, stated, defined, a.2.2))
mean_why steps names files input old new (answer.Ended code) h = let a = h.1 in inl (code, (a.0, a.1, (a.2.0, a.2.1.1)))
mean_why steps names files input old new answer.Spent h = let a = h.1 in inl (a.0, a.1, (a.2.0, a.2.1.1))
mean_why steps names files input old new (answer.Wrong turn) h = let a = h.1 in inl (a.0, a.1, (a.2.0, a.2.1.1))
mean_why steps names files input old new (answer.Deep turn) h = let a = h.1 in inl (a.0, a.1, (a.2.0, a.2.1.1))
mean_why steps names files input old new answer.ReadFault h = inr read_fault
mean_why steps names files input old new answer.WriteFault h = inr write_fault
mean_why steps names files input old new answer.Memory h = inr memory
mean_why steps names files input old new _ h = absurd h

-- what exec comes to is for its reason
abbrev Ran : Status → Type 0
Ran s = (s ≡ status.Done) ⊎ ((s ≡ status.Spent) ⊎ (s ≡ status.Stuck))

module _ (laws : Laws) (steps : ℕ) (units : List (List ℕ)) (files : Contents) (input : List ℕ) where
  program_of : (image : ImageParts) → IsBuilt units files input image → IsProgram units files
  program_of image b =
      let found = laws.faults (items_of b.all) (are_units (items_of b.all) (files_of b.all) (made_all files units b.all b.are)) in
      (b.all, b.are, none_is (items_of b.all) (source_fault (items_of b.all)) found b.no_fault)

  run_or_refused : (s t : Status) → refusal units files s → run_of_units steps units files input t → ⊥
  run_or_refused s status.Done h k = not_refused laws units files s h (program_of k.1.0 k.1.1)
  run_or_refused s status.Spent h k = not_refused laws units files s h (program_of k.0 k.1)
  run_or_refused s status.Stuck h k = not_refused laws units files s h (program_of k.0.0 k.0.1)
  run_or_refused s _ h k = absurd k

  has_run : (s : Status) → run_of_units steps units files input s → Ran s
  has_run status.Done h = inl refl
  has_run status.Spent h = inr (inl refl)
  has_run status.Stuck h = inr (inr refl)
  has_run _ h = absurd h

  abbrev Why : Status → Type 0
  Why s = (refusal units files s ⊎ run_of_units steps units files input s) ⊎ Yields s

  refused_at : (result : Status) → Why result → (s : Status) → refusal units files s → (result ≡ s) ⊎ Yields result
  refused_at result (inl (inl h)) s k = inl (refused_one laws units files result s h k)
  refused_at result (inl (inr h)) s k = absurd (run_or_refused s result k h)
  refused_at result (inr y) s k = inr y

  runs_at : (result : Status) → Why result → IsProgram units files → Ran result ⊎ Yields result
  runs_at result (inl (inl h)) p = absurd (not_refused laws units files result h p)
  runs_at result (inl (inr h)) p = inl (has_run result h)
  runs_at result (inr y) p = inr y

  comes_for : (result : Status) → Why result → ExecComesFor steps units files input result
  comes_for result why = record { for = why; refused = refused_at result why; runs = runs_at result why }

  pub exec_comes : (image : List ℕ) (old new : Outside) (told : Answer) (out report after last : SinkSeen) (result : Status) → exec_told steps image units files input old told new → Ends told out report result after last
      → ExecComesFor steps units files input result
  exec_comes image old new told out report after last result h ends = comes_for result (elim (ended_so told out report after last result ends) [
    | inl same ↦ subst Why (sym same) (exec_why steps image units files input old new told h)
    | inr y ↦ inr y
  ])
