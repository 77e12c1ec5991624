-- Which counts the steps of a command raise.
use Rattle.std.proofs.Common.{◌≡◌, ℕ, List, [], ◌∷◌, map, Result, Ok, Err, inl, inr, subst, ap, ◌∙◌, sym}
use Rattle.cc_base.specs.Seen.{FilesSeen, SourceSeen, SinkSeen}
use Rattle.elf_file.specs.declared.image.ImageParts.{ImageParts}
use Rattle.command_words.specs.Commands.{Request, Compile, Link, Run, Show, Exec, Mean, object_name}
use Rattle.commands.specs.declared.answer.Answer.{Answer}
use Rattle.commands.specs.declared.answer.Answer.TheVariants as answer
use Rattle.commands.specs.Doing.{Outside, Step, Command, Then, AndThen, Each}
use Rattle.text_print.specs.Canonical.{canonical_text}
use Rattle.commands.specs.Steps.{Fetches, Stores, Parses, GivesOut, Compiles, Keeps, CompilesTo, Links, Ran, Runs, RunsBy}
use Rattle.clight_unit.specs.declared.unit.ClightUnit.{ClightUnit as TypedUnit}
use Rattle.clight_sem.specs.Turns.{source_after}
use Rattle.commands.specs.Meanings.{ChecksText, Checks, room, MeansBy}
use Rattle.commands.specs.Does.{does}
use Rattle.ccelf_build.specs.Tells.{counts, Raises, Tells}
use Rattle.ccelf_build.proofs.Chains.{keep_it, store_it, compile_it, rest_failed}
use Rattle.ccelf_build.proofs.Meanings.{not_moved, stood_still, read_raised, write_raised, want_raised}
use Rattle.ccelf_build.proofs.Runnings.{runs_by}

-- a step that went well raises no count
abbrev Quiet : {A : Type 0} → Step A → Type 0
Quiet {A} step = (old new : Outside) (a : A) → step old (Ok a) new → counts new ≡ counts old

-- an answer raises no count but its own, and it is not that the words fit nothing
abbrev pub IsHonest : Outside → Answer → Outside → Type 0
IsHonest old e new = Tells old e new × (e ≡ answer.Words → ⊥)

abbrev Honest : {A : Type 0} → Step A → Type 0
Honest step = (old new : Outside) (e : Answer) → step old (Err e) new → IsHonest old e new

abbrev HonestCommand : Command → Type 0
HonestCommand command = (old new : Outside) (e : Answer) → command old e new → IsHonest old e new

files_alone : (old new : Outside) (f : FilesSeen) → new ≡ record old { files = new.files } → new.files ≡ f → counts new ≡ counts (record old { files = f })
files_alone old new f e h = ap counts e ∙ ap (λ g. counts (record old { files = g })) h

fetch_quiet : (name : List ℕ) → Quiet (Fetches name)
fetch_quiet name old new a h = files_alone old new old.files h.1 h.0.same

fetch_honest : (name : List ℕ) → Honest (Fetches name)
fetch_honest name old new (answer.Missing which) h = ((h.0.0.rose, files_alone old new _ h.1 h.0.0.others), λ e. cc)
fetch_honest name old new (answer.LimitFile which) h = ((h.0.0.rose, files_alone old new _ h.1 h.0.0.others), λ e. cc)
fetch_honest name old new answer.ReadFault h = (inl (h.0.rose, files_alone old new _ h.1 h.0.others), λ e. cc)
fetch_honest name old new answer.Memory h = (inl (files_alone old new _ h.1 h.0), λ e. cc)
fetch_honest name old new _ h = absurd h.0

store_quiet : (name bytes : List ℕ) → Quiet (Stores name bytes)
store_quiet name bytes old new a h = files_alone old new _ h.1 h.0

store_honest : (name bytes : List ℕ) → Honest (Stores name bytes)
store_honest name bytes old new answer.WriteFault h = (inl (h.0.rose, files_alone old new _ h.1 h.0.others), λ e. cc)
store_honest name bytes old new answer.Memory h = (inl (files_alone old new _ h.1 h.0), λ e. cc)
store_honest name bytes old new _ h = absurd h.0

parse_quiet : (name text : List ℕ) → Quiet (Parses name text)
parse_quiet name text old new a h = ap counts h.1

parse_honest : (name text : List ℕ) → Honest (Parses name text)
parse_honest name text old new (answer.LimitText which) h = (ap counts h.1, λ e. cc)
parse_honest name text old new (answer.LimitDeep which at) h = (ap counts h.1, λ e. cc)
parse_honest name text old new (answer.Syntax which kind at) h = (ap counts h.1, λ e. cc)
parse_honest name text old new answer.Memory h = (inl (ap counts h.1), λ e. cc)
parse_honest name text old new _ h = absurd h.0

-- the output alone
output_alone : (old new : Outside) (o : SinkSeen) → new ≡ record old { output = new.output } → new.output ≡ o → counts new ≡ counts (record old { output = o })
output_alone old new o e h = ap counts e ∙ ap (λ p. counts (record old { output = p })) h

give_quiet : (text : List ℕ) → Quiet (GivesOut text)
give_quiet text old new a h = output_alone old new _ h.1 h.0

give_honest : (text : List ℕ) → Honest (GivesOut text)
give_honest text old new answer.WriteFault h = (inr (h.0.fault.rose, output_alone old new _ h.1 h.0.fault.others), λ e. cc)
give_honest text old new answer.Memory h = (inr (h.0.fault.rose, output_alone old new _ h.1 h.0.fault.others), λ e. cc)
give_honest text old new _ h = absurd h.0

compile_quiet : (name text : List ℕ) → Quiet (Compiles name text)
compile_quiet name text old new a h = ap counts h.1

compile_honest : (name text : List ℕ) → Honest (Compiles name text)
compile_honest name text old new (answer.LimitText which) h = (ap counts h.1, λ e. cc)
compile_honest name text old new (answer.LimitDeep which at) h = (ap counts h.1, λ e. cc)
compile_honest name text old new (answer.Syntax which kind at) h = (ap counts h.1, λ e. cc)
compile_honest name text old new (answer.Typing which broken at) h = (ap counts h.1, λ e. cc)
compile_honest name text old new (answer.LimitUnit which limit at) h = (ap counts h.1, λ e. cc)
compile_honest name text old new (answer.LimitForm which) h = (ap counts h.1, λ e. cc)
compile_honest name text old new answer.Memory h = (inl (ap counts h.1), λ e. cc)
compile_honest name text old new _ h = absurd h.0

keep_quiet : (bytes : List ℕ) → Quiet (Keeps bytes)
keep_quiet bytes old new a h = ap counts h.1

want_honest : (old new : Outside) (e : Answer) → new ≡ old → e ≡ answer.Memory → IsHonest old e new
want_honest old new e same is = let P : Answer → Type 0 = λ a. IsHonest old a new in subst P (sym is) (inl (ap counts same), λ x. cc)

keep_honest : (bytes : List ℕ) → Honest (Keeps bytes)
keep_honest bytes old new e (inl h, same) = let clash : ◌≡◌ {A = Result (List ℕ) Answer} (Err e) (Ok bytes) = h in cc
keep_honest bytes old new e (inr h, same) = want_honest old new e same (let is : ◌≡◌ {A = Result (List ℕ) Answer} (Err e) (Err answer.Memory) = h in cc)

link_quiet : (names files : List (List ℕ)) → Quiet (Links names files)
link_quiet names files old new a h = ap counts h.1

link_honest : (names files : List (List ℕ)) → Honest (Links names files)
link_honest names files old new (answer.ObjectForm which) h = (ap counts h.1, λ e. cc)
link_honest names files old new (answer.Doubled name file) h = (ap counts h.1, λ e. cc)
link_honest names files old new (answer.Unresolved name file) h = (ap counts h.1, λ e. cc)
link_honest names files old new (answer.Sized name file stated defined) h = (ap counts h.1, λ e. cc)
link_honest names files old new (answer.Range end) h = (ap counts h.1, λ e. cc)
link_honest names files old new answer.Memory h = (inl (ap counts h.1), λ e. cc)
link_honest names files old new _ h = absurd h.0.2

-- a step, and a command that raises no count but its answer's
after_quiet : (old mid new : Outside) (e : Answer) → counts mid ≡ counts old → IsHonest mid e new → IsHonest old e new
after_quiet old mid new e same h = (subst (λ c. Raises c e (counts new)) same h.0, h.1)

then_honest : {A : Type 0} (step : Step A) (rest : A → Command) → Quiet step → Honest step → ((a : A) → HonestCommand (rest a)) → HonestCommand (Then step rest)
then_honest step rest quiet honest next old new e (inl h) = honest old new e h
then_honest step rest quiet honest next old new e (inr h) = after_quiet old h.between new e (quiet old h.between h.value h.went) (next h.value h.between new e h.goes_on)

and_then_honest : {A B : Type 0} (step : Step A) (rest : A → Step B) → Quiet step → Honest step → ((a : A) → Honest (rest a)) → Honest (AndThen step rest)
and_then_honest step rest quiet honest next old new e (inl h) = honest old new e h
and_then_honest step rest quiet honest next old new e (inr h) = after_quiet old h.between new e (quiet old h.between h.value h.went) (next h.value h.between new e h.goes_on)

and_then_quiet : {A B : Type 0} (step : Step A) (rest : A → Step B) → Quiet step → ((a : A) → Quiet (rest a)) → Quiet (AndThen step rest)
and_then_quiet step rest quiet next old new b h = next h.value h.between new b h.goes_on ∙ quiet old h.between h.value h.went

each_quiet : {X Y : Type 0} (step : X → Step Y) → ((x : X) → Quiet (step x)) → (xs : List X) → Quiet (Each step xs)
each_quiet step quiet [] old new ys h = ap counts h.1
each_quiet step quiet (x ∷ xs) old new ys h =
    let rest = h.goes_on in
    ap counts rest.goes_on.1 ∙ each_quiet step quiet xs h.between rest.between rest.value rest.went ∙ quiet x old h.between h.value h.went

each_honest : {X Y : Type 0} (step : X → Step Y) → ((x : X) → Quiet (step x)) → ((x : X) → Honest (step x)) → (xs : List X) → Honest (Each step xs)
each_honest {X} {Y} step quiet honest [] old new e h = let clash : ◌≡◌ {A = Result (List Y) Answer} (Err e) (Ok []) = h.0 in cc
each_honest step quiet honest (x ∷ xs) old new e (inl h) = honest x old new e h
each_honest step quiet honest (x ∷ xs) old new e (inr h) =
    after_quiet old h.between new e (quiet x old h.between h.value h.went) (each_honest step quiet honest xs h.between new e (rest_failed step xs h.value h.between new e h.goes_on))

unit_quiet : (unit name : List ℕ) → Quiet (CompilesTo unit name)
unit_quiet unit name =
    and_then_quiet (Fetches unit) (compile_it unit name) (fetch_quiet unit) (λ text.
    and_then_quiet (Compiles unit text) (store_it name) (compile_quiet unit text) (λ object.
    and_then_quiet (Stores name object) (keep_it object) (store_quiet name object) (λ _. keep_quiet object)))

unit_honest : (unit name : List ℕ) → Honest (CompilesTo unit name)
unit_honest unit name =
    and_then_honest (Fetches unit) (compile_it unit name) (fetch_quiet unit) (fetch_honest unit) (λ text.
    and_then_honest (Compiles unit text) (store_it name) (compile_quiet unit text) (compile_honest unit text) (λ object.
    and_then_honest (Stores name object) (keep_it object) (store_quiet name object) (store_honest name object) (λ _. keep_honest object)))

-- what a run raises, by its answer
run_raises : (image : ImageParts) (n : ℕ) (old new : Outside) → Ran image n old new → counts new ≡ counts old
run_raises image n old new r =
    ap (λ (f : FilesSeen). counts (record new { files = f })) r.files ∙ ap (λ (i : SourceSeen). counts (record old { input = i; output = new.output })) r.input
    ∙ ap (λ (o : SinkSeen). counts (record old { output = o })) r.output

run_honest : (image : ImageParts) (steps : ℕ) (old new : Outside) (e : Answer) → RunsBy image steps old e new → IsHonest old e new
run_honest image steps old new (answer.Ended status) h = (run_raises image steps old new h.0, λ e. cc)
run_honest image steps old new answer.Spent h = (run_raises image steps old new h.0, λ e. cc)
run_honest image steps old new (answer.Stuck eip cause) h = (run_raises image steps old new h.0, λ e. cc)
run_honest image steps old new answer.ReadFault h = (
  subst (λ c. Raises c answer.ReadFault (counts new)) (run_raises image h.count old h.until h.ran)
      (inr (h.fault.0.rose, ap counts h.fault.1 ∙ ap (λ (i : SourceSeen). counts (record h.until { input = i })) h.fault.0.others)),
  λ e. cc,
)
run_honest image steps old new answer.WriteFault h = (
  subst (λ c. Raises c answer.WriteFault (counts new)) (run_raises image h.count old h.until h.ran)
      (inr (h.fault.0.rose, ap counts h.fault.1 ∙ ap (λ (o : SinkSeen). counts (record h.until { output = o })) h.fault.0.others)),
  λ e. cc,
)
run_honest image steps old new answer.Memory h = (
  subst (λ c. Raises c answer.Memory (counts new)) (run_raises image h.count old h.until h.ran)
      (inr (h.fault.0.rose, ap counts h.fault.1 ∙ ap (λ (o : SinkSeen). counts (record h.until { output = o })) h.fault.0.others)),
  λ e. cc,
)
run_honest image steps old new _ h = absurd h

runs_honest : (steps : ℕ) (name bytes : List ℕ) → HonestCommand (Runs steps name bytes)
runs_honest steps name bytes old new e h =
    runs_by steps name bytes old (λ told end. IsHonest old told end)
    (λ none. (ap counts (refl_of old), λ x. cc)) (λ image index is fault. (ap counts (refl_of old), λ x. cc)) (λ image is fault. (ap counts (refl_of old), λ x. cc)) (inl (ap counts (refl_of old)), λ x. cc)
    (λ image is loads told end r. run_honest image steps old end told r) e new h
  where
    refl_of : (x : Outside) → x ≡ x
    refl_of x i = x

check_quiet : (name text : List ℕ) → Quiet (ChecksText name text)
check_quiet name text old new a h = ap counts h.1

check_honest : (name text : List ℕ) → Honest (ChecksText name text)
check_honest name text old new (answer.LimitText which) h = (ap counts h.1, λ e. cc)
check_honest name text old new (answer.LimitDeep which at) h = (ap counts h.1, λ e. cc)
check_honest name text old new (answer.Syntax which kind at) h = (ap counts h.1, λ e. cc)
check_honest name text old new (answer.Typing which broken at) h = (ap counts h.1, λ e. cc)
check_honest name text old new (answer.LimitUnit which limit at) h = (ap counts h.1, λ e. cc)
check_honest name text old new answer.Memory h = (inl (ap counts h.1), λ e. cc)
check_honest name text old new _ h = absurd h.0

checks_quiet : (name : List ℕ) → Quiet (Checks name)
checks_quiet name = and_then_quiet (Fetches name) (λ text. ChecksText name text) (fetch_quiet name) (λ text. check_quiet name text)

checks_honest : (name : List ℕ) → Honest (Checks name)
checks_honest name = and_then_honest (Fetches name) (λ text. ChecksText name text) (fetch_quiet name) (fetch_honest name) (λ text. check_honest name text)

-- what a run of linked units raises, by its answer
means_honest : (steps : ℕ) (names : List (List ℕ)) (units : List TypedUnit) → HonestCommand (MeansBy steps names units)
means_honest steps names units old new (answer.Doubled name file) h = (not_moved old new h.2.1 h.2.0.1 h.2.0.2, λ e. cc)
means_honest steps names units old new (answer.Unresolved name file) h = (not_moved old new h.2.1 h.2.0.1 h.2.0.2, λ e. cc)
means_honest steps names units old new (answer.Sized name file stated defined) h = (not_moved old new h.2.1 h.2.0.1 h.2.0.2, λ e. cc)
means_honest steps names units old new (answer.Ended status) h = (stood_still old new h.1 (source_after units room) steps _ h.0.1, λ e. cc)
means_honest steps names units old new answer.Spent h = (stood_still old new h.1 (source_after units room) steps _ h.0.1, λ e. cc)
means_honest steps names units old new (answer.Wrong turn) h = (stood_still old new h.1 (source_after units room) steps _ h.0.1.stands, λ e. cc)
means_honest steps names units old new (answer.Deep turn) h = (stood_still old new h.1 (source_after units room) steps _ h.0.1.stands, λ e. cc)
means_honest steps names units old new answer.ReadFault h = (read_raised old new h.1 (source_after units room) steps h.0.1, λ e. cc)
means_honest steps names units old new answer.WriteFault h = (write_raised old new h.1 (source_after units room) steps h.0.1, λ e. cc)
means_honest steps names units old new answer.Memory (inl h, same) = (inl (not_moved old new same h.0 h.1), λ e. cc)
means_honest steps names units old new answer.Memory (inr h, same) = (want_raised old new same (source_after units room) steps h.1, λ e. cc)
means_honest steps names units old new _ h = absurd h

pub does_honest : (r : Request) → HonestCommand (does r)
does_honest (Compile unit object) = then_honest (CompilesTo unit object) _ (unit_quiet unit object) (unit_honest unit object) (λ bytes old new e h. stored_honest old new e _ h.0 h.1)
  where
    stored_honest : (old new : Outside) (e : Answer) (size : ℕ) → e ≡ answer.ObjectStored size → new ≡ old → IsHonest old e new
    stored_honest old new e size is same = let P : Answer → Type 0 = λ a. IsHonest old a new in subst P (sym is) (ap counts same, λ x. cc)
does_honest (Link image objects) =
    then_honest (Each Fetches objects) _ (each_quiet Fetches fetch_quiet objects) (each_honest Fetches fetch_quiet fetch_honest objects) (λ files.
    then_honest (Links objects files) _ (link_quiet objects files) (link_honest objects files) (λ bytes.
    then_honest (Stores image bytes) _ (store_quiet image bytes) (store_honest image bytes) (λ _ old new e h. stored_honest old new e _ h.0 h.1)))
  where
    stored_honest : (old new : Outside) (e : Answer) (size : ℕ) → e ≡ answer.ImageStored size → new ≡ old → IsHonest old e new
    stored_honest old new e size is same = let P : Answer → Type 0 = λ a. IsHonest old a new in subst P (sym is) (ap counts same, λ x. cc)
does_honest (Run steps image) = then_honest (Fetches image) _ (fetch_quiet image) (fetch_honest image) (λ bytes. runs_honest steps image bytes)
does_honest (Show unit) =
    then_honest (Fetches unit) _ (fetch_quiet unit) (fetch_honest unit) (λ text.
    then_honest (Parses unit text) _ (parse_quiet unit text) (parse_honest unit text) (λ tree.
    then_honest (Keeps (canonical_text tree)) _ (keep_quiet (canonical_text tree)) (keep_honest (canonical_text tree)) (λ shown.
    then_honest (GivesOut shown) _ (give_quiet shown) (give_honest shown) (λ _ old new e h. shown_honest old new e h.0 h.1))))
  where
    shown_honest : (old new : Outside) (e : Answer) → e ≡ answer.Shown → new ≡ old → IsHonest old e new
    shown_honest old new e is same = let P : Answer → Type 0 = λ a. IsHonest old a new in subst P (sym is) (ap counts same, λ x. cc)
does_honest (Exec steps image units) =
    then_honest (Each (λ unit. CompilesTo unit (object_name unit)) units) _ (each_quiet (λ unit. CompilesTo unit (object_name unit)) (λ unit. unit_quiet unit (object_name unit)) units) (each_honest (λ unit. CompilesTo unit (object_name unit)) (λ unit. unit_quiet unit (object_name unit)) (λ unit. unit_honest unit (object_name unit)) units) (λ files.
    then_honest (Links (map object_name units) files) _ (link_quiet (map object_name units) files) (link_honest (map object_name units) files) (λ bytes.
    then_honest (Stores image bytes) _ (store_quiet image bytes) (store_honest image bytes) (λ _. runs_honest steps image bytes)))
does_honest (Mean steps units) = then_honest (Each Checks units) _ (each_quiet Checks checks_quiet units) (each_honest Checks checks_quiet checks_honest units) (λ typed. means_honest steps units typed)
