-- What a command does not touch.
use Rattle.std.proofs.Common.{◌≡◌, ◌∷◌, [], ℕ, List, Result, Ok, Err, refl, inl, inr, ap, ◌∙◌, subst}
use Rattle.cc_base.specs.Seen.{FilesSeen, SinkSeen}
use Rattle.elf_file.specs.declared.image.ImageParts.{ImageParts}
use Rattle.command_words.specs.Commands.{Request, Compile, Link, Run, Show, Exec, Mean}
use Rattle.commands.specs.declared.answer.Answer.{Answer}
use Rattle.commands.specs.declared.answer.Answer.TheVariants as answer
use Rattle.commands.specs.declared.answer.Status.{Status}
use Rattle.commands.specs.Doing.{Outside, Step, Command, Then, AndThen, Each}
use Rattle.text_print.specs.Canonical.{canonical_text}
use Rattle.commands.specs.Steps.{Fetches, Stores, Parses, GivesOut, Compiles, Keeps, CompilesTo, Links, Runs, RunsBy}
use Rattle.clight_unit.specs.declared.unit.ClightUnit.{ClightUnit as TypedUnit}
use Rattle.commands.specs.Meanings.{Checks}
use Rattle.commands.specs.Does.{does}
use Rattle.ccelf_build.specs.Ends.{Ends}
use Rattle.ccelf_build.specs.Kept.{OnlyFlushed, PutsNothing, LeavesAlone}
use Rattle.ccelf_build.specs.Promise.{Asked}
use Rattle.ccelf_build.proofs.Chains.{keep_it, store_it, compile_it, with_first, rest_failed}
use Rattle.ccelf_build.proofs.Ending.{flushed_so}
use Rattle.ccelf_build.proofs.Meanings.{means_still}
use Rattle.ccelf_build.proofs.Runnings.{runs_by}

-- no byte was asked for or given
abbrev pub Silent : Outside → Outside → Type 0
Silent old new = (new.input ≡ old.input) × (new.output ≡ old.output)

abbrev IsSilent : {A : Type 0} → Step A → Type 0
IsSilent {A} step = (old new : Outside) (r : Result A Answer) → step old r new → Silent old new

on_files : (old new : Outside) → new ≡ record old { files = new.files } → Silent old new
on_files old new e = (ap (λ (x : Outside). x.input) e, ap (λ (x : Outside). x.output) e)

pub unmoved : (old new : Outside) → new ≡ old → Silent old new
unmoved old new e = (ap (λ (x : Outside). x.input) e, ap (λ (x : Outside). x.output) e)

both_silent : (a b c : Outside) → Silent a b → Silent b c → Silent a c
both_silent a b c p q = (q.0 ∙ p.0, q.1 ∙ p.1)

fetch_silent : (name : List ℕ) → IsSilent (Fetches name)
fetch_silent name old new r h = on_files old new h.1

store_silent : (name bytes : List ℕ) → IsSilent (Stores name bytes)
store_silent name bytes old new r h = on_files old new h.1

compile_silent : (name text : List ℕ) → IsSilent (Compiles name text)
compile_silent name text old new r h = unmoved old new h.1

keep_silent : (bytes : List ℕ) → IsSilent (Keeps bytes)
keep_silent bytes old new r h = unmoved old new h.1

link_silent : (names files : List (List ℕ)) → IsSilent (Links names files)
link_silent names files old new r h = unmoved old new h.1

and_then_silent : {A B : Type 0} (step : Step A) (rest : A → Step B) → IsSilent step → ((a : A) → IsSilent (rest a)) → IsSilent (AndThen step rest)
and_then_silent step rest quiet next old new (Ok b) h = both_silent old h.between new (quiet old h.between (Ok h.value) h.went) (next h.value h.between new (Ok b) h.goes_on)
and_then_silent step rest quiet next old new (Err e) (inl h) = quiet old new (Err e) h
and_then_silent step rest quiet next old new (Err e) (inr h) = both_silent old h.between new (quiet old h.between (Ok h.value) h.went) (next h.value h.between new (Err e) h.goes_on)

abbrev SilentCommand : Command → Type 0
SilentCommand command = (old new : Outside) (e : Answer) → command old e new → Silent old new

then_silent : {A : Type 0} (step : Step A) (rest : A → Command) → IsSilent step → ((a : A) → SilentCommand (rest a)) → SilentCommand (Then step rest)
then_silent step rest quiet next old new e (inl h) = quiet old new (Err e) h
then_silent step rest quiet next old new e (inr h) = both_silent old h.between new (quiet old h.between (Ok h.value) h.went) (next h.value h.between new e h.goes_on)

each_silent : {X Y : Type 0} (step : X → Step Y) → ((x : X) → IsSilent (step x)) → (xs : List X) → IsSilent (Each step xs)
each_silent step quiet [] old new r h = unmoved old new h.1
each_silent step quiet (x ∷ xs) old new r h =
    and_then_silent (step x) (λ y. AndThen (Each step xs) (with_first y)) (quiet x) (λ y. and_then_silent (Each step xs) (with_first y) (each_silent step quiet xs) (λ ys from to s k. unmoved from to k.1)) old new r h

unit_silent : (unit name : List ℕ) → IsSilent (CompilesTo unit name)
unit_silent unit name =
    and_then_silent (Fetches unit) (compile_it unit name) (fetch_silent unit) (λ text.
    and_then_silent (Compiles unit text) (store_it name) (compile_silent unit text) (λ object.
    and_then_silent (Stores name object) (keep_it object) (store_silent name object) (λ _. keep_silent object)))

compile_command : (unit object : List ℕ) → SilentCommand (does (Compile unit object))
compile_command unit object = then_silent (CompilesTo unit object) _ (unit_silent unit object) (λ bytes old new e h. unmoved old new h.1)

link_command : (image : List ℕ) (objects : List (List ℕ)) → SilentCommand (does (Link image objects))
link_command image objects =
    then_silent (Each Fetches objects) _ (each_silent Fetches fetch_silent objects) (λ files.
    then_silent (Links objects files) _ (link_silent objects files) (λ bytes.
    then_silent (Stores image bytes) _ (store_silent image bytes) (λ _ old new e h. unmoved old new h.1)))

-- nothing is put
still : (old new : FilesSeen) → new ≡ old → PutsNothing old new
still old new e = record { told = ap (λ (x : FilesSeen). x.told) e; writes = ap (λ (x : FilesSeen). x.write_faults) e }

both_still : (a b c : FilesSeen) → PutsNothing a b → PutsNothing b c → PutsNothing a c
both_still a b c p q = record { told = q.told ∙ p.told; writes = q.writes ∙ p.writes }

fetch_still : (name : List ℕ) (old new : Outside) (r : Result (List ℕ) Answer) → Fetches name old r new → PutsNothing old.files new.files
fetch_still name old new (Ok bytes) h = still old.files new.files h.0.same
fetch_still name old new (Err (answer.Missing which)) h = record { told = ap (λ (x : FilesSeen). x.told) h.0.0.others; writes = ap (λ (x : FilesSeen). x.write_faults) h.0.0.others }
fetch_still name old new (Err (answer.LimitFile which)) h = record { told = ap (λ (x : FilesSeen). x.told) h.0.0.others; writes = ap (λ (x : FilesSeen). x.write_faults) h.0.0.others }
fetch_still name old new (Err answer.ReadFault) h = record { told = ap (λ (x : FilesSeen). x.told) h.0.others; writes = ap (λ (x : FilesSeen). x.write_faults) h.0.others }
fetch_still name old new (Err answer.Memory) h = still old.files new.files h.0
fetch_still name old new (Err _) h = absurd h.0

pub run_still : (image : ImageParts) (steps : ℕ) (old new : Outside) (e : Answer) → RunsBy image steps old e new → new.files ≡ old.files
run_still image steps old new (answer.Ended status) h = h.0.files
run_still image steps old new answer.Spent h = h.0.files
run_still image steps old new (answer.Stuck eip cause) h = h.0.files
run_still image steps old new answer.ReadFault h = ap (λ (x : Outside). x.files) h.fault.1 ∙ h.ran.files
run_still image steps old new answer.WriteFault h = ap (λ (x : Outside). x.files) h.fault.1 ∙ h.ran.files
run_still image steps old new answer.Memory h = ap (λ (x : Outside). x.files) h.fault.1 ∙ h.ran.files
run_still image steps old new _ h = absurd h

runs_still : (steps : ℕ) (name bytes : List ℕ) (old new : Outside) (e : Answer) → Runs steps name bytes old e new → new.files ≡ old.files
runs_still steps name bytes old new e h =
    runs_by steps name bytes old (λ told end. end.files ≡ old.files) (λ none. refl) (λ image index is fault. refl) (λ image is fault. refl) refl
    (λ image is loads told end r. run_still image steps old end told r) e new h

run_command : (steps : ℕ) (image : List ℕ) (old new : Outside) (e : Answer) → does (Run steps image) old e new → PutsNothing old.files new.files
run_command steps image old new e (inl h) = fetch_still image old new (Err e) h
run_command steps image old new e (inr h) =
    both_still old.files h.between.files new.files (fetch_still image old h.between (Ok h.value) h.went) (still h.between.files new.files (runs_still steps image h.value h.between new e h.goes_on))

-- mean: units are got, and linked units touch no file
check_still : (name : List ℕ) (old new : Outside) (r : Result TypedUnit Answer) → Checks name old r new → PutsNothing old.files new.files
check_still name old new (Ok unit) h =
    both_still old.files h.between.files new.files (fetch_still name old h.between (Ok h.value) h.went) (still h.between.files new.files (ap (λ (x : Outside). x.files) h.goes_on.1))
check_still name old new (Err e) (inl h) = fetch_still name old new (Err e) h
check_still name old new (Err e) (inr h) =
    both_still old.files h.between.files new.files (fetch_still name old h.between (Ok h.value) h.went) (still h.between.files new.files (ap (λ (x : Outside). x.files) h.goes_on.1))

checks_still : (names : List (List ℕ)) (old new : Outside) (r : Result (List TypedUnit) Answer) → Each Checks names old r new → PutsNothing old.files new.files
checks_still [] old new r h = still old.files new.files (ap (λ (x : Outside). x.files) h.1)
checks_still (name ∷ names) old new (Ok units) h =
    let rest = h.goes_on in
    both_still old.files h.between.files new.files (check_still name old h.between (Ok h.value) h.went)
    (both_still h.between.files rest.between.files new.files (checks_still names h.between rest.between (Ok rest.value) rest.went) (still rest.between.files new.files (ap (λ (x : Outside). x.files) rest.goes_on.1)))
checks_still (name ∷ names) old new (Err e) (inl h) = check_still name old new (Err e) h
checks_still (name ∷ names) old new (Err e) (inr h) =
    both_still old.files h.between.files new.files (check_still name old h.between (Ok h.value) h.went) (checks_still names h.between new (Err e) (rest_failed Checks names h.value h.between new e h.goes_on))

mean_command : (steps : ℕ) (units : List (List ℕ)) (old new : Outside) (e : Answer) → does (Mean steps units) old e new → PutsNothing old.files new.files
mean_command steps units old new e (inl h) = checks_still units old new (Err e) h
mean_command steps units old new e (inr h) =
    both_still old.files h.between.files new.files (checks_still units old h.between (Ok h.value) h.went) (still h.between.files new.files (means_still steps units h.value h.between new e h.goes_on))

-- show: the files and the input
abbrev Reads : Outside → Outside → Type 0
Reads old new = (new.input ≡ old.input) × PutsNothing old.files new.files

both_read : (a b c : Outside) → Reads a b → Reads b c → Reads a c
both_read a b c p q = (q.0 ∙ p.0, both_still a.files b.files c.files p.1 q.1)

same_read : (old new : Outside) → new ≡ old → Reads old new
same_read old new e = ((unmoved old new e).0, still old.files new.files (ap (λ (x : Outside). x.files) e))

fetch_read : (name : List ℕ) (old new : Outside) (r : Result (List ℕ) Answer) → Fetches name old r new → Reads old new
fetch_read name old new r h = ((on_files old new h.1).0, fetch_still name old new r h)

give_read : (text : List ℕ) (old new : Outside) (r : Result (Unit {0}) Answer) → GivesOut text old r new → Reads old new
give_read text old new r h = (ap (λ (x : Outside). x.input) h.1, still old.files new.files (ap (λ (x : Outside). x.files) h.1))

abbrev ReadsBy : Command → Type 0
ReadsBy command = (old new : Outside) (e : Answer) → command old e new → Reads old new

then_read : {A : Type 0} (step : Step A) (rest : A → Command) → ((old new : Outside) (r : Result A Answer) → step old r new → Reads old new) → ((a : A) → ReadsBy (rest a)) → ReadsBy (Then step rest)
then_read step rest reads next old new e (inl h) = reads old new (Err e) h
then_read step rest reads next old new e (inr h) = both_read old h.between new (reads old h.between (Ok h.value) h.went) (next h.value h.between new e h.goes_on)

show_command : (unit : List ℕ) → ReadsBy (does (Show unit))
show_command unit =
    then_read (Fetches unit) _ (fetch_read unit) (λ text.
    then_read (Parses unit text) _ (λ old new r h. same_read old new h.1) (λ tree.
    then_read (Keeps (canonical_text tree)) _ (λ old new r h. same_read old new h.1) (λ shown.
    then_read (GivesOut shown) _ (give_read shown) (λ _ old new e h. same_read old new h.1))))

-- words that were not read touch nothing
alone_so : (r : Request) (old new : Outside) (report told_output : SinkSeen) (last : SinkSeen) (e : Answer) (result : Status) → does r old e new → Ends e new.output report result told_output last
    → LeavesAlone r old.files new.files old.input new.input old.output told_output
alone_so (Compile unit object) old new report after last e result h ends =
    let s = compile_command unit object old new e h in
    let P : SinkSeen → Type 0 = λ o. OnlyFlushed o after in
    (s.0, subst P s.1 (flushed_so e new.output report after last result ends))
alone_so (Link image objects) old new report after last e result h ends =
    let s = link_command image objects old new e h in
    let P : SinkSeen → Type 0 = λ o. OnlyFlushed o after in
    (s.0, subst P s.1 (flushed_so e new.output report after last result ends))
alone_so (Run steps image) old new report after last e result h ends = run_command steps image old new e h
alone_so (Show unit) old new report after last e result h ends = show_command unit old new e h
alone_so (Exec steps image units) old new report after last e result h ends = tt
alone_so (Mean steps units) old new report after last e result h ends = mean_command steps units old new e h

same_so : (r : Request) (old new : Outside) (report after last : SinkSeen) (e : Answer) (result : Status) → new ≡ old → Ends e new.output report result after last
    → LeavesAlone r old.files new.files old.input new.input old.output after
same_so (Compile unit object) old new report after last e result h ends =
    let P : SinkSeen → Type 0 = λ o. OnlyFlushed o after in ((unmoved old new h).0, subst P (unmoved old new h).1 (flushed_so e new.output report after last result ends))
same_so (Link image objects) old new report after last e result h ends =
    let P : SinkSeen → Type 0 = λ o. OnlyFlushed o after in ((unmoved old new h).0, subst P (unmoved old new h).1 (flushed_so e new.output report after last result ends))
same_so (Run steps image) old new report after last e result h ends = still old.files new.files (ap (λ (x : Outside). x.files) h)
same_so (Show unit) old new report after last e result h ends = same_read old new h
same_so (Exec steps image units) old new report after last e result h ends = tt
same_so (Mean steps units) old new report after last e result h ends = still old.files new.files (ap (λ (x : Outside). x.files) h)

pub left_alone : (r : Request) (old new : Outside) (report after last : SinkSeen) (e : Answer) (result : Status) → Asked (does r) old e new → Ends e new.output report result after last
    → LeavesAlone r old.files new.files old.input new.input old.output after
left_alone r old new report after last e result (inl h) ends = same_so r old new report after last e result h.1 ends
left_alone r old new report after last e result (inr h) ends = alone_so r old new report after last e result h ends
