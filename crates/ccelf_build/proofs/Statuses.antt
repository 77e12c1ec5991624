-- Which statuses a command may have.
use Rattle.std.proofs.Common.{◌≡◌, ◌⊎◌, ◌∷◌, [], ℕ, List, map, length, Result, Ok, Err, refl, inl, inr, sym, subst}
use Rattle.text_grammar.specs.declared.tree.External.{External}
use Rattle.text_print.specs.Canonical.{canonical_text}
use Rattle.second_form.specs.declared.second_items.Item.{Item}
use Rattle.elf_file.specs.declared.image.ImageParts.{ImageParts}
use Rattle.command_words.specs.Commands.{Request, Compile, Link, Run, Show, Exec, Mean, object_name}
use Rattle.commands.specs.declared.answer.Answer.{Answer}
use Rattle.commands.specs.declared.answer.Answer.TheVariants as answer
use Rattle.commands.specs.declared.answer.Status.{Status}
use Rattle.commands.specs.declared.answer.Status.TheVariants as status
use Rattle.commands.specs.Answers.{status_of}
use Rattle.commands.specs.Doing.{Outside, Step, Says, Then, AndThen, Each}
use Rattle.commands.specs.Steps.{Fetches, Stores, Parses, GivesOut, Compiles, Keeps, CompilesTo, Links, LinkedFrom, Runs, RunsBy}
use Rattle.clight_unit.specs.declared.unit.ClightUnit.{ClightUnit as TypedUnit}
use Rattle.commands.specs.Meanings.{ChecksText, Checks, MeansBy}
use Rattle.commands.specs.Does.{does}
use Rattle.cc_base.specs.Seen.{SinkSeen}
use Rattle.ccelf_build.specs.Ends.{Ends}
use Rattle.ccelf_build.specs.Laws.{Laws}
use Rattle.ccelf_build.proofs.Made.{AreMadeOf}
use Rattle.ccelf_build.specs.Causes.{Yields}
use Rattle.ccelf_build.specs.Promise.{IsCommon, IsStatusOf, Asked}
use Rattle.ccelf_build.proofs.Chains.{keep_it, store_it, compile_it, rest_failed}
use Rattle.ccelf_build.proofs.Ending.{ended_so}
use Rattle.ccelf_build.proofs.Objects.{units_linked, UnitsLinked, runs_loaded, are_units}
use Rattle.ccelf_build.proofs.Runnings.{runs_by}
use Rattle.ccelf_build.proofs.UnitLists.{compiles}

missing : IsCommon status.Missing
missing = inr (inl refl)

read : IsCommon status.ReadFault
read = inr (inr (inl refl))

write : IsCommon status.WriteFault
write = inr (inr (inr (inl refl)))

limit : IsCommon status.Limit
limit = inr (inr (inr (inr (inl refl))))

memory : IsCommon status.Memory
memory = inr (inr (inr (inr (inr refl))))

abbrev CommonStep : {A : Type 0} → Step A → Type 0
CommonStep step = (old new : Outside) (e : Answer) → step old (Err e) new → IsCommon (status_of e)

-- a step that compiles a text may have a fault of syntax or of types too
abbrev OfText : Status → Type 0
OfText s = IsCommon s ⊎ ((s ≡ status.Syntax) ⊎ (s ≡ status.Typing))

-- and one that parses it alone a fault of syntax
abbrev OfSyntax : Status → Type 0
OfSyntax s = IsCommon s ⊎ (s ≡ status.Syntax)

abbrev TextStep : {A : Type 0} → Step A → Type 0
TextStep step = (old new : Outside) (e : Answer) → step old (Err e) new → OfText (status_of e)

as_text : {A : Type 0} (step : Step A) → CommonStep step → TextStep step
as_text step common old new e h = inl (common old new e h)

fetch_common : (name : List ℕ) → CommonStep (Fetches name)
fetch_common name old new (answer.Missing which) h = missing
fetch_common name old new (answer.LimitFile which) h = limit
fetch_common name old new answer.ReadFault h = read
fetch_common name old new answer.Memory h = memory
fetch_common name old new _ h = absurd h.0

store_common : (name bytes : List ℕ) → CommonStep (Stores name bytes)
store_common name bytes old new answer.WriteFault h = write
store_common name bytes old new answer.Memory h = memory
store_common name bytes old new _ h = absurd h.0

parse_text : (name text : List ℕ) (old new : Outside) (e : Answer) → Parses name text old (Err e) new → OfSyntax (status_of e)
parse_text name text old new (answer.LimitText which) h = inl limit
parse_text name text old new (answer.LimitDeep which at) h = inl limit
parse_text name text old new (answer.Syntax which kind at) h = inr refl
parse_text name text old new answer.Memory h = inl memory
parse_text name text old new _ h = absurd h.0

compile_text : (name text : List ℕ) → TextStep (Compiles name text)
compile_text name text old new (answer.LimitText which) h = inl limit
compile_text name text old new (answer.LimitDeep which at) h = inl limit
compile_text name text old new (answer.Syntax which kind at) h = inr (inl refl)
compile_text name text old new (answer.Typing which broken at) h = inr (inr refl)
compile_text name text old new (answer.LimitUnit which passed at) h = inl limit
compile_text name text old new (answer.LimitForm which) h = inl limit
compile_text name text old new answer.Memory h = inl memory
compile_text name text old new _ h = absurd h.0

give_common : (text : List ℕ) → CommonStep (GivesOut text)
give_common text old new answer.WriteFault h = write
give_common text old new answer.Memory h = memory
give_common text old new _ h = absurd h.0

keep_common : (bytes : List ℕ) → CommonStep (Keeps bytes)
keep_common bytes old new e (inl h, same) = let clash : ◌≡◌ {A = Result (List ℕ) Answer} (Err e) (Ok bytes) = h in cc
keep_common bytes old new e (inr h, same) =
    let P : Answer → Type 0 = λ a. IsCommon (status_of a) in
    let is : e ≡ answer.Memory = (let l : ◌≡◌ {A = Result (List ℕ) Answer} (Err e) (Err answer.Memory) = h in cc) in
    subst P (sym is) memory

and_then_text : {A B : Type 0} (step : Step A) (rest : A → Step B) → TextStep step → ((a : A) → TextStep (rest a)) → TextStep (AndThen step rest)
and_then_text step rest first next old new e (inl h) = first old new e h
and_then_text step rest first next old new e (inr h) = next h.value h.between new e h.goes_on

each_common : {X Y : Type 0} (step : X → Step Y) → ((x : X) → CommonStep (step x)) → (xs : List X) → CommonStep (Each step xs)
each_common {X} {Y} step each [] old new e h = let clash : ◌≡◌ {A = Result (List Y) Answer} (Err e) (Ok []) = h.0 in cc
each_common step each (x ∷ xs) old new e (inl h) = each x old new e h
each_common step each (x ∷ xs) old new e (inr h) = each_common step each xs h.between new e (rest_failed step xs h.value h.between new e h.goes_on)

each_text : {X Y : Type 0} (step : X → Step Y) → ((x : X) → TextStep (step x)) → (xs : List X) → TextStep (Each step xs)
each_text {X} {Y} step each [] old new e h = let clash : ◌≡◌ {A = Result (List Y) Answer} (Err e) (Ok []) = h.0 in cc
each_text step each (x ∷ xs) old new e (inl h) = each x old new e h
each_text step each (x ∷ xs) old new e (inr h) = each_text step each xs h.between new e (rest_failed step xs h.value h.between new e h.goes_on)

unit_text : (unit name : List ℕ) → TextStep (CompilesTo unit name)
unit_text unit name =
    and_then_text (Fetches unit) (compile_it unit name) (as_text (Fetches unit) (fetch_common unit)) (λ text.
    and_then_text (Compiles unit text) (store_it name) (compile_text unit text) (λ object.
    and_then_text (Stores name object) (keep_it object) (as_text (Stores name object) (store_common name object)) (λ _. as_text (Keeps object) (keep_common object))))

-- a command's own statuses, and the common ones
common : (r : Request) (s : Status) → IsCommon s → IsStatusOf r s
common (Compile unit object) s h = inl h
common (Link image objects) s h = inl h
common (Run steps image) s h = inl h
common (Show unit) s h = inl h
common (Exec steps image units) s h = inl h
common (Mean steps units) s h = inl h

is_done : (r : Request) (e told : Answer) → e ≡ told → status_of told ≡ status.Done → IsStatusOf r (status_of e)
is_done r e told same done = let P : Answer → Type 0 = λ a. IsStatusOf r (status_of a) in subst P (sym same) (common r (status_of told) (inl done))

link_statuses : (image : List ℕ) (objects names files : List (List ℕ)) (e : Answer) → LinkedFrom names files (Err e) → IsStatusOf (Link image objects) (status_of e)
link_statuses image objects names files (answer.ObjectForm which) h = inr (inl refl)
link_statuses image objects names files (answer.Doubled name file) h = inr (inr (inl refl))
link_statuses image objects names files (answer.Unresolved name file) h = inr (inr (inr (inl refl)))
link_statuses image objects names files (answer.Sized name file stated defined) h = inr (inr (inr (inr (inl refl))))
link_statuses image objects names files (answer.Range end) h = inr (inr (inr (inr (inr refl))))
link_statuses image objects names files answer.Memory h = inl memory
link_statuses image objects names files _ h = absurd h.2

run_statuses : (steps : ℕ) (name : List ℕ) (image : ImageParts) (count : ℕ) (old new : Outside) (e : Answer) → RunsBy image count old e new → IsStatusOf (Run steps name) (status_of e)
run_statuses steps name image count old new (answer.Ended code) h = inl (inl refl)
run_statuses steps name image count old new answer.Spent h = inr (inr (inl refl))
run_statuses steps name image count old new (answer.Stuck eip cause) h = inr (inr (inr refl))
run_statuses steps name image count old new answer.ReadFault h = inl read
run_statuses steps name image count old new answer.WriteFault h = inl write
run_statuses steps name image count old new answer.Memory h = inl memory
run_statuses steps name image count old new _ h = absurd h

-- a unit's object is one, whatever the files tell
kept_value : (object value : List ℕ) → (◌≡◌ {A = Result (List ℕ) Answer} (Ok object) (Ok value)) ⊎ (◌≡◌ {A = Result (List ℕ) Answer} (Ok object) (Err answer.Memory)) → object ≡ value
kept_value object value (inl e) = cc
kept_value object value (inr e) = let clash : ◌≡◌ {A = Result (List ℕ) Answer} (Ok object) (Err answer.Memory) = e in cc

made_from : (units : List (List ℕ)) (old new : Outside) (objects : List (List ℕ)) → Each compiles units old (Ok objects) new → (items : List (List Item)) × AreMadeOf items objects
made_from [] old new objects h =
    let P : List (List ℕ) → Type 0 = λ os. (items : List (List Item)) × AreMadeOf items os in
    let none : objects ≡ [] = (let e : ◌≡◌ {A = Result (List (List ℕ)) Answer} (Ok objects) (Ok []) = h.0 in cc) in
    subst P (sym none) ([], tt)
made_from (unit ∷ units) old new objects h =
    let rest = h.goes_on in
    let more = made_from units h.between rest.between rest.value rest.went in
    let a = h.went.goes_on in let b = a.goes_on in
    let P : List (List ℕ) → Type 0 = λ os. (items : List (List Item)) × AreMadeOf items os in
    let all : objects ≡ a.value ∷ rest.value = (let e : ◌≡◌ {A = Result (List (List ℕ)) Answer} (Ok objects) (Ok (h.value ∷ rest.value)) = rest.goes_on.0 in let f = kept_value h.value a.value b.goes_on.0 in cc) in
    subst P (sym all) (a.went.0.items ∷ more.0, (record { text = h.went.value; form = a.went.0.form; written = a.went.0.written }, more.1))

exec_link : (steps : ℕ) (image : List ℕ) (units names : List (List ℕ)) (items : List (List Item)) (e : Answer) → UnitsLinked names items (Err e) → IsStatusOf (Exec steps image units) (status_of e)
exec_link steps image units names items (answer.Doubled name file) h = inr (inr (inr (inl refl)))
exec_link steps image units names items (answer.Unresolved name file) h = inr (inr (inr (inr (inl refl))))
exec_link steps image units names items (answer.Range end) h = inr (inr (inr (inr (inr (inl refl)))))
exec_link steps image units names items answer.Memory h = inl memory
exec_link steps image units names items _ h = absurd h

exec_run : (steps : ℕ) (image : List ℕ) (units : List (List ℕ)) (parts : ImageParts) (old new : Outside) (e : Answer) → RunsBy parts steps old e new → IsStatusOf (Exec steps image units) (status_of e)
exec_run steps image units parts old new (answer.Ended code) h = inl (inl refl)
exec_run steps image units parts old new answer.Spent h = inr (inr (inr (inr (inr (inr (inl refl))))))
exec_run steps image units parts old new (answer.Stuck eip cause) h = inr (inr (inr (inr (inr (inr (inr refl))))))
exec_run steps image units parts old new answer.ReadFault h = inl read
exec_run steps image units parts old new answer.WriteFault h = inl write
exec_run steps image units parts old new answer.Memory h = inl memory
exec_run steps image units parts old new _ h = absurd h

exec_statuses : Laws → (steps : ℕ) (image : List ℕ) (units : List (List ℕ)) (old new : Outside) (e : Answer) → does (Exec steps image units) old e new → IsStatusOf (Exec steps image units) (status_of e)
exec_statuses laws steps image units old new e (inl h) = of_units (each_text compiles (λ unit. unit_text unit (object_name unit)) units old new e h)
  where
    of_units : OfText (status_of e) → IsStatusOf (Exec steps image units) (status_of e)
    of_units (inl s) = inl s
    of_units (inr (inl s)) = inr (inl s)
    of_units (inr (inr s)) = inr (inr (inl s))
exec_statuses laws steps image units old new e (inr h) = after_units h.goes_on
  where
    made : (items : List (List Item)) × AreMadeOf items h.value
    made = made_from units old h.between h.value h.went

    memory_so : (a : Answer) → a ≡ answer.Memory → IsStatusOf (Exec steps image units) (status_of a)
    memory_so a is = let P : Answer → Type 0 = λ b. IsStatusOf (Exec steps image units) (status_of b) in subst P (sym is) (inl memory)

    after_store : (bytes : List ℕ) (from : Outside) → UnitsLinked (map object_name units) made.0 (Ok bytes) → Runs steps image bytes from e new → IsStatusOf (Exec steps image units) (status_of e)
    after_store bytes from l r =
        elim (runs_loaded laws steps image bytes l.0 l.3 (laws.load made.0 l.0 (are_units made.0 h.value made.1) l.1 l.2) from new e r) [
          | inl k ↦ exec_run steps image units l.0 from new e k
          | inr k ↦ memory_so e k.0
        ]

    after_link : (bytes : List ℕ) (from : Outside) → UnitsLinked (map object_name units) made.0 (Ok bytes) → Then (Stores image bytes) (λ _. Runs steps image bytes) from e new → IsStatusOf (Exec steps image units) (status_of e)
    after_link bytes from l (inl k) = inl (store_common image bytes from new e k)
    after_link bytes from l (inr k) = after_store bytes k.between l k.goes_on

    after_units : Then (Links (map object_name units) h.value) (λ bytes. Then (Stores image bytes) (λ _. Runs steps image bytes)) h.between e new → IsStatusOf (Exec steps image units) (status_of e)
    after_units (inl k) = exec_link steps image units (map object_name units) made.0 e (units_linked laws (map object_name units) h.value made.0 made.1 (Err e) k.0)
    after_units (inr k) = after_link k.value k.between (units_linked laws (map object_name units) h.value made.0 made.1 (Ok k.value) k.went.0) k.goes_on

check_text : (name text : List ℕ) → TextStep (ChecksText name text)
check_text name text old new (answer.LimitText which) h = inl limit
check_text name text old new (answer.LimitDeep which at) h = inl limit
check_text name text old new (answer.Syntax which kind at) h = inr (inl refl)
check_text name text old new (answer.Typing which broken at) h = inr (inr refl)
check_text name text old new (answer.LimitUnit which passed at) h = inl limit
check_text name text old new answer.Memory h = inl memory
check_text name text old new _ h = absurd h.0

checks_text : (name : List ℕ) → TextStep (Checks name)
checks_text name = and_then_text (Fetches name) (λ text. ChecksText name text) (as_text (Fetches name) (fetch_common name)) (λ text. check_text name text)

means_statuses : (steps : ℕ) (names : List (List ℕ)) (units : List TypedUnit) (old new : Outside) (e : Answer) → MeansBy steps names units old e new → IsStatusOf (Mean steps names) (status_of e)
means_statuses steps names units old new (answer.Doubled name file) h = inr (inr (inr (inl refl)))
means_statuses steps names units old new (answer.Unresolved name file) h = inr (inr (inr (inr (inl refl))))
means_statuses steps names units old new (answer.Sized name file stated defined) h = inr (inr (inr (inr (inr (inl refl)))))
means_statuses steps names units old new (answer.Ended code) h = inl (inl refl)
means_statuses steps names units old new answer.Spent h = inr (inr (inr (inr (inr (inr (inl refl))))))
means_statuses steps names units old new (answer.Wrong turn) h = inr (inr (inr (inr (inr (inr (inr (inl refl)))))))
means_statuses steps names units old new (answer.Deep turn) h = inr (inr (inr (inr (inr (inr (inr (inr refl)))))))
means_statuses steps names units old new answer.ReadFault h = inl read
means_statuses steps names units old new answer.WriteFault h = inl write
means_statuses steps names units old new answer.Memory h = inl memory
means_statuses steps names units old new _ h = absurd h

mean_statuses : (steps : ℕ) (units : List (List ℕ)) (old new : Outside) (e : Answer) → does (Mean steps units) old e new → IsStatusOf (Mean steps units) (status_of e)
mean_statuses steps units old new e (inl h) = of_units (each_text Checks checks_text units old new e h)
  where
    of_units : OfText (status_of e) → IsStatusOf (Mean steps units) (status_of e)
    of_units (inl s) = inl s
    of_units (inr (inl s)) = inr (inl s)
    of_units (inr (inr s)) = inr (inr (inl s))
mean_statuses steps units old new e (inr h) = means_statuses steps units h.value h.between new e h.goes_on

answer_statuses : Laws → (r : Request) (old new : Outside) (e : Answer) → does r old e new → IsStatusOf r (status_of e)
answer_statuses laws (Compile unit object) old new e (inl h) = unit_text unit object old new e h
answer_statuses laws (Compile unit object) old new e (inr h) = is_done (Compile unit object) e _ h.goes_on.0 refl
answer_statuses laws (Link image objects) old new e (inl h) = inl (each_common Fetches fetch_common objects old new e h)
answer_statuses laws (Link image objects) old new e (inr h) = after_files h.goes_on
  where
    after_link : (bytes : List ℕ) (from : Outside) → Then (Stores image bytes) (λ _ a b c. (b ≡ answer.ImageStored (length bytes)) × (c ≡ a)) from e new → IsStatusOf (Link image objects) (status_of e)
    after_link bytes from (inl k) = inl (store_common image bytes from new e k)
    after_link bytes from (inr k) = is_done (Link image objects) e _ k.goes_on.0 refl

    after_files : Then (Links objects h.value) (λ bytes. Then (Stores image bytes) (λ _ a b c. (b ≡ answer.ImageStored (length bytes)) × (c ≡ a))) h.between e new → IsStatusOf (Link image objects) (status_of e)
    after_files (inl k) = link_statuses image objects objects h.value e k.0
    after_files (inr k) = after_link k.value k.between k.goes_on
answer_statuses laws (Run steps image) old new e (inl h) = inl (fetch_common image old new e h)
answer_statuses laws (Run steps image) old new e (inr h) =
    runs_by steps image h.value h.between (λ told end. IsStatusOf (Run steps image) (status_of told)) (λ none. inr (inl refl)) (λ parts index is fault. inr (inl refl)) (λ parts is fault. inr (inl refl)) (inl memory)
    (λ parts is loads told end r. run_statuses steps image parts steps h.between end told r) e new h.goes_on
answer_statuses laws (Show unit) old new e (inl h) = inl (fetch_common unit old new e h)
answer_statuses laws (Show unit) old new e (inr h) = after_fetch h.goes_on
  where
    after_print : (tree : List External) (shown : List ℕ) (from : Outside) → Then (GivesOut shown) (λ _. Says answer.Shown) from e new → IsStatusOf (Show unit) (status_of e)
    after_print tree shown from (inl k) = inl (give_common shown from new e k)
    after_print tree shown from (inr k) = is_done (Show unit) e _ k.goes_on.0 refl

    after_parse : (tree : List External) (from : Outside) → Then (Keeps (canonical_text tree)) (λ shown. Then (GivesOut shown) (λ _. Says answer.Shown)) from e new → IsStatusOf (Show unit) (status_of e)
    after_parse tree from (inl k) = inl (keep_common (canonical_text tree) from new e k)
    after_parse tree from (inr k) = after_print tree k.value k.between k.goes_on

    after_fetch : Then (Parses unit h.value) (λ tree. Then (Keeps (canonical_text tree)) (λ shown. Then (GivesOut shown) (λ _. Says answer.Shown))) h.between e new → IsStatusOf (Show unit) (status_of e)
    after_fetch (inl k) = parse_text unit h.value h.between new e k
    after_fetch (inr k) = after_parse k.value k.between k.goes_on
answer_statuses laws (Exec steps image units) old new e h = exec_statuses laws steps image units old new e h
answer_statuses laws (Mean steps units) old new e h = mean_statuses steps units old new e h

yields_common : (s : Status) → Yields s → IsCommon s
yields_common s (inl e) = inr (inr (inl e))
yields_common s (inr (inl e)) = inr (inr (inr (inl e)))
yields_common s (inr (inr e)) = inr (inr (inr (inr (inr e))))

asked_statuses : Laws → (r : Request) (old new : Outside) (e : Answer) → Asked (does r) old e new → IsStatusOf r (status_of e)
asked_statuses laws r old new e (inl h) = let P : Answer → Type 0 = λ a. IsStatusOf r (status_of a) in subst P (sym h.0) (common r status.Memory memory)
asked_statuses laws r old new e (inr h) = answer_statuses laws r old new e h

pub statuses : Laws → (r : Request) (old new : Outside) (e : Answer) (out report after last : SinkSeen) (result : Status) → Asked (does r) old e new → Ends e out report result after last → IsStatusOf r result
statuses laws r old new e out report after last result h ends = elim (ended_so e out report after last result ends) [
  | inl same ↦ (let P : Status → Type 0 = IsStatusOf r in subst P (sym same) (asked_statuses laws r old new e h))
  | inr y ↦ common r result (yields_common result y)
]
