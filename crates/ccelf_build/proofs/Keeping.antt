-- What a command leaves in the files.
use Rattle.std.proofs.Common.{◌≡◌, ◌∷◌, ◌++◌, [], ℕ, List, Option, Some, None, option_map, map, Ok, Err, refl, inl, inr, ap, ◌∙◌, sym, subst, append_assoc, append-nil}
use Rattle.std.specs.FinMap.{insert}
use Rattle.std.proofs.lemmas.List.{map-append}
use Rattle.cc_base.specs.Seen.{FilesSeen}
use Rattle.elf_file.specs.declared.image.ImageParts.{ImageParts}
use Rattle.command_words.specs.Commands.{Request, Compile, Link, Run, Show, Exec, Mean, object_name}
use Rattle.commands.specs.declared.answer.Answer.{Answer}
use Rattle.commands.specs.declared.answer.Answer.TheVariants as answer
use Rattle.commands.specs.Doing.{Outside, Step, Command, Then, AndThen, Each}
use Rattle.text_print.specs.Canonical.{canonical_text}
use Rattle.commands.specs.Steps.{Fetches, Stores, Parses, GivesOut, Compiles, Keeps, CompilesTo, Links, Runs, RunsBy}
use Rattle.commands.specs.Meanings.{ChecksText, Checks}
use Rattle.commands.specs.Does.{does}
use Rattle.ccelf_build.specs.Contents.{Contents, NamedBytes, put_all}
use Rattle.ccelf_build.specs.Kept.{names_put, Kept}
use Rattle.ccelf_build.proofs.Chains.{keep_it, store_it, compile_it, with_first}
use Rattle.ccelf_build.proofs.Meanings.{means_still}
use Rattle.ccelf_build.proofs.Runnings.{runs_by}

-- all of these names were put
record PutAll (names : List (List ℕ)) (old new : FilesSeen) : Type 0 where
  puts : List NamedBytes
  told : new.told ≡ option_map (put_all puts) old.told
  all : names ≡ map (λ (p : NamedBytes). p.name) puts

-- what a step puts, by what comes of it
abbrev Puts : {A : Type 0} → List (List ℕ) → Step A → Type 0
Puts {A} names step = ((old new : Outside) (a : A) → step old (Ok a) new → PutAll names old.files new.files) × ((old new : Outside) (e : Answer) → step old (Err e) new → Kept names old.files new.files)

abbrev PutsBy : List (List ℕ) → Command → Type 0
PutsBy names command = (old new : Outside) (e : Answer) → command old e new → Kept names old.files new.files

no_put : (t : Option Contents) → t ≡ option_map (put_all []) t
no_put None = refl
no_put (Some files) = refl

two_puts : (ps qs : List NamedBytes) (files : Contents) → put_all qs (put_all ps files) ≡ put_all (ps ++ qs) files
two_puts [] qs files = refl
two_puts (p ∷ ps) qs files = two_puts ps qs (insert files p.name p.bytes)

told_twice : (ps qs : List NamedBytes) (t : Option Contents) → option_map (put_all qs) (option_map (put_all ps) t) ≡ option_map (put_all (ps ++ qs)) t
told_twice ps qs None = refl
told_twice ps qs (Some files) = ap (λ (m : Contents). Some m) (two_puts ps qs files)

names_of : List NamedBytes → List (List ℕ)
names_of puts = map (λ (p : NamedBytes). p.name) puts

-- nothing was put
pub none_kept : (names : List (List ℕ)) (old new : FilesSeen) → new.told ≡ old.told → Kept names old new
none_kept names old new e = record { puts = []; told = e ∙ no_put old.told; others = names; first = refl }

none_put : (old new : FilesSeen) → new.told ≡ old.told → PutAll [] old new
none_put old new e = record { puts = []; told = e ∙ no_put old.told; all = refl }

-- puts, and then others
kept_after : (ns ms : List (List ℕ)) (a b c : FilesSeen) → PutAll ns a b → Kept ms b c → Kept (ns ++ ms) a c
kept_after ns ms a b c p k = record {
  puts = p.puts ++ k.puts;
  told = k.told ∙ ap (option_map (put_all k.puts)) p.told ∙ told_twice p.puts k.puts a.told;
  others = k.others;
  first =
      ap (λ (xs : List (List ℕ)). xs ++ ms) p.all ∙ ap (λ (xs : List (List ℕ)). map (λ (q : NamedBytes). q.name) p.puts ++ xs) k.first
      ∙ sym (append_assoc (map (λ (q : NamedBytes). q.name) p.puts) (map (λ (q : NamedBytes). q.name) k.puts) k.others)
      ∙ ap (λ (xs : List (List ℕ)). xs ++ k.others) (sym (map-append (λ (q : NamedBytes). q.name) p.puts k.puts));
}

put_after : (ns ms : List (List ℕ)) (a b c : FilesSeen) → PutAll ns a b → PutAll ms b c → PutAll (ns ++ ms) a c
put_after ns ms a b c p k = record {
  puts = p.puts ++ k.puts;
  told = k.told ∙ ap (option_map (put_all k.puts)) p.told ∙ told_twice p.puts k.puts a.told;
  all =
      ap (λ (xs : List (List ℕ)). xs ++ ms) p.all ∙ ap (λ (xs : List (List ℕ)). map (λ (q : NamedBytes). q.name) p.puts ++ xs) k.all
      ∙ sym (map-append (λ (q : NamedBytes). q.name) p.puts k.puts);
}

-- a command that stops has put less
kept_so_far : (ns ms : List (List ℕ)) (a b : FilesSeen) → Kept ns a b → Kept (ns ++ ms) a b
kept_so_far ns ms a b k = record {
  puts = k.puts;
  told = k.told;
  others = k.others ++ ms;
  first = ap (λ (xs : List (List ℕ)). xs ++ ms) k.first ∙ append_assoc (map (λ (q : NamedBytes). q.name) k.puts) k.others ms;
}

told_same : (f g : FilesSeen) → f ≡ g → f.told ≡ g.told
told_same f g e = ap (λ (x : FilesSeen). x.told) e

files_same : (a b : Outside) → a ≡ b → a.files.told ≡ b.files.told
files_same a b e = ap (λ (x : Outside). x.files.told) e

fetch_puts : (name : List ℕ) → Puts [] (Fetches name)
fetch_puts name = ((λ old new a h. none_put old.files new.files (told_same _ _ h.0.same)), fails)
  where
    fails : (old new : Outside) (e : Answer) → Fetches name old (Err e) new → Kept [] old.files new.files
    fails old new (answer.Missing which) h = none_kept [] old.files new.files (told_same _ _ h.0.0.others)
    fails old new (answer.LimitFile which) h = none_kept [] old.files new.files (told_same _ _ h.0.0.others)
    fails old new answer.ReadFault h = none_kept [] old.files new.files (told_same _ _ h.0.others)
    fails old new answer.Memory h = none_kept [] old.files new.files (told_same _ _ h.0)
    fails old new _ h = absurd h.0

parse_puts : (name text : List ℕ) → Puts [] (Parses name text)
parse_puts name text = ((λ old new a h. none_put old.files new.files (files_same _ _ h.1)), (λ old new e h. none_kept [] old.files new.files (files_same _ _ h.1)))

give_puts : (text : List ℕ) → Puts [] (GivesOut text)
give_puts text = ((λ old new a h. none_put old.files new.files (files_same _ _ h.1)), (λ old new e h. none_kept [] old.files new.files (files_same _ _ h.1)))

compile_puts : (name text : List ℕ) → Puts [] (Compiles name text)
compile_puts name text = ((λ old new a h. none_put old.files new.files (files_same _ _ h.1)), (λ old new e h. none_kept [] old.files new.files (files_same _ _ h.1)))

keep_puts : (bytes : List ℕ) → Puts [] (Keeps bytes)
keep_puts bytes = ((λ old new a h. none_put old.files new.files (files_same _ _ h.1)), (λ old new e h. none_kept [] old.files new.files (files_same _ _ h.1)))

link_puts : (names files : List (List ℕ)) → Puts [] (Links names files)
link_puts names files = ((λ old new a h. none_put old.files new.files (files_same _ _ h.1)), (λ old new e h. none_kept [] old.files new.files (files_same _ _ h.1)))

one_put : (name bytes : List ℕ) (t : Option Contents) → option_map (λ (files : Contents). insert files name bytes) t ≡ option_map (put_all (record { name = name; bytes = bytes } ∷ [])) t
one_put name bytes None = refl
one_put name bytes (Some files) = refl

store_puts : (name bytes : List ℕ) → Puts (name ∷ []) (Stores name bytes)
store_puts name bytes = ((λ old new a h. record { puts = record { name = name; bytes = bytes } ∷ []; told = told_same _ _ h.0 ∙ one_put name bytes old.files.told; all = refl }), fails)
  where
    fails : (old new : Outside) (e : Answer) → Stores name bytes old (Err e) new → Kept (name ∷ []) old.files new.files
    fails old new answer.WriteFault h = none_kept (name ∷ []) old.files new.files (told_same _ _ h.0.others)
    fails old new answer.Memory h = none_kept (name ∷ []) old.files new.files (told_same _ _ h.0)
    fails old new _ h = absurd h.0

-- a step and the rest
then_puts : {A : Type 0} (ns ms : List (List ℕ)) (step : Step A) (rest : A → Command) → Puts ns step → ((a : A) → PutsBy ms (rest a)) → PutsBy (ns ++ ms) (Then step rest)
then_puts ns ms step rest puts next old new e (inl h) = kept_so_far ns ms old.files new.files (puts.1 old new e h)
then_puts ns ms step rest puts next old new e (inr h) = kept_after ns ms old.files h.between.files new.files (puts.0 old h.between h.value h.went) (next h.value h.between new e h.goes_on)

and_then_puts : {A B : Type 0} (ns ms : List (List ℕ)) (step : Step A) (rest : A → Step B) → Puts ns step → ((a : A) → Puts ms (rest a)) → Puts (ns ++ ms) (AndThen step rest)
and_then_puts {A} {B} ns ms step rest puts next = (
  (λ old new b h. put_after ns ms old.files h.between.files new.files (puts.0 old h.between h.value h.went) ((next h.value).0 h.between new b h.goes_on)),
  fails,
)
  where
    fails : (old new : Outside) (e : Answer) → AndThen step rest old (Err e) new → Kept (ns ++ ms) old.files new.files
    fails old new e (inl h) = kept_so_far ns ms old.files new.files (puts.1 old new e h)
    fails old new e (inr h) = kept_after ns ms old.files h.between.files new.files (puts.0 old h.between h.value h.went) ((next h.value).1 h.between new e h.goes_on)

unit_puts : (unit name : List ℕ) → Puts (name ∷ []) (CompilesTo unit name)
unit_puts unit name =
    and_then_puts [] (name ∷ []) (Fetches unit) (compile_it unit name) (fetch_puts unit) (λ text.
    and_then_puts [] (name ∷ []) (Compiles unit text) (store_it name) (compile_puts unit text) (λ object.
    and_then_puts (name ∷ []) [] (Stores name object) (keep_it object) (store_puts name object) (λ _. keep_puts object)))

-- steps for each in turn, each of which puts these names
abbrev all_names : {X : Type 0} → (X → List (List ℕ)) → List X → List (List ℕ)
all_names puts [] = []
all_names puts (x ∷ xs) = puts x ++ all_names puts xs

each_puts : {X Y : Type 0} (step : X → Step Y) (names : X → List (List ℕ)) → ((x : X) → Puts (names x) (step x)) → (xs : List X) → Puts (all_names names xs) (Each step xs)
each_puts {X} {Y} step names puts [] = (
  (λ old new ys h. none_put old.files new.files (files_same _ _ h.1)),
  (λ old new e h. none_kept [] old.files new.files (files_same _ _ h.1)),
)
each_puts {X} {Y} step names puts (x ∷ xs) =
    and_then_puts (names x) (all_names names xs) (step x) (λ y. AndThen (Each step xs) (with_first y)) (puts x) (λ y.
    let P : List (List ℕ) → Type 0 = λ ns. Puts ns (AndThen (Each step xs) (with_first y)) in
    subst P (append-nil (all_names names xs)) (and_then_puts (all_names names xs) [] (Each step xs) (with_first y) (each_puts step names puts xs) (λ ys. (
      (λ old new zs h. none_put old.files new.files (files_same _ _ h.1)),
      (λ old new e h. none_kept [] old.files new.files (files_same _ _ h.1)),
    ))))

none_of : {X : Type 0} (xs : List X) → all_names (λ (x : X). []) xs ≡ []
none_of [] = refl
none_of (x ∷ xs) = none_of xs

one_of : (xs : List (List ℕ)) → all_names (λ (x : List ℕ). object_name x ∷ []) xs ≡ map object_name xs
one_of [] = refl
one_of (x ∷ xs) = ap (λ (ns : List (List ℕ)). object_name x ∷ ns) (one_of xs)

run_puts : (image : ImageParts) (steps : ℕ) (old new : Outside) (e : Answer) → RunsBy image steps old e new → new.files.told ≡ old.files.told
run_puts image steps old new (answer.Ended status) h = told_same _ _ h.0.files
run_puts image steps old new answer.Spent h = told_same _ _ h.0.files
run_puts image steps old new (answer.Stuck eip cause) h = told_same _ _ h.0.files
run_puts image steps old new answer.ReadFault h = files_same _ _ h.fault.1 ∙ told_same _ _ h.ran.files
run_puts image steps old new answer.WriteFault h = files_same _ _ h.fault.1 ∙ told_same _ _ h.ran.files
run_puts image steps old new answer.Memory h = files_same _ _ h.fault.1 ∙ told_same _ _ h.ran.files
run_puts image steps old new _ h = absurd h

runs_puts : (steps : ℕ) (name bytes : List ℕ) → PutsBy [] (Runs steps name bytes)
runs_puts steps name bytes old new e h =
    none_kept [] old.files new.files
    (runs_by steps name bytes old (λ told end. end.files.told ≡ old.files.told) (λ none. refl) (λ image index is fault. refl) (λ image is fault. refl) refl
    (λ image is loads told end r. run_puts image steps old end told r) e new h)

-- a unit that is got and checked is put nowhere
check_puts : (name text : List ℕ) → Puts [] (ChecksText name text)
check_puts name text = ((λ old new a h. none_put old.files new.files (files_same _ _ h.1)), (λ old new e h. none_kept [] old.files new.files (files_same _ _ h.1)))

checks_puts : (name : List ℕ) → Puts [] (Checks name)
checks_puts name = and_then_puts [] [] (Fetches name) (λ text. ChecksText name text) (fetch_puts name) (λ text. check_puts name text)

pub kept : (r : Request) → PutsBy (names_put r) (does r)
kept (Compile unit object) = then_puts (object ∷ []) [] (CompilesTo unit object) _ (unit_puts unit object) (λ bytes old new e h. none_kept [] old.files new.files (files_same _ _ h.1))
kept (Link image objects) =
    let P : List (List ℕ) → Type 0 = λ ns. Puts ns (Each Fetches objects) in
    then_puts [] (image ∷ []) (Each Fetches objects) _ (subst P (none_of objects) (each_puts Fetches (λ (x : List ℕ). []) fetch_puts objects)) (λ files.
    then_puts [] (image ∷ []) (Links objects files) _ (link_puts objects files) (λ bytes.
    then_puts (image ∷ []) [] (Stores image bytes) _ (store_puts image bytes) (λ _ old new e h. none_kept [] old.files new.files (files_same _ _ h.1))))
kept (Run steps image) = then_puts [] [] (Fetches image) _ (fetch_puts image) (λ bytes. runs_puts steps image bytes)
kept (Show unit) =
    then_puts [] [] (Fetches unit) _ (fetch_puts unit) (λ text.
    then_puts [] [] (Parses unit text) _ (parse_puts unit text) (λ tree.
    then_puts [] [] (Keeps (canonical_text tree)) _ (keep_puts (canonical_text tree)) (λ shown.
    then_puts [] [] (GivesOut shown) _ (give_puts shown) (λ _ old new e h. none_kept [] old.files new.files (files_same _ _ h.1)))))
kept (Exec steps image units) =
    let P : List (List ℕ) → Type 0 = λ ns. Puts ns (Each (λ unit. CompilesTo unit (object_name unit)) units) in
    then_puts (map object_name units) (image ∷ []) (Each (λ unit. CompilesTo unit (object_name unit)) units) _
    (subst P (one_of units) (each_puts (λ unit. CompilesTo unit (object_name unit)) (λ (x : List ℕ). object_name x ∷ []) (λ unit. unit_puts unit (object_name unit)) units)) (λ files.
    then_puts [] (image ∷ []) (Links (map object_name units) files) _ (link_puts (map object_name units) files) (λ bytes.
    then_puts (image ∷ []) [] (Stores image bytes) _ (store_puts image bytes) (λ _. runs_puts steps image bytes)))
kept (Mean steps units) =
    let P : List (List ℕ) → Type 0 = λ ns. Puts ns (Each Checks units) in
    then_puts [] [] (Each Checks units) _ (subst P (none_of units) (each_puts Checks (λ (x : List ℕ). []) checks_puts units)) (λ typed old new e h. none_kept [] old.files new.files (told_same _ _ (means_still steps units typed old new e h)))
