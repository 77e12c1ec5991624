-- What show comes to, where the files tell their bytes.
use Rattle.std.proofs.Common.{◌≡◌, ◌⊎◌, ℕ, List, Result, Ok, Err, inl, inr, ap, ◌∙◌, sym, subst}
use Rattle.cc_base.specs.Seen.{SinkSeen}
use Rattle.cc_base.specs.Outside.{SinkFailed, SinkWanted}
use Rattle.text_grammar.specs.declared.tree.External.{External}
use Rattle.text_parser.specs.Parsing.{HasTree}
use Rattle.text_print.specs.Canonical.{canonical_text}
use Rattle.commands.specs.declared.answer.Answer.{Answer}
use Rattle.commands.specs.declared.answer.Answer.TheVariants as answer
use Rattle.commands.specs.Doing.{Outside, Command, Says, Then}
use Rattle.commands.specs.Giving.{CutShort}
use Rattle.commands.specs.Steps.{Parses, Keeps, GivesOut}
use Rattle.commands.specs.Does.{show_does}
use Rattle.ccelf_build.specs.Contents.{Contents, StandsAt}
use Rattle.ccelf_build.specs.Told.{ShowsIt, AllGiven, show_told}
use Rattle.ccelf_build.proofs.Units.{Tells, FetchRow, fetch_row, fetch_same, fetch_stands, nothing_done}

-- what is left once the canonical text was made, once the text was parsed, and once it was got
abbrev give_it : List ℕ → Command
give_it shown = Then (GivesOut shown) (λ _. Says answer.Shown)

abbrev print_it : List External → Command
print_it tree = Then (Keeps (canonical_text tree)) give_it

abbrev parse_it : List ℕ → List ℕ → Command
parse_it unit text = Then (Parses unit text) print_it

module _ (unit : List ℕ) (files : Contents) (old : Outside) (there : Tells files old) where
  from_fetch : (new : Outside) (e : Answer) → FetchRow files unit old e new → show_told unit files old e new
  from_fetch new (answer.Missing which) h = h
  from_fetch new (answer.LimitFile which) h = h
  from_fetch new answer.ReadFault h = h
  from_fetch new answer.Memory h = inl h
  from_fetch new _ h = absurd h

  module _ (text : List ℕ) (stands : StandsAt files unit text) where
    from_parse : (new : Outside) (e : Answer) → Parses unit text old (Err e) new → show_told unit files old e new
    from_parse new (answer.LimitText which) h = (h.0.1, (text, stands, h.0.0), nothing_done files old new there h.1)
    from_parse new (answer.LimitDeep which at) h = (h.0.1, (text, stands, h.0.0), nothing_done files old new there h.1)
    from_parse new (answer.Syntax which kind at) h = (h.0.1, (text, stands, h.0.0), nothing_done files old new there h.1)
    from_parse new answer.Memory h = inl (nothing_done files old new there h.1)
    from_parse new _ h = absurd h.0

    module _ (tree : List External) (parsed : HasTree text tree) where
      shows : (gives : SinkSeen → List ℕ → SinkSeen → Type 0) (new : Outside) → gives old.output (canonical_text tree) new.output → new ≡ record old { output = new.output } → ShowsIt unit files gives old new
      shows gives new given e = record {
        tree = tree;
        is = record { text = text; stands = stands; parsed = parsed };
        given = given;
        files_kept = ap (λ (x : Outside). x.files.told) e ∙ there;
        input_kept = ap (λ (x : Outside). x.input) e;
      }

      from_give : (new : Outside) (e : Answer) → GivesOut (canonical_text tree) old (Err e) new → show_told unit files old e new
      from_give new answer.WriteFault h = shows (CutShort SinkFailed) new h.0 h.1
      from_give new answer.Memory h = inr (shows (CutShort SinkWanted) new h.0 h.1)
      from_give new _ h = absurd h.0

      after_give : (new : Outside) (e : Answer) → give_it (canonical_text tree) old e new → show_told unit files old e new
      after_give new e (inl h) = from_give new e h
      after_give new e (inr h) =
          let P : Answer → Type 0 = λ a. show_told unit files old a new in
          let Q : Outside → Type 0 = λ end. ShowsIt unit files AllGiven old end in
          subst P (sym h.goes_on.0) (subst Q (sym h.goes_on.1) (shows AllGiven h.between h.went.0 h.went.1))

      -- the canonical text was made, or there was no memory for it
      kept_text : (shown : List ℕ) → (◌≡◌ {A = Result (List ℕ) Answer} (Ok shown) (Ok (canonical_text tree))) ⊎ (◌≡◌ {A = Result (List ℕ) Answer} (Ok shown) (Err answer.Memory)) → shown ≡ canonical_text tree
      kept_text shown (inl e) = cc
      kept_text shown (inr e) = let clash : ◌≡◌ {A = Result (List ℕ) Answer} (Ok shown) (Err answer.Memory) = e in cc

      from_keep : (new : Outside) (e : Answer) → Keeps (canonical_text tree) old (Err e) new → show_told unit files old e new
      from_keep new e (inl k, same) = let clash : ◌≡◌ {A = Result (List ℕ) Answer} (Err e) (Ok (canonical_text tree)) = k in cc
      from_keep new e (inr k, same) =
          let P : Answer → Type 0 = λ a. show_told unit files old a new in
          let is_memory : e ≡ answer.Memory = (let l : ◌≡◌ {A = Result (List ℕ) Answer} (Err e) (Err answer.Memory) = k in cc) in
          subst P (sym is_memory) (inl (nothing_done files old new there same))

      after_print : (new : Outside) (e : Answer) → print_it tree old e new → show_told unit files old e new
      after_print new e (inl h) = from_keep new e h
      after_print new e (inr h) =
          let P : Outside → Type 0 = λ from. give_it h.value from e new in
          let Q : List ℕ → Type 0 = λ shown. give_it shown old e new in
          after_give new e (subst Q (kept_text h.value h.went.0) (subst P h.went.1 h.goes_on))

    after_parse : (new : Outside) (e : Answer) → parse_it unit text old e new → show_told unit files old e new
    after_parse new e (inl h) = from_parse new e h
    after_parse new e (inr h) = let P : Outside → Type 0 = λ from. print_it h.value from e new in after_print h.value h.went.0 new e (subst P h.went.1 h.goes_on)

  pub show_row : (new : Outside) (e : Answer) → show_does unit old e new → show_told unit files old e new
  show_row new e (inl h) = from_fetch new e (fetch_row files unit old new e there h)
  show_row new e (inr h) =
      let P : Outside → Type 0 = λ from. parse_it unit h.value from e new in
      after_parse h.value (fetch_stands files unit h.value old h.between there h.went) new e (subst P (fetch_same unit h.value old h.between h.went) h.goes_on)
