-- What mean comes to, where the files and the input tell their bytes.
use Rattle.std.proofs.Common.{◌≡◌, ◌⊎◌, ◌∷◌, [], ℕ, List, Some, option_map, drop, Result, Ok, Err, refl, inl, inr, ap, ◌∙◌, sym, subst}
use Rattle.cc_base.specs.Faces.{Linkable}
use Rattle.cc_base.specs.Seen.{FilesSeen, SourceSeen, SinkSeen}
use Rattle.cc_base.specs.Outside.{SinkWanted, grown}
use Rattle.cc_base.specs.Runs.{State, emitted, taken}
use Rattle.cc_base.specs.declared.run.Act.{Act}
use Rattle.cc_base.specs.declared.run.Outcome.{Outcome}
use Rattle.cc_base.specs.declared.run.Outcome.TheVariants as outcome
use Rattle.text_grammar.specs.declared.fault.SyntaxFault.TheVariants as syntax
use Rattle.clight_unit.specs.declared.unit.ClightUnit.{ClightUnit as TypedUnit}
use Rattle.clight_sem.specs.Turns.{source_after}
use Rattle.mean_source.specs.declared.meaning.MeanFault.TheVariants as fault
use Rattle.mean_source.specs.Means.{StandsSo, IsAsking, IsEmitting, ComesNext, Comes, faces}
use Rattle.commands.specs.declared.answer.Answer.{Answer}
use Rattle.commands.specs.declared.answer.Answer.TheVariants as answer
use Rattle.commands.specs.Doing.{Outside, Each}
use Rattle.commands.specs.Steps.{fault_at, rule_kind, limit_kind, row_at}
use Rattle.commands.specs.Meanings.{ChecksText, Checks, room, MeansBy}
use Rattle.commands.specs.Does.{mean_does}
use Rattle.ccelf_build.specs.Contents.{Contents, StandsAt, IsAbsent, IsLong, AreAll, FirstStop, DidPut}
use Rattle.ccelf_build.specs.Told.{HasFault, HasBroken}
use Rattle.ccelf_build.specs.Sources.{IsTyped, units_after}
use Rattle.ccelf_build.specs.Meant.{TookTurns, CutAfter, IsAny, mean_told}
use Rattle.ccelf_build.proofs.Chains.{rest_failed}
use Rattle.ccelf_build.proofs.Listing.{stop_here, stop_later}
use Rattle.ccelf_build.proofs.Units.{Tells, FetchRow, fetch_row, fetch_same, fetch_stands, nothing_done}

-- what getting and checking one unit comes to, by its answer
abbrev CheckRow : Contents → List ℕ → Outside → Answer → Outside → Type 0
CheckRow files name old (answer.Missing which) new = (which ≡ name) × IsAbsent files name × DidPut files [] old new
CheckRow files name old (answer.LimitFile which) new = (which ≡ name) × IsLong files name × DidPut files [] old new
CheckRow files name old (answer.LimitText which) new = (which ≡ name) × HasFault files name syntax.Long × DidPut files [] old new
CheckRow files name old (answer.LimitDeep which at) new = (which ≡ name) × HasFault files name (syntax.Deep at) × DidPut files [] old new
CheckRow files name old (answer.Syntax which kind at) new = (which ≡ name) × HasFault files name (fault_at kind at) × DidPut files [] old new
CheckRow files name old (answer.Typing which broken at) new = (which ≡ name) × HasBroken files name (row_at (rule_kind broken) at) × DidPut files [] old new
CheckRow files name old (answer.LimitUnit which limit at) new = (which ≡ name) × HasBroken files name (row_at (limit_kind limit) at) × DidPut files [] old new
CheckRow files name old answer.ReadFault new = DidPut files [] old new
CheckRow files name old answer.Memory new = DidPut files [] old new
CheckRow files name old _ new = ⊥

module _ (files : Contents) (name : List ℕ) (old : Outside) (there : Tells files old) where
  from_fetch : (new : Outside) (e : Answer) → FetchRow files name old e new → CheckRow files name old e new
  from_fetch new (answer.Missing which) h = h
  from_fetch new (answer.LimitFile which) h = h
  from_fetch new answer.ReadFault h = h
  from_fetch new answer.Memory h = h
  from_fetch new _ h = absurd h

  from_check : (text : List ℕ) → StandsAt files name text → (new : Outside) (e : Answer) → ChecksText name text old (Err e) new → CheckRow files name old e new
  from_check text stands new (answer.LimitText which) h = (h.0.1, (text, stands, h.0.0), nothing_done files old new there h.1)
  from_check text stands new (answer.LimitDeep which at) h = (h.0.1, (text, stands, h.0.0), nothing_done files old new there h.1)
  from_check text stands new (answer.Syntax which kind at) h = (h.0.1, (text, stands, h.0.0), nothing_done files old new there h.1)
  from_check text stands new (answer.Typing which broken at) h = (h.0.1, (text, stands, h.0.0), nothing_done files old new there h.1)
  from_check text stands new (answer.LimitUnit which limit at) h = (h.0.1, (text, stands, h.0.0), nothing_done files old new there h.1)
  from_check text stands new answer.Memory h = nothing_done files old new there h.1
  from_check text stands new _ h = absurd h.0

  check_row : (new : Outside) (e : Answer) → Checks name old (Err e) new → CheckRow files name old e new
  check_row new e (inl h) = from_fetch new e (fetch_row files name old new e there h)
  check_row new e (inr h) =
      let P : Outside → Type 0 = λ from. ChecksText name h.value from (Err e) new in
      from_check h.value (fetch_stands files name h.value old h.between there h.went) new e (subst P (fetch_same name h.value old h.between h.went) h.goes_on)

  -- a unit that was checked
  check_same : (unit : TypedUnit) (new : Outside) → Checks name old (Ok unit) new → new ≡ old
  check_same unit new h = h.goes_on.1 ∙ fetch_same name h.value old h.between h.went

  check_typed : (unit : TypedUnit) (new : Outside) → Checks name old (Ok unit) new → IsTyped files name unit
  check_typed unit new h = record { text = h.value; stands = fetch_stands files name h.value old h.between there h.went; has = h.goes_on.0 }

-- and what checking all units comes to
abbrev ChecksRow : Contents → List (List ℕ) → Outside → Answer → Outside → Type 0
ChecksRow files names old (answer.Missing which) new = FirstStop (IsTyped files) names (λ name. (which ≡ name) × IsAbsent files name) × DidPut files [] old new
ChecksRow files names old (answer.LimitFile which) new = FirstStop (IsTyped files) names (λ name. (which ≡ name) × IsLong files name) × DidPut files [] old new
ChecksRow files names old (answer.LimitText which) new = FirstStop (IsTyped files) names (λ name. (which ≡ name) × HasFault files name syntax.Long) × DidPut files [] old new
ChecksRow files names old (answer.LimitDeep which at) new = FirstStop (IsTyped files) names (λ name. (which ≡ name) × HasFault files name (syntax.Deep at)) × DidPut files [] old new
ChecksRow files names old (answer.Syntax which kind at) new = FirstStop (IsTyped files) names (λ name. (which ≡ name) × HasFault files name (fault_at kind at)) × DidPut files [] old new
ChecksRow files names old (answer.Typing which broken at) new = FirstStop (IsTyped files) names (λ name. (which ≡ name) × HasBroken files name (row_at (rule_kind broken) at)) × DidPut files [] old new
ChecksRow files names old (answer.LimitUnit which limit at) new = FirstStop (IsTyped files) names (λ name. (which ≡ name) × HasBroken files name (row_at (limit_kind limit) at)) × DidPut files [] old new
ChecksRow files names old answer.ReadFault new = DidPut files [] old new
ChecksRow files names old answer.Memory new = DidPut files [] old new
ChecksRow files names old _ new = ⊥

module _ (files : Contents) (name : List ℕ) (names : List (List ℕ)) (old new : Outside) where
  from_first : (e : Answer) → CheckRow files name old e new → ChecksRow files (name ∷ names) old e new
  from_first (answer.Missing which) h = (stop_here (IsTyped files) _ name names (h.0, h.1), h.2)
  from_first (answer.LimitFile which) h = (stop_here (IsTyped files) _ name names (h.0, h.1), h.2)
  from_first (answer.LimitText which) h = (stop_here (IsTyped files) _ name names (h.0, h.1), h.2)
  from_first (answer.LimitDeep which at) h = (stop_here (IsTyped files) _ name names (h.0, h.1), h.2)
  from_first (answer.Syntax which kind at) h = (stop_here (IsTyped files) _ name names (h.0, h.1), h.2)
  from_first (answer.Typing which broken at) h = (stop_here (IsTyped files) _ name names (h.0, h.1), h.2)
  from_first (answer.LimitUnit which limit at) h = (stop_here (IsTyped files) _ name names (h.0, h.1), h.2)
  from_first answer.ReadFault h = h
  from_first answer.Memory h = h
  from_first _ h = absurd h

  from_later : (unit : TypedUnit) → IsTyped files name unit → (e : Answer) → ChecksRow files names old e new → ChecksRow files (name ∷ names) old e new
  from_later unit is (answer.Missing which) h = (stop_later (IsTyped files) _ name names unit is h.0, h.1)
  from_later unit is (answer.LimitFile which) h = (stop_later (IsTyped files) _ name names unit is h.0, h.1)
  from_later unit is (answer.LimitText which) h = (stop_later (IsTyped files) _ name names unit is h.0, h.1)
  from_later unit is (answer.LimitDeep which at) h = (stop_later (IsTyped files) _ name names unit is h.0, h.1)
  from_later unit is (answer.Syntax which kind at) h = (stop_later (IsTyped files) _ name names unit is h.0, h.1)
  from_later unit is (answer.Typing which broken at) h = (stop_later (IsTyped files) _ name names unit is h.0, h.1)
  from_later unit is (answer.LimitUnit which limit at) h = (stop_later (IsTyped files) _ name names unit is h.0, h.1)
  from_later unit is answer.ReadFault h = h
  from_later unit is answer.Memory h = h
  from_later unit is _ h = absurd h

-- all units were checked: they are typed, and nothing was done to the outside
record AreChecked (files : Contents) (names : List (List ℕ)) (units : List TypedUnit) (old new : Outside) : Type 0 where
  are : AreAll (IsTyped files) names units
  same : new ≡ old

module _ (files : Contents) (old : Outside) (there : Tells files old) where
  checks_row : (names : List (List ℕ)) (new : Outside) (e : Answer) → Each Checks names old (Err e) new → ChecksRow files names old e new
  checks_row [] new e h = let clash : ◌≡◌ {A = Result (List TypedUnit) Answer} (Err e) (Ok []) = h.0 in cc
  checks_row (name ∷ names) new e (inl h) = from_first files name names old new e (check_row files name old there new e h)
  checks_row (name ∷ names) new e (inr h) =
      let P : Outside → Type 0 = λ from. Each Checks names from (Err e) new in
      from_later files name names old new h.value (check_typed files name old there h.value h.between h.went) e
      (checks_row names new e (subst P (check_same files name old there h.value h.between h.went) (rest_failed Checks names h.value h.between new e h.goes_on)))

  none_checked : (units : List TypedUnit) (new : Outside) → ◌≡◌ {A = Result (List TypedUnit) Answer} (Ok units) (Ok []) → new ≡ old → AreChecked files [] units old new
  none_checked [] new e same = record { are = tt; same = same }
  none_checked (unit ∷ units) new e same = cc

  more_checked : (name : List ℕ) (names : List (List ℕ)) (unit : TypedUnit) (rest units : List TypedUnit) (new : Outside) → IsTyped files name unit → AreChecked files names rest old new → ◌≡◌ {A = Result (List TypedUnit) Answer} (Ok units) (Ok (unit ∷ rest)) → AreChecked files (name ∷ names) units old new
  more_checked name names unit rest units new is more e =
      let all : units ≡ unit ∷ rest = cc in
      let P : List TypedUnit → Type 0 = λ us. AreChecked files (name ∷ names) us old new in
      subst P (sym all) (record { are = (is, more.are); same = more.same })

  checks_done : (names : List (List ℕ)) (units : List TypedUnit) (new : Outside) → Each Checks names old (Ok units) new → AreChecked files names units old new
  checks_done [] units new h = none_checked units new h.0 h.1
  checks_done (name ∷ names) units new h =
      let rest = h.goes_on in
      let P : Outside → Type 0 = λ from. Each Checks names from (Ok rest.value) rest.between in
      let more = checks_done names rest.value rest.between (subst P (check_same files name old there h.value h.between h.went) rest.went) in
      let Q : Outside → Type 0 = λ last. AreChecked files names rest.value old last in
      more_checked name names h.value rest.value units new (check_typed files name old there h.value h.between h.went) (subst Q (sym rest.goes_on.1) more) rest.goes_on.0

-- the linked units were run
module _ (units : List TypedUnit) (turns : ℕ) (input : List ℕ) (old new : Outside) (known : old.input.told ≡ Some input) where
  acts_are : (n : ℕ) (acts : List Act) (how : Outcome) → units_after units input n ≡ record { outcome = how; acts = acts } → acts ≡ (units_after units input n).acts
  acts_are n acts how e = sym (ap (λ (s : State). s.acts) e)

  -- so many turns were taken, and since then what the outside tells is the same
  took : (n : ℕ) (how : Outcome) (i : SourceSeen) (o : SinkSeen) → StandsSo (source_after units room) n how old.input old.output i o → new.input.told ≡ i.told → new.output.told ≡ o.told → TookTurns units input n old new
  took n how i o s same_input same_output =
      let acts = acts_are n s.acts how (s.is input known) in
      record {
        emits = same_output ∙ ap (λ (x : SinkSeen). x.told) s.output ∙ ap (λ (xs : List Act). (grown old.output (emitted xs)).told) acts;
        takes =
            same_input ∙ ap (λ (x : SourceSeen). x.told) s.input ∙ ap (option_map (λ (rest : List ℕ). drop (taken s.acts) rest)) known
            ∙ ap (λ (xs : List Act). Some (drop (taken xs) input)) acts;
      }

  outcome_is : (n : ℕ) (how : Outcome) (i : SourceSeen) (o : SinkSeen) → StandsSo (source_after units room) n how old.input old.output i o → (units_after units input n).outcome ≡ how
  outcome_is n how i o s = ap (λ (x : State). x.outcome) (s.is input known)

  stands_so : (how : Outcome) → StandsSo (source_after units room) turns how old.input old.output new.input new.output → TookTurns units input turns old new × ((units_after units input turns).outcome ≡ how)
  stands_so how s = (took turns how new.input new.output s refl refl, outcome_is turns how new.input new.output s)

  read_failed : Comes (source_after units room) turns old.input old.output (Err fault.Read) new.input new.output → CutAfter units input turns IsAsking old new
  read_failed h = record {
    count = h.count;
    fewer = h.fewer;
    ran = took h.count outcome.Running h.source h.sink h.stands (ap (λ (x : SourceSeen). x.told) h.fault.1.others) (ap (λ (x : SinkSeen). x.told) h.fault.2);
    runs = outcome_is h.count outcome.Running h.source h.sink h.stands;
    next = h.fault.0 input known;
  }

  write_failed : Comes (source_after units room) turns old.input old.output (Err fault.Write) new.input new.output → CutAfter units input turns IsEmitting old new
  write_failed h = record {
    count = h.count;
    fewer = h.fewer;
    ran = took h.count outcome.Running h.source h.sink h.stands (ap (λ (x : SourceSeen). x.told) h.fault.2) (ap (λ (x : SinkSeen). x.told) h.fault.1.others);
    runs = outcome_is h.count outcome.Running h.source h.sink h.stands;
    next = h.fault.0 input known;
  }

module _ (turns : ℕ) (names : List (List ℕ)) (files : Contents) (input : List ℕ) (old : Outside) (there : Tells files old) (known : old.input.told ≡ Some input) where
  from_checks : (new : Outside) (e : Answer) → ChecksRow files names old e new → mean_told turns names files input old e new
  from_checks new (answer.Missing which) h = h
  from_checks new (answer.LimitFile which) h = h
  from_checks new (answer.LimitText which) h = h
  from_checks new (answer.LimitDeep which at) h = h
  from_checks new (answer.Syntax which kind at) h = h
  from_checks new (answer.Typing which broken at) h = h
  from_checks new (answer.LimitUnit which limit at) h = h
  from_checks new answer.ReadFault h = inl h
  from_checks new answer.Memory h = inl h
  from_checks new _ h = absurd h

  module _ (units : List TypedUnit) (are : AreAll (IsTyped files) names units) (new : Outside) where
    still_told : new.files ≡ old.files → new.files.told ≡ Some files
    still_told e = ap (λ (x : FilesSeen). x.told) e ∙ there

    not_run : new.files ≡ old.files → new.input ≡ old.input → new.output ≡ old.output → DidPut files [] old new
    not_run f i o = record { put = still_told f; input = i; output = o }

    wanted : {H : Type 0} → ((new.input ≡ old.input) × (new.output ≡ old.output)) ⊎ (Linkable (faces units) × Comes (source_after units room) turns old.input old.output (Err fault.Memory) new.input new.output × H) → new.files ≡ old.files → mean_told turns names files input old answer.Memory new
    wanted (inl h) f = inl (not_run f h.0 h.1)
    wanted (inr (fine, inl h, so)) f = inl (not_run f h.0 h.1)
    wanted (inr (fine, inr h, so)) f = inr (still_told f, (units, are, (fine, cut)))
      where
        output_same : (new.output ≡ h.sink) ⊎ (ComesNext IsEmitting (source_after units room) h.count old.input × SinkWanted h.sink new.output) → new.output.told ≡ h.sink.told
        output_same (inl e) = ap (λ (x : SinkSeen). x.told) e
        output_same (inr e) = ap (λ (x : SinkSeen). x.told) e.1.others

        cut : CutAfter units input turns IsAny old new
        cut = record {
          count = h.count;
          fewer = h.fewer;
          ran = took units turns input old new known h.count outcome.Running h.source h.sink h.stands (ap (λ (x : SourceSeen). x.told) h.fault.0) (output_same h.fault.1);
          runs = outcome_is units turns input old new known h.count outcome.Running h.source h.sink h.stands;
          next = tt;
        }

    from_means : (e : Answer) → MeansBy turns names units old e new → mean_told turns names files input old e new
    from_means (answer.Doubled name file) h = ((units, are, (h.0, h.1, h.2.0.0, h.3, h.4)), not_run h.2.1 h.2.0.1 h.2.0.2)
    from_means (answer.Unresolved name file) h = ((units, are, (h.0, h.1, h.2.0.0, h.3, h.4)), not_run h.2.1 h.2.0.1 h.2.0.2)
    from_means (answer.Sized name file stated defined) h = ((units, are, (h.0, h.1, h.2.0.0, h.3, h.4)), not_run h.2.1 h.2.0.1 h.2.0.2)
    from_means (answer.Ended status) h = (still_told h.1, (units, are, (h.0.0, stands_so units turns input old new known (outcome.Ended status) h.0.1)))
    from_means answer.Spent h = (still_told h.1, (units, are, (h.0.0, stands_so units turns input old new known outcome.Running h.0.1)))
    from_means (answer.Wrong turn) h =
        let s = stands_so units turns input old new known outcome.Wrong h.0.1.stands in (still_told h.1, (units, are, (h.0.0, (s.0, s.1, h.0.1.least input known))))
    from_means (answer.Deep turn) h =
        let s = stands_so units turns input old new known outcome.Deep h.0.1.stands in (still_told h.1, (units, are, (h.0.0, (s.0, s.1, h.0.1.least input known))))
    from_means answer.ReadFault h = inr (still_told h.1, (units, are, (h.0.0, read_failed units turns input old new known h.0.1)))
    from_means answer.WriteFault h = (still_told h.1, (units, are, (h.0.0, write_failed units turns input old new known h.0.1)))
    from_means answer.Memory h = wanted h.0 h.1
    from_means _ h = absurd h

  pub mean_row : (new : Outside) (e : Answer) → mean_does turns names old e new → mean_told turns names files input old e new
  mean_row new e (inl h) = from_checks new e (checks_row files old there names new e h)
  mean_row new e (inr h) =
      let checked = checks_done files old there names h.value h.between h.went in
      let P : Outside → Type 0 = λ from. MeansBy turns names h.value from e new in
      from_means h.value checked.are new e (subst P checked.same h.goes_on)
