-- A unit that is got, compiled and put, and units one after the other, where the files tell their bytes.
use Rattle.std.proofs.Common.{◌≡◌, ◌⊎◌, ◌<◌, ◌∷◌, ◌++◌, [], ℕ, List, Option, Some, None, IfSome, option_map, length, Result, Ok, Err, refl, inl, inr, ap, ◌∙◌, sym, subst}
use Rattle.std.specs.FinMap.{get, insert}
use Rattle.cc_base.specs.Seen.{FilesSeen}
use Rattle.cc_base.specs.Outside.{file_limit}
use Rattle.commands.specs.declared.answer.Answer.{Answer}
use Rattle.commands.specs.declared.answer.Answer.TheVariants as answer
use Rattle.commands.specs.Doing.{Outside, AndThen}
use Rattle.text_grammar.specs.declared.fault.SyntaxFault.TheVariants as syntax
use Rattle.commands.specs.Steps.{Fetches, Stores, Compiles, Keeps, CompilesTo, fault_at, rule_kind, limit_kind, row_at}
use Rattle.ccelf_build.specs.Contents.{Contents, StandsAt, IsAbsent, IsLong, NamedBytes, put_all, DidPut}
use Rattle.ccelf_build.specs.Told.{Compiled, IsCompiled, HasNoUnit, HasFault, HasBroken}

-- what is told of files that tell their bytes
pub told_at : (P : Contents → Type 0) (t : Option Contents) (files : Contents) → t ≡ Some files → IfSome t P → P files
told_at P t files e h = subst (λ (x : Option Contents). IfSome x P) e h

abbrev pub Tells : Contents → Outside → Type 0
Tells files old = old.files.told ≡ Some files

pub none_put : (files : Contents) (old new : Outside) → Tells files old → new.files.told ≡ old.files.told → new ≡ record old { files = new.files } → DidPut files [] old new
none_put files old new there same e = record { put = same ∙ there; input = ap (λ (x : Outside). x.input) e; output = ap (λ (x : Outside). x.output) e }

pub nothing_done : (files : Contents) (old new : Outside) → Tells files old → new ≡ old → DidPut files [] old new
nothing_done files old new there e = record { put = ap (λ (x : Outside). x.files.told) e ∙ there; input = ap (λ (x : Outside). x.input) e; output = ap (λ (x : Outside). x.output) e }

pub put_one : (files : Contents) (name bytes : List ℕ) (old new : Outside) → Tells files old → Stores name bytes old (Ok tt) new → DidPut files (record { name = name; bytes = bytes } ∷ []) old new
put_one files name bytes old new there h = record {
  put = ap (λ (x : FilesSeen). x.told) h.0 ∙ ap (option_map (λ (m : Contents). insert m name bytes)) there;
  input = ap (λ (x : Outside). x.input) h.1;
  output = ap (λ (x : Outside). x.output) h.1;
}

-- puts, and then others
pub put_more : (files : Contents) (ps qs : List NamedBytes) (a b c : Outside) → DidPut files ps a b → DidPut (put_all ps files) qs b c → DidPut files (ps ++ qs) a c
put_more files ps qs a b c p q = record { put = q.put ∙ ap (λ (m : Contents). Some m) (two_puts ps qs files); input = q.input ∙ p.input; output = q.output ∙ p.output }
  where
    two_puts : (ps qs : List NamedBytes) (files : Contents) → put_all qs (put_all ps files) ≡ put_all (ps ++ qs) files
    two_puts [] qs files = refl
    two_puts (p ∷ ps) qs files = two_puts ps qs (insert files p.name p.bytes)

-- a file is got, or there is a reason
abbrev pub FetchRow : Contents → List ℕ → Outside → Answer → Outside → Type 0
FetchRow files name old (answer.Missing which) new = (which ≡ name) × IsAbsent files name × DidPut files [] old new
FetchRow files name old (answer.LimitFile which) new = (which ≡ name) × IsLong files name × DidPut files [] old new
FetchRow files name old answer.ReadFault new = DidPut files [] old new
FetchRow files name old answer.Memory new = DidPut files [] old new
FetchRow files name old _ new = ⊥

pub fetch_row : (files : Contents) (name : List ℕ) (old new : Outside) (e : Answer) → Tells files old → Fetches name old (Err e) new → FetchRow files name old e new
fetch_row files name old new (answer.Missing which) there h =
    (h.0.1, told_at (λ m. get m name ≡ None) old.files.told files there h.0.0.told, none_put files old new there (ap (λ (x : FilesSeen). x.told) h.0.0.others) h.1)
fetch_row files name old new (answer.LimitFile which) there h =
    (h.0.1, told_at (λ m. (bytes : List ℕ) × (get m name ≡ Some bytes) × (file_limit < length bytes)) old.files.told files there h.0.0.told, none_put files old new there (ap (λ (x : FilesSeen). x.told) h.0.0.others) h.1)
fetch_row files name old new answer.ReadFault there h = none_put files old new there (ap (λ (x : FilesSeen). x.told) h.0.others) h.1
fetch_row files name old new answer.Memory there h = none_put files old new there (ap (λ (x : FilesSeen). x.told) h.0) h.1
fetch_row files name old new _ there h = absurd h.0

pub fetch_same : (name bytes : List ℕ) (old new : Outside) → Fetches name old (Ok bytes) new → new ≡ old
fetch_same name bytes old new h = h.1 ∙ ap (λ x. record old { files = x }) h.0.same

pub fetch_stands : (files : Contents) (name bytes : List ℕ) (old new : Outside) → Tells files old → Fetches name old (Ok bytes) new → StandsAt files name bytes
fetch_stands files name bytes old new there h = record { there = told_at (λ m. get m name ≡ Some bytes) old.files.told files there h.0.told; short = h.0.short }

-- the put of a unit's object
abbrev pub put_of : List ℕ → Compiled → NamedBytes
put_of name made = record { name = name; bytes = made.object }

-- what compiling one unit comes to, by its answer
abbrev pub UnitRow : Contents → List ℕ → List ℕ → Outside → Answer → Outside → Type 0
UnitRow files unit name old (answer.Missing which) new = (which ≡ unit) × IsAbsent files unit × DidPut files [] old new
UnitRow files unit name old (answer.LimitFile which) new = (which ≡ unit) × IsLong files unit × DidPut files [] old new
UnitRow files unit name old (answer.LimitText which) new = (which ≡ unit) × HasFault files unit syntax.Long × DidPut files [] old new
UnitRow files unit name old (answer.LimitDeep which at) new = (which ≡ unit) × HasFault files unit (syntax.Deep at) × DidPut files [] old new
UnitRow files unit name old (answer.Syntax which kind at) new = (which ≡ unit) × HasFault files unit (fault_at kind at) × DidPut files [] old new
UnitRow files unit name old (answer.Typing which broken at) new = (which ≡ unit) × HasBroken files unit (row_at (rule_kind broken) at) × DidPut files [] old new
UnitRow files unit name old (answer.LimitUnit which limit at) new = (which ≡ unit) × HasBroken files unit (row_at (limit_kind limit) at) × DidPut files [] old new
UnitRow files unit name old (answer.LimitForm which) new = (which ≡ unit) × HasNoUnit files unit × DidPut files [] old new
UnitRow files unit name old answer.ReadFault new = DidPut files [] old new
UnitRow files unit name old answer.WriteFault new = DidPut files [] old new
UnitRow files unit name old answer.Memory new = DidPut files [] old new ⊎ ((made : Compiled) × IsCompiled files unit made × DidPut files (put_of name made ∷ []) old new)
UnitRow files unit name old _ new = ⊥

module _ (files : Contents) (unit name : List ℕ) (old : Outside) (there : Tells files old) where
  from_fetch : (new : Outside) (e : Answer) → FetchRow files unit old e new → UnitRow files unit name old e new
  from_fetch new (answer.Missing which) h = h
  from_fetch new (answer.LimitFile which) h = h
  from_fetch new answer.ReadFault h = h
  from_fetch new answer.Memory h = inl h
  from_fetch new _ h = absurd h

  module _ (text : List ℕ) (stands : StandsAt files unit text) where
    from_compile : (new : Outside) (e : Answer) → Compiles unit text old (Err e) new → UnitRow files unit name old e new
    from_compile new (answer.LimitText which) h = (h.0.1, (text, stands, h.0.0), nothing_done files old new there h.1)
    from_compile new (answer.LimitDeep which at) h = (h.0.1, (text, stands, h.0.0), nothing_done files old new there h.1)
    from_compile new (answer.Syntax which kind at) h = (h.0.1, (text, stands, h.0.0), nothing_done files old new there h.1)
    from_compile new (answer.Typing which broken at) h = (h.0.1, (text, stands, h.0.0), nothing_done files old new there h.1)
    from_compile new (answer.LimitUnit which limit at) h = (h.0.1, (text, stands, h.0.0), nothing_done files old new there h.1)
    from_compile new (answer.LimitForm which) h = (h.0.1, (text, stands, h.0.0), nothing_done files old new there h.1)
    from_compile new answer.Memory h = inl (nothing_done files old new there h.1)
    from_compile new _ h = absurd h.0

    module _ (made : Compiled) (is : IsCompiled files unit made) where
      from_store : (new : Outside) (e : Answer) → Stores name made.object old (Err e) new → UnitRow files unit name old e new
      from_store new answer.WriteFault h = none_put files old new there (ap (λ (x : FilesSeen). x.told) h.0.others) h.1
      from_store new answer.Memory h = inl (none_put files old new there (ap (λ (x : FilesSeen). x.told) h.0) h.1)
      from_store new _ h = absurd h.0

      from_keep : (mid new : Outside) (e : Answer) → Stores name made.object old (Ok tt) mid → Keeps made.object mid (Err e) new → UnitRow files unit name old e new
      from_keep mid new e h (inl k, same) = let clash : ◌≡◌ {A = Result (List ℕ) Answer} (Err e) (Ok made.object) = k in cc
      from_keep mid new e h (inr k, same) =
          let P : Answer → Type 0 = λ a. UnitRow files unit name old a new in
          let Q : Outside → Type 0 = λ end. DidPut files (put_of name made ∷ []) old end in
          let is_memory : e ≡ answer.Memory = (let l : ◌≡◌ {A = Result (List ℕ) Answer} (Err e) (Err answer.Memory) = k in cc) in
          subst P (sym is_memory) (inr (made, is, subst Q (sym same) (put_one files name made.object old mid there h)))

      after_compile : (new : Outside) (e : Answer) → AndThen (Stores name made.object) (λ _. Keeps made.object) old (Err e) new → UnitRow files unit name old e new
      after_compile new e (inl h) = from_store new e h
      after_compile new e (inr h) = from_keep h.between new e h.went h.goes_on

    -- the text's items and its object
    abbrev made_of : (object : List ℕ) (mid : Outside) → Compiles unit text old (Ok object) mid → (made : Compiled) × IsCompiled files unit made × (object ≡ made.object)
    made_of object mid h = (record { items = h.0.items; object = object }, record { text = text; stands = stands; form = h.0.form; written = h.0.written }, refl)

    after_fetch : (new : Outside) (e : Answer) → AndThen (Compiles unit text) (λ object. AndThen (Stores name object) (λ _. Keeps object)) old (Err e) new → UnitRow files unit name old e new
    after_fetch new e (inl h) = from_compile new e h
    after_fetch new e (inr h) =
        let m = made_of h.value h.between h.went in
        let P : Outside → Type 0 = λ from. AndThen (Stores name h.value) (λ _. Keeps h.value) from (Err e) new in
        after_compile m.0 m.1 new e (subst P h.went.1 h.goes_on)

  pub unit_row : (new : Outside) (e : Answer) → CompilesTo unit name old (Err e) new → UnitRow files unit name old e new
  unit_row new e (inl h) = from_fetch new e (fetch_row files unit old new e there h)
  unit_row new e (inr h) =
      let P : Outside → Type 0 = λ from. AndThen (Compiles unit h.value) (λ object. AndThen (Stores name object) (λ _. Keeps object)) from (Err e) new in
      after_fetch h.value (fetch_stands files unit h.value old h.between there h.went) new e (subst P (fetch_same unit h.value old h.between h.went) h.goes_on)

  kept_value : (object value : List ℕ) → (◌≡◌ {A = Result (List ℕ) Answer} (Ok object) (Ok value)) ⊎ (◌≡◌ {A = Result (List ℕ) Answer} (Ok object) (Err answer.Memory)) → object ≡ value
  kept_value object value (inl e) = cc
  kept_value object value (inr e) = let clash : ◌≡◌ {A = Result (List ℕ) Answer} (Ok object) (Err answer.Memory) = e in cc

  -- a unit that was compiled and put
  pub unit_done : (object : List ℕ) (new : Outside) → CompilesTo unit name old (Ok object) new → (made : Compiled) × IsCompiled files unit made × (object ≡ made.object) × DidPut files (put_of name made ∷ []) old new
  unit_done object new h =
      let same = fetch_same unit h.value old h.between h.went in
      let a = h.goes_on in let b = a.goes_on in
      let stands = fetch_stands files unit h.value old h.between there h.went in
      let made : Compiled = record { items = a.went.0.items; object = a.value } in
      let is : IsCompiled files unit made = record { text = h.value; stands = stands; form = a.went.0.form; written = a.went.0.written } in
      let P : Outside → Type 0 = λ from. Stores name a.value from (Ok tt) b.between in
      let Q : Outside → Type 0 = λ end. DidPut files (put_of name made ∷ []) old end in
      (made, is, kept_value object a.value b.goes_on.0, subst Q (sym b.goes_on.1) (put_one files name a.value old b.between there (subst P (a.went.1 ∙ same) b.went)))
