-- Units that are got, compiled and put one after the other, where the files tell their bytes.
use Rattle.std.proofs.Common.{◌≡◌, ◌∷◌, ◌++◌, [], ℕ, List, map, Result, Ok, Err, refl, inl, inr, ap, ◌∙◌, sym, subst}
use Rattle.std.specs.FinMap.{get, insert}
use Rattle.command_words.specs.Commands.{object_name}
use Rattle.commands.specs.declared.answer.Answer.{Answer}
use Rattle.commands.specs.declared.answer.Answer.TheVariants as answer
use Rattle.commands.specs.Doing.{Outside, Step, Each}
use Rattle.text_grammar.specs.declared.fault.SyntaxFault.{SyntaxFault}
use Rattle.typing_faults.specs.declared.fault.Row.{Row}
use Rattle.text_grammar.specs.declared.fault.SyntaxFault.TheVariants as syntax
use Rattle.commands.specs.Steps.{CompilesTo, fault_at, rule_kind, limit_kind, row_at}
use Rattle.ccelf_build.specs.Contents.{Contents, IsAbsent, IsLong, AreAll, FirstStop, NamedBytes, DidPut}
use Rattle.ccelf_build.specs.Told.{Compiled, IsCompiled, HasNoUnit, HasFault, HasBroken, objects_of, items_of}
use Rattle.ccelf_build.proofs.Made.{AreMadeOf}
use Rattle.ccelf_build.proofs.Chains.{rest_failed}
use Rattle.ccelf_build.proofs.Listing.{stop_here, stop_later}
use Rattle.ccelf_build.proofs.Names.{Lacks, Apart, get-other}
use Rattle.ccelf_build.proofs.Units.{Tells, put_of, UnitRow, unit_row, unit_done, put_more}

-- the objects of compiled units
abbrev pub files_of : List Compiled → List (List ℕ)
files_of all = map (λ (made : Compiled). made.object) all

abbrev pub compiles : List ℕ → Step (List ℕ)
compiles unit = CompilesTo unit (object_name unit)

-- under each of these names stands what stood there before
abbrev AllSame : Contents → Contents → List (List ℕ) → Type 0
AllSame files now [] = Unit {0}
AllSame files now (unit ∷ units) = (get now unit ≡ get files unit) × AllSame files now units

same_after : (files now : Contents) (name bytes : List ℕ) (units : List (List ℕ)) → Lacks name units → AllSame files now units → AllSame files (insert now name bytes) units
same_after files now name bytes [] l s = tt
same_after files now name bytes (unit ∷ units) l s = (get-other now name bytes unit l.0 ∙ s.0, same_after files now name bytes units l.1 s.1)

pub same_first : (files : Contents) (units : List (List ℕ)) → AllSame files files units
same_first files [] = tt
same_first files (unit ∷ units) = (refl, same_first files units)

-- some of the units, the first ones, were compiled and put
pub record PutFirst (files now : Contents) (units : List (List ℕ)) (old new : Outside) : Type 0 where
  pub done : List (List ℕ)
  pub left : List (List ℕ)
  pub order : units ≡ done ++ left
  pub all : List Compiled
  pub are : AreAll (IsCompiled files) done all
  pub put : DidPut now (objects_of done all) old new

-- what compiling units comes to, by the answer. The files are as at first, and now as they are before these units
abbrev pub UnitsRow : Contents → Contents → List (List ℕ) → Outside → Answer → Outside → Type 0
UnitsRow files now units old (answer.Missing which) new = (first : FirstStop (IsCompiled files) units (λ unit. (which ≡ unit) × IsAbsent files unit)) × DidPut now (objects_of first.done first.all) old new
UnitsRow files now units old (answer.LimitFile which) new = (first : FirstStop (IsCompiled files) units (λ unit. (which ≡ unit) × IsLong files unit)) × DidPut now (objects_of first.done first.all) old new
UnitsRow files now units old (answer.LimitText which) new = (first : FirstStop (IsCompiled files) units (λ unit. (which ≡ unit) × HasFault files unit syntax.Long)) × DidPut now (objects_of first.done first.all) old new
UnitsRow files now units old (answer.LimitDeep which at) new = (first : FirstStop (IsCompiled files) units (λ unit. (which ≡ unit) × HasFault files unit (syntax.Deep at))) × DidPut now (objects_of first.done first.all) old new
UnitsRow files now units old (answer.Syntax which kind at) new = (first : FirstStop (IsCompiled files) units (λ unit. (which ≡ unit) × HasFault files unit (fault_at kind at))) × DidPut now (objects_of first.done first.all) old new
UnitsRow files now units old (answer.Typing which broken at) new = (first : FirstStop (IsCompiled files) units (λ unit. (which ≡ unit) × HasBroken files unit (row_at (rule_kind broken) at))) × DidPut now (objects_of first.done first.all) old new
UnitsRow files now units old (answer.LimitUnit which limit at) new = (first : FirstStop (IsCompiled files) units (λ unit. (which ≡ unit) × HasBroken files unit (row_at (limit_kind limit) at))) × DidPut now (objects_of first.done first.all) old new
UnitsRow files now units old (answer.LimitForm which) new = (first : FirstStop (IsCompiled files) units (λ unit. (which ≡ unit) × HasNoUnit files unit)) × DidPut now (objects_of first.done first.all) old new
UnitsRow files now units old answer.ReadFault new = PutFirst files now units old new
UnitsRow files now units old answer.WriteFault new = PutFirst files now units old new
UnitsRow files now units old answer.Memory new = PutFirst files now units old new
UnitsRow files now units old _ new = ⊥

-- all units were compiled and put
pub record UnitsDone (files now : Contents) (units : List (List ℕ)) (old : Outside) (objects : List (List ℕ)) (new : Outside) : Type 0 where
  pub all : List Compiled
  pub are : AreAll (IsCompiled files) units all
  pub objects_are : objects ≡ files_of all
  pub put : DidPut now (objects_of units all) old new

module _ (files : Contents) where
  as_there : (now : Contents) (unit : List ℕ) (made : Compiled) → get now unit ≡ get files unit → IsCompiled now unit made → IsCompiled files unit made
  as_there now unit made same is = record { text = is.text; stands = record { there = sym same ∙ is.stands.there; short = is.stands.short }; form = is.form; written = is.written }

  long_there : (now : Contents) (unit : List ℕ) → get now unit ≡ get files unit → IsLong now unit → IsLong files unit
  long_there now unit same h = (h.0, sym same ∙ h.1, h.2)

  none_there : (now : Contents) (unit : List ℕ) → get now unit ≡ get files unit → HasNoUnit now unit → HasNoUnit files unit
  none_there now unit same h = (h.0, record { there = sym same ∙ h.1.there; short = h.1.short }, h.2)

  fault_there : (now : Contents) (unit : List ℕ) (fault : SyntaxFault) → get now unit ≡ get files unit → HasFault now unit fault → HasFault files unit fault
  fault_there now unit fault same h = (h.0, record { there = sym same ∙ h.1.there; short = h.1.short }, h.2)

  broken_there : (now : Contents) (unit : List ℕ) (broken : Row) → get now unit ≡ get files unit → HasBroken now unit broken → HasBroken files unit broken
  broken_there now unit broken same h = (h.0, record { there = sym same ∙ h.1.there; short = h.1.short }, h.2)

  module _ (now : Contents) (unit : List ℕ) (units : List (List ℕ)) (old new : Outside) (same : get now unit ≡ get files unit) where
    nothing_put : DidPut now [] old new → PutFirst files now (unit ∷ units) old new
    nothing_put d = record { done = []; left = unit ∷ units; order = refl; all = []; are = tt; put = d }

    from_unit : (e : Answer) → UnitRow now unit (object_name unit) old e new → UnitsRow files now (unit ∷ units) old e new
    from_unit (answer.Missing which) h = (stop_here (IsCompiled files) _ unit units (h.0, sym same ∙ h.1), h.2)
    from_unit (answer.LimitFile which) h = (stop_here (IsCompiled files) _ unit units (h.0, long_there now unit same h.1), h.2)
    from_unit (answer.LimitText which) h = (stop_here (IsCompiled files) _ unit units (h.0, fault_there now unit syntax.Long same h.1), h.2)
    from_unit (answer.LimitDeep which at) h = (stop_here (IsCompiled files) _ unit units (h.0, fault_there now unit (syntax.Deep at) same h.1), h.2)
    from_unit (answer.Syntax which kind at) h = (stop_here (IsCompiled files) _ unit units (h.0, fault_there now unit (fault_at kind at) same h.1), h.2)
    from_unit (answer.Typing which broken at) h = (stop_here (IsCompiled files) _ unit units (h.0, broken_there now unit (row_at (rule_kind broken) at) same h.1), h.2)
    from_unit (answer.LimitUnit which limit at) h = (stop_here (IsCompiled files) _ unit units (h.0, broken_there now unit (row_at (limit_kind limit) at) same h.1), h.2)
    from_unit (answer.LimitForm which) h = (stop_here (IsCompiled files) _ unit units (h.0, none_there now unit same h.1), h.2)
    from_unit answer.ReadFault h = nothing_put h
    from_unit answer.WriteFault h = nothing_put h
    from_unit answer.Memory (inl h) = nothing_put h
    from_unit answer.Memory (inr h) = record { done = unit ∷ []; left = units; order = refl; all = h.0 ∷ []; are = (as_there now unit h.0 same h.1, tt); put = h.2 }
    from_unit _ h = absurd h

    module _ (mid : Outside) (made : Compiled) (is : IsCompiled now unit made) (put : DidPut now (put_of (object_name unit) made ∷ []) old mid) where
      abbrev next : Contents
      next = insert now (object_name unit) made.object

      more : (puts : List NamedBytes) → DidPut next puts mid new → DidPut now (put_of (object_name unit) made ∷ puts) old new
      more puts d = put_more now (put_of (object_name unit) made ∷ []) puts old mid new put d

      one_more : PutFirst files next units mid new → PutFirst files now (unit ∷ units) old new
      one_more p = record {
        done = unit ∷ p.done;
        left = p.left;
        order = ap (λ (us : List (List ℕ)). unit ∷ us) p.order;
        all = made ∷ p.all;
        are = (as_there now unit made same is, p.are);
        put = more (objects_of p.done p.all) p.put;
      }

      pub from_later : (e : Answer) → UnitsRow files next units mid e new → UnitsRow files now (unit ∷ units) old e new
      from_later (answer.Missing which) h = (stop_later (IsCompiled files) _ unit units made (as_there now unit made same is) h.0, more (objects_of h.0.done h.0.all) h.1)
      from_later (answer.LimitFile which) h = (stop_later (IsCompiled files) _ unit units made (as_there now unit made same is) h.0, more (objects_of h.0.done h.0.all) h.1)
      from_later (answer.LimitText which) h = (stop_later (IsCompiled files) _ unit units made (as_there now unit made same is) h.0, more (objects_of h.0.done h.0.all) h.1)
      from_later (answer.LimitDeep which at) h = (stop_later (IsCompiled files) _ unit units made (as_there now unit made same is) h.0, more (objects_of h.0.done h.0.all) h.1)
      from_later (answer.Syntax which kind at) h = (stop_later (IsCompiled files) _ unit units made (as_there now unit made same is) h.0, more (objects_of h.0.done h.0.all) h.1)
      from_later (answer.Typing which broken at) h = (stop_later (IsCompiled files) _ unit units made (as_there now unit made same is) h.0, more (objects_of h.0.done h.0.all) h.1)
      from_later (answer.LimitUnit which limit at) h = (stop_later (IsCompiled files) _ unit units made (as_there now unit made same is) h.0, more (objects_of h.0.done h.0.all) h.1)
      from_later (answer.LimitForm which) h = (stop_later (IsCompiled files) _ unit units made (as_there now unit made same is) h.0, more (objects_of h.0.done h.0.all) h.1)
      from_later answer.ReadFault h = one_more h
      from_later answer.WriteFault h = one_more h
      from_later answer.Memory h = one_more h
      from_later _ h = absurd h

      pub done_later : (objects : List (List ℕ)) → UnitsDone files next units mid objects new → UnitsDone files now (unit ∷ units) old (made.object ∷ objects) new
      done_later objects d = record {
        all = made ∷ d.all;
        are = (as_there now unit made same is, d.are);
        objects_are = ap (λ (os : List (List ℕ)). made.object ∷ os) d.objects_are;
        put = more (objects_of units d.all) d.put;
      }

  pub units_row : (units : List (List ℕ)) (now : Contents) (old : Outside) → Tells now old → AllSame files now units → Apart units → (new : Outside) (e : Answer) → Each compiles units old (Err e) new → UnitsRow files now units old e new
  units_row [] now old there same apart new e h = let clash : ◌≡◌ {A = Result (List (List ℕ)) Answer} (Err e) (Ok []) = h.0 in cc
  units_row (unit ∷ units) now old there same apart new e (inl h) = from_unit now unit units old new same.0 e (unit_row now unit (object_name unit) old there new e h)
  units_row (unit ∷ units) now old there same apart new e (inr h) =
      let d = unit_done now unit (object_name unit) old there h.value h.between h.went in
      from_later now unit units old new same.0 h.between d.0 d.1 d.3 e
      (units_row units (insert now (object_name unit) d.0.object) h.between d.3.put (same_after files now (object_name unit) d.0.object units apart.0 same.1) apart.1 new e
      (rest_failed compiles units h.value h.between new e h.goes_on))

  pub units_done : (units : List (List ℕ)) (now : Contents) (old : Outside) → Tells now old → AllSame files now units → Apart units → (objects : List (List ℕ)) (new : Outside) → Each compiles units old (Ok objects) new → UnitsDone files now units old objects new
  units_done [] now old there same apart objects new h =
      let none : objects ≡ [] = (let e : ◌≡◌ {A = Result (List (List ℕ)) Answer} (Ok objects) (Ok []) = h.0 in cc) in
      record { all = []; are = tt; objects_are = none; put = record { put = ap (λ (x : Outside). x.files.told) h.1 ∙ there; input = ap (λ (x : Outside). x.input) h.1; output = ap (λ (x : Outside). x.output) h.1 } }
  units_done (unit ∷ units) now old there same apart objects new h =
      let d = unit_done now unit (object_name unit) old there h.value h.between h.went in
      let rest = h.goes_on in
      let more = units_done units (insert now (object_name unit) d.0.object) h.between d.3.put (same_after files now (object_name unit) d.0.object units apart.0 same.1) apart.1 rest.value rest.between rest.went in
      let all : objects ≡ d.0.object ∷ rest.value = (let e : ◌≡◌ {A = Result (List (List ℕ)) Answer} (Ok objects) (Ok (h.value ∷ rest.value)) = rest.goes_on.0 in let f = d.2 in cc) in
      let P : List (List ℕ) → Type 0 = λ os. UnitsDone files now (unit ∷ units) old os new in
      let Q : Outside → Type 0 = λ end. UnitsDone files now (unit ∷ units) old (d.0.object ∷ rest.value) end in
      subst P (sym all) (subst Q (sym rest.goes_on.1) (done_later now unit units old rest.between same.0 h.between d.0 d.1 d.3 rest.value more))

-- compiled units are objects of units
pub made_all : (files : Contents) (units : List (List ℕ)) (all : List Compiled) → AreAll (IsCompiled files) units all → AreMadeOf (items_of all) (files_of all)
made_all files [] [] h = tt
made_all files [] (made ∷ all) h = absurd h
made_all files (unit ∷ units) [] h = absurd h
made_all files (unit ∷ units) (made ∷ all) h = (record { text = h.0.text; form = h.0.form; written = h.0.written }, made_all files units all h.1)
