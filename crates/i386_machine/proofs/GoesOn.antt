-- A run goes on by a step, and ends.
use Rattle.std.proofs.Common.{◌≡◌, ℕ, zero, suc, ◌+◌, ◌-◌, ◌<◌, List, [], ◌∷◌, ◌++◌, Option, Some, None, Ok, Err, option_map, slice_get, IfSome, drop, Bool, refl, sym, ◌∙◌, ap, subst, arith, append_assoc, append-nil}
use Rattle.std.proofs.lemmas.List.{drop-drop}
use Rattle.cc_base.specs.Seen.{SourceSeen, SinkSeen}
use Rattle.cc_base.specs.Outside.{grown, flushed_still, Nexts}
use Rattle.cc_base.specs.Runs.{emitted, taken}
use Rattle.cc_base.specs.declared.run.Act.{Act}
use Rattle.cc_base.specs.declared.run.Act.TheVariants as act
use Rattle.i386_machine.specs.declared.event.Event.{Event}
use Rattle.i386_machine.specs.declared.event.Event.TheVariants as event
use Rattle.i386_machine.specs.declared.event.Standing.{Standing}
use Rattle.i386_machine.specs.declared.event.Standing.TheVariants as standing
use Rattle.i386_machine.specs.declared.event.RunEnd.{RunEnd}
use Rattle.i386_machine.specs.declared.event.RunEnd.TheVariants as end
use Rattle.i386_machine.specs.Machine.{State}
use Rattle.i386_machine.specs.Step.{Doing, Goes, Asks, Gives, Ends, Sticks, doing, doing_at, Stepped, stepped, step}
use Rattle.i386_machine.specs.laws.Steps.{IsOver}
use Rattle.i386_machine.specs.Runs.{acts_of, left_after, after, Path, Ran, IsAsked, IsGiven, Runs}
use Rattle.i386_machine.specs.Turns.{Does, Turned, Turns}
use Rattle.i386_machine.proofs.SomeInput.{taken-append, some_input}

emitted-append : (xs ys : List Act) → emitted (xs ++ ys) ≡ emitted xs ++ emitted ys
emitted-append [] ys = refl
emitted-append (act.Took ∷ xs) ys = emitted-append xs ys
emitted-append (act.AtEnd ∷ xs) ys = emitted-append xs ys
emitted-append (act.Gave b ∷ xs) ys = ap (λ es. b ∷ es) (emitted-append xs ys)

-- what a step leaves of the input is the input without what it took
left_lacks : (e : Event) (xs : List ℕ) → left_after e xs ≡ drop (taken (acts_of e)) xs
left_lacks event.On xs = refl
left_lacks event.Took xs = refl
left_lacks event.AtEnd xs = refl
left_lacks (event.Gave b) xs = refl
left_lacks (event.Ended status) xs = refl
left_lacks (event.Stuck cause) xs = refl

-- what a run leaves of the input is the input without what it took
pub after_lacks : (m : State) (input : List ℕ) (n : ℕ) → (after m input n).left ≡ drop (taken (after m input n).acts) input
after_lacks m input zero = refl
after_lacks m input (suc n) =
    let run = after m input n in
    let e = (step run.machine (slice_get run.left 0)).event in
    left_lacks e run.left ∙ ap (drop (taken (acts_of e))) (after_lacks m input n) ∙ drop-drop (taken (acts_of e)) (taken run.acts) input ∙ ap (λ k. drop k input) (sym (taken-append run.acts (acts_of e)))

-- what a sink got in two parts
flushed-twice : (f : Bool) (xs ys : List ℕ) → flushed_still (flushed_still f xs) ys ≡ flushed_still f (xs ++ ys)
flushed-twice f [] ys = refl
flushed-twice f (x ∷ xs) [] = refl
flushed-twice f (x ∷ xs) (y ∷ ys) = refl

told-twice : (t : Option (List ℕ)) (xs ys : List ℕ) → option_map (λ got. got ++ ys) (option_map (λ got. got ++ xs) t) ≡ option_map (λ got. got ++ (xs ++ ys)) t
told-twice None xs ys = refl
told-twice (Some got) xs ys = ap (λ x. Some x) (append_assoc got xs ys)

grown-twice : (o : SinkSeen) (xs ys : List ℕ) → grown (grown o xs) ys ≡ grown o (xs ++ ys)
grown-twice o xs ys =
    ap (λ t. record o { told = t; flushed = flushed_still (flushed_still o.flushed xs) ys }) (told-twice o.told xs ys)
    ∙ ap (λ f. record o { told = option_map (λ got. got ++ (xs ++ ys)) o.told; flushed = f }) (flushed-twice o.flushed xs ys)

told-nil : (t : Option (List ℕ)) → t ≡ option_map (λ got. got ++ []) t
told-nil None = refl
told-nil (Some got) = ap (λ x. Some x) (sym (append-nil got))

grown-nil : (o : SinkSeen) → o ≡ grown o []
grown-nil o = ap (λ t. record o { told = t }) (told-nil o.told)

-- a source that lacks so many bytes
abbrev lacking : SourceSeen → ℕ → SourceSeen
lacking i k = record i { told = option_map (λ rest. drop k rest) i.told }

lacking_told-twice : (t : Option (List ℕ)) (j k : ℕ) → option_map (λ rest. drop k rest) (option_map (λ rest. drop j rest) t) ≡ option_map (λ rest. drop (j + k) rest) t
lacking_told-twice None j k = refl
lacking_told-twice (Some rest) j k = ap (λ x. Some x) (drop-drop k j rest)

lacking-twice : (i : SourceSeen) (j k : ℕ) → lacking (lacking i j) k ≡ lacking i (j + k)
lacking-twice i j k = ap (λ t. record i { told = t }) (lacking_told-twice i.told j k)

told-none : (t : Option (List ℕ)) → t ≡ option_map (λ rest. drop 0 rest) t
told-none None = refl
told-none (Some rest) = refl

lacking-none : (i : SourceSeen) → i ≡ lacking i 0
lacking-none i = ap (λ t. record i { told = t }) (told-none i.told)

-- what a step has done
record Effects (m : State) (i : SourceSeen) (o : SinkSeen) (m' : State) (i' : SourceSeen) (o' : SinkSeen) : Type 0 where
  next : Option ℕ
  leads : m' ≡ (step m next).after
  output : o' ≡ grown o (emitted (acts_of (step m next).event))
  input : i' ≡ lacking i (taken (acts_of (step m next).event))
  -- the byte that the outside had next is that of the input
  same : (rest : List ℕ) → i.told ≡ Some rest → step m next ≡ step m (slice_get rest 0)

-- of a byte that was taken
took_told : (b : ℕ) (t t' : Option (List ℕ)) → t ≡ option_map (λ rest. b ∷ rest) t' → t' ≡ option_map (λ rest. drop 1 rest) t
took_told b t None e = ap (option_map (λ rest. drop 1 rest)) (sym e)
took_told b t (Some rest) e = ap (option_map (λ rest. drop 1 rest)) (sym e)

took_first : (b : ℕ) (rest : List ℕ) (t' : Option (List ℕ)) → Some rest ≡ option_map (λ rest. b ∷ rest) t' → Some b ≡ slice_get rest 0
took_first b rest None e = cc
took_first b rest (Some more) e = let is : rest ≡ b ∷ more = cc in ap (λ xs. slice_get xs 0) (sym is)

step_does : (m : State) (d : Doing) (next : Option ℕ) → doing m ≡ d → step m next ≡ stepped d m next
step_does m d next is = ap (λ e. stepped e m next) is

-- a step that has no part in the outside
quiet : (m : State) (d : Doing) (e : Event) (i : SourceSeen) (o : SinkSeen) (m' : State) (i' : SourceSeen) (o' : SinkSeen) → doing m ≡ d → acts_of e ≡ [] → ((next : Option ℕ) → stepped d m next ≡ record { event = e; after = m' }) → i' ≡ i → o' ≡ o → Effects m i o m' i' o'
quiet m d e i o m' i' o' is none leads f k =
    let to : (next : Option ℕ) → step m next ≡ record { event = e; after = m' } = λ next. step_does m d next is ∙ leads next in
    let acts : acts_of (step m None).event ≡ [] = ap (λ (s : Stepped). acts_of s.event) (to None) ∙ none in
    record {
      next = None;
      leads = sym (ap (λ (s : Stepped). s.after) (to None));
      output = k ∙ grown-nil o ∙ ap (λ a. grown o (emitted a)) (sym acts);
      input = f ∙ lacking-none i ∙ ap (λ a. lacking i (taken a)) (sym acts);
      same = λ rest told. to None ∙ sym (to (slice_get rest 0));
    }

effects_of : (m : State) (d : Doing) (i : SourceSeen) (o : SinkSeen) (m' : State) (i' : SourceSeen) (o' : SinkSeen) → doing m ≡ d → Does d m i o m' i' o' → Effects m i o m' i' o'
effects_of m (Goes s) i o m' i' o' is h = quiet m (Goes s) event.On i o m' i' o' is refl (λ next. ap (λ (x : State). record { event = event.On; after = x }) (sym h.0)) h.1 h.2
effects_of m Asks i o m' i' o' is h = asked h.0 h.1 h.2 h.3
  where
    asked : (next : Option ℕ) → m' ≡ (stepped Asks m next).after → Nexts i (Ok next) i' → o' ≡ o → Effects m i o m' i' o'
    asked None leads nexts k =
        let to : step m None ≡ stepped Asks m None = step_does m Asks None is in
        record {
          next = None;
          leads = leads ∙ sym (ap (λ (s : Stepped). s.after) to);
          output = k ∙ grown-nil o ∙ ap (λ (s : Stepped). grown o (emitted (acts_of s.event))) (sym to);
          input = nexts.0 ∙ lacking-none i ∙ ap (λ (s : Stepped). lacking i (taken (acts_of s.event))) (sym to);
          same = λ rest told. let empty : rest ≡ [] = subst (λ (t : Option (List ℕ)). IfSome t (λ xs. xs ≡ [])) told nexts.1 in ap (λ xs. step m (slice_get xs 0)) (sym empty);
        }
    asked (Some b) leads took k =
        let to : step m (Some b) ≡ stepped Asks m (Some b) = step_does m Asks (Some b) is in
        record {
          next = Some b;
          leads = leads ∙ sym (ap (λ (s : Stepped). s.after) to);
          output = k ∙ grown-nil o ∙ ap (λ (s : Stepped). grown o (emitted (acts_of s.event))) (sym to);
          input = ap (λ (x : SourceSeen). record x { told = i'.told }) (sym took) ∙ ap (λ t. record i { told = t }) (took_told b i.told i'.told (ap (λ (x : SourceSeen). x.told) took)) ∙ ap (λ (s : Stepped). lacking i (taken (acts_of s.event))) (sym to);
          same = λ rest told. ap (step m) (took_first b rest i'.told (sym told ∙ ap (λ (x : SourceSeen). x.told) took));
        }
effects_of m (Gives b) i o m' i' o' is h =
    let to : (next : Option ℕ) → step m next ≡ stepped (Gives b) m None = λ next. step_does m (Gives b) next is in
    record {
      next = None;
      leads = h.0 ∙ sym (ap (λ (s : Stepped). s.after) (to None));
      output = h.2 ∙ ap (λ (s : Stepped). grown o (emitted (acts_of s.event))) (sym (to None));
      input = h.1 ∙ lacking-none i ∙ ap (λ (s : Stepped). lacking i (taken (acts_of s.event))) (sym (to None));
      same = λ rest told. to None ∙ sym (to (slice_get rest 0));
    }
effects_of m (Ends status) i o m' i' o' is h = quiet m (Ends status) (event.Ended status) i o m' i' o' is refl (λ next. ap (λ (x : State). record { event = event.Ended status; after = x }) (sym h.0)) h.1 h.2
effects_of m (Sticks cause) i o m' i' o' is h = quiet m (Sticks cause) (event.Stuck cause) i o m' i' o' is refl (λ next. ap (λ (x : State). record { event = event.Stuck cause; after = x }) (sym h.0)) h.1 h.2

-- no step was taken
pub begins : (m : State) (i : SourceSeen) (o : SinkSeen) → Ran m 0 i o m i o
begins m i o = record {
  acts = [];
  path = (refl, refl);
  acts_are = λ input told. refl;
  machine_is = λ input told. refl;
  some_input = some_input m 0 [] m (refl, refl);
  output = grown-nil o;
  input = lacking-none i;
}

-- one step more
pub goes_on : (m : State) (n : ℕ) (i : SourceSeen) (o : SinkSeen) (m' : State) (i' : SourceSeen) (o' : SinkSeen) (m'' : State) (i'' : SourceSeen) (o'' : SinkSeen) → Ran m n i o m' i' o' → Turned m' i' o' m'' i'' o'' → Ran m (suc n) i o m'' i'' o''
goes_on m n i o m' i' o' m'' i'' o'' r t =
    let e = effects_of m' t.what i' o' m'' i'' o'' t.is t.does in
    let s = step m' e.next in
    let there : (input : List ℕ) → i.told ≡ Some input → step (after m input n).machine (slice_get (after m input n).left 0) ≡ s = λ input told.
    let run = after m input n in
    let rest = drop (taken r.acts) input in
    let left : run.left ≡ rest = after_lacks m input n ∙ ap (λ (a : List Act). drop (taken a) input) (sym (r.acts_are input told)) in
    let tells : i'.told ≡ Some rest = ap (λ (x : SourceSeen). x.told) r.input ∙ ap (option_map (λ xs. drop (taken r.acts) xs)) told in
    ap (λ (x : State). step x (slice_get run.left 0)) (sym (r.machine_is input told)) ∙ ap (λ xs. step m' (slice_get xs 0)) left ∙ sym (e.same rest tells) in
    let path : Path m (suc n) (r.acts ++ acts_of s.event) m'' = record { acts_before = r.acts; from = m'; next = e.next; led = r.path; acts_are = refl; leads = e.leads } in
    record {
      acts = r.acts ++ acts_of s.event;
      path = path;
      some_input = some_input m (suc n) (r.acts ++ acts_of s.event) m'' path;
      acts_are = λ input told. ap (λ (a : List Act). a ++ acts_of s.event) (r.acts_are input told) ∙ ap (λ (x : Stepped). (after m input n).acts ++ acts_of x.event) (sym (there input told));
      machine_is = λ input told. e.leads ∙ ap (λ (x : Stepped). x.after) (sym (there input told));
      output = e.output ∙ ap (λ (x : SinkSeen). grown x (emitted (acts_of s.event))) r.output ∙ grown-twice o (emitted r.acts) (emitted (acts_of s.event)) ∙ ap (grown o) (sym (emitted-append r.acts (acts_of s.event)));
      input = e.input ∙ ap (λ (x : SourceSeen). lacking x (taken (acts_of s.event))) r.input ∙ lacking-twice i (taken r.acts) (taken (acts_of s.event)) ∙ ap (lacking i) (sym (taken-append r.acts (acts_of s.event)));
    }

-- a machine that is over takes a step that changes nothing
over_turn : (m : State) (s : Standing) (i : SourceSeen) (o : SinkSeen) → m.standing ≡ s → IsOver s → Turned m i o m i o
over_turn m standing.Running i o e h = absurd h
over_turn m (standing.Ended status) i o e h = record { what = Ends status; is = ap (λ (s : Standing). doing_at s m) e; does = (ap (λ (s : Standing). record m { standing = s }) e, refl, refl) }
over_turn m (standing.Stuck cause) i o e h = record { what = Sticks cause; is = ap (λ (s : Standing). doing_at s m) e; does = (ap (λ (s : Standing). record m { standing = s }) e, refl, refl) }

stays : (k : ℕ) (m : State) (n : ℕ) (i : SourceSeen) (o : SinkSeen) (m' : State) (i' : SourceSeen) (o' : SinkSeen) → IsOver m'.standing → Ran m n i o m' i' o' → (steps : ℕ) → steps ≡ n + k → Ran m steps i o m' i' o'
stays zero m n i o m' i' o' over r steps e = let is : n ≡ steps = omega arith in subst (λ x. Ran m x i o m' i' o') is r
stays (suc k) m n i o m' i' o' over r steps e = stays k m (suc n) i o m' i' o' over (goes_on m n i o m' i' o' m' i' o' r (over_turn m' m'.standing i' o' refl over)) steps (omega arith)

over_by : (s t : Standing) → s ≡ t → IsOver t → IsOver s
over_by s t e h = subst IsOver (sym e) h

-- a run ends with a step that is not taken, or after which the machine is over
pub ends : (m : State) (n steps : ℕ) (i : SourceSeen) (o : SinkSeen) (m' : State) (i' : SourceSeen) (o' : SinkSeen) (m'' : State) (i'' : SourceSeen) (o'' : SinkSeen) (e : RunEnd) → n < steps → Ran m n i o m' i' o' → Turns m' i' o' (Err e) m'' i'' o'' → Runs m steps i o e m'' i'' o''
ends m n steps i o m' i' o' m'' i'' o'' (end.Ended status) less r t =
    (stays (steps - suc n) m (suc n) i o m'' i'' o'' (over_by m''.standing (standing.Ended status) t.1 tt) (goes_on m n i o m' i' o' m'' i'' o'' r t.0) steps (omega arith), t.1)
ends m n steps i o m' i' o' m'' i'' o'' (end.Stuck eip cause) less r t =
    (stays (steps - suc n) m (suc n) i o m'' i'' o'' (over_by m''.standing (standing.Stuck cause) t.1.0 tt) (goes_on m n i o m' i' o' m'' i'' o'' r t.0) steps (omega arith), t.1.0, t.1.1)
ends m n steps i o m' i' o' m'' i'' o'' end.Spent less r t = absurd t
ends m n steps i o m' i' o' m'' i'' o'' end.Read less r t = record {
  count = n;
  fewer = less;
  input = i';
  output = o';
  ran = subst (λ (x : State). Ran m n i o x i' o') (sym t.0.same) r;
  next = subst (λ (x : State). IsAsked (doing x)) (sym t.0.same) t.0.next;
  fault = (t.1, t.2);
}
ends m n steps i o m' i' o' m'' i'' o'' end.Write less r t = record {
  count = n;
  fewer = less;
  input = i';
  output = o';
  ran = subst (λ (x : State). Ran m n i o x i' o') (sym t.0.same) r;
  next = subst (λ (x : State). IsGiven (doing x)) (sym t.0.same) t.0.next;
  fault = (t.1, t.2);
}
ends m n steps i o m' i' o' m'' i'' o'' end.Memory less r t = record {
  count = n;
  fewer = less;
  input = i';
  output = o';
  ran = subst (λ (x : State). Ran m n i o x i' o') (sym t.0.same) r;
  next = subst (λ (x : State). IsGiven (doing x)) (sym t.0.same) t.0.next;
  fault = (t.1, t.2);
}
