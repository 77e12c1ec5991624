-- A run goes on by a turn, and ends.
use Rattle.std.proofs.Common.{◌≡◌, ℕ, suc, ◌+◌, ◌<◌, ◌≤◌, ◌⊎◌, inl, inr, List, [], ◌∷◌, ◌++◌, Option, Some, None, Ok, Err, option_map, drop, refl, sym, ◌∙◌, ap, subst, arith, append-nil, add-one}
use Rattle.std.proofs.Math.Nat.{eq-or-lt_of_le}
use Rattle.std.specs.Prelude.{IfSome}
use Rattle.std.proofs.lemmas.List.{drop-drop}
use Rattle.cc_base.specs.Seen.{SourceSeen, SinkSeen}
use Rattle.cc_base.specs.Outside.{grown}
use Rattle.cc_base.specs.Runs.{emitted, taken}
use Rattle.cc_base.specs.declared.run.Act.{Act}
use Rattle.cc_base.specs.declared.run.Act.TheVariants as act
use Rattle.cc_base.specs.declared.run.Outcome.{Outcome}
use Rattle.cc_base.specs.declared.run.Outcome.TheVariants as outcome
use Rattle.pass_core.specs.Semantics.{run_of}
use Rattle.pass_core.specs.laws.Simulation.{iterate-step}
use Rattle.block_mem.specs.declared.value.Value.TheVariants.{Int}
use Rattle.clight_sem.specs.declared.destination.Destination.{Destination}
use Rattle.clight_sem.specs.Functions.{Linked}
use Rattle.clight_sem.specs.States.{World, Turned, On, Gives, Ends, Run, Going, seen}
use Rattle.clight_sem.specs.Turns.{given, minus_one, came, next_byte, turn, after_turn, source}
use Rattle.mean_run.specs.declared.running.RunFault.{RunFault}
use Rattle.mean_run.specs.declared.running.RunFault.TheVariants as fault
use Rattle.mean_run.specs.declared.process.Final.{Final}
use Rattle.mean_run.specs.declared.process.Final.TheVariants as final
use Rattle.mean_run.specs.Processes.{outcome_of, Asked}
use Rattle.mean_run.specs.Running.{lacking, over, end_of, Ran, Stepped, Steps, RunsBefore, OverAt, Runs}
use Rattle.mean_run.proofs.Outside.{emitted-append, taken-append, grown-twice, grown-nil, lacking-twice, lacking-none, took_one, first_byte}
use Rattle.mean_run.proofs.Given.{given-given}

-- a turn that does nothing to the outside
quiet : (p : Linked) (w : World) (i : SourceSeen) (o : SinkSeen) (run : List ℕ → List Act → Run) → ((input : List ℕ) (before : List Act) → after_turn (turn p w) input before ≡ run input before) → Stepped p w i o run i o
quiet p w i o run h = record {
  acts = [];
  answered = λ before. ([], [], h [] before ∙ ap (run []) (sym (append-nil before)));
  is = λ input before told. h input before ∙ ap (run input) (sym (append-nil before));
  output = grown-nil o;
  input = lacking-none i;
}

pub goes : (p : Linked) (w w' : World) (i : SourceSeen) (o : SinkSeen) → turn p w ≡ On w' → Stepped p w i o (Going w') i o
goes p w w' i o h = quiet p w i o (Going w') (λ input before. ap (λ (t : Turned). after_turn t input before) h)

pub is_over : (p : Linked) (w : World) (how : Outcome) (i : SourceSeen) (o : SinkSeen) → turn p w ≡ Ends how → Stepped p w i o (over how) i o
is_over p w how i o h = quiet p w i o (over how) (λ input before. ap (λ (t : Turned). after_turn t input before) h)

-- a byte was emitted
pub gives : (p : Linked) (w w' : World) (b : ℕ) (i : SourceSeen) (o o' : SinkSeen) → turn p w ≡ Gives b w' → o' ≡ grown o (b ∷ []) → Stepped p w i o (Going w') i o'
gives p w w' b i o o' h e = record {
  acts = act.Gave b ∷ [];
  answered = λ before. ([], [], ap (λ (t : Turned). after_turn t [] before) h);
  is = λ input before told. ap (λ (t : Turned). after_turn t input before) h;
  output = e;
  input = lacking-none i;
}

-- the end of the input was found
pub found_end : (p : Linked) (w w' : World) (d : Destination) (i i' : SourceSeen) (o : SinkSeen) → Asked (turn p w) d w' → (i' ≡ i) × IfSome i.told (λ rest. rest ≡ []) → Stepped p w i o (Going w') i' o
found_end p w w' d i i' o a h = record {
  acts = act.AtEnd ∷ [];
  answered = λ before. ([], [], ap (λ (t : Turned). after_turn t [] before) a.asks ∙ ap (λ (x : Option World). came x [] (before ++ act.AtEnd ∷ [])) a.ready);
  is = λ input before told.
      let empty : input ≡ [] = subst (λ (t : Option (List ℕ)). IfSome t (λ rest. rest ≡ [])) told h.1 in
      ap (λ (t : Turned). after_turn t input before) a.asks
      ∙ ap (λ xs. next_byte d a.old xs before) empty
      ∙ ap (λ (x : Option World). came x [] (before ++ act.AtEnd ∷ [])) a.ready
      ∙ ap (λ xs. Going w' xs (before ++ act.AtEnd ∷ [])) (sym empty);
  output = grown-nil o;
  input = h.0 ∙ lacking-none i;
}

-- a byte was taken
took : (p : Linked) (w new : World) (d : Destination) (b : ℕ) (i i' : SourceSeen) (o : SinkSeen) (x : Option World) (run : List ℕ → List Act → Run) → Asked (turn p w) d new → i ≡ record i' { told = option_map (λ rest. b ∷ rest) i'.told } → given d (Int b) new ≡ x → ((input : List ℕ) (acts : List Act) → came x input acts ≡ run input acts) → Stepped p w i o run i' o
took p w new d b i i' o x run a h e to = record {
  acts = act.Took ∷ [];
  answered = λ before. (
    b ∷ [],
    [],
    ap (λ (t : Turned). after_turn t (b ∷ []) before) a.asks
        ∙ ap (λ (y : Option World). came y [] (before ++ act.Took ∷ [])) (sym (given-given d minus_one (Int b) a.old new a.ready) ∙ e)
        ∙ to [] (before ++ act.Took ∷ []),
  );
  is = λ input before told.
      ap (λ (t : Turned). after_turn t input before) a.asks
      ∙ ap (λ xs. next_byte d a.old xs before) (first_byte b i i' input h told)
      ∙ ap (λ (y : Option World). came y (drop 1 input) (before ++ act.Took ∷ [])) (sym (given-given d minus_one (Int b) a.old new a.ready) ∙ e)
      ∙ to (drop 1 input) (before ++ act.Took ∷ []);
  output = grown-nil o;
  input = took_one b i i' h;
}

pub takes : (p : Linked) (w new w' : World) (d : Destination) (b : ℕ) (i i' : SourceSeen) (o : SinkSeen) → Asked (turn p w) d new → i ≡ record i' { told = option_map (λ rest. b ∷ rest) i'.told } → given d (Int b) new ≡ Some w' → Stepped p w i o (Going w') i' o
takes p w new w' d b i i' o a h e = took p w new d b i i' o (Some w') (Going w') a h e (λ input acts. refl)

pub takes_wrong : (p : Linked) (w new : World) (d : Destination) (b : ℕ) (i i' : SourceSeen) (o : SinkSeen) → Asked (turn p w) d new → i ≡ record i' { told = option_map (λ rest. b ∷ rest) i'.told } → given d (Int b) new ≡ None → Stepped p w i o (over outcome.Wrong) i' o
takes_wrong p w new d b i i' o a h e = took p w new d b i i' o None (over outcome.Wrong) a h e (λ input acts. refl)

-- before any turn
pub begins : (p : Linked) (w : World) (i : SourceSeen) (o : SinkSeen) → Ran p w 0 i o (Going w) i o
begins p w i o = record {
  acts = [];
  path = (refl, λ input. refl);
  is = λ input told. refl;
  output = grown-nil o;
  input = lacking-none i;
}

-- one turn more
ran_suc : (p : Linked) (s : World) (n : ℕ) (i : SourceSeen) (o : SinkSeen) (w : World) (i' : SourceSeen) (o' : SinkSeen) (run : List ℕ → List Act → Run) (i'' : SourceSeen) (o'' : SinkSeen) → Ran p s n i o (Going w) i' o' → Stepped p w i' o' run i'' o'' → Ran p s (suc n) i o run i'' o''
ran_suc p s n i o w i' o' run i'' o'' r t = record {
  acts = r.acts ++ t.acts;
  path = let last = t.answered r.acts in record { acts_before = r.acts; from = w; answer = last.0; left = last.1; led = r.path; leads = last.2 };
  is = λ input told.
      let rest = drop (taken r.acts) input in
      let tells : i'.told ≡ Some rest = ap (λ (x : SourceSeen). x.told) r.input ∙ ap (option_map (λ xs. drop (taken r.acts) xs)) told in
      sym (iterate-step (source p).step n (Going s input []))
      ∙ ap (source p).step (r.is input told)
      ∙ t.is rest r.acts tells
      ∙ ap (λ xs. run xs (r.acts ++ t.acts)) (drop-drop (taken t.acts) (taken r.acts) input ∙ ap (λ k. drop k input) (sym (taken-append r.acts t.acts)));
  output = t.output ∙ ap (λ (x : SinkSeen). grown x (emitted t.acts)) r.output ∙ grown-twice o (emitted r.acts) (emitted t.acts) ∙ ap (grown o) (sym (emitted-append r.acts t.acts));
  input = t.input ∙ ap (λ (x : SourceSeen). lacking x (taken t.acts)) r.input ∙ lacking-twice i (taken r.acts) (taken t.acts) ∙ ap (lacking i) (sym (taken-append r.acts t.acts));
}

pub ran_on : (p : Linked) (s : World) (n : ℕ) (i : SourceSeen) (o : SinkSeen) (w : World) (i' : SourceSeen) (o' : SinkSeen) (run : List ℕ → List Act → Run) (i'' : SourceSeen) (o'' : SinkSeen) → Ran p s n i o (Going w) i' o' → Stepped p w i' o' run i'' o'' → Ran p s (n + 1) i o run i'' o''
ran_on p s n i o w i' o' run i'' o'' r t = subst (λ k. Ran p s k i o run i'' o'') (sym (add-one n)) (ran_suc p s n i o w i' o' run i'' o'' r t)

-- a run that goes on after n turns goes on before
before_now : (p : Linked) (s : World) (n : ℕ) (input : List ℕ) (k : ℕ) → (k ≡ n) ⊎ (k < n) → ((k : ℕ) → k < n → (run_of (source p) (Going s input []) k).outcome ≡ outcome.Running) → (run_of (source p) (Going s input []) n).outcome ≡ outcome.Running → (run_of (source p) (Going s input []) k).outcome ≡ outcome.Running
before_now p s n input k (inr less) earlier now = earlier k less
before_now p s n input k (inl same) earlier now = ap (λ (m : ℕ). (run_of (source p) (Going s input []) m).outcome) same ∙ now

below : (k n : ℕ) → k < n + 1 → (k ≡ n) ⊎ (k < n)
below k n h = let less : k ≤ n = omega arith in eq-or-lt_of_le less

pub runs_before : (p : Linked) (s : World) (n : ℕ) (i : SourceSeen) (o : SinkSeen) (w : World) (i' : SourceSeen) (o' : SinkSeen) → RunsBefore p s n i → Ran p s n i o (Going w) i' o' → RunsBefore p s (n + 1) i
runs_before p s n i o w i' o' h r = λ input told k less.
    before_now p s n input k (below k n less) (h input told) (ap (λ (x : Run). (seen x).outcome) (r.is input told))

pub none_before : (p : Linked) (s : World) (i : SourceSeen) → RunsBefore p s 0 i
none_before p s i = λ input told k less. let no : ⊥ = omega arith in absurd no

-- how a run within so many turns is over
pub ended_at : (p : Linked) (turns n : ℕ) (w w' : World) (i : SourceSeen) (o : SinkSeen) (how : Final) (i' : SourceSeen) (o' : SinkSeen) → OverAt p w turns n i o (outcome_of how) i' o' → Runs p turns w i o (Ok (end_of how n)) w' i' o'
ended_at p turns n w w' i o (final.Ended status) i' o' h = (n, h)
ended_at p turns n w w' i o final.Wrong i' o' h = h
ended_at p turns n w w' i o final.Deep i' o' h = h

pub over_at : (p : Linked) (turns n : ℕ) (s w : World) (i : SourceSeen) (o : SinkSeen) (i' : SourceSeen) (o' : SinkSeen) (how : Outcome) (i'' : SourceSeen) (o'' : SinkSeen) → n < turns → RunsBefore p s n i → Ran p s n i o (Going w) i' o' → Stepped p w i' o' (over how) i'' o'' → OverAt p s turns (n + 1) i o how i'' o''
over_at p turns n s w i o i' o' how i'' o'' less h r t = record {
  within = omega arith;
  ran = ran_on p s n i o w i' o' (over how) i'' o'' r t;
  first = runs_before p s n i o w i' o' h r;
}

-- the outside fails at a turn
pub cut_off : (p : Linked) (turns n : ℕ) (s w w' : World) (i : SourceSeen) (o : SinkSeen) (i' : SourceSeen) (o' : SinkSeen) (f : RunFault) (i'' : SourceSeen) (o'' : SinkSeen) → n < turns → Ran p s n i o (Going w) i' o' → Steps p w i' o' (Err f) w' i'' o'' → Runs p turns s i o (Err f) w' i'' o''
cut_off p turns n s w w' i o i' o' fault.Read i'' o'' less r t = record { count = n; fewer = less; world = w; input = i'; output = o'; ran = r; fault = t }
cut_off p turns n s w w' i o i' o' fault.Write i'' o'' less r t = record { count = n; fewer = less; world = w; input = i'; output = o'; ran = r; fault = t }
cut_off p turns n s w w' i o i' o' fault.Memory i'' o'' less r t = record { count = n; fewer = less; world = w; input = i'; output = o'; ran = r; fault = t }
