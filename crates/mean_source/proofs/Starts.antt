-- Runs from their start on, and what they come to.
use Rattle.std.proofs.Common.{◌≡◌, ℕ, zero, suc, ◌+◌, ◌-◌, ◌≤◌, ◌⊎◌, inl, inr, List, [], ◌∷◌, ◌++◌, Option, Some, None, Result, Ok, Err, option_map, drop, refl, sym, ◌∙◌, ap, subst, arith, append-nil, add-one}
use Rattle.cc_base.specs.Faces.{source_fault}
use Rattle.cc_base.specs.Seen.{SourceSeen, SinkSeen}
use Rattle.cc_base.specs.Outside.{SinkWanted, grown}
use Rattle.cc_base.specs.Runs.{State, taken}
use Rattle.cc_base.specs.declared.face.SourceFault.{SourceFault}
use Rattle.cc_base.specs.declared.face.SourceFault.TheVariants as names
use Rattle.cc_base.specs.declared.run.Act.{Act}
use Rattle.cc_base.specs.declared.run.Act.TheVariants as act
use Rattle.cc_base.specs.declared.run.Outcome.{Outcome}
use Rattle.cc_base.specs.declared.run.Outcome.TheVariants as outcome
use Rattle.pass_core.specs.Semantics.{iterate, run_of}
use Rattle.pass_core.specs.laws.Simulation.{iterate-step, iterate-add}
use Rattle.clight_unit.specs.declared.unit.ClightUnit.{ClightUnit as TypedUnit}
use Rattle.clight_sem.specs.declared.destination.Destination.{Destination}
use Rattle.clight_sem.specs.Functions.{Linked, linked, main_of}
use Rattle.clight_sem.specs.States.{World, Turned, On, Ends, Run, Going, Over, seen}
use Rattle.clight_sem.specs.Turns.{came, next_byte, turn, after_turn, begun, entered_main, source, source_after}
use Rattle.mean_run.specs.declared.process.Final.{Final}
use Rattle.mean_run.specs.declared.process.Final.TheVariants as final
use Rattle.mean_run.specs.declared.running.MeanEnd.{MeanEnd}
use Rattle.mean_run.specs.declared.running.MeanEnd.TheVariants as end
use Rattle.mean_run.specs.declared.running.RunFault.{RunFault}
use Rattle.mean_run.specs.declared.running.RunFault.TheVariants as run
use Rattle.mean_run.specs.Processes.{outcome_of}
use Rattle.mean_run.specs.Running.{lacking, Ran, OverAt, IsAsked, IsGiven, Wanted, Runs}
use Rattle.mean_source.specs.declared.meaning.MeanFault.{MeanFault}
use Rattle.mean_source.specs.declared.meaning.MeanFault.TheVariants as fault
use Rattle.mean_source.specs.Means.{StandsSo, FirstSo, IsAsking, IsEmitting, ComesNext, Comes, Happens, faces, Means}
use Rattle.mean_source.specs.Programs.{program_after, fault_of_names, fault_of_run, end_at_once}

-- nothing was emitted, and nothing taken
told-nil : (t : Option (List ℕ)) → t ≡ option_map (λ got. got ++ []) t
told-nil None = refl
told-nil (Some got) = ap (λ x. Some x) (sym (append-nil got))

grown-nil : (o : SinkSeen) → o ≡ grown o []
grown-nil o = ap (λ t. record o { told = t }) (told-nil o.told)

told-whole : (t : Option (List ℕ)) → t ≡ option_map (λ rest. drop 0 rest) t
told-whole None = refl
told-whole (Some rest) = refl

lacking-none : (i : SourceSeen) → i ≡ lacking i 0
lacking-none i = ap (λ t. record i { told = t }) (told-whole i.told)

-- the acts of a turn that asks for a byte
came-acts : (x : Option World) (rest : List ℕ) (acts : List Act) → (seen (came x rest acts)).acts ≡ acts
came-acts None rest acts = refl
came-acts (Some w) rest acts = refl

asked-acts : (d : Destination) (w : World) (rest : List ℕ) (acts : List Act) → IsAsking acts (seen (next_byte d w rest acts)).acts
asked-acts d w [] acts = inr (came-acts _ [] (acts ++ act.AtEnd ∷ []))
asked-acts d w (b ∷ rest) acts = inl (came-acts _ rest (acts ++ act.Took ∷ []))

-- a run that is over stays over
over_step : (p : Linked) (how : Outcome) (acts : List Act) → (source p).step (Over how acts) ≡ Over how acts
over_step p outcome.Running acts = refl
over_step p (outcome.Ended status) acts = refl
over_step p outcome.Wrong acts = refl
over_step p outcome.Deep acts = refl

stays_over : (p : Linked) (how : Outcome) (acts : List Act) (n : ℕ) → iterate (source p).step n (Over how acts) ≡ Over how acts
stays_over p how acts zero = refl
stays_over p how acts (suc n) = ap (λ (s : Run). iterate (source p).step n s) (over_step p how acts) ∙ stays_over p how acts n

-- what is over after n turns is so after more
over_later : (p : Linked) (s : Run) (how : Outcome) (acts : List Act) (n m : ℕ) → n ≤ m → iterate (source p).step n s ≡ Over how acts → iterate (source p).step m s ≡ Over how acts
over_later p s how acts n m less h =
    let e : m ≡ n + (m - n) = omega arith in
    ap (λ (k : ℕ). iterate (source p).step k s) e
    ∙ iterate-add (source p).step n (m - n) s
    ∙ ap (λ (r : Run). iterate (source p).step (m - n) r) h
    ∙ stays_over p how acts (m - n)

module _ (p : Linked) (turns : ℕ) (i : SourceSeen) (o : SinkSeen) where
  -- a run that is over before its first turn
  begun_over : (how : Outcome) → entered_main p (main_of p) ≡ Ends how → FirstSo (program_after p) turns 0 how i o i o
  begun_over how h = record {
    stands = record {
      acts = [];
      is = λ input told. ap seen (over_later p (begun p input) how [] 0 turns (omega arith) (ap (λ (t : Turned). after_turn t input []) h));
      output = grown-nil o;
      input = lacking-none i;
    };
    least = λ input told. record {
      within = omega arith;
      stands = ap (λ (t : Turned). (seen (after_turn t input [])).outcome) h;
      first = λ k less. let no : ⊥ = omega arith in absurd no;
    };
  }

  at_once : (how : Final) → entered_main p (main_of p) ≡ Ends (outcome_of how) → Comes (program_after p) turns i o (Ok (end_at_once how)) i o
  at_once (final.Ended status) h = (begun_over (outcome.Ended status) h).stands
  at_once final.Wrong h = begun_over outcome.Wrong h
  at_once final.Deep h = begun_over outcome.Deep h

  pub ends_at_once : (how : Final) → entered_main p (main_of p) ≡ Ends (outcome_of how) → Comes (program_after p) turns i o (Ok (end_at_once how)) i o × Happens p turns i o (Ok (end_at_once how)) i o
  ends_at_once how h = (at_once how h, inl (record { how = how; ends = h; told = refl; input = refl; output = refl }))

  module _ (w : World) (begins : entered_main p (main_of p) ≡ On w) where
    begun_on : (input : List ℕ) → begun p input ≡ Going w input []
    begun_on input = ap (λ (t : Turned). after_turn t input []) begins

    -- the program stands as the run from its first world does
    same_after : (input : List ℕ) (n : ℕ) → program_after p input n ≡ run_of (source p) (Going w input []) n
    same_after input n = ap (λ (s : Run). run_of (source p) s n) (begun_on input)

    goes_on : (n : ℕ) (v : World) (i' : SourceSeen) (o' : SinkSeen) → Ran p w n i o (Going v) i' o' → StandsSo (program_after p) n outcome.Running i o i' o'
    goes_on n v i' o' ran = record {
      acts = ran.acts;
      is = λ input told. same_after input n ∙ ap seen (ran.is input told);
      output = ran.output;
      input = ran.input;
    }

    is_over : (n : ℕ) (how : Outcome) (i' : SourceSeen) (o' : SinkSeen) → OverAt p w turns n i o how i' o' → FirstSo (program_after p) turns n how i o i' o'
    is_over n how i' o' h = record {
      stands = record {
        acts = h.ran.acts;
        is = λ input told. same_after input turns ∙ ap seen (over_later p (Going w input []) how h.ran.acts n turns h.within (h.ran.is input told));
        output = h.ran.output;
        input = h.ran.input;
      };
      least = λ input told. record {
        within = h.within;
        stands = ap (λ (s : State). s.outcome) (same_after input n) ∙ ap (λ (s : Run). (seen s).outcome) (h.ran.is input told);
        first = λ k less. ap (λ (s : State). s.outcome) (same_after input k) ∙ h.first input told k less;
      };
    }

    comes_to : (e : MeanEnd) (v : World) (i' : SourceSeen) (o' : SinkSeen) → Runs p turns w i o (Ok e) v i' o' → Comes (program_after p) turns i o (Ok e) i' o'
    comes_to (end.Ended status) v i' o' h = (is_over h.0 (outcome.Ended status) i' o' h.1).stands
    comes_to end.Spent v i' o' h = goes_on turns v i' o' h
    comes_to (end.Wrong n) v i' o' h = is_over n outcome.Wrong i' o' h
    comes_to (end.Deep n) v i' o' h = is_over n outcome.Deep i' o' h

    pub ends : (e : MeanEnd) (v : World) (i' : SourceSeen) (o' : SinkSeen) → Runs p turns w i o (Ok e) v i' o' → Comes (program_after p) turns i o (Ok e) i' o' × Happens p turns i o (Ok e) i' o'
    ends e v i' o' h = (comes_to e v i' o' h, inr (record { first = w; begins = begins; last = v; runs = h }))

    -- the turn after the first n
    module _ (n : ℕ) (v : World) (i' : SourceSeen) (o' : SinkSeen) (ran : Ran p w n i o (Going v) i' o') where
      acts_so_far : (input : List ℕ) → i.told ≡ Some input → (program_after p input n).acts ≡ ran.acts
      acts_so_far input told = ap (λ (s : State). s.acts) (same_after input n ∙ ap seen (ran.is input told))

      next_state : (input : List ℕ) → i.told ≡ Some input → program_after p input (n + 1) ≡ seen (after_turn (turn p v) (drop (taken ran.acts) input) ran.acts)
      next_state input told =
          ap (λ (k : ℕ). program_after p input k) (add-one n)
          ∙ same_after input (suc n)
          ∙ ap seen (sym (iterate-step (source p).step n (Going w input [])) ∙ ap (source p).step (ran.is input told))

      asks : IsAsked (turn p v) → ComesNext IsAsking (program_after p) n i
      asks a = λ input told.
          let rest = drop (taken ran.acts) input in
          let now : (program_after p input (n + 1)).acts ≡ (seen (next_byte a.0 a.1 rest ran.acts)).acts = ap (λ (s : State). s.acts) (next_state input told ∙ ap (λ (t : Turned). seen (after_turn t rest ran.acts)) a.2) in
          let P : List Act → Type 0 = λ xs. IsAsking (program_after p input n).acts xs in
          let Q : List Act → Type 0 = λ xs. IsAsking xs (seen (next_byte a.0 a.1 rest ran.acts)).acts in
          subst P (sym now) (subst Q (sym (acts_so_far input told)) (asked-acts a.0 a.1 rest ran.acts))

      emits : IsGiven (turn p v) → ComesNext IsEmitting (program_after p) n i
      emits g = λ input told.
          let rest = drop (taken ran.acts) input in
          let now : (program_after p input (n + 1)).acts ≡ ran.acts ++ act.Gave g.0 ∷ [] = ap (λ (s : State). s.acts) (next_state input told ∙ ap (λ (t : Turned). seen (after_turn t rest ran.acts)) g.2) in
          (g.0, now ∙ ap (λ (xs : List Act). xs ++ act.Gave g.0 ∷ []) (sym (acts_so_far input told)))

    comes_to_fault : (f : RunFault) (v : World) (i' : SourceSeen) (o' : SinkSeen) → Runs p turns w i o (Err f) v i' o' → Comes (program_after p) turns i o (Err (fault_of_run f)) i' o'
    comes_to_fault run.Read v i' o' h = record {
      count = h.count;
      fewer = h.fewer;
      source = h.input;
      sink = h.output;
      stands = goes_on h.count h.world h.input h.output h.ran;
      fault = (asks h.count h.world h.input h.output h.ran h.fault.0, h.fault.1, h.fault.2);
    }
    comes_to_fault run.Write v i' o' h = record {
      count = h.count;
      fewer = h.fewer;
      source = h.input;
      sink = h.output;
      stands = goes_on h.count h.world h.input h.output h.ran;
      fault = (emits h.count h.world h.input h.output h.ran h.fault.0, h.fault.1, h.fault.2);
    }
    comes_to_fault run.Memory v i' o' h = inr (record {
      count = h.count;
      fewer = h.fewer;
      source = h.input;
      sink = h.output;
      stands = goes_on h.count h.world h.input h.output h.ran;
      fault = wanted h.fault;
    })
      where
        wanted : Wanted (turn p h.world) h.input h.output i' o' → (i' ≡ h.input) × ((o' ≡ h.output) ⊎ (ComesNext IsEmitting (program_after p) h.count i × SinkWanted h.output o'))
        wanted (inl s) = (s.2, inr (emits h.count h.world h.input h.output h.ran s.0, s.1))
        wanted (inr s) = (s.0, inl s.1)

    happens_to_fault : (f : RunFault) (v : World) (i' : SourceSeen) (o' : SinkSeen) → Runs p turns w i o (Err f) v i' o' → Happens p turns i o (Err (fault_of_run f)) i' o'
    happens_to_fault run.Read v i' o' h = record { first = w; begins = begins; last = v; runs = h }
    happens_to_fault run.Write v i' o' h = record { first = w; begins = begins; last = v; runs = h }
    happens_to_fault run.Memory v i' o' h = inr (record { first = w; begins = begins; last = v; runs = h })

    pub fails : (f : RunFault) (v : World) (i' : SourceSeen) (o' : SinkSeen) → Runs p turns w i o (Err f) v i' o' → Comes (program_after p) turns i o (Err (fault_of_run f)) i' o' × Happens p turns i o (Err (fault_of_run f)) i' o'
    fails f v i' o' h = (comes_to_fault f v i' o' h, happens_to_fault f v i' o' h)

-- a fault of the names
pub faulty : (units : List TypedUnit) (room turns : ℕ) (i : SourceSeen) (o : SinkSeen) (f : SourceFault) → source_fault (faces units) ≡ Some f → Means units room turns i o (Err (fault_of_names f)) i o
faulty units room turns i o (names.Doubled unit index) h = (h, refl, refl)
faulty units room turns i o (names.Unresolved unit index) h = (h, refl, refl)
faulty units room turns i o (names.Sized unit index stated defined) h = (h, refl, refl)

-- nothing is wrong with the names
pub means : (units : List TypedUnit) (room turns : ℕ) (i : SourceSeen) (o : SinkSeen) (r : Result MeanEnd MeanFault) (i' : SourceSeen) (o' : SinkSeen) → source_fault (faces units) ≡ None → Comes (source_after units room) turns i o r i' o' × Happens (linked units room) turns i o r i' o' → Means units room turns i o r i' o'
means units room turns i o (Ok e) i' o' fine h = (fine, h.0, h.1)
means units room turns i o (Err fault.Read) i' o' fine h = (fine, h.0, h.1)
means units room turns i o (Err fault.Write) i' o' fine h = (fine, h.0, h.1)
means units room turns i o (Err fault.Memory) i' o' fine h = inr (fine, h.0, h.1)
means units room turns i o (Err _) i' o' fine h = absurd h.1
