-- The law of simulation.
use Rattle.std.specs.Prelude.{◌≡◌, ◌≢◌, ℕ, ◌+◌, ◌-◌, ◌<◌, ◌≤◌, ◌⊎◌}
use Rattle.std.proofs.Common.{zero, suc, ◌∙◌, ap, sym, refl, subst, inl, inr, arith}
use Rattle.cc_base.specs.Runs.{State, IsPrefix, GrowsAt}
use Rattle.pass_core.specs.Refines.{Sound, Agrees, Refines}
use Rattle.cc_base.specs.declared.run.Outcome.{Outcome}
use Rattle.cc_base.specs.declared.run.Outcome.TheVariants.{Running, Ended, Wrong, Deep}
use Rattle.pass_core.specs.Semantics.{Semantics, Steady, iterate, run_of, Met, Simulates, if_running, halting}
use Rattle.pass_core.specs.laws.Refines.{IsPrefix-refl, IsPrefix-trans}

pub running_or_over : (o : Outcome) → (o ≡ Running) ⊎ (o ≢ Running)
running_or_over Running = inl refl
running_or_over (Ended s) = inr (λ h. cc)
running_or_over Wrong = inr (λ h. cc)
running_or_over Deep = inr (λ h. cc)

pub iterate-step : {S : Type 0} (f : S → S) (n : ℕ) (s : S) → f (iterate f n s) ≡ iterate f n (f s)
iterate-step f zero s = refl
iterate-step f (suc n) s = iterate-step f n (f s)

pub iterate-add : {S : Type 0} (f : S → S) (m n : ℕ) (s : S) → iterate f (m + n) s ≡ iterate f n (iterate f m s)
iterate-add f zero n s = let e : 0 + n ≡ n = omega arith in ap (λ (k : ℕ). iterate f k s) e
iterate-add f (suc m) n s = let e : suc m + n ≡ suc (m + n) = omega arith in ap (λ (k : ℕ). iterate f k s) e ∙ iterate-add f m n (f s)

-- once over, always over
pub over_stays : {S : Type 0} (m : Semantics S) → Steady m → (n : ℕ) (s : S) → (m.view s).outcome ≢ Running → m.view (iterate m.step n s) ≡ m.view s
over_stays m ok zero s over = refl
over_stays m ok (suc n) s over =
    let e = ok.stays s over in
    over_stays m ok n (m.step s) (λ h. over (sym (ap (λ (x : State). x.outcome) e) ∙ h)) ∙ e

pub only_grows : {S : Type 0} (m : Semantics S) → Steady m → (n : ℕ) (s : S) → IsPrefix (m.view s).acts (m.view (iterate m.step n s)).acts
only_grows m ok zero s = IsPrefix-refl (m.view s).acts
only_grows m ok (suc n) s = IsPrefix-trans (ok.grows s) (only_grows m ok n (m.step s))

-- such a run grows as every run must
pub run_grows : {S : Type 0} (m : Semantics S) → Steady m → (s : S) (n : ℕ) → GrowsAt (run_of m s) n
run_grows m ok s n =
    let e : iterate m.step (n + 1) s ≡ m.step (iterate m.step n s) = ap (λ (k : ℕ). iterate m.step k s) (let e : n + 1 ≡ suc n = omega arith in e) ∙ sym (iterate-step m.step n s) in
    record {
      acts = subst (λ (x : _). IsPrefix (m.view (iterate m.step n s)).acts (m.view x).acts) (sym e) (ok.grows (iterate m.step n s));
      stays = λ over. ap m.view e ∙ ok.stays (iterate m.step n s) over;
    }

pub sound_at : {S : Type 0} (m : Semantics S) (n : ℕ) (s : S) → Sound (run_of m s) → Sound (run_of m (iterate m.step n s))
sound_at m zero s h = h
sound_at m (suc n) s h = sound_at m n (m.step s) (record { right = λ k. h.right (suc k); shallow = λ k. h.shallow (suc k) })

-- further on, both are related again, and either the target has gone at least n steps or the run is over
pub record Ahead {S T : Type 0} (a : Semantics S) (b : Semantics T) (related : S → T → Type 0) (n : ℕ) (s : S) (t : T) : Type 0 where
  pub source : ℕ
  pub target : ℕ
  pub relates : related (iterate a.step source s) (iterate b.step target t)
  pub far : (n ≤ target) ⊎ ((a.view (iterate a.step source s)).outcome ≢ Running)

zero_or_more : (n : ℕ) → (n ≡ 0) ⊎ (1 ≤ n)
zero_or_more zero = inl refl
zero_or_more (suc n) = inr (omega arith)

order : (m n : ℕ) → (m ≤ n) ⊎ (n ≤ m)
order zero n = inl (omega arith)
order (suc m) zero = inr (omega arith)
order (suc m) (suc n) = elim (order m n) [ inl h ↦ inl (omega arith) | inr h ↦ inr (omega arith) ]

-- the sum of a number and what another has more is the other
pub up_to : {S : Type 0} (f : S → S) (m n : ℕ) (s : S) → m ≤ n → iterate f n s ≡ iterate f (n - m) (iterate f m s)
up_to f m n s h = let e : n ≡ m + (n - m) = omega arith in ap (λ (k : ℕ). iterate f k s) e ∙ iterate-add f m (n - m) s

module _ {S T : Type 0} (a : Semantics S) (b : Semantics T) (related : S → T → Type 0) (measure : S → ℕ × ℕ) (sim : Simulates a b related measure) where
  one_ahead : (s : S) (t : T) → related s t → (a.view s).outcome ≡ Running → Sound (run_of a s) → Met a b related measure s (a.step s) t
  one_ahead s t r running sound = sim.meets s t r running (sound.right 1) (sound.shallow 1)

  later : (n : ℕ) (s : S) (t : T) → Ahead a b related n (a.step s) t → Ahead a b related n s t
  later n s t h = record { source = suc h.source; target = h.target; relates = h.relates; far = h.far }

  inner_move : (o : ℕ) → ((s : S) (t : T) → (measure s).0 < o → related s t → Sound (run_of a s) → Ahead a b related 1 s t) → (i : ℕ) (s : S) (t : T) → (measure s).0 ≤ o → (measure s).1 < i → related s t → Sound (run_of a s) → Ahead a b related 1 s t
  inner_move o less zero s t lo li r sound = absurd (omega arith)
  inner_move o less (suc i) s t lo li r sound =
      elim (running_or_over (a.view s).outcome) [
        | inr over ↦ record { source = 0; target = 0; relates = r; far = inr over }
        | inl running ↦
            let w : Met a b related measure s (a.step s) t = one_ahead s t r running sound in
            elim (zero_or_more w.count) [
              | inr more ↦ record { source = 1; target = w.count; relates = w.relates; far = inl more }
              | inl none ↦
                  let next : related (a.step s) t = subst (λ (k : ℕ). related (a.step s) (iterate b.step k t)) none w.relates in
                  later 1 s t (elim (w.falls none) [
                    | inl low ↦ less (a.step s) t (omega arith) next (sound_at a 1 s sound)
                    | inr low ↦ inner_move o less i (a.step s) t (omega (arith, low)) (omega (arith, low)) next (sound_at a 1 s sound)
                  ])
            ]
      ]

  first_move : (o : ℕ) (s : S) (t : T) → (measure s).0 < o → related s t → Sound (run_of a s) → Ahead a b related 1 s t
  first_move zero s t lo r sound = absurd (omega arith)
  first_move (suc o) s t lo r sound = inner_move o (λ s' t' l. first_move o s' t' l) (suc (measure s).1) s t (omega arith) (omega arith) r sound

  pub ahead : (n : ℕ) (s : S) (t : T) → related s t → Sound (run_of a s) → Ahead a b related n s t
  ahead zero s t r sound = record { source = 0; target = 0; relates = r; far = inl (omega arith) }
  ahead (suc n) s t r sound =
      let p : Ahead a b related n s t = ahead n s t r sound in
      elim p.far [
        | inr over ↦ record { source = p.source; target = p.target; relates = p.relates; far = inr over }
        | inl far ↦
            let s' = iterate a.step p.source s in
            let t' = iterate b.step p.target t in
            let q : Ahead a b related 1 s' t' = first_move (suc (measure s').0) s' t' (omega arith) p.relates (sound_at a p.source s sound) in
            let es = iterate-add a.step p.source q.source s in
            let et = iterate-add b.step p.target q.target t in
            record {
              source = p.source + q.source;
              target = p.target + q.target;
              relates = rw (es, et) q.relates;
              far = elim q.far [ inl more ↦ inl (omega arith) | inr over ↦ inr (rw es over) ];
            }
      ]

  module _ (sa : Steady a) (sb : Steady b) where
    -- what is seen of the source after m steps is seen of the target after some number
    pub forward : (m : ℕ) (s : S) (t : T) → related s t → Sound (run_of a s) → (k : ℕ) × (run_of b t k ≡ run_of a s m)
    forward zero s t r sound = (0, sim.alike s t r)
    forward (suc m) s t r sound =
        elim (running_or_over (a.view s).outcome) [
          | inr over ↦ (0, sim.alike s t r ∙ sym (over_stays a sa (suc m) s over))
          | inl running ↦
              let w : Met a b related measure s (a.step s) t = one_ahead s t r running sound in
              let k = forward m (a.step s) (iterate b.step w.count t) w.relates (sound_at a 1 s sound) in
              (w.count + k.0, ap b.view (iterate-add b.step w.count k.0 t) ∙ k.1)
        ]

    -- after n steps the target has done no more than the source after some number, and where it is over, just that
    pub caught : (n : ℕ) (s : S) (t : T) → related s t → Sound (run_of a s) → (m : ℕ) × IsPrefix (run_of b t n).acts (run_of a s m).acts × ((run_of b t n).outcome ≢ Running → run_of b t n ≡ run_of a s m)
    caught n s t r sound =
        let p : Ahead a b related n s t = ahead n s t r sound in
        let seen : run_of b t p.target ≡ run_of a s p.source = sim.alike _ _ p.relates in
        let near : n ≤ p.target → (m : ℕ) × IsPrefix (run_of b t n).acts (run_of a s m).acts × ((run_of b t n).outcome ≢ Running → run_of b t n ≡ run_of a s m) = λ le.
        let e = up_to b.step n p.target t le in
        let u = iterate b.step n t in
        let there : b.view (iterate b.step (p.target - n) u) ≡ run_of a s p.source = sym (ap b.view e) ∙ seen in
        (p.source, subst (λ (x : State). IsPrefix (b.view u).acts x.acts) there (only_grows b sb (p.target - n) u), λ over. sym (over_stays b sb (p.target - n) u over) ∙ there) in
        elim (order n p.target) [
          | inl le ↦ near le
          | inr ge ↦
              elim p.far [
                | inl le ↦ near le
                | inr over ↦
                    let e = up_to b.step p.target n t ge in
                    let v = iterate b.step p.target t in
                    let over_there : (b.view v).outcome ≢ Running = λ h. over (ap (λ (x : State). x.outcome) (sym seen) ∙ h) in
                    let same : run_of b t n ≡ run_of a s p.source = ap b.view e ∙ over_stays b sb (n - p.target) v over_there ∙ seen in
                    (p.source, subst (λ (x : State). IsPrefix x.acts (run_of a s p.source).acts) (sym same) (IsPrefix-refl (run_of a s p.source).acts), λ _. same)
              ]
        ]

    -- the law of simulation
    pub simulation : (s : S) (t : T) → related s t → Refines (run_of a s) (run_of b t)
    simulation s t r sound = record {
      sound = record {
        right = λ n h. let c = caught n s t r sound in sound.right c.0 (ap (λ (x : State). x.outcome) (sym (c.2 (λ k. let x = sym h ∙ k in cc))) ∙ h);
        shallow = λ n h. let c = caught n s t r sound in sound.shallow c.0 (ap (λ (x : State). x.outcome) (sym (c.2 (λ k. let x = sym h ∙ k in cc))) ∙ h);
      };
      only = λ n. let c = caught n s t r sound in (c.0, c.1);
      reached = λ m. let f = forward m s t r sound in (f.0, subst (λ (x : State). IsPrefix (run_of a s m).acts x.acts) (sym f.1) (IsPrefix-refl (run_of a s m).acts));
      ends = λ m status h. forward m s t r sound;
      ends_only = λ n status h. let c = caught n s t r sound in (c.0, sym (c.2 (λ k. let x = sym h ∙ k in cc)));
    }

-- a run that begins some steps earlier refines what the later one does
pub begun_earlier : {T : Type 0} (b : Semantics T) → Steady b → (a : ℕ → State) (k : ℕ) (t : T) → Refines a (run_of b (iterate b.step k t)) → Refines a (run_of b t)
begun_earlier {T} b sb a k t f sound =
    let h : Agrees a (run_of b (iterate b.step k t)) = f sound in
    let joined : (n : ℕ) → run_of b t (k + n) ≡ run_of b (iterate b.step k t) n = λ n. ap b.view (iterate-add b.step k n t) in
    let more : (n : ℕ) → n + k ≡ k + n = λ n. omega arith in
    -- what is over after n steps is over in the same way n steps after the later start
    let over : (n : ℕ) → (run_of b t n).outcome ≢ Running → run_of b (iterate b.step k t) n ≡ run_of b t n = λ n o.
    sym (joined n) ∙ ap (run_of b t) (sym (more n)) ∙ ap b.view (iterate-add b.step n k t) ∙ over_stays b sb k (iterate b.step n t) o in
    record {
      sound = record {
        right = λ n w. h.sound.right n (ap (λ (x : State). x.outcome) (over n (λ r. let e = sym w ∙ r in cc)) ∙ w);
        shallow = λ n w. h.sound.shallow n (ap (λ (x : State). x.outcome) (over n (λ r. let e = sym w ∙ r in cc)) ∙ w);
      };
      only = λ n.
          let g = h.only n in
          let p : IsPrefix (run_of b t n).acts (run_of b (iterate b.step n t) k).acts = only_grows b sb k (iterate b.step n t) in
          let q : run_of b (iterate b.step n t) k ≡ run_of b (iterate b.step k t) n = sym (ap b.view (iterate-add b.step n k t)) ∙ ap (run_of b t) (more n) ∙ joined n in
          (g.0, IsPrefix-trans (subst (λ (x : State). IsPrefix (run_of b t n).acts x.acts) q p) g.1);
      reached = λ m. let g = h.reached m in (k + g.0, subst (λ (x : State). IsPrefix (a m).acts x.acts) (sym (joined g.0)) g.1);
      ends = λ m status e. let g = h.ends m status e in (k + g.0, joined g.0 ∙ g.1);
      ends_only = λ n status e.
          let o = over n (λ r. let w = sym e ∙ r in cc) in
          let g = h.ends_only n status (ap (λ (x : State). x.outcome) o ∙ e) in
          (g.0, g.1 ∙ o);
    }

-- the law of simulation, where the target first takes some steps, and where only a sound source's start need be related
pub simulation_from : {S T : Type 0} (a : Semantics S) (b : Semantics T) (related : S → T → Type 0) (measure : S → ℕ × ℕ) → Simulates a b related measure → Steady a → Steady b → (s : S) (t : T) (k : ℕ) → (Sound (run_of a s) → related s (iterate b.step k t)) → Refines (run_of a s) (run_of b t)
simulation_from a b related measure sim sa sb s t k start sound =
    begun_earlier b sb (run_of a s) k t (simulation a b related measure sim sa sb s (iterate b.step k t) (start sound)) sound

grows_if : {S : Type 0} (view : S → State) (o : Outcome) (new old : S) → (view old).outcome ≡ o → ((view old).outcome ≡ Running → IsPrefix (view old).acts (view new).acts) → IsPrefix (view old).acts (view (if_running o new old)).acts
grows_if view Running new old e h = h e
grows_if view (Ended status) new old e h = IsPrefix-refl (view old).acts
grows_if view Wrong new old e h = IsPrefix-refl (view old).acts
grows_if view Deep new old e h = IsPrefix-refl (view old).acts

stays_if : {S : Type 0} (o : Outcome) (new old : S) → o ≢ Running → if_running o new old ≡ old
stays_if Running new old h = absurd (h refl)
stays_if (Ended status) new old h = refl
stays_if Wrong new old h = refl
stays_if Deep new old h = refl

-- such a semantics is steady where each step of a state that runs only adds acts
pub halting_steady : {S : Type 0} (step : S → S) (view : S → State) (price : S → ℕ) → ((s : S) → (view s).outcome ≡ Running → IsPrefix (view s).acts (view (step s)).acts) → Steady (halting step view price)
halting_steady step view price h = record {
  grows = λ s. grows_if view (view s).outcome (step s) s refl (h s);
  stays = λ s over. ap view (stays_if (view s).outcome (step s) s over);
}

-- a state that runs takes the step
pub halting_step : {S : Type 0} (step : S → S) (view : S → State) (price : S → ℕ) (s : S) → (view s).outcome ≡ Running → (halting step view price).step s ≡ step s
halting_step step view price s e = ap (λ (o : Outcome). if_running o (step s) s) e

-- and pays its price
pub halting_price : {S : Type 0} (step : S → S) (view : S → State) (price : S → ℕ) (s : S) → (view s).outcome ≡ Running → (halting step view price).price s ≡ price s
halting_price step view price s e = ap (λ (o : Outcome). if_running o (price s) 0) e

if_running_le : (o : Outcome) (n : ℕ) → if_running o n 0 ≤ n
if_running_le Running n = omega arith
if_running_le (Ended status) n = omega arith
if_running_le Wrong n = omega arith
if_running_le Deep n = omega arith

-- no state pays more than the price
pub halting_price_le : {S : Type 0} (step : S → S) (view : S → State) (price : S → ℕ) (s : S) → (halting step view price).price s ≤ price s
halting_price_le step view price s = if_running_le (view s).outcome (price s)

-- one that does not run stays where it is
pub halting_rests : {S : Type 0} (step : S → S) (view : S → State) (price : S → ℕ) (s : S) → (view s).outcome ≢ Running → (halting step view price).step s ≡ s
halting_rests step view price s over = stays_if (view s).outcome (step s) s over
