-- Steps on some answers of the outside are those on some input, where no byte comes once the end was found: the bytes that came.
use Rattle.std.proofs.Common.{◌≡◌, ℕ, zero, suc, ◌+◌, List, [], ◌∷◌, ◌++◌, Option, Some, None, slice_get, refl, sym, ◌∙◌, ap, subst, arith, append_assoc}
use Rattle.cc_base.specs.Runs.{taken}
use Rattle.cc_base.specs.declared.run.Act.{Act}
use Rattle.cc_base.specs.declared.run.Act.TheVariants as act
use Rattle.i386_machine.specs.declared.event.Event.{Event}
use Rattle.i386_machine.specs.declared.event.Event.TheVariants as event
use Rattle.i386_machine.specs.declared.event.Standing.TheVariants as standing
use Rattle.i386_machine.specs.Machine.{State}
use Rattle.i386_machine.specs.Step.{Doing, Goes, Asks, Gives, Ends, Sticks, doing, Stepped, stepped, step, answered}
use Rattle.i386_machine.specs.Runs.{Run, acts_of, left_after, advance, after, Path, EndsOnce, OnSomeInput}

pub taken-append : (xs ys : List Act) → taken (xs ++ ys) ≡ taken xs + taken ys
taken-append [] ys = omega arith
taken-append (act.Took ∷ xs) ys = omega (arith, taken-append xs ys)
taken-append (act.AtEnd ∷ xs) ys = taken-append xs ys
taken-append (act.Gave b ∷ xs) ys = taken-append xs ys

-- on some input the run is this one, with these bytes left
abbrev Leaves : State → ℕ → List Act → State → List ℕ → Type 0
Leaves m n acts m' more = (input : List ℕ) × (after m input n ≡ record { machine = m'; left = more; acts = acts })

-- once the end was found no byte was taken, and none is left
abbrev NoneBehind : List Act → List ℕ → Type 0
NoneBehind acts more = (before behind : List Act) → acts ≡ before ++ act.AtEnd ∷ behind → (taken behind ≡ 0) × (more ≡ [])

none_before : (acts xs : List Act) (more : List ℕ) → NoneBehind (acts ++ xs) more → NoneBehind acts more
none_before acts xs more h before behind e =
    let r = h before (behind ++ xs) (ap (λ (a : List Act). a ++ xs) e ∙ append_assoc before (act.AtEnd ∷ behind) xs) in
    (omega (arith, r.0, taken-append behind xs), r.1)

-- a step, as a run sees it
abbrev by_step : Run → Stepped → Run
by_step run s = record { machine = s.after; left = left_after s.event run.left; acts = run.acts ++ acts_of s.event }

module _ (m from : State) (n : ℕ) (acts : List Act) where
  -- a step that is the same whatever the outside has next
  quiet : (e : Event) (m' : State) (more : List ℕ) → ((next : Option ℕ) → step from next ≡ record { event = e; after = m' }) → left_after e more ≡ more → Leaves m n acts from more → Leaves m (suc n) (acts ++ acts_of e) m' more
  quiet e m' more same left on =
      let run : Run = record { machine = from; left = more; acts = acts } in
      let with_left : List ℕ → Run = λ xs. record { machine = m'; left = xs; acts = acts ++ acts_of e } in
      (on.0, ap advance on.1 ∙ ap (by_step run) (same (slice_get more 0)) ∙ ap with_left left)

  one_more : (d : Doing) (next : Option ℕ) (more : List ℕ) → doing from ≡ d → NoneBehind (acts ++ acts_of (stepped d from next).event) more → ((xs : List ℕ) → NoneBehind acts xs → Leaves m n acts from xs)
      → Leaves m (suc n) (acts ++ acts_of (stepped d from next).event) (stepped d from next).after more
  one_more (Goes s) next more is none on = quiet event.On s more (λ x. ap (λ (d : Doing). stepped d from x) is) refl (on more (none_before acts [] more none))
  one_more Asks None more is none on =
      let empty : more ≡ [] = (none acts [] refl).1 in
      let run : Run = record { machine = from; left = []; acts = acts } in
      let with_left : List ℕ → Run = λ xs. record { machine = answered 0 from; left = xs; acts = acts ++ act.AtEnd ∷ [] } in
      let before = on [] (λ b a e. ((none_before acts (act.AtEnd ∷ []) more none b a e).0, refl)) in
      (before.0, ap advance before.1 ∙ ap (by_step run) (ap (λ (d : Doing). stepped d from None) is) ∙ ap with_left (sym empty))
  one_more Asks (Some byte) more is none on =
      let run : Run = record { machine = from; left = byte ∷ more; acts = acts } in
      let no_end : NoneBehind acts (byte ∷ more) = λ b a e.
      let r = none b (a ++ act.Took ∷ []) (ap (λ (x : List Act). x ++ act.Took ∷ []) e ∙ append_assoc b (act.AtEnd ∷ a) (act.Took ∷ [])) in
      absurd (omega (arith, r.0, taken-append a (act.Took ∷ []))) in
      let before = on (byte ∷ more) no_end in
      (before.0, ap advance before.1 ∙ ap (by_step run) (ap (λ (d : Doing). stepped d from (Some byte)) is))
  one_more (Gives byte) next more is none on = quiet (event.Gave byte) (answered 1 from) more (λ x. ap (λ (d : Doing). stepped d from x) is) refl (on more (none_before acts (act.Gave byte ∷ []) more none))
  one_more (Ends status) next more is none on = quiet (event.Ended status) (record from { standing = standing.Ended status }) more (λ x. ap (λ (d : Doing). stepped d from x) is) refl (on more (none_before acts [] more none))
  one_more (Sticks cause) next more is none on = quiet (event.Stuck cause) (record from { standing = standing.Stuck cause }) more (λ x. ap (λ (d : Doing). stepped d from x) is) refl (on more (none_before acts [] more none))

leaves : (n : ℕ) (m : State) (acts : List Act) (m' : State) (more : List ℕ) → Path m n acts m' → NoneBehind acts more → Leaves m n acts m' more
leaves zero m acts m' more p none =
    let with_machine : State → Run = λ x. record { machine = x; left = more; acts = [] } in
    let with_acts : List Act → Run = λ a. record { machine = m'; left = more; acts = a } in
    (more, ap with_machine (sym p.1) ∙ ap with_acts (sym p.0))
leaves (suc n) m acts m' more p none =
    let s = step p.from p.next in
    let with_machine : State → Run = λ x. record { machine = x; left = more; acts = p.acts_before ++ acts_of s.event } in
    let with_acts : List Act → Run = λ a. record { machine = m'; left = more; acts = a } in
    let r = one_more m p.from n p.acts_before (doing p.from) p.next more refl (subst (λ (a : List Act). NoneBehind a more) p.acts_are none) (λ xs h. leaves n m p.acts_before p.from xs p.led h) in
    (r.0, r.1 ∙ ap with_machine (sym p.leads) ∙ ap with_acts (sym p.acts_are))

pub some_input : (m : State) (n : ℕ) (acts : List Act) (m' : State) → Path m n acts m' → EndsOnce acts → OnSomeInput m n acts m'
some_input m n acts m' p once =
    let r = leaves n m acts m' [] p (λ before behind e. (once before behind e, refl)) in
    record { input = r.0; acts_are = sym (ap (λ (x : Run). x.acts) r.1); machine_is = sym (ap (λ (x : Run). x.machine) r.1) }
