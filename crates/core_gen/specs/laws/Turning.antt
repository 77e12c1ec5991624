-- Turns of the source's statements are met by steps of Core.
use Rattle.std.specs.Prelude.{◌≡◌, ◌≢◌, ℕ, ◌+◌, ◌*◌, Bool, true, false, cond, List, [], ◌∷◌, ◌++◌, Option, Some, None}
use Rattle.std.proofs.Common.{refl, ap, sym, ◌∙◌, subst, arith}
use Rattle.std.proofs.lemmas.List.{append_assoc}
use Rattle.cc_base.specs.declared.run.Act.{Act}
use Rattle.cc_base.specs.declared.run.Outcome.TheVariants.{Wrong}
use Rattle.clight_unit.specs.declared.expression.Test.{Test}
use Rattle.clight_unit.specs.declared.statement.Assignment.{Assignment}
use Rattle.clight_unit.specs.declared.statement.Statement.{Statement}
use Rattle.unit_names.specs.declared.meaning.Meaning.{Meaning}
use Rattle.clight_sem.specs.Functions.{Linked}
use Rattle.clight_sem.specs.Values.{truth_of, holds}
use Rattle.clight_sem.specs.Prices.{test_nodes, target_nodes, expression_nodes}
use Rattle.clight_sem.specs.States.{Item as Left, Again, World, Turned, Going, seen, on, scene_of, whole, with_left}
use Rattle.clight_sem.specs.Turns.{assigned, tested as tested_turn, after_turn}
use Rattle.core_lang.specs.declared.syntax.Function.{Function as CoreFunction}
use Rattle.core_lang.specs.declared.syntax.Statement.{Statement as Code}
use Rattle.core_lang.specs.declared.syntax.Statement.TheVariants as code
use Rattle.core_lang.specs.Meaning.{Temporaries, value_of as core_value, Program, Item, Do, End, to_do, Frame as CoreFrame, Run as CoreRun}
use Rattle.pass_core.specs.Turns.{Going as Goes}
use Rattle.core_lang.specs.Units.{core as language}
use Rattle.core_lang.specs.Prices.{expression_price}
use Rattle.core_gen.specs.Translation.{Made}
use Rattle.pass_core.specs.Meets.{Reaches}
use Rattle.pass_core.specs.laws.Meets.{then, costing}
use Rattle.core_gen.specs.Translation.{condition_of, while_round, assignment}
use Rattle.core_gen.specs.laws.Stepping.{scene, takes, skips, loops, blocks, exits}
use Rattle.core_gen.specs.Relation.{Fits, body_code, while_loop, Follows, body_end, again, Stands, among, program, core_world, Below, Related, going}
use Rattle.core_gen.specs.laws.Evaluating.{still_fits, Decides}
use Rattle.core_gen.specs.laws.Expressions.{every_condition}
use Rattle.core_gen.specs.laws.Following.{follows_body}
use Rattle.core_gen.specs.Units.{base_of}
use Rattle.core_gen.specs.laws.Meeting.{Meets, by_steps}
use Rattle.core_gen.specs.laws.Assigning.{Moves, assignment_moves}

-- what does not go wrong has a value

pub on_has : (o : Option World) (input : List ℕ) (acts : List Act) → (seen (after_turn (on o) input acts)).outcome ≢ Wrong → (u : World) × (o ≡ Some u)
on_has None input acts h = absurd (h refl)
on_has (Some u) input acts h = (u, refl)

pub tested_has : (w : World) (o : Option Bool) (body : List Statement) (item : Left) (input : List ℕ) (acts : List Act) → (seen (after_turn (tested_turn w o body item) input acts)).outcome ≢ Wrong → (b : Bool) × (o ≡ Some b)
tested_has w None body item input acts h = absurd (h refl)
tested_has w (Some b) body item input acts h = (b, refl)

-- a round of a loop, opened
opened_while : (h : List Code) (i b l : Code) (rest : List Item) → (to_do ((h ++ i ∷ []) ++ b ∷ []) ++ Do l ∷ []) ++ (End ∷ rest) ≡ to_do h ++ (Do i ∷ Do b ∷ Do l ∷ End ∷ rest)
opened_while [] i b l rest = refl
opened_while (s ∷ h) i b l rest = ap (λ (x : List Item). Do s ∷ x) (opened_while h i b l rest)

module _ (c : Linked) (functions : List (List CoreFunction)) (callees : List (List Meaning)) (input : List ℕ) (acts : List Act) (result : Option ℕ) (below : List CoreFrame) where
  abbrev p : Program
  p = program c functions callees

  -- Core has these temporaries and this to do, where the source has this world
  abbrev pub stood : World → Temporaries → List Item → CoreRun
  stood w t rest = Goes (core_world c w t rest result below) input acts

  -- an item of this world's call, which has taken it, is met
  abbrev pub Meeting : World → Turned → Temporaries → List Item → ℕ → ℕ → Type 0
  Meeting w y t rest size cost = Meets c p (0, size) (after_turn y input acts) (stood w t rest) cost

  -- how a world is related whose call has this to do
  pub relate : (w : World) (t : Temporaries) (left : List Left) (rest : List Item) → Fits w.top.temporaries (base_of w.top.function) t → Stands (base_of w.top.function) left rest → Below c w.top.result result w.below below → Related c (Going (with_left w left) input acts) (stood w t rest)
  relate w t left rest f s b = going (with_left w left) t rest result below input acts f s b

  -- a test chooses
  pub record Chooses (w : World) (t : Temporaries) (m : Made) (b : Bool) (cost : ℕ) : Type 0 where
    pub after : Temporaries
    pub fits : Fits w.top.temporaries (base_of w.top.function) after
    pub way : (this that : List Code) (rest : List Item) → Reaches (language p) (stood w t (to_do m.hoists ++ (Do (code.If m.value this that) ∷ rest))) (stood w after (to_do (cond b this that) ++ rest)) 1 cost

  choose_by : (w : World) (t : Temporaries) (m : Made) (b : Bool) (this that : List Code) (rest : List Item) → truth_of (core_value (scene p (core_world c w t [] result below) t) m.value) ≡ Some b → Reaches (language p) (stood w t (Do (code.If m.value this that) ∷ rest)) (stood w t (to_do (cond b this that) ++ rest)) 1 (5 + expression_price m.value)
  choose_by w t m true this that rest h = takes p input acts (core_world c w t [] result below) t m.value this that rest h
  choose_by w t m false this that rest h = skips p input acts (core_world c w t [] result below) t m.value this that rest h

  pub choose : (w : World) (t : Temporaries) (e : Test) (b : Bool) → Fits w.top.temporaries (base_of w.top.function) t → holds (scene_of c w) e ≡ Some b → Chooses w t (condition_of e (base_of w.top.function)) b (24 * test_nodes e)
  choose w t e b f h =
      let base = base_of w.top.function in
      let cw = core_world c w t [] result below in
      let m = condition_of e base in
      let d : Decides p input acts cw t base m b (test_nodes e) = every_condition p input acts cw w.top.temporaries e t base b f h in
      let x = d.evaluates in
      let test : truth_of (core_value (scene p cw x.after) m.value) ≡ Some b = ap truth_of (x.value x.after (λ k less. refl)) ∙ d.so in
      record {
        after = x.after;
        fits = still_fits {m = base} f x.kept (omega arith);
        way = λ this that rest. costing (language p) (let g = x.within in omega (arith, g))
            (then (language p) (x.steps (Do (code.If m.value this that) ∷ rest)) (choose_by w x.after m b this that rest test));
      }

  -- where an assignment led
  pub moved_relates : (w u : World) (t : Temporaries) (rest : List Item) (codes : List Code) (cost : ℕ) (m : Moves c p input acts w u t result below codes cost) → Stands (base_of w.top.function) w.top.left rest → Below c w.top.result result w.below below → Related c (Going u input acts) (stood u m.after rest)
  moved_relates w u t rest codes cost m s b =
      let e = m.same in
      going u m.after rest result below input acts
      (subst (λ f. Fits u.top.temporaries (base_of f) m.after) (sym e.function) m.fits)
      (subst (λ f. Stands (base_of f) u.top.left rest) (sym e.function) (subst (λ (l : List Left). Stands (base_of w.top.function) l rest) (sym e.left) s))
      (subst (λ d. Below c d result u.below below) (sym e.result) (subst (λ k. Below c w.top.result result k below) (sym e.below) b))

  pub assignment_meets : (w : World) (t : Temporaries) (rest : List Item) (a : Assignment) (size : ℕ) → Fits w.top.temporaries (base_of w.top.function) t → Stands (base_of w.top.function) w.top.left rest → Below c w.top.result result w.below below → (seen (after_turn (on (assigned c w a)) input acts)).outcome ≢ Wrong → Meeting w (on (assigned c w a)) t (to_do (assignment (base_of w.top.function) a) ++ rest) size (24 * (target_nodes a.target + expression_nodes a.value.expression))
  assignment_meets w t rest a size f s b h =
      let g = on_has (assigned c w a) input acts h in
      let m = assignment_moves c functions callees input acts result below w g.0 t a f g.1 in
      let cost = 24 * (target_nodes a.target + expression_nodes a.value.expression) in
      let codes = assignment (base_of w.top.function) a in
      subst (λ (o : Option World). Meeting w (on o) t (to_do codes ++ rest) size cost) (sym g.1)
      (by_steps c p (0, size) (Going g.0 input acts) (stood w t (to_do codes ++ rest)) (stood g.0 m.after rest) 1 cost (omega arith) (m.way rest) (moved_relates w g.0 t rest codes cost m s b))

  -- a round of a `while`
  while_by : (w : World) (t : Temporaries) (rest : List Item) (e : Test) (body : List Statement) (depth size : ℕ) (b : Bool) → Follows (base_of w.top.function) depth w.top.left rest → Below c w.top.result result w.below below → Chooses w t (condition_of e (base_of w.top.function)) b (24 * test_nodes e) → Meeting w (tested_turn w (Some b) body (Again e body)) t (Do (while_loop (base_of w.top.function) e body) ∷ End ∷ rest) size (1 + 24 * test_nodes e)
  while_by w t rest e body depth size true f below' x =
      let base = base_of w.top.function in
      let cw = core_world c w t [] result below in
      let m = condition_of e base in
      let i = code.If m.value [] (code.Exit 0 ∷ []) in
      let k = code.Block (body_code base body 0) in
      let l = while_loop base e body in
      let r = Do l ∷ End ∷ rest in
      by_steps c p (0, size) _ _ (stood w x.after (to_do (body_code base body 0) ++ (End ∷ r))) 3 (1 + 24 * test_nodes e) (omega arith)
      (costing (language p) (omega arith) (then (language p) (then (language p)
      (subst (λ (z : List Item). Reaches (language p) (stood w t r) (stood w t z) 1 1) (opened_while m.hoists i k l rest) (loops p input acts cw t (while_round base e (body_code base body 0)) (End ∷ rest)))
      (x.way [] (code.Exit 0 ∷ []) (Do k ∷ r)))
      (subst (λ (z : List Item). Reaches (language p) (stood w x.after (Do k ∷ r)) (stood w x.after z) 1 0) (append_assoc (to_do (body_code base body 0)) (End ∷ []) r) (blocks p input acts cw x.after (body_code base body 0) r))))
      (subst (λ (z : List Left). Related c (Going (with_left w z) input acts) (stood w x.after (to_do (body_code base body 0) ++ (End ∷ r)))) (sym (append_assoc (whole body) (Again e body ∷ []) w.top.left))
      (relate w x.after (whole body ++ (Again e body ∷ w.top.left)) (to_do (body_code base body 0) ++ (End ∷ r)) x.fits
      (among 0 (follows_body base 0 body (Again e body ∷ w.top.left) (End ∷ r) (body_end (Again e body ∷ w.top.left) r (again depth e body w.top.left rest f)))) below'))
  while_by w t rest e body depth size false f below' x =
      let base = base_of w.top.function in
      let cw = core_world c w t [] result below in
      let m = condition_of e base in
      let i = code.If m.value [] (code.Exit 0 ∷ []) in
      let k = code.Block (body_code base body 0) in
      let l = while_loop base e body in
      let r = Do l ∷ End ∷ rest in
      by_steps c p (0, size) _ _ (stood w x.after rest) 3 (1 + 24 * test_nodes e) (omega arith)
      (costing (language p) (omega arith) (then (language p) (then (language p)
      (subst (λ (z : List Item). Reaches (language p) (stood w t r) (stood w t z) 1 1) (opened_while m.hoists i k l rest) (loops p input acts cw t (while_round base e (body_code base body 0)) (End ∷ rest)))
      (x.way [] (code.Exit 0 ∷ []) (Do k ∷ r)))
      (exits p input acts cw x.after 0 (Do k ∷ r))))
      (relate w x.after w.top.left rest x.fits (among depth f) below')

  pub while_meets : (w : World) (t : Temporaries) (rest : List Item) (e : Test) (body : List Statement) (depth size : ℕ) → Fits w.top.temporaries (base_of w.top.function) t → Follows (base_of w.top.function) depth w.top.left rest → Below c w.top.result result w.below below → (seen (after_turn (tested_turn w (holds (scene_of c w) e) body (Again e body)) input acts)).outcome ≢ Wrong → Meeting w (tested_turn w (holds (scene_of c w) e) body (Again e body)) t (Do (while_loop (base_of w.top.function) e body) ∷ End ∷ rest) size (1 + 24 * test_nodes e)
  while_meets w t rest e body depth size f s b h =
      let g = tested_has w (holds (scene_of c w) e) body (Again e body) input acts h in
      subst (λ (o : Option Bool). Meeting w (tested_turn w o body (Again e body)) t (Do (while_loop (base_of w.top.function) e body) ∷ End ∷ rest) size (1 + 24 * test_nodes e)) (sym g.1)
      (while_by w t rest e body depth size g.0 s b (choose w t e g.0 f g.1))
