-- Turns of `do`, `for` and `if` are met by steps of Core.
use Rattle.std.specs.Prelude.{◌≡◌, ◌≢◌, ℕ, ◌+◌, ◌*◌, ◌<◌, Bool, true, false, List, [], ◌∷◌, ◌++◌, map, Option, Some, None, option_map}
use Rattle.std.proofs.Common.{suc, refl, ap, sym, ◌∙◌, subst, arith, inr}
use Rattle.std.proofs.lemmas.List.{append_assoc}
use Rattle.cc_base.specs.declared.run.Act.{Act}
use Rattle.cc_base.specs.declared.run.Outcome.TheVariants.{Wrong}
use Rattle.clight_unit.specs.declared.expression.Test.{Test}
use Rattle.clight_unit.specs.declared.statement.Statement.{Statement}
use Rattle.clight_unit.specs.declared.statement.Statement.TheFolds.{map-Arm, fold_out-Arm}
use Rattle.clight_unit.specs.declared.statement.Arm.{Arm, out-Arm}
use Rattle.clight_unit.specs.declared.statement.Simple.{Simple}
use Rattle.unit_names.specs.declared.meaning.Meaning.{Meaning}
use Rattle.clight_sem.specs.Functions.{Linked}
use Rattle.clight_sem.specs.Values.{holds}
use Rattle.clight_sem.specs.Prices.{test_nodes, test_nodes_if_any, arms_nodes}
use Rattle.clight_sem.specs.States.{Item as Left, TestOfDo, TestOfFor, StepOfFor, World, Turned, On, Going, seen, scene_of, whole, alone, with_left, before}
use Rattle.clight_sem.specs.Turns.{tested as tested_turn, holds_if_any, chosen, chosen_by, chose, last_block, after_turn}
use Rattle.core_lang.specs.declared.syntax.Function.{Function as CoreFunction}
use Rattle.core_lang.specs.declared.syntax.Statement.{Statement as Code}
use Rattle.core_lang.specs.declared.syntax.Statement.TheVariants as code
use Rattle.core_lang.specs.Meaning.{Temporaries, Program, Item, Do, End, to_do, Frame as CoreFrame, Run as CoreRun}
use Rattle.core_lang.specs.Units.{core as language}
use Rattle.pass_core.specs.Meets.{Reaches}
use Rattle.pass_core.specs.laws.Meets.{stay, then, from_equal, costing, loosely}
use Rattle.core_gen.specs.Translation.{Coder, ArmCode, coded, coded_if_any, condition_of, tested, do_round, for_round, simple_if_any, arms_code, statement_gen, arm_gen, code_of, arm_code}
use Rattle.core_gen.specs.laws.Stepping.{loops, blocks, exits}
use Rattle.core_gen.specs.laws.Evaluating.{some_is, to_do_behind}
use Rattle.core_gen.specs.Relation.{Fits, body_code, do_loop, for_loop, Follows, at_end, at_exit, simple, for_test, body_end, Round, do_test, for_step, among, program, core_world, Below, Related, left_size}
use Rattle.core_gen.specs.laws.Following.{coded_body, leave_to_do, follows_body}
use Rattle.core_gen.specs.Units.{base_of}
use Rattle.core_gen.specs.laws.Meeting.{Meets, by_steps}
use Rattle.core_gen.specs.laws.Turning.{stood, relate, Chooses, choose, tested_has}

-- a loop's round behind its first item
closed : (ts : List Code) (l : Code) (rest : List Item) → (to_do ts ++ Do l ∷ []) ++ (End ∷ rest) ≡ to_do ts ++ (Do l ∷ End ∷ rest)
closed ts l rest = append_assoc (to_do ts) (Do l ∷ []) (End ∷ rest)

opened_for : (h : List Code) (i k l : Code) (st : List Code) (rest : List Item) → (to_do ((h ++ i ∷ []) ++ k ∷ st) ++ Do l ∷ []) ++ (End ∷ rest) ≡ to_do h ++ (Do i ∷ Do k ∷ (to_do st ++ (Do l ∷ End ∷ rest)))
opened_for [] i k l st rest = ap (λ (x : List Item). Do i ∷ Do k ∷ x) (closed st l rest)
opened_for (s ∷ h) i k l st rest = ap (λ (x : List Item). Do s ∷ x) (opened_for h i k l st rest)

module _ (c : Linked) (functions : List (List CoreFunction)) (callees : List (List Meaning)) (input : List ℕ) (acts : List Act) (result : Option ℕ) (below : List CoreFrame) where
  abbrev p : Program
  p = program c functions callees

  abbrev at_world : World → Temporaries → List Item → CoreRun
  at_world w t rest = stood c functions callees input acts result below w t rest

  abbrev Met_by : World → Turned → Temporaries → List Item → ℕ → ℕ → Type 0
  Met_by w y t rest size cost = Meets c p (0, size) (after_turn y input acts) (at_world w t rest) cost

  -- a block whose body is entered, before an item of a loop
  pub enters : (w : World) (t : Temporaries) (item : Left) (r : List Item) (body : List Statement) (size cost least : ℕ) (from : CoreRun) → Reaches (language p) from (at_world w t (Do (code.Block (body_code (base_of w.top.function) body 0)) ∷ r)) least cost → Fits w.top.temporaries (base_of w.top.function) t → Round (base_of w.top.function) (item ∷ w.top.left) r → Below c w.top.result result w.below below → Meets c p (0, size) (Going (before (whole body ++ item ∷ []) w) input acts) from cost
  enters w t item r body size cost least from way f round_is b =
      let base = base_of w.top.function in
      let cw = core_world c w t [] result below in
      by_steps c p (0, size) _ _ (at_world w t (to_do (body_code base body 0) ++ (End ∷ r))) (least + 1) cost (omega arith)
      (costing (language p) (omega arith) (then (language p) way
      (subst (λ (z : List Item). Reaches (language p) (at_world w t (Do (code.Block (body_code base body 0)) ∷ r)) (at_world w t z) 1 0) (append_assoc (to_do (body_code base body 0)) (End ∷ []) r) (blocks p input acts cw t (body_code base body 0) r))))
      (subst (λ (z : List Left). Related c (Going (with_left w z) input acts) (at_world w t (to_do (body_code base body 0) ++ (End ∷ r)))) (sym (append_assoc (whole body) (item ∷ []) w.top.left))
      (relate c functions callees input acts result below w t (whole body ++ (item ∷ w.top.left)) (to_do (body_code base body 0) ++ (End ∷ r)) f
      (among 0 (follows_body base 0 body (item ∷ w.top.left) (End ∷ r) (body_end (item ∷ w.top.left) r round_is))) b))

  -- a `do`, from its loop on
  pub do_enters : (w : World) (t : Temporaries) (rest : List Item) (e : Test) (body : List Statement) (depth size cost least : ℕ) (from : CoreRun) → Reaches (language p) from (at_world w t (Do (do_loop (base_of w.top.function) e body) ∷ End ∷ rest)) least cost → Fits w.top.temporaries (base_of w.top.function) t → Follows (base_of w.top.function) depth w.top.left rest → Below c w.top.result result w.below below → Meets c p (0, size) (Going (before (whole body ++ TestOfDo body e ∷ []) w) input acts) from (cost + 1)
  do_enters w t rest e body depth size cost least from way f follows b =
      let base = base_of w.top.function in
      let cw = core_world c w t [] result below in
      let l = do_loop base e body in
      let k = code.Block (body_code base body 0) in
      let r = to_do (tested base e) ++ (Do l ∷ End ∷ rest) in
      enters w t (TestOfDo body e) r body size (cost + 1) (least + 1) from
      (then (language p) way
      (subst (λ (z : List Item). Reaches (language p) (at_world w t (Do l ∷ End ∷ rest)) (at_world w t z) 1 1) (closed (k ∷ tested base e) l rest) (loops p input acts cw t (do_round base e (body_code base body 0)) (End ∷ rest))))
      f (do_test depth e body w.top.left rest follows) b

  do_by : (w : World) (t : Temporaries) (rest : List Item) (e : Test) (body : List Statement) (depth size : ℕ) (b : Bool) → Follows (base_of w.top.function) depth w.top.left rest → Below c w.top.result result w.below below → Chooses c functions callees input acts result below w t (condition_of e (base_of w.top.function)) b (24 * test_nodes e) → Met_by w (tested_turn w (Some b) body (TestOfDo body e)) t (to_do (tested (base_of w.top.function) e) ++ (Do (do_loop (base_of w.top.function) e body) ∷ End ∷ rest)) size (24 * test_nodes e + 1)
  do_by w t rest e body depth size true f below' x =
      let base = base_of w.top.function in
      let m = condition_of e base in
      let i = code.If m.value [] (code.Exit 0 ∷ []) in
      let l = do_loop base e body in
      do_enters w x.after rest e body depth size (24 * test_nodes e) 1 (at_world w t (to_do (tested base e) ++ (Do l ∷ End ∷ rest)))
      (from_equal (language p) (ap (at_world w t) (to_do_behind m.hoists (i ∷ []) (Do l ∷ End ∷ rest))) (x.way [] (code.Exit 0 ∷ []) (Do l ∷ End ∷ rest)))
      x.fits f below'
  do_by w t rest e body depth size false f below' x =
      let base = base_of w.top.function in
      let cw = core_world c w t [] result below in
      let m = condition_of e base in
      let i = code.If m.value [] (code.Exit 0 ∷ []) in
      let l = do_loop base e body in
      by_steps c p (0, size) _ _ (at_world w x.after rest) 2 (24 * test_nodes e + 1) (omega arith)
      (costing (language p) (omega arith) (then (language p)
      (from_equal (language p) (ap (at_world w t) (to_do_behind m.hoists (i ∷ []) (Do l ∷ End ∷ rest))) (x.way [] (code.Exit 0 ∷ []) (Do l ∷ End ∷ rest)))
      (exits p input acts cw x.after 0 (Do l ∷ End ∷ rest))))
      (relate c functions callees input acts result below w x.after w.top.left rest x.fits (among depth f) below')

  pub do_meets : (w : World) (t : Temporaries) (rest : List Item) (e : Test) (body : List Statement) (depth size : ℕ) → Fits w.top.temporaries (base_of w.top.function) t → Follows (base_of w.top.function) depth w.top.left rest → Below c w.top.result result w.below below → (seen (after_turn (tested_turn w (holds (scene_of c w) e) body (TestOfDo body e)) input acts)).outcome ≢ Wrong → Met_by w (tested_turn w (holds (scene_of c w) e) body (TestOfDo body e)) t (to_do (tested (base_of w.top.function) e) ++ (Do (do_loop (base_of w.top.function) e body) ∷ End ∷ rest)) size (24 * test_nodes e + 1)
  do_meets w t rest e body depth size f s b h =
      let g = tested_has w (holds (scene_of c w) e) body (TestOfDo body e) input acts h in
      subst (λ (o : Option Bool). Met_by w (tested_turn w o body (TestOfDo body e)) t (to_do (tested (base_of w.top.function) e) ++ (Do (do_loop (base_of w.top.function) e body) ∷ End ∷ rest)) size (24 * test_nodes e + 1)) (sym g.1)
      (do_by w t rest e body depth size g.0 s b (choose c functions callees input acts result below w t e g.0 f g.1))

  -- a `for`, from its test on
  for_by : (w : World) (t : Temporaries) (rest : List Item) (e : Test) (step : Option Simple) (body : List Statement) (depth size : ℕ) (b : Bool) → Follows (base_of w.top.function) depth w.top.left rest → Below c w.top.result result w.below below → Chooses c functions callees input acts result below w t (condition_of e (base_of w.top.function)) b (24 * test_nodes e) → Met_by w (tested_turn w (Some b) body (StepOfFor (Some e) step body)) t (Do (for_loop (base_of w.top.function) (Some e) step body) ∷ End ∷ rest) size (1 + 24 * test_nodes e)
  for_by w t rest e step body depth size true f below' x =
      let base = base_of w.top.function in
      let cw = core_world c w t [] result below in
      let m = condition_of e base in
      let i = code.If m.value [] (code.Exit 0 ∷ []) in
      let k = code.Block (body_code base body 0) in
      let l = for_loop base (Some e) step body in
      let r = to_do (simple_if_any base step) ++ (Do l ∷ End ∷ rest) in
      enters w x.after (StepOfFor (Some e) step body) r body size (1 + 24 * test_nodes e) 2 (at_world w t (Do l ∷ End ∷ rest))
      (then (language p)
      (subst (λ (z : List Item). Reaches (language p) (at_world w t (Do l ∷ End ∷ rest)) (at_world w t z) 1 1) (opened_for m.hoists i k l (simple_if_any base step) rest) (loops p input acts cw t (for_round base (Some e) step (body_code base body 0)) (End ∷ rest)))
      (x.way [] (code.Exit 0 ∷ []) (Do k ∷ r)))
      x.fits (for_step depth (Some e) step body w.top.left rest f) below'
  for_by w t rest e step body depth size false f below' x =
      let base = base_of w.top.function in
      let cw = core_world c w t [] result below in
      let m = condition_of e base in
      let i = code.If m.value [] (code.Exit 0 ∷ []) in
      let k = code.Block (body_code base body 0) in
      let l = for_loop base (Some e) step body in
      let r = to_do (simple_if_any base step) ++ (Do l ∷ End ∷ rest) in
      by_steps c p (0, size) _ _ (at_world w x.after rest) 3 (1 + 24 * test_nodes e) (omega arith)
      (costing (language p) (omega arith) (then (language p) (then (language p)
      (subst (λ (z : List Item). Reaches (language p) (at_world w t (Do l ∷ End ∷ rest)) (at_world w t z) 1 1) (opened_for m.hoists i k l (simple_if_any base step) rest) (loops p input acts cw t (for_round base (Some e) step (body_code base body 0)) (End ∷ rest)))
      (x.way [] (code.Exit 0 ∷ []) (Do k ∷ r)))
      (subst (λ (z : List Item). Reaches (language p) (at_world w x.after (Do (code.Exit 0) ∷ Do k ∷ r)) (at_world w x.after z) 1 0) (leave_to_do 0 (simple_if_any base step) (Do l ∷ End ∷ rest)) (exits p input acts cw x.after 0 (Do k ∷ r)))))
      (relate c functions callees input acts result below w x.after w.top.left rest x.fits (among depth f) below')

  pub for_meets : (w : World) (t : Temporaries) (rest : List Item) (e : Option Test) (step : Option Simple) (body : List Statement) (depth size : ℕ) → Fits w.top.temporaries (base_of w.top.function) t → Follows (base_of w.top.function) depth w.top.left rest → Below c w.top.result result w.below below → (seen (after_turn (tested_turn w (holds_if_any (scene_of c w) e) body (StepOfFor e step body)) input acts)).outcome ≢ Wrong → Met_by w (tested_turn w (holds_if_any (scene_of c w) e) body (StepOfFor e step body)) t (Do (for_loop (base_of w.top.function) e step body) ∷ End ∷ rest) size (1 + 24 * test_nodes_if_any e)
  for_meets w t rest None step body depth size f s b h =
      let base = base_of w.top.function in
      let cw = core_world c w t [] result below in
      let k = code.Block (body_code base body 0) in
      let l = for_loop base None step body in
      let r = to_do (simple_if_any base step) ++ (Do l ∷ End ∷ rest) in
      enters w t (StepOfFor None step body) r body size 1 1 (at_world w t (Do l ∷ End ∷ rest))
      (subst (λ (z : List Item). Reaches (language p) (at_world w t (Do l ∷ End ∷ rest)) (at_world w t z) 1 1) (closed (k ∷ simple_if_any base step) l rest) (loops p input acts cw t (for_round base None step (body_code base body 0)) (End ∷ rest)))
      f (for_step depth None step body w.top.left rest s) b
  for_meets w t rest (Some e) step body depth size f s b h =
      let g = tested_has w (holds (scene_of c w) e) body (StepOfFor (Some e) step body) input acts h in
      subst (λ (o : Option Bool). Met_by w (tested_turn w o body (StepOfFor (Some e) step body)) t (Do (for_loop (base_of w.top.function) (Some e) step body) ∷ End ∷ rest) size (1 + 24 * test_nodes e)) (sym g.1)
      (for_by w t rest e step body depth size g.0 s b (choose c functions callees input acts result below w t e g.0 f g.1))

  -- a simple statement, if there is one, and then the test of a `for`
  pub before_test : (base depth : ℕ) (x : Option Simple) (e : Option Test) (step : Option Simple) (body : List Statement) (left : List Left) (rest : List Item) → Follows base depth left rest → Follows base (suc depth) ((alone x ++ TestOfFor e step body ∷ []) ++ left) (to_do (simple_if_any base x) ++ (Do (for_loop base e step body) ∷ End ∷ rest))
  before_test base depth None e step body left rest f = for_test depth e step body left rest f
  before_test base depth (Some x) e step body left rest f = simple (suc depth) x (TestOfFor e step body ∷ left) (Do (for_loop base e step body) ∷ End ∷ rest) (for_test depth e step body left rest f)

  alone_size : (x : Option Simple) (e : Option Test) (step : Option Simple) (body : List Statement) (left : List Left) → left_size ((alone x ++ TestOfFor e step body ∷ []) ++ left) < 3 + left_size left
  alone_size None e step body left = omega arith
  alone_size (Some x) e step body left = omega arith

  -- the step takes none
  pub step_meets : (w : World) (t : Temporaries) (rest : List Item) (e : Option Test) (step : Option Simple) (body : List Statement) (depth : ℕ) → Fits w.top.temporaries (base_of w.top.function) t → Follows (base_of w.top.function) depth w.top.left rest → Below c w.top.result result w.below below → Met_by w (On (before (alone step ++ TestOfFor e step body ∷ []) w)) t (to_do (simple_if_any (base_of w.top.function) step) ++ (Do (for_loop (base_of w.top.function) e step body) ∷ End ∷ rest)) (3 + left_size w.top.left) 0
  step_meets w t rest e step body depth f s b =
      let r = to_do (simple_if_any (base_of w.top.function) step) ++ (Do (for_loop (base_of w.top.function) e step body) ∷ End ∷ rest) in
      record {
        target = at_world w t r;
        least = 0;
        way = stay (language p) (at_world w t r);
        relates = relate c functions callees input acts result below w t ((alone step ++ TestOfFor e step body ∷ []) ++ w.top.left) r f (among (suc depth) (before_test (base_of w.top.function) depth step e step body w.top.left rest s)) b;
        falls = λ none. inr (refl, alone_size step e step body w.top.left);
      }

  -- the arms of an `if`

  pub record Picks (w : World) (depth : ℕ) (from : CoreRun) (body : List Statement) (cost : ℕ) : Type 0 where
    pub after : Temporaries
    pub left : List Item
    pub way : Reaches (language p) from (at_world w after left) 0 cost
    pub fits : Fits w.top.temporaries (base_of w.top.function) after
    pub follows : Follows (base_of w.top.function) (suc depth) (whole body ++ w.top.left) left

  arm_by : (w : World) (t : Temporaries) (rest : List Item) (e : Test) (own body : List Statement) (others : List Code) (depth : ℕ) (b : Bool) (cost : ℕ) (next : Option (List Statement)) → Follows (base_of w.top.function) depth w.top.left rest → (x : Chooses c functions callees input acts result below w t (condition_of e (base_of w.top.function)) b (24 * test_nodes e)) → chosen_by (Some b) own next ≡ Some body → (next ≡ Some body → Picks w depth (at_world w x.after (to_do others ++ (End ∷ rest))) body cost) → Picks w depth (at_world w t (to_do ((condition_of e (base_of w.top.function)).hoists ++ code.If (condition_of e (base_of w.top.function)).value (body_code (base_of w.top.function) own (suc depth) ++ code.Exit 0 ∷ []) [] ∷ others) ++ (End ∷ rest))) body (24 * test_nodes e + cost)
  arm_by w t rest e own body others depth true cost next f x h more =
      let base = base_of w.top.function in
      let m = condition_of e base in
      let i = code.If m.value (body_code base own (suc depth) ++ code.Exit 0 ∷ []) [] in
      let r = to_do others ++ (End ∷ rest) in
      subst (λ (z : List Statement). Picks w depth (at_world w t (to_do (m.hoists ++ i ∷ others) ++ (End ∷ rest))) z (24 * test_nodes e + cost)) (some_is h) (record {
        after = x.after;
        left = to_do (body_code base own (suc depth)) ++ (Do (code.Exit 0) ∷ r);
        way = loosely (language p) (costing (language p) (omega arith) (from_equal (language p) (ap (at_world w t) (to_do_behind m.hoists (i ∷ others) (End ∷ rest)))
            (subst (λ (z : List Item). Reaches (language p) (at_world w t (to_do m.hoists ++ (Do i ∷ r))) (at_world w x.after z) 1 (24 * test_nodes e)) (to_do_behind (body_code base own (suc depth)) (code.Exit 0 ∷ []) r) (x.way (body_code base own (suc depth) ++ code.Exit 0 ∷ []) [] r))));
        fits = x.fits;
        follows = follows_body base (suc depth) own w.top.left (Do (code.Exit 0) ∷ r) (at_exit depth w.top.left rest others f);
      })
  arm_by w t rest e own body others depth false cost next f x h more =
      let base = base_of w.top.function in
      let m = condition_of e base in
      let i = code.If m.value (body_code base own (suc depth) ++ code.Exit 0 ∷ []) [] in
      let r = to_do others ++ (End ∷ rest) in
      let y = more h in
      record {
        after = y.after;
        left = y.left;
        way = loosely (language p) (then (language p) (from_equal (language p) (ap (at_world w t) (to_do_behind m.hoists (i ∷ others) (End ∷ rest))) (x.way (body_code base own (suc depth) ++ code.Exit 0 ∷ []) [] r)) y.way);
        fits = y.fits;
        follows = y.follows;
      }

  last_code : (base : ℕ) (last : Option (List Statement)) (depth : ℕ) → body_code base (last_block last) depth ≡ coded_if_any (option_map (map (code_of base)) last) depth
  last_code base None depth = refl
  last_code base (Some body) depth = sym (coded_body base body depth)

  chosen_has : (o : Option Bool) (own body : List Statement) (next : Option (List Statement)) → chosen_by o own next ≡ Some body → (b : Bool) × (o ≡ Some b) × (chosen_by (Some b) own next ≡ Some body)
  chosen_has None own body next h = cc
  chosen_has (Some b) own body next h = (b, refl, h)

  arm_is : (base : ℕ) (a : Arm) → arm_code base a ≡ arm_gen base (map-Arm Statement Arm Coder ArmCode (code_of base) (arm_code base) (out-Arm a))
  arm_is base a = fold_out-Arm Coder ArmCode (statement_gen base) (arm_gen base) a

  pub arms_pick : (w : World) (t : Temporaries) (rest : List Item) (arms : List Arm) (last : Option (List Statement)) (body : List Statement) (depth : ℕ) → Fits w.top.temporaries (base_of w.top.function) t → Follows (base_of w.top.function) depth w.top.left rest → chosen (scene_of c w) arms last ≡ Some body → Picks w depth (at_world w t (to_do (arms_code (base_of w.top.function) depth (map (arm_code (base_of w.top.function)) arms) (body_code (base_of w.top.function) (last_block last) (suc depth))) ++ (End ∷ rest))) body (24 * arms_nodes arms)
  arms_pick w t rest [] last body depth f s h =
      let base = base_of w.top.function in
      subst (λ (z : List Statement). Picks w depth (at_world w t (to_do (body_code base (last_block last) (suc depth)) ++ (End ∷ rest))) z 0) (some_is h) (record {
        after = t;
        left = to_do (body_code base (last_block last) (suc depth)) ++ (End ∷ rest);
        way = stay (language p) _;
        fits = f;
        follows = follows_body base (suc depth) (last_block last) w.top.left (End ∷ rest) (at_end depth w.top.left rest s);
      })
  arms_pick w t rest (a ∷ arms) last body depth f s h =
      let base = base_of w.top.function in
      let e = (out-Arm a).test in
      let own = (out-Arm a).body in
      let g = chosen_has (holds (scene_of c w) e) own body (chosen (scene_of c w) arms last) h in
      let x = choose c functions callees input acts result below w t e g.0 f g.1 in
      let others = arms_code base depth (map (arm_code base) arms) (body_code base (last_block last) (suc depth)) in
      let next : depth + 1 ≡ suc depth = omega arith in
      subst (λ (z : ArmCode). Picks w depth (at_world w t (to_do ((condition_of z.test base).hoists ++ code.If (condition_of z.test base).value (z.body (depth + 1) ++ code.Exit 0 ∷ []) [] ∷ others) ++ (End ∷ rest))) body (24 * arms_nodes (a ∷ arms))) (sym (arm_is base a))
      (subst (λ (z : List Code). Picks w depth (at_world w t (to_do ((condition_of e base).hoists ++ code.If (condition_of e base).value (z ++ code.Exit 0 ∷ []) [] ∷ others) ++ (End ∷ rest))) body (24 * arms_nodes (a ∷ arms))) (sym (ap (λ (k : ℕ). coded (map (code_of base) own) k) next ∙ coded_body base own (suc depth)))
      (let y = arm_by w t rest e own body others depth g.0 (24 * arms_nodes arms) (chosen (scene_of c w) arms last) s x g.2 (λ i. arms_pick w x.after rest arms last body depth x.fits s i) in
      record { after = y.after; left = y.left; way = costing (language p) (omega arith) y.way; fits = y.fits; follows = y.follows }))

  chose_has : (w : World) (o : Option (List Statement)) → (seen (after_turn (chose w o) input acts)).outcome ≢ Wrong → (body : List Statement) × (o ≡ Some body)
  chose_has w None h = absurd (h refl)
  chose_has w (Some body) h = (body, refl)

  pub if_meets : (w : World) (t : Temporaries) (rest : List Item) (arms : List Arm) (last : Option (List Statement)) (depth size : ℕ) → Fits w.top.temporaries (base_of w.top.function) t → Follows (base_of w.top.function) depth w.top.left rest → Below c w.top.result result w.below below → (seen (after_turn (chose w (chosen (scene_of c w) arms last)) input acts)).outcome ≢ Wrong → Met_by w (chose w (chosen (scene_of c w) arms last)) t (Do (code.Block (arms_code (base_of w.top.function) depth (map (arm_code (base_of w.top.function)) arms) (coded_if_any (option_map (map (code_of (base_of w.top.function))) last) (depth + 1)))) ∷ rest) size (24 * arms_nodes arms)
  if_meets w t rest arms last depth size f s b h =
      let base = base_of w.top.function in
      let cw = core_world c w t [] result below in
      let g = chose_has w (chosen (scene_of c w) arms last) h in
      let next : depth + 1 ≡ suc depth = omega arith in
      let y = arms_pick w t rest arms last g.0 depth f s g.1 in
      let codes : List Code → List Code = λ l. arms_code base depth (map (arm_code base) arms) l in
      let same : coded_if_any (option_map (map (code_of base)) last) (depth + 1) ≡ body_code base (last_block last) (suc depth) = ap (coded_if_any (option_map (map (code_of base)) last)) next ∙ sym (last_code base last (suc depth)) in
      subst (λ (o : Option (List Statement)). Met_by w (chose w o) t (Do (code.Block (codes (coded_if_any (option_map (map (code_of base)) last) (depth + 1)))) ∷ rest) size (24 * arms_nodes arms)) (sym g.1)
      (subst (λ (l : List Code). Met_by w (chose w (Some g.0)) t (Do (code.Block (codes l)) ∷ rest) size (24 * arms_nodes arms)) (sym same)
      (by_steps c p (0, size) _ _ (at_world w y.after y.left) (1 + 0) (24 * arms_nodes arms) (omega arith)
      (costing (language p) (omega arith) (then (language p)
      (subst (λ (z : List Item). Reaches (language p) (at_world w t (Do (code.Block (codes (body_code base (last_block last) (suc depth)))) ∷ rest)) (at_world w t z) 1 0) (append_assoc (to_do (codes (body_code base (last_block last) (suc depth)))) (End ∷ []) rest) (blocks p input acts cw t (codes (body_code base (last_block last) (suc depth))) rest))
      y.way))
      (relate c functions callees input acts result below w y.after (whole g.0 ++ w.top.left) y.left y.fits (among (suc depth) y.follows) b)))
