-- Core simulates the source.
use Rattle.std.specs.Prelude.{◌≡◌, ◌≢◌, ℕ, ◌+◌, ◌*◌, List, [], ◌∷◌, ◌++◌, map, Option, Some, None}
use Rattle.std.proofs.Common.{suc, refl, ap, sym, subst, arith, inr}
use Rattle.cc_base.specs.declared.run.Act.{Act}
use Rattle.cc_base.specs.declared.run.Outcome.TheVariants.{Wrong, Deep, Running}
use Rattle.pass_core.specs.Semantics.{Met, Simulates}
use Rattle.clight_unit.specs.declared.statement.Statement.{Statement, out-Statement}
use Rattle.clight_unit.specs.declared.statement.Statement.TheOpen.{Statement-F}
use Rattle.clight_unit.specs.declared.statement.Statement.TheFolds.{map-Statement, fold_out-Statement, fold-Arm}
use Rattle.clight_unit.specs.declared.statement.Arm.{Arm}
use Rattle.clight_unit.specs.declared.statement.Simple.{Simple}
use Rattle.clight_unit.specs.declared.statement.Simple.TheVariants as source_simple
use Rattle.clight_unit.specs.declared.statement.Call.{Call}
use Rattle.clight_unit.specs.declared.statement.Value.{Value as Converted}
use Rattle.unit_names.specs.declared.meaning.Meaning.{Meaning}
use Rattle.clight_sem.specs.Functions.{Linked}
use Rattle.clight_sem.specs.Prices.{statement_nodes, simple_nodes, value_nodes_if_any, first_weight, test_nodes_if_any, test_nodes, expression_nodes, target_nodes}
use Rattle.clight_sem.specs.States.{Item as Left, Whole, World, Turned, On, Run, Going, seen, whole, with_left}
use Rattle.clight_sem.specs.Turns.{called, done, returned, fallen, statement_turn, turn_of, after_turn, source}
use Rattle.core_lang.specs.declared.syntax.Function.{Function as CoreFunction}
use Rattle.core_lang.specs.declared.syntax.Statement.{Statement as Code}
use Rattle.core_lang.specs.declared.syntax.Statement.TheVariants as code
use Rattle.core_lang.specs.Meaning.{Temporaries, Program, Item, Do, End, to_do, leave, Frame as CoreFrame, Run as CoreRun}
use Rattle.pass_core.specs.Turns.{seen as core_seen}
use Rattle.core_lang.specs.Units.{core as language}
use Rattle.pass_core.specs.Meets.{Reaches}
use Rattle.pass_core.specs.laws.Meets.{stay, from_equal, costing}
use Rattle.core_gen.specs.Translation.{Coder, ArmCode, while_round, do_round, for_round, simple_code, simple_if_any, call, return_code, statement_gen, arm_gen, code_of, arm_code}
use Rattle.core_gen.specs.laws.Stepping.{blocks, exits, passes}
use Rattle.core_gen.specs.Relation.{Fits, body_code, while_loop, do_loop, for_loop, Follows, nothing, at_end, at_exit, statement, simple, for_test, body_end, Round, again, do_test, for_step, Stands, among, round, program, core_world, Below, Related, going, is_over, together, statement_size_step, arm_size_step, statement_size, left_size, measure}
use Rattle.core_gen.specs.laws.Following.{coded_body, leave_to_do, follows_body, broken, continued}
use Rattle.core_gen.specs.Units.{base_of}
use Rattle.core_gen.specs.laws.Meeting.{Meets, by_steps, later, cheaply, meets}
use Rattle.core_gen.specs.laws.Turning.{stood, relate, assignment_meets, while_meets}
use Rattle.core_gen.specs.laws.Looping.{do_enters, do_meets, for_meets, before_test, step_meets, if_meets}

-- a turn is not wrong, and not too deep
pub record Right (y : Turned) (input : List ℕ) (acts : List Act) : Type 0 where
  pub right : (seen (after_turn y input acts)).outcome ≢ Wrong
  pub shallow : (seen (after_turn y input acts)).outcome ≢ Deep

-- what is still to be shown of calls and returns
pub record CallsMet (c : Linked) (functions : List (List CoreFunction)) (callees : List (List Meaning)) : Type 0 where
  pub calls : (input : List ℕ) (acts : List Act) (result : Option ℕ) (below : List CoreFrame) (w : World) (t : Temporaries) (rest : List Item) (x : Call) (size : ℕ) → Fits w.top.temporaries (base_of w.top.function) t → Stands (base_of w.top.function) w.top.left rest → Below c w.top.result result w.below below → Right (called c w x) input acts → Meets c (program c functions callees) (0, size) (after_turn (called c w x) input acts) (stood c functions callees input acts result below w t (to_do (call (base_of w.top.function) x) ++ rest)) (24 * (8 + simple_nodes (source_simple.Call x)))
  pub returns : (input : List ℕ) (acts : List Act) (result : Option ℕ) (below : List CoreFrame) (w : World) (t : Temporaries) (rest : List Item) (v : Option Converted) (size : ℕ) → Fits w.top.temporaries (base_of w.top.function) t → Below c w.top.result result w.below below → Right (returned c w v) input acts → Meets c (program c functions callees) (0, size) (after_turn (returned c w v) input acts) (stood c functions callees input acts result below w t (to_do (return_code (base_of w.top.function) v) ++ rest)) (24 * (8 + value_nodes_if_any v))
  pub ends : (input : List ℕ) (acts : List Act) (result : Option ℕ) (below : List CoreFrame) (w : World) (t : Temporaries) (size : ℕ) → Fits w.top.temporaries (base_of w.top.function) t → Below c w.top.result result w.below below → Right (fallen c w) input acts → Meets c (program c functions callees) (0, size) (after_turn (fallen c w) input acts) (stood c functions callees input acts result below w t []) (24 * 8)

size_body : (ss : List Statement) (left : List Left) → left_size (whole ss ++ left) ≡ together (map statement_size ss) + left_size left
size_body [] left = let e : left_size left ≡ 0 + left_size left = omega arith in e
size_body (s ∷ ss) left = let h = size_body ss left in let e : statement_size s + left_size (whole ss ++ left) ≡ statement_size s + together (map statement_size ss) + left_size left = omega (arith, h) in e

opened_block : (h : List Code) (l : Code) (rest : List Item) → (to_do (h ++ l ∷ []) ++ End ∷ []) ++ rest ≡ to_do h ++ (Do l ∷ End ∷ rest)
opened_block [] l rest = refl
opened_block (s ∷ h) l rest = ap (λ (x : List Item). Do s ∷ x) (opened_block h l rest)

module _ (c : Linked) (functions : List (List CoreFunction)) (callees : List (List Meaning)) (others : CallsMet c functions callees) (input : List ℕ) (acts : List Act) (result : Option ℕ) (below : List CoreFrame) where
  abbrev p : Program
  p = program c functions callees

  abbrev at_world : World → Temporaries → List Item → CoreRun
  at_world w t rest = stood c functions callees input acts result below w t rest

  abbrev Met_by : World → Turned → Temporaries → List Item → ℕ → ℕ → Type 0
  Met_by w y t rest size cost = Meets c p (0, size) (after_turn y input acts) (at_world w t rest) cost

  abbrev coders : ℕ → Statement-F Statement Arm → Statement-F Coder ArmCode
  coders base = map-Statement Statement Arm Coder ArmCode (code_of base) (arm_code base)

  abbrev sizes : Statement-F Statement Arm → Statement-F ℕ ℕ
  sizes = map-Statement Statement Arm ℕ ℕ statement_size (λ (a : Arm). fold-Arm ℕ ℕ statement_size_step arm_size_step a)

  simple_meets : (w : World) (t : Temporaries) (rest : List Item) (x : Simple) (size : ℕ) → Fits w.top.temporaries (base_of w.top.function) t → Stands (base_of w.top.function) w.top.left rest → Below c w.top.result result w.below below → Right (done c w x) input acts → Met_by w (done c w x) t (to_do (simple_code (base_of w.top.function) x) ++ rest) size (24 * (8 + simple_nodes x))
  simple_meets w t rest (source_simple.Assign a) size f s b h = cheaply c p size size _ _ (24 * (target_nodes a.target + expression_nodes a.value.expression)) (24 * (8 + simple_nodes (source_simple.Assign a))) refl (omega arith) (assignment_meets c functions callees input acts result below w t rest a size f s b h.right)
  simple_meets w t rest (source_simple.Call x) size f s b h = others.calls input acts result below w t rest x size f s b h

  -- one step, and then what is left
  stepped : (w : World) (t : Temporaries) (rest new : List Item) (left : List Left) (size cost : ℕ) → Reaches (language p) (at_world w t rest) (at_world w t new) 1 0 → Fits w.top.temporaries (base_of w.top.function) t → Stands (base_of w.top.function) left new → Below c w.top.result result w.below below → Met_by w (On (with_left w left)) t rest size cost
  stepped w t rest new left size cost way f s b = by_steps c p (0, size) _ _ (at_world w t new) 1 cost (omega arith) (costing (language p) (omega arith) way) (relate c functions callees input acts result below w t left new f s b)

  statement_meets : (w : World) (t : Temporaries) (rest : List Item) (x : Statement-F Statement Arm) (depth : ℕ) → Fits w.top.temporaries (base_of w.top.function) t → Follows (base_of w.top.function) depth w.top.left rest → Below c w.top.result result w.below below → Right (statement_turn c w x) input acts → Met_by w (statement_turn c w x) t (to_do (statement_gen (base_of w.top.function) (coders (base_of w.top.function) x) depth) ++ rest) (statement_size_step (sizes x) + left_size w.top.left) (24 * (8 + statement_nodes x))
  statement_meets w t rest Statement-F.Empty depth f s b h = record {
    target = at_world w t rest;
    least = 0;
    way = costing (language p) (omega arith) (stay (language p) (at_world w t rest));
    relates = going w t rest result below input acts f (among depth s) b;
    falls = λ none. inr (refl, omega arith);
  }
  statement_meets w t rest (Statement-F.Block body) depth f s b h =
      let base = base_of w.top.function in
      record {
        target = at_world w t (to_do (body_code base body depth) ++ rest);
        least = 0;
        way = costing (language p) (omega arith) (from_equal (language p) (ap (λ (l : List Code). at_world w t (to_do l ++ rest)) (coded_body base body depth)) (stay (language p) (at_world w t (to_do (body_code base body depth) ++ rest))));
        relates = relate c functions callees input acts result below w t (whole body ++ w.top.left) (to_do (body_code base body depth) ++ rest) f (among depth (follows_body base depth body w.top.left rest s)) b;
        falls = λ none. inr (refl, let e = size_body body w.top.left in omega (arith, e));
      }
  statement_meets w t rest (Statement-F.Initialise a) depth f s b h = cheaply c p _ _ _ _ (24 * (target_nodes a.target + expression_nodes a.value.expression)) _ refl (omega arith) (assignment_meets c functions callees input acts result below w t rest a _ f (among depth s) b h.right)
  statement_meets w t rest (Statement-F.Simple x) depth f s b h = simple_meets w t rest x _ f (among depth s) b h
  statement_meets w t rest (Statement-F.If arms None) depth f s b h = cheaply c p _ _ _ _ (24 * statement_nodes (Statement-F.If arms None)) _ refl (omega arith) (if_meets c functions callees input acts result below w t rest arms None depth _ f s b h.right)
  statement_meets w t rest (Statement-F.If arms (Some last)) depth f s b h = cheaply c p _ _ _ _ (24 * statement_nodes (Statement-F.If arms (Some last))) _ refl (omega arith) (if_meets c functions callees input acts result below w t rest arms (Some last) depth _ f s b h.right)
  statement_meets w t rest (Statement-F.While e body) depth f s b h =
      let base = base_of w.top.function in
      let cw = core_world c w t [] result below in
      subst (λ (l : List Code). Met_by w (statement_turn c w (Statement-F.While e body)) t (Do (code.Block (code.Loop (while_round base e l) ∷ [])) ∷ rest) (1 + left_size w.top.left) (24 * (8 + test_nodes e))) (sym (coded_body base body 0))
      (later c p _ _ _ (at_world w t (Do (while_loop base e body) ∷ End ∷ rest)) 1 (1 + 24 * test_nodes e) 0 _ (omega arith) (omega arith) (blocks p input acts cw t (while_loop base e body ∷ []) rest)
      (while_meets c functions callees input acts result below w t rest e body depth _ f s b h.right))
  statement_meets w t rest (Statement-F.Do body e) depth f s b h =
      let base = base_of w.top.function in
      let cw = core_world c w t [] result below in
      subst (λ (l : List Code). Met_by w (statement_turn c w (Statement-F.Do body e)) t (Do (code.Block (code.Loop (do_round base e l) ∷ [])) ∷ rest) (1 + left_size w.top.left) (24 * (8 + 0))) (sym (coded_body base body 0))
      (cheaply c p _ _ _ _ (0 + 1) _ refl (omega arith)
      (do_enters c functions callees input acts result below w t rest e body depth _ 0 1 _ (blocks p input acts cw t (do_loop base e body ∷ []) rest) f s b))
  statement_meets w t rest (Statement-F.For first e step body) depth f s b h =
      let base = base_of w.top.function in
      let cw = core_world c w t [] result below in
      let l = for_loop base e step body in
      let codes = simple_if_any base first ++ l ∷ [] in
      let r = to_do (simple_if_any base first) ++ (Do l ∷ End ∷ rest) in
      subst (λ (k : List Code). Met_by w (statement_turn c w (Statement-F.For first e step body)) t (Do (code.Block (simple_if_any base first ++ code.Loop (for_round base e step k) ∷ [])) ∷ rest) (1 + left_size w.top.left) (24 * (8 + 0))) (sym (coded_body base body 0))
      (by_steps c p _ _ _ (at_world w t r) 1 _ (omega arith)
      (costing (language p) (omega arith) (subst (λ (z : List Item). Reaches (language p) (at_world w t (Do (code.Block codes) ∷ rest)) (at_world w t z) 1 0) (opened_block (simple_if_any base first) l rest) (blocks p input acts cw t codes rest)))
      (relate c functions callees input acts result below w t _ r f (among (suc depth) (before_test c functions callees input acts result below base depth first e step body w.top.left rest s)) b))
  statement_meets w t rest Statement-F.Break depth f s b h =
      let cw = core_world c w t [] result below in
      stepped w t (Do (code.Exit (depth + 1)) ∷ rest) (leave (suc depth) rest) _ _ _
      (subst (λ (k : ℕ). Reaches (language p) (at_world w t (Do (code.Exit k) ∷ rest)) (at_world w t (leave (suc depth) rest)) 1 0) (let e : suc depth ≡ depth + 1 = omega arith in e) (exits p input acts cw t (suc depth) rest))
      f (broken (base_of w.top.function) depth w.top.left rest s) b
  statement_meets w t rest Statement-F.Continue depth f s b h =
      let cw = core_world c w t [] result below in
      stepped w t (Do (code.Exit depth) ∷ rest) (leave depth rest) _ _ _ (exits p input acts cw t depth rest) f (continued (base_of w.top.function) depth w.top.left rest s) b
  statement_meets w t rest (Statement-F.Return v) depth f s b h = others.returns input acts result below w t rest v _ f b h

  round_meets : (w : World) (t : Temporaries) (left : List Left) (rest : List Item) → Fits w.top.temporaries (base_of w.top.function) t → Round (base_of w.top.function) left rest → Below c w.top.result result w.below below → Right (turn_of c (with_left w left) left) input acts → Met_by w (turn_of c (with_left w left) left) t rest (left_size left) (24 * first_weight left)
  round_meets w t left rest f (again depth e body l r s) b h = cheaply c p _ _ _ _ (1 + 24 * test_nodes e) _ refl (omega arith) (while_meets c functions callees input acts result below (with_left w l) t r e body depth _ f s b h.right)
  round_meets w t left rest f (do_test depth e body l r s) b h = cheaply c p _ _ _ _ (24 * test_nodes e + 1) _ refl (omega arith) (do_meets c functions callees input acts result below (with_left w l) t r e body depth _ f s b h.right)
  round_meets w t left rest f (for_step depth e step body l r s) b h = cheaply c p _ _ _ _ 0 _ refl (omega arith) (step_meets c functions callees input acts result below (with_left w l) t r e step body depth f s b)

  follows_meet : (w : World) (t : Temporaries) (depth : ℕ) (left : List Left) (rest : List Item) → Fits w.top.temporaries (base_of w.top.function) t → Follows (base_of w.top.function) depth left rest → Below c w.top.result result w.below below → Right (turn_of c (with_left w left) left) input acts → Met_by w (turn_of c (with_left w left) left) t rest (left_size left) (24 * first_weight left)
  follows_meet w t depth left rest f nothing b h = others.ends input acts result below (with_left w []) t _ f b h
  follows_meet w t depth left rest f (at_end d l r s) b h = later c p _ _ _ (at_world w t r) 1 (24 * first_weight l) 0 _ (omega arith) (omega arith) (passes p input acts (core_world c w t [] result below) t r) (follows_meet w t d l r f s b h)
  follows_meet w t depth left rest f (at_exit d l r more s) b h = later c p _ _ _ (at_world w t r) 1 (24 * first_weight l) 0 _ (omega arith) (omega arith)
      (subst (λ (z : List Item). Reaches (language p) (at_world w t (Do (code.Exit 0) ∷ (to_do more ++ (End ∷ r)))) (at_world w t z) 1 0) (leave_to_do 0 more (End ∷ r)) (exits p input acts (core_world c w t [] result below) t 0 (to_do more ++ (End ∷ r))))
      (follows_meet w t d l r f s b h)
  follows_meet w t depth left rest f (statement d s l r g) b h =
      let base = base_of w.top.function in
      let x = out-Statement s in
      let e = fold_out-Statement Coder ArmCode (statement_gen base) (arm_gen base) s in
      let k = fold_out-Statement ℕ ℕ statement_size_step arm_size_step s in
      subst (λ (m : Coder). Met_by (with_left w l) (statement_turn c (with_left w l) x) t (to_do (m d) ++ r) (left_size (Whole s ∷ l)) (24 * (8 + statement_nodes x))) (sym e)
      (cheaply c p _ _ _ _ _ _ (ap (λ (n : ℕ). n + left_size l) (sym k)) (omega arith) (statement_meets (with_left w l) t r x d f g b h))
  follows_meet w t depth left rest f (simple d x l r g) b h = simple_meets (with_left w l) t r x _ f (among d g) b h
  follows_meet w t depth left rest f (for_test d e step body l r g) b h = cheaply c p _ _ _ _ (1 + 24 * test_nodes_if_any e) _ refl (omega arith) (for_meets c functions callees input acts result below (with_left w l) t r e step body d _ f g b h.right)
  follows_meet w t depth left rest f (body_end l r g) b h = later c p _ _ _ (at_world w t r) 1 (24 * first_weight l) 0 _ (omega arith) (omega arith) (passes p input acts (core_world c w t [] result below) t r) (round_meets w t l r f g b h)

  pub stands_meet : (w : World) (t : Temporaries) (left : List Left) (rest : List Item) → Fits w.top.temporaries (base_of w.top.function) t → Stands (base_of w.top.function) left rest → Below c w.top.result result w.below below → Right (turn_of c (with_left w left) left) input acts → Met_by w (turn_of c (with_left w left) left) t rest (left_size left) (24 * first_weight left)
  stands_meet w t left rest f (among depth s) b h = follows_meet w t depth left rest f s b h
  stands_meet w t left rest f (round s) b h = round_meets w t left rest f s b h

module _ (c : Linked) (functions : List (List CoreFunction)) (callees : List (List Meaning)) (others : CallsMet c functions callees) where
  met : (r : Run) (t : CoreRun) → Related c r t → (seen r).outcome ≡ Running → (seen ((source c).step r)).outcome ≢ Wrong → (seen ((source c).step r)).outcome ≢ Deep → Met (source c) (language (program c functions callees)) (Related c) measure r ((source c).step r) t
  met r t (going w u rest result below input acts f s b) running right shallow =
      meets c (program c functions callees) (Going w input acts) _ _ (24 * first_weight w.top.left) (omega arith)
      (stands_meet c functions callees others input acts result below w u w.top.left rest f s b (record { right = right; shallow = shallow }))
  met r t (is_over how acts over) running right shallow = absurd (over running)

  alike : (r : Run) (t : CoreRun) → Related c r t → core_seen t ≡ seen r
  alike r t (going w u rest result below input acts f s b) = refl
  alike r t (is_over how acts over) = refl

  -- Core simulates the source, where calls and returns are met
  pub simulates : Simulates (source c) (language (program c functions callees)) (Related c) measure
  simulates = record { alike = alike; meets = met }
