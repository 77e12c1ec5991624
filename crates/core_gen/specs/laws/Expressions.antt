-- What is made of an expression, a place or a test has the source's value, at a price that the nodes pay.
use Rattle.std.specs.Prelude.{◌≡◌, ℕ, ◌+◌, ◌*◌, ◌≤◌, Bool, true, false, List, get_or, min, Option, Some, None, option_map}
use Rattle.std.proofs.Common.{refl, ap, sym, ◌∙◌, subst, arith}
use Rattle.std.proofs.Math.Nat.{min-eq_left}
use Rattle.cc_base.specs.declared.run.Act.{Act}
use Rattle.cc_base.specs.Words.{add32}
use Rattle.block_mem.specs.Arithmetic.{bit}
use Rattle.block_mem.specs.Blocks.{Blocks}
use Rattle.block_mem.specs.Operators.{applied}
use Rattle.block_mem.specs.declared.value.BlockName.{BlockName}
use Rattle.block_mem.specs.declared.value.Value.{Value}
use Rattle.block_mem.specs.declared.value.Value.TheVariants.{Int, Ptr}
use Rattle.block_mem.specs.declared.operator.Op.TheVariants.{PtrAdd}
use Rattle.clight_unit.specs.declared.expression.Expression.{Expression}
use Rattle.clight_unit.specs.declared.expression.Expression.TheOpen.{Expression-F, Test-F, Place-F}
use Rattle.clight_unit.specs.declared.expression.Expression.TheFolds.{map-Expression, map-Place, map-Test, fold-roll-Expression, fold-roll-Place, fold-roll-Test, ind-Expression, ind-Place, ind-Test}
use Rattle.clight_unit.specs.declared.expression.Expression.TheViews.{roll-Expression, roll-Place, roll-Test}
use Rattle.clight_unit.specs.declared.expression.Test.{Test}
use Rattle.clight_unit.specs.declared.expression.Place.{Place}
use Rattle.clight_sem.specs.Bounds.{compared_by}
use Rattle.clight_sem.specs.Values.{Scene, of_one, of_two, held, member, truth_of, expression_step, place_step, test_step, value_of, place_of, holds}
use Rattle.clight_sem.specs.Prices.{expression_nodes_step, place_nodes_step, test_nodes_step, expression_nodes, place_nodes, test_nodes}
use Rattle.core_lang.specs.declared.syntax.Expression.{Expression as Core, out-Expression}
use Rattle.core_lang.specs.declared.syntax.Expression.TheOpen as parts
use Rattle.core_lang.specs.declared.syntax.Expression.TheFolds.{map-Expression as map-core, fold_out-Expression as fold_out-core}
use Rattle.core_lang.specs.declared.syntax.Expression.TheVariants as core
use Rattle.core_lang.specs.Meaning.{Temporaries, behind, expression_step as core_expression_step, value_of as core_value, Program, objects_at, World}
use Rattle.core_lang.specs.Prices.{expression_price}
use Rattle.core_gen.specs.Translation.{Made}
use Rattle.core_gen.specs.Translation.{Maker, TestMaker, moved_by, moved, condition, condition_made, second_of, set_to, both_of, either_of, expression_gen, place_gen, test_gen, made_of, place_made, test_made, condition_of}
use Rattle.core_gen.specs.laws.Stepping.{scene}
use Rattle.core_lang.specs.laws.Opened.{value_constant, value_temporary, value_address, value_local, value_load, value_unary, value_binary, price_constant, price_temporary, price_address, price_local, price_load, price_unary, price_binary}
use Rattle.core_gen.specs.Relation.{Fits}
use Rattle.core_gen.specs.laws.Evaluating.{some_is, some_within, still_fits, Evaluates, Decides, Tests, condition_price, condition_value, one_has, two_have, held_has, truth_has, BothWays, first_decides, second_decides, both_ways, EitherWays, first_holds, second_holds, either_ways, plainly, further, paired, chosen_value, chosen_true, chosen_false, second_true, second_false}

-- a member's place is its pointer, moved
member_has : (m : Blocks) (offset : ℕ) (x : Option Value) (v : Value) → member offset x ≡ Some v → (a : Value) × (x ≡ Some a) × (applied m (PtrAdd 1) a (Int offset) ≡ Some v)
member_has m offset None v h = cc
member_has m offset (Some (Int n)) v h = cc
member_has m offset (Some (Ptr b o)) v h = (Ptr b o, refl, (let e : offset * 1 ≡ offset = omega arith in ap (λ (k : ℕ). Some (Ptr b (add32 o k))) e) ∙ h)

moved_price_by : (x : parts.Expression-F Core) (offset : ℕ) (e : Core) → expression_price (moved_by x offset e) ≤ 12 + expression_price e
moved_price_by (parts.Expression-F.Constant c) offset e = let a = price_binary (PtrAdd 1) e (core.Constant offset) in let b = price_constant offset in omega (arith, a, b)
moved_price_by (parts.Expression-F.Temporary k) offset e = let a = price_binary (PtrAdd 1) e (core.Constant offset) in let b = price_constant offset in omega (arith, a, b)
moved_price_by (parts.Expression-F.Address symbol plus) offset e = let a = price_address symbol (add32 plus offset) in omega (arith, a)
moved_price_by (parts.Expression-F.Local index) offset e = let a = price_binary (PtrAdd 1) e (core.Constant offset) in let b = price_constant offset in omega (arith, a, b)
moved_price_by (parts.Expression-F.Load w x) offset e = let a = price_binary (PtrAdd 1) e (core.Constant offset) in let b = price_constant offset in omega (arith, a, b)
moved_price_by (parts.Expression-F.Unary op x) offset e = let a = price_binary (PtrAdd 1) e (core.Constant offset) in let b = price_constant offset in omega (arith, a, b)
moved_price_by (parts.Expression-F.Binary op x y) offset e = let a = price_binary (PtrAdd 1) e (core.Constant offset) in let b = price_constant offset in omega (arith, a, b)

moved_price : (offset : ℕ) (e : Core) → expression_price (moved offset e) ≤ 12 + expression_price e
moved_price offset e = moved_price_by (out-Expression e) offset e

module _ (p : Program) (w : World) (u : Temporaries) (offset : ℕ) (e : Core) (a v : Value) (h : core_value (scene p w u) e ≡ Some a) (i : applied w.memory (PtrAdd 1) a (Int offset) ≡ Some v) where
  added : core_value (scene p w u) (core.Binary (PtrAdd 1) e (core.Constant offset)) ≡ Some v
  added =
      value_binary (scene p w u) (PtrAdd 1) e (core.Constant offset)
      ∙ ap (λ (o : Option Value). of_two w.memory (PtrAdd 1) o (core_value (scene p w u) (core.Constant offset))) h
      ∙ ap (of_two w.memory (PtrAdd 1) (Some a)) (value_constant (scene p w u) offset)
      ∙ i

  -- an address takes the offset up
  address_moved : (symbol plus : ℕ) (o : Option BlockName) → option_map (behind plus) o ≡ Some a → option_map (behind (add32 plus offset)) o ≡ Some v
  address_moved symbol plus None k = cc
  address_moved symbol plus (Some b) k = (let one : offset * 1 ≡ offset = omega arith in ap (λ (z : ℕ). Some (Ptr b (add32 plus z))) (sym one)) ∙ ap (λ (z : Value). applied w.memory (PtrAdd 1) z (Int offset)) (some_is k) ∙ i

  moved_value_by : (x : parts.Expression-F Core) → out-Expression e ≡ x → core_value (scene p w u) (moved_by x offset e) ≡ Some v
  moved_value_by (parts.Expression-F.Constant c) o = added
  moved_value_by (parts.Expression-F.Temporary k) o = added
  moved_value_by (parts.Expression-F.Address symbol plus) o =
      value_address (scene p w u) symbol (add32 plus offset)
      ∙ address_moved symbol plus (get_or (objects_at p w.top.unit) symbol None) (sym (ap (λ (z : parts.Expression-F Core). core_expression_step (scene p w u) (map-core Core (Option Value) (core_value (scene p w u)) z)) o) ∙ sym (fold_out-core (Option Value) (core_expression_step (scene p w u)) e) ∙ h)
  moved_value_by (parts.Expression-F.Local index) o = added
  moved_value_by (parts.Expression-F.Load width x) o = added
  moved_value_by (parts.Expression-F.Unary op x) o = added
  moved_value_by (parts.Expression-F.Binary op x y) o = added

  moved_value : core_value (scene p w u) (moved offset e) ≡ Some v
  moved_value = moved_value_by (out-Expression e) refl

-- what the source finds expressions in, where Core has this world
abbrev pub source_scene : Program → World → List (Option Value) → Scene
source_scene p w ts = record { memory = w.memory; temporaries = ts; objects = objects_at p w.top.unit; activation = w.top.activation }

module _ (p : Program) (input : List ℕ) (acts : List Act) (w : World) (ts : List (Option Value)) where
  abbrev pub IsMade : Maker → Option Value → ℕ → ℕ → Type 0
  IsMade make o less nodes = (t : Temporaries) (n : ℕ) (v : Value) → Fits ts n t → o ≡ Some v → Evaluates p input acts w t n (make n) v less nodes

  abbrev pub IsTested : TestMaker → Option Bool → ℕ → Type 0
  IsTested make o nodes = (t : Temporaries) (n : ℕ) (b : Bool) → Fits ts n t → o ≡ Some b → Tests p input acts w t n make.differs (make.value n) b nodes

  abbrev pub ForExpression : Expression → Type 0
  ForExpression e = IsMade (made_of e) (value_of (source_scene p w ts) e) 17 (expression_nodes e)

  abbrev pub ForPlace : Place → Type 0
  ForPlace e = IsMade (place_made e) (place_of (source_scene p w ts) e) 21 (place_nodes e)

  abbrev pub ForTest : Test → Type 0
  ForTest e = IsTested (test_made e) (holds (source_scene p w ts) e) (test_nodes e)

  abbrev AnExpression : Type 0
  AnExpression = (e : Expression) × ForExpression e

  abbrev APlace : Type 0
  APlace = (e : Place) × ForPlace e

  abbrev ATest : Type 0
  ATest = (e : Test) × ForTest e

  abbrev bare : Expression-F AnExpression APlace ATest → Expression-F Expression Place Test
  bare = map-Expression AnExpression APlace ATest Expression Place Test (λ (e : AnExpression). e.0) (λ (e : APlace). e.0) (λ (e : ATest). e.0)

  abbrev bare_place : Place-F AnExpression APlace ATest → Place-F Expression Place Test
  bare_place = map-Place AnExpression APlace ATest Expression Place Test (λ (e : AnExpression). e.0) (λ (e : APlace). e.0) (λ (e : ATest). e.0)

  abbrev bare_test : Test-F AnExpression APlace ATest → Test-F Expression Place Test
  bare_test = map-Test AnExpression APlace ATest Expression Place Test (λ (e : AnExpression). e.0) (λ (e : APlace). e.0) (λ (e : ATest). e.0)

  abbrev StepMade : Expression-F Expression Place Test → Type 0
  StepMade x = IsMade (expression_gen (map-Expression Expression Place Test Maker Maker TestMaker made_of place_made test_made x)) (expression_step (source_scene p w ts) (map-Expression Expression Place Test (Option Value) (Option Value) (Option Bool) (value_of (source_scene p w ts)) (place_of (source_scene p w ts)) (holds (source_scene p w ts)) x)) 17 (expression_nodes_step (map-Expression Expression Place Test ℕ ℕ ℕ expression_nodes place_nodes test_nodes x))

  abbrev StepPlace : Place-F Expression Place Test → Type 0
  StepPlace x = IsMade (place_gen (map-Place Expression Place Test Maker Maker TestMaker made_of place_made test_made x)) (place_step (source_scene p w ts) (map-Place Expression Place Test (Option Value) (Option Value) (Option Bool) (value_of (source_scene p w ts)) (place_of (source_scene p w ts)) (holds (source_scene p w ts)) x)) 21 (place_nodes_step (map-Place Expression Place Test ℕ ℕ ℕ expression_nodes place_nodes test_nodes x))

  abbrev StepTest : Test-F Expression Place Test → Type 0
  StepTest x = IsTested (test_gen (map-Test Expression Place Test Maker Maker TestMaker made_of place_made test_made x)) (test_step (source_scene p w ts) (map-Test Expression Place Test (Option Value) (Option Value) (Option Bool) (value_of (source_scene p w ts)) (place_of (source_scene p w ts)) (holds (source_scene p w ts)) x)) (test_nodes_step (map-Test Expression Place Test ℕ ℕ ℕ expression_nodes place_nodes test_nodes x))

  -- the same, at a lesser claim on the nodes
  weaker : (t : Temporaries) (n : ℕ) (m : Made) (v : Value) (less nodes less' nodes' : ℕ) → less' + 24 * nodes ≤ less + 24 * nodes' → Evaluates p input acts w t n m v less nodes → Evaluates p input acts w t n m v less' nodes'
  weaker t n m v less nodes less' nodes' h x = record { after = x.after; kept = x.kept; cost = x.cost; steps = x.steps; value = x.value; within = let g = x.within in omega (arith, g, h); more = x.more }

  -- what goes before a condition, and the condition
  condition_is : (make : TestMaker) (t : Temporaries) (n : ℕ) (b : Bool) (nodes : ℕ) → Tests p input acts w t n make.differs (make.value n) b nodes → Decides p input acts w t n (condition_made make n) b nodes
  condition_is make t n b nodes x =
      let g = condition_value w.memory (compared_by make.differs) make.differs x.value b refl x.so in
      record {
        value = g.0;
        evaluates = further p input acts w t n (make.value n) (condition make.differs) x.value g.0 17 nodes 5 nodes x.evaluates (λ u i. g.2 p w u (make.value n).value refl i) (let e = condition_price (compared_by make.differs) make.differs (make.value n).value in omega (arith, e));
        so = g.1;
      }

  both_is : (x y : ATest) (t : Temporaries) (n : ℕ) (v : Value) → Fits ts n t → BothWays (holds (source_scene p w ts) x.0) (holds (source_scene p w ts) y.0) v → Evaluates p input acts w t n (both_of n (condition_of x.0 n) (second_of y.0 n)) v 17 (1 + test_nodes x.0 + test_nodes y.0)
  both_is x y t n v f (first_decides e i) = subst (λ (z : Value). Evaluates p input acts w t n (both_of n (condition_of x.0 n) (second_of y.0 n)) z 17 (1 + test_nodes x.0 + test_nodes y.0)) i
      (let a = condition_is (test_made x.0) t n false (test_nodes x.0) (x.1 t n false f e) in
      chosen_value p input acts w t n (condition_of x.0 n) false (second_of y.0 n) (set_to n 0) (Int 0) (test_nodes x.0) (test_nodes y.0) a
      (chosen_false p input acts w a.evaluates.after n 0 (second_of y.0 n) (24 * test_nodes y.0 + 3) (omega arith)))
  both_is x y t n v f (second_decides b e g i) = subst (λ (z : Value). Evaluates p input acts w t n (both_of n (condition_of x.0 n) (second_of y.0 n)) z 17 (1 + test_nodes x.0 + test_nodes y.0)) i
      (let a = condition_is (test_made x.0) t n true (test_nodes x.0) (x.1 t n true f e) in
      let c = y.1 a.evaluates.after n b (still_fits f a.evaluates.kept (omega arith)) g in
      chosen_value p input acts w t n (condition_of x.0 n) true (second_of y.0 n) (set_to n 0) (Int (bit b)) (test_nodes x.0) (test_nodes y.0) a
      (second_true p input acts w a.evaluates.after n (test_made y.0).differs ((test_made y.0).value n) b (set_to n 0) (test_nodes y.0) c))

  either_is : (x y : ATest) (t : Temporaries) (n : ℕ) (v : Value) → Fits ts n t → EitherWays (holds (source_scene p w ts) x.0) (holds (source_scene p w ts) y.0) v → Evaluates p input acts w t n (either_of n (condition_of x.0 n) (second_of y.0 n)) v 17 (1 + test_nodes x.0 + test_nodes y.0)
  either_is x y t n v f (first_holds e i) = subst (λ (z : Value). Evaluates p input acts w t n (either_of n (condition_of x.0 n) (second_of y.0 n)) z 17 (1 + test_nodes x.0 + test_nodes y.0)) i
      (let a = condition_is (test_made x.0) t n true (test_nodes x.0) (x.1 t n true f e) in
      chosen_value p input acts w t n (condition_of x.0 n) true (set_to n 1) (second_of y.0 n) (Int 1) (test_nodes x.0) (test_nodes y.0) a
      (chosen_true p input acts w a.evaluates.after n 1 (second_of y.0 n) (24 * test_nodes y.0 + 3) (omega arith)))
  either_is x y t n v f (second_holds b e g i) = subst (λ (z : Value). Evaluates p input acts w t n (either_of n (condition_of x.0 n) (second_of y.0 n)) z 17 (1 + test_nodes x.0 + test_nodes y.0)) i
      (let a = condition_is (test_made x.0) t n false (test_nodes x.0) (x.1 t n false f e) in
      let c = y.1 a.evaluates.after n b (still_fits f a.evaluates.kept (omega arith)) g in
      chosen_value p input acts w t n (condition_of x.0 n) false (set_to n 1) (second_of y.0 n) (Int (bit b)) (test_nodes x.0) (test_nodes y.0) a
      (second_false p input acts w a.evaluates.after n (test_made y.0).differs ((test_made y.0).value n) b (set_to n 1) (test_nodes y.0) c))

  step_made : (y : Expression-F AnExpression APlace ATest) → StepMade (bare y)
  step_made (Expression-F.Constant c) t n v f h = plainly p input acts w t n (core.Constant c) v 17 1 (λ u same. value_constant (scene p w u) c ∙ h) (let e = price_constant c in omega (arith, e))
  step_made (Expression-F.Temporary k) t n v f h = plainly p input acts w t n (core.Temporary (min k n)) v 17 1
      (λ u same. value_temporary (scene p w u) (min k n) ∙ ap u (min-eq_left (let a = some_within ts k v h in let b = f.few in omega (arith, a, b))) ∙ (still_fits {m = n} f same (omega arith)).agrees k v h) (let e = price_temporary (min k n) in omega (arith, e))
  step_made (Expression-F.Load width x) t n v f h =
      let g = held_has w.memory width _ v h in
      let y = x.1 t n g.0 f g.1 in
      further p input acts w t n (place_made x.0 n) (core.Load width) g.0 v 21 (place_nodes x.0) 17 (place_nodes x.0) y
      (λ u i. value_load (scene p w u) width (place_made x.0 n).value ∙ ap (held w.memory width) i ∙ g.2) (let e = price_load width (place_made x.0 n).value in omega (arith, e))
  step_made (Expression-F.Decayed x) t n v f h = weaker t n (place_made x.0 n) v 21 (place_nodes x.0) 17 (place_nodes x.0) (omega arith) (x.1 t n v f h)
  step_made (Expression-F.Address x) t n v f h = weaker t n (place_made x.0 n) v 21 (place_nodes x.0) 17 (1 + place_nodes x.0) (omega arith) (x.1 t n v f h)
  step_made (Expression-F.Unary op x) t n v f h =
      let g = one_has w.memory op _ v h in
      let y = x.1 t n g.0 f g.1 in
      further p input acts w t n (made_of x.0 n) (core.Unary op) g.0 v 17 (expression_nodes x.0) 17 (1 + expression_nodes x.0) y
      (λ u i. value_unary (scene p w u) op (made_of x.0 n).value ∙ ap (of_one w.memory op) i ∙ g.2) (let e = price_unary op (made_of x.0 n).value in omega (arith, e))
  step_made (Expression-F.Binary op x z) t n v f h =
      let g = two_have w.memory op _ _ v h in
      let a = x.1 t n g.0 f g.2 in
      let b = z.1 a.after (made_of x.0 n).next g.1 (still_fits f a.kept a.more) g.3 in
      paired p input acts w t n (made_of x.0 n) (made_of z.0 (made_of x.0 n).next) op g.0 g.1 v 17 17 (expression_nodes x.0) (expression_nodes z.0) a b g.4 (omega arith)
  step_made (Expression-F.Both x y) t n v f h = both_is x y t n v f (both_ways _ _ v h)
  step_made (Expression-F.Either x y) t n v f h = either_is x y t n v f (either_ways _ _ v h)

  step_place : (y : Place-F AnExpression APlace ATest) → StepPlace (bare_place y)
  step_place (Place-F.Object symbol) t n v f h = plainly p input acts w t n (core.Address symbol 0) v 21 1 (λ u same. value_address (scene p w u) symbol 0 ∙ h) (let e = price_address symbol 0 in omega (arith, e))
  step_place (Place-F.Local index) t n v f h = plainly p input acts w t n (core.Local index) v 21 1 (λ u same. value_local (scene p w u) index ∙ h) (let e = price_local index in omega (arith, e))
  step_place (Place-F.Deref x) t n v f h = weaker t n (made_of x.0 n) v 17 (expression_nodes x.0) 21 (1 + expression_nodes x.0) (omega arith) (x.1 t n v f h)
  step_place (Place-F.Index size x z) t n v f h =
      let g = two_have w.memory (PtrAdd size) _ _ v h in
      let a = x.1 t n g.0 f g.2 in
      let b = z.1 a.after (made_of x.0 n).next g.1 (still_fits f a.kept a.more) g.3 in
      paired p input acts w t n (made_of x.0 n) (made_of z.0 (made_of x.0 n).next) (PtrAdd size) g.0 g.1 v 17 21 (expression_nodes x.0) (expression_nodes z.0) a b g.4 (omega arith)
  step_place (Place-F.Member offset x) t n v f h =
      let g = member_has w.memory offset _ v h in
      further p input acts w t n (place_made x.0 n) (moved offset) g.0 v 21 (place_nodes x.0) 21 (1 + place_nodes x.0) (x.1 t n g.0 f g.1)
      (λ u i. moved_value p w u offset (place_made x.0 n).value g.0 v i g.2) (let e = moved_price offset (place_made x.0 n).value in omega (arith, e))
  step_place (Place-F.Arrow offset x) t n v f h =
      let g = member_has w.memory offset _ v h in
      further p input acts w t n (made_of x.0 n) (moved offset) g.0 v 17 (expression_nodes x.0) 21 (1 + expression_nodes x.0) (x.1 t n g.0 f g.1)
      (λ u i. moved_value p w u offset (made_of x.0 n).value g.0 v i g.2) (let e = moved_price offset (made_of x.0 n).value in omega (arith, e))

  step_test : (y : Test-F AnExpression APlace ATest) → StepTest (bare_test y)
  step_test y t n b f h =
      let g = truth_has _ b h in
      let i = one_has w.memory y.differs _ g.0 g.1 in
      record { value = i.0; evaluates = y.value.1 t n i.0 f i.1; so = ap truth_of i.2 ∙ g.2 }

  like_made : (make make' : Maker) (o o' : Option Value) (less k k' : ℕ) → make ≡ make' → o ≡ o' → k ≡ k' → IsMade make' o' less k' → IsMade make o less k
  like_made make make' o o' less k k' a b c h =
      subst (λ (m : Maker). IsMade m o less k) (sym a) (subst (λ (z : Option Value). IsMade make' z less k) (sym b) (subst (λ (z : ℕ). IsMade make' o' less z) (sym c) h))

  like_tested : (make make' : TestMaker) (o o' : Option Bool) (k k' : ℕ) → make ≡ make' → o ≡ o' → k ≡ k' → IsTested make' o' k' → IsTested make o k
  like_tested make make' o o' k k' a b c h =
      subst (λ (m : TestMaker). IsTested m o k) (sym a) (subst (λ (z : Option Bool). IsTested make' z k) (sym b) (subst (λ (z : ℕ). IsTested make' o' z) (sym c) h))

  from_step : (x : Expression-F Expression Place Test) → StepMade x → ForExpression (roll-Expression x)
  from_step x h = like_made _ _ _ _ 17 _ _
      (fold-roll-Expression Maker Maker TestMaker expression_gen place_gen test_gen x)
      (fold-roll-Expression (Option Value) (Option Value) (Option Bool) (expression_step (source_scene p w ts)) (place_step (source_scene p w ts)) (test_step (source_scene p w ts)) x)
      (fold-roll-Expression ℕ ℕ ℕ expression_nodes_step place_nodes_step test_nodes_step x) h

  from_place : (x : Place-F Expression Place Test) → StepPlace x → ForPlace (roll-Place x)
  from_place x h = like_made _ _ _ _ 21 _ _
      (fold-roll-Place Maker Maker TestMaker expression_gen place_gen test_gen x)
      (fold-roll-Place (Option Value) (Option Value) (Option Bool) (expression_step (source_scene p w ts)) (place_step (source_scene p w ts)) (test_step (source_scene p w ts)) x)
      (fold-roll-Place ℕ ℕ ℕ expression_nodes_step place_nodes_step test_nodes_step x) h

  from_test : (x : Test-F Expression Place Test) → StepTest x → ForTest (roll-Test x)
  from_test x h = like_tested _ _ _ _ _ _
      (fold-roll-Test Maker Maker TestMaker expression_gen place_gen test_gen x)
      (fold-roll-Test (Option Value) (Option Value) (Option Bool) (expression_step (source_scene p w ts)) (place_step (source_scene p w ts)) (test_step (source_scene p w ts)) x)
      (fold-roll-Test ℕ ℕ ℕ expression_nodes_step place_nodes_step test_nodes_step x) h

  pub every_expression : (e : Expression) → ForExpression e
  every_expression = ind-Expression ForExpression ForPlace ForTest (λ x y is. from_step x (subst StepMade is (step_made y))) (λ x y is. from_place x (subst StepPlace is (step_place y))) (λ x y is. from_test x (subst StepTest is (step_test y)))

  pub every_place : (e : Place) → ForPlace e
  every_place = ind-Place ForExpression ForPlace ForTest (λ x y is. from_step x (subst StepMade is (step_made y))) (λ x y is. from_place x (subst StepPlace is (step_place y))) (λ x y is. from_test x (subst StepTest is (step_test y)))

  pub every_test : (e : Test) → ForTest e
  every_test = ind-Test ForExpression ForPlace ForTest (λ x y is. from_step x (subst StepMade is (step_made y))) (λ x y is. from_place x (subst StepPlace is (step_place y))) (λ x y is. from_test x (subst StepTest is (step_test y)))

  pub every_condition : (e : Test) (t : Temporaries) (n : ℕ) (b : Bool) → Fits ts n t → holds (source_scene p w ts) e ≡ Some b → Decides p input acts w t n (condition_of e n) b (test_nodes e)
  every_condition e t n b f h = condition_is (test_made e) t n b (test_nodes e) (every_test e t n b f h)
