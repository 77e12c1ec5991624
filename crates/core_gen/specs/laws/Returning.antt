-- Returns are met by steps of Core, and what a caller does with a result.
use Rattle.std.specs.Prelude.{◌≡◌, ◌≢◌, ℕ, ◌+◌, ◌*◌, ◌≤◌, Bool, true, false, cond, min, List, [], ◌∷◌, ◌++◌, set, Option, Some, None}
use Rattle.std.proofs.Common.{refl, ap, sym, ◌∙◌, subst, arith}
use Rattle.cc_base.specs.declared.run.Act.{Act}
use Rattle.cc_base.specs.declared.run.Outcome.TheVariants.{Wrong}
use Rattle.block_mem.specs.declared.value.Value.{Value}
use Rattle.block_mem.specs.declared.value.Value.TheVariants.{Int, Ptr}
use Rattle.block_mem.specs.declared.operator.Op.{Op}
use Rattle.clight_unit.specs.declared.statement.Value.{Value as Converted}
use Rattle.clight_sem.specs.declared.destination.Destination.{Destination}
use Rattle.unit_names.specs.declared.meaning.Meaning.{Meaning}
use Rattle.clight_sem.specs.Functions.{Linked, has_no_result, is_main_of}
use Rattle.clight_sem.specs.Values.{convert, convert_if, converted, value_of}
use Rattle.clight_sem.specs.Prices.{expression_nodes, value_nodes_if_any}
use Rattle.clight_sem.specs.States.{Frame, World, Run, Going, seen, on, wrong, scene_of}
use Rattle.clight_sem.specs.Turns.{given, back_in, left_with, left_if, returned, fallen, after_turn}
use Rattle.core_lang.specs.declared.syntax.Expression.TheVariants as core
use Rattle.core_lang.specs.declared.syntax.Function.{Function as CoreFunction}
use Rattle.core_lang.specs.declared.syntax.Ending.TheVariants as ending
use Rattle.core_lang.specs.declared.syntax.Statement.{Statement as Code}
use Rattle.core_lang.specs.declared.syntax.Statement.TheVariants as code
use Rattle.core_lang.specs.declared.syntax.Statement.TheOpen.{Statement-F}
use Rattle.core_lang.specs.Meaning.{Temporaries, put, Program, Item, Do, to_do, Frame as CoreFrame, Run as CoreRun, given as core_given, left_with as core_left_with, left_if as core_left_if, ended_by}
use Rattle.pass_core.specs.Turns.{after_turn as after_step}
use Rattle.core_lang.specs.Units.{core as language}
use Rattle.core_lang.specs.Prices.{expression_price}
use Rattle.pass_core.specs.Meets.{Reaches}
use Rattle.pass_core.specs.laws.Meets.{stay, one, then, from_equal, costing, loosely}
use Rattle.core_gen.specs.Translation.{made_of, converted_by, return_code}
use Rattle.core_gen.specs.laws.Stepping.{scene, steps, sets, stores}
use Rattle.core_lang.specs.laws.Opened.{out_return, value_temporary, price_temporary}
use Rattle.core_lang.specs.laws.Temporaries.{put_same, put_below}
use Rattle.core_gen.specs.Relation.{Fits, Stands, program, core_frame, core_world, Waits, nowhere, straight, in_temporary, in_place, Below, bottom, above, Related, going, is_over}
use Rattle.core_gen.specs.laws.Evaluating.{some_is, still_fits, to_do_behind, Evaluates}
use Rattle.core_gen.specs.laws.Expressions.{every_expression}
use Rattle.core_gen.specs.Units.{base_of}
use Rattle.core_gen.specs.laws.Meeting.{Meets, by_steps}
use Rattle.core_gen.specs.laws.Assigning.{converted_value, converted_price, fits_set, Given, is_dropped, is_set, is_stored, given_has}
use Rattle.core_gen.specs.laws.Turning.{stood, on_has}

-- from a state of Core, some steps to a related one
pub record Lands (c : Linked) (p : Program) (new : Run) (from : CoreRun) (cost : ℕ) : Type 0 where
  pub target : CoreRun
  pub way : Reaches (language p) from target 0 cost
  pub relates : Related c new target

pub converted_has : (op : Op) (o : Option Value) (y : Value) → convert_if op o ≡ Some y → (x : Value) × (o ≡ Some x) × (convert op x ≡ Some y)
converted_has op None y h = cc
converted_has op (Some x) y h = (x, refl, h)

pub result_price : (op : Op) (n : ℕ) → expression_price (converted_by op (core.Temporary n)) ≤ 16
result_price op n = let a = converted_price op (core.Temporary n) in let b = price_temporary n in omega (arith, a, b)

module _ (c : Linked) (functions : List (List CoreFunction)) (callees : List (List Meaning)) (input : List ℕ) (acts : List Act) where
  abbrev p : Program
  p = program c functions callees

  abbrev at_world : World → Temporaries → List Item → Option ℕ → List CoreFrame → CoreRun
  at_world w t rest result below = stood c functions callees input acts result below w t rest

  -- the result has come, and goes where it is to go
  finish_by : (w u : World) (t : Temporaries) (rest : List Item) (d : Destination) (to_temporary : Option ℕ) (waits : List Code) (x : Value) (result : Option ℕ) (below : List CoreFrame) → Waits (base_of w.top.function) t d to_temporary waits → Given w x u d → Fits w.top.temporaries (base_of w.top.function) t → Stands (base_of w.top.function) w.top.left rest → Below c w.top.result result w.below below → Lands c p (Going u input acts) (after_step (core_given to_temporary (Some x) (core_world c w t (to_do waits ++ rest) result below)) input acts) 24
  finish_by w u t rest d to_temporary waits x result below nowhere (is_dropped e) f s b = record {
    target = at_world w t rest result below;
    way = costing (language p) (omega arith) (stay (language p) (at_world w t rest result below));
    relates = subst (λ (z : World). Related c (Going z input acts) (at_world w t rest result below)) e (going w t rest result below input acts f s b);
  }
  finish_by w u t rest d to_temporary waits x result below (straight k) (is_set _ _ y i j) f s b =
      let base = base_of w.top.function in
      subst (λ (z : World). Lands c p (Going z input acts) (at_world w (put t (min k base) x) rest result below) 24) (ap (λ (v : Value). record w { top = record w.top { temporaries = set w.top.temporaries k (Some v) } }) (some_is i) ∙ j) (record {
        target = at_world w (put t (min k base) x) rest result below;
        way = costing (language p) (omega arith) (stay (language p) (at_world w (put t (min k base) x) rest result below));
        relates = going _ (put t (min k base) x) rest result below input acts (fits_set w.top.temporaries base k x t f) s b;
      })
  finish_by w u t rest d to_temporary waits x result below (in_temporary k conversion) (is_set _ _ y i j) f s b =
      let base = base_of w.top.function in
      let n = base + 1 in
      let t' = put t n x in
      let cw = core_world c w t [] result below in
      let e = converted_by conversion (core.Temporary n) in
      subst (λ (z : World). Lands c p (Going z input acts) (at_world w t' (Do (code.Set (min k base) e) ∷ rest) result below) 24) j (record {
        target = at_world w (put t' (min k base) y) rest result below;
        way = loosely (language p) (costing (language p) (let a = result_price conversion n in omega (arith, a)) (sets p input acts cw t' (min k base) e rest y (converted_value (scene p cw t') conversion (core.Temporary n) x y i (value_temporary (scene p cw t') n ∙ put_same t n x))));
        relates = going _ (put t' (min k base) y) rest result below input acts (fits_set w.top.temporaries base k y t' (still_fits {m = base} f (λ r less. put_below t n r x (omega (arith, less))) (omega arith))) s b;
      })
  finish_by w u t rest d to_temporary waits x result below (in_place width place conversion h) (is_stored _ _ _ y m i g j) f s b =
      let base = base_of w.top.function in
      let n = base + 1 in
      let t' = put t n x in
      let cw = core_world c w t [] result below in
      let e = converted_by conversion (core.Temporary n) in
      subst (λ (z : World). Lands c p (Going z input acts) (at_world w t' (Do (code.Store width (core.Temporary base) e) ∷ rest) result below) 24) j (record {
        target = at_world (record w { memory = m }) t' rest result below;
        way = loosely (language p) (costing (language p) (let a = result_price conversion n in let k = price_temporary base in omega (arith, a, k)) (stores p input acts cw t' width (core.Temporary base) e rest place y m
            (value_temporary (scene p cw t') base ∙ put_below t n base x (omega arith) ∙ h)
            (converted_value (scene p cw t') conversion (core.Temporary n) x y i (value_temporary (scene p cw t') n ∙ put_same t n x)) g));
        relates = going _ t' rest result below input acts (still_fits {m = base} f (λ r less. put_below t n r x (omega (arith, less))) (omega arith)) s b;
      })

  pub finishes : (w : World) (t : Temporaries) (rest : List Item) (d : Destination) (to_temporary : Option ℕ) (waits : List Code) (x : Value) (result : Option ℕ) (below : List CoreFrame) → Waits (base_of w.top.function) t d to_temporary waits → (seen (after_turn (on (given d x w)) input acts)).outcome ≢ Wrong → Fits w.top.temporaries (base_of w.top.function) t → Stands (base_of w.top.function) w.top.left rest → Below c w.top.result result w.below below → Lands c p (after_turn (on (given d x w)) input acts) (after_step (core_given to_temporary (Some x) (core_world c w t (to_do waits ++ rest) result below)) input acts) 24
  finishes w t rest d to_temporary waits x result below a h f s b =
      let g = on_has (given d x w) input acts h in
      subst (λ (o : Option World). Lands c p (after_turn (on o) input acts) (after_step (core_given to_temporary (Some x) (core_world c w t (to_do waits ++ rest) result below)) input acts) 24) (sym g.1)
      (finish_by w g.0 t rest d to_temporary waits x result below a (given_has d x w g.0 g.1) f s b)

  -- a world whose call gives its result there, above these calls
  abbrev above_these : World → Destination → List Frame → World
  above_these w d callers = record w { top = record w.top { result = d }; below = callers }

  lands_by : (w : World) (t : Temporaries) (rest : List Item) (a : Frame) (u : Temporaries) (left : List Item) (next : Option ℕ) (callers : List Frame) (bs : List CoreFrame) (d : Destination) (result : Option ℕ) (v : Option Value) (waits : List Code) → Waits (base_of a.function) u d result waits → (seen (after_turn (left_with (above_these w d (a ∷ callers)) v (a ∷ callers)) input acts)).outcome ≢ Wrong → Fits a.temporaries (base_of a.function) u → Stands (base_of a.function) a.left left → Below c a.result next callers bs → Lands c p (after_turn (left_with (above_these w d (a ∷ callers)) v (a ∷ callers)) input acts) (after_step (core_left_with (core_world c (above_these w d (a ∷ callers)) t rest result (core_frame c a u (to_do waits ++ left) next ∷ bs)) v (core_frame c a u (to_do waits ++ left) next ∷ bs)) input acts) 24
  lands_by w t rest a u left next callers bs d result (Some x) waits q h f s b = finishes (back_in w a callers) u left d result waits x next bs q h f s b
  lands_by w t rest a u left next callers bs d result None waits nowhere h f s b = record {
    target = at_world (back_in w a callers) u left next bs;
    way = costing (language p) (omega arith) (stay (language p) (at_world (back_in w a callers) u left next bs));
    relates = going (back_in w a callers) u left next bs input acts f s b;
  }
  lands_by w t rest a u left next callers bs d result None waits (straight k) h f s b = absurd (h refl)
  lands_by w t rest a u left next callers bs d result None waits (in_temporary k conversion) h f s b = absurd (h refl)
  lands_by w t rest a u left next callers bs d result None waits (in_place width place conversion g) h f s b = absurd (h refl)

  lands : (w : World) (t : Temporaries) (rest : List Item) (d : Destination) (result : Option ℕ) (v : Option Value) (callers : List Frame) (below : List CoreFrame) → Below c d result callers below → (seen (after_turn (left_with (above_these w d callers) v callers) input acts)).outcome ≢ Wrong → Lands c p (after_turn (left_with (above_these w d callers) v callers) input acts) (after_step (core_left_with (core_world c (above_these w d callers) t rest result below) v below) input acts) 24
  lands w t rest d result None callers below (bottom _ _) h = absurd (h refl)
  lands w t rest d result (Some (Int n)) callers below (bottom _ _) h = record { target = _; way = costing (language p) (omega arith) (stay (language p) _); relates = is_over _ acts (λ k. cc) }
  lands w t rest d result (Some (Ptr a o)) callers below (bottom _ _) h = absurd (h refl)
  lands w t rest d result v callers below (above _ _ a u waits left next cs bs f q s b) h = lands_by w t rest a u left next cs bs d result v waits q h f s b

  -- one way, and then what it lands at
  pub then_lands : (size : ℕ) (new : Run) (from mid : CoreRun) (least cost most : ℕ) → 1 ≤ least → cost + 24 ≤ most → Reaches (language p) from mid least cost → Lands c p new mid 24 → Meets c p (0, size) new from most
  then_lands size new from mid least cost most some few way l = by_steps c p (0, size) new from l.target (least + 0) most (omega (arith, some)) (costing (language p) few (then (language p) way l.way)) l.relates

  left_if_has : (w : World) (o : Option Value) → (seen (after_turn (left_if w o) input acts)).outcome ≢ Wrong → (y : Value) × (o ≡ Some y)
  left_if_has w None h = absurd (h refl)
  left_if_has w (Some y) h = (y, refl)

  pub return_meets : (result : Option ℕ) (below : List CoreFrame) (w : World) (t : Temporaries) (rest : List Item) (v : Option Converted) (size : ℕ) → Fits w.top.temporaries (base_of w.top.function) t → Below c w.top.result result w.below below → (seen (after_turn (returned c w v) input acts)).outcome ≢ Wrong → Meets c p (0, size) (after_turn (returned c w v) input acts) (at_world w t (to_do (return_code (base_of w.top.function) v) ++ rest) result below) (24 * (8 + value_nodes_if_any v))
  return_meets result below w t rest None size f b h =
      let cw = core_world c w t [] result below in
      then_lands size _ _ (after_step (core_left_with (core_world c w t rest result below) None below) input acts) 1 12 _ (omega arith) (omega arith)
      (costing (language p) (omega arith) (steps p input acts cw t (code.Return None) rest (Statement-F.Return None) _ (out_return None) refl))
      (lands w t rest w.top.result result None w.below below b h)
  return_meets result below w t rest (Some v) size f b h =
      let base = base_of w.top.function in
      let cw = core_world c w t [] result below in
      let g = left_if_has w (converted (scene_of c w) v) h in
      let i = converted_has v.conversion (value_of (scene_of c w) v.expression) g.0 g.1 in
      let m = made_of v.expression base in
      let e : Evaluates p input acts cw t base m i.0 17 (expression_nodes v.expression) = every_expression p input acts cw w.top.temporaries v.expression t base i.0 f i.1 in
      let conv = converted_by v.conversion m.value in
      let s = code.Return (Some conv) in
      subst (λ (o : Option Value). Meets c p (0, size) (after_turn (left_if w o) input acts) (at_world w t (to_do (return_code base (Some v)) ++ rest) result below) (24 * (8 + expression_nodes v.expression))) (sym g.1)
      (then_lands size _ _ (after_step (core_left_with (core_world c w e.after rest result below) (Some g.0) below) input acts) 1 (24 * (7 + expression_nodes v.expression)) _ (omega arith) (omega arith)
      (costing (language p) (let a = e.within in let k = converted_price v.conversion m.value in omega (arith, a, k))
      (from_equal (language p) (ap (λ (l : List Item). at_world w t l result below) (to_do_behind m.hoists (s ∷ []) rest))
      (then (language p) (e.steps (Do s ∷ rest)) (steps p input acts cw e.after s rest (Statement-F.Return (Some conv)) _ (out_return (Some conv)) (ap (core_left_if (core_world c w e.after rest result below)) (converted_value (scene p cw e.after) v.conversion m.value i.0 g.0 i.2 (e.value e.after (λ r less. refl))))))))
      (lands w e.after rest w.top.result result (Some g.0) w.below below b (subst (λ (o : Option Value). (seen (after_turn (left_if w o) input acts)).outcome ≢ Wrong) g.1 h)))

  fall_by : (result : Option ℕ) (below : List CoreFrame) (w : World) (t : Temporaries) (none main : Bool) → Below c w.top.result result w.below below → (seen (after_turn (cond none (left_with w None w.below) (cond main (left_with w (Some (Int 0)) w.below) wrong)) input acts)).outcome ≢ Wrong → Lands c p (after_turn (cond none (left_with w None w.below) (cond main (left_with w (Some (Int 0)) w.below) wrong)) input acts) (after_step (ended_by (core_world c w t [] result below) (cond none ending.Bare (cond main ending.Zero ending.Stuck))) input acts) 24
  fall_by result below w t true main b h = lands w t [] w.top.result result None w.below below b h
  fall_by result below w t false true b h = lands w t [] w.top.result result (Some (Int 0)) w.below below b h
  fall_by result below w t false false b h = absurd (h refl)

  pub end_meets : (result : Option ℕ) (below : List CoreFrame) (w : World) (t : Temporaries) (size : ℕ) → Below c w.top.result result w.below below → (seen (after_turn (fallen c w) input acts)).outcome ≢ Wrong → Meets c p (0, size) (after_turn (fallen c w) input acts) (at_world w t [] result below) (24 * 8)
  end_meets result below w t size b h =
      then_lands size _ _ _ 1 15 _ (omega arith) (omega arith)
      (one (language p) (at_world w t [] result below) _ 15 refl (omega arith))
      (fall_by result below w t (has_no_result w.top.function.signature) (is_main_of c w.top.unit w.top.function) b h)
