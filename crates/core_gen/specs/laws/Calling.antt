-- Calls are met by steps of Core.
use Rattle.std.specs.Prelude.{◌≡◌, ◌≢◌, ℕ, ◌+◌, ◌*◌, ◌%◌, ◌<◌, ◌≤◌, Bool, true, false, cond, eqb, nat_le, List, [], ◌∷◌, ◌++◌, length, map, replicate, min, get_or, Option, Some, None}
use Rattle.std.proofs.Common.{zero, suc, refl, ap, sym, ◌∙◌, subst, arith, append-nil}
use Rattle.std.proofs.lemmas.Bool.{eqb-true}
use Rattle.std.proofs.lemmas.List.{length-append, length-map, length-replicate}
use Rattle.cc_base.specs.declared.run.Act.{Act}
use Rattle.cc_base.specs.declared.run.Act.TheVariants as act
use Rattle.cc_base.specs.declared.run.Outcome.TheVariants.{Wrong, Deep}
use Rattle.pass_core.specs.Semantics.{Simulates}
use Rattle.block_mem.specs.declared.value.Value.{Value}
use Rattle.block_mem.specs.declared.value.Value.TheVariants.{Int, Ptr}
use Rattle.block_mem.specs.declared.operator.Op.{Op}
use Rattle.block_mem.specs.declared.operator.Op.TheVariants as o
use Rattle.clight_unit.specs.declared.function.Function.{Function}
use Rattle.clight_unit.specs.declared.statement.Statement.{Statement}
use Rattle.clight_unit.specs.declared.statement.Call.{Call}
use Rattle.clight_unit.specs.declared.statement.Target.{Target}
use Rattle.clight_unit.specs.declared.statement.Target.TheVariants as target
use Rattle.clight_unit.specs.declared.statement.Simple.TheVariants as source_simple
use Rattle.clight_unit.specs.declared.statement.Value.{Value as Converted}
use Rattle.clight_sem.specs.declared.destination.Destination.{Destination}
use Rattle.clight_sem.specs.declared.destination.Destination.TheVariants as to
use Rattle.unit_names.specs.declared.meaning.Meaning.{Meaning}
use Rattle.unit_names.specs.declared.meaning.Meaning.TheVariants as meaning
use Rattle.clight_sem.specs.Functions.{Linked, callee_at, function_at}
use Rattle.clight_sem.specs.Values.{converted, all_converted, with_value, value_of, place_of}
use Rattle.clight_sem.specs.Prices.{expression_nodes, place_nodes, arguments_nodes, target_nodes_if_any, simple_nodes}
use Rattle.clight_sem.specs.States.{Item as Left, Frame, World, Turned, On, Asks, Ends, Run, Going, seen, on, wrong, scene_of, whole, needs}
use Rattle.clight_sem.specs.Turns.{given, minus_one, found_if_any, entered, if_room, new_frame, first_temporaries, with_locals, asked_if, gave, called_with, called_if, called, came, after_turn, source}
use Rattle.core_lang.specs.declared.syntax.Expression.{Expression as Core}
use Rattle.core_lang.specs.declared.syntax.Function.{Function as CoreFunction}
use Rattle.core_lang.specs.declared.syntax.Statement.{Statement as Code}
use Rattle.core_lang.specs.declared.syntax.Statement.TheVariants as code
use Rattle.core_lang.specs.declared.syntax.Statement.TheOpen.{Statement-F}
use Rattle.core_lang.specs.Meaning.{Temporaries, put, all_values, Program, Item, Do, to_do, Frame as CoreFrame, World as CoreWorld, Run as CoreRun, need_of, got, function_at as core_function_at, callee_at as core_callee_at, given as core_given, called_with as core_called_with, called_if as core_called_if, entered as core_entered, first_temporaries as core_first}
use Rattle.pass_core.specs.Turns.{needs as core_needs, On as core_on, Ends as core_ends, Going as Goes, after_turn as after_step, wrong as core_wrong, if_room as core_if_room}
use Rattle.core_lang.specs.Units.{core as language}
use Rattle.core_lang.specs.Prices.{all_prices}
use Rattle.core_gen.specs.Translation.{AllMade}
use Rattle.pass_core.specs.Meets.{Reaches}
use Rattle.pass_core.specs.laws.Meets.{stay, then, from_equal, costing, loosely}
use Rattle.core_gen.specs.Translation.{made_of, place_made, all_made, finish, place_kept, own_place, called_by, call, called as called_code}
use Rattle.core_gen.specs.laws.Stepping.{scene, stand, steps, sets}
use Rattle.core_lang.specs.laws.Opened.{out_call}
use Rattle.core_lang.specs.laws.Temporaries.{put_same, put_below}
use Rattle.core_gen.specs.laws.Evaluating.{some_is, still_fits, to_do_behind, Evaluates}
use Rattle.core_gen.specs.Relation.{Fits, body_code, nothing, Stands, among, program, core_in, core_frame, core_world, Waits, nowhere, straight, in_temporary, in_place, Below, bottom, above, Related, going, measure}
use Rattle.core_gen.specs.laws.Expressions.{source_scene, every_expression, every_place}
use Rattle.core_gen.specs.laws.Following.{follows_body}
use Rattle.core_gen.specs.Units.{base_of}
use Rattle.core_gen.specs.laws.Meeting.{Meets}
use Rattle.core_gen.specs.laws.Assigning.{placed_has, converted_value, converted_price}
use Rattle.core_gen.specs.laws.Turning.{stood}
use Rattle.core_gen.specs.laws.Simulating.{Right, CallsMet, simulates}
use Rattle.core_gen.specs.laws.Returning.{Lands, converted_has, finishes, then_lands, return_meets, end_meets}

-- what linking gives: a function of the source's stands in Core's, and a name that can be called means the same
pub record Linking (c : Linked) (functions : List (List CoreFunction)) (callees : List (List Meaning)) : Type 0 where
  pub stand : (unit index : ℕ) (f : Function) → function_at c.units unit index ≡ Some f → core_function_at (program c functions callees) unit index ≡ Some (core_in c unit f)
  pub mean : (unit symbol : ℕ) → callee_at c unit symbol ≢ meaning.Nothing → core_callee_at (program c functions callees) unit symbol ≡ callee_at c unit symbol

-- Arguments

pub record EvaluatesAll (p : Program) (input : List ℕ) (acts : List Act) (w : CoreWorld) (t : Temporaries) (n : ℕ) (m : AllMade) (vs : List Value) (nodes : ℕ) : Type 0 where
  pub after : Temporaries
  pub kept : (k : ℕ) → k < n → after k ≡ t k
  pub cost : ℕ
  pub steps : (rest : List Item) → Reaches (language p) (stand p input acts w t (to_do m.hoists ++ rest)) (stand p input acts w after rest) 0 cost
  pub values : (u : Temporaries) → ((k : ℕ) → k < m.next → u k ≡ after k) → all_values (scene p w u) m.values ≡ Some vs
  pub within : cost + all_prices m.values + 5 * length m.values ≤ 24 * nodes
  pub more : n ≤ m.next

with_has : (o : Option Value) (os : Option (List Value)) (vs : List Value) → with_value o os ≡ Some vs → (y : Value) × (ys : List Value) × (o ≡ Some y) × (os ≡ Some ys) × (y ∷ ys ≡ vs)
with_has None os vs h = cc
with_has (Some y) None vs h = cc
with_has (Some y) (Some ys) vs h = (y, ys, refl, refl, some_is h)

all_evaluate : (p : Program) (input : List ℕ) (acts : List Act) (w : CoreWorld) (ts : List (Option Value)) (args : List Converted) (t : Temporaries) (n : ℕ) (vs : List Value) → Fits ts n t → all_converted (source_scene p w ts) args ≡ Some vs → EvaluatesAll p input acts w t n (all_made args n) vs (arguments_nodes args)
all_evaluate p input acts w ts [] t n vs f h = record {
  after = t;
  kept = λ k less. refl;
  cost = 0;
  steps = λ rest. stay (language p) (stand p input acts w t rest);
  values = λ u same. h;
  within = omega arith;
  more = omega arith;
}
all_evaluate p input acts w ts (v ∷ args) t n vs f h =
    let s = source_scene p w ts in
    let g = with_has (converted s v) (all_converted s args) vs h in
    let i = converted_has v.conversion (value_of s v.expression) g.0 g.2 in
    let m = made_of v.expression n in
    let e : Evaluates p input acts w t n m i.0 17 (expression_nodes v.expression) = every_expression p input acts w ts v.expression t n i.0 f i.1 in
    let r = all_evaluate p input acts w ts args e.after m.next g.1 (still_fits f e.kept e.more) g.3 in
    let k = all_made args m.next in
    record {
      after = r.after;
      kept = λ j less. r.kept j (let a = e.more in omega (arith, a, less)) ∙ e.kept j less;
      cost = e.cost + r.cost;
      steps = λ rest. from_equal (language p) {u = stand p input acts w r.after rest} (ap (stand p input acts w t) (to_do_behind m.hoists k.hoists rest)) (then (language p) (e.steps (to_do k.hoists ++ rest)) (r.steps rest));
      values = λ u same.
          ap (λ (o : Option Value). with_value o (all_values (scene p w u) k.values)) (converted_value (scene p w u) v.conversion m.value i.0 g.0 i.2 (e.value u (λ j less. same j (let a = r.more in omega (arith, a, less)) ∙ r.kept j less)))
          ∙ ap (with_value (Some g.0)) (r.values u same)
          ∙ ap (λ (l : List Value). Some l) g.4;
      within = let a = e.within in let b = r.within in let d = converted_price v.conversion m.value in omega (arith, a, b, d);
      more = let a = e.more in let b = r.more in omega (arith, a, b);
    }

-- The place of the result

own_is : (conversion : Op) (k j : ℕ) → own_place (Some (target.Temporary k)) conversion ≡ Some j → (conversion ≡ o.Keep) × (k ≡ j)
own_is o.Keep k j h = (refl, some_is h)
own_is o.LowSigned k j h = cc
own_is o.LowUnsigned k j h = cc
own_is o.Neg k j h = cc
own_is o.Flip k j h = cc
own_is o.Not k j h = cc
own_is o.Add k j h = cc
own_is o.Sub k j h = cc
own_is o.Mul k j h = cc
own_is o.DivSigned k j h = cc
own_is o.DivUnsigned k j h = cc
own_is o.RemSigned k j h = cc
own_is o.RemUnsigned k j h = cc
own_is o.And k j h = cc
own_is o.Or k j h = cc
own_is o.Xor k j h = cc
own_is o.Shl k j h = cc
own_is o.ShrSigned k j h = cc
own_is o.ShrUnsigned k j h = cc
own_is o.Eq k j h = cc
own_is o.Ne k j h = cc
own_is o.LtSigned k j h = cc
own_is o.LtUnsigned k j h = cc
own_is o.GtSigned k j h = cc
own_is o.GtUnsigned k j h = cc
own_is o.LeSigned k j h = cc
own_is o.LeUnsigned k j h = cc
own_is o.GeSigned k j h = cc
own_is o.GeUnsigned k j h = cc
own_is o.PtrNot k j h = cc
own_is o.PtrEq k j h = cc
own_is o.PtrNe k j h = cc
own_is o.PtrLt k j h = cc
own_is o.PtrGt k j h = cc
own_is o.PtrLe k j h = cc
own_is o.PtrGe k j h = cc
own_is (o.PtrAdd z) k j h = cc
own_is (o.PtrSub z) k j h = cc
own_is (o.PtrDiff z) k j h = cc

abbrev to_by : Option ℕ → ℕ → Option Target → Option ℕ
to_by (Some k) base g = Some (min k base)
to_by None base None = None
to_by None base (Some t) = Some (base + 1)

abbrev finish_by : Option ℕ → ℕ → Op → Option Target → List Code
finish_by (Some k) base conversion g = []
finish_by None base conversion None = []
finish_by None base conversion (Some t) = finish base (base + 1) conversion t

abbrev to_of : ℕ → Op → Option Target → Option ℕ
to_of base conversion g = to_by (own_place g conversion) base g

abbrev finish_of : ℕ → Op → Option Target → List Code
finish_of base conversion g = finish_by (own_place g conversion) base conversion g

code_by : (own : Option ℕ) (base : ℕ) (conversion : Op) (g : Option Target) (callee : ℕ) (values : List Core) → called_by own base conversion g callee values ≡ code.Call (to_by own base g) callee values ∷ finish_by own base conversion g
code_by (Some k) base conversion g callee values = refl
code_by None base conversion None callee values = refl
code_by None base conversion (Some t) callee values = refl

waits_in : (own : Option ℕ) (base : ℕ) (u : Temporaries) (k : ℕ) (conversion : Op) → own_place (Some (target.Temporary k)) conversion ≡ own → Waits base u (to.Temporary k conversion) (to_by own base (Some (target.Temporary k))) (finish_by own base conversion (Some (target.Temporary k)))
waits_in (Some j) base u k conversion e =
    let g = own_is conversion k j e in
    subst (λ (z : Op). Waits base u (to.Temporary k z) (Some (min j base)) []) (sym g.0) (subst (λ (z : ℕ). Waits base u (to.Temporary k o.Keep) (Some (min z base)) []) g.1 (straight k))
waits_in None base u k conversion e = in_temporary k conversion

-- the needs of Core's calls are the source's
needs_same : (c : Linked) (d : Destination) (result : Option ℕ) (callers : List Frame) (below : List CoreFrame) → Below c d result callers below → core_needs need_of below ≡ needs callers
needs_same c d result callers below (bottom _ _) = refl
needs_same c d result callers below (above _ _ a t waits rest next cs bs f w s b) = ap (λ (n : ℕ). a.function.need + n) (needs_same c a.result next cs bs b)

-- the parameters of a call
reads_append : (xs : List (Option Value)) (n k : ℕ) → get_or (xs ++ replicate n None) k None ≡ get_or xs k None
reads_append [] zero k = refl
reads_append [] (suc n) zero = refl
reads_append [] (suc n) (suc k) = reads_append [] n k
reads_append (x ∷ xs) n zero = refl
reads_append (x ∷ xs) n (suc k) = reads_append xs n k

pub first_fits : (f : Function) (vs : List Value) → length vs ≡ length f.signature.parameters → Fits (first_temporaries f vs) (base_of f) (core_first vs)
first_fits f vs e = record {
  agrees = λ k v h. sym (reads_append (map Some vs) f.registers k) ∙ h;
  few = let a = length-append (map Some vs) (replicate f.registers None) in let b = length-map vs Some in let d = length-replicate {A = Option Value} f.registers None in omega (arith, a, b, d, e);
}

-- a body that is to do, whole
pub body_stands : (base : ℕ) (ss : List Statement) → Stands base (whole ss) (to_do (body_code base ss 0))
body_stands base ss = subst (λ (l : List Left). Stands base l (to_do (body_code base ss 0))) (append-nil (whole ss))
    (subst (λ (l : List Item). Stands base (whole ss ++ []) l) (append-nil (to_do (body_code base ss 0))) (among 0 (follows_body base 0 ss [] [] nothing)))

-- what `getbyte` gives

came_is : (o : Option World) (input : List ℕ) (acts : List Act) → came o input acts ≡ after_turn (on o) input acts
came_is None input acts = refl
came_is (Some w) input acts = refl

got_is : (k : Option ℕ) (n : ℕ) (w : CoreWorld) (input : List ℕ) (acts : List Act) → Goes (got k w n) input acts ≡ after_step (core_given k (Some (Int n)) w) input acts
got_is None n w input acts = refl
got_is (Some k) n w input acts = refl

asked_has : (d : Destination) (w : World) (o : Option World) (input : List ℕ) (acts : List Act) → (seen (after_turn (asked_if d w o) input acts)).outcome ≢ Wrong → asked_if d w o ≡ Asks d w
asked_has d w None input acts h = absurd (h refl)
asked_has d w (Some u) input acts h = refl

module _ (c : Linked) (functions : List (List CoreFunction)) (callees : List (List Meaning)) (link : Linking c functions callees) (input : List ℕ) (acts : List Act) (result : Option ℕ) (below : List CoreFrame) where
  abbrev p : Program
  p = program c functions callees

  abbrev at_world : World → Temporaries → List Item → CoreRun
  at_world w t rest = stood c functions callees input acts result below w t rest

  -- the call as Core enters it
  abbrev LandsCall : World → Temporaries → List Item → List Code → Destination → Option ℕ → Meaning → List Value → Type 0
  LandsCall w t rest fin d k m vs = Lands c p (after_turn (called_with c w m d vs) input acts) (after_step (core_called_with p (core_world c w t (to_do fin ++ rest) result below) m k vs) input acts) 24

  -- a byte of the input
  byte_lands : (w : World) (t : Temporaries) (rest : List Item) (fin : List Code) (d : Destination) (k : Option ℕ) (n : ℕ) (bs : List ℕ) (done : List Act) → Fits w.top.temporaries (base_of w.top.function) t → Stands (base_of w.top.function) w.top.left rest → Below c w.top.result result w.below below → Waits (base_of w.top.function) t d k fin → (seen (came (given d (Int n) w) bs done)).outcome ≢ Wrong → Lands c p (came (given d (Int n) w) bs done) (Goes (got k (core_world c w t (to_do fin ++ rest) result below) n) bs done) 24
  byte_lands w t rest fin d k n bs done f s b q h =
      subst (λ (r : Run). Lands c p r (Goes (got k (core_world c w t (to_do fin ++ rest) result below) n) bs done) 24) (sym (came_is (given d (Int n) w) bs done))
      (subst (λ (r : CoreRun). Lands c p (after_turn (on (given d (Int n) w)) bs done) r 24) (sym (got_is k n (core_world c w t (to_do fin ++ rest) result below) bs done))
      (finishes c functions callees bs done w t rest d k fin (Int n) result below q (λ e. h (ap (λ (r : Run). (seen r).outcome) (came_is (given d (Int n) w) bs done) ∙ e)) f s b))

  next_lands : (w : World) (t : Temporaries) (rest : List Item) (fin : List Code) (d : Destination) (k : Option ℕ) (bytes : List ℕ) → Fits w.top.temporaries (base_of w.top.function) t → Stands (base_of w.top.function) w.top.left rest → Below c w.top.result result w.below below → Waits (base_of w.top.function) t d k fin → (seen (after_turn (Asks d w) bytes acts)).outcome ≢ Wrong → Lands c p (after_turn (Asks d w) bytes acts) (after_step (core_called_with p (core_world c w t (to_do fin ++ rest) result below) meaning.GetByte k []) bytes acts) 24
  next_lands w t rest fin d k [] f s b q h = byte_lands w t rest fin d k 4294967295 [] (acts ++ act.AtEnd ∷ []) f s b q h
  next_lands w t rest fin d k (x ∷ xs) f s b q h = byte_lands w t rest fin d k x xs (acts ++ act.Took ∷ []) f s b q h

  -- a byte that is emitted
  gave_lands : (w : World) (t : Temporaries) (rest : List Item) (fin : List Code) (d : Destination) (k : Option ℕ) (vs : List Value) → Fits w.top.temporaries (base_of w.top.function) t → Stands (base_of w.top.function) w.top.left rest → Below c w.top.result result w.below below → Waits (base_of w.top.function) t d k fin → (seen (after_turn (gave w d vs) input acts)).outcome ≢ Wrong → LandsCall w t rest fin d k meaning.PutByte vs
  gave_lands w t rest fin d k [] f s b nowhere h = absurd (h refl)
  gave_lands w t rest fin d k (Int n ∷ []) f s b nowhere h = record {
    target = Goes (core_world c w t rest result below) input (acts ++ act.Gave (n % 256) ∷ []);
    way = costing (language p) (omega arith) (stay (language p) _);
    relates = going w t rest result below input (acts ++ act.Gave (n % 256) ∷ []) f s b;
  }
  gave_lands w t rest fin d k (Ptr x o ∷ []) f s b nowhere h = absurd (h refl)
  gave_lands w t rest fin d k (v ∷ u ∷ vs) f s b nowhere h = absurd (h refl)
  gave_lands w t rest fin d k vs f s b (straight j) h = absurd (h refl)
  gave_lands w t rest fin d k vs f s b (in_temporary j conversion) h = absurd (h refl)
  gave_lands w t rest fin d k vs f s b (in_place width place conversion e) h = absurd (h refl)

  -- a function that is entered
  room_lands : (u : World) (cu : CoreWorld) (room : Bool) → (seen (after_turn (cond room (On u) (Ends Deep)) input acts)).outcome ≢ Deep → Related c (Going u input acts) (Goes cu input acts) → Lands c p (after_turn (cond room (On u) (Ends Deep)) input acts) (after_step (cond room (core_on cu) (core_ends Deep)) input acts) 24
  room_lands u cu true h r = record { target = Goes cu input acts; way = costing (language p) (omega arith) (stay (language p) _); relates = r }
  room_lands u cu false h r = absurd (h refl)

  count_lands : (w : World) (t : Temporaries) (rest : List Item) (fin : List Code) (d : Destination) (k : Option ℕ) (unit : ℕ) (f : Function) (vs : List Value) (count : Bool) → eqb (length vs) (length f.signature.parameters) ≡ count → Fits w.top.temporaries (base_of w.top.function) t → Stands (base_of w.top.function) w.top.left rest → Below c w.top.result result w.below below → Waits (base_of w.top.function) t d k fin → Right (cond count (if_room c (record { memory = with_locals w.memory w.calls 0 f.locals; calls = w.calls + 1; top = new_frame unit f w.calls vs d; below = w.top ∷ w.below })) wrong) input acts → Lands c p (after_turn (cond count (if_room c (record { memory = with_locals w.memory w.calls 0 f.locals; calls = w.calls + 1; top = new_frame unit f w.calls vs d; below = w.top ∷ w.below })) wrong) input acts) (after_step (core_entered p w.memory w.calls unit (Some (core_in c unit f)) vs k (core_frame c w.top t (to_do fin ++ rest) result ∷ below)) input acts) 24
  count_lands w t rest fin d k unit f vs false e g s b q h = absurd (h.right refl)
  count_lands w t rest fin d k unit f vs true e g s b q h =
      let u : World = record { memory = with_locals w.memory w.calls 0 f.locals; calls = w.calls + 1; top = new_frame unit f w.calls vs d; below = w.top ∷ w.below } in
      let frames = core_frame c w.top t (to_do fin ++ rest) result ∷ below in
      let cu = core_world c u (core_first vs) (to_do (body_code (base_of f) f.body 0)) k frames in
      let stack : Below c d k (w.top ∷ w.below) frames = above d k w.top t fin rest result w.below below g q s b in
      let same : core_needs need_of frames ≡ needs (w.top ∷ w.below) = needs_same c d k (w.top ∷ w.below) frames stack in
      subst (λ (b : Bool). Lands c p (after_turn (if_room c u) input acts) (after_step (cond b (core_if_room need_of c.room cu) core_wrong) input acts) 24) (sym e)
      (subst (λ (n : ℕ). Lands c p (after_turn (if_room c u) input acts) (after_step (cond (nat_le (f.need + n) c.room) (core_on cu) (core_ends Deep)) input acts) 24) (sym same)
      (room_lands u cu (nat_le (f.need + needs (w.top ∷ w.below)) c.room) h.shallow
      (going u (core_first vs) (to_do (body_code (base_of f) f.body 0)) k frames input acts (first_fits f vs (eqb-true _ _ e)) (body_stands (base_of f) f.body) stack)))

  function_lands : (w : World) (t : Temporaries) (rest : List Item) (fin : List Code) (d : Destination) (k : Option ℕ) (unit index : ℕ) (o : Option Function) (vs : List Value) → function_at c.units unit index ≡ o → Fits w.top.temporaries (base_of w.top.function) t → Stands (base_of w.top.function) w.top.left rest → Below c w.top.result result w.below below → Waits (base_of w.top.function) t d k fin → Right (entered c w.memory w.calls unit o vs d (w.top ∷ w.below)) input acts → Lands c p (after_turn (entered c w.memory w.calls unit o vs d (w.top ∷ w.below)) input acts) (after_step (core_called_with p (core_world c w t (to_do fin ++ rest) result below) (meaning.Function unit index) k vs) input acts) 24
  function_lands w t rest fin d k unit index None vs e g s b q h = absurd (h.right refl)
  function_lands w t rest fin d k unit index (Some f) vs e g s b q h =
      subst (λ (o : Option CoreFunction). Lands c p (after_turn (entered c w.memory w.calls unit (Some f) vs d (w.top ∷ w.below)) input acts) (after_step (core_entered p w.memory w.calls unit o vs k (core_frame c w.top t (to_do fin ++ rest) result ∷ below)) input acts) 24) (sym (link.stand unit index f e))
      (count_lands w t rest fin d k unit f vs (eqb (length vs) (length f.signature.parameters)) refl g s b q h)

  called_lands : (w : World) (t : Temporaries) (rest : List Item) (fin : List Code) (d : Destination) (k : Option ℕ) (m : Meaning) (vs : List Value) → Fits w.top.temporaries (base_of w.top.function) t → Stands (base_of w.top.function) w.top.left rest → Below c w.top.result result w.below below → Waits (base_of w.top.function) t d k fin → Right (called_with c w m d vs) input acts → LandsCall w t rest fin d k m vs
  called_lands w t rest fin d k (meaning.Function unit index) vs f s b q h = function_lands w t rest fin d k unit index (function_at c.units unit index) vs refl f s b q h
  called_lands w t rest fin d k meaning.GetByte vs f s b q h =
      let e = asked_has d w (given d minus_one w) input acts h.right in
      subst (λ (y : Turned). Lands c p (after_turn y input acts) (after_step (core_called_with p (core_world c w t (to_do fin ++ rest) result below) meaning.GetByte k vs) input acts) 24) (sym e)
      (next_lands w t rest fin d k input f s b q (subst (λ (y : Turned). (seen (after_turn y input acts)).outcome ≢ Wrong) e h.right))
  called_lands w t rest fin d k meaning.PutByte vs f s b q h = gave_lands w t rest fin d k vs f s b q h.right
  called_lands w t rest fin d k meaning.Nothing vs f s b q h = absurd (h.right refl)

  -- the place of the result is found and kept
  record Kept (w : World) (t : Temporaries) (conversion : Op) (g : Option Target) (d : Destination) : Type 0 where
    after : Temporaries
    kept : (k : ℕ) → k < base_of w.top.function → after k ≡ t k
    way : (rest : List Item) → Reaches (language p) (at_world w t (to_do (place_kept (base_of w.top.function) g) ++ rest)) (at_world w after rest) 0 (24 * target_nodes_if_any g)
    waits : (u : Temporaries) → ((k : ℕ) → k < base_of w.top.function + 1 → u k ≡ after k) → Waits (base_of w.top.function) u d (to_of (base_of w.top.function) conversion g) (finish_of (base_of w.top.function) conversion g)

  keep : (w : World) (t : Temporaries) (conversion : Op) (g : Option Target) (d : Destination) → Fits w.top.temporaries (base_of w.top.function) t → found_if_any (scene_of c w) conversion g ≡ Some d → Kept w t conversion g d
  keep w t conversion None d f h = record {
    after = t;
    kept = λ k less. refl;
    way = λ rest. costing (language p) (omega arith) (stay (language p) (at_world w t rest));
    waits = λ u same. subst (λ (z : Destination). Waits (base_of w.top.function) u z None []) (some_is h) nowhere;
  }
  keep w t conversion (Some (target.Temporary k)) d f h = record {
    after = t;
    kept = λ j less. refl;
    way = λ rest. costing (language p) (omega arith) (stay (language p) (at_world w t rest));
    waits = λ u same. subst (λ (z : Destination). Waits (base_of w.top.function) u z (to_of (base_of w.top.function) conversion (Some (target.Temporary k))) (finish_of (base_of w.top.function) conversion (Some (target.Temporary k)))) (some_is h) (waits_in (own_place (Some (target.Temporary k)) conversion) (base_of w.top.function) u k conversion refl);
  }
  keep w t conversion (Some (target.Place width q)) d f h =
      let base = base_of w.top.function in
      let cw = core_world c w t [] result below in
      let g = placed_has (place_of (scene_of c w) q) width conversion d h in
      let m = place_made q base in
      let e : Evaluates p input acts cw t base m g.0 21 (place_nodes q) = every_place p input acts cw w.top.temporaries q t base g.0 f g.1 in
      record {
        after = put e.after base g.0;
        kept = λ j less. put_below e.after base j g.0 less ∙ e.kept j less;
        way = λ rest. loosely (language p) (costing (language p) (let a = e.within in omega (arith, a)) (from_equal (language p) (ap (at_world w t) (to_do_behind m.hoists (code.Set base m.value ∷ []) rest))
            (then (language p) (e.steps (Do (code.Set base m.value) ∷ rest)) (sets p input acts cw e.after base m.value rest g.0 (e.value e.after (λ j less. refl))))));
        waits = λ u same. subst (λ (z : Destination). Waits base u z (to_of base conversion (Some (target.Place width q))) (finish_of base conversion (Some (target.Place width q)))) g.2 (in_place width g.0 conversion (same base (omega arith) ∙ put_same e.after base g.0));
      }

  call_has : (w : World) (m : Meaning) (d : Option Destination) (vs : Option (List Value)) → (seen (after_turn (called_if c w m d vs) input acts)).outcome ≢ Wrong → (e : Destination) × (xs : List Value) × (d ≡ Some e) × (vs ≡ Some xs)
  call_has w m None vs h = absurd (h refl)
  call_has w m (Some d) None h = absurd (h refl)
  call_has w m (Some d) (Some vs) h = (d, vs, refl, refl)

  code_is : (base : ℕ) (conversion : Op) (g : Option Target) (callee : ℕ) (values : List Core) → called_code base conversion g callee values ≡ code.Call (to_of base conversion g) callee values ∷ finish_of base conversion g
  code_is base conversion g callee values = code_by (own_place g conversion) base conversion g callee values

  call_by : (w : World) (t : Temporaries) (rest : List Item) (x : Call) (size : ℕ) (d : Destination) (vs : List Value) → Fits w.top.temporaries (base_of w.top.function) t → Stands (base_of w.top.function) w.top.left rest → Below c w.top.result result w.below below → found_if_any (scene_of c w) x.conversion x.target ≡ Some d → all_converted (scene_of c w) x.arguments ≡ Some vs → Right (called_with c w (callee_at c w.top.unit x.callee) d vs) input acts → Meets c p (0, size) (after_turn (called_with c w (callee_at c w.top.unit x.callee) d vs) input acts) (at_world w t (to_do (call (base_of w.top.function) x) ++ rest)) (24 * (8 + simple_nodes (source_simple.Call x)))
  call_by w t rest x size d vs f s b found_is vs_are h =
      let base = base_of w.top.function in
      let cw = core_world c w t [] result below in
      let k = keep w t x.conversion x.target d f found_is in
      let m = all_made x.arguments (base + 1) in
      let a : EvaluatesAll p input acts cw k.after (base + 1) m vs (arguments_nodes x.arguments) = all_evaluate p input acts cw w.top.temporaries x.arguments k.after (base + 1) vs (still_fits {m = base + 1} f k.kept (omega arith)) vs_are in
      let fin = finish_of base x.conversion x.target in
      let q = k.waits a.after a.kept in
      let fits : Fits w.top.temporaries base a.after = still_fits {m = base} f (λ j less. a.kept j (omega (arith, less)) ∙ k.kept j less) (omega arith) in
      let n = callee_at c w.top.unit x.callee in
      let o = to_of base x.conversion x.target in
      let mid = at_world w a.after (to_do fin ++ rest) in
      let s_call = code.Call o x.callee m.values in
      let same : core_callee_at p w.top.unit x.callee ≡ n = link.mean w.top.unit x.callee (λ e. h.right (ap (λ (z : Meaning). (seen (after_turn (called_with c w z d vs) input acts)).outcome) e)) in
      let shape : to_do (call base x) ++ rest ≡ to_do (place_kept base x.target) ++ (to_do m.hoists ++ (Do s_call ∷ (to_do fin ++ rest))) =
      to_do_behind (place_kept base x.target) (m.hoists ++ called_code base x.conversion x.target x.callee m.values) rest
      ∙ ap (λ (l : List Item). to_do (place_kept base x.target) ++ l) (to_do_behind m.hoists (called_code base x.conversion x.target x.callee m.values) rest ∙ ap (λ (l : List Code). to_do m.hoists ++ (to_do l ++ rest)) (code_is base x.conversion x.target x.callee m.values)) in
      then_lands c functions callees input acts size _ _ (after_step (core_called_with p (core_world c w a.after (to_do fin ++ rest) result below) n o vs) input acts) 1 (24 * target_nodes_if_any x.target + (24 * arguments_nodes x.arguments + 24)) _ (omega arith) (omega arith)
      (from_equal (language p) (ap (at_world w t) shape)
      (then (language p) (k.way (to_do m.hoists ++ (Do s_call ∷ (to_do fin ++ rest))))
      (costing (language p) (let e = a.within in omega (arith, e))
      (then (language p) (a.steps (Do s_call ∷ (to_do fin ++ rest)))
      (steps p input acts cw a.after s_call (to_do fin ++ rest) (Statement-F.Call o x.callee m.values) _ (out_call o x.callee m.values)
      (ap (λ (z : Meaning). core_called_if p (core_world c w a.after (to_do fin ++ rest) result below) z o (all_values (scene p cw a.after) m.values)) same
      ∙ ap (core_called_if p (core_world c w a.after (to_do fin ++ rest) result below) n o) (a.values a.after (λ j less. refl))))))))
      (called_lands w a.after rest fin d o n vs fits s b q h)

  pub call_meets : (w : World) (t : Temporaries) (rest : List Item) (x : Call) (size : ℕ) → Fits w.top.temporaries (base_of w.top.function) t → Stands (base_of w.top.function) w.top.left rest → Below c w.top.result result w.below below → Right (called c w x) input acts → Meets c p (0, size) (after_turn (called c w x) input acts) (at_world w t (to_do (call (base_of w.top.function) x) ++ rest)) (24 * (8 + simple_nodes (source_simple.Call x)))
  call_meets w t rest x size f s b h =
      let n = callee_at c w.top.unit x.callee in
      let g = call_has w n (found_if_any (scene_of c w) x.conversion x.target) (all_converted (scene_of c w) x.arguments) h.right in
      let same : called_if c w n (found_if_any (scene_of c w) x.conversion x.target) (all_converted (scene_of c w) x.arguments) ≡ called_with c w n g.0 g.1 =
      ap (λ (o : Option Destination). called_if c w n o (all_converted (scene_of c w) x.arguments)) g.2 ∙ ap (called_if c w n (Some g.0)) g.3 in
      subst (λ (y : Turned). Meets c p (0, size) (after_turn y input acts) (at_world w t (to_do (call (base_of w.top.function) x) ++ rest)) (24 * (8 + simple_nodes (source_simple.Call x)))) (sym same)
      (call_by w t rest x size g.0 g.1 f s b g.2 g.3 (subst (λ (y : Turned). Right y input acts) same h))

-- all calls and returns
pub calls_met : (c : Linked) (functions : List (List CoreFunction)) (callees : List (List Meaning)) → Linking c functions callees → CallsMet c functions callees
calls_met c functions callees link = record {
  calls = λ input acts result below w t rest x size f s b h. call_meets c functions callees link input acts result below w t rest x size f s b h;
  returns = λ input acts result below w t rest v size f b h. return_meets c functions callees input acts result below w t rest v size f b h.right;
  ends = λ input acts result below w t size f b h. end_meets c functions callees input acts result below w t size b h.right;
}

-- Core simulates the source
pub core_simulates : (c : Linked) (functions : List (List CoreFunction)) (callees : List (List Meaning)) → Linking c functions callees → Simulates (source c) (language (program c functions callees)) (Related c) measure
core_simulates c functions callees link = simulates c functions callees (calls_met c functions callees link)
