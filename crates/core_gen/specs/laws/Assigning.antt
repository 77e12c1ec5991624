-- Assignments: what is made of one leads to where the source's assignment leads.
use Rattle.std.specs.Prelude.{◌≡◌, ℕ, ◌+◌, ◌*◌, ◌<◌, ◌≤◌, min, List, [], ◌∷◌, ◌++◌, length, get_or, set, Option, Some, None, option_map, ◌⊎◌}
use Rattle.std.proofs.Common.{refl, ap, sym, ◌∙◌, subst, arith, inl, inr}
use Rattle.std.proofs.lemmas.List.{get_or-set_same, get_or-set_other, length-set}
use Rattle.std.proofs.lemmas.Bool.{cases_lt}
use Rattle.std.proofs.lemmas.Bool.Decides.{eqb_tells}
use Rattle.std.proofs.Math.Nat.{min-eq_left, min-eq_right}
use Rattle.cc_base.specs.declared.run.Act.{Act}
use Rattle.block_mem.specs.Blocks.{Blocks}
use Rattle.block_mem.specs.Access.{store}
use Rattle.block_mem.specs.Operators.{applied}
use Rattle.block_mem.specs.declared.value.Value.{Value}
use Rattle.block_mem.specs.declared.value.Value.TheVariants.{Int, Ptr}
use Rattle.block_mem.specs.declared.value.Width.{Width}
use Rattle.block_mem.specs.declared.operator.Op.{Op}
use Rattle.block_mem.specs.declared.operator.Op.TheVariants as o
use Rattle.clight_unit.specs.declared.expression.Place.{Place}
use Rattle.clight_unit.specs.declared.statement.Target.{Target}
use Rattle.clight_unit.specs.declared.statement.Target.TheVariants as target
use Rattle.clight_unit.specs.declared.statement.Assignment.{Assignment}
use Rattle.clight_unit.specs.declared.statement.Value.{Value as Converted}
use Rattle.clight_sem.specs.declared.destination.Destination.{Destination}
use Rattle.clight_sem.specs.declared.destination.Destination.TheVariants as to
use Rattle.unit_names.specs.declared.meaning.Meaning.{Meaning}
use Rattle.clight_sem.specs.Functions.{Linked}
use Rattle.clight_sem.specs.Values.{of_one, convert, value_of, place_of}
use Rattle.clight_sem.specs.Prices.{target_nodes, expression_nodes, place_nodes}
use Rattle.clight_sem.specs.States.{World, scene_of}
use Rattle.clight_sem.specs.Turns.{found, set_temporary, stored, given, given_if, assigned}
use Rattle.core_lang.specs.declared.syntax.Expression.{Expression as Core}
use Rattle.core_lang.specs.declared.syntax.Expression.TheVariants as core
use Rattle.core_lang.specs.declared.syntax.Function.{Function as CoreFunction}
use Rattle.core_lang.specs.declared.syntax.Statement.{Statement as Code}
use Rattle.core_lang.specs.declared.syntax.Statement.TheVariants as code
use Rattle.core_lang.specs.Meaning.{Temporaries, put, Scene, value_of as core_value, Program, Item, Do, to_do, Frame as CoreFrame}
use Rattle.pass_core.specs.Turns.{Going as Goes}
use Rattle.core_lang.specs.Units.{core as language}
use Rattle.core_lang.specs.Prices.{expression_price}
use Rattle.pass_core.specs.Meets.{Reaches}
use Rattle.pass_core.specs.laws.Meets.{then, from_equal, costing}
use Rattle.core_gen.specs.Translation.{made_of, place_made, converted_by, assigned_to, assignment}
use Rattle.core_gen.specs.laws.Stepping.{scene, stand, sets, stores}
use Rattle.core_lang.specs.laws.Opened.{value_unary, price_unary}
use Rattle.core_lang.specs.laws.Temporaries.{put_same, put_other}
use Rattle.core_gen.specs.laws.Evaluating.{some_is, to_do_behind, still_fits, some_within, Evaluates}
use Rattle.core_gen.specs.Relation.{Fits, program, core_world}
use Rattle.core_gen.specs.laws.Expressions.{every_expression, every_place}
use Rattle.core_gen.specs.Units.{base_of}

-- a conversion that has a value is an operator that has it
pub converts : (m : Blocks) (op : Op) (v u : Value) → convert op v ≡ Some u → (op ≡ o.Keep → ⊥) → applied m op v (Int 0) ≡ Some u
converts m o.Keep v u h ne = absurd (ne refl)
converts m o.LowSigned v u h ne = h
converts m o.LowUnsigned v u h ne = h
converts m o.Neg v u h ne = h
converts m o.Flip v u h ne = h
converts m o.Not v u h ne = h
converts m o.Add (Int n) u h ne = cc
converts m o.Add (Ptr b k) u h ne = cc
converts m o.Sub (Int n) u h ne = cc
converts m o.Sub (Ptr b k) u h ne = cc
converts m o.Mul (Int n) u h ne = cc
converts m o.Mul (Ptr b k) u h ne = cc
converts m o.DivSigned (Int n) u h ne = cc
converts m o.DivSigned (Ptr b k) u h ne = cc
converts m o.DivUnsigned (Int n) u h ne = cc
converts m o.DivUnsigned (Ptr b k) u h ne = cc
converts m o.RemSigned (Int n) u h ne = cc
converts m o.RemSigned (Ptr b k) u h ne = cc
converts m o.RemUnsigned (Int n) u h ne = cc
converts m o.RemUnsigned (Ptr b k) u h ne = cc
converts m o.And (Int n) u h ne = cc
converts m o.And (Ptr b k) u h ne = cc
converts m o.Or (Int n) u h ne = cc
converts m o.Or (Ptr b k) u h ne = cc
converts m o.Xor (Int n) u h ne = cc
converts m o.Xor (Ptr b k) u h ne = cc
converts m o.Shl (Int n) u h ne = cc
converts m o.Shl (Ptr b k) u h ne = cc
converts m o.ShrSigned (Int n) u h ne = cc
converts m o.ShrSigned (Ptr b k) u h ne = cc
converts m o.ShrUnsigned (Int n) u h ne = cc
converts m o.ShrUnsigned (Ptr b k) u h ne = cc
converts m o.Eq (Int n) u h ne = cc
converts m o.Eq (Ptr b k) u h ne = cc
converts m o.Ne (Int n) u h ne = cc
converts m o.Ne (Ptr b k) u h ne = cc
converts m o.LtSigned (Int n) u h ne = cc
converts m o.LtSigned (Ptr b k) u h ne = cc
converts m o.LtUnsigned (Int n) u h ne = cc
converts m o.LtUnsigned (Ptr b k) u h ne = cc
converts m o.GtSigned (Int n) u h ne = cc
converts m o.GtSigned (Ptr b k) u h ne = cc
converts m o.GtUnsigned (Int n) u h ne = cc
converts m o.GtUnsigned (Ptr b k) u h ne = cc
converts m o.LeSigned (Int n) u h ne = cc
converts m o.LeSigned (Ptr b k) u h ne = cc
converts m o.LeUnsigned (Int n) u h ne = cc
converts m o.LeUnsigned (Ptr b k) u h ne = cc
converts m o.GeSigned (Int n) u h ne = cc
converts m o.GeSigned (Ptr b k) u h ne = cc
converts m o.GeUnsigned (Int n) u h ne = cc
converts m o.GeUnsigned (Ptr b k) u h ne = cc
converts m o.PtrNot (Int n) u h ne = cc
converts m o.PtrNot (Ptr b k) u h ne = cc
converts m o.PtrEq (Int n) u h ne = cc
converts m o.PtrEq (Ptr b k) u h ne = cc
converts m o.PtrNe (Int n) u h ne = cc
converts m o.PtrNe (Ptr b k) u h ne = cc
converts m o.PtrLt (Int n) u h ne = cc
converts m o.PtrLt (Ptr b k) u h ne = cc
converts m o.PtrGt (Int n) u h ne = cc
converts m o.PtrGt (Ptr b k) u h ne = cc
converts m o.PtrLe (Int n) u h ne = cc
converts m o.PtrLe (Ptr b k) u h ne = cc
converts m o.PtrGe (Int n) u h ne = cc
converts m o.PtrGe (Ptr b k) u h ne = cc
converts m (o.PtrAdd z) (Int n) u h ne = cc
converts m (o.PtrAdd z) (Ptr b k) u h ne = cc
converts m (o.PtrSub z) (Int n) u h ne = cc
converts m (o.PtrSub z) (Ptr b k) u h ne = cc
converts m (o.PtrDiff z) (Int n) u h ne = cc
converts m (o.PtrDiff z) (Ptr b k) u h ne = cc

pub other_kept : (op : Op) (e : Core) → (op ≡ o.Keep → ⊥) → converted_by op e ≡ core.Unary op e
other_kept o.Keep e ne = absurd (ne refl)
other_kept o.LowSigned e ne = refl
other_kept o.LowUnsigned e ne = refl
other_kept o.Neg e ne = refl
other_kept o.Flip e ne = refl
other_kept o.Not e ne = refl
other_kept o.Add e ne = refl
other_kept o.Sub e ne = refl
other_kept o.Mul e ne = refl
other_kept o.DivSigned e ne = refl
other_kept o.DivUnsigned e ne = refl
other_kept o.RemSigned e ne = refl
other_kept o.RemUnsigned e ne = refl
other_kept o.And e ne = refl
other_kept o.Or e ne = refl
other_kept o.Xor e ne = refl
other_kept o.Shl e ne = refl
other_kept o.ShrSigned e ne = refl
other_kept o.ShrUnsigned e ne = refl
other_kept o.Eq e ne = refl
other_kept o.Ne e ne = refl
other_kept o.LtSigned e ne = refl
other_kept o.LtUnsigned e ne = refl
other_kept o.GtSigned e ne = refl
other_kept o.GtUnsigned e ne = refl
other_kept o.LeSigned e ne = refl
other_kept o.LeUnsigned e ne = refl
other_kept o.GeSigned e ne = refl
other_kept o.GeUnsigned e ne = refl
other_kept o.PtrNot e ne = refl
other_kept o.PtrEq e ne = refl
other_kept o.PtrNe e ne = refl
other_kept o.PtrLt e ne = refl
other_kept o.PtrGt e ne = refl
other_kept o.PtrLe e ne = refl
other_kept o.PtrGe e ne = refl
other_kept (o.PtrAdd z) e ne = refl
other_kept (o.PtrSub z) e ne = refl
other_kept (o.PtrDiff z) e ne = refl

pub keeps_or_not : (op : Op) → (op ≡ o.Keep) ⊎ (op ≡ o.Keep → ⊥)
keeps_or_not o.Keep = inl refl
keeps_or_not o.LowSigned = inr (λ h. cc)
keeps_or_not o.LowUnsigned = inr (λ h. cc)
keeps_or_not o.Neg = inr (λ h. cc)
keeps_or_not o.Flip = inr (λ h. cc)
keeps_or_not o.Not = inr (λ h. cc)
keeps_or_not o.Add = inr (λ h. cc)
keeps_or_not o.Sub = inr (λ h. cc)
keeps_or_not o.Mul = inr (λ h. cc)
keeps_or_not o.DivSigned = inr (λ h. cc)
keeps_or_not o.DivUnsigned = inr (λ h. cc)
keeps_or_not o.RemSigned = inr (λ h. cc)
keeps_or_not o.RemUnsigned = inr (λ h. cc)
keeps_or_not o.And = inr (λ h. cc)
keeps_or_not o.Or = inr (λ h. cc)
keeps_or_not o.Xor = inr (λ h. cc)
keeps_or_not o.Shl = inr (λ h. cc)
keeps_or_not o.ShrSigned = inr (λ h. cc)
keeps_or_not o.ShrUnsigned = inr (λ h. cc)
keeps_or_not o.Eq = inr (λ h. cc)
keeps_or_not o.Ne = inr (λ h. cc)
keeps_or_not o.LtSigned = inr (λ h. cc)
keeps_or_not o.LtUnsigned = inr (λ h. cc)
keeps_or_not o.GtSigned = inr (λ h. cc)
keeps_or_not o.GtUnsigned = inr (λ h. cc)
keeps_or_not o.LeSigned = inr (λ h. cc)
keeps_or_not o.LeUnsigned = inr (λ h. cc)
keeps_or_not o.GeSigned = inr (λ h. cc)
keeps_or_not o.GeUnsigned = inr (λ h. cc)
keeps_or_not o.PtrNot = inr (λ h. cc)
keeps_or_not o.PtrEq = inr (λ h. cc)
keeps_or_not o.PtrNe = inr (λ h. cc)
keeps_or_not o.PtrLt = inr (λ h. cc)
keeps_or_not o.PtrGt = inr (λ h. cc)
keeps_or_not o.PtrLe = inr (λ h. cc)
keeps_or_not o.PtrGe = inr (λ h. cc)
keeps_or_not (o.PtrAdd z) = inr (λ h. cc)
keeps_or_not (o.PtrSub z) = inr (λ h. cc)
keeps_or_not (o.PtrDiff z) = inr (λ h. cc)

pub converted_value : (s : Scene) (op : Op) (e : Core) (v u : Value) → convert op v ≡ Some u → core_value s e ≡ Some v → core_value s (converted_by op e) ≡ Some u
converted_value s op e v u h i = elim (keeps_or_not op) [
  | inl keeps ↦ ap (λ (z : Op). core_value s (converted_by z e)) keeps ∙ i ∙ (let g : convert o.Keep v ≡ Some u = ap (λ (z : Op). convert z v) (sym keeps) ∙ h in g)
  | inr ne ↦ ap (core_value s) (other_kept op e ne) ∙ value_unary s op e ∙ ap (of_one s.memory op) i ∙ converts s.memory op v u h ne
]

pub converted_price : (op : Op) (e : Core) → expression_price (converted_by op e) ≤ 12 + expression_price e
converted_price op e = elim (keeps_or_not op) [
  | inl keeps ↦ let g : expression_price (converted_by op e) ≡ expression_price e = ap (λ (z : Op). expression_price (converted_by z e)) keeps in omega (arith, g)
  | inr ne ↦ let g : expression_price (converted_by op e) ≡ 12 + expression_price e = ap expression_price (other_kept op e ne) ∙ price_unary op e in omega (arith, g)
]

not_least : (j k n : ℕ) → j < n → (j ≡ k → ⊥) → j ≡ min k n → ⊥
not_least j k n below ne h = elim (cases_lt k n) [
  | inl less ↦ ne (h ∙ min-eq_left (omega (arith, less)))
  | inr more ↦ let e : min k n ≡ n = min-eq_right more in absurd (omega (arith, below, h, e))
]

-- the first number that is free stands for each above
pub fits_set : (ts : List (Option Value)) (n k : ℕ) (u : Value) (t : Temporaries) → Fits ts n t → Fits (set ts k (Some u)) n (put t (min k n) u)
fits_set ts n k u t f = record {
  agrees = λ j v h.
      let below : j < n = let a = some_within (set ts k (Some u)) j v h in let b = length-set ts k (Some u) in let c = f.few in omega (arith, a, b, c) in
      elim (eqb_tells j k) [
        | inl same ↦
            let within : k < length ts = let a = some_within (set ts k (Some u)) j v h in let b = length-set ts k (Some u) in let e = same.1 in omega (arith, a, b, e) in
            let least : min k n ≡ k = min-eq_left (let e = same.1 in omega (arith, below, e)) in
            ap (put t (min k n) u) (same.1 ∙ sym least) ∙ put_same t (min k n) u ∙ sym (get_or-set_same ts k (Some u) None within) ∙ ap (λ (i : ℕ). get_or (set ts k (Some u)) i None) (sym same.1) ∙ h
        | inr other ↦ put_other t (min k n) j u (not_least j k n below other.1) ∙ f.agrees j v (sym (get_or-set_other ts k j (Some u) None other.1) ∙ h)
      ];
  few = let a = f.few in let b = length-set ts k (Some u) in omega (arith, a, b);
}

-- what `given` and `assigned` need

pub data Given (w : World) (v : Value) (u : World) : Destination → Type 0 where
  is_dropped : w ≡ u → Given w v u to.Nowhere
  is_set : (k : ℕ) (conversion : Op) (x : Value) → convert conversion v ≡ Some x → record w { top = record w.top { temporaries = set w.top.temporaries k (Some x) } } ≡ u → Given w v u (to.Temporary k conversion)
  is_stored : (width : Width) (place : Value) (conversion : Op) (x : Value) (m : Blocks) → convert conversion v ≡ Some x → store w.memory place width x ≡ Some m → record w { memory = m } ≡ u → Given w v u (to.Place width place conversion)

set_has : (w : World) (k : ℕ) (conversion : Op) (v : Value) (x : Option Value) (u : World) → convert conversion v ≡ x → set_temporary w k x ≡ Some u → Given w v u (to.Temporary k conversion)
set_has w k conversion v None u e h = cc
set_has w k conversion v (Some x) u e h = is_set k conversion x e (some_is h)

store_has : (w : World) (width : Width) (place : Value) (conversion : Op) (v x : Value) (m : Option Blocks) (u : World) → convert conversion v ≡ Some x → store w.memory place width x ≡ m → option_map (λ (n : Blocks). record w { memory = n }) m ≡ Some u → Given w v u (to.Place width place conversion)
store_has w width place conversion v x None u e g h = cc
store_has w width place conversion v x (Some m) u e g h = is_stored width place conversion x m e g (some_is h)

stored_has : (w : World) (width : Width) (place : Value) (conversion : Op) (v : Value) (x : Option Value) (u : World) → convert conversion v ≡ x → stored w width place x ≡ Some u → Given w v u (to.Place width place conversion)
stored_has w width place conversion v None u e h = cc
stored_has w width place conversion v (Some x) u e h = store_has w width place conversion v x (store w.memory place width x) u e refl h

pub given_has : (d : Destination) (v : Value) (w u : World) → given d v w ≡ Some u → Given w v u d
given_has to.Nowhere v w u h = is_dropped (some_is h)
given_has (to.Temporary k conversion) v w u h = set_has w k conversion v (convert conversion v) u refl h
given_has (to.Place width place conversion) v w u h = stored_has w width place conversion v (convert conversion v) u refl h

given_if_has : (d : Option Destination) (v : Option Value) (w u : World) → given_if d v w ≡ Some u → (e : Destination) × (x : Value) × (d ≡ Some e) × (v ≡ Some x) × (given e x w ≡ Some u)
given_if_has None v w u h = cc
given_if_has (Some d) None w u h = cc
given_if_has (Some d) (Some v) w u h = (d, v, refl, refl, h)

pub placed_has : (o : Option Value) (width : Width) (conversion : Op) (d : Destination) → option_map (λ v. to.Place width v conversion) o ≡ Some d → (a : Value) × (o ≡ Some a) × (to.Place width a conversion ≡ d)
placed_has None width conversion d h = cc
placed_has (Some a) width conversion d h = (a, refl, some_is h)

-- the same call, which has the same to do
pub record SameCall (w u : World) : Type 0 where
  pub function : u.top.function ≡ w.top.function
  pub left : u.top.left ≡ w.top.left
  pub result : u.top.result ≡ w.top.result
  pub below : u.below ≡ w.below

-- what is made of a statement leads to a world of the source, with what stood behind it left
pub record Moves (c : Linked) (p : Program) (input : List ℕ) (acts : List Act) (w u : World) (t : Temporaries) (result : Option ℕ) (below : List CoreFrame) (codes : List Code) (cost : ℕ) : Type 0 where
  pub after : Temporaries
  pub way : (rest : List Item) → Reaches (language p) (Goes (core_world c w t (to_do codes ++ rest) result below) input acts) (Goes (core_world c u after rest result below) input acts) 1 cost
  pub fits : Fits u.top.temporaries (base_of w.top.function) after
  pub same : SameCall w u

module _ (c : Linked) (functions : List (List CoreFunction)) (callees : List (List Meaning)) (input : List ℕ) (acts : List Act) (result : Option ℕ) (below : List CoreFrame) where
  abbrev pub p : Program
  p = program c functions callees

  -- a value in a temporary
  pub set_moves : (w u : World) (t : Temporaries) (k : ℕ) (v : Converted) (x : Value) → Fits w.top.temporaries (base_of w.top.function) t → value_of (scene_of c w) v.expression ≡ Some x → Given w x u (to.Temporary k v.conversion) → Moves c p input acts w u t result below (assigned_to (target.Temporary k) (base_of w.top.function) v) (24 * (1 + expression_nodes v.expression))
  set_moves w u t k v x f h (is_set _ _ y i j) =
      let base = base_of w.top.function in
      let cw = core_world c w t [] result below in
      let m = made_of v.expression base in
      let e : Evaluates p input acts cw t base m x 17 (expression_nodes v.expression) = every_expression p input acts cw w.top.temporaries v.expression t base x f h in
      let conv = converted_by v.conversion m.value in
      subst (λ (z : World). Moves c p input acts w z t result below (assigned_to (target.Temporary k) base v) (24 * (1 + expression_nodes v.expression))) j (record {
        after = put e.after (min k base) y;
        way = λ rest. costing (language p) (let a = e.within in let b = converted_price v.conversion m.value in omega (arith, a, b))
            (from_equal (language p) (ap (stand p input acts cw t) (to_do_behind m.hoists (code.Set (min k base) conv ∷ []) rest))
            (then (language p) (e.steps (Do (code.Set (min k base) conv) ∷ rest)) (sets p input acts cw e.after (min k base) conv rest y (converted_value (scene p cw e.after) v.conversion m.value x y i (e.value e.after (λ n less. refl))))));
        fits = fits_set w.top.temporaries base k y e.after (still_fits {m = base} f e.kept (omega arith));
        same = record { function = refl; left = refl; result = refl; below = refl };
      })

  -- a value at a place
  pub store_moves : (w u : World) (t : Temporaries) (width : Width) (q : Place) (at : Value) (v : Converted) (x : Value) → Fits w.top.temporaries (base_of w.top.function) t → place_of (scene_of c w) q ≡ Some at → value_of (scene_of c w) v.expression ≡ Some x → Given w x u (to.Place width at v.conversion) → Moves c p input acts w u t result below (assigned_to (target.Place width q) (base_of w.top.function) v) (24 * (place_nodes q + expression_nodes v.expression))
  store_moves w u t width q at v x f g h (is_stored _ _ _ y n i j l) =
      let base = base_of w.top.function in
      let cw = core_world c w t [] result below in
      let k = place_made q base in
      let d : Evaluates p input acts cw t base k at 21 (place_nodes q) = every_place p input acts cw w.top.temporaries q t base at f g in
      let m = made_of v.expression k.next in
      let e : Evaluates p input acts cw d.after k.next m x 17 (expression_nodes v.expression) = every_expression p input acts cw w.top.temporaries v.expression d.after k.next x (still_fits f d.kept d.more) h in
      let conv = converted_by v.conversion m.value in
      let s = code.Store width k.value conv in
      subst (λ (z : World). Moves c p input acts w z t result below (assigned_to (target.Place width q) base v) (24 * (place_nodes q + expression_nodes v.expression))) l (record {
        after = e.after;
        way = λ rest. costing (language p) (let a = e.within in let b = converted_price v.conversion m.value in let r = d.within in omega (arith, a, b, r))
            (from_equal (language p) (ap (stand p input acts cw t) (to_do_behind k.hoists (m.hoists ++ s ∷ []) rest ∙ ap (λ (z : List Item). to_do k.hoists ++ z) (to_do_behind m.hoists (s ∷ []) rest)))
            (then (language p) (d.steps (to_do m.hoists ++ (Do s ∷ rest))) (then (language p) (e.steps (Do s ∷ rest))
            (stores p input acts cw e.after width k.value conv rest at y n (d.value e.after e.kept) (converted_value (scene p cw e.after) v.conversion m.value x y i (e.value e.after (λ r less. refl))) j))));
        fits = still_fits {m = base} f (λ r less. e.kept r (let a = d.more in omega (arith, a, less)) ∙ d.kept r less) (omega arith);
        same = record { function = refl; left = refl; result = refl; below = refl };
      })

  pub target_moves : (w u : World) (t : Temporaries) (g : Target) (v : Converted) (d : Destination) (x : Value) → Fits w.top.temporaries (base_of w.top.function) t → found (scene_of c w) v.conversion g ≡ Some d → value_of (scene_of c w) v.expression ≡ Some x → given d x w ≡ Some u → Moves c p input acts w u t result below (assigned_to g (base_of w.top.function) v) (24 * (target_nodes g + expression_nodes v.expression))
  target_moves w u t (target.Temporary k) v d x f h i j = set_moves w u t k v x f i (given_has (to.Temporary k v.conversion) x w u (ap (λ (z : Destination). given z x w) (some_is h) ∙ j))
  target_moves w u t (target.Place width q) v d x f h i j =
      let g = placed_has (place_of (scene_of c w) q) width v.conversion d h in
      store_moves w u t width q g.0 v x f g.1 i (given_has (to.Place width g.0 v.conversion) x w u (ap (λ (z : Destination). given z x w) g.2 ∙ j))

  -- an assignment that does not go wrong
  pub assignment_moves : (w u : World) (t : Temporaries) (a : Assignment) → Fits w.top.temporaries (base_of w.top.function) t → assigned c w a ≡ Some u → Moves c p input acts w u t result below (assignment (base_of w.top.function) a) (24 * (target_nodes a.target + expression_nodes a.value.expression))
  assignment_moves w u t a f h =
      let g = given_if_has (found (scene_of c w) a.value.conversion a.target) (value_of (scene_of c w) a.value.expression) w u h in
      target_moves w u t a.target a.value g.0 g.1 f g.2 g.3 g.4
