-- The hoisted statements of an expression lead to where its value is the source's.
use Rattle.std.specs.Prelude.{◌≡◌, ℕ, ◌+◌, ◌*◌, ◌<◌, ◌≤◌, Bool, true, false, not, eqb, List, [], ◌∷◌, ◌++◌, length, get_or, Option, Some, None, option_map, unwrap_or}
use Rattle.std.proofs.Common.{zero, suc, refl, ap, sym, subst, ◌∙◌, arith}
use Rattle.std.proofs.lemmas.List.{map-append, append_assoc}
use Rattle.cc_base.specs.declared.run.Act.{Act}
use Rattle.block_mem.specs.Arithmetic.{bit}
use Rattle.block_mem.specs.Blocks.{Blocks}
use Rattle.block_mem.specs.Operators.{applied, equal, int_of}
use Rattle.block_mem.specs.declared.value.Value.{Value}
use Rattle.block_mem.specs.declared.value.Value.TheVariants.{Int, Ptr}
use Rattle.block_mem.specs.declared.value.Width.{Width}
use Rattle.block_mem.specs.declared.operator.Op.{Op}
use Rattle.block_mem.specs.declared.operator.Op.TheVariants as o
use Rattle.clight_sem.specs.Bounds.{Compared, Integer, Pointer, Another, compared_by}
use Rattle.clight_sem.specs.Values.{of_one, of_two, held, both, either, truth_of, is_true}
use Rattle.core_lang.specs.declared.syntax.Expression.{Expression as Core}
use Rattle.core_lang.specs.declared.syntax.Expression.TheVariants as core
use Rattle.core_lang.specs.declared.syntax.Statement.{Statement as Code}
use Rattle.core_lang.specs.declared.syntax.Statement.TheVariants as code
use Rattle.core_lang.specs.Meaning.{Temporaries, put, value_of, Program, Item, Do, to_do, World}
use Rattle.core_lang.specs.Units.{core as language}
use Rattle.core_lang.specs.Prices.{expression_price}
use Rattle.core_gen.specs.Translation.{Made}
use Rattle.pass_core.specs.Meets.{Reaches}
use Rattle.pass_core.specs.laws.Meets.{stay, then, from_equal, costing, loosely}
use Rattle.core_gen.specs.Translation.{plain, one_of, two_of, set_to, compared, condition_by, set_by, operated, decided}
use Rattle.core_gen.specs.laws.Adding.{operated_price, operated_value}
use Rattle.core_gen.specs.laws.Stepping.{scene, stand, sets, takes, skips}
use Rattle.core_lang.specs.laws.Opened.{value_constant, value_temporary, value_binary, price_constant, price_temporary, price_binary}
use Rattle.core_lang.specs.laws.Temporaries.{put_same, put_below}
use Rattle.core_gen.specs.Relation.{Fits}

pub some_is : {A : Type 0} {x y : A} → Some x ≡ Some y → x ≡ y
some_is {A} {x} {y} h = ap (λ (o : Option A). unwrap_or o x) h

pub to_do_behind : (a b : List Code) (rest : List Item) → to_do (a ++ b) ++ rest ≡ to_do a ++ (to_do b ++ rest)
to_do_behind a b rest = ap (λ (l : List Item). l ++ rest) (map-append Do a b) ∙ append_assoc (to_do a) (to_do b) rest

pub some_within : (ts : List (Option Value)) (k : ℕ) (v : Value) → get_or ts k None ≡ Some v → k < length ts
some_within [] k v h = cc
some_within (x ∷ ts) zero v h = omega arith
some_within (x ∷ ts) (suc k) v h = let g = some_within ts k v h in omega (arith, g)

pub still_fits : {ts : List (Option Value)} {n m : ℕ} {t u : Temporaries} → Fits ts n t → ((k : ℕ) → k < n → u k ≡ t k) → n ≤ m → Fits ts m u
still_fits {ts} {n} {m} {t} {u} f kept more = record {
  agrees = λ k v h. kept k (let a = some_within ts k v h in let b = f.few in omega (arith, a, b)) ∙ f.agrees k v h;
  few = let b = f.few in omega (arith, b, more);
}

-- from these temporaries, of which those below n stay, what is made has this value behind its statements. All costs no more
-- than 24 for each node, less so much
pub record Evaluates (p : Program) (input : List ℕ) (acts : List Act) (w : World) (t : Temporaries) (n : ℕ) (m : Made) (v : Value) (less nodes : ℕ) : Type 0 where
  pub after : Temporaries
  pub kept : (k : ℕ) → k < n → after k ≡ t k
  pub cost : ℕ
  pub steps : (rest : List Item) → Reaches (language p) (stand p input acts w t (to_do m.hoists ++ rest)) (stand p input acts w after rest) 0 cost
  pub value : (u : Temporaries) → ((k : ℕ) → k < m.next → u k ≡ after k) → value_of (scene p w u) m.value ≡ Some v
  pub within : cost + expression_price m.value + less ≤ 24 * nodes
  pub more : n ≤ m.next

-- what is made of a condition is true or not
pub record Decides (p : Program) (input : List ℕ) (acts : List Act) (w : World) (t : Temporaries) (n : ℕ) (m : Made) (b : Bool) (nodes : ℕ) : Type 0 where
  pub value : Value
  pub evaluates : Evaluates p input acts w t n m value 5 nodes
  pub so : is_true value ≡ Some b

-- the value of a test, which this operator tells true or not
pub record Tests (p : Program) (input : List ℕ) (acts : List Act) (w : World) (t : Temporaries) (n : ℕ) (op : Op) (m : Made) (b : Bool) (nodes : ℕ) : Type 0 where
  pub value : Value
  pub evaluates : Evaluates p input acts w t n m value 17 nodes
  pub so : truth_of (applied w.memory op value (Int 0)) ≡ Some b

-- what operators have values for

pub one_has : (m : Blocks) (op : Op) (x : Option Value) (v : Value) → of_one m op x ≡ Some v → (a : Value) × (x ≡ Some a) × (applied m op a (Int 0) ≡ Some v)
one_has m op None v h = cc
one_has m op (Some a) v h = (a, refl, h)

pub two_have : (m : Blocks) (op : Op) (x y : Option Value) (v : Value) → of_two m op x y ≡ Some v → (a : Value) × (b : Value) × (x ≡ Some a) × (y ≡ Some b) × (applied m op a b ≡ Some v)
two_have m op None y v h = cc
two_have m op (Some a) None v h = cc
two_have m op (Some a) (Some b) v h = (a, b, refl, refl, h)

pub held_has : (m : Blocks) (w : Width) (x : Option Value) (v : Value) → held m w x ≡ Some v → (a : Value) × (x ≡ Some a) × (held m w (Some a) ≡ Some v)
held_has m w None v h = cc
held_has m w (Some a) v h = (a, refl, h)

pub truth_has : (x : Option Value) (b : Bool) → truth_of x ≡ Some b → (a : Value) × (x ≡ Some a) × (is_true a ≡ Some b)
truth_has None b h = cc
truth_has (Some a) b h = (a, refl, h)

pub data BothWays (x y : Option Bool) (v : Value) : Type 0 where
  first_decides : x ≡ Some false → Int 0 ≡ v → BothWays x y v
  second_decides : (b : Bool) → x ≡ Some true → y ≡ Some b → Int (bit b) ≡ v → BothWays x y v

pub both_ways : (x y : Option Bool) (v : Value) → both x y ≡ Some v → BothWays x y v
both_ways None y v h = cc
both_ways (Some true) None v h = cc
both_ways (Some true) (Some b) v h = second_decides b refl refl (some_is h)
both_ways (Some false) y v h = first_decides refl (some_is h)

pub data EitherWays (x y : Option Bool) (v : Value) : Type 0 where
  first_holds : x ≡ Some true → Int 1 ≡ v → EitherWays x y v
  second_holds : (b : Bool) → x ≡ Some false → y ≡ Some b → Int (bit b) ≡ v → EitherWays x y v

pub either_ways : (x y : Option Bool) (v : Value) → either x y ≡ Some v → EitherWays x y v
either_ways None y v h = cc
either_ways (Some false) None v h = cc
either_ways (Some false) (Some b) v h = second_holds b refl refl (some_is h)
either_ways (Some true) y v h = first_holds refl (some_is h)

-- what tests tell

bit_tells : (b : Bool) → not (eqb (bit b) 0) ≡ b
bit_tells true = refl
bit_tells false = refl

int_tells : (o : Option Bool) (b : Bool) → truth_of (int_of o) ≡ Some b → int_of o ≡ Some (Int (bit b))
int_tells None b h = cc
int_tells (Some x) b h = ap (λ (y : Bool). Some (Int (bit y))) (sym (bit_tells x) ∙ some_is h)

is_of_integers : (op : Op) → compared_by op ≡ Integer → op ≡ o.Ne
is_of_integers o.Keep h = cc
is_of_integers o.LowSigned h = cc
is_of_integers o.LowUnsigned h = cc
is_of_integers o.Neg h = cc
is_of_integers o.Flip h = cc
is_of_integers o.Not h = cc
is_of_integers o.Add h = cc
is_of_integers o.Sub h = cc
is_of_integers o.Mul h = cc
is_of_integers o.DivSigned h = cc
is_of_integers o.DivUnsigned h = cc
is_of_integers o.RemSigned h = cc
is_of_integers o.RemUnsigned h = cc
is_of_integers o.And h = cc
is_of_integers o.Or h = cc
is_of_integers o.Xor h = cc
is_of_integers o.Shl h = cc
is_of_integers o.ShrSigned h = cc
is_of_integers o.ShrUnsigned h = cc
is_of_integers o.Eq h = cc
is_of_integers o.Ne h = refl
is_of_integers o.LtSigned h = cc
is_of_integers o.LtUnsigned h = cc
is_of_integers o.GtSigned h = cc
is_of_integers o.GtUnsigned h = cc
is_of_integers o.LeSigned h = cc
is_of_integers o.LeUnsigned h = cc
is_of_integers o.GeSigned h = cc
is_of_integers o.GeUnsigned h = cc
is_of_integers o.PtrNot h = cc
is_of_integers o.PtrEq h = cc
is_of_integers o.PtrNe h = cc
is_of_integers o.PtrLt h = cc
is_of_integers o.PtrGt h = cc
is_of_integers o.PtrLe h = cc
is_of_integers o.PtrGe h = cc
is_of_integers (o.PtrAdd z) h = cc
is_of_integers (o.PtrSub z) h = cc
is_of_integers (o.PtrDiff z) h = cc

is_of_pointers : (op : Op) → compared_by op ≡ Pointer → op ≡ o.PtrNe
is_of_pointers o.Keep h = cc
is_of_pointers o.LowSigned h = cc
is_of_pointers o.LowUnsigned h = cc
is_of_pointers o.Neg h = cc
is_of_pointers o.Flip h = cc
is_of_pointers o.Not h = cc
is_of_pointers o.Add h = cc
is_of_pointers o.Sub h = cc
is_of_pointers o.Mul h = cc
is_of_pointers o.DivSigned h = cc
is_of_pointers o.DivUnsigned h = cc
is_of_pointers o.RemSigned h = cc
is_of_pointers o.RemUnsigned h = cc
is_of_pointers o.And h = cc
is_of_pointers o.Or h = cc
is_of_pointers o.Xor h = cc
is_of_pointers o.Shl h = cc
is_of_pointers o.ShrSigned h = cc
is_of_pointers o.ShrUnsigned h = cc
is_of_pointers o.Eq h = cc
is_of_pointers o.Ne h = cc
is_of_pointers o.LtSigned h = cc
is_of_pointers o.LtUnsigned h = cc
is_of_pointers o.GtSigned h = cc
is_of_pointers o.GtUnsigned h = cc
is_of_pointers o.LeSigned h = cc
is_of_pointers o.LeUnsigned h = cc
is_of_pointers o.GeSigned h = cc
is_of_pointers o.GeUnsigned h = cc
is_of_pointers o.PtrNot h = cc
is_of_pointers o.PtrEq h = cc
is_of_pointers o.PtrNe h = refl
is_of_pointers o.PtrLt h = cc
is_of_pointers o.PtrGt h = cc
is_of_pointers o.PtrLe h = cc
is_of_pointers o.PtrGe h = cc
is_of_pointers (o.PtrAdd z) h = cc
is_of_pointers (o.PtrSub z) h = cc
is_of_pointers (o.PtrDiff z) h = cc

ne_tells : (m : Blocks) (v : Value) (b : Bool) → truth_of (applied m o.Ne v (Int 0)) ≡ Some b → applied m o.Ne v (Int 0) ≡ Some (Int (bit b))
ne_tells m (Int n) b h = int_tells (Some (not (eqb n 0))) b h
ne_tells m (Ptr c k) b h = cc

pub integers_tell : (m : Blocks) (op : Op) (v : Value) (b : Bool) → compared_by op ≡ Integer → truth_of (applied m op v (Int 0)) ≡ Some b → applied m op v (Int 0) ≡ Some (Int (bit b))
integers_tell m op v b d h = subst (λ (k : Op). applied m k v (Int 0) ≡ Some (Int (bit b))) (sym (is_of_integers op d)) (ne_tells m v b (subst (λ (k : Op). truth_of (applied m k v (Int 0)) ≡ Some b) (is_of_integers op d) h))

pub pointers_tell : (m : Blocks) (op : Op) (v : Value) (b : Bool) → compared_by op ≡ Pointer → truth_of (applied m op v (Int 0)) ≡ Some b → applied m op v (Int 0) ≡ Some (Int (bit b))
pointers_tell m op v b d h = subst (λ (k : Op). applied m k v (Int 0) ≡ Some (Int (bit b))) (sym (is_of_pointers op d)) (int_tells (option_map not (equal m v (Int 0))) b (subst (λ (k : Op). truth_of (applied m k v (Int 0)) ≡ Some b) (is_of_pointers op d) h))

-- an integer tells by itself what its difference from 0 tells
integer_tells : (m : Blocks) (v : Value) (b : Bool) → truth_of (applied m o.Ne v (Int 0)) ≡ Some b → is_true v ≡ Some b
integer_tells m (Int n) b h = ap (λ (y : Bool). Some y) (sym (bit_tells (not (eqb n 0)))) ∙ h
integer_tells m (Ptr b k) c h = cc

pub compared_price : (op : Op) (e : Core) → expression_price (compared op e) ≡ 12 + expression_price e
compared_price op e = let a = price_binary op e (core.Constant 0) in let b = price_constant 0 in omega (arith, a, b)

pub condition_price : (d : Compared) (op : Op) (e : Core) → expression_price (condition_by d op e) ≤ 12 + expression_price e
condition_price Integer op e = omega arith
condition_price Pointer op e = let a = compared_price op e in omega (arith, a)
condition_price Another op e = let a = compared_price op e in omega (arith, a)

pub compared_value : (p : Program) (w : World) (u : Temporaries) (op : Op) (e : Core) (v : Value) → value_of (scene p w u) e ≡ Some v → value_of (scene p w u) (compared op e) ≡ applied w.memory op v (Int 0)
compared_value p w u op e v h =
    value_binary (scene p w u) op e (core.Constant 0)
    ∙ ap (λ (x : Option Value). of_two w.memory op x (value_of (scene p w u) (core.Constant 0))) h
    ∙ ap (of_two w.memory op (Some v)) (value_constant (scene p w u) 0)

-- the value of a condition, which tells what the test tells
pub condition_value : (m : Blocks) (d : Compared) (op : Op) (v : Value) (b : Bool) → compared_by op ≡ d → truth_of (applied m op v (Int 0)) ≡ Some b → (a : Value) × (is_true a ≡ Some b) × ((p : Program) (w : World) (u : Temporaries) (e : Core) → w.memory ≡ m → value_of (scene p w u) e ≡ Some v → value_of (scene p w u) (condition_by d op e) ≡ Some a)
condition_value m Integer op v b d h = (v, integer_tells m v b (subst (λ (k : Op). truth_of (applied m k v (Int 0)) ≡ Some b) (is_of_integers op d) h), λ p w u e same i. i)
condition_value m Pointer op v b d h = let g = truth_has (applied m op v (Int 0)) b h in (g.0, g.2, λ p w u e same i. compared_value p w u op e v i ∙ ap (λ (k : Blocks). applied k op v (Int 0)) same ∙ g.1)
condition_value m Another op v b d h = let g = truth_has (applied m op v (Int 0)) b h in (g.0, g.2, λ p w u e same i. compared_value p w u op e v i ∙ ap (λ (k : Blocks). applied k op v (Int 0)) same ∙ g.1)

module _ (p : Program) (input : List ℕ) (acts : List Act) (w : World) where
  -- nothing goes before
  pub plainly : (t : Temporaries) (n : ℕ) (e : Core) (v : Value) (less nodes : ℕ) → ((u : Temporaries) → ((k : ℕ) → k < n → u k ≡ t k) → value_of (scene p w u) e ≡ Some v) → expression_price e + less ≤ 24 * nodes → Evaluates p input acts w t n (plain e n) v less nodes
  plainly t n e v less nodes h i = record {
    after = t;
    kept = λ k below. refl;
    cost = 0;
    steps = λ rest. stay (language p) (stand p input acts w t rest);
    value = h;
    within = omega (arith, i);
    more = omega arith;
  }

  -- with a further operator on the value
  pub further : (t : Temporaries) (n : ℕ) (m : Made) (f : Core → Core) (a v : Value) (less nodes less' nodes' : ℕ) → Evaluates p input acts w t n m a less nodes → ((u : Temporaries) → value_of (scene p w u) m.value ≡ Some a → value_of (scene p w u) (f m.value) ≡ Some v) → expression_price (f m.value) + less' + 24 * nodes ≤ expression_price m.value + less + 24 * nodes' → Evaluates p input acts w t n (one_of f m) v less' nodes'
  further t n m f a v less nodes less' nodes' x h i = record {
    after = x.after;
    kept = x.kept;
    cost = x.cost;
    steps = x.steps;
    value = λ u same. h u (x.value u same);
    within = let g = x.within in omega (arith, g, i);
    more = x.more;
  }

  -- two operands
  pub paired : (t : Temporaries) (n : ℕ) (m k : Made) (op : Op) (a b v : Value) (less less' nodes nodes' : ℕ) (x : Evaluates p input acts w t n m a 17 nodes) → Evaluates p input acts w x.after m.next k b 17 nodes' → applied w.memory op a b ≡ Some v → less' ≤ 21 → Evaluates p input acts w t n (two_of (operated op) m k) v less' (1 + nodes + nodes')
  paired t n m k op a b v less less' nodes nodes' x y h few = record {
    after = y.after;
    kept = λ j below. y.kept j (let g = x.more in omega (arith, g, below)) ∙ x.kept j below;
    cost = x.cost + y.cost;
    steps = λ rest. from_equal (language p) (ap (stand p input acts w t) (to_do_behind m.hoists k.hoists rest)) (then (language p) (x.steps (to_do k.hoists ++ rest)) (y.steps rest));
    value = λ u same. operated_value (scene p w u) op m.value k.value a b v (x.value u (λ j below. same j (let g = y.more in omega (arith, g, below)) ∙ y.kept j below)) (y.value u same) h;
    within = let g = x.within in let i = y.within in let e = operated_price op m.value k.value in omega (arith, g, i, e, few);
    more = let g = x.more in let i = y.more in omega (arith, g, i);
  }

  -- a temporary gets what a test says
  pub record Decided (t : Temporaries) (n : ℕ) (op : Op) (m : Made) (b : Bool) (nodes : ℕ) : Type 0 where
    pub after : Temporaries
    pub kept : (k : ℕ) → k < n → after k ≡ t k
    pub is : after n ≡ Some (Int (bit b))
    pub cost : ℕ
    pub steps : (rest : List Item) → Reaches (language p) (stand p input acts w t (to_do (decided n op m) ++ rest)) (stand p input acts w after rest) 0 cost
    pub within : cost ≤ 24 * nodes + 3

  -- a constant that is set
  sets_to : (t : Temporaries) (n c : ℕ) (rest : List Item) → Reaches (language p) (stand p input acts w t (to_do (set_to n c) ++ rest)) (stand p input acts w (put t n (Int c)) rest) 0 3
  sets_to t n c rest = loosely (language p) (costing (language p) (let e = price_constant c in omega (arith, e)) (sets p input acts w t n (core.Constant c) rest (Int c) (value_constant (scene p w t) c)))

  decide_by : (t : Temporaries) (n : ℕ) (e : Core) (b : Bool) (rest : List Item) → truth_of (value_of (scene p w t) e) ≡ Some b → Reaches (language p) (stand p input acts w t (Do (code.If e (set_to n 1) (set_to n 0)) ∷ rest)) (stand p input acts w (put t n (Int (bit b))) rest) 0 (5 + expression_price e + 3)
  decide_by t n e true rest h = loosely (language p) (then (language p) (takes p input acts w t e (set_to n 1) (set_to n 0) rest h) (sets_to t n 1 rest))
  decide_by t n e false rest h = loosely (language p) (then (language p) (skips p input acts w t e (set_to n 1) (set_to n 0) rest h) (sets_to t n 0 rest))

  -- by whatever operator
  set_by_is : (t : Temporaries) (n : ℕ) (op : Op) (d : Compared) (e : Core) (v : Value) (b : Bool) (rest : List Item) → compared_by op ≡ d → value_of (scene p w t) e ≡ Some v → truth_of (applied w.memory op v (Int 0)) ≡ Some b → Reaches (language p) (stand p input acts w t (Do (set_by d n op e) ∷ rest)) (stand p input acts w (put t n (Int (bit b))) rest) 0 (20 + expression_price e)
  set_by_is t n op Integer e v b rest d h i = loosely (language p) (costing (language p) (let k = compared_price op e in omega (arith, k)) (sets p input acts w t n (compared op e) rest (Int (bit b)) (compared_value p w t op e v h ∙ integers_tell w.memory op v b d i)))
  set_by_is t n op Pointer e v b rest d h i = loosely (language p) (costing (language p) (let k = compared_price op e in omega (arith, k)) (sets p input acts w t n (compared op e) rest (Int (bit b)) (compared_value p w t op e v h ∙ pointers_tell w.memory op v b d i)))
  set_by_is t n op Another e v b rest d h i = costing (language p) (let k = compared_price op e in omega (arith, k)) (decide_by t n (compared op e) b rest (ap truth_of (compared_value p w t op e v h) ∙ i))

  pub decide : (t : Temporaries) (n : ℕ) (op : Op) (m : Made) (b : Bool) (nodes : ℕ) → Tests p input acts w t n op m b nodes → Decided t n op m b nodes
  decide t n op m b nodes d =
      let x = d.evaluates in
      record {
        after = put x.after n (Int (bit b));
        kept = λ k below. put_below x.after n k (Int (bit b)) below ∙ x.kept k below;
        is = put_same x.after n (Int (bit b));
        cost = x.cost + (20 + expression_price m.value);
        steps = λ rest. from_equal (language p) (ap (stand p input acts w t) (to_do_behind m.hoists (set_by (compared_by op) n op m.value ∷ []) rest))
            (then (language p) (x.steps (Do (set_by (compared_by op) n op m.value) ∷ rest)) (set_by_is x.after n op (compared_by op) m.value d.value b rest refl (x.value x.after (λ k below. refl)) d.so));
        within = let g = x.within in omega (arith, g);
      }

  -- a choice between two lists of statements, each of which gives the temporary n its value
  pub record Chosen (t : Temporaries) (n : ℕ) (c : Bool) (this that : List Code) (v : Value) (most : ℕ) : Type 0 where
    pub after : Temporaries
    pub kept : (k : ℕ) → k < n → after k ≡ t k
    pub is : after n ≡ Some v
    pub cost : ℕ
    pub steps : (e : Core) (rest : List Item) → truth_of (value_of (scene p w t) e) ≡ Some c → Reaches (language p) (stand p input acts w t (Do (code.If e this that) ∷ rest)) (stand p input acts w after rest) 0 (5 + expression_price e + cost)
    pub within : cost ≤ most

  -- the first test, and then the choice
  pub chosen_value : (t : Temporaries) (n : ℕ) (a : Made) (c : Bool) (this that : List Code) (v : Value) (nodes more_nodes : ℕ) (x : Decides p input acts w t n a c nodes) → Chosen x.evaluates.after n c this that v (24 * more_nodes + 3) → Evaluates p input acts w t n (record { hoists = a.hoists ++ code.If a.value this that ∷ []; value = core.Temporary n; next = n + 1 }) v 17 (1 + nodes + more_nodes)
  chosen_value t n a c this that v nodes more_nodes x y =
      let test : truth_of (value_of (scene p w x.evaluates.after) a.value) ≡ Some c = ap truth_of (x.evaluates.value x.evaluates.after (λ k below. refl)) ∙ x.so in
      record {
        after = y.after;
        kept = λ k below. y.kept k below ∙ x.evaluates.kept k below;
        cost = x.evaluates.cost + (5 + expression_price a.value + y.cost);
        steps = λ rest. from_equal (language p) (ap (stand p input acts w t) (to_do_behind a.hoists (code.If a.value this that ∷ []) rest))
            (then (language p) (x.evaluates.steps (Do (code.If a.value this that) ∷ rest)) (y.steps a.value rest test));
        value = λ u same. value_temporary (scene p w u) n ∙ same n (omega arith) ∙ y.is;
        within = let g = x.evaluates.within in let h = y.within in let e = price_temporary n in omega (arith, g, h, e);
        more = omega arith;
      }

  -- where the choice is a constant
  pub chosen_true : (t : Temporaries) (n d : ℕ) (that : List Code) (most : ℕ) → 3 ≤ most → Chosen t n true (set_to n d) that (Int d) most
  chosen_true t n d that most h = record {
    after = put t n (Int d);
    kept = λ k below. put_below t n k (Int d) below;
    is = put_same t n (Int d);
    cost = 3;
    steps = λ e rest test. loosely (language p) (then (language p) (takes p input acts w t e (set_to n d) that rest test) (sets_to t n d rest));
    within = h;
  }

  pub chosen_false : (t : Temporaries) (n d : ℕ) (this : List Code) (most : ℕ) → 3 ≤ most → Chosen t n false this (set_to n d) (Int d) most
  chosen_false t n d this most h = record {
    after = put t n (Int d);
    kept = λ k below. put_below t n k (Int d) below;
    is = put_same t n (Int d);
    cost = 3;
    steps = λ e rest test. loosely (language p) (then (language p) (skips p input acts w t e this (set_to n d) rest test) (sets_to t n d rest));
    within = h;
  }

  -- where the choice is the second test
  pub second_true : (t : Temporaries) (n : ℕ) (op : Op) (m : Made) (b : Bool) (that : List Code) (nodes : ℕ) → Tests p input acts w t n op m b nodes → Chosen t n true (decided n op m) that (Int (bit b)) (24 * nodes + 3)
  second_true t n op m b that nodes x = let y = decide t n op m b nodes x in record {
    after = y.after;
    kept = y.kept;
    is = y.is;
    cost = y.cost;
    steps = λ e rest test. loosely (language p) (then (language p) (takes p input acts w t e (decided n op m) that rest test) (y.steps rest));
    within = y.within;
  }

  pub second_false : (t : Temporaries) (n : ℕ) (op : Op) (m : Made) (b : Bool) (this : List Code) (nodes : ℕ) → Tests p input acts w t n op m b nodes → Chosen t n false this (decided n op m) (Int (bit b)) (24 * nodes + 3)
  second_false t n op m b this nodes x = let y = decide t n op m b nodes x in record {
    after = y.after;
    kept = y.kept;
    is = y.is;
    cost = y.cost;
    steps = λ e rest test. loosely (language p) (then (language p) (skips p input acts w t e this (decided n op m) rest test) (y.steps rest));
    within = y.within;
  }
