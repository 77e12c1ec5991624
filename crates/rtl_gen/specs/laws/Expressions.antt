-- The nodes of an expression bring its value to where it is wanted, within its price.
use Rattle.std.specs.Prelude.{◌≡◌, ℕ, ◌+◌, ◌≤◌, ◌<◌, Bool, true, false, List, [], ◌∷◌, Option, Some, None, slice_get}
use Rattle.std.proofs.Common.{suc, ◌∙◌, ap, sym, refl, subst, arith}
use Rattle.pass_core.specs.Alike.{Goes}
use Rattle.pass_core.specs.Turns.{On}
use Rattle.pass_core.specs.laws.Turns.{goes_none, goes_one, goes_then, goes_costing, goes_loosely}
use Rattle.block_mem.specs.Blocks.{Blocks}
use Rattle.block_mem.specs.Access.{load}
use Rattle.block_mem.specs.Operators.{applied}
use Rattle.block_mem.specs.declared.value.Value.{Value}
use Rattle.block_mem.specs.declared.value.Value.TheVariants.{Int}
use Rattle.block_mem.specs.declared.value.Width.{Width}
use Rattle.block_mem.specs.declared.operator.Op.{Op}
use Rattle.block_mem.specs.declared.operator.Op.TheVariants.{Keep, LowSigned, LowUnsigned, Neg, Flip, Not, PtrNot}
use Rattle.unit_passes.specs.Programs.{objects_at}
use Rattle.clight_sem.specs.Values.{of_one, of_two, held, with_value}
use Rattle.core_lang.specs.Meaning.{Scene}
use Rattle.rtl_lang.specs.declared.syntax.RtlNode.{RtlNode}
use Rattle.rtl_lang.specs.declared.syntax.RtlNode.TheVariants as node
use Rattle.rtl_lang.specs.Meaning.{RtlProgram, RtlWorld, Temporaries, put, at, puts, node_turn, node_of, all_values}
use Rattle.rtl_lang.specs.Prices.{node_price, operator_price}
use Rattle.rtl_lang.specs.Units.{rtl_turns}
use Rattle.rtl_lang.specs.laws.Temporaries.{put_same, put_below}
use Rattle.rtl_gen.specs.Trees.{Tree, Constant, Temporary, Address, Local, Load, Unary, Binary}
use Rattle.rtl_gen.specs.Translation.{home, takes_one, other_home, homes}
use Rattle.rtl_gen.specs.Relation.{Graph, Zero, Into, Operand, Operands, Low}
use Rattle.rtl_gen.specs.laws.Trees.{tree_value, tree_values, tree_price, tree_prices}

-- What values and operators ask for

held_has : (m : Blocks) (w : Width) (x : Option Value) (v : Value) → held m w x ≡ Some v → (a : Value) × (x ≡ Some a) × (load m a w ≡ Some v)
held_has m w None v h = cc
held_has m w (Some a) v h = (a, refl, h)

one_has : (m : Blocks) (op : Op) (x : Option Value) (v : Value) → of_one m op x ≡ Some v → (a : Value) × (x ≡ Some a) × (applied m op a (Int 0) ≡ Some v)
one_has m op None v h = cc
one_has m op (Some a) v h = (a, refl, h)

two_have : (m : Blocks) (op : Op) (x y : Option Value) (v : Value) → of_two m op x y ≡ Some v → (a : Value) × (b : Value) × (x ≡ Some a) × (y ≡ Some b) × (applied m op a b ≡ Some v)
two_have m op None y v h = cc
two_have m op (Some a) None v h = cc
two_have m op (Some a) (Some b) v h = (a, b, refl, refl, h)

pub with_value_has : (o : Option Value) (os : Option (List Value)) (vs : List Value) → with_value o os ≡ Some vs → (a : Value) × (bs : List Value) × (o ≡ Some a) × (os ≡ Some bs) × (Some vs ≡ Some (a ∷ bs))
with_value_has None os vs h = cc
with_value_has (Some a) None vs h = cc
with_value_has (Some a) (Some bs) vs h = (a, bs, refl, refl, sym h)

left_alone : (m : Blocks) (op : Op) (a b c : Value) → takes_one op ≡ true → applied m op a b ≡ applied m op a c
left_alone m Keep a b c one = refl
left_alone m LowSigned a b c one = refl
left_alone m LowUnsigned a b c one = refl
left_alone m Neg a b c one = refl
left_alone m Flip a b c one = refl
left_alone m Not a b c one = refl
left_alone m PtrNot a b c one = refl
left_alone m op a b c one = cc

pub few_steps : (op : Op) → operator_price op ≤ 9
few_steps Keep = omega arith
few_steps op = omega arith

pub low_kept : {base k : ℕ} {ts t u : Temporaries} → base ≤ k → Low base ts t → ((j : ℕ) → j < k → u j ≡ t j) → Low base ts u
low_kept le low keeps j v lt h = keeps j (omega (arith, lt, le)) ∙ low j v lt h

-- a turn at a node that is known
pub goes_node : (q : RtlProgram) (v u : RtlWorld) (x : RtlNode) (cost : ℕ) → node_of v ≡ Some x → node_turn q v (Some x) ≡ On u → node_price (Some x) ≤ cost → Goes (rtl_turns q) v u 1 cost
goes_node q v u x cost here is few = goes_one (rtl_turns q) v u cost (ap (node_turn q v) here ∙ is) (subst (λ (n : Option RtlNode). node_price n ≤ cost) (sym here) few)

module _ (q : RtlProgram) (w : RtlWorld) (base : ℕ) (ts : Temporaries) where
  abbrev pub graph : Graph
  graph i = slice_get w.top.function.graph i

  -- what Core finds expressions in
  abbrev pub scene : Scene
  scene = record { memory = w.memory; temporaries = ts; objects = objects_at q w.top.unit; activation = w.top.activation }

  -- from p to n the value comes into temporary d
  pub record Evaluated (k d p n : ℕ) (t : Temporaries) (v : Value) (cost : ℕ) : Type 0 where
    pub before : Temporaries
    pub keeps : (j : ℕ) → j < k → before j ≡ t j
    pub goes : Goes (rtl_turns q) (at w p t) (at w n (put before d v)) 1 cost

  -- from p to n the value comes into its home
  pub record Ready (e : Tree) (k p n : ℕ) (t : Temporaries) (v : Value) (cost : ℕ) : Type 0 where
    pub after : Temporaries
    pub keeps : (j : ℕ) → j < k → after j ≡ t j
    pub here : after (home k e) ≡ Some v
    pub low : home k e ≤ k
    pub goes : Goes (rtl_turns q) (at w p t) (at w n after) 0 cost

  in_home : (e : Tree) (k p n : ℕ) (t : Temporaries) (v : Value) (cost : ℕ) → home k e ≡ k → Evaluated k k p n t v cost → Ready e k p n t v cost
  in_home e k p n t v cost same x = record {
    after = put x.before k v;
    keeps = λ j lt. put_below x.before k j v lt ∙ x.keeps j lt;
    here = ap (put x.before k v) same ∙ put_same x.before k v;
    low = omega (arith, same);
    goes = goes_loosely (rtl_turns q) x.goes;
  }

  ready_of : (e : Tree) (k p n : ℕ) (t : Temporaries) (v : Value) → base ≤ k → Low base ts t → tree_value scene e ≡ Some v → Operand graph base e k p n → (Into graph base e k k p n → Evaluated k k p n t v (tree_price e)) → Ready e k p n t v (tree_price e)
  ready_of (Constant c) k p n t v le low is h f = in_home (Constant c) k p n t v _ refl (f h)
  ready_of (Temporary j) k p n t v le low is h f = record {
    after = t;
    keeps = λ i lt. refl;
    here = low j v h.0 is;
    low = let r = h.0 in omega (arith, r, le);
    goes = subst (λ (m : ℕ). Goes (rtl_turns q) (at w p t) (at w m t) 0 4) h.1 (goes_costing (rtl_turns q) (omega arith) (goes_none (rtl_turns q) (at w p t)));
  }
  ready_of (Address symbol offset) k p n t v le low is h f = in_home (Address symbol offset) k p n t v _ refl (f h)
  ready_of (Local index) k p n t v le low is h f = in_home (Local index) k p n t v _ refl (f h)
  ready_of (Load wd x) k p n t v le low is h f = in_home (Load wd x) k p n t v _ refl (f h)
  ready_of (Unary op x) k p n t v le low is h f = in_home (Unary op x) k p n t v _ refl (f h)
  ready_of (Binary op x y) k p n t v le low is h f = in_home (Binary op x y) k p n t v _ refl (f h)

  -- the last node puts the value
  last : (p m n k d : ℕ) (t u : Temporaries) (v : Value) (x : RtlNode) (o : Option Value) (a c cost : ℕ) → ((j : ℕ) → j < k → u j ≡ t j) → Goes (rtl_turns q) (at w p t) (at w m u) 0 a → graph m ≡ Some x → node_turn q (at w m u) (Some x) ≡ puts (at w m u) d o n → o ≡ Some v → node_price (Some x) ≤ c → a + c ≤ cost → Evaluated k d p n t v cost
  last p m n k d t u v x o a c cost keeps g here e is price le = record {
    before = u;
    keeps = keeps;
    goes = goes_costing (rtl_turns q) le (goes_then (rtl_turns q) g (goes_node q (at w m u) (at w n (put u d v)) x c here (e ∙ ap (λ r. puts (at w m u) d r n) is) price));
  }

  -- both operands of an operator that has one in the source
  record Doubled (op : Op) (one : Bool) (x : Tree) (k m n : ℕ) (u : Temporaries) (a : Value) : Type 0 where
    after : Temporaries
    keeps : (j : ℕ) → j < suc k → after j ≡ u j
    here : of_two w.memory op (after (home k x)) (after (other_home one k x)) ≡ applied w.memory op a (Int 0)
    goes : Goes (rtl_turns q) (at w m u) (at w n after) 0 3

  doubled : (op : Op) (one : Bool) (x : Tree) (k m n : ℕ) (u : Temporaries) (a : Value) → takes_one op ≡ one → u (home k x) ≡ Some a → home k x ≤ k → Zero graph one (suc k) m n → Doubled op one x k m n u a
  doubled op true x k m n u a is here low h = record {
    after = u;
    keeps = λ j lt. refl;
    here = ap (λ o. of_two w.memory op o o) here ∙ left_alone w.memory op a a (Int 0) is;
    goes = subst (λ (i : ℕ). Goes (rtl_turns q) (at w m u) (at w i u) 0 3) h (goes_costing (rtl_turns q) (omega arith) (goes_none (rtl_turns q) (at w m u)));
  }
  doubled op false x k m n u a is here low h =
      let there : put u (suc k) (Int 0) (home k x) ≡ Some a = put_below u (suc k) (home k x) (Int 0) (omega (arith, low)) ∙ here in
      record {
        after = put u (suc k) (Int 0);
        keeps = λ j lt. put_below u (suc k) j (Int 0) lt;
        here = ap (λ o. of_two w.memory op o (put u (suc k) (Int 0) (suc k))) there ∙ ap (of_two w.memory op (Some a)) (put_same u (suc k) (Int 0));
        goes = goes_loosely (rtl_turns q) (goes_node q (at w m u) (at w n (put u (suc k) (Int 0))) (node.Const 0 (suc k) n) 3 h refl (omega arith));
      }

  pub into : (e : Tree) (k d p n : ℕ) (t : Temporaries) (v : Value) → base ≤ k → Low base ts t → tree_value scene e ≡ Some v → Into graph base e k d p n → Evaluated k d p n t v (tree_price e)
  into (Constant c) k d p n t v le low is h = last p p n k d t t v _ _ 0 3 _ (λ j lt. refl) (goes_none (rtl_turns q) (at w p t)) h refl is (omega arith) (omega arith)
  into (Temporary j) k d p n t v le low is h = last p p n k d t t v _ _ 0 4 _ (λ i lt. refl) (goes_none (rtl_turns q) (at w p t)) h.1 refl (ap (λ o. of_two w.memory Keep o o) (low j v h.0 is)) (omega arith) (omega arith)
  into (Address symbol offset) k d p n t v le low is h = last p p n k d t t v _ _ 0 3 _ (λ j lt. refl) (goes_none (rtl_turns q) (at w p t)) h refl is (omega arith) (omega arith)
  into (Local index) k d p n t v le low is h = last p p n k d t t v _ _ 0 3 _ (λ j lt. refl) (goes_none (rtl_turns q) (at w p t)) h refl is (omega arith) (omega arith)
  into (Load wd x) k d p n t v le low is h =
      let y = held_has w.memory wd (tree_value scene x) v is in
      let r = ready_of x k p h.0 t y.0 le low y.1 h.1 (λ z. into x k k p h.0 t y.0 le low y.1 z) in
      last p h.0 n k d t r.after v _ _ (tree_price x) 4 _ r.keeps r.goes h.2 refl (ap (held w.memory wd) r.here ∙ y.2) (omega arith) (omega arith)
  into (Unary op x) k d p n t v le low is h =
      let y = one_has w.memory op (tree_value scene x) v is in
      let r = ready_of x k p h.0 t y.0 le low y.1 h.1 (λ z. into x k k p h.0 t y.0 le low y.1 z) in
      let s = doubled op (takes_one op) x k h.0 h.2.0 r.after y.0 refl r.here r.low h.2.1 in
      last p h.2.0 n k d t s.after v _ _ (tree_price x + 3) 9 _ (λ j lt. s.keeps j (omega (arith, lt)) ∙ r.keeps j lt) (goes_then (rtl_turns q) r.goes s.goes) h.2.2 refl (s.here ∙ y.2) (few_steps op) (omega arith)
  into (Binary op x z) k d p n t v le low is h =
      let y = two_have w.memory op (tree_value scene x) (tree_value scene z) v is in
      let r = ready_of x k p h.0 t y.0 le low y.2 h.1 (λ i. into x k k p h.0 t y.0 le low y.2 i) in
      let le2 : base ≤ suc k = omega (arith, le) in
      let low2 = low_kept le low r.keeps in
      let s = ready_of z (suc k) h.0 h.2.0 r.after y.1 le2 low2 y.3 h.2.1 (λ i. into z (suc k) (suc k) h.0 h.2.0 r.after y.1 le2 low2 y.3 i) in
      let left : s.after (home k x) ≡ Some y.0 = s.keeps (home k x) (omega (arith, r.low)) ∙ r.here in
      last p h.2.0 n k d t s.after v _ _ (tree_price x + tree_price z) 9 _ (λ j lt. s.keeps j (omega (arith, lt)) ∙ r.keeps j lt) (goes_then (rtl_turns q) r.goes s.goes) h.2.2 refl
      (ap (λ o. of_two w.memory op o (s.after (home (suc k) z))) left ∙ ap (of_two w.memory op (Some y.0)) s.here ∙ y.4) (few_steps op) (omega arith)

  pub ready : (e : Tree) (k p n : ℕ) (t : Temporaries) (v : Value) → base ≤ k → Low base ts t → tree_value scene e ≡ Some v → Operand graph base e k p n → Ready e k p n t v (tree_price e)
  ready e k p n t v le low is h = ready_of e k p n t v le low is h (λ i. into e k k p n t v le low is i)

  -- arguments, each in its home
  pub record AllReady (xs : List Tree) (k p n : ℕ) (t : Temporaries) (vs : List Value) (cost : ℕ) : Type 0 where
    pub after : Temporaries
    pub keeps : (j : ℕ) → j < k → after j ≡ t j
    pub here : all_values after (homes k xs) ≡ Some vs
    pub goes : Goes (rtl_turns q) (at w p t) (at w n after) 0 cost

  pub all_ready : (xs : List Tree) (k p n : ℕ) (t : Temporaries) (vs : List Value) → base ≤ k → Low base ts t → tree_values scene xs ≡ Some vs → Operands graph base xs k p n → AllReady xs k p n t vs (tree_prices xs)
  all_ready [] k p n t vs le low is h = record {
    after = t;
    keeps = λ j lt. refl;
    here = is;
    goes = subst (λ (m : ℕ). Goes (rtl_turns q) (at w p t) (at w m t) 0 0) h (goes_none (rtl_turns q) (at w p t));
  }
  all_ready (x ∷ xs) k p n t vs le low is h =
      let y = with_value_has (tree_value scene x) (tree_values scene xs) vs is in
      let r = ready x k p h.0 t y.0 le low y.2 h.1 in
      let le2 : base ≤ suc k = omega (arith, le) in
      let low2 = low_kept le low r.keeps in
      let s = all_ready xs (suc k) h.0 n r.after y.1 le2 low2 y.3 h.2 in
      let first : s.after (home k x) ≡ Some y.0 = s.keeps (home k x) (omega (arith, r.low)) ∙ r.here in
      record {
        after = s.after;
        keeps = λ j lt. s.keeps j (omega (arith, lt)) ∙ r.keeps j lt;
        here = ap (λ o. with_value o (all_values s.after (homes (suc k) xs))) first ∙ ap (with_value (Some y.0)) s.here ∙ sym y.4;
        goes = goes_then (rtl_turns q) r.goes s.goes;
      }
