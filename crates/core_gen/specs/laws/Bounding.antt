-- What is made of a function comes to no more code than its nodes pay, and takes no more of the stack.
use Rattle.std.specs.Prelude.{◌≡◌, ℕ, ◌+◌, ◌*◌, ◌≤◌, max, min, List, [], ◌∷◌, ◌++◌, Option, Some, None}
use Rattle.std.proofs.Common.{refl, sym, subst, arith, inl, inr}
use Rattle.std.proofs.Math.Nat.{le-max_left, le-max_right, max-le, min-le_right}
use Rattle.cc_base.specs.Words.{add32}
use Rattle.block_mem.specs.declared.value.Width.{Width}
use Rattle.block_mem.specs.declared.operator.Op.{Op}
use Rattle.block_mem.specs.declared.operator.Op.TheVariants.{PtrAdd}
use Rattle.clight_unit.specs.declared.expression.Expression.{Expression}
use Rattle.clight_unit.specs.declared.expression.Expression.TheOpen.{Expression-F, Test-F, Place-F}
use Rattle.clight_unit.specs.declared.expression.Expression.TheFolds.{map-Expression, map-Place, map-Test, fold-roll-Expression, fold-roll-Place, fold-roll-Test, ind-Expression, ind-Place, ind-Test}
use Rattle.clight_unit.specs.declared.expression.Expression.TheViews.{roll-Expression, roll-Place, roll-Test}
use Rattle.clight_unit.specs.declared.expression.Test.{Test}
use Rattle.clight_unit.specs.declared.expression.Place.{Place}
use Rattle.clight_sem.specs.Bounds.{Compared, Integer, Pointer, Another, compared_by, own_count, test_count_step, expression_count, place_count, test_count}
use Rattle.clight_sem.specs.Prices.{expression_nodes_step, place_nodes_step}
use Rattle.core_lang.specs.Bounds.{Size, of_bytes, and, expression_size, statement_size, body_size}
use Rattle.core_lang.specs.laws.Sizes.{size_constant, size_temporary, size_address, size_local, size_load, size_unary, size_binary, size_set, size_store, size_if, size_exit}
use Rattle.core_lang.specs.declared.syntax.Expression.{Expression as Core, out-Expression}
use Rattle.core_lang.specs.declared.syntax.Expression.TheOpen as parts
use Rattle.core_lang.specs.declared.syntax.Expression.TheVariants as core
use Rattle.core_lang.specs.declared.syntax.Statement.{Statement as Code}
use Rattle.core_lang.specs.declared.syntax.Statement.TheVariants as code
use Rattle.core_gen.specs.Translation.{Made}
use Rattle.core_gen.specs.Translation.{Maker, TestMaker, plain, one_of, two_of, set_to, compared, condition_by, condition, condition_made, set_by, decided_made, both_of, either_of, moved_by, moved, element_of, bytes_by, operated_by, operated, expression_gen, place_gen, test_gen, made_of, place_made, test_made, converted_by}
use Rattle.core_gen.specs.laws.Assigning.{keeps_or_not, other_kept}

-- Sizes

-- a size with these bounds
pub record Small (s : Size) (b r d a : ℕ) : Type 0 where
  pub bytes : s.bytes ≤ b
  pub reach : s.reach ≤ r
  pub depth : s.depth ≤ d
  pub arguments : s.arguments ≤ a

pub small_none : (b r d a : ℕ) → Small (of_bytes 0) b r d a
small_none b r d a = record { bytes = omega arith; reach = omega arith; depth = omega arith; arguments = omega arith }

pub small_and : {x y : Size} {b c r d a : ℕ} → Small x b r d a → Small y c r d a → Small (and x y) (b + c) r d a
small_and p q = record {
  bytes = let g = p.bytes in let h = q.bytes in omega (arith, g, h);
  reach = max-le p.reach q.reach;
  depth = max-le p.depth q.depth;
  arguments = max-le p.arguments q.arguments;
}

pub looser : {x : Size} {b r d a b' r' d' a' : ℕ} → b ≤ b' → r ≤ r' → d ≤ d' → a ≤ a' → Small x b r d a → Small x b' r' d' a'
looser g h i j p = record {
  bytes = let k = p.bytes in omega (arith, g, k);
  reach = let k = p.reach in omega (arith, h, k);
  depth = let k = p.depth in omega (arith, i, k);
  arguments = let k = p.arguments in omega (arith, j, k);
}

pub small_same : {x y : Size} {b r d a : ℕ} → x ≡ y → Small y b r d a → Small x b r d a
small_same {x} {y} {b} {r} {d} {a} e p = subst (λ (z : Size). Small z b r d a) (sym e) p

small_one : {x : Size} {b r d a : ℕ} → Small x b r d a → Small (and x (of_bytes 0)) b r d a
small_one {x} {b} {r} {d} {a} p = looser (omega arith) (omega arith) (omega arith) (omega arith) (small_and p (small_none 0 r d a))

pub left_le : (x y : ℕ) {c : ℕ} → max x y ≤ c → x ≤ c
left_le x y {c} h = let g = le-max_left x y in omega (arith, g, h)

pub right_le : (x y : ℕ) {c : ℕ} → max x y ≤ c → y ≤ c
right_le x y {c} h = let g = le-max_right x y in omega (arith, g, h)

-- one list behind another
pub small_append : (xs ys : List Code) (b c r d a : ℕ) → Small (body_size xs) b r d a → Small (body_size ys) c r d a → Small (body_size (xs ++ ys)) (b + c) r d a
small_append [] ys b c r d a p q = looser (omega arith) (omega arith) (omega arith) (omega arith) q
small_append (x ∷ xs) ys b c r d a p q =
    let s = statement_size x in
    let t = body_size xs in
    let head : Small s s.bytes r d a = record { bytes = omega arith; reach = left_le s.reach t.reach p.reach; depth = left_le s.depth t.depth p.depth; arguments = left_le s.arguments t.arguments p.arguments } in
    let tail : Small t t.bytes r d a = record { bytes = omega arith; reach = right_le s.reach t.reach p.reach; depth = right_le s.depth t.depth p.depth; arguments = right_le s.arguments t.arguments p.arguments } in
    looser (let g = p.bytes in omega (arith, g)) (omega arith) (omega arith) (omega arith) (small_and head (small_append xs ys t.bytes c r d a tail q))

pub small_alone : (x : Code) (b r d a : ℕ) → Small (statement_size x) b r d a → Small (body_size (x ∷ [])) b r d a
small_alone x b r d a p = small_one p

-- Statements of Core

pub small_set : (k : ℕ) (e : Core) (b r d a : ℕ) → k + 1 ≤ r → Small (expression_size e) b r d a → Small (statement_size (code.Set k e)) b r d a
small_set k e b r d a h p = small_same (size_set k e) (record { bytes = p.bytes; reach = max-le h p.reach; depth = p.depth; arguments = p.arguments })

pub small_store : (w : Width) (e v : Core) (b c r d a : ℕ) → Small (expression_size e) b r d a → Small (expression_size v) c r d a → Small (statement_size (code.Store w e v)) (26 + b + c) r (1 + d) a
small_store w e v b c r d a p q = small_same (size_store w e v) (record {
  bytes = let g = p.bytes in let h = q.bytes in omega (arith, g, h);
  reach = max-le p.reach q.reach;
  depth = max-le (let g = p.depth in omega (arith, g)) (let g = q.depth in omega (arith, g));
  arguments = omega arith;
})

pub small_if : (e : Core) (this that : List Code) (b c f r d a : ℕ) → Small (expression_size e) b r d a → Small (body_size this) c r d a → Small (body_size that) f r d a → Small (statement_size (code.If e this that)) (28 + b + (c + f)) r d a
small_if e this that b c f r d a p q s = small_same (size_if e this that) (small_and (record { bytes = let g = p.bytes in omega (arith, g); reach = p.reach; depth = p.depth; arguments = p.arguments }) (small_and q s))

pub small_exit : (n b r d a : ℕ) → Small (body_size (code.Exit n ∷ [])) b r d a
small_exit n b r d a = small_alone (code.Exit n) b r d a (small_same (size_exit n) (small_none b r d a))

-- Expressions

-- what is made at n of so many nodes
pub record Within (n : ℕ) (m : Made) (slack nodes : ℕ) : Type 0 where
  pub some : 1 ≤ nodes
  pub more : n ≤ m.next
  pub next : m.next ≤ n + nodes
  pub hoisted : ℕ
  pub found : ℕ
  pub hoists : Small (body_size m.hoists) hoisted (n + nodes + 1) (1 + nodes) 0
  pub value : Small (expression_size m.value) found (n + nodes + 1) (1 + nodes) 0
  pub within : hoisted + found + slack ≤ 128 * nodes

-- an operator on a value takes so many bytes more
abbrev Adds : (Core → Core) → ℕ → Type 0
Adds f more = (e : Core) (b r d : ℕ) → 2 ≤ d → Small (expression_size e) b r d 0 → Small (expression_size (f e)) (more + b) r d 0

small_constant : (c b r d : ℕ) → 17 ≤ b → 1 ≤ d → Small (expression_size (core.Constant c)) b r d 0
small_constant c b r d h i = small_same (size_constant c) (record { bytes = h; reach = omega arith; depth = i; arguments = omega arith })

pub small_temporary : (k b r d : ℕ) → 19 ≤ b → k + 1 ≤ r → 1 ≤ d → Small (expression_size (core.Temporary k)) b r d 0
small_temporary k b r d h i j = small_same (size_temporary k) (record { bytes = h; reach = i; depth = j; arguments = omega arith })

small_binary : (op : Op) (x y : Core) (b c r d : ℕ) → Small (expression_size x) b r (1 + d) 0 → Small (expression_size y) c r d 0 → Small (expression_size (core.Binary op x y)) (40 + b + c) r (1 + d) 0
small_binary op x y b c r d p q = small_same (size_binary op x y) (record {
  bytes = let g = p.bytes in let h = q.bytes in omega (arith, g, h);
  reach = max-le p.reach q.reach;
  depth = max-le p.depth (let g = q.depth in omega (arith, g));
  arguments = omega arith;
})

adds_load : (w : Width) → Adds (core.Load w) 26
adds_load w e b r d h p = small_same (size_load w e) (record { bytes = let g = p.bytes in omega (arith, g); reach = p.reach; depth = p.depth; arguments = omega arith })

adds_unary : (op : Op) → Adds (core.Unary op) 57
adds_unary op e b r d h p = small_same (size_unary op e) (record { bytes = let g = p.bytes in omega (arith, g); reach = p.reach; depth = max-le p.depth h; arguments = omega arith })

adds_constant : (op : Op) (c : ℕ) → Adds (λ e. core.Binary op e (core.Constant c)) 57
adds_constant op c e b r d h p = small_same (size_binary op e (core.Constant c)) (
    let q : Small (expression_size (core.Constant c)) 17 r 1 0 = small_constant c 17 r 1 (omega arith) (omega arith) in record {
      bytes = let g = p.bytes in let i = q.bytes in omega (arith, g, i);
      reach = max-le p.reach q.reach;
      depth = max-le p.depth (let g = q.depth in omega (arith, g, h));
      arguments = omega arith;
    })

adds_moved_by : (x : parts.Expression-F Core) (offset : ℕ) → Adds (moved_by x offset) 57
adds_moved_by (parts.Expression-F.Constant c) offset e b r d h p = adds_constant (PtrAdd 1) offset e b r d h p
adds_moved_by (parts.Expression-F.Temporary k) offset e b r d h p = adds_constant (PtrAdd 1) offset e b r d h p
adds_moved_by (parts.Expression-F.Address symbol plus) offset e b r d h p = small_same (size_address symbol (add32 plus offset)) (record { bytes = omega arith; reach = omega arith; depth = let g = h in omega (arith, g); arguments = omega arith })
adds_moved_by (parts.Expression-F.Local index) offset e b r d h p = adds_constant (PtrAdd 1) offset e b r d h p
adds_moved_by (parts.Expression-F.Load w x) offset e b r d h p = adds_constant (PtrAdd 1) offset e b r d h p
adds_moved_by (parts.Expression-F.Unary op x) offset e b r d h p = adds_constant (PtrAdd 1) offset e b r d h p
adds_moved_by (parts.Expression-F.Binary op x y) offset e b r d h p = adds_constant (PtrAdd 1) offset e b r d h p

adds_moved : (offset : ℕ) → Adds (moved offset) 57
adds_moved offset e b r d h p = adds_moved_by (out-Expression e) offset e b r d h p

small_operated_by : (bytes : Option ℕ) (z : parts.Expression-F Core) (op : Op) (x y : Core) (b c r d : ℕ) → Small (expression_size x) b r (1 + d) 0 → Small (expression_size y) c r d 0 → Small (expression_size (operated_by bytes z op x y)) (40 + b + c) r (1 + d) 0
small_operated_by None z op x y b c r d p q = small_binary op x y b c r d p q
small_operated_by (Some bytes) (parts.Expression-F.Address symbol plus) op x y b c r d p q = small_same (size_address symbol (add32 plus bytes)) (record { bytes = omega arith; reach = omega arith; depth = omega arith; arguments = omega arith })
small_operated_by (Some bytes) (parts.Expression-F.Constant m) op x y b c r d p q = small_binary op x y b c r d p q
small_operated_by (Some bytes) (parts.Expression-F.Temporary m) op x y b c r d p q = small_binary op x y b c r d p q
small_operated_by (Some bytes) (parts.Expression-F.Local m) op x y b c r d p q = small_binary op x y b c r d p q
small_operated_by (Some bytes) (parts.Expression-F.Load width inner) op x y b c r d p q = small_binary op x y b c r d p q
small_operated_by (Some bytes) (parts.Expression-F.Unary other inner) op x y b c r d p q = small_binary op x y b c r d p q
small_operated_by (Some bytes) (parts.Expression-F.Binary other inner second) op x y b c r d p q = small_binary op x y b c r d p q

small_operated : (op : Op) (x y : Core) (b c r d : ℕ) → Small (expression_size x) b r (1 + d) 0 → Small (expression_size y) c r d 0 → Small (expression_size (operated op x y)) (40 + b + c) r (1 + d) 0
small_operated op x y b c r d p q = small_operated_by (bytes_by (element_of op) (out-Expression y)) (out-Expression x) op x y b c r d p q

adds_nothing : (more : ℕ) → Adds (λ e. e) more
adds_nothing more e b r d h p = looser (omega arith) (omega arith) (omega arith) (omega arith) p

adds_condition : (k : Compared) (op : Op) → Adds (condition_by k op) 57
adds_condition Integer op = adds_nothing 57
adds_condition Pointer op = adds_constant op 0
adds_condition Another op = adds_constant op 0

pub adds_converted : (op : Op) → Adds (converted_by op) 57
adds_converted op e b r d h p = elim (keeps_or_not op) [
  | inl keeps ↦ subst (λ (z : Op). Small (expression_size (converted_by z e)) (57 + b) r d 0) (sym keeps) (adds_nothing 57 e b r d h p)
  | inr ne ↦ subst (λ (z : Core). Small (expression_size z) (57 + b) r d 0) (sym (other_kept op e ne)) (adds_unary op e b r d h p)
]

plain_within : (n : ℕ) (e : Core) (found slack nodes : ℕ) → 1 ≤ nodes → Small (expression_size e) found (n + nodes + 1) (1 + nodes) 0 → found + slack ≤ 128 * nodes → Within n (plain e n) slack nodes
plain_within n e found slack nodes s p h = record {
  some = s;
  more = omega arith;
  next = omega arith;
  hoisted = 0;
  found = found;
  hoists = small_none 0 (n + nodes + 1) (1 + nodes) 0;
  value = p;
  within = omega (arith, h);
}

one_within : (n : ℕ) (m : Made) (f : Core → Core) (more slack nodes slack' nodes' : ℕ) → Within n m slack nodes → Adds f more → nodes ≤ nodes' → more + slack' + 128 * nodes ≤ slack + 128 * nodes' → Within n (one_of f m) slack' nodes'
one_within n m f more slack nodes slack' nodes' x adds up h = record {
  some = let g = x.some in omega (arith, g, up);
  more = x.more;
  next = let g = x.next in omega (arith, g, up);
  hoisted = x.hoisted;
  found = more + x.found;
  hoists = looser (omega arith) (omega (arith, up)) (omega (arith, up)) (omega arith) x.hoists;
  value = looser (omega arith) (omega (arith, up)) (omega (arith, up)) (omega arith) (adds m.value x.found (n + nodes + 1) (1 + nodes) (let g = x.some in omega (arith, g)) x.value);
  within = let g = x.within in omega (arith, g, h);
}

-- the same with more nodes, or less to spare
same_within : (n : ℕ) (m : Made) (slack nodes slack' nodes' : ℕ) → Within n m slack nodes → nodes ≤ nodes' → slack' + 128 * nodes ≤ slack + 128 * nodes' → Within n m slack' nodes'
same_within n m slack nodes slack' nodes' x up h = one_within n m (λ e. e) 0 slack nodes slack' nodes' x (adds_nothing 0) up (omega (arith, h))

two_within : (n : ℕ) (m k : Made) (op : Op) (nodes nodes' slack : ℕ) → Within n m 80 nodes → Within m.next k 80 nodes' → slack ≤ 248 → Within n (two_of (operated op) m k) slack (1 + nodes + nodes')
two_within n m k op nodes nodes' slack x y h =
    let i = x.next in record {
      some = omega arith;
      more = let g = x.more in let j = y.more in omega (arith, g, j);
      next = let j = y.next in omega (arith, i, j);
      hoisted = x.hoisted + y.hoisted;
      found = 40 + x.found + y.found;
      hoists = small_append m.hoists k.hoists x.hoisted y.hoisted (n + (1 + nodes + nodes') + 1) (1 + (1 + nodes + nodes')) 0
          (looser (omega arith) (omega arith) (omega arith) (omega arith) x.hoists) (looser (omega arith) (omega (arith, i)) (omega arith) (omega arith) y.hoists);
      value = small_operated op m.value k.value x.found y.found (n + (1 + nodes + nodes') + 1) (1 + nodes + nodes')
          (looser (omega arith) (omega arith) (omega arith) (omega arith) x.value) (looser (omega arith) (omega (arith, i)) (omega arith) (omega arith) y.value);
      within = let g = x.within in let j = y.within in omega (arith, g, j, h);
    }

-- Tests

pub record TestWithin (n : ℕ) (t : TestMaker) (nodes : ℕ) : Type 0 where
  pub inner : ℕ
  pub whole : nodes ≡ own_count (compared_by t.differs) + inner
  pub within : Within n (t.value n) 80 inner

pub condition_within : (n : ℕ) (t : TestMaker) (nodes : ℕ) → TestWithin n t nodes → Within n (condition_made t n) 23 nodes
condition_within n t nodes x = one_within n (t.value n) (condition t.differs) 57 80 x.inner 23 nodes x.within (adds_condition (compared_by t.differs) t.differs) (let g = x.whole in omega (arith, g)) (let g = x.whole in omega (arith, g))

small_set_to : (n c r d : ℕ) → n + 1 ≤ r → 1 ≤ d → Small (body_size (set_to n c)) 17 r d 0
small_set_to n c r d h i = small_alone (code.Set n (core.Constant c)) 17 r d 0 (small_set n (core.Constant c) 17 r d 0 h (small_constant c 17 r d (omega arith) i))

small_set_by : (k : Compared) (n : ℕ) (op : Op) (e : Core) (b r d : ℕ) → n + 1 ≤ r → 2 ≤ d → Small (expression_size e) b r d 0 → Small (statement_size (set_by k n op e)) (57 + b + 62 * own_count k) r d 0
small_set_by Integer n op e b r d h i p = small_set n (compared op e) (57 + b + 62 * 0) r d 0 h (looser (omega arith) (omega arith) (omega arith) (omega arith) (adds_constant op 0 e b r d i p))
small_set_by Pointer n op e b r d h i p = small_set n (compared op e) (57 + b + 62 * 0) r d 0 h (looser (omega arith) (omega arith) (omega arith) (omega arith) (adds_constant op 0 e b r d i p))
small_set_by Another n op e b r d h i p = looser (omega arith) (omega arith) (omega arith) (omega arith)
    (small_if (compared op e) (set_to n 1) (set_to n 0) (57 + b) 17 17 r d 0 (adds_constant op 0 e b r d i p) (small_set_to n 1 r d h (omega (arith, i))) (small_set_to n 0 r d h (omega (arith, i))))

-- the second test of `&&` or `||`, in bytes of its own
small_decided : (n : ℕ) (t : TestMaker) (nodes r d : ℕ) (x : TestWithin n t nodes) → n + nodes + 1 ≤ r → 1 + nodes ≤ d → Small (body_size (decided_made t n)) (x.within.hoisted + (57 + x.within.found + 62 * own_count (compared_by t.differs))) r d 0
small_decided n t nodes r d x h i =
    let m = t.value n in
    let w = x.whole in
    let s = x.within.some in
    small_append m.hoists (set_by (compared_by t.differs) n t.differs m.value ∷ []) x.within.hoisted (57 + x.within.found + 62 * own_count (compared_by t.differs)) r d 0
    (looser (omega arith) (omega (arith, h, w)) (omega (arith, i, w)) (omega arith) x.within.hoists)
    (small_alone (set_by (compared_by t.differs) n t.differs m.value) (57 + x.within.found + 62 * own_count (compared_by t.differs)) r d 0
    (small_set_by (compared_by t.differs) n t.differs m.value x.within.found r d (omega (arith, h)) (omega (arith, i, w, s)) (looser (omega arith) (omega (arith, h, w)) (omega (arith, i, w)) (omega arith) x.within.value)))

-- a choice behind a condition, whose lists take so many bytes
choice_within : (n : ℕ) (m : Made) (this that : List Code) (b c nodes more : ℕ) → Within n m 23 nodes → Small (body_size this) b (n + (1 + nodes + more) + 1) (1 + (1 + nodes + more)) 0 → Small (body_size that) c (n + (1 + nodes + more) + 1) (1 + (1 + nodes + more)) 0 → b + c ≤ 24 + 128 * more → Within n (record { hoists = m.hoists ++ code.If m.value this that ∷ []; value = core.Temporary n; next = n + 1 }) 80 (1 + nodes + more)
choice_within n m this that b c nodes more x p q h =
    let r = n + (1 + nodes + more) + 1 in
    let d = 1 + (1 + nodes + more) in
    record {
      some = omega arith;
      more = omega arith;
      next = omega arith;
      hoisted = x.hoisted + (28 + x.found + (b + c));
      found = 19;
      hoists = small_append m.hoists (code.If m.value this that ∷ []) x.hoisted (28 + x.found + (b + c)) r d 0 (looser (omega arith) (omega arith) (omega arith) (omega arith) x.hoists)
          (small_alone (code.If m.value this that) (28 + x.found + (b + c)) r d 0 (small_if m.value this that x.found b c r d 0 (looser (omega arith) (omega arith) (omega arith) (omega arith) x.value) p q));
      value = small_temporary n 19 r d (omega arith) (omega arith) (omega arith);
      within = let g = x.within in omega (arith, g, h);
    }

both_within : (n : ℕ) (x y : TestMaker) (i j : ℕ) → TestWithin n x i → TestWithin n y j → Within n (both_of n (condition_made x n) (decided_made y n)) 80 (1 + i + j)
both_within n x y i j p q = choice_within n (condition_made x n) (decided_made y n) (set_to n 0) (q.within.hoisted + (57 + q.within.found + 62 * own_count (compared_by y.differs))) 17 i j (condition_within n x i p)
    (small_decided n y j (n + (1 + i + j) + 1) (1 + (1 + i + j)) q (omega arith) (omega arith)) (small_set_to n 0 (n + (1 + i + j) + 1) (1 + (1 + i + j)) (omega arith) (omega arith))
    (let g = q.whole in let h = q.within.within in omega (arith, g, h))

either_within : (n : ℕ) (x y : TestMaker) (i j : ℕ) → TestWithin n x i → TestWithin n y j → Within n (either_of n (condition_made x n) (decided_made y n)) 80 (1 + i + j)
either_within n x y i j p q = choice_within n (condition_made x n) (set_to n 1) (decided_made y n) 17 (q.within.hoisted + (57 + q.within.found + 62 * own_count (compared_by y.differs))) i j (condition_within n x i p)
    (small_set_to n 1 (n + (1 + i + j) + 1) (1 + (1 + i + j)) (omega arith) (omega arith)) (small_decided n y j (n + (1 + i + j) + 1) (1 + (1 + i + j)) q (omega arith) (omega arith))
    (let g = q.whole in let h = q.within.within in omega (arith, g, h))

-- By induction

abbrev IsWithin : Maker → ℕ → ℕ → Type 0
IsWithin make slack nodes = (n : ℕ) → Within n (make n) slack nodes

abbrev AreWithin : TestMaker → ℕ → Type 0
AreWithin make nodes = (n : ℕ) → TestWithin n make nodes

abbrev ForExpression : Expression → Type 0
ForExpression e = IsWithin (made_of e) 80 (expression_count e)

abbrev ForPlace : Place → Type 0
ForPlace e = IsWithin (place_made e) 106 (place_count e)

abbrev ForTest : Test → Type 0
ForTest e = AreWithin (test_made e) (test_count e)

abbrev AnExpression : Type 0
AnExpression = (e : Expression) × ForExpression e

abbrev APlace : Type 0
APlace = (e : Place) × ForPlace e

abbrev ATest : Type 0
ATest = (e : Test) × ForTest e

abbrev bare : Expression-F AnExpression APlace ATest → Expression-F Expression Place Test
bare = map-Expression AnExpression APlace ATest Expression Place Test (λ (e : AnExpression). e.0) (λ (e : APlace). e.0) (λ (e : ATest). e.0)

abbrev bare_place : Place-F AnExpression APlace ATest → Place-F Expression Place Test
bare_place = map-Place AnExpression APlace ATest Expression Place Test (λ (e : AnExpression). e.0) (λ (e : APlace). e.0) (λ (e : ATest). e.0)

abbrev bare_test : Test-F AnExpression APlace ATest → Test-F Expression Place Test
bare_test = map-Test AnExpression APlace ATest Expression Place Test (λ (e : AnExpression). e.0) (λ (e : APlace). e.0) (λ (e : ATest). e.0)

abbrev StepMade : Expression-F Expression Place Test → Type 0
StepMade x = IsWithin (expression_gen (map-Expression Expression Place Test Maker Maker TestMaker made_of place_made test_made x)) 80 (expression_nodes_step (map-Expression Expression Place Test ℕ ℕ ℕ expression_count place_count test_count x))

abbrev StepPlace : Place-F Expression Place Test → Type 0
StepPlace x = IsWithin (place_gen (map-Place Expression Place Test Maker Maker TestMaker made_of place_made test_made x)) 106 (place_nodes_step (map-Place Expression Place Test ℕ ℕ ℕ expression_count place_count test_count x))

abbrev StepTest : Test-F Expression Place Test → Type 0
StepTest x = AreWithin (test_gen (map-Test Expression Place Test Maker Maker TestMaker made_of place_made test_made x)) (test_count_step (map-Test Expression Place Test ℕ ℕ ℕ expression_count place_count test_count x))

step_made : (y : Expression-F AnExpression APlace ATest) → StepMade (bare y)
step_made (Expression-F.Constant c) n = plain_within n (core.Constant c) 17 80 1 (omega arith) (small_constant c 17 (n + 1 + 1) 2 (omega arith) (omega arith)) (omega arith)
step_made (Expression-F.Temporary k) n = plain_within n (core.Temporary (min k n)) 19 80 1 (omega arith) (small_temporary (min k n) 19 (n + 1 + 1) 2 (omega arith) (let g = min-le_right k n in omega (arith, g)) (omega arith)) (omega arith)
step_made (Expression-F.Load w x) n = one_within n (place_made x.0 n) (core.Load w) 26 106 (place_count x.0) 80 (place_count x.0) (x.1 n) (adds_load w) (omega arith) (omega arith)
step_made (Expression-F.Decayed x) n = same_within n (place_made x.0 n) 106 (place_count x.0) 80 (place_count x.0) (x.1 n) (omega arith) (omega arith)
step_made (Expression-F.Address x) n = same_within n (place_made x.0 n) 106 (place_count x.0) 80 (1 + place_count x.0) (x.1 n) (omega arith) (omega arith)
step_made (Expression-F.Unary op x) n = one_within n (made_of x.0 n) (core.Unary op) 57 80 (expression_count x.0) 80 (1 + expression_count x.0) (x.1 n) (adds_unary op) (omega arith) (omega arith)
step_made (Expression-F.Binary op x y) n = two_within n (made_of x.0 n) (made_of y.0 (made_of x.0 n).next) op (expression_count x.0) (expression_count y.0) 80 (x.1 n) (y.1 (made_of x.0 n).next) (omega arith)
step_made (Expression-F.Both x y) n = both_within n (test_made x.0) (test_made y.0) (test_count x.0) (test_count y.0) (x.1 n) (y.1 n)
step_made (Expression-F.Either x y) n = either_within n (test_made x.0) (test_made y.0) (test_count x.0) (test_count y.0) (x.1 n) (y.1 n)

step_place : (y : Place-F AnExpression APlace ATest) → StepPlace (bare_place y)
step_place (Place-F.Object symbol) n = plain_within n (core.Address symbol 0) 17 106 1 (omega arith) (small_same (size_address symbol 0) (record { bytes = omega arith; reach = omega arith; depth = omega arith; arguments = omega arith })) (omega arith)
step_place (Place-F.Local index) n = plain_within n (core.Local index) 19 106 1 (omega arith) (small_same (size_local index) (record { bytes = omega arith; reach = omega arith; depth = omega arith; arguments = omega arith })) (omega arith)
step_place (Place-F.Deref x) n = same_within n (made_of x.0 n) 80 (expression_count x.0) 106 (1 + expression_count x.0) (x.1 n) (omega arith) (omega arith)
step_place (Place-F.Index size x y) n = two_within n (made_of x.0 n) (made_of y.0 (made_of x.0 n).next) (PtrAdd size) (expression_count x.0) (expression_count y.0) 106 (x.1 n) (y.1 (made_of x.0 n).next) (omega arith)
step_place (Place-F.Member offset x) n = one_within n (place_made x.0 n) (moved offset) 57 106 (place_count x.0) 106 (1 + place_count x.0) (x.1 n) (adds_moved offset) (omega arith) (omega arith)
step_place (Place-F.Arrow offset x) n = one_within n (made_of x.0 n) (moved offset) 57 80 (expression_count x.0) 106 (1 + expression_count x.0) (x.1 n) (adds_moved offset) (omega arith) (omega arith)

step_test : (y : Test-F AnExpression APlace ATest) → StepTest (bare_test y)
step_test y n = record { inner = expression_count y.value.0; whole = refl; within = y.value.1 n }

like_made : (make make' : Maker) (slack k k' : ℕ) → make ≡ make' → k ≡ k' → IsWithin make' slack k' → IsWithin make slack k
like_made make make' slack k k' a c h = subst (λ (m : Maker). IsWithin m slack k) (sym a) (subst (λ (z : ℕ). IsWithin make' slack z) (sym c) h)

like_tested : (make make' : TestMaker) (k k' : ℕ) → make ≡ make' → k ≡ k' → AreWithin make' k' → AreWithin make k
like_tested make make' k k' a c h = subst (λ (m : TestMaker). AreWithin m k) (sym a) (subst (λ (z : ℕ). AreWithin make' z) (sym c) h)

from_step : (x : Expression-F Expression Place Test) → StepMade x → ForExpression (roll-Expression x)
from_step x h = like_made _ _ 80 _ _ (fold-roll-Expression Maker Maker TestMaker expression_gen place_gen test_gen x) (fold-roll-Expression ℕ ℕ ℕ expression_nodes_step place_nodes_step test_count_step x) h

from_place : (x : Place-F Expression Place Test) → StepPlace x → ForPlace (roll-Place x)
from_place x h = like_made _ _ 106 _ _ (fold-roll-Place Maker Maker TestMaker expression_gen place_gen test_gen x) (fold-roll-Place ℕ ℕ ℕ expression_nodes_step place_nodes_step test_count_step x) h

from_test : (x : Test-F Expression Place Test) → StepTest x → ForTest (roll-Test x)
from_test x h = like_tested _ _ _ _ (fold-roll-Test Maker Maker TestMaker expression_gen place_gen test_gen x) (fold-roll-Test ℕ ℕ ℕ expression_nodes_step place_nodes_step test_count_step x) h

pub every_expression : (e : Expression) → ForExpression e
every_expression = ind-Expression ForExpression ForPlace ForTest (λ x y is. from_step x (subst StepMade is (step_made y))) (λ x y is. from_place x (subst StepPlace is (step_place y))) (λ x y is. from_test x (subst StepTest is (step_test y)))

pub every_place : (e : Place) → ForPlace e
every_place = ind-Place ForExpression ForPlace ForTest (λ x y is. from_step x (subst StepMade is (step_made y))) (λ x y is. from_place x (subst StepPlace is (step_place y))) (λ x y is. from_test x (subst StepTest is (step_test y)))

pub every_test : (e : Test) → ForTest e
every_test = ind-Test ForExpression ForPlace ForTest (λ x y is. from_step x (subst StepMade is (step_made y))) (λ x y is. from_place x (subst StepPlace is (step_place y))) (λ x y is. from_test x (subst StepTest is (step_test y)))
