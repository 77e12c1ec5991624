-- A function's graph names no node and no temporary that the function has not.
use Rattle.std.specs.Prelude.{◌≡◌, ℕ, ◌+◌, ◌<◌, ◌≤◌, ◌^◌, max, Bool, true, false, All, List, [], ◌∷◌, ◌++◌, length, set, get_or, Option, Some, None}
use Rattle.std.proofs.Common.{zero, suc, refl, ap, sym, subst, ◌∙◌, arith}
use Rattle.std.proofs.lemmas.List.Elements.{All-append, All-set}
use Rattle.block_mem.specs.declared.operator.Op.{Op}
use Rattle.core_lang.specs.declared.syntax.Ending.{Ending}
use Rattle.core_lang.specs.declared.syntax.Ending.TheVariants as ending
use Rattle.core_lang.specs.declared.syntax.Function.{Function}
use Rattle.core_lang.specs.Bounds.{Size, body_size, result_reach}
use Rattle.rtl_lang.specs.declared.syntax.RtlNode.{RtlNode}
use Rattle.rtl_lang.specs.declared.syntax.RtlNode.TheVariants as node
use Rattle.rtl_lang.specs.declared.syntax.RtlParts.{RtlParts}
use Rattle.rtl_lang.specs.Ranges.{IsBelowIfAny, NodeInRange, InRange}
use Rattle.rtl_gen.specs.Trees.{Tree, Constant, Temporary, Address, Local, Load, Unary, Binary, Code, Skip, Then, Set, Store, Call, If, Loop, Block, Exit, Return, body_code}
use Rattle.rtl_gen.specs.Translation.{Laid, push, home, unless_there, takes_one, other_home, lay_zero, lay_into, lay_operand, homes, lay_operands, lay_return, lay, end_value, end_depth, base_of, temporaries_of, lay_end, lay_body, rtl_function}
use Rattle.rtl_gen.specs.laws.Trees.{tree_size, trees_size, return_size, code_size, body_size_is}
use Rattle.rtl_gen.specs.laws.Graphs.{length_push, set_length}
use Rattle.rtl_gen.specs.laws.Laying.{into_added, one_added, all_added, lay_added}

-- Graphs

-- every node names nodes of the graph, and so many temporaries
abbrev Closed : ℕ → List RtlNode → Type 0
Closed t g = All (NodeInRange (length g) t) g

-- and one enters at one of them
record Ranged (t : ℕ) (r : Laid) : Type 0 where
  graph : Closed t r.1
  entry : r.0 < length r.1

-- a node of a graph is in range in a longer one
node_more : (n m t : ℕ) → n ≤ m → (x : RtlNode) → NodeInRange n t x → NodeInRange m t x
node_more n m t le (node.Nop next) r = omega (arith, le, r)
node_more n m t le (node.Const k to next) r = let e = r.1 in (r.0, omega (arith, le, e))
node_more n m t le (node.Address symbol offset to next) r = let e = r.1 in (r.0, omega (arith, le, e))
node_more n m t le (node.Local index to next) r = let e = r.1 in (r.0, omega (arith, le, e))
node_more n m t le (node.Apply op left right to next) r = let e = r.3 in (r.0, r.1, r.2, omega (arith, le, e))
node_more n m t le (node.Load w place to next) r = let e = r.2 in (r.0, r.1, omega (arith, le, e))
node_more n m t le (node.Store w place value next) r = let e = r.2 in (r.0, r.1, omega (arith, le, e))
node_more n m t le (node.Call callee arguments to next) r = let e = r.2 in (r.0, r.1, omega (arith, le, e))
node_more n m t le (node.Branch k this that) r = let d = r.1 in let e = r.2 in (r.0, omega (arith, le, d), omega (arith, le, e))
node_more n m t le (node.Return v) r = r

all_more : (n m t : ℕ) → n ≤ m → (g : List RtlNode) → All (NodeInRange n t) g → All (NodeInRange m t) g
all_more n m t le g all k d lt = node_more n m t le _ (all k d lt)

one : (P : RtlNode → Type 0) (x : RtlNode) → P x → All P (x ∷ [])
one P x p zero d lt = p
one P x p (suc k) d lt = absurd (omega (arith, lt))

pushed : (t : ℕ) (g : List RtlNode) (x : RtlNode) → Closed t g → NodeInRange (length g) t x → Ranged t (push g x)
pushed t g x all r =
    let e = length_push g x in
    let le : length g ≤ length (g ++ x ∷ []) = omega (arith, e) in
    record {
      graph = All-append (NodeInRange (length (g ++ x ∷ [])) t) g (x ∷ []) (all_more (length g) (length (g ++ x ∷ [])) t le g all) (one (NodeInRange (length (g ++ x ∷ [])) t) x (node_more (length g) (length (g ++ x ∷ [])) t le x r));
      entry = omega (arith, e);
    }

there_ranged : (t : ℕ) (x : Tree) (old new : Laid) → Ranged t old → Ranged t new → Ranged t (unless_there x old new)
there_ranged t (Constant n) old new o h = h
there_ranged t (Temporary j) old new o h = o
there_ranged t (Address symbol offset) old new o h = h
there_ranged t (Local index) old new o h = h
there_ranged t (Load w x) old new o h = h
there_ranged t (Unary op x) old new o h = h
there_ranged t (Binary op x y) old new o h = h

-- Expressions

-- a tree names so many temporaries, and takes no more than these from k on
record Fits (t : ℕ) (x : Tree) (k : ℕ) : Type 0 where
  reach : (tree_size x).reach ≤ t
  depth : k + (tree_size x).depth ≤ t

-- some temporary is taken
deep : (x : Tree) → 1 ≤ (tree_size x).depth
deep (Constant n) = omega arith
deep (Temporary j) = omega arith
deep (Address symbol offset) = omega arith
deep (Local index) = omega arith
deep (Load w x) = deep x
deep (Unary op x) = let d = deep x in omega (arith, d)
deep (Binary op x y) = let d = deep x in omega (arith, d)

home_below : (t : ℕ) (x : Tree) (k : ℕ) → Fits t x k → home k x < t
home_below t (Constant n) k f = let d = f.depth in omega (arith, d)
home_below t (Temporary j) k f = let d = f.reach in omega (arith, d)
home_below t (Address symbol offset) k f = let d = f.depth in omega (arith, d)
home_below t (Local index) k f = let d = f.depth in omega (arith, d)
home_below t (Load w x) k f = let d = f.depth in let p = deep x in omega (arith, d, p)
home_below t (Unary op x) k f = let d = f.depth in omega (arith, d)
home_below t (Binary op x y) k f = let d = f.depth in omega (arith, d)

other_below : (t : ℕ) (one : Bool) (k : ℕ) (x : Tree) → home k x < t → suc k < t → other_home one k x < t
other_below t true k x h s = h
other_below t false k x h s = s

zero_ranged : (t : ℕ) (one : Bool) (r : Laid) (k : ℕ) → k < t → Ranged t r → Ranged t (lay_zero one r k)
zero_ranged t true r k lt s = s
zero_ranged t false r k lt s = pushed t r.1 _ s.graph (lt, s.entry)

by_into : (t : ℕ) (r : Laid) (x : Tree) (k : ℕ) → Ranged t r → Ranged t (lay_into r.1 x k k r.0) → Ranged t (lay_operand r x k)
by_into t r x k s i = there_ranged t x r (lay_into r.1 x k k r.0) s i

into_ranged : (t : ℕ) (g : List RtlNode) (e : Tree) (k d q : ℕ) → Closed t g → q < length g → d < t → Fits t e k → Ranged t (lay_into g e k d q)
into_ranged t g (Constant n) k d q all next to f = pushed t g _ all (to, next)
into_ranged t g (Temporary j) k d q all next to f = let l : j < t = let r = f.reach in omega (arith, r) in pushed t g _ all (l, l, to, next)
into_ranged t g (Address symbol offset) k d q all next to f = pushed t g _ all (to, next)
into_ranged t g (Local index) k d q all next to f = pushed t g _ all (to, next)
into_ranged t g (Load w x) k d q all next to f =
    let r = push g (node.Load w (home k x) d q) in
    let fx : Fits t x k = record { reach = f.reach; depth = f.depth } in
    let s : Ranged t r = pushed t g _ all (home_below t x k fx, to, next) in
    let free : k < t = let n = f.depth in let p = deep x in omega (arith, n, p) in
    by_into t r x k s (into_ranged t r.1 x k k r.0 s.graph s.entry free fx)
into_ranged t g (Unary op x) k d q all next to f =
    let r = push g (node.Apply op (home k x) (other_home (takes_one op) k x) d q) in
    let z = lay_zero (takes_one op) r (suc k) in
    let n = f.depth in
    let fx : Fits t x k = record { reach = f.reach; depth = omega (arith, n) } in
    let second : suc k < t = omega (arith, n) in
    let s : Ranged t r = pushed t g _ all (home_below t x k fx, other_below t (takes_one op) k x (home_below t x k fx) second, to, next) in
    let u : Ranged t z = zero_ranged t (takes_one op) r (suc k) second s in
    by_into t z x k u (into_ranged t z.1 x k k z.0 u.graph u.entry (omega (arith, n)) fx)
into_ranged t g (Binary op x y) k d q all next to f =
    let r = push g (node.Apply op (home k x) (home (suc k) y) d q) in
    let z = lay_operand r y (suc k) in
    let n = f.depth in
    let m = f.reach in
    let fx : Fits t x k = record { reach = omega (arith, m); depth = omega (arith, n) } in
    let fy : Fits t y (suc k) = record { reach = omega (arith, m); depth = omega (arith, n) } in
    let p = deep y in
    let second : suc k < t = omega (arith, n, p) in
    let s : Ranged t r = pushed t g _ all (home_below t x k fx, home_below t y (suc k) fy, to, next) in
    let u : Ranged t z = by_into t r y (suc k) s (into_ranged t r.1 y (suc k) (suc k) r.0 s.graph s.entry second fy) in
    by_into t z x k u (into_ranged t z.1 x k k z.0 u.graph u.entry (omega (arith, second)) fx)

one_ranged : (t : ℕ) (r : Laid) (x : Tree) (k : ℕ) → Ranged t r → Fits t x k → Ranged t (lay_operand r x k)
one_ranged t r x k s f = by_into t r x k s (into_ranged t r.1 x k k r.0 s.graph s.entry (let n = f.depth in let p = deep x in omega (arith, n, p)) f)

-- Arguments

record AllFit (t : ℕ) (xs : List Tree) (k : ℕ) : Type 0 where
  reach : (trees_size xs).reach ≤ t
  depth : k + (trees_size xs).depth ≤ t

first_fits : (t : ℕ) (x : Tree) (xs : List Tree) (k : ℕ) → AllFit t (x ∷ xs) k → Fits t x k
first_fits t x xs k f = let m = f.reach in let n = f.depth in record { reach = omega (arith, m); depth = omega (arith, n) }

rest_fit : (t : ℕ) (x : Tree) (xs : List Tree) (k : ℕ) → AllFit t (x ∷ xs) k → AllFit t xs (suc k)
rest_fit t x xs k f = let m = f.reach in let n = f.depth in record { reach = omega (arith, m); depth = omega (arith, n) }

homes_below : (t : ℕ) (xs : List Tree) (k : ℕ) → AllFit t xs k → All (λ (j : ℕ). j < t) (homes k xs)
homes_below t [] k f j d lt = absurd (let l : j < 0 = lt in omega (arith, l))
homes_below t (x ∷ xs) k f zero d lt = home_below t x k (first_fits t x xs k f)
homes_below t (x ∷ xs) k f (suc j) d lt = homes_below t xs (suc k) (rest_fit t x xs k f) j d (omega (arith, lt))

all_ranged : (t : ℕ) (r : Laid) (xs : List Tree) (k : ℕ) → Ranged t r → AllFit t xs k → Ranged t (lay_operands r xs k)
all_ranged t r [] k s f = s
all_ranged t r (x ∷ xs) k s f = one_ranged t (lay_operands r xs (suc k)) x k (all_ranged t r xs (suc k) s (rest_fit t x xs k f)) (first_fits t x xs k f)

-- Statements

return_ranged : (t : ℕ) (g : List RtlNode) (e : Option Tree) (k : ℕ) → Closed t g → (return_size e).reach ≤ t → k + (return_size e).depth ≤ t → Ranged t (lay_return g e k)
return_ranged t g None k all m n = pushed t g _ all tt
return_ranged t g (Some e) k all m n =
    let f : Fits t e k = record { reach = m; depth = n } in
    one_ranged t (push g (node.Return (Some (home k e)))) e k (pushed t g _ all (home_below t e k f)) f

-- all exits lead to nodes that are there
abbrev ExitsBelow : ℕ → List ℕ → ℕ → Type 0
ExitsBelow n es end = (i : ℕ) → get_or es i end < n

exits_more : (n m : ℕ) (es : List ℕ) (end : ℕ) → n ≤ m → ExitsBelow n es end → ExitsBelow m es end
exits_more n m es end le below i = let b = below i in omega (arith, le, b)

exits_behind : (n q : ℕ) (es : List ℕ) (end : ℕ) → q < n → ExitsBelow n es end → ExitsBelow n (q ∷ es) end
exits_behind n q es end lt below zero = lt
exits_behind n q es end lt below (suc i) = below i

result_below : (t : ℕ) (to : Option ℕ) → result_reach to ≤ t → IsBelowIfAny t to
result_below t None m = tt
result_below t (Some k) m = omega (arith, m)

lay_ranged : (t : ℕ) (g : List RtlNode) (k end : ℕ) (c : Code) (q : ℕ) (es : List ℕ) → (code_size c).reach ≤ t → k + (code_size c).depth ≤ t → Closed t g → q < length g → ExitsBelow (length g) es end → Ranged t (lay g k end c q es)
lay_ranged t g k end Skip q es m n all next exits = record { graph = all; entry = next }
lay_ranged t g k end (Then x y) q es m n all next exits =
    let r = lay g k end y q es in
    let s : Ranged t r = lay_ranged t g k end y q es (omega (arith, m)) (omega (arith, n)) all next exits in
    lay_ranged t r.1 k end x r.0 es (omega (arith, m)) (omega (arith, n)) s.graph s.entry (exits_more (length g) (length r.1) es end (lay_added g k end y q es).longer exits)
lay_ranged t g k end (Set j e) q es m n all next exits =
    let f : Fits t e k = record { reach = omega (arith, m); depth = n } in
    into_ranged t g e k j q all next (omega (arith, m)) f
lay_ranged t g k end (Store w x y) q es m n all next exits =
    let fx : Fits t x k = record { reach = omega (arith, m); depth = omega (arith, n) } in
    let fy : Fits t y (suc k) = record { reach = omega (arith, m); depth = omega (arith, n) } in
    let r = push g (node.Store w (home k x) (home (suc k) y) q) in
    let s : Ranged t r = pushed t g _ all (home_below t x k fx, home_below t y (suc k) fy, next) in
    one_ranged t (lay_operand r y (suc k)) x k (one_ranged t r y (suc k) s fy) fx
lay_ranged t g k end (Call to callee xs) q es m n all next exits =
    let f : AllFit t xs k = record { reach = omega (arith, m); depth = n } in
    all_ranged t (push g (node.Call callee (homes k xs) to q)) xs k (pushed t g _ all (homes_below t xs k f, result_below t to (omega (arith, m)), next)) f
lay_ranged t g k end (If e x y) q es m n all next exits =
    let a = lay g k end y q es in
    let b = lay a.1 k end x q es in
    let longer = (lay_added g k end y q es).longer in
    let later = (lay_added a.1 k end x q es).longer in
    let f : Fits t e k = record { reach = omega (arith, m); depth = omega (arith, n) } in
    let s : Ranged t a = lay_ranged t g k end y q es (omega (arith, m)) (omega (arith, n)) all next exits in
    let u : Ranged t b = lay_ranged t a.1 k end x q es (omega (arith, m)) (omega (arith, n)) s.graph (omega (arith, next, longer)) (exits_more (length g) (length a.1) es end longer exits) in
    let that = s.entry in
    one_ranged t (push b.1 (node.Branch (home k e) b.0 a.0)) e k (pushed t b.1 _ u.graph (home_below t e k f, u.entry, omega (arith, that, later))) f
lay_ranged t g k end (Loop x) q es m n all next exits =
    let h = g ++ node.Nop (length g) ∷ [] in
    let r = lay h k end x (length g) es in
    let e = length_push g (node.Nop (length g)) in
    let first : length g < length h = omega (arith, e) in
    let opened : Closed t h =
    All-append (NodeInRange (length h) t) g (node.Nop (length g) ∷ []) (all_more (length g) (length h) t (omega (arith, e)) g all) (one (NodeInRange (length h) t) (node.Nop (length g)) first) in
    let s : Ranged t r = lay_ranged t h k end x (length g) es (omega (arith, m)) (omega (arith, n)) opened first (exits_more (length g) (length h) es end (omega (arith, e)) exits) in
    let longer = (lay_added h k end x (length g) es).longer in
    let same = set_length r.1 (length g) (node.Nop r.0) in
    record {
      graph = subst (λ (i : ℕ). All (NodeInRange i t) (set r.1 (length g) (node.Nop r.0))) (sym same) (All-set (NodeInRange (length r.1) t) r.1 (length g) (node.Nop r.0) s.entry s.graph);
      entry = omega (arith, first, longer, same);
    }
lay_ranged t g k end (Block x) q es m n all next exits = lay_ranged t g k end x q (q ∷ es) m n all next (exits_behind (length g) q es end next exits)
lay_ranged t g k end (Exit i) q es m n all next exits = record { graph = all; entry = exits i }
lay_ranged t g k end (Return e) q es m n all next exits = return_ranged t g e k all m n

-- Functions

end_reach : (e : Ending) → (return_size (end_value e)).reach ≤ 0
end_reach ending.Bare = omega arith
end_reach ending.Zero = omega arith
end_reach ending.Stuck = omega arith

end_depth_is : (e : Ending) → (return_size (end_value e)).depth ≤ end_depth e
end_depth_is ending.Bare = omega arith
end_depth_is ending.Zero = omega arith
end_depth_is ending.Stuck = omega arith

body_ranged : (f : Function) → Ranged (temporaries_of f) (lay_body f)
body_ranged f =
    let t = temporaries_of f in
    let base = base_of f in
    let e = lay_end f in
    let same = body_size_is f.body in
    let i = ap (λ (x : Size). x.reach) same in
    let j = ap (λ (x : Size). x.depth) same in
    let reach = end_reach f.ending in
    let depth = end_depth_is f.ending in
    let s : Ranged t e = return_ranged t [] (end_value f.ending) base (λ k d lt. absurd (let l : k < 0 = lt in omega (arith, l))) (omega (arith, reach)) (omega (arith, depth)) in
    let entry = s.entry in
    lay_ranged t e.1 base e.0 (body_code f.body) e.0 [] (omega (arith, i)) (omega (arith, j)) s.graph entry (λ k. entry)

-- what is made of a function is in range, where its nodes can be numbered
pub function_in_range : (f : Function) → length (rtl_function f).graph < 2 ^ 32 → InRange (rtl_function f)
unfolding rtl_function
function_in_range f few =
    let s = body_ranged f in
    record { graph = s.graph; nodes = few; entry = s.entry; parameters = omega arith }
