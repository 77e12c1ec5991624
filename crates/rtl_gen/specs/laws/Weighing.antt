-- A function's graph weighs no more than its trees, and takes no more of the stack.
use Rattle.std.specs.Prelude.{◌≡◌, ℕ, ◌+◌, ◌*◌, ◌≤◌, max, Bool, true, false, List, [], ◌∷◌, ◌++◌, map, length, set, slice_get, Option, Some, None, option_map}
use Rattle.std.specs.Option.{option_map_or}
use Rattle.std.proofs.Common.{zero, suc, refl, ap, ◌∙◌, arith}
use Rattle.std.proofs.lemmas.Option.{slice_get-map}
use Rattle.block_mem.specs.declared.operator.Op.{Op}
use Rattle.block_mem.specs.declared.operator.Op.TheVariants.{Keep}
use Rattle.core_lang.specs.declared.syntax.CoreUnit.{CoreUnit}
use Rattle.core_lang.specs.declared.syntax.Ending.{Ending}
use Rattle.core_lang.specs.declared.syntax.Ending.TheVariants as ending
use Rattle.core_lang.specs.declared.syntax.Function.{Function}
use Rattle.core_lang.specs.Bounds as core
use Rattle.core_lang.specs.Bounds.{Size, body_size}
use Rattle.unit_passes.specs.declared.units.UnitOf.{UnitOf}
use Rattle.rtl_lang.specs.declared.syntax.RtlParts.{RtlParts}
use Rattle.rtl_lang.specs.declared.syntax.RtlNode.{RtlNode}
use Rattle.rtl_lang.specs.declared.syntax.RtlNode.TheVariants as node
use Rattle.rtl_lang.specs.Bounds.{operator_bytes, node_bytes, graph_bytes, node_arguments, graph_arguments, function_bytes, function_hold, functions_bulk, bulk, hold}
use Rattle.rtl_gen.specs.Trees.{Tree, Constant, Temporary, Address, Local, Load, Unary, Binary, Code, Skip, Then, Set, Store, Call, If, Loop, Block, Exit, Return, body_code}
use Rattle.rtl_gen.specs.Translation.{Laid, push, home, unless_there, takes_one, other_home, lay_zero, lay_into, lay_operand, homes, lay_operands, lay_return, lay, end_value, end_depth, base_of, lay_end, lay_body, rtl_function}
use Rattle.rtl_gen.specs.Units.{Matches}
use Rattle.rtl_gen.specs.laws.Trees.{tree_size, trees_size, return_size, code_size, body_size_is}
use Rattle.rtl_gen.specs.laws.Graphs.{get_push}
use Rattle.rtl_gen.specs.laws.Laying.{lay_added}

-- at most so many bytes, and no call of more arguments
record Small (g : List RtlNode) (b a : ℕ) : Type 0 where
  bytes : graph_bytes g ≤ b
  arguments : graph_arguments g ≤ a

small_more : {g : List RtlNode} {b c a : ℕ} → b ≤ c → Small g b a → Small g c a
small_more le s = record { bytes = let x = s.bytes in omega (arith, le, x); arguments = s.arguments }

pushed_bytes : (g : List RtlNode) (x : RtlNode) → graph_bytes (g ++ x ∷ []) ≡ graph_bytes g + node_bytes x
pushed_bytes [] x = omega arith
pushed_bytes (y ∷ g) x = let e = pushed_bytes g x in omega (arith, e)

pushed_arguments : (g : List RtlNode) (x : RtlNode) → graph_arguments (g ++ x ∷ []) ≡ max (graph_arguments g) (node_arguments x)
pushed_arguments [] x = omega arith
pushed_arguments (y ∷ g) x = let e = pushed_arguments g x in omega (arith, e)

small_push : (g : List RtlNode) (x : RtlNode) (b n a : ℕ) → node_bytes x ≤ n → node_arguments x ≤ a → Small g b a → Small (g ++ x ∷ []) (b + n) a
small_push g x b n a few most s = record {
  bytes = let e = pushed_bytes g x in let i = s.bytes in omega (arith, e, i, few);
  arguments = let e = pushed_arguments g x in let i = s.arguments in omega (arith, e, i, most);
}

set_bytes : (g : List RtlNode) (i : ℕ) (x y : RtlNode) → slice_get g i ≡ Some y → node_bytes x ≡ node_bytes y → graph_bytes (set g i x) ≡ graph_bytes g
set_bytes [] i x y h e = cc
set_bytes (z ∷ g) zero x y h e = let s : z ≡ y = cc in let f = ap node_bytes s in omega (arith, e, f)
set_bytes (z ∷ g) (suc i) x y h e = let r = set_bytes g i x y h e in omega (arith, r)

set_arguments : (g : List RtlNode) (i : ℕ) (x y : RtlNode) → slice_get g i ≡ Some y → node_arguments x ≡ node_arguments y → graph_arguments (set g i x) ≡ graph_arguments g
set_arguments [] i x y h e = cc
set_arguments (z ∷ g) zero x y h e = let s : z ≡ y = cc in let f = ap node_arguments s in omega (arith, e, f)
set_arguments (z ∷ g) (suc i) x y h e = let r = set_arguments g i x y h e in omega (arith, r)

small_set : (g : List RtlNode) (i : ℕ) (x y : RtlNode) (b a : ℕ) → slice_get g i ≡ Some y → node_bytes x ≡ node_bytes y → node_arguments x ≡ node_arguments y → Small g b a → Small (set g i x) b a
small_set g i x y b a there same alike s = record {
  bytes = let e = set_bytes g i x y there same in let f = s.bytes in omega (arith, e, f);
  arguments = let e = set_arguments g i x y there alike in let f = s.arguments in omega (arith, e, f);
}

-- Expressions

few_bytes : (op : Op) → operator_bytes op ≤ 40
few_bytes Keep = omega arith
few_bytes op = omega arith

there_small : (x : Tree) (old new : Laid) (b a : ℕ) → Small old.1 b a → Small new.1 b a → Small (unless_there x old new).1 b a
there_small (Constant n) old new b a o h = h
there_small (Temporary j) old new b a o h = o
there_small (Address symbol offset) old new b a o h = h
there_small (Local index) old new b a o h = h
there_small (Load w x) old new b a o h = h
there_small (Unary op x) old new b a o h = h
there_small (Binary op x y) old new b a o h = h

zero_small : (one : Bool) (r : Laid) (k b a : ℕ) → Small r.1 b a → Small (lay_zero one r k).1 (b + 17) a
zero_small true r k b a s = small_more (omega arith) s
zero_small false r k b a s = small_push r.1 _ b 17 a (omega arith) (omega arith) s

by_into : (r : Laid) (x : Tree) (k b a : ℕ) → Small r.1 b a → Small (lay_into r.1 x k k r.0).1 (b + (tree_size x).bytes) a → Small (lay_operand r x k).1 (b + (tree_size x).bytes) a
by_into r x k b a s t = there_small x r (lay_into r.1 x k k r.0) (b + (tree_size x).bytes) a (small_more (omega arith) s) t

into_small : (g : List RtlNode) (e : Tree) (k d q b a : ℕ) → Small g b a → Small (lay_into g e k d q).1 (b + (tree_size e).bytes) a
into_small g (Constant n) k d q b a s = small_push g _ b 17 a (omega arith) (omega arith) s
into_small g (Temporary j) k d q b a s = small_push g _ b 19 a (omega arith) (omega arith) s
into_small g (Address symbol offset) k d q b a s = small_push g _ b 17 a (omega arith) (omega arith) s
into_small g (Local index) k d q b a s = small_push g _ b 19 a (omega arith) (omega arith) s
into_small g (Load w x) k d q b a s =
    let r = push g (node.Load w (home k x) d q) in
    let t : Small r.1 (b + 26) a = small_push g _ b 26 a (omega arith) (omega arith) s in
    small_more (omega arith) (by_into r x k (b + 26) a t (into_small r.1 x k k r.0 (b + 26) a t))
into_small g (Unary op x) k d q b a s =
    let r = push g (node.Apply op (home k x) (other_home (takes_one op) k x) d q) in
    let z = lay_zero (takes_one op) r (suc k) in
    let t : Small r.1 (b + 40) a = small_push g _ b 40 a (few_bytes op) (omega arith) s in
    let u : Small z.1 (b + 40 + 17) a = zero_small (takes_one op) r (suc k) (b + 40) a t in
    small_more (omega arith) (by_into z x k (b + 40 + 17) a u (into_small z.1 x k k z.0 (b + 40 + 17) a u))
into_small g (Binary op x y) k d q b a s =
    let r = push g (node.Apply op (home k x) (home (suc k) y) d q) in
    let z = lay_operand r y (suc k) in
    let c = b + 40 + (tree_size y).bytes in
    let t : Small r.1 (b + 40) a = small_push g _ b 40 a (few_bytes op) (omega arith) s in
    let u : Small z.1 c a = by_into r y (suc k) (b + 40) a t (into_small r.1 y (suc k) (suc k) r.0 (b + 40) a t) in
    small_more (omega arith) (by_into z x k c a u (into_small z.1 x k k z.0 c a u))

one_small : (r : Laid) (x : Tree) (k b a : ℕ) → Small r.1 b a → Small (lay_operand r x k).1 (b + (tree_size x).bytes) a
one_small r x k b a s = by_into r x k b a s (into_small r.1 x k k r.0 b a s)

-- Arguments, and what finding them takes

all_bytes : List Tree → ℕ
all_bytes [] = 0
all_bytes (x ∷ xs) = (tree_size x).bytes + all_bytes xs

arguments_bytes : (xs : List Tree) → (trees_size xs).bytes ≡ 16 * length xs + all_bytes xs
unfolding all_bytes
arguments_bytes [] = omega arith
arguments_bytes (x ∷ xs) = let e = arguments_bytes xs in omega (arith, e)

arguments_length : (xs : List Tree) → (trees_size xs).arguments ≡ length xs
arguments_length [] = refl
arguments_length (x ∷ xs) = let e = arguments_length xs in omega (arith, e)

homes_length : (k : ℕ) (xs : List Tree) → length (homes k xs) ≡ length xs
homes_length k [] = refl
homes_length k (x ∷ xs) = ap suc (homes_length (suc k) xs)

all_small : (r : Laid) (xs : List Tree) (k b a : ℕ) → Small r.1 b a → Small (lay_operands r xs k).1 (b + all_bytes xs) a
unfolding all_bytes
all_small r [] k b a s = small_more (omega arith) s
all_small r (x ∷ xs) k b a s =
    let z = lay_operands r xs (suc k) in
    small_more (omega arith) (one_small z x k (b + all_bytes xs) a (all_small r xs (suc k) b a s))

-- Statements

return_small : (g : List RtlNode) (e : Option Tree) (k b a : ℕ) → Small g b a → Small (lay_return g e k).1 (b + (return_size e).bytes) a
return_small g None k b a s = small_push g _ b 48 a (omega arith) (omega arith) s
return_small g (Some e) k b a s =
    let r = push g (node.Return (Some (home k e))) in
    small_more (omega arith) (one_small r e k (b + 48) a (small_push g _ b 48 a (omega arith) (omega arith) s))

lay_small : (g : List RtlNode) (k end : ℕ) (c : Code) (q : ℕ) (es : List ℕ) (b a : ℕ) → (code_size c).arguments ≤ a → Small g b a → Small (lay g k end c q es).1 (b + (code_size c).bytes) a
lay_small g k end Skip q es b a most s = small_more (omega arith) s
lay_small g k end (Then x y) q es b a most s =
    let r = lay g k end y q es in
    let t : Small r.1 (b + (code_size y).bytes) a = lay_small g k end y q es b a (omega (arith, most)) s in
    small_more (omega arith) (lay_small r.1 k end x r.0 es (b + (code_size y).bytes) a (omega (arith, most)) t)
lay_small g k end (Set j e) q es b a most s = into_small g e k j q b a s
lay_small g k end (Store w x y) q es b a most s =
    let r = push g (node.Store w (home k x) (home (suc k) y) q) in
    let z = lay_operand r y (suc k) in
    let c = b + 26 + (tree_size y).bytes in
    let t : Small r.1 (b + 26) a = small_push g _ b 26 a (omega arith) (omega arith) s in
    let u : Small z.1 c a = one_small r y (suc k) (b + 26) a t in
    small_more (omega arith) (one_small z x k c a u)
lay_small g k end (Call to callee xs) q es b a most s =
    let n = node.Call callee (homes k xs) to q in
    let few = homes_length k xs in
    let i = arguments_bytes xs in
    let j = arguments_length xs in
    let t : Small (g ++ n ∷ []) (b + (24 + 16 * length xs)) a = small_push g n b (24 + 16 * length xs) a (omega (arith, few)) (omega (arith, few, j, most)) s in
    small_more (omega (arith, i)) (all_small (push g n) xs k (b + (24 + 16 * length xs)) a t)
lay_small g k end (If e x y) q es b a most s =
    let n = lay g k end y q es in
    let m = lay n.1 k end x q es in
    let br = node.Branch (home k e) m.0 n.0 in
    let r = push m.1 br in
    let c = b + (code_size y).bytes in
    let d = c + (code_size x).bytes in
    let t : Small n.1 c a = lay_small g k end y q es b a (omega (arith, most)) s in
    let u : Small m.1 d a = lay_small n.1 k end x q es c a (omega (arith, most)) t in
    let v : Small r.1 (d + 28) a = small_push m.1 br d 28 a (omega arith) (omega arith) u in
    small_more (omega arith) (one_small r e k (d + 28) a v)
lay_small g k end (Loop x) q es b a most s =
    let n = node.Nop (length g) in
    let r = lay (g ++ n ∷ []) k end x (length g) es in
    let t : Small (g ++ n ∷ []) (b + 5) a = small_push g n b 5 a (omega arith) (omega arith) s in
    let u : Small r.1 (b + 5 + (code_size x).bytes) a = lay_small (g ++ n ∷ []) k end x (length g) es (b + 5) a (omega (arith, most)) t in
    small_more (omega arith) (small_set r.1 (length g) (node.Nop r.0) n (b + 5 + (code_size x).bytes) a ((lay_added (g ++ n ∷ []) k end x (length g) es).keeps (length g) n (get_push g n)) refl refl u)
lay_small g k end (Block x) q es b a most s = lay_small g k end x q (q ∷ es) b a most s
lay_small g k end (Exit n) q es b a most s = small_more (omega arith) s
lay_small g k end (Return e) q es b a most s = return_small g e k b a s

-- Functions and units

end_bytes : (e : Ending) → (return_size (end_value e)).bytes ≤ 65
end_bytes ending.Bare = omega arith
end_bytes ending.Zero = omega arith
end_bytes ending.Stuck = omega arith

end_few : (e : Ending) → end_depth e ≤ 1
end_few ending.Bare = omega arith
end_few ending.Zero = omega arith
end_few ending.Stuck = omega arith

graph_small : (f : Function) → Small (lay_body f).1 (65 + (body_size f.body).bytes) (body_size f.body).arguments
graph_small f =
    let base = base_of f in
    let e = lay_end f in
    let a = (body_size f.body).arguments in
    let n = (return_size (end_value f.ending)).bytes in
    let same = body_size_is f.body in
    let i = ap (λ (x : Size). x.bytes) same in
    let j = ap (λ (x : Size). x.arguments) same in
    let few = end_bytes f.ending in
    let none : Small [] 0 a = record { bytes = omega arith; arguments = omega arith } in
    let s : Small e.1 (0 + n) a = return_small [] (end_value f.ending) base 0 a none in
    small_more (omega (arith, i, few)) (lay_small e.1 base e.0 (body_code f.body) e.0 [] (0 + n) a (omega (arith, j)) s)

function_lighter : (f : Function) → function_bytes (rtl_function f) ≤ core.function_bytes f
unfolding rtl_function
function_lighter f = let s = graph_small f in let b = s.bytes in omega (arith, b)

function_holds : (f : Function) → function_hold (rtl_function f) ≤ core.function_hold f
unfolding rtl_function
function_holds f = let s = graph_small f in let a = s.arguments in let e = end_few f.ending in omega (arith, a, e)

functions_lighter : (fs : List Function) → functions_bulk (map rtl_function fs) ≤ core.functions_bulk fs
functions_lighter [] = omega arith
functions_lighter (f ∷ fs) = let g = function_lighter f in let h = functions_lighter fs in omega (arith, g, h)

pub unit_lighter : (u : CoreUnit) (v : UnitOf RtlParts) → Matches u v → bulk v ≤ core.bulk u
unit_lighter u v m = let g = functions_lighter u.functions in let e : functions_bulk v.functions ≡ functions_bulk (map rtl_function u.functions) = ap functions_bulk m.functions in omega (arith, g, e)

held_by : (o : Option Function) → option_map_or function_hold (option_map rtl_function o) 0 ≤ option_map_or core.function_hold o 0
held_by None = omega arith
held_by (Some f) = function_holds f

pub unit_holds : (u : CoreUnit) (v : UnitOf RtlParts) (index : ℕ) → Matches u v → hold v index ≤ core.hold u index
unit_holds u v index m =
    let g = held_by (slice_get u.functions index) in
    let e : hold v index ≡ option_map_or function_hold (option_map rtl_function (slice_get u.functions index)) 0 =
    ap (λ (fs : List RtlParts). option_map_or function_hold (slice_get fs index) 0) m.functions ∙ ap (λ (o : Option RtlParts). option_map_or function_hold o 0) (slice_get-map rtl_function u.functions index) in
    omega (arith, g, e)
