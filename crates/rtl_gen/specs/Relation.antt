-- When a run of Rtl stands as a run of Core does.
use Rattle.std.specs.Prelude.{◌≡◌, ℕ, suc, ◌+◌, ◌<◌, Bool, true, false, List, [], ◌∷◌, map, slice_get, get_or, Option, Some, None}
use Rattle.pass_core.specs.Lists.{EachMatches}
use Rattle.block_mem.specs.declared.operator.Op.TheVariants.{Keep}
use Rattle.block_mem.specs.declared.value.Value.{Value}
use Rattle.core_lang.specs.declared.syntax.Function.{Function}
use Rattle.core_lang.specs.Meaning.{Temporaries, Program, Item, Do, End, Frame, World}
use Rattle.rtl_lang.specs.declared.syntax.RtlNode.{RtlNode}
use Rattle.rtl_lang.specs.declared.syntax.RtlNode.TheVariants as node
use Rattle.rtl_lang.specs.Meaning.{RtlFrame, RtlWorld, RtlProgram}
use Rattle.rtl_gen.specs.Trees.{Tree, Constant, Temporary, Address, Local, Load, Unary, Binary, Code, Skip, Then, Set, Store, Call, If, Loop, Block, Exit, Return, code}
use Rattle.rtl_gen.specs.Translation.{home, takes_one, other_home, homes, base_of, lay_end, rtl_function}

-- a partial function from numbers to nodes
abbrev pub Graph : Type 0
Graph = ℕ → Option RtlNode

-- Where expressions stand. Those temporaries that they read are below `base`, and what is found on the way comes into others

-- an operand that is a temporary has no node
abbrev pub operand : ℕ → Tree → ℕ → ℕ → Type 0 → Type 0
operand base (Constant n) p q nodes = nodes
operand base (Temporary j) p q nodes = (j < base) × (p ≡ q)
operand base (Address symbol offset) p q nodes = nodes
operand base (Local index) p q nodes = nodes
operand base (Load w x) p q nodes = nodes
operand base (Unary op x) p q nodes = nodes
operand base (Binary op x y) p q nodes = nodes

-- the 0 that an operator with two operands has on the right
abbrev pub Zero : Graph → Bool → ℕ → ℕ → ℕ → Type 0
Zero g true k p q = p ≡ q
Zero g false k p q = g p ≡ Some (node.Const 0 k q)

-- from node p the value comes into temporary d, and then q follows. Temporaries below k are kept, but for d
abbrev pub Into : Graph → ℕ → Tree → ℕ → ℕ → ℕ → ℕ → Type 0
Into g base (Constant n) k d p q = g p ≡ Some (node.Const n d q)
Into g base (Temporary j) k d p q = (j < base) × (g p ≡ Some (node.Apply Keep j j d q))
Into g base (Address symbol offset) k d p q = g p ≡ Some (node.Address symbol offset d q)
Into g base (Local index) k d p q = g p ≡ Some (node.Local index d q)
Into g base (Load w x) k d p q = (m : ℕ) × operand base x p m (Into g base x k k p m) × (g m ≡ Some (node.Load w (home k x) d q))
Into g base (Unary op x) k d p q = (m : ℕ) × operand base x p m (Into g base x k k p m) × ((n : ℕ) × Zero g (takes_one op) (suc k) m n × (g n ≡ Some (node.Apply op (home k x) (other_home (takes_one op) k x) d q)))
Into g base (Binary op x y) k d p q = (m : ℕ) × operand base x p m (Into g base x k k p m) × ((n : ℕ) × operand base y m n (Into g base y (suc k) (suc k) m n) × (g n ≡ Some (node.Apply op (home k x) (home (suc k) y) d q)))

-- from p on the value comes into its home, where q follows
abbrev pub Operand : Graph → ℕ → Tree → ℕ → ℕ → ℕ → Type 0
Operand g base e k p q = operand base e p q (Into g base e k k p q)

abbrev pub Operands : Graph → ℕ → List Tree → ℕ → ℕ → ℕ → Type 0
Operands g base [] k p q = p ≡ q
Operands g base (x ∷ xs) k p q = (m : ℕ) × Operand g base x k p m × Operands g base xs (suc k) m q

-- Where statements stand

abbrev pub Returns : Graph → ℕ → Option Tree → ℕ → Type 0
Returns g base None p = g p ≡ Some (node.Return None)
Returns g base (Some e) p = (m : ℕ) × Operand g base e base p m × (g m ≡ Some (node.Return (Some (home base e))))

-- from p on, and q follows. Exits lead to the nodes of a list, the innermost first, and those that are not there to the end
abbrev pub Stands : Graph → ℕ → ℕ → Code → ℕ → ℕ → List ℕ → Type 0
Stands g base end Skip p q es = p ≡ q
Stands g base end (Then a b) p q es = (m : ℕ) × Stands g base end a p m es × Stands g base end b m q es
Stands g base end (Set j e) p q es = Into g base e base j p q
Stands g base end (Store w a b) p q es = (m : ℕ) × Operand g base a base p m × ((n : ℕ) × Operand g base b (suc base) m n × (g n ≡ Some (node.Store w (home base a) (home (suc base) b) q)))
Stands g base end (Call to callee xs) p q es = (m : ℕ) × Operands g base xs base p m × (g m ≡ Some (node.Call callee (homes base xs) to q))
Stands g base end (If e a b) p q es = (m : ℕ) × Operand g base e base p m × ((y : ℕ) × (n : ℕ) × (g m ≡ Some (node.Branch (home base e) y n)) × Stands g base end a y q es × Stands g base end b n q es)
Stands g base end (Loop a) p q es = (m : ℕ) × (g p ≡ Some (node.Nop m)) × Stands g base end a m p es
Stands g base end (Block a) p q es = Stands g base end a p q (q ∷ es)
Stands g base end (Exit n) p q es = get_or es n end ≡ p
Stands g base end (Return e) p q es = Returns g base e p

-- what a call has still to do stands from p on
abbrev pub Todo : Graph → ℕ → ℕ → List Item → ℕ → List ℕ → Type 0
Todo g base end [] p es = (es ≡ []) × (p ≡ end)
Todo g base end (Do s ∷ left) p es = (q : ℕ) × Stands g base end (code s) p q es × Todo g base end left q es
Todo g base end (End ∷ left) p es = (rest : List ℕ) × (es ≡ p ∷ rest) × Todo g base end left p rest

-- Calls and runs

abbrev pub graph_of : Function → Graph
graph_of f i = slice_get (rtl_function f).graph i

-- what is set of Core's temporaries below a number is the same in Rtl
abbrev pub Low : ℕ → Temporaries → Temporaries → Type 0
Low base t u = (j : ℕ) (v : Value) → j < base → t j ≡ Some v → u j ≡ Some v

-- a call of f with this to do and these temporaries stands at a node with others
pub record Stood (f : Function) (left : List Item) (t : Temporaries) (n : ℕ) (u : Temporaries) : Type 0 where
  pub exits : List ℕ
  pub todo : Todo (graph_of f) (base_of f) (lay_end f).0 left n exits
  pub low : Low (base_of f) t u

-- Rtl's frame is Core's but for the node and the temporaries
abbrev pub rtl_frame : Frame → ℕ → Temporaries → RtlFrame
rtl_frame f n u = record { unit = f.unit; function = rtl_function f.function; activation = f.activation; temporaries = u; node = n; result = f.result }

pub record FrameAlike (f : Frame) (r : RtlFrame) : Type 0 where
  pub node : ℕ
  pub temporaries : Temporaries
  pub same : r ≡ rtl_frame f node temporaries
  pub stood : Stood f.function f.left f.temporaries node temporaries

abbrev pub rtl_world : World → ℕ → Temporaries → List RtlFrame → RtlWorld
rtl_world w n u below = record { memory = w.memory; calls = w.calls; top = rtl_frame w.top n u; below = below }

pub record Related (w : World) (v : RtlWorld) : Type 0 where
  pub node : ℕ
  pub temporaries : Temporaries
  pub frames : List RtlFrame
  pub same : v ≡ rtl_world w node temporaries frames
  pub stood : Stood w.top.function w.top.left w.top.temporaries node temporaries
  pub below : EachMatches FrameAlike w.below frames

-- the linked units in Rtl: what names mean, and the room, are Core's
abbrev pub rtl_program : Program → RtlProgram
rtl_program p = record { functions = map (map rtl_function) p.functions; objects = p.objects; callees = p.callees; room = p.room }

-- The measure: what may take no turn

abbrev pub code_count : Code → ℕ
code_count Skip = 0
code_count (Then a b) = code_count a + code_count b
code_count (Set j e) = 1
code_count (Store w a b) = 1
code_count (Call to callee xs) = 1
code_count (If e a b) = 1
code_count (Loop a) = 1
code_count (Block a) = 2 + code_count a
code_count (Exit n) = 1
code_count (Return e) = 1

abbrev pub item_count : Item → ℕ
item_count (Do s) = code_count (code s)
item_count End = 1

abbrev pub left_count : List Item → ℕ
left_count [] = 0
left_count (i ∷ left) = item_count i + left_count left

abbrev pub measure : World → ℕ × ℕ
measure w = (0, left_count w.top.left)
