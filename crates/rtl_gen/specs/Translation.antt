-- The graph of a function. Nodes are laid behind those that are there, what follows first, so that each node knows the number of the
-- next one. Temporaries from the function's own on hold what is found on the way, by how deep it stands in its expression.
use Rattle.std.specs.Prelude.{ℕ, suc, ◌+◌, max, Bool, true, false, List, [], ◌∷◌, ◌++◌, length, set, get_or, Option, Some, None}
use Rattle.block_mem.specs.declared.operator.Op.{Op}
use Rattle.block_mem.specs.declared.operator.Op.TheVariants.{Keep, LowSigned, LowUnsigned, Neg, Flip, Not, PtrNot}
use Rattle.core_lang.specs.declared.syntax.Ending.{Ending}
use Rattle.core_lang.specs.declared.syntax.Ending.TheVariants as ending
use Rattle.core_lang.specs.declared.syntax.Function.{Function}
use Rattle.core_lang.specs.Bounds.{body_size}
use Rattle.rtl_lang.specs.declared.syntax.RtlNode.{RtlNode}
use Rattle.rtl_lang.specs.declared.syntax.RtlNode.TheVariants as node
use Rattle.rtl_lang.specs.declared.syntax.RtlParts.{RtlParts}
use Rattle.rtl_gen.specs.Trees.{Tree, Constant, Temporary, Address, Local, Load, Unary, Binary, Code, Skip, Then, Set, Store, Call, If, Loop, Block, Exit, Return, body_code}

-- where one enters, and all nodes
abbrev pub Laid : Type 0
Laid = ℕ × List RtlNode

abbrev pub push : List RtlNode → RtlNode → Laid
push g x = (length g, g ++ x ∷ [])

-- Expressions

-- the temporary where an operand's value is: a temporary is read where it is
abbrev pub home : ℕ → Tree → ℕ
home k (Constant n) = k
home k (Temporary j) = j
home k (Address symbol offset) = k
home k (Local index) = k
home k (Load w x) = k
home k (Unary op x) = k
home k (Binary op x y) = k

-- it takes no node then
abbrev pub unless_there : Tree → Laid → Laid → Laid
unless_there (Constant n) there new = new
unless_there (Temporary j) there new = there
unless_there (Address symbol offset) there new = new
unless_there (Local index) there new = new
unless_there (Load w x) there new = new
unless_there (Unary op x) there new = new
unless_there (Binary op x y) there new = new

-- the operators that look at one operand alone
abbrev pub takes_one : Op → Bool
takes_one Keep = true
takes_one LowSigned = true
takes_one LowUnsigned = true
takes_one Neg = true
takes_one Flip = true
takes_one Not = true
takes_one PtrNot = true
takes_one op = false

-- such an operator has its operand twice; another one has 0 on the right
abbrev pub other_home : Bool → ℕ → Tree → ℕ
other_home true k x = home k x
other_home false k x = suc k

abbrev pub lay_zero : Bool → Laid → ℕ → Laid
lay_zero true r k = r
lay_zero false r k = push r.1 (node.Const 0 k r.0)

-- the value of an expression comes into temporary d, and node q follows. Those from k on are free
abbrev pub lay_into : List RtlNode → Tree → ℕ → ℕ → ℕ → Laid
lay_into g (Constant n) k d q = push g (node.Const n d q)
lay_into g (Temporary j) k d q = push g (node.Apply Keep j j d q)
lay_into g (Address symbol offset) k d q = push g (node.Address symbol offset d q)
lay_into g (Local index) k d q = push g (node.Local index d q)
lay_into g (Load w x) k d q =
    let r = push g (node.Load w (home k x) d q) in
    unless_there x r (lay_into r.1 x k k r.0)
lay_into g (Unary op x) k d q =
    let r = push g (node.Apply op (home k x) (other_home (takes_one op) k x) d q) in
    let s = lay_zero (takes_one op) r (suc k) in
    unless_there x s (lay_into s.1 x k k s.0)
lay_into g (Binary op x y) k d q =
    let r = push g (node.Apply op (home k x) (home (suc k) y) d q) in
    let s = unless_there y r (lay_into r.1 y (suc k) (suc k) r.0) in
    unless_there x s (lay_into s.1 x k k s.0)

-- an operand comes into its home
abbrev pub lay_operand : Laid → Tree → ℕ → Laid
lay_operand r x k = unless_there x r (lay_into r.1 x k k r.0)

-- arguments, each in a temporary of its own, or where it is
abbrev pub homes : ℕ → List Tree → List ℕ
homes k [] = []
homes k (x ∷ xs) = home k x ∷ homes (suc k) xs

abbrev pub lay_operands : Laid → List Tree → ℕ → Laid
lay_operands r [] k = r
lay_operands r (x ∷ xs) k = lay_operand (lay_operands r xs (suc k)) x k

-- Statements

abbrev pub lay_return : List RtlNode → Option Tree → ℕ → Laid
lay_return g None k = push g (node.Return None)
lay_return g (Some e) k = lay_operand (push g (node.Return (Some (home k e)))) e k

-- the head of a loop is laid before its body, and gets its way behind it
abbrev pub patched : ℕ → Laid → Laid
patched head r = (head, set r.1 head (node.Nop r.0))

-- code, behind which q follows. Exits lead to the nodes of a list, the innermost first, and those that are not there to the end
abbrev pub lay : List RtlNode → ℕ → ℕ → Code → ℕ → List ℕ → Laid
lay g k end Skip q es = (q, g)
lay g k end (Then a b) q es = lay (lay g k end b q es).1 k end a (lay g k end b q es).0 es
lay g k end (Set j e) q es = lay_into g e k j q
lay g k end (Store w a b) q es = lay_operand (lay_operand (push g (node.Store w (home k a) (home (suc k) b) q)) b (suc k)) a k
lay g k end (Call to callee xs) q es = lay_operands (push g (node.Call callee (homes k xs) to q)) xs k
lay g k end (If e a b) q es =
    let n = lay g k end b q es in
    let y = lay n.1 k end a q es in
    lay_operand (push y.1 (node.Branch (home k e) y.0 n.0)) e k
lay g k end (Loop a) q es = patched (length g) (lay (g ++ node.Nop (length g) ∷ []) k end a (length g) es)
lay g k end (Block a) q es = lay g k end a q (q ∷ es)
lay g k end (Exit n) q es = (get_or es n end, g)
lay g k end (Return e) q es = lay_return g e k

-- Functions

-- what the end of a body returns. A body that must not end has one too
abbrev pub end_value : Ending → Option Tree
end_value ending.Bare = None
end_value ending.Zero = Some (Constant 0)
end_value ending.Stuck = None

abbrev pub end_depth : Ending → ℕ
end_depth ending.Bare = 0
end_depth ending.Zero = 1
end_depth ending.Stuck = 0

-- the first temporary that is not the function's own
abbrev pub base_of : Function → ℕ
base_of f = max f.parameters (body_size f.body).reach

abbrev pub temporaries_of : Function → ℕ
temporaries_of f = base_of f + max (body_size f.body).depth (end_depth f.ending)

-- the end of the body comes first
abbrev pub lay_end : Function → Laid
lay_end f = lay_return [] (end_value f.ending) (base_of f)

abbrev pub lay_body : Function → Laid
lay_body f = lay (lay_end f).1 (base_of f) (lay_end f).0 (body_code f.body) (lay_end f).0 []

-- a function in Rtl
unfoldable pub rtl_function : Function → RtlParts
rtl_function f = record {
  symbol = f.symbol;
  is_static = f.is_static;
  parameters = f.parameters;
  temporaries = temporaries_of f;
  locals = f.locals;
  need = f.need;
  entry = (lay_body f).0;
  graph = (lay_body f).1;
}
