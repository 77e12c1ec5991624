-- Bounds of a unit of Ltl: how much code it may come to, and how much of the stack a call of each function may take. The bytes are
-- those of the longest spelling, where each location is a slot and each piece of code ends with a jump (this project's own
-- rule).
use Rattle.std.specs.Prelude.{ℕ, ◌+◌, ◌*◌, max, List, [], ◌∷◌, length, slice_get}
use Rattle.std.specs.Option.{option_map_or}
use Rattle.block_mem.specs.declared.operator.Op.{Op}
use Rattle.block_mem.specs.declared.operator.Op.TheVariants.{Keep}
use Rattle.clight_sem.specs.Bounds.{whole_words}
use Rattle.unit_passes.specs.declared.units.UnitOf.{UnitOf}
use Rattle.ltl_lang.specs.declared.syntax.LtlNode.{LtlNode}
use Rattle.ltl_lang.specs.declared.syntax.LtlNode.TheVariants as node
use Rattle.ltl_lang.specs.declared.syntax.LtlParts.{LtlParts}

-- Nodes

abbrev pub operator_bytes : Op → ℕ
operator_bytes Keep = 19
operator_bytes op = 40

abbrev pub node_bytes : LtlNode → ℕ
node_bytes (node.Nop next) = 5
node_bytes (node.Const n to next) = 17
node_bytes (node.Address symbol offset to next) = 17
node_bytes (node.Local index to next) = 19
node_bytes (node.Apply op left right to next) = operator_bytes op
node_bytes (node.Load width place to next) = 26
node_bytes (node.Store width place value next) = 26
node_bytes (node.Call callee arguments to next) = 24 + 16 * length arguments
node_bytes (node.Branch k this that) = 28
node_bytes (node.Return v) = 48

abbrev pub graph_bytes : List LtlNode → ℕ
graph_bytes [] = 0
graph_bytes (x ∷ xs) = node_bytes x + graph_bytes xs

-- the arguments of a call
abbrev pub node_arguments : LtlNode → ℕ
node_arguments (node.Nop next) = 0
node_arguments (node.Const n to next) = 0
node_arguments (node.Address symbol offset to next) = 0
node_arguments (node.Local index to next) = 0
node_arguments (node.Apply op left right to next) = 0
node_arguments (node.Load width place to next) = 0
node_arguments (node.Store width place value next) = 0
node_arguments (node.Call callee arguments to next) = length arguments
node_arguments (node.Branch k this that) = 0
node_arguments (node.Return v) = 0

-- the most that a call of the graph has
abbrev pub graph_arguments : List LtlNode → ℕ
graph_arguments [] = 0
graph_arguments (x ∷ xs) = max (node_arguments x) (graph_arguments xs)

-- Functions and units

-- with what is done at the start of a call
abbrev pub function_bytes : LtlParts → ℕ
function_bytes f = 47 + 16 * f.parameters + graph_bytes f.graph

-- the return address, four saved registers, the slots and the arguments of calls, a word each, and the locals
abbrev pub function_hold : LtlParts → ℕ
function_hold f = 20 + 4 * (f.slots + graph_arguments f.graph) + whole_words f.locals

abbrev pub functions_bulk : List LtlParts → ℕ
functions_bulk [] = 0
functions_bulk (f ∷ fs) = function_bytes f + functions_bulk fs

-- how much code the unit may come to, in bytes
abbrev pub bulk : UnitOf LtlParts → ℕ
bulk u = functions_bulk u.functions

-- how much of the stack a call of the function of this number may take, in bytes
abbrev pub hold : UnitOf LtlParts → ℕ → ℕ
hold u index = option_map_or function_hold (slice_get u.functions index) 0
