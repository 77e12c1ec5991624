-- What nodes cost: how many instructions of an image stand for one at most, where each location is a slot and the jump to the
-- next node counts (this project's own rule).
use Rattle.std.specs.Prelude.{ℕ, ◌+◌, ◌*◌, length, Option, Some, None}
use Rattle.block_mem.specs.declared.operator.Op.{Op}
use Rattle.block_mem.specs.declared.operator.Op.TheVariants.{Keep}
use Rattle.ltl_lang.specs.declared.syntax.LtlNode.{LtlNode}
use Rattle.ltl_lang.specs.declared.syntax.LtlNode.TheVariants as node
use Rattle.ltl_lang.specs.Meaning.{LtlWorld, node_of}

abbrev pub operator_price : Op → ℕ
operator_price Keep = 4
operator_price op = 9

abbrev pub node_price : Option LtlNode → ℕ
node_price None = 0
node_price (Some (node.Nop next)) = 1
node_price (Some (node.Const n to next)) = 3
node_price (Some (node.Address symbol offset to next)) = 3
node_price (Some (node.Local index to next)) = 3
node_price (Some (node.Apply op left right to next)) = operator_price op
node_price (Some (node.Load width place to next)) = 4
node_price (Some (node.Store width place value next)) = 4
node_price (Some (node.Call callee arguments to next)) = 24 + 5 * length arguments
node_price (Some (node.Branch k this that)) = 5
node_price (Some (node.Return v)) = 12

-- the price of the turn that comes next
abbrev pub price : LtlWorld → ℕ
price w = node_price (node_of w)
