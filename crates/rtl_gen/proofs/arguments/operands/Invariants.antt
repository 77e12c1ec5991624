use Rattle.std.proofs.Common.{◌≡◌, ◌+◌, ◌≤◌, length}
use Rattle.rtl_gen.specs.Translation.{lay_operands}
use Rattle.rtl_gen.proofs.Lists.{others}
use Rattle.rtl_gen.proofs.arguments.operands.Given as goal

-- those behind were laid
abbrev pub invariant-arguments : goal.invariant-arguments
invariant-arguments l = (l.left ≤ length l.arguments)
    × ((l.at, l.graph.items) ≡ lay_operands (l.next, l.initial.graph.items) (others l.arguments l.left) (l.scratch + l.left))
