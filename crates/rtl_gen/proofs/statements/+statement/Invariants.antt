use Rattle.std.proofs.Common.{◌≡◌, ◌≤◌, length, reverse}
use Rattle.rtl_gen.specs.Translation.{lay}
use Rattle.rtl_gen.proofs.Lists.{rest}
use Rattle.rtl_gen.proofs.statements.+statement.Given as goal

-- the statements behind were laid
abbrev pub invariant-sequence-statements : goal.invariant-sequence-statements
invariant-sequence-statements l = (l.left ≤ length l.statements)
    × ((l.at, l.graph.items) ≡ lay l.initial.graph.items l.scratch l.end (rest l.statements l.left) l.next (reverse l.initial.exits.items))
    × (l.exits.items ≡ l.initial.exits.items)

abbrev pub decreases-sequence-statements : goal.decreases-sequence-statements
decreases-sequence-statements l = l.left
