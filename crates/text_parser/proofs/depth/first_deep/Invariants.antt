use Rattle.std.proofs.Common.{length}
use Rattle.text_parser.proofs.DepthLaws.{Walked}
use Rattle.text_parser.proofs.depth.first_deep.Given as goal

abbrev pub invariant-tokens : goal.invariant-tokens
invariant-tokens l = Walked l.fn.tokens l.tokens l.depth l.row

abbrev pub decreases-tokens : goal.decreases-tokens
decreases-tokens l = length l.tokens
