use Rattle.std.proofs.Common.{ap, ◌∙◌, inl, inr}
use Rattle.text_parser.specs.Depth.{opened, in_row}
use Rattle.text_parser.proofs.DepthLaws.{deep_here, goes_here}
use Rattle.text_parser.proofs.depth.first_deep.Goals as goal
use Rattle.text_parser.proofs.depth.first_deep.Goals.{then-depth-gt-OPEN_MAX-via-then-depth-gt-OPEN_MAX, then-depth-gt-OPEN_MAX-via-else-depth-gt-OPEN_MAX+then-row-gt-ROW_MAX}

pub returns-then-depth-gt-OPEN_MAX : goal.returns-then-depth-gt-OPEN_MAX
returns-then-depth-gt-OPEN_MAX c =
    rw c.at.ensures
    (deep_here c.args.tokens c.tokens.tokens c.in-Some.x c.tokens.depth c.tokens.row c.opened-depth.result c.in_row-row.result c.tokens.invariant c.in-Some.ensures
    (c.opened-depth.ensures ∙ ap (opened c.tokens.depth) c.kind.ensures) (c.in_row-row.ensures ∙ ap (in_row c.tokens.row) c.kind-in-Some.ensures)
    (elim c.then-depth-gt-OPEN_MAX.branch [ then-depth-gt-OPEN_MAX-via-then-depth-gt-OPEN_MAX w ↦ inl w.if-depth-gt-OPEN_MAX.true | then-depth-gt-OPEN_MAX-via-else-depth-gt-OPEN_MAX+then-row-gt-ROW_MAX w ↦ inr w.if-row-gt-ROW_MAX.true ]))

pub tokens-preserved : goal.tokens-preserved
tokens-preserved c =
    goes_here c.args.tokens c.tokens.tokens c.skip.new.self c.in-Some.x c.tokens.depth c.tokens.row c.opened-depth.result c.in_row-row.result c.tokens.invariant c.in-Some.ensures
    (c.opened-depth.ensures ∙ ap (opened c.tokens.depth) c.kind.ensures) (c.in_row-row.ensures ∙ ap (in_row c.tokens.row) c.kind-in-Some.ensures)
    c.if-depth-gt-OPEN_MAX.false c.if-row-gt-ROW_MAX.false c.skip.ensures
