use Rattle.std.proofs.Common.{◌∙◌}
use Rattle.typing_bodies.specs.Locals.{opened}
use Rattle.typing_bodies.proofs.LocalLists.{lists_more, list_rows_more}
use Rattle.typing_bodies.proofs.locals.open_locals.Goals as goal

pub locals-preserved : goal.locals-preserved
locals-preserved c =
    let before = opened c.locals.scope c.locals.prologue in
    let after = opened c.open_list.new.scope c.open_list.new.prologue in
    let one = c.in_ok-open_list.ensures.opened in
    record {
      behind = lists_more before after c.args.locals.now c.locals.list-index c.list-item.result c.locals-test.true c.list-item.is one ∙ c.locals.invariant.behind;
      rows = list_rows_more before after c.locals.faults c.open_list.new.faults c.args.locals.now c.locals.list-index c.list-item.result c.locals-test.true c.list-item.is one c.in_ok-open_list.ensures.rows ∙ c.locals.invariant.rows;
    }
