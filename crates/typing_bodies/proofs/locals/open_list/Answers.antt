use Rattle.std.proofs.Common.{◌≡◌, ◌<◌, length, get_or, subst, ◌∙◌}
use Rattle.typing_bodies.specs.Locals.{opened}
use Rattle.typing_bodies.proofs.LocalLists.{items_more, item_rows_more}
use Rattle.typing_bodies.proofs.locals.open_list.Goals as goal

pub items-preserved : goal.items-preserved
items-preserved c =
    let list = c.args.list.now in
    let i = c.items.item-index in
    let x = c.item-item.result in
    let before = opened c.items.scope c.items.prologue in
    let after = opened c.open_local.new.scope c.open_local.new.prologue in
    let one = c.in_ok-open_local.ensures.opened in
    let within = subst (λ xs. i < length xs) c.as_slice-item-items.ensures c.items-test.true in
    let is = subst (λ xs. x ≡ get_or xs i x) c.as_slice-item-items.ensures c.item-item.is in
    record {
      behind = items_more list.is_register list.base before after list.items i x within is one ∙ c.items.invariant.behind;
      rows = item_rows_more list.is_register list.base before after c.items.faults c.open_local.new.faults list.items i x within is one c.in_ok-open_local.ensures.rows ∙ c.items.invariant.rows;
    }
