use Rattle.std.proofs.Common.{◌≡◌, ap, sym, ◌∙◌}
use Rattle.typing_faults.specs.Faults.{told}
use Rattle.typing_initialisers.specs.Data.{with_parts}
use Rattle.typing_initialisers.specs.Slots.{slot_in}
use Rattle.typing_initialisers.specs.Initialisers.{in_slot, item_of}
use Rattle.typing_initialisers.proofs.Turns.{one_filled, one_given}
use Rattle.typing_initialisers.proofs.filling.+initialiser.Goals as goal
use Rattle.typing_initialisers.proofs.filling.+initialiser.Goals.{fill_items-in-Some+in_ok-fill-in-Some, fill_items-in-None+in_ok-refuse-in-None}

pub fill_items-items-preserved : goal.fill_items-items-preserved
fill_items-items-preserved t c =
    let slot = slot_in c.args.scope.now c.args.slots.now in
    let item = item_of c.args.scope.now c.index-items-index.result in
    let rows : c.match-branch-2.faults ≡ told c.items.faults (in_slot item (slot c.items.index)).rows =
    elim c.match-branch-2.branch [
      | fill_items-in-Some+in_ok-fill-in-Some w ↦ w.faults-is ∙ w.in_ok-fill-in-Some.ensures.rows ∙ ap (λ o. told c.items.faults (in_slot item o).rows) (sym w.in-Some.is ∙ c.in_ok-slot.ensures)
      | fill_items-in-None+in_ok-refuse-in-None w ↦ w.faults-is ∙ w.in_ok-refuse-in-None.ensures ∙ ap (λ o. told c.items.faults (in_slot item o).rows) (sym w.in-None.is ∙ c.in_ok-slot.ensures)
    ] in
    let parts : c.match-branch-2.out ≡ with_parts c.items.out (in_slot item (slot c.items.index)).parts =
    elim c.match-branch-2.branch [
      | fill_items-in-Some+in_ok-fill-in-Some w ↦ w.out-is ∙ w.in_ok-fill-in-Some.ensures.parts ∙ ap (λ o. with_parts c.items.out (in_slot item o).parts) (sym w.in-Some.is ∙ c.in_ok-slot.ensures)
      | fill_items-in-None+in_ok-refuse-in-None w ↦ w.out-is ∙ ap (λ o. with_parts c.items.out (in_slot item o).parts) (sym w.in-None.is ∙ c.in_ok-slot.ensures)
    ] in
    record {
      rows = one_filled c.args.scope.now slot c.items.faults c.match-branch-2.faults c.args.items.now c.items.index c.index-items-index.result c.items-test.true c.index-items-index.is rows ∙ c.items.invariant.rows;
      parts = one_given c.args.scope.now slot c.items.out c.match-branch-2.out c.args.items.now c.items.index c.index-items-index.result c.items-test.true c.index-items-index.is parts ∙ c.items.invariant.parts;
    }
