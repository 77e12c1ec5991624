use Rattle.std.proofs.Common.{◌≡◌, ◌+◌, ℕ, arith, subst, sym, drop}
use Rattle.second_code.specs.Parts.{definition_from}
use Rattle.second_code.specs.PartSteps.{found_at, or_later}
use Rattle.second_code.proofs.PartLemmas.{text_left, definition_more}
use Rattle.second_code.proofs.definitions.definitions.Goals as goal

pub note_item-requires : goal.note_item-requires
note_item-requires c =
    omega (
      arith,
      text_left c.args.items.now c.loop-item.item-index c.item-item.result c.loop-item-test.true c.item-item.is,
      c.requires,
      c.loop-item.invariant.end,
    )

pub loop-item-preserved : goal.loop-item-preserved
loop-item-preserved c =
    let at = c.loop-item.at in
    let item = c.item-item.result in
    let index = c.loop-item.item-index in
    let items = c.args.items.now in
    record {
      found = λ name.
          let P : ℕ → Type 0 = λ n. or_later (found_at c.note_item.new.definitions name) (definition_from n (drop (index + 1) items) name) ≡ definition_from 0 items name in
          subst P (sym c.in_ok-at.ensures.end)
          (definition_more (found_at c.loop-item.definitions name) (found_at c.note_item.new.definitions name) (definition_from 0 items name) at items index item name c.loop-item-test.true c.item-item.is
          (c.loop-item.invariant.found name) (c.in_ok-at.ensures.definitions name));
      end = omega (arith, text_left items index item c.loop-item-test.true c.item-item.is, c.in_ok-at.ensures.end, c.loop-item.invariant.end);
    }
