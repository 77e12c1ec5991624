use Rattle.std.proofs.Common.{ℕ, refl, arith}
use Rattle.second_form.specs.declared.second_items.Item.{Item}
use Rattle.second_form.specs.SecondNames.{KeepsItem}
use Rattle.second_form.proofs.NameRules.{kept_more, at_place, at_within}
use Rattle.second_form.proofs.second_names.keep_items.Goals as goal

pub loop-place-preserved : goal.loop-place-preserved
loop-place-preserved c =
    let P : ℕ → Item → Type 0 = λ i a. KeepsItem c.args.names.now i a in
    kept_more P c.args.items.now c.loop-place.place c.index-items-place.result c.loop-place.invariant
    (at_place c.args.items.now c.loop-place.place c.index-items-place.result c.loop-place-test.true c.index-items-place.is)
    (c.keeps_item.ensures.0 c.if-not-keeps_item.false)

pub returns : goal.returns
returns c = (λ _ i a at. let l = at_within c.args.items.now i a at in c.loop-place.invariant i a (omega arith) at, λ _. refl)
