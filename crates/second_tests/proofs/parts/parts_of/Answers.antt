use Rattle.std.proofs.Common.{◌≡◌, List, true, sym, ◌∙◌, subst}
use Rattle.std.specs.Prelude.{nat_le}
use Rattle.std.proofs.lemmas.Bool.{leb-true}
use Rattle.second_form.specs.declared.second_items.Item.{Item}
use Rattle.second_code.specs.Weights.{unit_weight, most_weight, IsLight}
use Rattle.second_tests.proofs.parts.parts_of.Goals as goal

light_of : (items seen : List Item) → seen ≡ items → nat_le (unit_weight seen) most_weight ≡ true → IsLight items
light_of items seen e h = subst IsLight e (leb-true (unit_weight seen) most_weight h)

pub object_parts-requires : goal.object_parts-requires
object_parts-requires c = light_of c.in-Some.items c.as_slice.result.now c.as_slice.ensures (sym c.is_light.ensures ∙ c.if-not-is_light.false)
