use Rattle.std.proofs.Common.{◌≡◌, List, Option, Some, true, sym, ◌∙◌, subst}
use Rattle.std.specs.Prelude.{IfSome, nat_le}
use Rattle.text_grammar.specs.declared.tree.External.{External}
use Rattle.elf_file.specs.declared.parts.ObjectParts.{ObjectParts}
use Rattle.elf_file.specs.WellFormed.{WellFormed}
use Rattle.elf_file.specs.Written.{Written}
use Rattle.second_form.specs.declared.second_items.Item.{Item}
use Rattle.second_form.specs.SecondForm.{IsSecondForm}
use Rattle.second_code.specs.Weights.{unit_weight, most_weight, IsLight}
use Rattle.second_code.proofs.PartsFit.{parts_fit}
use Rattle.second_code.proofs.Sizes.{object_small, is_light}
use Rattle.second_code.proofs.UnitFile.{unit_file}
use Rattle.second_code.proofs.objects.unit_object.Goals as goal

-- what the reader gave is of the form
form_of : (tree : List External) (o : Option (List Item)) (items : List Item) → IfSome o (IsSecondForm tree) → o ≡ Some items → IsSecondForm tree items
form_of tree o items h e = let P : Option (List Item) → Type 0 = λ x. IfSome x (IsSecondForm tree) in subst P e h

light_of : (items seen : List Item) → seen ≡ items → nat_le (unit_weight seen) most_weight ≡ true → IsLight items
light_of items seen e h = subst IsLight e (is_light seen h)

pub object_parts-requires : goal.object_parts-requires
object_parts-requires c = (light_of c.in-Some.items c.as_slice.result.now c.as_slice.ensures (sym c.is_light.ensures ∙ c.if-not-is_light.false))

pub write_object-requires : goal.write_object-requires
write_object-requires c =
    let form = form_of c.args.tree.now c.in_ok-items.field-0 c.in-Some.items c.in_ok-items.ensures.some c.in-Some.is in
    let small = object_small c.in-Some.items (light_of c.in-Some.items c.as_slice.result.now c.as_slice.ensures (sym c.is_light.ensures ∙ c.if-not-is_light.false)) in
    subst WellFormed (sym c.in_ok-parts.ensures) (parts_fit c.in-Some.items form.each small.symbols small.file)

pub returns-clause-some : goal.returns-clause-some
returns-clause-some c =
    let P : ObjectParts → Type 0 = λ parts. Written parts c.in_ok-file.file.items in
    let form = form_of c.args.tree.now c.in_ok-items.field-0 c.in-Some.items c.in_ok-items.ensures.some c.in-Some.is in
    let light = light_of c.in-Some.items c.as_slice.result.now c.as_slice.ensures (sym c.is_light.ensures ∙ c.if-not-is_light.false) in
    record {
      items = c.in-Some.items;
      form = form;
      written = unit_file c.in_ok-file.file.items c.in-Some.items light form.each (subst P c.in_ok-parts.ensures c.in_ok-file.ensures);
    }
