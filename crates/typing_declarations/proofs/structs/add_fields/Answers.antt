use Rattle.std.proofs.Common.{◌∙◌}
use Rattle.typing_declarations.proofs.MemberLists.{fields_more, field_rows_more}
use Rattle.typing_declarations.proofs.structs.add_fields.Goals as goal

pub declarators-preserved : goal.declarators-preserved
declarators-preserved c =
    let d = c.declarator-item.result in
    let one = c.in_ok-add_field.ensures.fields in
    record {
      fields = fields_more c.args.scope.now c.args.base.now c.declarators.fields c.add_field.new.fields c.args.declarators.now c.declarators.declarator-index d c.declarators-test.true c.declarator-item.is one ∙ c.declarators.invariant.fields;
      told = field_rows_more c.args.scope.now c.args.base.now c.declarators.fields c.add_field.new.fields c.declarators.faults c.add_field.new.faults c.args.declarators.now c.declarators.declarator-index d c.declarators-test.true c.declarator-item.is one c.in_ok-add_field.ensures.told ∙ c.declarators.invariant.told;
    }
