use Rattle.std.proofs.Common.{ap, ◌∙◌}
use Rattle.typing_faults.specs.Faults.{told}
use Rattle.typing_declarations.specs.Structs.{with_fields, fields_rows}
use Rattle.typing_declarations.proofs.MemberLists.{members_more, rows_more}
use Rattle.typing_declarations.proofs.structs.add_members.Goals as goal

pub members-preserved : goal.members-preserved
members-preserved c =
    let m = c.list-item.result in
    let one = c.in_ok-add_fields.ensures.fields ∙ ap (with_fields c.args.scope.now m.base c.members.fields) c.as_slice.ensures in
    let rows = c.in_ok-add_fields.ensures.told ∙ ap (λ xs. told c.members.faults (fields_rows c.args.scope.now m.base c.members.fields xs)) c.as_slice.ensures in
    record {
      fields = members_more c.args.scope.now c.members.fields c.add_fields.new.fields c.args.members.now c.members.list-index m c.members-test.true c.list-item.is one ∙ c.members.invariant.fields;
      told = rows_more c.args.scope.now c.members.fields c.add_fields.new.fields c.members.faults c.add_fields.new.faults c.args.members.now c.members.list-index m c.members-test.true c.list-item.is one rows ∙ c.members.invariant.told;
    }
