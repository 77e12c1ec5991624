use Rattle.std.proofs.lemmas.Result.{on_ok_weaker}
use Rattle.typing_declarations.proofs.MemberLists.{field_made}
use Rattle.typing_declarations.specs.Declarators.{type_of}
use Rattle.typing_declarations.proofs.structs.add_field.Goals as goal

pub returns-clause-fields : goal.returns-clause-fields
returns-clause-fields c =
    on_ok_weaker c.set.result
    (λ members_are. field_made c.args.scope.now c.args.fields.now c.args.declarator.now c.in_ok-ctype.ctype (type_of c.args.scope.now c.args.base.now c.args.declarator.now) c.set.new.self c.as_slice.result.now c.laid_of-laid.result c.laid_with-fields.result c.offset_in-offset.result c.tell_field-flawed.result c.is_broken_with-fields.result c.in_ok-ctype.ensures c.tell_field-flawed.ensures.flawed c.laid_of-laid.ensures c.offset_in-offset.ensures c.is_broken_with-fields.ensures c.laid_with-fields.ensures c.as_slice.ensures members_are)
    c.set.ensures.entries
