use Rattle.std.proofs.Common.{◌&&◌, ◌≤◌, length, List, ap, sym, subst, ◌∙◌}
use Rattle.clight_unit.specs.declared.signature.ValueType.{ValueType}
use Rattle.clight_unit.specs.declared.signature.ValueBase.TheVariants.{Int, Void}
use Rattle.clight_sem.specs.Functions.{same_type, plain_type}
use Rattle.mean_start.proofs.ByName.{more_types, or_false}
use Rattle.mean_start.proofs.callees.declares_putbyte.Goals as goal

pub returns-in_default-2 : goal.returns-in_default-2
returns-in_default-2 c =
    let signature = c.args.declared.now in
    let long = subst (λ (l : List ValueType). 2 ≤ length l) c.as_slice.ensures c.in_default.len_at_least in
    sym (ap (λ b. same_type signature.result (plain_type Void) && b) (more_types signature.parameters (plain_type Int) long) ∙ or_false (same_type signature.result (plain_type Void)))
