use Rattle.std.proofs.Common.{◌≡◌, OnOk, ap, sym, subst, ◌∙◌}
use Rattle.text_grammar.specs.declared.tree.External.TheVariants.{Function as SomeFunction}
use Rattle.typing_faults.specs.Faults.{told}
use Rattle.typing_units.specs.Walk.{external_rows, external_behind}
use Rattle.typing_units.proofs.walking.walk_external.Goals as goal

pub returns-in-Function-clause-rows : goal.returns-in-Function-clause-rows
returns-in-Function-clause-rows c =
    let it = ap (λ ls. SomeFunction c.in-Function.head ls c.as_slice-in-Function-2.result.now) c.as_slice-in-Function.ensures ∙ ap (λ b. SomeFunction c.in-Function.head c.in-Function.locals b) c.as_slice-in-Function-2.ensures ∙ sym c.in-Function.is in
    subst (λ e. OnOk c.walk_function.result (c.walk_function.new.faults ≡ told c.args.faults.now (external_rows c.args.whole.now c.args.walk.now e))) it c.walk_function.ensures.rows

pub returns-in-Function-clause-walk : goal.returns-in-Function-clause-walk
returns-in-Function-clause-walk c =
    let it = ap (λ ls. SomeFunction c.in-Function.head ls c.as_slice-in-Function-2.result.now) c.as_slice-in-Function.ensures ∙ ap (λ b. SomeFunction c.in-Function.head c.in-Function.locals b) c.as_slice-in-Function-2.ensures ∙ sym c.in-Function.is in
    subst (λ e. OnOk c.walk_function.result (c.walk_function.new.walk ≡ external_behind c.args.whole.now c.args.walk.now e)) it c.walk_function.ensures.walk
