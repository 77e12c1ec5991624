use Rattle.std.proofs.Common.{ap, ◌∙◌}
use Rattle.std.specs.Option.{is_some}
use Rattle.clight_sem.specs.Functions.{is_function_named}
use Rattle.unit_names.specs.declared.meaning.Meaning.TheVariants.{Function as FunctionOf}
use Rattle.mean_start.proofs.Meanings.{some_with}
use Rattle.mean_start.proofs.own.has_function.Goals as goal

pub returns : goal.returns
returns c =
    let own = c.args.own.now in let name = c.args.name.now in
    c.is_some.ensures
    ∙ ap is_some (c.look_up.ensures ∙ c.requires.own.functions name)
    ∙ some_with (is_function_named own.unit.now name) (λ i f. FunctionOf own.number i) 0 own.unit.now.functions
