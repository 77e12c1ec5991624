use Rattle.std.proofs.Common.{◌∙◌}
use Rattle.clight_sem.specs.Functions.{is_function_named}
use Rattle.mean_start.proofs.Meanings.{function_is}
use Rattle.mean_start.proofs.own.own_function.Goals as goal

pub returns : goal.returns
returns c =
    let own = c.args.own.now in let name = c.args.name.now in
    c.look_up.ensures ∙ c.requires.own.functions name ∙ function_is (λ u. is_function_named u name) own.number own.unit.now
