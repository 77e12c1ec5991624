use Rattle.std.proofs.Common.{◌&&◌, [], ap, sym, ◌∙◌}
use Rattle.std.specs.Prelude.{nat_eq}
use Rattle.clight_sem.specs.Functions.{same_types}
use Rattle.mean_start.proofs.ByName.{no_types}
use Rattle.mean_start.proofs.callees.declares_getbyte.Goals as goal

pub returns-then-is_plain : goal.returns-then-is_plain
returns-then-is_plain c =
    let types = c.args.declared.now.parameters in
    ap (λ n. nat_eq n 0) c.len.ensures
    ∙ no_types types
    ∙ ap (λ b. b && same_types types []) (sym c.if-is_plain.true ∙ c.is_plain.ensures)
