use Rattle.std.proofs.Common.{◌++◌, [], ◌∷◌, ap, ◌∙◌}
use Rattle.typing_units.proofs.Walked.{names_more}
use Rattle.typing_units.proofs.faces.symbol_names.Goals as goal

pub symbols-preserved : goal.symbols-preserved
symbols-preserved c =
    let pushed =
    c.in_ok-push.ensures.ok
    ∙ ap (λ n. c.symbols.names ++ record { name = n; local = c.is_local.result } ∷ []) c.in_ok-from_slice.ensures
    ∙ ap (λ b. c.symbols.names ++ record { name = c.name.result.now; local = b } ∷ []) c.is_local.ensures in
    names_more c.args.symbols.now c.symbols.names c.push.new.self c.symbols.number c.name.result.now c.name.ensures pushed ∙ c.symbols.invariant
