use Rattle.std.proofs.Common.{◌≡◌, ◌+◌, [], ◌∷◌, ◌++◌, ◌∙◌, ◌<◌, length, take, ap, sym, arith}
use Rattle.std.proofs.lemmas.List.{take_more}
use Rattle.pass_core.specs.laws.Lists.{each_push}
use Rattle.unit_passes.proofs.units.run_functions.Goals as goal

pub functions-preserved : goal.functions-preserved
functions-preserved g c =
    let xs = c.args.functions.now in
    let i = c.functions.function-index in
    let x = c.function-item.result in
    let inside : i < length xs = omega arith in
    let e : take (i + 1) xs ≡ take i xs ++ x ∷ [] = take_more xs i x inside ∙ ap (λ v. take i xs ++ v ∷ []) (sym c.function-item.is) in
    rw (c.in_ok-push.ensures.ok, e) (each_push (g.P.FunctionPass.matches c.args.naming.now) _ _ _ _ c.functions.invariant c.in_ok-run.ensures)
