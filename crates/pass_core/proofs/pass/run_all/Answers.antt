use Rattle.std.proofs.Common.{◌≡◌, ◌+◌, [], ◌∷◌, ◌++◌, ◌∙◌, ◌<◌, length, take, ap, sym, arith}
use Rattle.std.proofs.lemmas.List.{take_more}
use Rattle.pass_core.specs.laws.Lists.{each_push}
use Rattle.pass_core.proofs.pass.run_all.Goals as goal

pub loop-unit-preserved : goal.loop-unit-preserved
loop-unit-preserved g c =
    let xs = c.args.units.now in
    let i = c.loop-unit.unit-index in
    let x = c.unit-item.result in
    let inside : i < length xs = omega arith in
    let e : take (i + 1) xs ≡ take i xs ++ x ∷ [] = take_more xs i x inside ∙ ap (λ v. take i xs ++ v ∷ []) (sym c.unit-item.is) in
    rw (c.in_ok-push.ensures.items, e) (each_push g.P.Pass.matches _ _ _ _ c.loop-unit.invariant c.in_ok-run.ensures)
