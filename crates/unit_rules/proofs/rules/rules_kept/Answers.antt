use Rattle.unit_rules.specs.laws.Rules.{rules_pass_on}
use Rattle.unit_rules.proofs.rules.rules_kept.Goals as goal

pub returns : goal.returns
returns g c = λ from to m kept. rules_pass_on _ _ _ _ _ _ (g.met.P.KeepsNames.same_named from to m) (g.met.P.Lighter.lighter from to m) (λ index. g.met.P.Lighter.holds from to index m) kept
