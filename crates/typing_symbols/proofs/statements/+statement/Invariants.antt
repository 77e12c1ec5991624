use Rattle.std.proofs.Common.{◌≡◌, ◌++◌, take}
use Rattle.std.specs.List.{flat_map}
use Rattle.typing_symbols.specs.Sights.{stmt_sights, arm_sights}
use Rattle.typing_symbols.proofs.statements.+statement.Given as goal

abbrev pub invariant-see_block-body : goal.invariant-see_block-body
invariant-see_block-body l = l.out ≡ l.initial.out ++ flat_map (stmt_sights l.hidden) (take l.statement-index l.body)

abbrev pub invariant-see_arms-arms : goal.invariant-see_arms-arms
invariant-see_arms-arms l = l.out ≡ l.initial.out ++ flat_map (arm_sights l.hidden) (take l.arm-index l.arms)
