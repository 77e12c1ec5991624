use Rattle.std.proofs.Common.{◌≡◌, ◌++◌, take}
use Rattle.std.specs.List.{flat_map}
use Rattle.typing_symbols.specs.Sights.{expr_sights}
use Rattle.typing_symbols.proofs.statements.see_arguments.Given as goal

abbrev pub invariant-arguments : goal.invariant-arguments
invariant-arguments l = l.out ≡ l.initial.out ++ flat_map (expr_sights l.hidden) (take l.argument-index l.arguments)
