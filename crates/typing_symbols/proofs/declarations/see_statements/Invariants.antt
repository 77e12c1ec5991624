use Rattle.std.proofs.Common.{◌≡◌, ◌++◌, take}
use Rattle.std.specs.List.{flat_map}
use Rattle.typing_symbols.specs.Sights.{stmt_sights}
use Rattle.typing_symbols.proofs.declarations.see_statements.Given as goal

abbrev pub invariant-body : goal.invariant-body
invariant-body l = l.out ≡ l.initial.out ++ flat_map (stmt_sights l.hidden) (take l.statement-index l.body)
