use Rattle.std.proofs.Common.{◌≡◌, ◌++◌, drop}
use Rattle.typing_symbols.specs.Sights.{hidden_by_locals, locals_sights}
use Rattle.typing_symbols.proofs.declarations.see_locals.Given as goal

-- those that are left hide on from here, and are seen behind what was seen
abbrev pub invariant-locals : goal.invariant-locals
invariant-locals l = record {
  hidden : hidden_by_locals l.hidden (drop l.list-index l.locals) ≡ hidden_by_locals l.initial.hidden l.locals;
  sights : l.out ++ locals_sights l.hidden (drop l.list-index l.locals) ≡ l.initial.out ++ locals_sights l.initial.hidden l.locals;
}
