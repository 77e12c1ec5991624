use Rattle.std.proofs.Common.{◌≡◌, ◌++◌, drop}
use Rattle.clight_sem.specs.Functions.{all_parts, meant_as_callee, callees_from, callees_of}
use Rattle.mean_start.proofs.callees.callees_of.Given as goal

abbrev pub invariant-loop-symbol : goal.invariant-loop-symbol
invariant-loop-symbol l = l.callees ++ callees_from (meant_as_callee l.linkage.units.now (all_parts l.linkage.units.now) l.own.number l.own.unit.now) l.linkage.units.now (drop l.symbol l.symbols) (drop l.symbol l.declared) ≡ callees_of l.linkage.units.now (all_parts l.linkage.units.now) l.own.number l.own.unit.now
