use Rattle.std.proofs.Common.{◌≡◌, map, take}
use Rattle.cc_base.specs.declared.face.SymbolName.{SymbolName}
use Rattle.clight_sem.specs.Functions.{all_parts, object_meant}
use Rattle.mean_start.proofs.objects.objects_of.Given as goal

abbrev pub invariant-symbols : goal.invariant-symbols
invariant-symbols l = l.objects ≡ map (λ (s : SymbolName). object_meant (all_parts l.linkage.units.now) l.own.number l.own.unit.now s.name) (take l.symbol-index l.own.unit.now.symbol_names)
