use Rattle.std.proofs.Common.{◌≡◌, drop}
use Rattle.typing_units.specs.Faces.{with_needs, needs_of}
use Rattle.typing_units.proofs.faces.needs_of.Given as goal

abbrev pub invariant-functions : goal.invariant-functions
invariant-functions l = with_needs l.needs (drop l.function-index l.functions) ≡ needs_of l.symbols l.functions
