use Rattle.std.proofs.Common.{◌≡◌, ℕ, List, drop}
use Rattle.std.specs.Option.{option_or}
use Rattle.cc_base.specs.Faces.{has_name, size_of_object}
use Rattle.mean_start.specs.Firsts.{found, first_with}
use Rattle.mean_start.specs.Linkages.{definition_of}
use Rattle.mean_start.proofs.names.note_definitions.Given as goal

abbrev pub invariant-items : goal.invariant-items
invariant-items l = record {
  left : (name : List ℕ) → option_or (found l.firsts name) (first_with (has_name name) (λ i d. size_of_object d) l.def-index (drop l.def-index l.unit.face.defs)) ≡ option_or (found l.fn.firsts name) (definition_of name 0 l.unit);
}
