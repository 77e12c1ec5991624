use Rattle.std.proofs.Common.{◌≡◌, ℕ, List, drop}
use Rattle.std.specs.Option.{option_or}
use Rattle.block_mem.specs.Start.{is_function}
use Rattle.mean_start.specs.Firsts.{found, first_with}
use Rattle.mean_start.specs.Linkages.{function_definition_of}
use Rattle.mean_start.proofs.names.note_function_definitions.Given as goal

abbrev pub invariant-items : goal.invariant-items
invariant-items l = record {
  left : (name : List ℕ) → option_or (found l.firsts name) (first_with (is_function name) (λ i d. tt) l.def-index (drop l.def-index l.unit.face.defs)) ≡ option_or (found l.fn.firsts name) (function_definition_of name 0 l.unit);
}
