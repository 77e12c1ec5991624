use Rattle.std.proofs.Common.{◌≡◌, ℕ, List, drop}
use Rattle.std.specs.Option.{option_or}
use Rattle.clight_sem.specs.Functions.{is_shown}
use Rattle.unit_names.specs.declared.meaning.Meaning.TheVariants.{Function as FunctionOf}
use Rattle.mean_start.specs.Firsts.{found, first_with}
use Rattle.mean_start.specs.Linkages.{shown_of}
use Rattle.mean_start.proofs.names.note_shown.Given as goal

abbrev pub invariant-items : goal.invariant-items
invariant-items l = record {
  index : l.index ≡ l.function-index;
  left : (name : List ℕ) → option_or (found l.firsts name) (first_with (is_shown l.unit name) (λ i f. FunctionOf l.number i) l.function-index (drop l.function-index l.unit.functions)) ≡ option_or (found l.fn.firsts name) (shown_of name l.number l.unit);
}
