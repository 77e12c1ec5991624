use Rattle.std.proofs.Common.{◌≡◌, ℕ, List, drop}
use Rattle.std.specs.Option.{option_or}
use Rattle.block_mem.specs.Start.{is_shared}
use Rattle.block_mem.specs.declared.value.BlockName.TheVariants.{Global}
use Rattle.mean_start.specs.Firsts.{found, first_with}
use Rattle.mean_start.specs.Linkages.{shared_of}
use Rattle.mean_start.proofs.names.note_shared.Given as goal

abbrev pub invariant-items : goal.invariant-items
invariant-items l = record {
  index : l.index ≡ l.global-index;
  left : (name : List ℕ) → option_or (found l.firsts name) (first_with (is_shared name) (λ i g. Global l.number i) l.global-index (drop l.global-index l.unit.globals)) ≡ option_or (found l.fn.firsts name) (shared_of name l.number l.unit);
}
