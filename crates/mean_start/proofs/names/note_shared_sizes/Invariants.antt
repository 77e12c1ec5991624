use Rattle.std.proofs.Common.{◌≡◌, ℕ, List, drop}
use Rattle.std.specs.Option.{option_or}
use Rattle.cc_base.specs.Faces.{shares}
use Rattle.mean_start.specs.Firsts.{found, first_with}
use Rattle.mean_start.specs.Linkages.{shared_size_of}
use Rattle.mean_start.proofs.names.note_shared_sizes.Given as goal

abbrev pub invariant-items : goal.invariant-items
invariant-items l = record {
  left : (name : List ℕ) → option_or (found l.firsts name) (first_with (shares name) (λ i w. w.stated) l.wanted-index (drop l.wanted-index l.unit.face.uses)) ≡ option_or (found l.fn.firsts name) (shared_size_of name 0 l.unit);
}
