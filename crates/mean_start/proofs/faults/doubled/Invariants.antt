use Rattle.std.proofs.Common.{◌≡◌, ℕ, List, take, drop}
use Rattle.std.specs.Prelude.{◌||◌}
use Rattle.cc_base.specs.Faces.{first_answer, is_defined}
use Rattle.mean_start.specs.FaultsAt.{knows, doubled_at, doubled_after}
use Rattle.mean_start.proofs.faults.doubled.Given as goal

abbrev pub invariant-defs : goal.invariant-defs
invariant-defs l = record {
  index : l.index ≡ l.def-index;
  known : (name : List ℕ) → knows l.known name ≡ (knows l.fn.known name || is_defined (take l.def-index l.defs) name);
  left : first_answer (doubled_at (knows l.fn.known) l.number l.defs) l.def-index (drop l.def-index l.defs) ≡ doubled_after (knows l.fn.known) l.number l.defs;
}
