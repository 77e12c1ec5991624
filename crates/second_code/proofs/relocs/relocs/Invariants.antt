use Rattle.std.proofs.Common.{◌≡◌, ◌++◌, map, drop}
use Rattle.second_code.specs.Parts.{reloc_of}
use Rattle.second_code.specs.PartSteps.{bytes_of, use_of}
use Rattle.second_code.proofs.relocs.relocs.Given as goal

abbrev pub invariant-loop-call : goal.invariant-loop-call
invariant-loop-call l = l.relocs ++ map (reloc_of (bytes_of l.names)) (map use_of (drop l.call-index l.calls)) ≡ map (reloc_of (bytes_of l.names)) (map use_of l.calls)
