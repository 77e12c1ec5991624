-- Programs whose names are linked: how they stand after so many turns, and what the crates below call their ends.
use Rattle.std.specs.Prelude.{ℕ, List}
use Rattle.cc_base.specs.Runs.{State}
use Rattle.cc_base.specs.declared.face.SourceFault.{SourceFault}
use Rattle.cc_base.specs.declared.face.SourceFault.TheVariants as source
use Rattle.pass_core.specs.Semantics.{run_of}
use Rattle.clight_sem.specs.Functions.{Linked}
use Rattle.clight_sem.specs.Turns.{begun, source as source_of}
use Rattle.mean_run.specs.declared.process.Final.{Final}
use Rattle.mean_run.specs.declared.running.MeanEnd.{MeanEnd}
use Rattle.mean_run.specs.declared.running.RunFault.{RunFault}
use Rattle.mean_run.specs.declared.running.RunFault.TheVariants as run
use Rattle.mean_run.specs.Running.{end_of}
use Rattle.mean_source.specs.declared.meaning.MeanFault.{MeanFault}
use Rattle.mean_source.specs.declared.meaning.MeanFault.TheVariants as fault

-- how a linked program stands on an input, after so many turns
abbrev pub program_after : Linked → List ℕ → ℕ → State
program_after p input n = run_of (source_of p) (begun p input) n

-- the fault of the names
abbrev pub fault_of_names : SourceFault → MeanFault
fault_of_names (source.Doubled unit index) = fault.Doubled unit index
fault_of_names (source.Unresolved unit index) = fault.Unresolved unit index
fault_of_names (source.Sized unit index stated defined) = fault.Sized unit index stated defined

-- the fault of a run
abbrev pub fault_of_run : RunFault → MeanFault
fault_of_run run.Read = fault.Read
fault_of_run run.Write = fault.Write
fault_of_run run.Memory = fault.Memory

-- the end of a run that is over before its first turn
abbrev pub end_at_once : Final → MeanEnd
end_at_once how = end_of how 0
