use Rattle.std.proofs.Common.{add-one}
use Rattle.i386_machine.specs.laws.Runs.{shapes-Path, shapes-Runs}
use Rattle.i386_machine.proofs.GoesOn.{begins, goes_on, ends}
use Rattle.i386_machine.proofs.running.run.Goals as goal

pub returns-in-Err-clause-runs : goal.returns-in-Err-clause-runs
returns-in-Err-clause-runs g c = ends _ _ _ _ _ _ _ _ _ _ _ _ c.loop-count-test.true c.loop-count.invariant c.in-Err.ensures

pub returns-in-Err-clause-shape : goal.returns-in-Err-clause-shape
returns-in-Err-clause-shape g c = shapes-Runs _ _ _ _ _ _ _ _ (ends _ _ _ _ _ _ _ _ _ _ _ _ c.loop-count-test.true c.loop-count.invariant c.in-Err.ensures)

pub returns-clause-shape : goal.returns-clause-shape
returns-clause-shape g c = shapes-Path _ _ _ _ c.loop-count.invariant.path

pub loop-count-init : goal.loop-count-init
loop-count-init g c = begins _ _ _

pub loop-count-preserved : goal.loop-count-preserved
loop-count-preserved g c = rw add-one (goes_on _ _ _ _ _ _ _ _ _ _ c.loop-count.invariant c.in_default.ensures)
