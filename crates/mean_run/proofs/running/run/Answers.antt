use Rattle.std.proofs.Common.{◌+◌, Option, Ok, sym, subst, arith}
use Rattle.clight_sem.specs.States.{Going}
use Rattle.mean_run.specs.declared.process.Final.{Final}
use Rattle.mean_run.specs.declared.running.MeanEnd.{MeanEnd}
use Rattle.mean_run.specs.Processes.{linked_of, world_of, outcome_of}
use Rattle.mean_run.specs.Running.{Steps, Runs}
use Rattle.mean_run.proofs.Going.{ran_on, runs_before, over_at, ended_at, cut_off}
use Rattle.mean_run.proofs.running.run.Goals as goal

pub returns-in-Err : goal.returns-in-Err
returns-in-Err g c =
    let p = linked_of c.args.program.now in
    let s = world_of c.args.process.now in
    let w = world_of c.loop-count.process in
    let w' = world_of c.step.new.process in
    let i = g.S.Source.seen c.args.input.now in
    let o = g.O.Sink.seen c.args.output.now in
    let i' = g.S.Source.seen c.loop-count.input in
    let o' = g.O.Sink.seen c.loop-count.output in
    let i'' = g.S.Source.seen c.step.new.input in
    let o'' = g.O.Sink.seen c.step.new.output in
    cut_off p c.args.turns c.loop-count.count s w w' i o i' o' c.in-Err.fault i'' o'' c.loop-count-test.true c.loop-count.invariant.ran c.in-Err.ensures.turn

pub returns-in-Ok-Some : goal.returns-in-Ok-Some
returns-in-Ok-Some g c =
    let p = linked_of c.args.program.now in
    let s = world_of c.args.process.now in
    let w = world_of c.loop-count.process in
    let w' = world_of c.step.new.process in
    let i = g.S.Source.seen c.args.input.now in
    let o = g.O.Sink.seen c.args.output.now in
    let i' = g.S.Source.seen c.loop-count.input in
    let o' = g.O.Sink.seen c.loop-count.output in
    let i'' = g.S.Source.seen c.step.new.input in
    let o'' = g.O.Sink.seen c.step.new.output in
    let n = c.loop-count.count in
    let how = c.in-Ok-Some.how in
    let t = subst (λ (x : Option Final). Steps p w i' o' (Ok x) w' i'' o'') c.in-Ok-Some.field-0-is c.in-Ok-Some.ensures.turn in
    subst (λ (e : MeanEnd). Runs p c.args.turns s i o (Ok e) w' i'' o'') (sym c.end.ensures)
    (ended_at p c.args.turns (n + 1) s w' i o how i'' o''
    (over_at p c.args.turns n s w i o i' o' (outcome_of how) i'' o'' c.loop-count-test.true c.loop-count.invariant.first c.loop-count.invariant.ran t))

pub loop-count-preserved : goal.loop-count-preserved
loop-count-preserved g c =
    let p = linked_of c.args.program.now in
    let s = world_of c.args.process.now in
    let w = world_of c.loop-count.process in
    let w' = world_of c.step.new.process in
    let i = g.S.Source.seen c.args.input.now in
    let o = g.O.Sink.seen c.args.output.now in
    let i' = g.S.Source.seen c.loop-count.input in
    let o' = g.O.Sink.seen c.loop-count.output in
    let i'' = g.S.Source.seen c.step.new.input in
    let o'' = g.O.Sink.seen c.step.new.output in
    let n = c.loop-count.count in
    let t = subst (λ (x : Option Final). Steps p w i' o' (Ok x) w' i'' o'') c.in-Ok-None.field-0-is c.in-Ok-None.ensures.turn in
    record {
      calls = omega arith;
      ran = ran_on p s n i o w i' o' (Going w') i'' o'' c.loop-count.invariant.ran t;
      first = runs_before p s n i o w i' o' c.loop-count.invariant.first c.loop-count.invariant.ran;
    }
