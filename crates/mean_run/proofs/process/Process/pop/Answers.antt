use Rattle.mean_run.proofs.Frames.{popped_needs, popped_world}
use Rattle.mean_run.proofs.process.Process.pop.Goals as goal

pub invariant_of-self-2 : goal.invariant_of-self-2
invariant_of-self-2 c =
    let p = c.args.self.now in
    record { counted = popped_needs p.needed p.top c.replace-callee.result c.in_ok-caller.caller c.replace-callee.new.dest p.below c.pop.new.self p.counted c.replace-callee.ensures.value c.replace-callee.ensures.after c.in_ok-caller.ensures }

pub returns-clause-world : goal.returns-clause-world
returns-clause-world c =
    let p = c.args.self.now in
    popped_world p.memory p.calls p.top c.replace-callee.result c.in_ok-caller.caller c.replace-callee.new.dest p.below c.pop.new.self c.replace-callee.ensures.value c.replace-callee.ensures.after c.in_ok-caller.ensures
