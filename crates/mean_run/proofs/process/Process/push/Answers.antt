use Rattle.mean_run.proofs.Frames.{pushed_needs, pushed_world}
use Rattle.mean_run.proofs.process.Process.push.Goals as goal

pub invariant_of-self-2 : goal.invariant_of-self-2
invariant_of-self-2 c =
    let p = c.args.self.now in
    record { counted = pushed_needs p.needed p.top c.args.frame c.replace-caller.result c.replace-caller.new.dest p.below c.push.new.self p.counted c.replace-caller.ensures.value c.replace-caller.ensures.after c.in_ok-push.ensures.ok }

pub returns-clause-world : goal.returns-clause-world
returns-clause-world c =
    let p = c.args.self.now in
    pushed_world p.memory p.calls p.top c.args.frame c.replace-caller.result c.replace-caller.new.dest p.below c.push.new.self c.replace-caller.ensures.value c.replace-caller.ensures.after c.in_ok-push.ensures.ok
