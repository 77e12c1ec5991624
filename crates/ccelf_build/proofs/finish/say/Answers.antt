use Rattle.std.proofs.Common.{◌∙◌, ap, arith, length, subst, sym}
use Rattle.std.proofs.lemmas.List.{take_all}
use Rattle.cc_base.specs.Outside.{SinkFailed, grown}
use Rattle.ccelf_build.proofs.finish.say.Goals as goal

pub returns-in-Err : goal.returns-in-Err
returns-in-Err g c =
    let line = c.args.line.now in let end = g.R.Sink.seen c.flush.new.self in
    let whole = c.in-Ok.ensures ∙ ap (grown (g.R.Sink.seen c.args.report.now)) (sym (take_all (length line) line (omega arith))) in
    (length line, omega arith, subst (λ s. SinkFailed s end) whole c.in-Err.ensures)
