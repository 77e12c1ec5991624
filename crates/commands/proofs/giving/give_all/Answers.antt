use Rattle.std.proofs.Common.{sym, ap, ◌∙◌}
use Rattle.std.proofs.lemmas.List.{take_more}
use Rattle.cc_base.specs.Outside.{grown}
use Rattle.commands.proofs.Growing.{grown_more}
use Rattle.commands.proofs.giving.give_all.Goals as goal

pub loop-byte-preserved : goal.loop-byte-preserved
loop-byte-preserved g c =
    grown_more (g.O.Sink.seen c.args.sink.now) (g.O.Sink.seen c.loop-byte.sink) (g.O.Sink.seen c.give.new.self) _ _ c.loop-byte.invariant c.in_ok-give.ensures
    ∙ ap (grown (g.O.Sink.seen c.args.sink.now)) (sym (take_more c.args.bytes.now c.loop-byte.byte-index 0 c.loop-byte-test.true))
