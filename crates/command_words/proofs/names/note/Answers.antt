use Rattle.std.proofs.Common.{ap}
use Rattle.std.specs.Prelude.{length}
use Rattle.command_words.proofs.NameFacts.{new_fits}
use Rattle.command_words.proofs.names.note.Goals as goal

pub returns-clause-fits : goal.returns-clause-fits
returns-clause-fits c = new_fits c.args.seen.now.keys c.args.name.now c.in_ok-new.new c.requires (λ e. c.if-name-eq0.false (ap length e)) c.in_ok-new.ensures.added
