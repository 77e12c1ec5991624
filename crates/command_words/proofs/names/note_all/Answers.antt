use Rattle.std.proofs.Common.{◌≡◌, ◌++◌, true, false, string_bytes, sym, ◌∙◌}
use Rattle.command_words.specs.Orders.{texts, bytes_of}
use Rattle.command_words.proofs.NameFacts.{next_fits}
use Rattle.command_words.proofs.names.note_all.Goals as goal

pub returns-then-not-branch-clause-fits : goal.returns-then-not-branch-clause-fits
returns-then-not-branch-clause-fits c = (
  (λ t. absurd (cc t)),
  (λ are. let new = c.in_ok-note.ensures.fits.1 (next_fits string_bytes (bytes_of c.args.seen.now.keys ++ texts c.args.names.now) (bytes_of c.loop-name.seen.keys) c.args.names.now
      c.loop-name.name-index c.name-item.result c.as_bytes.result.now c.loop-name-test.true c.name-item.is c.as_bytes.ensures.value c.loop-name.invariant.left are) in
      let clash : true ≡ false = sym new ∙ c.if-not-branch.true in absurd (cc clash)),
)
