use Rattle.std.proofs.Common.{◌≡◌, ◌++◌, true, false, sym, ◌∙◌}
use Rattle.command_words.specs.Orders.{texts}
use Rattle.command_words.proofs.NameFacts.{first_fits, second_fit}
use Rattle.command_words.proofs.names.are_names.Goals as goal

pub returns-then-not-branch : goal.returns-then-not-branch
returns-then-not-branch c = (
  (λ t. absurd (cc t)),
  (λ are.
      let new = c.in_ok-note.ensures.fits.1 (first_fits c.new-seen.result.keys c.as_bytes.result.now c.args.image.now (texts c.args.names.now ++ texts c.args.more.now) c.new-seen.ensures.empty c.as_bytes.ensures.value are) in
      let clash : true ≡ false = sym new ∙ c.if-not-branch.true in absurd (cc clash)),
)

pub returns-then-not-branch-2 : goal.returns-then-not-branch-2
returns-then-not-branch-2 c = (
  (λ t. absurd (cc t)),
  (λ are.
      let new = c.in_ok-note_all.ensures.fits.1 (second_fit c.new-seen.result.keys c.note.new.seen.keys c.as_bytes.result.now c.args.image.now (texts c.args.names.now) (texts c.args.more.now) c.in_ok-note.field-0
      c.new-seen.ensures.empty c.as_bytes.ensures.value c.if-not-branch.false c.in_ok-note.ensures.noted are) in
      let clash : true ≡ false = sym new ∙ c.if-not-branch-2.true in absurd (cc clash)),
)
