use Rattle.std.proofs.Common.{◌≡◌, true, false, string_bytes, sym, refl, ◌∙◌}
use Rattle.command_words.specs.Commands.{IsUnit}
use Rattle.command_words.proofs.NameFacts.{text_at, one_more, all_texts}
use Rattle.command_words.proofs.names.are_units.Goals as goal

pub loop-name-preserved : goal.loop-name-preserved
loop-name-preserved c =
    one_more IsUnit string_bytes c.args.names.now c.loop-name.name-index c.name-item.result c.as_str.result.now c.loop-name-test.true c.name-item.is c.as_str.ensures.value c.loop-name.invariant
    (c.is_unit.ensures.0 c.if-not-is_unit.false)

pub returns-then-not-is_unit : goal.returns-then-not-is_unit
returns-then-not-is_unit c = (
  (λ t. absurd (cc t)),
  (λ all. let is = c.is_unit.ensures.1 (text_at IsUnit string_bytes c.args.names.now c.loop-name.name-index c.name-item.result c.as_str.result.now c.loop-name-test.true c.name-item.is c.as_str.ensures.value all) in
      let clash : true ≡ false = sym is ∙ c.if-not-is_unit.true in absurd (cc clash)),
)

pub returns : goal.returns
returns c = ((λ t. all_texts IsUnit string_bytes c.args.names.now c.loop-name.name-index c.loop-name-test.false c.loop-name.invariant), (λ all. refl))
