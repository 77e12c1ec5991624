use Rattle.std.proofs.Common.{string_bytes, sym, ◌∙◌}
use Rattle.command_words.proofs.WordFacts.{two_texts}
use Rattle.command_words.proofs.CommandFacts.{compile_fits, same_unfit}
use Rattle.command_words.proofs.words.read_compile.Goals as goal

pub returns-then-eq-clause-only : goal.returns-then-eq-clause-only
returns-then-eq-clause-only c unit object fits =
    let words = two_texts string_bytes c.args.words.now c.unit-item.result c.object-item.result c.as_str-unit.result.now c.as_str-object.result.now c.in-len2.len_at_least c.in-len2.len_below c.unit-item.is c.object-item.is
    c.as_str-unit.ensures.value c.as_str-object.ensures.value in
    absurd (same_unfit _ c.as_str-unit.result.now c.as_str-object.result.now unit object words (sym c.eq.ensures ∙ c.if-eq.true) fits)

pub returns-clause-some : goal.returns-clause-some
returns-clause-some c =
    let words = two_texts string_bytes c.args.words.now c.unit-item.result c.object-item.result c.as_str-unit.result.now c.as_str-object.result.now c.in-len2.len_at_least c.in-len2.len_below c.unit-item.is c.object-item.is
    c.as_str-unit.ensures.value c.as_str-object.ensures.value in
    compile_fits _ c.as_str-unit.result.now c.as_str-object.result.now words (c.is_unit.ensures.0 c.if-not-is_unit.false) c.if-object-eq0.false (sym c.eq.ensures ∙ c.if-eq.false)
