use Rattle.std.proofs.Common.{◌∙◌, ◌%◌, ap, arith}
use Rattle.std.proofs.lemmas.List.{get_or_read}
use Rattle.bit_rows.proofs.Seen.{width_is, start_below, word_below, none_in_word, found, found_beyond, none_found}
use Rattle.bit_rows.proofs.rows.BitRows.first_from.Goals as goal

pub overflow_mul-start : goal.overflow_mul-start
overflow_mul-start c =
    omega (arith, start_below _ _ _ _ _ c.self.view_is c.self.invariant c.args.row c.requires.row_in_range, c.self.inside.words.ok, c.self.inside.words.small)

pub overflow_mul-index : goal.overflow_mul-index
overflow_mul-index c = omega (arith, c.self.invariant.few, c.loop-index-test.true)

pub overflow_mul-bit : goal.overflow_mul-bit
overflow_mul-bit c = omega (arith, c.self.invariant.few, c.loop-index-test.true)

pub overflow_add-bit : goal.overflow_add-bit
overflow_add-bit c = omega (arith, c.self.invariant.few, c.loop-index-test.true, c.in-Some.ensures.found)

pub loop-index-init : goal.loop-index-init
loop-index-init c = λ k above before. absurd (omega arith)

pub index-requires : goal.index-requires
index-requires c =
    omega (arith, word_below _ _ _ _ _ c.self.view_is c.self.invariant c.args.row c.loop-index.index c.requires.row_in_range c.loop-index-test.true, c.self.inside.words.ok)

pub overflow_add-start : goal.overflow_add-start
overflow_add-start c =
    omega (arith, word_below _ _ _ _ _ c.self.view_is c.self.invariant c.args.row c.loop-index.index c.requires.row_in_range c.loop-index-test.true, c.self.inside.words.ok, c.self.inside.words.small)

pub returns-clause-first : goal.returns-clause-first
returns-clause-first c = none_found _ _ _ _ _ c.self.view_is c.self.invariant c.args.row c.args.from c.loop-index.index c.loop-index-test.false c.loop-index.invariant

pub loop-index-preserved : goal.loop-index-preserved
loop-index-preserved c =
    none_in_word _ _ _ _ _ c.self.view_is c.self.invariant c.args.row c.args.from c.loop-index.index _ _ c.requires.row_in_range c.loop-index.auto.index c.saturating_sub-first.ensures (get_or_read _ _ _ (word_below _ _ _ _ _ c.self.view_is c.self.invariant c.args.row c.loop-index.index c.requires.row_in_range c.loop-index-test.true) c.index.ensures 0) c.loop-index.invariant c.in_default.ensures.none

pub returns-then-bit-self-clause-first : goal.returns-then-bit-self-clause-first
returns-then-bit-self-clause-first c =
    found _ _ _ _ _ c.self.view_is c.self.invariant c.args.row c.args.from c.loop-index.index _ _ c.requires.row_in_range c.loop-index.auto.index c.saturating_sub-first.ensures (get_or_read _ _ _ (word_below _ _ _ _ _ c.self.view_is c.self.invariant c.args.row c.loop-index.index c.requires.row_in_range c.loop-index-test.true) c.index.ensures 0) c.loop-index.invariant c.in-Some.place c.in-Some.ensures.found.0 c.in-Some.ensures.found.1 c.in-Some.ensures.found.2 c.in-Some.ensures.none_before (omega (arith, c.if-bit-self.true, width_is _ _ _ _ _ c.self.view_is c.self.invariant))

pub returns-else-bit-self-clause-first : goal.returns-else-bit-self-clause-first
returns-else-bit-self-clause-first c =
    found_beyond _ _ _ _ _ c.self.view_is c.self.invariant c.args.row c.args.from c.loop-index.index _ _ c.requires.row_in_range c.loop-index.auto.index c.saturating_sub-first.ensures (get_or_read _ _ _ (word_below _ _ _ _ _ c.self.view_is c.self.invariant c.args.row c.loop-index.index c.requires.row_in_range c.loop-index-test.true) c.index.ensures 0) c.loop-index.invariant c.in-Some.place c.in-Some.ensures.found.0 c.in-Some.ensures.found.1 c.in-Some.ensures.found.2 c.in-Some.ensures.none_before (omega (arith, c.if-bit-self.false, width_is _ _ _ _ _ c.self.view_is c.self.invariant))
