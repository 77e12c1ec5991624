use Rattle.std.proofs.Common.{◌∙◌, ◌%◌, ap, arith}
use Rattle.std.proofs.lemmas.List.{get_or_read}
use Rattle.bit_rows.specs.Words.{is_one}
use Rattle.bit_rows.proofs.Seen.{place_below, start_below, bit_seen}
use Rattle.bit_rows.proofs.rows.BitRows.has.Goals as goal

pub overflow_mul-row : goal.overflow_mul-row
overflow_mul-row c =
    omega (arith, start_below _ _ _ _ _ c.self.view_is c.self.invariant c.args.row c.requires.row_in_range, c.self.inside.words.ok, c.self.inside.words.small)

pub overflow_add-row : goal.overflow_add-row
overflow_add-row c =
    omega (arith, place_below _ _ _ _ _ c.self.view_is c.self.invariant c.args.row c.args.bit c.requires.row_in_range c.requires.bit_in_range, c.self.inside.words.ok, c.self.inside.words.small)

pub index-requires : goal.index-requires
index-requires c =
    omega (arith, place_below _ _ _ _ _ c.self.view_is c.self.invariant c.args.row c.args.bit c.requires.row_in_range c.requires.bit_in_range, c.self.inside.words.ok)

pub returns : goal.returns
returns c =
    c.is_one.ensures
    ∙ ap (λ w. is_one w (c.args.bit % 64)) (get_or_read _ _ _ (place_below _ _ _ _ _ c.self.view_is c.self.invariant c.args.row c.args.bit c.requires.row_in_range c.requires.bit_in_range) c.index.ensures 0)
    ∙ bit_seen _ _ _ _ _ c.self.view_is c.self.invariant c.args.row c.args.bit c.requires.row_in_range c.requires.bit_in_range
