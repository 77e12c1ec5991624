use Rattle.std.proofs.Common.{◌≡◌, ◌≢◌, ◌∙◌, ◌%◌, ◌/◌, ◌+◌, ◌*◌, ℕ, get_or, ap, arith}
use Rattle.std.proofs.lemmas.List.{get_or_read}
use Rattle.bit_rows.specs.Words.{is_one}
use Rattle.bit_rows.proofs.Seen.{place_below, start_below, put_there_seen, put_others_seen, put_keeps_seen, put_high}
use Rattle.bit_rows.proofs.rows.BitRows.insert.Goals as goal

pub overflow_mul-index : goal.overflow_mul-index
overflow_mul-index c =
    omega (arith, start_below _ _ _ _ _ c.self.view_is c.self.invariant c.args.row c.requires.row_in_range, c.self.inside.words.ok, c.self.inside.words.small)

pub overflow_add-index : goal.overflow_add-index
overflow_add-index c =
    omega (arith, place_below _ _ _ _ _ c.self.view_is c.self.invariant c.args.row c.args.bit c.requires.row_in_range c.requires.bit_in_range, c.self.inside.words.ok, c.self.inside.words.small)

pub index-requires : goal.index-requires
index-requires c =
    omega (arith, place_below _ _ _ _ _ c.self.view_is c.self.invariant c.args.row c.args.bit c.requires.row_in_range c.requires.bit_in_range, c.self.inside.words.ok)

pub index_mut-requires : goal.index_mut-requires
index_mut-requires c =
    omega (arith, place_below _ _ _ _ _ c.self.view_is c.self.invariant c.args.row c.args.bit c.requires.row_in_range c.requires.bit_in_range, c.self.inside.words.ok)

others : (c : goal.After-self-1) (j : ℕ) → j ≢ c.args.bit % 64 → is_one c.with_one.result j ≡ is_one (get_or c.self.inside.words.items (c.args.row * c.self.inside.row_words + c.args.bit / 64) 0) j
others c j apart =
    c.with_one.ensures.others j apart
    ∙ ap (λ w. is_one w j) (get_or_read _ _ _ (place_below _ _ _ _ _ c.self.view_is c.self.invariant c.args.row c.args.bit c.requires.row_in_range c.requires.bit_in_range) c.index.ensures 0)

pub invariant_of-self : goal.invariant_of-self
invariant_of-self c = put_keeps_seen _ _ _ _ _ c.self.view_is c.self.invariant c.args.row c.args.bit _ c.requires.row_in_range c.requires.bit_in_range c.with_one.ensures.there (others c)

pub returns-else-has-clause-high : goal.returns-else-has-clause-high
returns-else-has-clause-high c = put_high _ _ _ _ _ c.self.view_is c.self.invariant c.args.row c.args.bit _ c.requires.row_in_range c.requires.bit_in_range c.with_one.ensures.there (others c)

pub returns-else-has-clause-set : goal.returns-else-has-clause-set
returns-else-has-clause-set c = put_there_seen _ _ _ _ _ c.self.view_is c.self.invariant c.args.row c.args.bit _ c.requires.row_in_range c.requires.bit_in_range c.with_one.ensures.there (others c)

pub returns-else-has-clause-others : goal.returns-else-has-clause-others
returns-else-has-clause-others c = put_others_seen _ _ _ _ _ c.self.view_is c.self.invariant c.args.row c.args.bit _ c.requires.row_in_range c.requires.bit_in_range c.with_one.ensures.there (others c)
