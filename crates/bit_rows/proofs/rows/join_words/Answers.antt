use Rattle.std.proofs.Common.{◌≡◌, ◌∙◌, ◌<◌, ◌+◌, ◌*◌, ◌&&◌, not, ℕ, length, get_or, ap, arith}
use Rattle.std.proofs.lemmas.List.{get_or_read}
use Rattle.bit_rows.specs.Rows.{is_left_out}
use Rattle.bit_rows.specs.Words.{is_one}
use Rattle.bit_rows.proofs.Joins.{joined_more, new_kept, new_here, or_new, or_still}
use Rattle.bit_rows.proofs.rows.join_words.Goals as goal

within : (c : goal.After-put_ones-put) → c.args.from * c.args.row_words + c.loop-index.index < length c.loop-index.words.items
within c = omega (arith, c.requires.from_in_range, c.loop-index.invariant.long, c.loop-index-test.true)

ones_are : (c : goal.After-put_ones-put) (place : ℕ) → place < 64 → is_one c.left_of-ones.result place ≡ (is_one (get_or c.loop-index.words.items (c.args.from * c.args.row_words + c.loop-index.index) 0) place && not (is_left_out c.args.but (c.loop-index.index * 64 + place)))
ones_are c place below =
    c.left_of-ones.ensures place below
    ∙ ap (λ w. is_one w place && not (is_left_out c.args.but (c.loop-index.index * 64 + place))) (get_or_read _ _ _ (within c) c.index.ensures 0)

pub loop-index-preserved : goal.loop-index-preserved
loop-index-preserved c =
    let put = c.put_ones-put.ensures in
    let joined = c.loop-index.invariant.joined in
    record {
      long = put.long ∙ c.loop-index.invariant.long;
      joined = joined_more _ _ _ _ _ _ _ _ _ c.loop-index-test.true joined (ones_are c) put.there put.others;
      changed = or_new _ _
          (λ e. new_kept _ _ _ _ _ _ _ _ _ c.loop-index-test.true joined (ones_are c) put.there put.others (c.loop-index.invariant.changed e))
          (λ e. let new = put.changed e in new_here _ _ _ _ _ _ _ _ _ c.loop-index-test.true joined (ones_are c) put.there put.others new.0 new.1 new.2 new.3);
      unchanged = or_still _ _ (λ e e'. put.unchanged e' ∙ c.loop-index.invariant.unchanged e);
    }
