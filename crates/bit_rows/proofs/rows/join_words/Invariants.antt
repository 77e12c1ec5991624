use Rattle.std.proofs.Common.{◌≡◌, ℕ, ◌<◌, ◌/◌, ◌||◌, ◌&&◌, not, true, false, length}
use Rattle.bit_rows.specs.Words.{bit_in}
use Rattle.bit_rows.proofs.Joins.{Joined, HasNew}
use Rattle.bit_rows.proofs.rows.join_words.Given as goal

-- the words so far are joined, and all else is as it was
abbrev pub invariant-loop-index : goal.invariant-loop-index
invariant-loop-index l =
    record {
      long : length l.words.items ≡ length l.fn.words.items;
      joined : Joined l.fn.words.items l.row_words l.into l.from l.but l.words.items l.index;
      changed : l.changed ≡ true → HasNew l.fn.words.items l.row_words l.into l.words.items;
      unchanged : l.changed ≡ false → l.words.items ≡ l.fn.words.items;
    }
