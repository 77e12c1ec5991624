use Rattle.std.proofs.Common.{◌≡◌, ℕ, ◌+◌, ◌++◌}
use Rattle.text_print.specs.Canonical.{star_tokens}
use Rattle.text_print.proofs.types.put_stars.Given as goal

abbrev pub invariant-stars : goal.invariant-stars
invariant-stars l = (n : ℕ) → l.done + n ≡ l.count → l.out ++ star_tokens n ≡ l.fn.out ++ star_tokens l.count
