use Rattle.std.proofs.Common.{◌≡◌, ◌≤◌, ◌*◌, ◌^◌, ◌∙◌, ℕ, List, false, replicate, sym, ap, subst, arith}
use Rattle.bit_rows.specs.Rows.{has}
use Rattle.bit_rows.specs.Words.{Keeps}
use Rattle.bit_rows.proofs.Kept.{view, length-rows_in, new_keeps, new_clear}
use Rattle.bit_rows.proofs.rows.BitRows.new.Goals as goal

pub returns-clause-high : goal.returns-clause-high
returns-clause-high c = length-rows_in _ _ _ c.args.rows

wide : (c : goal.In_ok-words) → c.args.width ≤ c.div_ceil-row_words.result * 64
wide c = omega (arith, c.div_ceil-row_words.ensures)

few : (c : goal.In_ok-words) → c.div_ceil-row_words.result ≤ 2 ^ 26
few c = omega (arith, c.div_ceil-row_words.ensures, c.requires.small)

pub invariant_of-result : goal.invariant_of-result
invariant_of-result c =
    subst (λ (ws : List ℕ). Keeps ws c.div_ceil-row_words.result c.args.width c.args.rows) (sym (c.in_ok-words.ensures.items_if_clones_equal (λ y e. e)))
    (new_keeps _ _ _ _ c.in-Some.ensures.1 (wide c) c.requires.small (few c))

pub returns-clause-clear : goal.returns-clause-clear
returns-clause-clear c row bit =
    subst (λ (ws : List ℕ). has (view ws c.div_ceil-row_words.result c.args.width c.args.rows) row bit ≡ false) (sym (c.in_ok-words.ensures.items_if_clones_equal (λ y e. e)))
    (new_clear _ _ _ _ c.in-Some.ensures.1 (wide c) row bit)
