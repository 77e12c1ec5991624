-- Lists of arguments and statements, as far as they are laid.
use Rattle.std.specs.Prelude.{◌≡◌, ℕ, ◌+◌, ◌-◌, ◌<◌, ◌≤◌, List, [], ◌∷◌, length, drop, map, get_or, reverse, ◌++◌}
use Rattle.std.proofs.Common.{zero, suc, ap, refl, sym, ◌∙◌, arith}
use Rattle.std.proofs.lemmas.List.{drop_more, reverse-append}
use Rattle.core_lang.specs.declared.syntax.Expression.{Expression}
use Rattle.core_lang.specs.declared.syntax.Statement.{Statement}
use Rattle.core_lang.specs.declared.syntax.Statement.TheFolds.{fold-roll-Statement}
use Rattle.core_lang.specs.declared.syntax.Statement.TheOpen.{Statement-F}
use Rattle.core_lang.specs.declared.syntax.Statement.TheVariants as statement
use Rattle.rtl_gen.specs.Trees.{Tree, Code, Skip, Then, Block, tree, chain, code_step, code, body_code}
use Rattle.rtl_gen.specs.Translation.{Laid, lay_operand, lay_operands}

-- the arguments from a place on
unfoldable pub others : List Expression → ℕ → List Tree
others xs i = map tree (drop i xs)

pub others_whole : (xs : List Expression) → others xs 0 ≡ map tree xs
unfolding others
others_whole xs = refl

pub others_none : (xs : List Expression) → others xs (length xs) ≡ []
unfolding others
others_none [] = refl
others_none (x ∷ xs) = others_none xs

pub others_more : (xs : List Expression) (left : ℕ) (x : Expression) → x ≡ get_or xs (left - 1) x → 0 < left → left ≤ length xs → others xs (left - 1) ≡ tree x ∷ others xs left
unfolding others
others_more xs left x is some inside =
    let back : left - 1 + 1 ≡ left = omega (arith, some) in
    ap (map tree) (drop_more xs (left - 1) x (omega (arith, some, inside)))
    ∙ ap (λ k. tree (get_or xs (left - 1) x) ∷ map tree (drop k xs)) back
    ∙ ap (λ y. tree y ∷ map tree (drop left xs)) (sym is)

pub laid_more : (r : Laid) (xs : List Expression) (left k : ℕ) (x : Expression) → x ≡ get_or xs (left - 1) x → 0 < left → left ≤ length xs → lay_operand (lay_operands r (others xs left) (k + left)) (tree x) (k + (left - 1)) ≡ lay_operands r (others xs (left - 1)) (k + (left - 1))
laid_more r xs left k x is some inside =
    let same : k + left ≡ suc (k + (left - 1)) = omega (arith, some) in
    ap (λ j. lay_operand (lay_operands r (others xs left) j) (tree x) (k + (left - 1))) same
    ∙ ap (λ ys. lay_operands r ys (k + (left - 1))) (sym (others_more xs left x is some inside))

-- the statements from a place on
unfoldable pub rest : List Statement → ℕ → Code
rest ss i = chain (map code (drop i ss))

pub rest_whole : (ss : List Statement) → rest ss 0 ≡ body_code ss
unfolding rest
rest_whole ss = refl

pub rest_more : (ss : List Statement) (i : ℕ) (d : Statement) → i < length ss → rest ss i ≡ Then (code (get_or ss i d)) (rest ss (i + 1))
unfolding rest
rest_more ss i d h = ap (λ xs. chain (map code xs)) (drop_more ss i d h)

pub rest_none : (ss : List Statement) → rest ss (length ss) ≡ Skip
unfolding rest
rest_none [] = refl
rest_none (s ∷ ss) = rest_none ss

pub code_block : (ss : List Statement) → code (statement.Block ss) ≡ Block (body_code ss)
code_block ss = ap code (sym (statement.rolls-Block ss)) ∙ fold-roll-Statement Code code_step (Statement-F.Block ss)

-- the exits inside a block
pub inner : (es : List ℕ) (q : ℕ) → reverse (es ++ q ∷ []) ≡ q ∷ reverse es
inner es q = reverse-append es (q ∷ [])
