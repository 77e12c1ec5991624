-- The places of expressions in the text.
use Rattle.std.specs.Prelude.{ℕ}
use Rattle.text_grammar.specs.declared.tree.Expr.{Expr}
use Rattle.text_grammar.specs.declared.tree.Expr.TheOpen.{Expr-F}
use Rattle.text_grammar.specs.declared.tree.Expr.TheFolds.{fold-Expr}

-- the place of an expression is that of its own token
abbrev pub place_step : Expr-F ℕ → ℕ
place_step (Expr-F.Name at name) = at
place_step (Expr-F.Number at value is_unsigned) = at
place_step (Expr-F.Character at byte) = at
place_step (Expr-F.Unary at op x) = at
place_step (Expr-F.Binary at op x y) = at
place_step (Expr-F.Cast at to x) = at
place_step (Expr-F.SizeofType at t) = at
place_step (Expr-F.Sizeof at x) = at
place_step (Expr-F.Index at x i) = at
place_step (Expr-F.Member at x name) = at
place_step (Expr-F.Arrow at x name) = at

abbrev pub text_place : Expr → ℕ
text_place = fold-Expr ℕ place_step
