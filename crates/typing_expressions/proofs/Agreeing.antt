-- An expression that breaks no rule has a type, and one that breaks a rule has none.
use Rattle.std.proofs.Common.{◌≡◌, true, List, [], ◌∷◌, ◌++◌, Option, Some, None, refl, sym, subst}
use Rattle.std.proofs.lemmas.Bool.{false≢true}
use Rattle.typing_faults.specs.declared.fault.Row.{Row}
use Rattle.text_grammar.specs.declared.tree.Expr.{Expr}
use Rattle.text_grammar.specs.declared.tree.Expr.TheOpen.{Expr-F}
use Rattle.text_grammar.specs.declared.tree.Expr.TheFolds.{map-Expr, fold-roll-Expr, ind-Expr}
use Rattle.typing_scopes.specs.Visible.{Visible}
use Rattle.typing_scopes.specs.Names.{entity_of}
use Rattle.typing_expressions.specs.declared.node.Node.{Node}
use Rattle.typing_expressions.specs.declared.judgement.Judgement.{Judgement}
use Rattle.typing_expressions.specs.declared.judgement.Judgement.TheVariants as rule
use Rattle.typing_expressions.specs.Judgements.{of_part, of_parts, node_in, broken_in, agrees}
use Rattle.typing_expressions.specs.Access.{named, number, character, index, member, arrow}
use Rattle.typing_expressions.specs.Operations.{unary, binary}
use Rattle.typing_expressions.specs.Conversions.{cast, sizeof_type, sizeof}
use Rattle.typing_expressions.specs.Expressions.{Finding, expr_step, finding}

leaf : (j : Judgement) → agrees (broken_in (Some j)) (node_in (Some j)) ≡ true
leaf (rule.Kept n) = refl
leaf (rule.Broken r) = refl

part : (rs : List Row) (n : Option Node) (f : Node → Judgement) → agrees rs n ≡ true → agrees (rs ++ broken_in (of_part f n)) (node_in (of_part f n)) ≡ true
part [] None f h = absurd (false≢true h)
part (r ∷ rs) None f h = refl
part [] (Some n) f h = leaf (f n)
part (r ∷ rs) (Some n) f h = absurd (false≢true h)

parts : (rs ss : List Row) (n m : Option Node) (f : Node → Node → Judgement) → agrees rs n ≡ true → agrees ss m ≡ true → agrees ((rs ++ ss) ++ broken_in (of_parts f n m)) (node_in (of_parts f n m)) ≡ true
parts [] ss None m f h e = absurd (false≢true h)
parts (r ∷ rs) ss None m f h e = refl
parts [] ss (Some n) m f h e = part ss m (f n) e
parts (r ∷ rs) ss (Some n) m f h e = absurd (false≢true h)

abbrev Whole : Finding → Type 0
Whole f = agrees f.rows f.node ≡ true

step : (scope : Visible) (y : Expr-F ((e : Expr) × Whole (finding scope e))) → Whole (expr_step scope (map-Expr Expr Finding (finding scope) (map-Expr ((e : Expr) × Whole (finding scope e)) Expr (λ (e : (e : Expr) × Whole (finding scope e)). e.0) y)))
step scope (Expr-F.Name at name) = leaf (named at (entity_of scope name))
step scope (Expr-F.Number at value is_unsigned) = leaf (number value is_unsigned)
step scope (Expr-F.Character at byte) = leaf (character byte)
step scope (Expr-F.Unary at op x) = part (finding scope x.0).rows (finding scope x.0).node (unary at op) x.1
step scope (Expr-F.Binary at op x y) = parts (finding scope x.0).rows (finding scope y.0).rows (finding scope x.0).node (finding scope y.0).node (binary scope.layouts at op) x.1 y.1
step scope (Expr-F.Cast at to x) = part (finding scope x.0).rows (finding scope x.0).node (cast scope at to) x.1
step scope (Expr-F.SizeofType at t) = leaf (sizeof_type scope at t)
step scope (Expr-F.Sizeof at x) = part (finding scope x.0).rows (finding scope x.0).node (sizeof scope at) x.1
step scope (Expr-F.Index at x i) = parts (finding scope x.0).rows (finding scope i.0).rows (finding scope x.0).node (finding scope i.0).node (index scope.layouts at) x.1 i.1
step scope (Expr-F.Member at x name) = part (finding scope x.0).rows (finding scope x.0).node (member scope at name) x.1
step scope (Expr-F.Arrow at x name) = part (finding scope x.0).rows (finding scope x.0).node (arrow scope at name) x.1

pub whole : (scope : Visible) (e : Expr) → Whole (finding scope e)
whole scope = ind-Expr (λ e. Whole (finding scope e)) (λ x y is.
    subst Whole (sym (fold-roll-Expr Finding (expr_step scope) x))
    (subst (λ z. Whole (expr_step scope (map-Expr Expr Finding (finding scope) z))) is (step scope y)))
