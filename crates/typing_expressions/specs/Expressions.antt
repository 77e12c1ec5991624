-- The types of expressions: for each expression of the tree, under what names mean at its place, the rows that it breaks and the
-- node that it is. A row of a part is a row of the whole.
use Rattle.std.specs.Prelude.{List, [], ◌++◌, Option, Some}
use Rattle.typing_faults.specs.declared.fault.Row.{Row}
use Rattle.text_grammar.specs.declared.tree.Expr.{Expr}
use Rattle.text_grammar.specs.declared.tree.Expr.TheOpen.{Expr-F}
use Rattle.text_grammar.specs.declared.tree.Expr.TheFolds.{fold-Expr}
use Rattle.typing_scopes.specs.Visible.{Visible}
use Rattle.typing_scopes.specs.Names.{entity_of}
use Rattle.typing_expressions.specs.declared.node.Node.{Node}
use Rattle.typing_expressions.specs.declared.judgement.Judgement.{Judgement}
use Rattle.typing_expressions.specs.Judgements.{of_part, of_parts, node_in, broken_in}
use Rattle.typing_expressions.specs.Access.{named, number, character, index, member, arrow}
use Rattle.typing_expressions.specs.Operations.{unary, binary}
use Rattle.typing_expressions.specs.Conversions.{cast, sizeof_type, sizeof}

-- what is found at an expression: the rows that it and its parts break, and the node, where it breaks none
pub record Finding : Type 0 where
  pub rows : List Row
  pub node : Option Node

-- the rows of the parts, and what the rule at the node says
abbrev pub found : List Row → Option Judgement → Finding
found rows j = record { rows = rows ++ broken_in j; node = node_in j }

abbrev pub expr_step : Visible → Expr-F Finding → Finding
expr_step scope (Expr-F.Name at name) = found [] (Some (named at (entity_of scope name)))
expr_step scope (Expr-F.Number at value is_unsigned) = found [] (Some (number value is_unsigned))
expr_step scope (Expr-F.Character at byte) = found [] (Some (character byte))
expr_step scope (Expr-F.Unary at op x) = found x.rows (of_part (unary at op) x.node)
expr_step scope (Expr-F.Binary at op x y) = found (x.rows ++ y.rows) (of_parts (binary scope.layouts at op) x.node y.node)
expr_step scope (Expr-F.Cast at to x) = found x.rows (of_part (cast scope at to) x.node)
expr_step scope (Expr-F.SizeofType at t) = found [] (Some (sizeof_type scope at t))
expr_step scope (Expr-F.Sizeof at x) = found x.rows (of_part (sizeof scope at) x.node)
expr_step scope (Expr-F.Index at x i) = found (x.rows ++ i.rows) (of_parts (index scope.layouts at) x.node i.node)
expr_step scope (Expr-F.Member at x name) = found x.rows (of_part (member scope at name) x.node)
expr_step scope (Expr-F.Arrow at x name) = found x.rows (of_part (arrow scope at name) x.node)

abbrev pub finding : Visible → Expr → Finding
finding scope = fold-Expr Finding (expr_step scope)

-- the rows that an expression breaks
abbrev pub rows : Visible → Expr → List Row
rows scope e = (finding scope e).rows

-- what it is in the typed unit, where it breaks none
abbrev pub node_of : Visible → Expr → Option Node
node_of scope e = (finding scope e).node
