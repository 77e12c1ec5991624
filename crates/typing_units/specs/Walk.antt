-- A unit from its first declaration to its last (C11, 6.9): at each the rows that it breaks, and what stands behind it.
use Rattle.std.specs.Prelude.{ℕ, ◌+◌, false, List, [], ◌∷◌, ◌++◌, Some}
use Rattle.text_grammar.specs.declared.tree.Head.{Head}
use Rattle.text_grammar.specs.declared.tree.Locals.{Locals}
use Rattle.text_grammar.specs.declared.tree.Stmt.{Stmt}
use Rattle.text_grammar.specs.declared.tree.External.{External}
use Rattle.text_grammar.specs.declared.tree.External.TheVariants as top
use Rattle.typing_faults.specs.declared.fault.Row.{Row}
use Rattle.typing_nodes.specs.Nodes.{told_nodes}
use Rattle.typing_declarations.specs.declared.whole.Whole.{Whole}
use Rattle.typing_declarations.specs.Start.{scope_before}
use Rattle.typing_declarations.specs.Structs.{struct_rows, struct_behind}
use Rattle.typing_declarations.specs.Functions.{rows_of_head, named_by}
use Rattle.typing_statements.specs.Gathering.{with_next}
use Rattle.typing_bodies.specs.Functions.{nodes_of, function_rows, function_behind, function_of}
use Rattle.typing_units.specs.declared.walk.Walk.{Walk}
use Rattle.typing_units.specs.Objects.{nodes_rows, items_rows, items_behind}

-- before the first declaration
abbrev pub walk_before : Whole → List External → Walk
walk_before whole tree = record { scope = scope_before whole tree; sum = 0; nodes = 0; globals = []; functions = Some [] }

abbrev pub nodes_through : Walk → Head → List Locals → List Stmt → ℕ
nodes_through walk head locals body = told_nodes (walk.nodes + nodes_of head locals body)

abbrev pub external_rows : Whole → Walk → External → List Row
external_rows whole walk (top.Struct tag members) = struct_rows walk.scope tag members
external_rows whole walk (top.Objects l base items) = items_rows whole l base walk items
external_rows whole walk (top.Prototype head) = rows_of_head whole walk.scope false head
external_rows whole walk (top.Function head locals body) =
    function_rows whole walk.scope head locals body ++ nodes_rows (nodes_through walk head locals body) head.name.at

abbrev pub external_behind : Whole → Walk → External → Walk
external_behind whole walk (top.Struct tag members) = record walk { scope = struct_behind walk.scope tag members }
external_behind whole walk (top.Objects l base items) = items_behind whole l base walk items
external_behind whole walk (top.Prototype head) = record walk { scope = named_by whole walk.scope false head }
external_behind whole walk (top.Function head locals body) =
    record walk {
      scope = function_behind whole walk.scope head locals;
      nodes = nodes_through walk head locals body;
      functions = with_next walk.functions (function_of whole walk.scope head locals body);
    }

abbrev pub walk_rows : Whole → Walk → List External → List Row
walk_rows whole walk [] = []
walk_rows whole walk (x ∷ xs) = external_rows whole walk x ++ walk_rows whole (external_behind whole walk x) xs

abbrev pub walk_behind : Whole → Walk → List External → Walk
walk_behind whole walk [] = walk
walk_behind whole walk (x ∷ xs) = walk_behind whole (external_behind whole walk x) xs
