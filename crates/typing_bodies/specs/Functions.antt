-- The definition of a function: the rows that it breaks and what it is in the typed unit (C11, 6.9.1, of the subset).
use Rattle.std.specs.Prelude.{ℕ, ◌+◌, ◌-◌, ◌*◌, true, false, nat_lt, List, [], ◌++◌, map, length, Option, Some, None}
use Rattle.std.specs.Option.{option_map, option_and_then}
use Rattle.text_grammar.specs.declared.tree.Locals.{Locals}
use Rattle.text_grammar.specs.declared.tree.Head.{Head}
use Rattle.text_grammar.specs.declared.tree.Stmt.{Stmt}
use Rattle.typing_faults.specs.declared.fault.Row.{Row}
use Rattle.typing_types.specs.Types.{Derived}
use Rattle.typing_scopes.specs.Visible.{Visible}
use Rattle.typing_scopes.specs.Names.{plain_of}
use Rattle.typing_scopes.specs.Growth.{outside}
use Rattle.clight_unit.specs.declared.statement.Statement.{Statement}
use Rattle.clight_unit.specs.declared.function.Function.{Function}
use Rattle.typing_declarations.specs.declared.whole.Whole.{Whole}
use Rattle.typing_declarations.specs.Whole.{symbol_of}
use Rattle.typing_declarations.specs.Functions.{rows_of_head, head_behind}
use Rattle.typing_nodes.specs.Nodes.{told_nodes, function_nodes}
use Rattle.typing_statements.specs.Statements.{stmt_finding, all_rows, block}
use Rattle.typing_bodies.specs.declared.prologue.Prologue.{Prologue}
use Rattle.typing_bodies.specs.Signatures.{signature_of}
use Rattle.typing_bodies.specs.Locals.{Opened, opened, locals_rows, locals_behind}

-- no local stands before the first: the temporaries are the parameters
abbrev pub no_locals : ℕ → Prologue
no_locals parameters = record { frame = record { sum = 0; temporaries = parameters; blocks = 0 }; sizes = []; values = Some [] }

-- behind the head, and behind the locals

abbrev pub before_locals : Whole → Visible → Head → Opened
before_locals whole scope head = opened (head_behind whole scope true head) (no_locals (length head.parameters))

abbrev pub before_body : Whole → Visible → Head → List Locals → Opened
before_body whole scope head locals = locals_behind (before_locals whole scope head) locals

abbrev pub result_of : Visible → Head → Derived
result_of scope head = plain_of scope head.base head.stars

abbrev pub body_rows : Visible → Derived → List Stmt → List Row
body_rows scope result body = all_rows (map (stmt_finding scope result) body) false

abbrev pub body_of : Visible → Derived → List Stmt → Option (List Statement)
body_of scope result body = block (map (stmt_finding scope result) body) false

abbrev pub function_rows : Whole → Visible → Head → List Locals → List Stmt → List Row
function_rows whole scope head locals body =
    rows_of_head whole scope true head
    ++ (locals_rows (before_locals whole scope head) locals
    ++ body_rows (before_body whole scope head locals).visible (result_of scope head) body)

-- behind a function its parameters and locals are forgotten
abbrev pub function_behind : Whole → Visible → Head → List Locals → Visible
function_behind whole scope head locals = outside (before_body whole scope head locals).visible

-- the stack that a call needs, in bytes: 64, 4 for each parameter, its blocks and 16 for each node
abbrev pub need_of : ℕ → ℕ → ℕ → ℕ
need_of parameters blocks nodes = 64 + (4 * parameters + (blocks + 16 * nodes))

abbrev pub nodes_of : Head → List Locals → List Stmt → ℕ
nodes_of head locals body = told_nodes (function_nodes head.parameters locals body)

-- the initialisers of the locals stand before the statements
abbrev pub defined : Whole → Head → Prologue → ℕ → List Statement → List Statement → Function
defined whole head p nodes values statements =
    record {
      symbol = symbol_of whole head.name.bytes;
      is_static = nat_lt (symbol_of whole head.name.bytes) whole.symbols.locals;
      signature = signature_of head;
      registers = p.frame.temporaries - length head.parameters;
      locals = p.sizes;
      body = values ++ statements;
      nodes = nodes;
      need = need_of (length head.parameters) p.frame.sum nodes;
    }

abbrev pub function_with : Whole → Head → Prologue → ℕ → Option (List Statement) → Option Function
function_with whole head p nodes statements =
    option_and_then (λ values. option_map (defined whole head p nodes values) statements) p.values

abbrev pub function_of : Whole → Visible → Head → List Locals → List Stmt → Option Function
function_of whole scope head locals body =
    function_with whole head (before_body whole scope head locals).prologue (nodes_of head locals body) (body_of (before_body whole scope head locals).visible (result_of scope head) body)
