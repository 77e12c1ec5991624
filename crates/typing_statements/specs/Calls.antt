-- Calls (C11, 6.5.2.2, of the subset).
use Rattle.std.specs.Prelude.{ℕ, cond, ◌==◌, List, [], ◌∷◌, ◌++◌, length, drop, slice_get, Option, Some, None}
use Rattle.std.specs.Option.{option_map, option_map_or}
use Rattle.typing_faults.specs.declared.fault.Row.{Row}
use Rattle.typing_faults.specs.declared.fault.TypeKind.TheVariants as kind
use Rattle.text_grammar.specs.declared.tree.Expr.{Expr}
use Rattle.text_grammar.specs.declared.tree.Call.{Call}
use Rattle.typing_types.specs.Types.{Derived}
use Rattle.typing_scopes.specs.declared.entity.Entity.{Entity}
use Rattle.typing_scopes.specs.declared.entity.Entity.TheVariants as entity
use Rattle.typing_scopes.specs.declared.entity.Prototype.{Prototype}
use Rattle.typing_scopes.specs.Visible.{Visible}
use Rattle.typing_scopes.specs.Names.{entity_of}
use Rattle.clight_unit.specs.declared.statement.Value.{Value}
use Rattle.typing_expressions.specs.declared.node.Node.{Node}
use Rattle.typing_expressions.specs.Expressions.{rows, node_of}
use Rattle.typing_expressions.specs.Places.{text_place}
use Rattle.typing_statements.specs.declared.calls.Called.{Called}
use Rattle.typing_statements.specs.Gathering.{with_next, row, converted, converted_rows}

-- The callee: a function that is declared

abbrev pub prototype_at : Option Entity → Option Prototype
prototype_at None = None
prototype_at (Some (entity.Temporary n t)) = None
prototype_at (Some (entity.Local n t)) = None
prototype_at (Some (entity.Object n t)) = None
prototype_at (Some (entity.Function f)) = Some f

abbrev pub callee_rows : ℕ → Option Entity → List Row
callee_rows at None = row kind.Unknown at
callee_rows at (Some (entity.Temporary n t)) = row kind.Kind at
callee_rows at (Some (entity.Local n t)) = row kind.Kind at
callee_rows at (Some (entity.Object n t)) = row kind.Kind at
callee_rows at (Some (entity.Function f)) = []

abbrev pub callee : Visible → Call → Option Prototype
callee scope c = prototype_at (entity_of scope c.name.bytes)

-- The arguments: as many as there are parameters, each converted to the type of its parameter. One that has no parameter is
-- compared with none; the count is wrong then, at the callee before it

abbrev pub count_rows : ℕ → ℕ → Option Prototype → List Row
count_rows at n None = []
count_rows at n (Some f) = cond (length f.parameters == n) [] (row kind.Count at)

abbrev pub parameters_of : Option Prototype → List Derived
parameters_of f = option_map_or (λ (p : Prototype). p.parameters) f []

abbrev pub argument : Option Derived → Option Node → Option Value
argument None n = None
argument (Some t) n = converted t n

abbrev pub argument_rows : ℕ → Option Derived → Option Node → List Row
argument_rows at None n = []
argument_rows at (Some t) n = converted_rows at t n

-- those that are left, behind those of which these values came
abbrev pub arguments : Visible → Option (List Value) → List Derived → List Expr → Option (List Value)
arguments scope out ps [] = out
arguments scope out ps (e ∷ es) = arguments scope (with_next out (argument (slice_get ps 0) (node_of scope e))) (drop 1 ps) es

abbrev pub arguments_rows : Visible → List Derived → List Expr → List Row
arguments_rows scope ps [] = []
arguments_rows scope ps (e ∷ es) = (rows scope e ++ argument_rows (text_place e) (slice_get ps 0) (node_of scope e)) ++ arguments_rows scope (drop 1 ps) es

-- The whole call. Its result has its type from the declaration alone

abbrev pub result_type : Visible → Call → Option Derived
result_type scope c = option_map (λ (f : Prototype). f.result) (callee scope c)

abbrev pub with_arguments : ℕ → Prototype → Option (List Value) → Option Called
with_arguments n f None = None
with_arguments n f (Some vs) = cond (length f.parameters == n) (Some (record { callee = f.symbol; arguments = vs })) None

abbrev pub called_as : Option Prototype → ℕ → Option (List Value) → Option Called
called_as None n vs = None
called_as (Some f) n vs = with_arguments n f vs

abbrev pub called : Visible → Call → Option Called
called scope c = called_as (callee scope c) (length c.arguments) (arguments scope (Some []) (parameters_of (callee scope c)) c.arguments)

abbrev pub call_rows : Visible → Call → List Row
call_rows scope c =
    callee_rows c.name.at (entity_of scope c.name.bytes)
    ++ (count_rows c.name.at (length c.arguments) (callee scope c)
    ++ arguments_rows scope (parameters_of (callee scope c)) c.arguments)
