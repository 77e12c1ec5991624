-- Assignments, and calls that stand as statements (C11, 6.5.16 and 6.8.3, of the subset).
use Rattle.std.specs.Prelude.{ℕ, Bool, false, cond, List, [], ◌++◌, Option, Some, None}
use Rattle.std.specs.Option.{option_map, option_and_then}
use Rattle.block_mem.specs.declared.operator.Op.TheVariants as op
use Rattle.block_mem.specs.declared.value.Width.{Width}
use Rattle.typing_faults.specs.declared.fault.Row.{Row}
use Rattle.typing_faults.specs.declared.fault.TypeKind.TheVariants as kind
use Rattle.text_grammar.specs.declared.tree.Expr.{Expr}
use Rattle.text_grammar.specs.declared.tree.AssignedValue.{AssignedValue}
use Rattle.text_grammar.specs.declared.tree.AssignedValue.TheVariants as right
use Rattle.text_grammar.specs.declared.tree.Simple.{Simple}
use Rattle.text_grammar.specs.declared.tree.Simple.TheVariants as act
use Rattle.typing_types.specs.Types.{Derived}
use Rattle.typing_types.specs.Conversions.{assigns}
use Rattle.typing_types.specs.Meant.{width_of, conversion_to}
use Rattle.typing_scopes.specs.Visible.{Visible}
use Rattle.clight_unit.specs.declared.statement.Target.{Target}
use Rattle.clight_unit.specs.declared.statement.Value.{Value}
use Rattle.clight_unit.specs.declared.statement.Assignment.{Assignment}
use Rattle.clight_unit.specs.declared.statement.Simple.{Simple as TypedSimple}
use Rattle.clight_unit.specs.declared.statement.Simple.TheVariants as typed
use Rattle.clight_unit.specs.declared.statement.Call.{Call as TypedCall}
use Rattle.typing_expressions.specs.declared.node.Form.{Form}
use Rattle.typing_expressions.specs.declared.node.Form.TheVariants as form
use Rattle.typing_expressions.specs.declared.node.Node.{Node}
use Rattle.typing_expressions.specs.Expressions.{rows, node_of}
use Rattle.typing_expressions.specs.Uses.{target_of}
use Rattle.typing_statements.specs.declared.calls.Called.{Called}
use Rattle.typing_statements.specs.Gathering.{row, kind_unless, converted, converted_rows}
use Rattle.typing_statements.specs.Calls.{call_rows, called, result_type}

-- The left side: a place, and no whole array or struct

abbrev pub place_rows : ℕ → Form → List Row
place_rows at (form.Value x) = row kind.NotPlace at
place_rows at (form.Temporary n) = []
place_rows at (form.Place p) = []

abbrev pub target_rows : ℕ → Option Node → List Row
target_rows at None = []
target_rows at (Some n) = place_rows at n.form ++ kind_unless at (width_of n.ctype)

-- The right side, an expression or the result of a call, is converted to the type of the left

abbrev pub right_rows : ℕ → Option Node → Option Node → List Row
right_rows at None v = []
right_rows at (Some n) v = converted_rows at n.ctype v

-- a result of type `void` can be assigned to nothing
abbrev pub takes_result : Derived → Derived → Bool
takes_result to t = assigns to (record { ctype = t; is_null = false })

abbrev pub result_rows : ℕ → Option Node → Option Derived → List Row
result_rows at (Some n) (Some t) = cond (takes_result n.ctype t) [] (row kind.Kind at)
result_rows at (Some n) None = []
result_rows at None t = []

-- What they are in the typed unit

abbrev pub assign : Option Target → Option Value → Option Assignment
assign (Some t) (Some v) = Some (record { target = t; value = v })
assign (Some t) None = None
assign None v = None

abbrev pub assignment_to : Option Node → Node → Option Assignment
assignment_to v n = assign (target_of n) (converted n.ctype v)

abbrev pub assignment : Option Node → Option Node → Option Assignment
assignment n v = option_and_then (assignment_to v) n

-- a call whose result goes here
abbrev pub call_into : Derived → Option Target → Option Called → Option TypedCall
call_into to (Some t) (Some c) = Some (record { target = Some t; conversion = conversion_to to; callee = c.callee; arguments = c.arguments })
call_into to (Some t) None = None
call_into to None c = None

abbrev pub result_to : Option Called → Node → Derived → Option TypedCall
result_to c n t = cond (takes_result n.ctype t) (call_into n.ctype (target_of n) c) None

abbrev pub call_to : Option Node → Option Derived → Option Called → Option TypedCall
call_to n t c = option_and_then (λ x. option_and_then (result_to c x) t) n

-- one whose result, if it has one, goes nowhere
abbrev pub call_alone : Called → TypedCall
call_alone c = record { target = None; conversion = op.Keep; callee = c.callee; arguments = c.arguments }

abbrev pub assigned_simple : Visible → Option Node → AssignedValue → Option TypedSimple
assigned_simple scope n (right.Expr x) = option_map (λ a. typed.Assign a) (assignment n (node_of scope x))
assigned_simple scope n (right.Call c) = option_map (λ a. typed.Call a) (call_to n (result_type scope c) (called scope c))

abbrev pub simple : Visible → Simple → Option TypedSimple
simple scope (act.Call c) = option_map (λ a. typed.Call (call_alone a)) (called scope c)
simple scope (act.Assign at left v) = assigned_simple scope (node_of scope left) v

-- Their rows

abbrev pub value_rows : Visible → ℕ → Option Node → AssignedValue → List Row
value_rows scope at n (right.Expr x) = rows scope x ++ right_rows at n (node_of scope x)
value_rows scope at n (right.Call c) = call_rows scope c ++ result_rows at n (result_type scope c)

abbrev pub simple_rows : Visible → Simple → List Row
simple_rows scope (act.Call c) = call_rows scope c
simple_rows scope (act.Assign at left v) = rows scope left ++ (target_rows at (node_of scope left) ++ value_rows scope at (node_of scope left) v)

-- The initialiser of a local that is an integer or a pointer is assigned; arrays and structs take none

abbrev pub initialiser_rows : ℕ → Node → Option Width → Option Node → List Row
initialiser_rows at n None v = row kind.Initialiser at
initialiser_rows at n (Some w) v = converted_rows at n.ctype v

abbrev pub initialised_rows : Visible → ℕ → Node → Expr → List Row
initialised_rows scope at n x = rows scope x ++ initialiser_rows at n (width_of n.ctype) (node_of scope x)

abbrev pub initialised : Visible → Node → Expr → Option Assignment
initialised scope n x = assignment_to (node_of scope x) n
