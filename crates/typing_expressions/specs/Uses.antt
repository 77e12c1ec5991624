-- What can be done with an expression: its value is assigned, it is a condition, it is assigned to (C11, 6.5.16, 6.8.4 and 6.8.5).
use Rattle.std.specs.Prelude.{cond, Option, Some, None}
use Rattle.std.specs.Option.{option_and_then}
use Rattle.block_mem.specs.declared.value.Width.{Width}
use Rattle.typing_types.specs.Types.{Derived}
use Rattle.typing_types.specs.Operators.{is_scalar}
use Rattle.typing_types.specs.Conversions.{assigns}
use Rattle.typing_types.specs.Meant.{conversion_to, width_of}
use Rattle.clight_unit.specs.declared.expression.Test.{Test}
use Rattle.clight_unit.specs.declared.statement.Target.{Target}
use Rattle.clight_unit.specs.declared.statement.Target.TheVariants as target
use Rattle.clight_unit.specs.declared.statement.Value.{Value}
use Rattle.typing_expressions.specs.declared.node.Form.{Form}
use Rattle.typing_expressions.specs.declared.node.Form.TheVariants as form
use Rattle.typing_expressions.specs.declared.node.Node.{Node}
use Rattle.typing_expressions.specs.declared.node.TypedValue.{TypedValue}
use Rattle.typing_expressions.specs.Values.{valued}
use Rattle.typing_expressions.specs.Operations.{test_on}

-- a value with its conversion to a type, where it may be assigned to an object of that type, be an argument for it, or be returned
-- as it
abbrev pub assigned_value : Derived → TypedValue → Option Value
assigned_value to x = cond (assigns to x.operand) (Some (record { conversion = conversion_to to; expression = x.expression })) None

abbrev pub assigned : Derived → Node → Option Value
assigned to n = option_and_then (assigned_value to) (valued n)

-- a condition is an integer or a pointer
abbrev pub tested : TypedValue → Option Test
tested x = cond (is_scalar x.operand.ctype) (Some (test_on x)) None

abbrev pub test_of : Node → Option Test
test_of n = option_and_then tested (valued n)

-- what is assigned to is a place that is written whole: no array, and no struct
abbrev pub target_at : Form → Width → Option Target
target_at (form.Value x) w = None
target_at (form.Temporary n) w = Some (target.Temporary n)
target_at (form.Place p) w = Some (target.Place w p)

abbrev pub target_of : Node → Option Target
target_of n = option_and_then (target_at n.form) (width_of n.ctype)
