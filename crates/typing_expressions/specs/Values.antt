-- Expressions where their values are asked for (C11, 6.3.2.1).
use Rattle.std.specs.Prelude.{ℕ, Bool, false, Option, Some}
use Rattle.std.specs.Option.{option_map, option_map_or}
use Rattle.typing_faults.specs.declared.fault.TypeKind.TheVariants as kind
use Rattle.typing_types.specs.declared.class.Class.{Class}
use Rattle.typing_types.specs.declared.class.Class.TheVariants as class
use Rattle.typing_types.specs.Types.{Derived, class_of, element_of, pointer_to}
use Rattle.typing_types.specs.Meant.{width_of}
use Rattle.clight_unit.specs.declared.expression.Expression.{Expression}
use Rattle.clight_unit.specs.declared.expression.Expression.TheVariants as expression
use Rattle.clight_unit.specs.declared.expression.Place.{Place}
use Rattle.typing_expressions.specs.declared.node.Form.{Form}
use Rattle.typing_expressions.specs.declared.node.Form.TheVariants as form
use Rattle.typing_expressions.specs.declared.node.Node.{Node}
use Rattle.typing_expressions.specs.declared.node.TypedValue.{TypedValue}
use Rattle.typing_expressions.specs.declared.judgement.Judgement.{Judgement}
use Rattle.typing_expressions.specs.Judgements.{broken}

-- an array becomes a pointer to its first element
abbrev pub decayed : Derived → Derived
decayed t = option_map_or pointer_to (element_of t) t

abbrev pub value_with : Derived → Bool → Expression → TypedValue
value_with t is_null x = record { operand = record { ctype = t; is_null = is_null }; expression = x }

-- what a place holds. A whole struct is no value
abbrev pub read_at : Class → Derived → Place → Option TypedValue
read_at class.Array t p = Some (value_with (decayed t) false (expression.Decayed p))
read_at c t p = option_map (λ w. value_with t false (expression.Load w p)) (width_of t)

abbrev pub valued_at : Form → Derived → Bool → Option TypedValue
valued_at (form.Value x) t is_null = Some (value_with t is_null x)
valued_at (form.Temporary n) t is_null = Some (value_with t false (expression.Temporary n))
valued_at (form.Place p) t is_null = read_at (class_of t) t p

-- the value of an expression
abbrev pub valued : Node → Option TypedValue
valued n = valued_at n.form n.ctype n.is_null

-- a rule about a value, at this place: a whole struct is of the wrong kind
abbrev pub of_value : ℕ → (TypedValue → Judgement) → Node → Judgement
of_value at f n = option_map_or f (valued n) (broken kind.Kind at)

abbrev pub of_values : ℕ → (TypedValue → TypedValue → Judgement) → Node → Node → Judgement
of_values at f n m = of_value at (λ x. of_value at (f x) m) n
