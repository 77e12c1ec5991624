-- What a rule of the types says of a node: that it is kept, and what the node is; or that it is broken, and which row that is.
use Rattle.std.specs.Prelude.{ℕ, Bool, true, false, List, [], ◌∷◌, Option, Some, None}
use Rattle.std.specs.Option.{option_map, option_and_then}
use Rattle.typing_faults.specs.declared.fault.Row.{Row}
use Rattle.typing_faults.specs.declared.fault.TypeKind.{TypeKind}
use Rattle.typing_types.specs.Types.{Derived}
use Rattle.clight_unit.specs.declared.expression.Expression.{Expression}
use Rattle.typing_expressions.specs.declared.node.Form.{Form}
use Rattle.typing_expressions.specs.declared.node.Form.TheVariants as form
use Rattle.typing_expressions.specs.declared.node.Node.{Node}
use Rattle.typing_expressions.specs.declared.judgement.Judgement.{Judgement}
use Rattle.typing_expressions.specs.declared.judgement.Judgement.TheVariants as rule

abbrev pub broken : TypeKind → ℕ → Judgement
broken kind at = rule.Broken (record { kind = kind; at = at })

-- a node of this type that is no literal 0
abbrev pub fits : Derived → Form → Judgement
fits t f = rule.Kept (record { ctype = t; is_null = false; form = f })

-- a value of this type
abbrev pub gives : Derived → Expression → Judgement
gives t x = fits t (form.Value x)

-- a rule is tried only where its parts have types
abbrev pub of_part : (Node → Judgement) → Option Node → Option Judgement
of_part f n = option_map f n

abbrev pub of_parts : (Node → Node → Judgement) → Option Node → Option Node → Option Judgement
of_parts f n m = option_and_then (λ x. option_map (f x) m) n

-- a node that breaks a rule has no type, and neither has one whose rule is not tried
abbrev pub node_in : Option Judgement → Option Node
node_in None = None
node_in (Some (rule.Kept n)) = Some n
node_in (Some (rule.Broken r)) = None

abbrev pub broken_in : Option Judgement → List Row
broken_in None = []
broken_in (Some (rule.Kept n)) = []
broken_in (Some (rule.Broken r)) = r ∷ []

-- where something is found no rule is broken, and where nothing is found one is
abbrev pub agrees : {A : Type 0} → List Row → Option A → Bool
agrees [] (Some x) = true
agrees [] None = false
agrees (r ∷ rs) (Some x) = false
agrees (r ∷ rs) None = true
