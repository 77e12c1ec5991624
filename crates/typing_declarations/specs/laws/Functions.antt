-- The parameters of a function are among its own names, and are forgotten behind it.
use Rattle.std.specs.Prelude.{ℕ, ◌+◌, ◌≡◌, List, [], ◌∷◌, Option, Some, None}
use Rattle.std.proofs.Common.{refl, ◌∙◌}
use Rattle.text_grammar.specs.declared.tree.NameAt.{NameAt}
use Rattle.text_grammar.specs.declared.tree.Parameter.{Parameter}
use Rattle.typing_types.specs.Types.{Derived}
use Rattle.typing_scopes.specs.Visible.{Visible}
use Rattle.typing_scopes.specs.Growth.{outside}
use Rattle.typing_declarations.specs.Functions.{parameter_type, parameter_named, parameter_behind, parameters_behind}

parameter_is_own : (scope : Visible) (number : ℕ) (name : Option NameAt) (t : Derived) → outside (parameter_named scope number name t) ≡ outside scope
parameter_is_own scope number None t = refl
parameter_is_own scope number (Some name) t = refl

pub parameters_are_own : (scope : Visible) (number : ℕ) (ps : List Parameter) → outside (parameters_behind scope number ps) ≡ outside scope
parameters_are_own scope number [] = refl
parameters_are_own scope number (p ∷ ps) =
    parameters_are_own (parameter_behind scope number p) (number + 1) ps ∙ parameter_is_own scope number p.name (parameter_type scope p)
