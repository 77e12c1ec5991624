-- The rules that a head breaks, and then those that its parameters break.
use Rattle.std.proofs.Common.{◌≡◌, Bool, List, ap, sym, ◌∙◌}
use Rattle.std.specs.Prelude.{Option}
use Rattle.text_grammar.specs.declared.tree.Head.{Head}
use Rattle.text_grammar.specs.declared.tree.Parameter.{Parameter}
use Rattle.typing_faults.specs.declared.fault.Row.{Row}
use Rattle.typing_faults.specs.Faults.{told}
use Rattle.typing_faults.specs.laws.Faults.{told_append}
use Rattle.typing_scopes.specs.declared.entity.Prototype.{Prototype}
use Rattle.typing_scopes.specs.Visible.{Visible}
use Rattle.typing_scopes.specs.Growth.{outside}
use Rattle.typing_declarations.specs.declared.whole.Whole.{Whole}
use Rattle.typing_declarations.specs.Functions.{head_rows, function_named, parameters_rows, rows_of_head, prototype_of}

-- what is told of both
abbrev both_told : Whole → Visible → Bool → Head → Prototype → Option Row → Option Row
both_told whole scope is_definition head p before =
    told (told before (head_rows whole scope is_definition head p)) (parameters_rows (function_named scope is_definition head p) 0 head.parameters)

pub head_told : (whole : Whole) (scope out named : Visible) (is_definition : Bool) (head : Head) (p : Prototype) (ps : List Parameter) (before between after : Option Row) → out ≡ outside scope → p ≡ prototype_of whole out head → named ≡ function_named out is_definition head p → between ≡ told before (head_rows whole out is_definition head p) → ps ≡ head.parameters → after ≡ told between (parameters_rows named 0 ps) → after ≡ told before (rows_of_head whole scope is_definition head)
head_told whole scope out named is_definition head p ps before between after out_is p_is named_is between_is ps_are after_is =
    after_is
    ∙ ap (λ r. told r (parameters_rows named 0 ps)) between_is
    ∙ ap (λ n. told (told before (head_rows whole out is_definition head p)) (parameters_rows n 0 ps)) named_is
    ∙ ap (λ xs. told (told before (head_rows whole out is_definition head p)) (parameters_rows (function_named out is_definition head p) 0 xs)) ps_are
    ∙ ap (λ x. both_told whole out is_definition head x before) p_is
    ∙ ap (λ o. both_told whole o is_definition head (prototype_of whole o head) before) out_is
    ∙ sym (told_append before (head_rows whole (outside scope) is_definition head (prototype_of whole (outside scope) head)) (parameters_rows (function_named (outside scope) is_definition head (prototype_of whole (outside scope) head)) 0 head.parameters))
