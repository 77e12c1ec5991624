-- A function from its parts.
use Rattle.std.proofs.Common.{ℕ, ◌≡◌, true, false, List, [], length, Option, Some, ap, ◌∙◌}
use Rattle.text_grammar.specs.declared.tree.Head.{Head}
use Rattle.text_grammar.specs.declared.tree.Locals.{Locals}
use Rattle.text_grammar.specs.declared.tree.Stmt.{Stmt}
use Rattle.typing_types.specs.Types.{Derived}
use Rattle.typing_scopes.specs.Visible.{Visible}
use Rattle.clight_unit.specs.declared.statement.Statement.{Statement}
use Rattle.typing_declarations.specs.declared.whole.Whole.{Whole}
use Rattle.typing_declarations.specs.declared.locals.Frame.{Frame}
use Rattle.typing_declarations.specs.Functions.{head_behind}
use Rattle.typing_bodies.specs.declared.prologue.Prologue.{Prologue}
use Rattle.typing_bodies.specs.Locals.{Opened, opened, locals_behind}
use Rattle.typing_bodies.specs.Functions.{before_locals, before_body, result_of, body_of, nodes_of, function_with, function_of}

abbrev made : Frame → List ℕ → Option (List Statement) → Prologue
made frame sizes values = record { frame = frame; sizes = sizes; values = values }

-- what stands behind the head where the parts of the prologue are those before the first local
first_is : (whole : Whole) (scope first : Visible) (head : Head) (frame : Frame) (sizes : List ℕ) (values : Option (List Statement)) → first ≡ head_behind whole scope true head → frame ≡ record { sum = 0; temporaries = length head.parameters; blocks = 0 } → sizes ≡ [] → values ≡ Some [] → opened first (made frame sizes values) ≡ before_locals whole scope head
first_is whole scope first head frame sizes values first_at frame_at sizes_at values_at =
    ap (λ v. opened v (made frame sizes values)) first_at
    ∙ ap (λ f. opened (head_behind whole scope true head) (made f sizes values)) frame_at
    ∙ ap (λ s. opened (head_behind whole scope true head) (made (record { sum = 0; temporaries = length head.parameters; blocks = 0 }) s values)) sizes_at
    ∙ ap (λ v. opened (head_behind whole scope true head) (made (record { sum = 0; temporaries = length head.parameters; blocks = 0 }) [] v)) values_at

pub function_is : (whole : Whole) (scope first behind : Visible) (head : Head) (locals : List Locals) (body : List Stmt) (frame : Frame) (sizes : List ℕ) (values : Option (List Statement)) (p : Prologue) (result : Derived) (nodes : ℕ) (statements : Option (List Statement)) → first ≡ head_behind whole scope true head → frame ≡ record { sum = 0; temporaries = length head.parameters; blocks = 0 } → sizes ≡ [] → values ≡ Some [] → opened behind p ≡ locals_behind (opened first (record { frame = frame; sizes = sizes; values = values })) locals → result ≡ result_of scope head → nodes ≡ nodes_of head locals body → statements ≡ body_of behind result body → function_with whole head p nodes statements ≡ function_of whole scope head locals body
function_is whole scope first behind head locals body frame sizes values p result nodes statements first_at frame_at sizes_at values_at behind_is result_is nodes_are statements_are =
    let all : opened behind p ≡ before_body whole scope head locals = behind_is ∙ ap (λ o. locals_behind o locals) (first_is whole scope first head frame sizes values first_at frame_at sizes_at values_at) in
    ap (λ n. function_with whole head p n statements) nodes_are
    ∙ ap (λ s. function_with whole head p (nodes_of head locals body) s) (statements_are ∙ ap (λ t. body_of behind t body) result_is)
    ∙ ap (λ (o : Opened). function_with whole head o.prologue (nodes_of head locals body) (body_of o.visible (result_of scope head) body)) all
