-- Laws of turns, from what their parts are.
use Rattle.std.proofs.Common.{◌≡◌, ℕ, Bool, List, Option, Some, None, sym, ap, ◌∙◌}
use Rattle.block_mem.specs.Blocks.{Blocks}
use Rattle.block_mem.specs.declared.value.Value.{Value}
use Rattle.clight_unit.specs.declared.expression.Test.{Test}
use Rattle.clight_unit.specs.declared.statement.Statement.{Statement, out-Statement}
use Rattle.clight_unit.specs.declared.statement.Statement.TheOpen.{Statement-F}
use Rattle.clight_unit.specs.declared.statement.Statement.TheViews.{out-roll-Statement}
use Rattle.clight_unit.specs.declared.statement.Statement.TheVariants as statement
use Rattle.clight_unit.specs.declared.statement.Value.{Value as Converted}
use Rattle.clight_sem.specs.Values.{Scene, converted, holds}
use Rattle.clight_sem.specs.Functions.{Linked}
use Rattle.clight_sem.specs.States.{Whole, Again, Frame, World, scene_of}
use Rattle.clight_sem.specs.Turns.{without_locals, left_with, left_if, returned, tested, statement_turn, item_turn}
use Rattle.mean_run.specs.Processes.{on_top, received}

-- a `return` with a value
pub is_returned : (p : Linked) (w : World) (s : Scene) (value : Option Converted) (v : Converted) (r : Option Value) → value ≡ Some v → s ≡ scene_of p w → r ≡ converted s v → returned p w value ≡ left_if w r
is_returned p w s value v r is same h =
    ap (returned p w) is
    ∙ ap (λ (x : Scene). left_if w (converted x v)) (sym same)
    ∙ ap (left_if w) (sym h)

-- the newest call, f, ends, and the rest goes on
pub has_left : (w rest : World) (f : Frame) (value : Option Value) (m : Blocks) (locals : List ℕ) → w ≡ on_top rest f → locals ≡ f.function.locals → m ≡ without_locals rest.memory f.activation 0 locals → left_with w value w.below ≡ received f.result value (record rest { memory = m })
has_left w rest f None m locals is l h =
    ap (λ (x : World). left_with x None x.below) is
    ∙ ap (λ (ls : List ℕ). received f.result None (record rest { memory = without_locals rest.memory f.activation 0 ls })) (sym l)
    ∙ ap (λ (b : Blocks). received f.result None (record rest { memory = b })) (sym h)
has_left w rest f (Some v) m locals is l h =
    ap (λ (x : World). left_with x (Some v) x.below) is
    ∙ ap (λ (ls : List ℕ). received f.result (Some v) (record rest { memory = without_locals rest.memory f.activation 0 ls })) (sym l)
    ∙ ap (λ (b : Blocks). received f.result (Some v) (record rest { memory = b })) (sym h)

while_out : (t : Test) (body : List Statement) → out-Statement (statement.While t body) ≡ Statement-F.While t body
while_out t body = ap out-Statement (sym (statement.rolls-While t body)) ∙ out-roll-Statement (Statement-F.While t body)

-- a `while`
pub is_while : (p : Linked) (w : World) (s : Scene) (x : Statement) (t : Test) (body list : List Statement) (b : Option Bool) → x ≡ statement.While t body → s ≡ scene_of p w → b ≡ holds s t → list ≡ body → item_turn p w (Whole x) ≡ tested w b list (Again t list)
is_while p w s x t body list b is same h l =
    ap (λ (y : Statement). item_turn p w (Whole y)) is
    ∙ ap (statement_turn p w) (while_out t body)
    ∙ ap (λ (y : Scene). tested w (holds y t) body (Again t body)) (sym same)
    ∙ ap (λ (y : Option Bool). tested w y body (Again t body)) (sym h)
    ∙ ap (λ (ss : List Statement). tested w b ss (Again t ss)) (sym l)
