-- A function that breaks no rule is typed.
use Rattle.std.proofs.Common.{rules, ◌≡◌, ℕ, Bool, true, false, List, [], ◌∷◌, ◌++◌, map, length, Option, Some, None, is_some, refl, sym, subst}
use Rattle.std.specs.Option.{option_map, option_and_then}
use Rattle.std.proofs.lemmas.Bool.{false≢true}
use Rattle.block_mem.specs.declared.value.Width.{Width}
use Rattle.text_grammar.specs.declared.tree.Expr.{Expr}
use Rattle.text_grammar.specs.declared.tree.Base.{Base}
use Rattle.text_grammar.specs.declared.tree.LocalValue.{LocalValue}
use Rattle.text_grammar.specs.declared.tree.LocalItem.{LocalItem}
use Rattle.text_grammar.specs.declared.tree.Locals.{Locals}
use Rattle.text_grammar.specs.declared.tree.Head.{Head}
use Rattle.text_grammar.specs.declared.tree.Stmt.{Stmt}
use Rattle.typing_faults.specs.declared.fault.Row.{Row}
use Rattle.typing_types.specs.Types.{Derived}
use Rattle.typing_types.specs.Meant.{width_of}
use Rattle.typing_scopes.specs.Visible.{Visible}
use Rattle.clight_unit.specs.declared.statement.Target.{Target}
use Rattle.clight_unit.specs.declared.statement.Value.{Value}
use Rattle.clight_unit.specs.declared.statement.Statement.{Statement}
use Rattle.clight_unit.specs.declared.statement.Statement.TheVariants as typed
use Rattle.typing_expressions.specs.declared.node.Node.{Node}
use Rattle.typing_expressions.specs.Judgements.{agrees}
use Rattle.typing_expressions.specs.Expressions.{rows, node_of}
use Rattle.typing_expressions.specs.Uses.{assigned, target_at}
use Rattle.typing_declarations.specs.declared.whole.Whole.{Whole}
use Rattle.typing_declarations.specs.declared.locals.Frame.{Frame}
use Rattle.typing_declarations.specs.Locals.{local_rows}
use Rattle.typing_declarations.specs.Functions.{rows_of_head}
use Rattle.typing_statements.specs.Gathering.{with_next, kind_unless, converted, converted_rows}
use Rattle.typing_statements.specs.Assignments.{assign, initialiser_rows, initialised, initialised_rows}
use Rattle.typing_statements.specs.Statements.{all_rows, block, stmt_finding}
use Rattle.typing_bodies.specs.declared.prologue.Prologue.{Prologue}
use Rattle.typing_bodies.specs.Locals.{Opened, local_form, local_node, value_rows, with_value, item_type, item_named, item_node, item_rows, item_opened, item_behind, list_rows, list_behind, locals_rows, locals_behind}
use Rattle.typing_bodies.specs.Functions.{before_locals, before_body, result_of, body_rows, body_of, nodes_of, function_rows, function_with, function_of}

-- Lists and options.

cons≢nil : {A : Type 0} {X : Type 0} (r : A) (rs : List A) → (r ∷ rs) ≡ [] → X
cons≢nil r rs h = absurd (search (rules, h))

left_is_nil : {A : Type 0} (rs ss : List A) → rs ++ ss ≡ [] → rs ≡ []
left_is_nil [] ss h = refl
left_is_nil (r ∷ rs) ss h = cons≢nil r (rs ++ ss) h

right_is_nil : {A : Type 0} (rs ss : List A) → rs ++ ss ≡ [] → ss ≡ []
right_is_nil [] ss h = h
right_is_nil (r ∷ rs) ss h = cons≢nil r (rs ++ ss) h

unless : {A : Type 0} (at : ℕ) (x : Option A) → kind_unless at x ≡ [] → is_some x ≡ true
unless at (Some x) h = refl
unless at None h = cons≢nil _ _ h

is_found : {A : Type 0} (rs : List Row) (x : Option A) → agrees rs x ≡ true → rs ≡ [] → is_some x ≡ true
is_found [] (Some x) a h = refl
is_found [] None a h = absurd (false≢true a)
is_found (r ∷ rs) x a h = cons≢nil r rs h

-- Initialisers.

abbrev Agreeing : Type 0
Agreeing = (scope : Visible) (e : Expr) → agrees (rows scope e) (node_of scope e) ≡ true

is_converted : (at : ℕ) (to : Derived) (n : Option Node) → is_some n ≡ true → converted_rows at to n ≡ [] → is_some (converted to n) ≡ true
is_converted at to (Some n) s h = unless at (assigned to n) h
is_converted at to None s h = absurd (false≢true s)

is_assigned : (t : Option Target) (v : Option Value) → is_some t ≡ true → is_some v ≡ true → is_some (assign t v) ≡ true
is_assigned (Some t) (Some v) h g = refl
is_assigned (Some t) None h g = absurd (false≢true g)
is_assigned None v h g = absurd (false≢true h)

has_target : (frame : Frame) (is_register : Bool) (w : Width) → is_some (target_at (local_form frame is_register) w) ≡ true
has_target frame true w = refl
has_target frame false w = refl

initial_by : (at : ℕ) (frame : Frame) (is_register : Bool) (t : Derived) (n : Option Node) (w : Option Width) → is_some n ≡ true → initialiser_rows at (local_node frame is_register t) w n ≡ [] → is_some (assign (option_and_then (target_at (local_form frame is_register)) w) (converted t n)) ≡ true
initial_by at frame is_register t n None s h = cons≢nil _ _ h
initial_by at frame is_register t n (Some w) s h =
    is_assigned (target_at (local_form frame is_register) w) (converted t n) (has_target frame is_register w) (is_converted at t n s h)

is_initial : Agreeing → (scope : Visible) (at : ℕ) (frame : Frame) (is_register : Bool) (t : Derived) (e : Expr) → initialised_rows scope at (local_node frame is_register t) e ≡ [] → is_some (initialised scope (local_node frame is_register t) e) ≡ true
is_initial a scope at frame is_register t e h =
    initial_by at frame is_register t (node_of scope e) (width_of t)
    (is_found (rows scope e) (node_of scope e) (a scope e) (left_is_nil (rows scope e) (initialiser_rows at (local_node frame is_register t) (width_of t) (node_of scope e)) h))
    (right_is_nil (rows scope e) (initialiser_rows at (local_node frame is_register t) (width_of t) (node_of scope e)) h)

-- Locals.

is_next : (values : Option (List Statement)) (x : Option Statement) → is_some values ≡ true → is_some x ≡ true → is_some (with_next values x) ≡ true
is_next (Some vs) (Some x) h g = refl
is_next (Some vs) None h g = absurd (false≢true g)
is_next None x h g = absurd (false≢true h)

is_mapped : {A B : Type 0} (f : A → B) (x : Option A) → is_some x ≡ true → is_some (option_map f x) ≡ true
is_mapped f (Some x) h = refl
is_mapped f None h = absurd (false≢true h)

has_value : Agreeing → (scope : Visible) (frame : Frame) (is_register : Bool) (t : Derived) (values : Option (List Statement)) (v : Option LocalValue) → is_some values ≡ true → value_rows scope (local_node frame is_register t) v ≡ [] → is_some (with_value scope (local_node frame is_register t) values v) ≡ true
has_value a scope frame is_register t values None s h = s
has_value a scope frame is_register t values (Some v) s h =
    is_next values (option_map (λ x. typed.Initialise x) (initialised scope (local_node frame is_register t) v.value)) s
    (is_mapped (λ x. typed.Initialise x) (initialised scope (local_node frame is_register t) v.value) (is_initial a scope v.at frame is_register t v.value h))

is_opened : Agreeing → (o : Opened) (is_register : Bool) (base : Base) (item : LocalItem) → is_some o.prologue.values ≡ true → item_rows o is_register base item ≡ [] → is_some (item_opened o is_register base item).values ≡ true
is_opened a o is_register base item s h =
    has_value a (item_named o is_register base item) o.prologue.frame is_register (item_type o.visible base item) o.prologue.values item.value s
    (right_is_nil (local_rows o.visible o.prologue.frame.sum is_register base item.declarator (item_type o.visible base item)) (value_rows (item_named o is_register base item) (item_node o is_register base item) item.value) h)

list_opened : Agreeing → (o : Opened) (is_register : Bool) (base : Base) (items : List LocalItem) → is_some o.prologue.values ≡ true → list_rows o is_register base items ≡ [] → is_some (list_behind o is_register base items).prologue.values ≡ true
list_opened a o is_register base [] s h = s
list_opened a o is_register base (x ∷ xs) s h =
    list_opened a (item_behind o is_register base x) is_register base xs
    (is_opened a o is_register base x s (left_is_nil (item_rows o is_register base x) (list_rows (item_behind o is_register base x) is_register base xs) h))
    (right_is_nil (item_rows o is_register base x) (list_rows (item_behind o is_register base x) is_register base xs) h)

locals_opened : Agreeing → (o : Opened) (ls : List Locals) → is_some o.prologue.values ≡ true → locals_rows o ls ≡ [] → is_some (locals_behind o ls).prologue.values ≡ true
locals_opened a o [] s h = s
locals_opened a o (l ∷ ls) s h =
    locals_opened a (list_behind o l.is_register l.base l.items) ls
    (list_opened a o l.is_register l.base l.items s (left_is_nil (list_rows o l.is_register l.base l.items) (locals_rows (list_behind o l.is_register l.base l.items) ls) h))
    (right_is_nil (list_rows o l.is_register l.base l.items) (locals_rows (list_behind o l.is_register l.base l.items) ls) h)

-- Functions.

abbrev Bodies : Type 0
Bodies = (scope : Visible) (result : Derived) (body : List Stmt) (b : Bool) → agrees (all_rows (map (stmt_finding scope result) body) b) (block (map (stmt_finding scope result) body) b) ≡ true

is_whole : (whole : Whole) (head : Head) (p : Prologue) (nodes : ℕ) (values statements : Option (List Statement)) → p.values ≡ values → is_some values ≡ true → is_some statements ≡ true → is_some (function_with whole head p nodes statements) ≡ true
is_whole whole head p nodes (Some vs) (Some ss) e h g = rw e refl
is_whole whole head p nodes (Some vs) None e h g = absurd (false≢true g)
is_whole whole head p nodes None ss e h g = absurd (false≢true h)

pub is_typed : Agreeing → Bodies → (whole : Whole) (scope : Visible) (head : Head) (locals : List Locals) (body : List Stmt) → function_rows whole scope head locals body ≡ [] → is_some (function_of whole scope head locals body) ≡ true
is_typed a b whole scope head locals body h =
    is_whole whole head behind.prologue (nodes_of head locals body) behind.prologue.values (body_of behind.visible result body) refl
    (locals_opened a before locals refl (left_is_nil (locals_rows before locals) (body_rows behind.visible result body) inner))
    (is_found (body_rows behind.visible result body) (body_of behind.visible result body) (b behind.visible result body false)
    (right_is_nil (locals_rows before locals) (body_rows behind.visible result body) inner))
  where
    before : Opened
    before = before_locals whole scope head

    behind : Opened
    behind = before_body whole scope head locals

    result : Derived
    result = result_of scope head

    inner : locals_rows before locals ++ body_rows behind.visible result body ≡ []
    inner = right_is_nil (rows_of_head whole scope true head) (locals_rows before locals ++ body_rows behind.visible result body) h
