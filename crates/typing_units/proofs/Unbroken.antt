-- A tree that breaks no rule has a typed unit.
use Rattle.std.proofs.Common.{rules, ◌≡◌, true, List, [], ◌∷◌, ◌++◌, Option, Some, None, is_some, refl, subst, sym, ap, ◌∙◌}
use Rattle.std.specs.Option.{option_map}
use Rattle.std.proofs.lemmas.Bool.{false≢true}
use Rattle.text_grammar.specs.declared.tree.Base.{Base}
use Rattle.text_grammar.specs.declared.tree.Linkage.{Linkage}
use Rattle.text_grammar.specs.declared.tree.ObjectItem.{ObjectItem}
use Rattle.text_grammar.specs.declared.tree.Head.{Head}
use Rattle.text_grammar.specs.declared.tree.Locals.{Locals}
use Rattle.text_grammar.specs.declared.tree.Stmt.{Stmt}
use Rattle.text_grammar.specs.declared.tree.External.{External}
use Rattle.text_grammar.specs.declared.tree.External.TheVariants as top
use Rattle.typing_faults.specs.declared.fault.Row.{Row}
use Rattle.typing_faults.specs.Faults.{told, first_of_two}
use Rattle.typing_scopes.specs.Visible.{Visible}
use Rattle.clight_unit.specs.declared.function.Function.{Function}
use Rattle.typing_declarations.specs.declared.whole.Whole.{Whole}
use Rattle.typing_declarations.specs.Whole.{whole_of}
use Rattle.typing_statements.specs.Gathering.{with_next}
use Rattle.typing_bodies.specs.Functions.{function_rows, function_of}
use Rattle.typing_units.specs.declared.walk.Walk.{Walk}
use Rattle.typing_units.specs.Objects.{nodes_rows, item_behind, items_behind}
use Rattle.typing_units.specs.Walk.{walk_before, nodes_through, external_rows, external_behind, walk_rows, walk_behind}
use Rattle.typing_units.specs.Typing.{rows_of, fault_of, unit_behind, unit_of}

-- What is told of rows is nothing where there are none alone.

some_told : (rs : List Row) (r : Row) → is_some (told (Some r) rs) ≡ true
some_told [] r = refl
some_told (s ∷ ss) r = some_told ss (first_of_two r s)

nothing_told : (r : Row) (rs : List Row) → told (Some r) rs ≡ None → [] ≡ r ∷ rs
nothing_told r [] h = absurd (search (rules, h))
nothing_told r (s ∷ ss) h = absurd (false≢true (sym (ap is_some h) ∙ some_told ss (first_of_two r s)))

pub no_rows : (rs : List Row) → told None rs ≡ None → rs ≡ []
no_rows [] h = refl
no_rows (r ∷ rs) h = sym (nothing_told r rs h)

-- Functions.

left_is_nil : {A : Type 0} (rs ss : List A) → rs ++ ss ≡ [] → rs ≡ []
left_is_nil [] ss h = refl
left_is_nil (r ∷ rs) ss h = absurd (search (rules, h))

right_is_nil : {A : Type 0} (rs ss : List A) → rs ++ ss ≡ [] → ss ≡ []
right_is_nil [] ss h = h
right_is_nil (r ∷ rs) ss h = absurd (search (rules, h))

abbrev Functions : Type 0
Functions = (whole : Whole) (scope : Visible) (head : Head) (locals : List Locals) (body : List Stmt) → function_rows whole scope head locals body ≡ [] → is_some (function_of whole scope head locals body) ≡ true

is_next : (fs : Option (List Function)) (f : Option Function) → is_some fs ≡ true → is_some f ≡ true → is_some (with_next fs f) ≡ true
is_next (Some fs) (Some f) h g = refl
is_next (Some fs) None h g = absurd (false≢true g)
is_next None f h g = absurd (false≢true h)

same_functions : (whole : Whole) (l : Linkage) (base : Base) (walk : Walk) (items : List ObjectItem) → (items_behind whole l base walk items).functions ≡ walk.functions
same_functions whole l base walk [] = refl
same_functions whole l base walk (x ∷ xs) = same_functions whole l base (item_behind whole l base walk x) xs

is_behind : Functions → (whole : Whole) (walk : Walk) (x : External) → is_some walk.functions ≡ true → external_rows whole walk x ≡ [] → is_some (external_behind whole walk x).functions ≡ true
is_behind f whole walk (top.Struct tag members) s h = s
is_behind f whole walk (top.Objects l base items) s h = subst (λ (fs : Option (List Function)). is_some fs ≡ true) (sym (same_functions whole l base walk items)) s
is_behind f whole walk (top.Prototype head) s h = s
is_behind f whole walk (top.Function head locals body) s h =
    is_next walk.functions (function_of whole walk.scope head locals body) s
    (f whole walk.scope head locals body (left_is_nil (function_rows whole walk.scope head locals body) (nodes_rows (nodes_through walk head locals body) head.name.at) h))

are_behind : Functions → (whole : Whole) (walk : Walk) (xs : List External) → is_some walk.functions ≡ true → walk_rows whole walk xs ≡ [] → is_some (walk_behind whole walk xs).functions ≡ true
are_behind f whole walk [] s h = s
are_behind f whole walk (x ∷ xs) s h =
    are_behind f whole (external_behind whole walk x) xs
    (is_behind f whole walk x s (left_is_nil (external_rows whole walk x) (walk_rows whole (external_behind whole walk x) xs) h))
    (right_is_nil (external_rows whole walk x) (walk_rows whole (external_behind whole walk x) xs) h)

is_mapped : {A B : Type 0} (f : A → B) (x : Option A) → is_some x ≡ true → is_some (option_map f x) ≡ true
is_mapped f (Some x) h = refl
is_mapped f None h = absurd (false≢true h)

pub is_typed : Functions → (tree : List External) → rows_of tree ≡ [] → is_some (unit_of tree) ≡ true
is_typed f tree h = is_mapped _ (walk_behind (whole_of tree) (walk_before (whole_of tree) tree) tree).functions (are_behind f (whole_of tree) (walk_before (whole_of tree) tree) tree refl h)

-- What is told and what the unit is, from the parts that the walk gives.

pub told_is : (whole : Whole) (given tree : List External) (before after : Option Row) → given ≡ tree → whole ≡ whole_of given → before ≡ None → after ≡ told before (walk_rows whole (walk_before whole given) given) → after ≡ fault_of tree
told_is whole given tree before after given_is whole_is before_is after_is =
    after_is
    ∙ ap (λ r. told r (walk_rows whole (walk_before whole given) given)) before_is
    ∙ ap (λ w. told None (walk_rows w (walk_before w given) given)) whole_is
    ∙ ap fault_of given_is

pub unit_is : (whole : Whole) (given tree : List External) (walk : Walk) → given ≡ tree → whole ≡ whole_of given → walk ≡ walk_behind whole (walk_before whole given) given → unit_behind whole given walk ≡ unit_of tree
unit_is whole given tree walk given_is whole_is walk_is =
    ap (unit_behind whole given) walk_is
    ∙ ap (λ w. unit_behind w given (walk_behind w (walk_before w given) given)) whole_is
    ∙ ap unit_of given_is
