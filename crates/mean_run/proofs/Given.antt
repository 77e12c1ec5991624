-- A value that goes where another just went takes its place.
use Rattle.std.proofs.Common.{◌≡◌, ℕ, Bool, true, false, cond, List, set, Option, Some, None, option_map, refl, sym, ap, ◌∙◌}
use Rattle.std.proofs.lemmas.List.{set-set}
use Rattle.block_mem.specs.Blocks.{Blocks}
use Rattle.block_mem.specs.Access.{store}
use Rattle.block_mem.specs.declared.value.Value.{Value}
use Rattle.block_mem.specs.declared.value.Width.{Width}
use Rattle.clight_sem.specs.declared.destination.Destination.{Destination}
use Rattle.clight_sem.specs.declared.destination.Destination.TheVariants as to
use Rattle.clight_unit.specs.declared.statement.Assignment.{Assignment}
use Rattle.clight_sem.specs.Values.{Scene, convert, value_of}
use Rattle.clight_sem.specs.Functions.{Linked}
use Rattle.clight_sem.specs.States.{World, on, scene_of}
use Rattle.clight_sem.specs.Turns.{set_temporary, stored, given, minus_one, asked, asked_if, found, given_if, assigned}
use Rattle.mean_run.specs.Processes.{Asked}
use Rattle.mean_run.proofs.Again.{store-store}

in_temporary : (w w' : World) (k : ℕ) (x y : Option Value) → set_temporary w k x ≡ Some w' → set_temporary w' k y ≡ set_temporary w k y
in_temporary w w' k None y h = let wrong : ⊥ = cc in absurd wrong
in_temporary w w' k (Some a) None h = refl
in_temporary w w' k (Some a) (Some b) h =
    let is : record w { top = record w.top { temporaries = set w.top.temporaries k (Some a) } } ≡ w' = cc in
    ap (λ (z : World). set_temporary z k (Some b)) (sym is)
    ∙ ap (λ (ts : List (Option Value)). Some (record w { top = record w.top { temporaries = ts } })) (set-set w.top.temporaries k (Some a) (Some b))

by_store : (w w' : World) (width : Width) (p a b : Value) (r : Option Blocks) → store w.memory p width a ≡ r → option_map (λ (m : Blocks). record w { memory = m }) r ≡ Some w' → stored w' width p (Some b) ≡ stored w width p (Some b)
by_store w w' width p a b None e h = let wrong : ⊥ = cc in absurd wrong
by_store w w' width p a b (Some n) e h =
    let is : record w { memory = n } ≡ w' = cc in
    ap (λ (z : World). stored z width p (Some b)) (sym is)
    ∙ ap (option_map (λ (m : Blocks). record w { memory = m })) (store-store w.memory n p width a b e)

in_place : (w w' : World) (width : Width) (p : Value) (x y : Option Value) → stored w width p x ≡ Some w' → stored w' width p y ≡ stored w width p y
in_place w w' width p None y h = let wrong : ⊥ = cc in absurd wrong
in_place w w' width p (Some a) None h = refl
in_place w w' width p (Some a) (Some b) h = by_store w w' width p a b (store w.memory p width a) refl h

pub given-given : (d : Destination) (u v : Value) (w w' : World) → given d u w ≡ Some w' → given d v w' ≡ given d v w
given-given to.Nowhere u v w w' h = sym h
given-given (to.Temporary k c) u v w w' h = in_temporary w w' k (convert c u) (convert c v) h
given-given (to.Place width p c) u v w w' h = in_place w w' width p (convert c u) (convert c v) h

-- whether a value could go where it is to go
pub is_given : (b : Bool) (new : World) (r : Option World) → b ≡ true → cond b (Some new) None ≡ r → r ≡ Some new
is_given true new r h e = sym e
is_given false new r h e = let no : ⊥ = cc in absurd no

pub not_given : (b : Bool) (new : World) (r : Option World) → b ≡ false → cond b (Some new) None ≡ r → r ≡ None
not_given true new r h e = let no : ⊥ = cc in absurd no
not_given false new r h e = sym e

pub is_asked : (d : Destination) (w new : World) → given d minus_one w ≡ Some new → Asked (asked d w) d new
is_asked d w new h = record { old = w; asks = ap (asked_if d w) h; ready = h }

-- an assignment whose parts were found
pub is_assigned : (p : Linked) (w : World) (s : Scene) (a : Assignment) (d : Destination) (v : Value) (r : Option World) → s ≡ scene_of p w → Some d ≡ found s a.value.conversion a.target → Some v ≡ value_of s a.value.expression → given d v w ≡ r → on (assigned p w a) ≡ on r
is_assigned p w s a d v r same goes value h =
    ap (λ (x : Scene). on (given_if (found x a.value.conversion a.target) (value_of x a.value.expression) w)) (sym same)
    ∙ ap (λ (x : Option Destination). on (given_if x (value_of s a.value.expression) w)) (sym goes)
    ∙ ap (λ (x : Option Value). on (given_if (Some d) x w)) (sym value)
    ∙ ap on h
