-- What a stack of places stands for: what a call has still to do.
use Rattle.std.specs.Prelude.{Bool, true, false, List, [], ◌∷◌, ◌++◌, drop}
use Rattle.clight_sem.specs.States.{Item as Seen, Whole, Alone, Again, TestOfDo, TestOfFor, StepOfFor, whole}
use Rattle.mean_run.specs.declared.item.Item.{Item}
use Rattle.mean_run.specs.declared.item.Item.TheVariants as item
use Rattle.mean_run.specs.declared.left.Left.{Left}
use Rattle.mean_run.specs.declared.left.Entry.{Entry}
use Rattle.mean_run.specs.declared.left.Entry.TheVariants as entry

abbrev pub seen : Item → Seen
seen (item.Whole s) = Whole s.now
seen (item.Alone x) = Alone x.now
seen (item.Again test body) = Again test.now body.now
seen (item.TestOfDo body test) = TestOfDo body.now test.now
seen (item.TestOfFor test step body) = TestOfFor test.now step.now body.now
seen (item.StepOfFor test step body) = StepOfFor test.now step.now body.now

-- the items of an entry: the statements of a list from a place on, or one item
abbrev pub items_of : Entry → List Seen
items_of (entry.Statements list next) = whole (drop next list.now)
items_of (entry.One x) = seen x ∷ []

-- the last entry comes first
abbrev pub left_of : List Entry → List Seen
left_of [] = []
left_of (e ∷ es) = left_of es ++ items_of e

-- what a call has still to do: the statements of the current list from a place on, and what is held
abbrev pub left_in : Left → List Seen
left_in l = whole (drop l.next l.current.now) ++ left_of l.held.items

abbrev pub is_loop : Item → Bool
is_loop (item.Whole s) = false
is_loop (item.Alone x) = false
is_loop (item.Again test body) = true
is_loop (item.TestOfDo body test) = true
is_loop (item.TestOfFor test step body) = false
is_loop (item.StepOfFor test step body) = true
