-- Laws of what is left.
use Rattle.std.proofs.Common.{◌≡◌, ℕ, ◌+◌, ◌-◌, ◌<◌, ◌≤◌, suc, List, [], ◌∷◌, ◌++◌, map, length, drop, take, Option, Some, None, true, false, refl, sym, ap, ◌∙◌, append-nil, append_assoc, add-one, get_or, arith}
use Rattle.std.proofs.Math.Seq.{drop-cons}
use Rattle.std.proofs.lemmas.List.{drop_all}
use Rattle.clight_unit.specs.declared.statement.Statement.{Statement}
use Rattle.clight_sem.specs.States.{Item as Seen, Whole, whole, behind_loop, from_loop}
use Rattle.mean_run.specs.declared.item.Item.{Item}
use Rattle.mean_run.specs.declared.item.Item.TheVariants as item
use Rattle.mean_run.specs.declared.left.Entry.{Entry}
use Rattle.mean_run.specs.Lefts.{seen, items_of, left_of, is_loop}

-- the entry that was added last comes first
pub left_of-push : (es : List Entry) (e : Entry) → left_of (es ++ e ∷ []) ≡ items_of e ++ left_of es
left_of-push [] e = sym (append-nil (items_of e))
left_of-push (x ∷ xs) e = ap (λ (v : List Seen). v ++ items_of x) (left_of-push xs e) ∙ append_assoc (items_of e) (left_of xs) (items_of x)

-- whole statements are passed over
pub behind_loop-whole : (ss : List Statement) (left : List Seen) → behind_loop (whole ss ++ left) ≡ behind_loop left
behind_loop-whole [] left = refl
behind_loop-whole (s ∷ ss) left = behind_loop-whole ss left

pub from_loop-whole : (ss : List Statement) (left : List Seen) → from_loop (whole ss ++ left) ≡ from_loop left
from_loop-whole [] left = refl
from_loop-whole (s ∷ ss) left = from_loop-whole ss left

-- so are items that are no loop items, and at a loop item both stop
pub behind_loop-past : (x : Item) (left : List Seen) → is_loop x ≡ false → behind_loop (seen x ∷ left) ≡ behind_loop left
behind_loop-past (item.Whole s) left h = refl
behind_loop-past (item.Alone s) left h = refl
behind_loop-past (item.Again t b) left h = cc
behind_loop-past (item.TestOfDo b t) left h = cc
behind_loop-past (item.TestOfFor t s b) left h = refl
behind_loop-past (item.StepOfFor t s b) left h = cc

pub from_loop-past : (x : Item) (left : List Seen) → is_loop x ≡ false → from_loop (seen x ∷ left) ≡ from_loop left
from_loop-past (item.Whole s) left h = refl
from_loop-past (item.Alone s) left h = refl
from_loop-past (item.Again t b) left h = cc
from_loop-past (item.TestOfDo b t) left h = cc
from_loop-past (item.TestOfFor t s b) left h = refl
from_loop-past (item.StepOfFor t s b) left h = cc

pub behind_loop-at : (x : Item) (left : List Seen) → is_loop x ≡ true → behind_loop (seen x ∷ left) ≡ left
behind_loop-at (item.Whole s) left h = cc
behind_loop-at (item.Alone s) left h = cc
behind_loop-at (item.Again t b) left h = refl
behind_loop-at (item.TestOfDo b t) left h = refl
behind_loop-at (item.TestOfFor t s b) left h = cc
behind_loop-at (item.StepOfFor t s b) left h = refl

pub from_loop-at : (x : Item) (left : List Seen) → is_loop x ≡ true → from_loop (seen x ∷ left) ≡ seen x ∷ left
from_loop-at (item.Whole s) left h = cc
from_loop-at (item.Alone s) left h = cc
from_loop-at (item.Again t b) left h = refl
from_loop-at (item.TestOfDo b t) left h = refl
from_loop-at (item.TestOfFor t s b) left h = cc
from_loop-at (item.StepOfFor t s b) left h = refl

-- behind the end of a list nothing is left
pub none_left : (n : ℕ) (ss : List Statement) → length ss ≤ n → whole (drop n ss) ≡ []
none_left n ss h = ap whole (drop_all n ss h)

-- a statement of a list comes first of those from its place on
pub first_left : (n : ℕ) (ss : List Statement) (d : Statement) → n < length ss → whole (drop n ss) ≡ Whole (get_or ss n d) ∷ whole (drop (n + 1) ss)
first_left n ss d h = ap whole (drop-cons ss n d h) ∙ ap (λ k. Whole (get_or ss n d) ∷ whole (drop k ss)) (sym (add-one n))

pub whole-nil : (ss : List Statement) → whole ss ++ [] ≡ whole ss
whole-nil ss = append-nil (whole ss)

pub ruleset left_rules = (left_of-push, none_left, first_left, whole-nil, append_assoc, append-nil, behind_loop-whole, from_loop-whole, behind_loop-past, from_loop-past, behind_loop-at, from_loop-at)
