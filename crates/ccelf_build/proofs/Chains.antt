-- The chain of a unit's steps, and steps that are taken for each of a list.
use Rattle.std.proofs.Common.{◌≡◌, ◌∷◌, ℕ, List, Result, Ok, Err, inl, inr}
use Rattle.commands.specs.declared.answer.Answer.{Answer}
use Rattle.commands.specs.Doing.{Outside, Step, AndThen, Each, Has}
use Rattle.commands.specs.Steps.{Stores, Compiles, Keeps}

-- what is left of a unit's chain once its object was put, once it was made, and once its text was got
abbrev pub keep_it : List ℕ → Unit {0} → Step (List ℕ)
keep_it object _ = Keeps object

abbrev pub store_it : List ℕ → List ℕ → Step (List ℕ)
store_it name object = AndThen (Stores name object) (keep_it object)

abbrev pub compile_it : List ℕ → List ℕ → List ℕ → Step (List ℕ)
compile_it unit name text = AndThen (Compiles unit text) (store_it name)

-- a first value is put before those of the rest, which alone can fail
abbrev pub with_first : {Y : Type 0} → Y → List Y → Step (List Y)
with_first y ys = Has (y ∷ ys)

pub rest_failed : {X Y : Type 0} (step : X → Step Y) (xs : List X) (y : Y) (old new : Outside) (e : Answer) → AndThen (Each step xs) (with_first y) old (Err e) new → Each step xs old (Err e) new
rest_failed step xs y old new e (inl h) = h
rest_failed {X} {Y} step xs y old new e (inr h) = let clash : ◌≡◌ {A = Result (List Y) Answer} (Err e) (Ok (y ∷ h.value)) = h.goes_on.0 in cc
