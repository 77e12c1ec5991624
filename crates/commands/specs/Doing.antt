-- What a command does, step by step. A step takes the outside from old to new, and has a value or an answer that ends the command.
use Rattle.std.specs.Prelude.{◌≡◌, ◌⊎◌, List, [], ◌∷◌, Result, Ok, Err}
use Rattle.cc_base.specs.Seen.{FilesSeen, SourceSeen, SinkSeen}
use Rattle.commands.specs.declared.answer.Answer.{Answer}

-- all that a command reaches before its end
pub record Outside : Type 0 where
  pub files : FilesSeen
  pub input : SourceSeen
  pub output : SinkSeen

abbrev pub outside : FilesSeen → SourceSeen → SinkSeen → Outside
outside f i o = record { files = f; input = i; output = o }

abbrev pub Step : Type 0 → Type 1
Step A = Outside → Result A Answer → Outside → Type 0

abbrev pub Command : Type 1
Command = Outside → Answer → Outside → Type 0

-- a step that changes nothing and has this value
abbrev pub Has : {A : Type 0} → A → Step A
Has value old result new = (result ≡ Ok value) × (new ≡ old)

-- a command that changes nothing and has this answer
abbrev pub Says : Answer → Command
Says value old answer new = (answer ≡ value) × (new ≡ old)

-- the step went well, and the next one goes on with its value
pub record Through {A : Type 0} (step : A → Outside → Type 0) (next : A → Outside → Type 0) : Type 0 where
  pub value : A
  pub between : Outside
  pub went : step value between
  pub goes_on : next value between

-- a step, and then a step that uses its value. An answer of the first is the answer
abbrev pub AndThen : {A B : Type 0} → Step A → (A → Step B) → Step B
AndThen step next old (Ok b) new = Through (λ a mid. step old (Ok a) mid) (λ a mid. next a mid (Ok b) new)
AndThen step next old (Err answer) new = step old (Err answer) new ⊎ Through (λ a mid. step old (Ok a) mid) (λ a mid. next a mid (Err answer) new)

-- a step, and then the rest of the command
abbrev pub Then : {A : Type 0} → Step A → (A → Command) → Command
Then step rest old answer new = step old (Err answer) new ⊎ Through (λ a mid. step old (Ok a) mid) (λ a mid. rest a mid answer new)

-- a step for each in turn
abbrev pub Each : {X Y : Type 0} → (X → Step Y) → List X → Step (List Y)
Each step [] = Has []
Each step (x ∷ xs) = AndThen (step x) (λ y. AndThen (Each step xs) (λ ys. Has (y ∷ ys)))
