-- How far the rows of live temporaries have come. Row n has what was found to be live after place n.
use Rattle.std.specs.Prelude.{◌≡◌, ℕ, zero, suc, ◌+◌, ◌<◌, ◌⊎◌, ◌↔◌, Bool, true, false, cond, List, length}
use Rattle.std.specs.List.{Contains}
use Rattle.std.specs.List.Sorted.{IsStrictlyIncreasing}
use Rattle.flow_walks.specs.Flows.{Flow, Routine, places}
use Rattle.flow_walks.specs.Liveness.{IsNode, IsLive}
use Rattle.flow_walks.specs.Lists.{IsPlace, list_of}
use Rattle.bit_rows.specs.Rows.{Rows, height, has}

-- a row for each place, and a bit for each temporary that is read
pub record Fits (r : Routine ℕ) (rows : Rows) : Type 0 where
  pub high : height rows ≡ length (places r)
  pub wide : (n : ℕ) (flow : Flow ℕ) (k : ℕ) → IsNode r n flow → Contains flow.reads k → k < rows.width

-- rows have nothing but what is live
abbrev pub IsSound : Routine ℕ → Rows → Type 0
IsSound r rows = (n : ℕ) (place : Flow ℕ) (k : ℕ) → IsPlace r n place → has rows n k ≡ true → IsLive r place k

-- node m reads k, or has it in its row and does not write it
abbrev pub IsAsked : Routine ℕ → Rows → ℕ → ℕ → Type 0
IsAsked r rows m k = (flow : Flow ℕ) × IsNode r m flow × (Contains flow.reads k ⊎ ((has rows m k ≡ true) × (¬ Contains flow.writes k)))

-- row n has all that is asked at m
abbrev pub HasAsked : Routine ℕ → Rows → ℕ → ℕ → Type 0
HasAsked r rows n m = (k : ℕ) → IsAsked r rows m k → has rows n k ≡ true

-- row n has all that is asked at nodes that follow place n
abbrev pub IsSettled : Routine ℕ → Rows → ℕ → Type 0
IsSettled r rows n = (place : Flow ℕ) (m : ℕ) → IsPlace r n place → Contains place.next m → HasAsked r rows n m

-- how many of the first bits are clear
abbrev pub clear_in : (ℕ → Bool) → ℕ → ℕ
clear_in row zero = 0
clear_in row (suc bits) = cond (row bits) 0 1 + clear_in row bits

abbrev pub clear_rows : (ℕ → ℕ → Bool) → ℕ → ℕ → ℕ
clear_rows table width zero = 0
clear_rows table width (suc rows) = clear_in (table rows) width + clear_rows table width rows

-- how many bits are clear
abbrev pub clear : Rows → ℕ
clear rows = clear_rows (has rows) rows.width (height rows)

-- what is added, and nothing else, and whether anything changed
pub record Adds (added : ℕ → ℕ → Type 0) (old new : Rows) (changed : Bool) : Type 0 where
  pub high : height new ≡ height old
  pub wide : new.width ≡ old.width
  pub there : (n k : ℕ) → added n k → has new n k ≡ true
  pub kept : (n k : ℕ) → has old n k ≡ true → has new n k ≡ true
  pub only : (n k : ℕ) → has new n k ≡ true → (has old n k ≡ true) ⊎ added n k
  pub still : changed ≡ false → new ≡ old
  pub falls : changed ≡ true → clear new < clear old

-- the list comes into a row
abbrev pub InRow : ℕ → List ℕ → ℕ → ℕ → Type 0
InRow row list n k = (n ≡ row) × Contains list k

-- what is in the row `from` and not written comes into a row
abbrev pub Unwritten : Rows → ℕ → ℕ → List ℕ → ℕ → ℕ → Type 0
Unwritten rows row from writes n k = (n ≡ row) × (has rows from k ≡ true) × (¬ Contains writes k)

-- what is asked at m comes into a row
abbrev pub AskedInRow : Routine ℕ → Rows → ℕ → ℕ → ℕ → ℕ → Type 0
AskedInRow r rows row m n k = (n ≡ row) × IsAsked r rows m k

-- what is asked at any of these nodes
abbrev pub AskedOfAny : Routine ℕ → Rows → ℕ → List ℕ → ℕ → ℕ → Type 0
AskedOfAny r rows row nodes n k = (m : ℕ) × Contains nodes m × AskedInRow r rows row m n k

-- the members of a list are below a number
abbrev pub AreBelow : ℕ → List ℕ → Type 0
AreBelow width list = (k : ℕ) → Contains list k → k < width

-- rows that were sound are so still, and where something changed there are fewer clear bits
pub record Moves (r : Routine ℕ) (old new : Rows) (changed : Bool) : Type 0 where
  pub high : height new ≡ height old
  pub wide : new.width ≡ old.width
  pub sound : IsSound r old → IsSound r new
  pub still : changed ≡ false → new ≡ old
  pub falls : changed ≡ true → clear new < clear old

-- the members of the first rows, in rising order
pub record Listed (rows : Rows) (count : ℕ) (lists : List (List ℕ)) : Type 0 where
  pub long : length lists ≡ count
  pub members : (n k : ℕ) → n < count → Contains (list_of lists n) k ↔ (has rows n k ≡ true)
  pub rising : (n : ℕ) → IsStrictlyIncreasing (list_of lists n)
