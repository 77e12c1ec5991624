-- What a node asks for, in the parts in which the program finds it.
use Rattle.std.specs.Prelude.{◌≡◌, ℕ, ◌<◌, ◌⊎◌, ◌||◌, Bool, true, false, List, [], ◌∷◌, ◌++◌}
use Rattle.std.specs.List.{Contains}
use Rattle.std.proofs.Common.{sym, subst, arith, inl, inr}
use Rattle.std.proofs.lemmas.List.Elements.{Contains-append_left, Contains-append_right}
use Rattle.flow_walks.specs.Flows.{Flow, Routine}
use Rattle.flow_walks.specs.Liveness.{IsNode}
use Rattle.flow_walks.specs.laws.Members.{none_in, first_in, only_in}
use Rattle.bit_rows.specs.Rows.{Rows, has}
use Rattle.reg_live.specs.Sweeps.{Adds, InRow, Unwritten, AskedInRow, AskedOfAny, AreBelow}
use Rattle.reg_live.proofs.Adding.{adds_as, adds_then, adds_none}

pub bits_left : (rows : Rows) (xs ys zs all : List ℕ) → (xs ++ ys) ++ zs ≡ all → AreBelow rows.width all → AreBelow rows.width xs
bits_left rows xs ys zs all e bits k c = bits k (let P : List ℕ → Type 0 = λ list. Contains list k in subst P e (Contains-append_left (xs ++ ys) zs k (Contains-append_left xs ys k c)))

pub bits_middle : (rows : Rows) (xs ys zs all : List ℕ) → (xs ++ ys) ++ zs ≡ all → AreBelow rows.width all → AreBelow rows.width ys
bits_middle rows xs ys zs all e bits k c = bits k (let P : List ℕ → Type 0 = λ list. Contains list k in subst P e (Contains-append_left (xs ++ ys) zs k (Contains-append_right xs ys k c)))

pub bits_right : (rows : Rows) (xs ys zs all : List ℕ) → (xs ++ ys) ++ zs ≡ all → AreBelow rows.width all → AreBelow rows.width zs
bits_right rows xs ys zs all e bits k c = bits k (let P : List ℕ → Type 0 = λ list. Contains list k in subst P e (Contains-append_right (xs ++ ys) zs k c))

-- rows that are as wide have the same bits
pub bits_still : (old new : Rows) (list : List ℕ) → new.width ≡ old.width → AreBelow old.width list → AreBelow new.width list
bits_still old new list wide bits k c = let h : k < old.width = bits k c in omega arith

same_node : (r : Routine ℕ) (m : ℕ) (flow other : Flow ℕ) → IsNode r m flow → IsNode r m other → flow ≡ other
same_node r m flow other e f = cc

-- the row of a node without what it writes, and then what it reads
pub asked_adds : (r : Routine ℕ) (old mid new : Rows) (row m : ℕ) (flow : Flow ℕ) (a b : Bool) → IsNode r m flow → Adds (Unwritten old row m flow.writes) old mid a → Adds (InRow row flow.reads) mid new b → Adds (AskedInRow r old row m) old new (a || b)
asked_adds r old mid new row m flow a b here x y =
    adds_as (λ n k. Unwritten old row m flow.writes n k ⊎ InRow row flow.reads n k) (AskedInRow r old row m) old new (a || b)
    (λ n k p. elim p [ inl unwritten ↦ (unwritten.0, (flow, here, inr (unwritten.1, unwritten.2))) | inr read ↦ (read.0, (flow, here, inl read.1)) ])
    (λ n k q.
    let is : q.1.0 ≡ flow = same_node r m q.1.0 flow q.1.1 here in
    let P : Flow ℕ → Type 0 = λ f. Contains f.reads k ⊎ ((has old m k ≡ true) × (¬ Contains f.writes k)) in
    elim (subst P is q.1.2) [ inl read ↦ inr (q.0, read) | inr listed ↦ inl (q.0, listed.0, listed.1) ])
    (adds_then (Unwritten old row m flow.writes) (InRow row flow.reads) old mid new a b x y)

-- where the number has no node, nothing is asked
pub asked_none : (r : Routine ℕ) (rows : Rows) (row m : ℕ) → ((flow : Flow ℕ) → ¬ IsNode r m flow) → Adds (AskedInRow r rows row m) rows rows false
asked_none r rows row m none = adds_none (AskedInRow r rows row m) rows (λ n k p. none p.1.0 p.1.1)

pub asked_of_none : (r : Routine ℕ) (rows : Rows) (row : ℕ) → Adds (AskedOfAny r rows row []) rows rows false
asked_of_none r rows row = adds_none (AskedOfAny r rows row []) rows (λ n k p. none_in p.0 p.1)

pub asked_of_one : (r : Routine ℕ) (old new : Rows) (row m : ℕ) (changed : Bool) → Adds (AskedInRow r old row m) old new changed → Adds (AskedOfAny r old row (m ∷ [])) old new changed
asked_of_one r old new row m changed a =
    adds_as (AskedInRow r old row m) (AskedOfAny r old row (m ∷ [])) old new changed
    (λ n k p. (m, first_in m [], p))
    (λ n k q. let P : ℕ → Type 0 = λ j. AskedInRow r old row j n k in subst P (sym (only_in m q.0 q.1)) q.2)
    a
