-- Steps that are taken for each of a list, one after the other.
use Rattle.std.proofs.Common.{◌≡◌, ℕ, ◌+◌, ◌<◌, List, [], ◌∷◌, ◌++◌, drop, get_or, length, Result, Ok, Err, refl, sym, ap, ◌∙◌, subst, inl, inr, append_assoc, append-nil, arith, String, true, false}
use Rattle.std.specs.Prelude.{string_bytes}
use Rattle.std.specs.declared.alloc.Global.{Global}
use Rattle.std.specs.Result.{IsErr, IsErrAnd}
use Rattle.std.proofs.lemmas.List.{drop_more, drop_all, get_or-map}
use Rattle.std.proofs.lemmas.List.{length-map}
use Rattle.command_words.specs.Orders.{texts}
use Rattle.commands.specs.declared.answer.Answer.{Answer}
use Rattle.commands.specs.Doing.{Outside, Step, Each}

-- what came before what the rest comes to
abbrev pub prepend : {Y : Type 0} → List Y → Result (List Y) Answer → Result (List Y) Answer
prepend ys (Ok zs) = Ok (ys ++ zs)
prepend ys (Err answer) = Err answer

-- the steps so far have these values, and what the rest comes to is what all come to
abbrev pub Going : {X Y : Type 0} → (X → Step Y) → List X → Outside → List X → List Y → Outside → Type 0
Going {X} {Y} step xs start rest ys now = (result : Result (List Y) Answer) (new : Outside) → Each step rest now result new → Each step xs start (prepend ys result) new

pub prepend_none : {Y : Type 0} (result : Result (List Y) Answer) → result ≡ prepend [] result
prepend_none (Ok zs) = refl
prepend_none (Err answer) = refl

pub prepend_two : {Y : Type 0} (ys : List Y) (y : Y) (result : Result (List Y) Answer) → prepend ys (prepend (y ∷ []) result) ≡ prepend (ys ++ y ∷ []) result
prepend_two {Y} ys y (Ok zs) = ap (λ (xs : List Y). Ok xs) (sym (append_assoc ys (y ∷ []) zs))
prepend_two ys y (Err answer) = refl

pub begun : {X Y : Type 0} (step : X → Step Y) (xs : List X) (start : Outside) → Going step xs start xs [] start
begun {X} {Y} step xs start result new e = let P : Result (List Y) Answer → Type 0 = λ r. Each step xs start r new in subst P (prepend_none result) e

one_step : {X Y : Type 0} (step : X → Step Y) (x : X) (rest : List X) (y : Y) (now next : Outside) → step x now (Ok y) next → (result : Result (List Y) Answer) (new : Outside) → Each step rest next result new → Each step (x ∷ rest) now (prepend (y ∷ []) result) new
one_step step x rest y now next went (Ok zs) new e = record { value = y; between = next; went = went; goes_on = record { value = zs; between = new; went = e; goes_on = (refl, refl) } }
one_step step x rest y now next went (Err answer) new e = inr (record { value = y; between = next; went = went; goes_on = inl e })

pub one_more : {X Y : Type 0} (step : X → Step Y) (xs : List X) (start : Outside) (x : X) (rest : List X) (ys : List Y) (y : Y) (now next : Outside) → Going step xs start (x ∷ rest) ys now → step x now (Ok y) next
    → Going step xs start rest (ys ++ y ∷ []) next
one_more {X} {Y} step xs start x rest ys y now next going went result new e =
    let P : Result (List Y) Answer → Type 0 = λ r. Each step xs start r new in
    subst P (prepend_two ys y result) (going (prepend (y ∷ []) result) new (one_step step x rest y now next went result new e))

pub failed : {X Y : Type 0} (step : X → Step Y) (xs : List X) (start : Outside) (x : X) (rest : List X) (ys : List Y) (now next : Outside) (answer : Answer) → Going step xs start (x ∷ rest) ys now → step x now (Err answer) next → Each step xs start (Err answer) next
failed step xs start x rest ys now next answer going went = going (Err answer) next (inl went)

pub all_done : {X Y : Type 0} (step : X → Step Y) (xs : List X) (start : Outside) (ys : List Y) (now : Outside) → Going step xs start [] ys now → Each step xs start (Ok ys) now
all_done {X} {Y} step xs start ys now going =
    let P : List Y → Type 0 = λ zs. Each step xs start (Ok zs) now in subst P (append-nil ys) (going (Ok []) now (refl, refl))

-- the first of the names that are left
pub opened : (names : List (String Global)) (k : ℕ) (name : String Global) → k < length names → name ≡ get_or names k name → drop k (texts names) ≡ string_bytes name ∷ drop (k + 1) (texts names)
opened names k name l at =
    let n = length-map names string_bytes in
    drop_more (texts names) k (string_bytes name) (omega (arith, l, n)) ∙ ap (λ (b : List ℕ). b ∷ drop (k + 1) (texts names)) (get_or-map string_bytes names k name (string_bytes name) l ∙ ap string_bytes (sym at))

pub none_left : (names : List (String Global)) (k : ℕ) → length names ≡ k → drop k (texts names) ≡ []
none_left names k l = let n = length-map names string_bytes in drop_all k (texts names) (omega (arith, l, n))

-- an answer that is handed on
pub handed_on : {A : Type 0} (r : Result A Answer) (answer : Answer) → IsErr r × IsErrAnd r (λ e. e ≡ answer) → r ≡ Err answer
handed_on (Ok value) answer h = let clash : false ≡ true = h.0 in cc
handed_on (Err told) answer h = ap (λ (e : Answer). Err e) h.1
