-- Words that are stored in code.
use Rattle.std.proofs.Common.{◌≡◌, ℕ, ◌+◌, ◌-◌, ◌≤◌, List, [], ◌++◌, take, drop, get_or, length, ap, ◌∙◌, arith, inl, inr, append-nil}
use Rattle.std.proofs.lemmas.List.{get_or-take, get_or-drop, get_or_append_left, get_or-append_right, length-take-le, length-drop, drop_all, take_all}
use Rattle.elf_linker.specs.LinkSteps.{IsAside}

-- nothing changes beside the word
pub kept_aside : (code word : List ℕ) (at : ℕ) → at + 4 ≤ length code → length word ≡ 4 → (k : ℕ) → IsAside at k → get_or (take at code ++ (word ++ drop 4 (drop at code))) k 0 ≡ get_or code k 0
kept_aside code word at inside w k (inl before) =
    get_or_append_left (take at code) (word ++ drop 4 (drop at code)) 0 k (let n = length-take-le at code (omega (arith, inside)) in omega (arith, n, before)) ∙ get_or-take at code k 0 before
kept_aside code word at inside w k (inr behind) =
    let n = length-take-le at code (omega (arith, inside)) in
    let place : at + (4 + (k - at - 4)) ≡ k = omega (arith, behind) in
    get_or-append_right (take at code) (word ++ drop 4 (drop at code)) at k 0 n (omega (arith, behind)) ∙ get_or-append_right word (drop 4 (drop at code)) 4 (k - at) 0 w (omega (arith, behind))
    ∙ get_or-drop 4 (drop at code) (k - at - 4) 0 ∙ get_or-drop at code (4 + (k - at - 4)) 0 ∙ ap (λ (i : ℕ). get_or code i 0) place

-- the rest of the code from a place on, with the word stored there
pub kept_by : (code rest word : List ℕ) (at : ℕ) → at + 4 ≤ length code → length word ≡ 4 → rest ≡ word ++ drop 4 (take (length code - at) (drop at code)) → (k : ℕ) → IsAside at k
    → get_or (take at code ++ (rest ++ drop (length code - at) (drop at code))) k 0 ≡ get_or code k 0
kept_by code rest word at inside w e k aside =
    let whole : take (length code - at) (drop at code) ≡ drop at code = take_all (length code - at) (drop at code) (let n = length-drop at code in omega (arith, n)) in
    let none : drop (length code - at) (drop at code) ≡ [] = drop_all (length code - at) (drop at code) (let n = length-drop at code in omega (arith, n)) in
    ap (λ (xs : List ℕ). get_or (take at code ++ (rest ++ xs)) k 0) none ∙ ap (λ (xs : List ℕ). get_or (take at code ++ xs) k 0) (append-nil rest)
    ∙ ap (λ (xs : List ℕ). get_or (take at code ++ xs) k 0) (e ∙ ap (λ (xs : List ℕ). word ++ drop 4 xs) whole) ∙ kept_aside code word at inside w k aside
