-- Bytes that stand at a place of a file.
use Rattle.std.proofs.Common.{◌≡◌, refl, sym, ap, subst, ◌∙◌, ℕ, zero, suc, ◌+◌, ◌*◌, ◌-◌, ◌<◌, ◌≤◌, List, [], ◌∷◌, ◌++◌, length, take, drop, get_or, replicate, arith}
use Rattle.std.specs.List.{flat_map}
use Rattle.std.proofs.Math.Seq.{take-add}
use Rattle.std.proofs.lemmas.List.{length-append, length-drop, length-take, drop-drop, get_or-take, get_or-drop, take_at, drop_at}
use Rattle.elf_file.specs.Places.{Stands}
use Rattle.elf_file.specs.Object.{bytes_in}

-- lists of one length that are the front of one list
same_front : (xs ys us vs : List ℕ) → length xs ≡ length us → xs ++ ys ≡ us ++ vs → (xs ≡ us) × (ys ≡ vs)
same_front xs ys us vs n e =
    let front : xs ≡ us = sym (take_at xs ys (length xs) refl) ∙ ap (take (length xs)) e ∙ take_at us vs (length xs) (sym n) in
    (front, sym (drop_at xs ys (length xs) refl) ∙ ap (drop (length xs)) e ∙ drop_at us vs (length xs) (sym n))

pub stands_join : (file xs ys : List ℕ) (at : ℕ) → Stands file at xs → Stands file (at + length xs) ys → Stands file at (xs ++ ys)
stands_join file xs ys at s t = record {
  are = ap (λ (n : ℕ). take n (drop at file)) (length-append xs ys) ∙ take-add (length xs) (length ys) (drop at file)
      ∙ ap (λ (zs : List ℕ). zs ++ take (length ys) (drop (length xs) (drop at file))) s.are
      ∙ ap (λ (zs : List ℕ). xs ++ zs) (ap (λ (zs : List ℕ). take (length ys) zs) (drop-drop (length xs) at file) ∙ t.are);
}

pub stands_split : (file xs ys : List ℕ) (at : ℕ) → Stands file at (xs ++ ys) → Stands file at xs × Stands file (at + length xs) ys
stands_split file xs ys at s =
    let whole : take (length xs) (drop at file) ++ take (length ys) (drop (length xs) (drop at file)) ≡ xs ++ ys =
    sym (ap (λ (n : ℕ). take n (drop at file)) (length-append xs ys) ∙ take-add (length xs) (length ys) (drop at file)) ∙ s.are in
    let long : length (take (length xs) (drop at file)) ≡ length xs = omega (arith, length-take (length xs) (drop at file), ap length s.are, length-take (length (xs ++ ys)) (drop at file), length-append xs ys) in
    let parts = same_front (take (length xs) (drop at file)) (take (length ys) (drop (length xs) (drop at file))) xs ys long whole in
    (record { are = parts.0 }, record { are = ap (λ (zs : List ℕ). take (length ys) zs) (sym (drop-drop (length xs) at file)) ∙ parts.1 })

pub stands_empty : (file : List ℕ) (at : ℕ) → Stands file at []
stands_empty file at = record { are = refl }

pub stands_at : {file bytes : List ℕ} {a : ℕ} → Stands file a bytes → (b : ℕ) → a ≡ b → Stands file b bytes
stands_at {file} {bytes} s b e = let P : ℕ → Type 0 = λ at. Stands file at bytes in subst P e s

pub stands_bytes : {file bytes : List ℕ} {a : ℕ} → Stands file a bytes → (other : List ℕ) → bytes ≡ other → Stands file a other
stands_bytes {file} {bytes} {a} s other e = let P : List ℕ → Type 0 = λ xs. Stands file a xs in subst P e s

pub stands_get : (file bytes : List ℕ) (at i d : ℕ) → Stands file at bytes → i < length bytes → get_or file (at + i) d ≡ get_or bytes i d
stands_get file bytes at i d s h =
    sym (get_or-drop at file i d) ∙ sym (get_or-take (length bytes) (drop at file) i d h) ∙ ap (λ (xs : List ℕ). get_or xs i d) s.are

-- what stands has room in the file
pub stands_inside : (file bytes : List ℕ) (at : ℕ) → Stands file at bytes → 0 < length bytes → at + length bytes ≤ length file
stands_inside file bytes at s some = omega (arith, ap length s.are, length-take (length bytes) (drop at file), length-drop at file)

pub bytes_stand : (file : List ℕ) (at size : ℕ) → at + size ≤ length file → Stands file at (bytes_in file at size)
bytes_stand file at size h =
    let long : length (bytes_in file at size) ≡ size = omega (arith, length-take size (drop at file), length-drop at file) in
    record { are = ap (λ (n : ℕ). take n (drop at file)) long }

-- a gap of no bytes
pub no_gap : (file : List ℕ) (from to : ℕ) → to ≤ from → Stands file from (replicate (to - from) 0)
no_gap file from to h = let none : 0 ≡ to - from = omega arith in stands_bytes (stands_empty file from) (replicate (to - from) 0) (ap (λ (n : ℕ). replicate n 0) none)

-- entries of one size that stand one after the other, as a table
pub table_stands : {X : Type 0} (entry : X → List ℕ) (size : ℕ) (file : List ℕ) (d : X) (xs : List X) (at : ℕ) → ((x : X) → length (entry x) ≡ size)
    → ((k : ℕ) → k < length xs → Stands file (at + size * k) (entry (get_or xs k d))) → Stands file at (flat_map entry xs)
table_stands entry size file d [] at long each = stands_empty file at
table_stands entry size file d (x ∷ xs) at long each =
    let first = stands_at (each 0 (omega arith)) at (omega arith) in
    let behind : at + size ≡ at + length (entry x) = omega (arith, long x) in
    stands_join file (entry x) (flat_map entry xs) at first
    (stands_at (table_stands entry size file d xs (at + size) long (λ k h. stands_at (each (suc k) (omega arith)) (at + size + size * k) (omega arith))) (at + length (entry x)) behind)

pub table_entry : {X : Type 0} (entry : X → List ℕ) (size : ℕ) (file : List ℕ) (d : X) (xs : List X) (at : ℕ) → ((x : X) → length (entry x) ≡ size)
    → Stands file at (flat_map entry xs) → (k : ℕ) → k < length xs → Stands file (at + size * k) (entry (get_or xs k d))
table_entry entry size file d [] at long s k h = absurd (omega arith)
table_entry entry size file d (x ∷ xs) at long s zero h = stands_at (stands_split file (entry x) (flat_map entry xs) at s).0 (at + size * 0) (omega arith)
table_entry entry size file d (x ∷ xs) at long s (suc k) h =
    let rest = stands_at (stands_split file (entry x) (flat_map entry xs) at s).1 (at + size) (omega (arith, long x)) in
    stands_at (table_entry entry size file d xs (at + size) long rest k (omega arith)) (at + size * suc k) (omega arith)
