-- Laws of blocks that are made, ended and written first.
use Rattle.std.proofs.Common.{◌≡◌, ℕ, zero, suc, ◌≤◌, Bool, true, false, cond, List, [], ◌∷◌, length, set, ltb, Option, Some, None, refl, sym, ap, ◌∙◌, arith}
use Rattle.std.proofs.lemmas.List.{length-set}
use Rattle.std.specs.FinMap as map
use Rattle.std.specs.FinMap.{get-insert, get-remove, same_map}
use Rattle.block_mem.specs.Names.{same_name, names_total, names_exact, same_name-true, same_name-refl}
use Rattle.block_mem.specs.Blocks.{Block, Blocks, unset_block, live_in, live, made, ended, first_in, first, inside_in, inside}
use Rattle.block_mem.specs.declared.value.BlockName.{BlockName}
use Rattle.block_mem.specs.declared.value.Byte.{Byte}
use Rattle.mean_start.specs.Making.{block_of, with_block, size_of_block, size_in}

-- a block that takes the place of another takes also that of none
by_same : (t : Bool) (k : Block) (r : Option Block) → cond t (Some k) (cond t None r) ≡ cond t (Some k) r
by_same true k r = refl
by_same false k r = refl

insert-remove : (m : Blocks) (b : BlockName) (k : Block) → map.insert (map.remove m b) b k ≡ map.insert m b k
insert-remove m b k = same_map names_total names_exact (map.insert (map.remove m b) b k) (map.insert m b k) (λ (q : BlockName).
    get-insert names_total (map.remove m b) b k q
    ∙ ap (λ (r : Option Block). cond (same_name q b) (Some k) r) (get-remove names_total m b q)
    ∙ by_same (same_name q b) k (map.get m q)
    ∙ sym (get-insert names_total m b k q))

pub made-ended : (m : Blocks) (b : BlockName) (size : ℕ) (writable : Bool) → made (ended m b) b size writable ≡ made m b size writable
made-ended m b size writable = insert-remove m b (unset_block size writable)

-- where there is no block of the name, none is ended
same_none : (m : Blocks) (b q : BlockName) (t : Bool) → same_name q b ≡ t → map.get m b ≡ None → cond t None (map.get m q) ≡ map.get m q
same_none m b q true e h = sym (ap (map.get m) (same_name-true q b e) ∙ h)
same_none m b q false e h = refl

pub ended-none : (m : Blocks) (b : BlockName) → map.get m b ≡ None → ended m b ≡ m
ended-none m b h = same_map names_total names_exact (map.remove m b) m (λ (q : BlockName).
    get-remove names_total m b q ∙ same_none m b q (same_name q b) refl h)

-- a block that is not live is none
none_of : (r : Option Block) → live_in r ≡ false → r ≡ None
none_of None h = refl
none_of (Some k) h = cc

pub not_live : (m : Blocks) (b : BlockName) → live m b ≡ false → map.get m b ≡ None
not_live m b h = none_of (map.get m b) h

-- a block whose life is over is none
pub get-ended : (m : Blocks) (b : BlockName) → map.get (ended m b) b ≡ None
get-ended m b = get-remove names_total m b b ∙ ap (λ t. cond t None (map.get m b)) (same_name-refl b)

-- a block that is replaced twice
twice : (t : Bool) (j k : Block) (r : Option Block) → cond t (Some k) (cond t (Some j) r) ≡ cond t (Some k) r
twice true j k r = refl
twice false j k r = refl

insert-insert : (m : Blocks) (b : BlockName) (j k : Block) → map.insert (map.insert m b j) b k ≡ map.insert m b k
insert-insert m b j k = same_map names_total names_exact (map.insert (map.insert m b j) b k) (map.insert m b k) (λ (q : BlockName).
    get-insert names_total (map.insert m b j) b k q
    ∙ ap (λ (r : Option Block). cond (same_name q b) (Some k) r) (get-insert names_total m b j q)
    ∙ twice (same_name q b) j k (map.get m q)
    ∙ sym (get-insert names_total m b k q))

-- a block that is put where it stands
there : (m : Blocks) (b q : BlockName) (k : Block) (t : Bool) → same_name q b ≡ t → map.get m b ≡ Some k → cond t (Some k) (map.get m q) ≡ map.get m q
there m b q k true e h = sym (ap (map.get m) (same_name-true q b e) ∙ h)
there m b q k false e h = refl

insert_same : (m : Blocks) (b : BlockName) (k : Block) → map.get m b ≡ Some k → map.insert m b k ≡ m
insert_same m b k h = same_map names_total names_exact (map.insert m b k) m (λ (q : BlockName).
    get-insert names_total m b k q ∙ there m b q k (same_name q b) refl h)

pub get-insert_same : (m : Blocks) (b : BlockName) (k : Block) → map.get (map.insert m b k) b ≡ Some k
get-insert_same m b k = get-insert names_total m b k b ∙ ap (λ t. cond t (Some k) (map.get m b)) (same_name-refl b)

-- a byte that is put first into a block that was just put
pub first-with_block : (m : Blocks) (b : BlockName) (l : List Byte) (w : Bool) (o : ℕ) (x : Byte) → first (with_block m b l w) b o x ≡ with_block m b (set l o x) w
first-with_block m b l w o x =
    ap (λ (r : Option Block). first_in (with_block m b l w) b r o x) (get-insert_same m b (block_of l w))
    ∙ insert-insert m b (block_of l w) (block_of (set l o x) w)

pub inside-with_block : (m : Blocks) (b : BlockName) (l : List Byte) (w : Bool) (o : ℕ) → inside (with_block m b l w) b o ≡ ltb o (length l)
inside-with_block m b l w o = ap (λ (r : Option Block). inside_in r o) (get-insert_same m b (block_of l w))

pub size-with_block : (m : Blocks) (b : BlockName) (l : List Byte) (w : Bool) → size_in (with_block m b l w) b ≡ length l
size-with_block m b l w = ap size_of_block (get-insert_same m b (block_of l w))

-- a byte keeps the size
size_first : (m : Blocks) (b : BlockName) (r : Option Block) (o : ℕ) (x : Byte) → map.get m b ≡ r → size_in (first_in m b r o x) b ≡ size_of_block r
size_first m b None o x e = ap size_of_block e
size_first m b (Some k) o x e = ap size_of_block (get-insert_same m b (record k { bytes = set k.bytes o x })) ∙ length-set k.bytes o x

pub size-first : (m : Blocks) (b : BlockName) (o : ℕ) (x : Byte) → size_in (first m b o x) b ≡ size_in m b
size-first m b o x = size_first m b (map.get m b) o x refl

-- a byte behind the end changes nothing
set_past : {A : Type 0} (xs : List A) (k : ℕ) (x : A) → length xs ≤ k → set xs k x ≡ xs
set_past [] k x h = refl
set_past (y ∷ ys) zero x h = let wrong : ⊥ = omega arith in absurd wrong
set_past (y ∷ ys) (suc k) x h = ap (λ zs. y ∷ zs) (set_past ys k x (omega arith))

first_past_in : (m : Blocks) (b : BlockName) (r : Option Block) (o : ℕ) (x : Byte) → map.get m b ≡ r → size_of_block r ≤ o → first_in m b r o x ≡ m
first_past_in m b None o x e h = refl
first_past_in m b (Some k) o x e h = ap (λ (l : List Byte). map.insert m b (record k { bytes = l })) (set_past k.bytes o x h) ∙ insert_same m b k e

pub first_past : (m : Blocks) (b : BlockName) (o : ℕ) (x : Byte) → size_in m b ≤ o → first m b o x ≡ m
first_past m b o x h = first_past_in m b (map.get m b) o x refl h
