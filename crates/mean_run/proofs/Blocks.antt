-- Laws of blocks that are made and ended.
use Rattle.std.proofs.Common.{◌≡◌, ℕ, Bool, true, false, cond, Option, Some, None, refl, sym, ap, ◌∙◌}
use Rattle.std.specs.FinMap as map
use Rattle.std.specs.FinMap.{get-insert, get-remove, same_map}
use Rattle.block_mem.specs.Names.{same_name, names_total, names_exact, same_name-true, same_name-refl}
use Rattle.block_mem.specs.Blocks.{Block, Blocks, unset_block, live_in, live, made, ended}
use Rattle.block_mem.specs.declared.value.BlockName.{BlockName}

-- a block that takes the place of another takes also that of none
by_same : (t : Bool) (k : Block) (r : Option Block) → cond t (Some k) (cond t None r) ≡ cond t (Some k) r
by_same true k r = refl
by_same false k r = refl

pub insert-remove : (m : Blocks) (b : BlockName) (k : Block) → map.insert (map.remove m b) b k ≡ map.insert m b k
insert-remove m b k = same_map names_total names_exact (map.insert (map.remove m b) b k) (map.insert m b k) (λ (q : BlockName).
    get-insert names_total (map.remove m b) b k q
    ∙ ap (λ (r : Option Block). cond (same_name q b) (Some k) r) (get-remove names_total m b q)
    ∙ by_same (same_name q b) k (map.get m q)
    ∙ sym (get-insert names_total m b k q))

pub made-ended : (m : Blocks) (b : BlockName) (size : ℕ) → made (ended m b) b size true ≡ made m b size true
made-ended m b size = insert-remove m b (unset_block size true)

-- where there is no block of the name, none is ended
same_none : (m : Blocks) (b q : BlockName) (t : Bool) → same_name q b ≡ t → map.get m b ≡ None → cond t None (map.get m q) ≡ map.get m q
same_none m b q true e h = sym (ap (map.get m) (same_name-true q b e) ∙ h)
same_none m b q false e h = refl

pub ended-none : (m : Blocks) (b : BlockName) → map.get m b ≡ None → ended m b ≡ m
ended-none m b h = same_map names_total names_exact (map.remove m b) m (λ (q : BlockName).
    get-remove names_total m b q ∙ same_none m b q (same_name q b) refl h)

-- a block that is replaced twice
twice : (t : Bool) (j k : Block) (r : Option Block) → cond t (Some k) (cond t (Some j) r) ≡ cond t (Some k) r
twice true j k r = refl
twice false j k r = refl

pub insert-insert : (m : Blocks) (b : BlockName) (j k : Block) → map.insert (map.insert m b j) b k ≡ map.insert m b k
insert-insert m b j k = same_map names_total names_exact (map.insert (map.insert m b j) b k) (map.insert m b k) (λ (q : BlockName).
    get-insert names_total (map.insert m b j) b k q
    ∙ ap (λ (r : Option Block). cond (same_name q b) (Some k) r) (get-insert names_total m b j q)
    ∙ twice (same_name q b) j k (map.get m q)
    ∙ sym (get-insert names_total m b k q))

-- a block that is not live is none
none_of : (r : Option Block) → live_in r ≡ false → r ≡ None
none_of None h = refl
none_of (Some k) h = cc

pub not_live : (m : Blocks) (b : BlockName) → live m b ≡ false → map.get m b ≡ None
not_live m b h = none_of (map.get m b) h

-- a block whose life is over is none
pub get-ended : (m : Blocks) (b : BlockName) → map.get (ended m b) b ≡ None
get-ended m b = get-remove names_total m b b ∙ ap (λ t. cond t None (map.get m b)) (same_name-refl b)
