-- Memory is made step by step.
use Rattle.std.proofs.Common.{◌≡◌, ℕ, zero, suc, ◌+◌, ◌-◌, ◌<◌, ◌≤◌, Bool, true, false, not, ◌&&◌, cond, List, [], ◌∷◌, ◌++◌, length, map, replicate, set, get_or, take, drop, ltb, Option, Some, None, refl, sym, ap, ◌∙◌, arith, length-append, add-one}
use Rattle.std.proofs.lemmas.Bool.Decides.{nat_tests}
use Rattle.std.proofs.lemmas.List.{length-replicate, length-map}
use Rattle.std.specs.FinMap as map_of
use Rattle.cc_base.specs.declared.face.GlobalPart.{GlobalPart}
use Rattle.cc_base.specs.declared.face.WordUse.{WordUse}
use Rattle.block_mem.specs.Access.{put_four}
use Rattle.block_mem.specs.Blocks.{Block, Blocks, first, made, inside}
use Rattle.cc_base.specs.Faces.{all_defs, is_defined}
use Rattle.block_mem.specs.Start.{UnitParts, pointer_word, with_pointers, blocks_of_unit, blocks_from, faces_of, is_first, is_shared, object_of, meant, shared_block, initial_bytes, plain_bytes}
use Rattle.block_mem.specs.Names.{name_cmp}
use Rattle.block_mem.specs.declared.value.BlockName.{BlockName}
use Rattle.block_mem.specs.declared.value.BlockName.TheVariants.{Global}
use Rattle.block_mem.specs.declared.value.Byte.{Byte}
use Rattle.block_mem.specs.declared.value.Byte.TheVariants.{Unset, Plain, Part}
use Rattle.mean_start.specs.Making.{with_block, zeros_behind, pointed, all_pointed, object_made, with_blocks}
use Rattle.clight_unit.specs.declared.unit.ClightUnit.{ClightUnit as TypedUnit}
use Rattle.clight_sem.specs.Functions.{parts_of, all_parts}
use Rattle.mean_start.proofs.Lists.{drop_at}
use Rattle.mean_start.proofs.Blocks.{first-with_block, inside-with_block}

-- the numbers of a block's bytes
abbrev pub padded : List ℕ → ℕ → List ℕ
padded bytes size = bytes ++ replicate (size - length bytes) 0

pub length-padded : (bytes : List ℕ) (size : ℕ) → length bytes ≤ size → length (padded bytes size) ≡ size
length-padded bytes size h = length-append bytes (replicate (size - length bytes) 0) ∙ ap (λ n. length bytes + n) (length-replicate (size - length bytes) 0) ∙ omega arith

get_zero : (n o : ℕ) → ◌≡◌ {A = ℕ} (get_or (replicate n 0) o 0) 0
get_zero zero o = refl
get_zero (suc n) zero = refl
get_zero (suc n) (suc o) = get_zero n o

pub get-padded : (bytes : List ℕ) (n o : ℕ) → get_or (bytes ++ replicate n 0) o 0 ≡ get_or bytes o 0
get-padded [] n o = get_zero n o
get-padded (b ∷ bs) n zero = refl
get-padded (b ∷ bs) n (suc o) = get-padded bs n o

-- the first bytes are there, and the others unset
abbrev pub so_far : List ℕ → ℕ → ℕ → List Byte
so_far xs o left = map (λ x. Plain x) (take o xs) ++ replicate left Unset

pub next_byte : (xs : List ℕ) (o left : ℕ) → length xs ≡ o + suc left → set (so_far xs o (suc left)) o (Plain (get_or xs o 0)) ≡ so_far xs (suc o) left
next_byte [] o left h = let no : ⊥ = omega arith in absurd no
next_byte (x ∷ xs) zero left h = refl
next_byte (x ∷ xs) (suc o) left h = ap (λ l. Plain x ∷ l) (next_byte xs o left (omega arith))

pub length-so_far : (xs : List ℕ) (o left : ℕ) → o ≤ length xs → length (so_far xs o left) ≡ o + left
length-so_far xs zero left h = let same : left ≡ 0 + left = omega arith in length-replicate left Unset ∙ same
length-so_far [] (suc o) left h = let no : ⊥ = omega arith in absurd no
length-so_far (x ∷ xs) (suc o) left h = let more : length (so_far xs o left) ≡ o + left = length-so_far xs o left (omega arith) in omega (arith, more)

-- a new block is filled byte by byte
less_test : (o n : ℕ) → o < n → ltb o n ≡ true
less_test o n h = grind (arith, nat_tests)

pub filled_inside : (m : Blocks) (b : BlockName) (bytes : List ℕ) (size o : ℕ) (w : Bool) → length bytes ≤ size → o < size → inside (with_block m b (so_far (padded bytes size) o (size - o)) w) b o ≡ true
filled_inside m b bytes size o w fit h =
    let long : length (padded bytes size) ≡ size = length-padded bytes size fit in
    let all : length (so_far (padded bytes size) o (size - o)) ≡ o + (size - o) = length-so_far (padded bytes size) o (size - o) (omega (arith, long)) in
    inside-with_block m b (so_far (padded bytes size) o (size - o)) w o ∙ less_test o (length (so_far (padded bytes size) o (size - o))) (omega (arith, all))

pub filled_on : (m : Blocks) (b : BlockName) (bytes : List ℕ) (size o byte : ℕ) (w : Bool) → length bytes ≤ size → o < size → byte ≡ get_or bytes o 0 → first (with_block m b (so_far (padded bytes size) o (size - o)) w) b o (Plain byte) ≡ with_block m b (so_far (padded bytes size) (o + 1) (size - (o + 1))) w
filled_on m b bytes size o byte w fit h e =
    let long : length (padded bytes size) ≡ size = length-padded bytes size fit in
    let more : size - o ≡ suc (size - (o + 1)) = omega arith in
    let room : length (padded bytes size) ≡ o + suc (size - (o + 1)) = omega (arith, long) in
    let is : byte ≡ get_or (padded bytes size) o 0 = e ∙ sym (get-padded bytes (size - length bytes) o) in
    first-with_block m b (so_far (padded bytes size) o (size - o)) w o (Plain byte)
    ∙ ap (λ (k : ℕ). with_block m b (set (so_far (padded bytes size) o k) o (Plain byte)) w) more
    ∙ ap (λ (n : ℕ). with_block m b (set (so_far (padded bytes size) o (suc (size - (o + 1)))) o (Plain n)) w) is
    ∙ ap (λ (l : List Byte). with_block m b l w) (next_byte (padded bytes size) o (size - (o + 1)) room)
    ∙ ap (λ (k : ℕ). with_block m b (so_far (padded bytes size) k (size - (o + 1))) w) (sym (add-one o))

-- an initial pointer
four : (m : Blocks) (b : BlockName) (l : List Byte) (w : Bool) (o : ℕ) (p q r s : Byte) → first (first (first (first (with_block m b l w) b o p) b (o + 1) q) b (o + 2) r) b (o + 3) s ≡ with_block m b (put_four l o p q r s) w
four m b l w o p q r s =
    ap (λ (n : Blocks). first (first (first n b (o + 1) q) b (o + 2) r) b (o + 3) s) (first-with_block m b l w o p)
    ∙ ap (λ (n : Blocks). first (first n b (o + 2) r) b (o + 3) s) (first-with_block m b (set l o p) w (o + 1) q)
    ∙ ap (λ (n : Blocks). first n b (o + 3) s) (first-with_block m b (set (set l o p) (o + 1) q) w (o + 2) r)
    ∙ first-with_block m b (set (set (set l o p) (o + 1) q) (o + 2) r) w (o + 3) s

pub pointed-with_block : (m : Blocks) (b : BlockName) (l : List Byte) (w : Bool) (o plus : ℕ) (meant : Option BlockName) → pointed (with_block m b l w) b o plus meant ≡ with_block m b (pointer_word l o plus meant) w
pointed-with_block m b l w o plus None = four m b l w o Unset Unset Unset Unset
pointed-with_block m b l w o plus (Some c) = four m b l w o (Part c plus 0) (Part c plus 1) (Part c plus 2) (Part c plus 3)

pub all_pointed-with_block : (means : List ℕ → Option BlockName) (m : Blocks) (b : BlockName) (ws : List WordUse) (l : List Byte) (w : Bool) → all_pointed means b ws (with_block m b l w) ≡ with_block m b (with_pointers means ws l) w
all_pointed-with_block means m b [] l w = refl
all_pointed-with_block means m b (u ∷ us) l w =
    ap (all_pointed means b us) (pointed-with_block m b l w u.offset u.plus (means u.name))
    ∙ all_pointed-with_block means m b us (pointer_word l u.offset u.plus (means u.name)) w

-- a unit, and the units behind it
from_entries-append : (xs ys : List (BlockName × Block)) → map_of.from_entries {R = name_cmp} (xs ++ ys) ≡ with_blocks xs (map_of.from_entries ys)
from_entries-append [] ys = refl
from_entries-append (e ∷ es) ys = ap (λ (m : Blocks). map_of.insert m e.0 e.1) (from_entries-append es ys)

pub one_unit_more : (us : List TypedUnit) (k : ℕ) (u : TypedUnit) (m : Blocks) → k < length us → u ≡ get_or us k u → m ≡ map_of.from_entries {R = name_cmp} (blocks_from (all_parts us) (k + 1) (all_parts (drop (k + 1) us))) → with_blocks (blocks_of_unit (all_parts us) k (parts_of u) 0 u.globals) m ≡ map_of.from_entries {R = name_cmp} (blocks_from (all_parts us) k (all_parts (drop k us)))
one_unit_more us k u m h e made =
    let parts = all_parts us in
    let here = blocks_of_unit parts k (parts_of u) 0 u.globals in
    ap (with_blocks here) made
    ∙ sym (from_entries-append here (blocks_from parts (k + 1) (all_parts (drop (k + 1) us))))
    ∙ ap (λ (l : List TypedUnit). map_of.from_entries {R = name_cmp} (blocks_from parts k (all_parts l))) (sym (drop_at us k u h e))

-- the block of an object that is shared, and of one that is not
zeros : (n : ℕ) → map (λ x. Plain x) (replicate n 0) ≡ replicate n (Plain 0)
zeros zero = refl
zeros (suc n) = ap (λ l. Plain 0 ∷ l) (zeros n)

all_zero : (size : ℕ) → zeros_behind [] size ≡ replicate size (Plain 0)
all_zero size =
    let same : size - 0 ≡ size = omega arith in
    ap (λ (n : ℕ). map (λ x. Plain x) (replicate n 0)) same ∙ zeros size

put_shared : (m : Blocks) (b : BlockName) (s x : Bool) (k j : Block) → s ≡ true → x ≡ true → map_of.insert m b k ≡ cond (cond s x true) (map_of.insert m b (cond s k j)) m
put_shared m b true true k j e f = refl
put_shared m b true false k j e f = cc
put_shared m b false x k j e f = cc

pub shared_made : (units : List UnitParts) (unit : ℕ) (u : UnitParts) (index : ℕ) (g : GlobalPart) (m : Blocks) → g.shared ≡ true → (not (is_defined (all_defs (faces_of units)) g.name) && is_first (Global unit index) (object_of (is_shared g.name) units)) ≡ true → with_block m (Global unit index) (zeros_behind [] g.size) true ≡ object_made units unit u index g m
shared_made units unit u index g m e f =
    ap (λ (l : List Byte). with_block m (Global unit index) l true) (all_zero g.size)
    ∙ put_shared m (Global unit index) g.shared (not (is_defined (all_defs (faces_of units)) g.name) && is_first (Global unit index) (object_of (is_shared g.name) units)) (shared_block g) (record { bytes = initial_bytes units unit u g; writable = g.writable }) e f

put_own : (m : Blocks) (b : BlockName) (s x : Bool) (k j : Block) → s ≡ false → map_of.insert m b j ≡ cond (cond s x true) (map_of.insert m b (cond s k j)) m
put_own m b true x k j e = cc
put_own m b false x k j e = refl

pub own_made : (units : List UnitParts) (unit : ℕ) (u : UnitParts) (index : ℕ) (g : GlobalPart) (size : ℕ) (m : Blocks) → g.shared ≡ false → size - length g.bytes ≡ g.size - length g.bytes → all_pointed (meant units unit u) (Global unit index) g.uses (with_block m (Global unit index) (zeros_behind g.bytes size) g.writable) ≡ object_made units unit u index g m
own_made units unit u index g size m e same =
    ap (λ (n : ℕ). all_pointed (meant units unit u) (Global unit index) g.uses (with_block m (Global unit index) (map (λ x. Plain x) (g.bytes ++ replicate n 0)) g.writable)) same
    ∙ all_pointed-with_block (meant units unit u) m (Global unit index) g.uses (plain_bytes g) g.writable
    ∙ put_own m (Global unit index) g.shared (not (is_defined (all_defs (faces_of units)) g.name) && is_first (Global unit index) (object_of (is_shared g.name) units)) (shared_block g) (record { bytes = initial_bytes units unit u g; writable = g.writable }) e

pub length-zeros : (bytes : List ℕ) (size : ℕ) → length bytes ≤ size → length (zeros_behind bytes size) ≡ size
length-zeros bytes size h = length-map (padded bytes size) (λ x. Plain x) ∙ length-padded bytes size h
