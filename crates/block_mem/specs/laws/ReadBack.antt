-- What is stored is loaded back.
use Rattle.std.specs.Prelude.{◌≡◌, ◌≢◌, ℕ, ◌+◌, ◌^◌, ◌<◌, ◌≤◌, Bool, true, false, cond, ◌&&◌, ◌%◌, eqb, leb, List, length, get_or, set, Option, Some, None}
use Rattle.std.proofs.Common.{arith, ◌∙◌, ap, sym, refl, eq-eqb}
use Rattle.std.proofs.lemmas.Bool.{eqb-true, leb-true, and_parts}
use Rattle.std.proofs.lemmas.List.{length-set, get_or-set_same, get_or-set_other}
use Rattle.std.specs.FinMap as map
use Rattle.std.specs.FinMap.{get-insert}
use Rattle.cc_base.specs.Words.{byte_of, join-word_bytes}
use Rattle.block_mem.specs.Arithmetic.{signed_byte}
use Rattle.block_mem.specs.Names.{same_name, same_name-refl, same_name-ne, names_total}
use Rattle.block_mem.specs.Blocks.{Block, Blocks}
use Rattle.block_mem.specs.Access.{size_of, signed_of, unsigned_of, word_of, pointer_of, read, write, put_four, fits, load_in, load, with_bytes, store_in, store}
use Rattle.block_mem.specs.declared.value.BlockName.{BlockName}
use Rattle.block_mem.specs.declared.value.Value.{Value}
use Rattle.block_mem.specs.declared.value.Value.TheVariants.{Int, Ptr}
use Rattle.block_mem.specs.declared.value.Byte.{Byte}
use Rattle.block_mem.specs.declared.value.Byte.TheVariants.{Unset, Plain, Part}
use Rattle.block_mem.specs.declared.value.Width.{Width}
use Rattle.block_mem.specs.declared.value.Width.TheVariants.{Signed8, Unsigned8, Word, Pointer}

-- an integer of 32 bits, or a pointer
abbrev pub IsProper : Value → Type 0
IsProper (Int n) = n < 2 ^ 32
IsProper (Ptr b o) = Unit {0}

-- a value as a width keeps it
abbrev pub kept : Width → Value → Value
kept Signed8 (Int n) = Int (signed_byte (byte_of n 0))
kept Unsigned8 (Int n) = Int (byte_of n 0)
kept Word (Int n) = Int n
kept Pointer (Int n) = Int n
kept w (Ptr b o) = Ptr b o

alike : (f : Byte → Byte → Byte → Byte → Option Value) (a b c d p q r s : Byte) → a ≡ p → b ≡ q → c ≡ r → d ≡ s → f a b c d ≡ f p q r s
alike f a b c d p q r s e g h i = cc

-- four bytes that were put
four_back : (f : Byte → Byte → Byte → Byte → Option Value) (xs : List Byte) (o : ℕ) (p q r s : Byte) → o + 4 ≤ length xs → f (get_or (put_four xs o p q r s) o Unset) (get_or (put_four xs o p q r s) (o + 1) Unset) (get_or (put_four xs o p q r s) (o + 2) Unset) (get_or (put_four xs o p q r s) (o + 3) Unset) ≡ f p q r s
four_back f xs o p q r s inside =
    alike f _ _ _ _ p q r s
    (get_or-set_other c (o + 3) o s Unset (λ e. absurd (omega arith)) ∙ get_or-set_other b (o + 2) o r Unset (λ e. absurd (omega arith)) ∙ get_or-set_other a (o + 1) o q Unset (λ e. absurd (omega arith)) ∙ get_or-set_same xs o p Unset (omega arith))
    (get_or-set_other c (o + 3) (o + 1) s Unset (λ e. absurd (omega arith)) ∙ get_or-set_other b (o + 2) (o + 1) r Unset (λ e. absurd (omega arith)) ∙ get_or-set_same a (o + 1) q Unset (omega (arith, long_a)))
    (get_or-set_other c (o + 3) (o + 2) s Unset (λ e. absurd (omega arith)) ∙ get_or-set_same b (o + 2) r Unset (omega (arith, long_b)))
    (get_or-set_same c (o + 3) s Unset (omega (arith, long_c)))
  where
    a : List Byte
    a = set xs o p

    b : List Byte
    b = set a (o + 1) q

    c : List Byte
    c = set b (o + 2) r

    long_a : length a ≡ length xs
    long_a = length-set xs o p

    long_b : length b ≡ length xs
    long_b = length-set a (o + 1) q ∙ long_a

    long_c : length c ≡ length xs
    long_c = length-set b (o + 2) r ∙ long_b

-- four parts in their order, whose tests are these
parts_back : (b : BlockName) (o : ℕ) (same here : Bool) → same ≡ true → here ≡ true → cond ((same && (here && true)) && ((same && (here && true)) && (same && (here && true)))) (Some (Ptr b o)) None ≡ Some (Ptr b o)
parts_back b o same here e h = ap (λ t. cond ((t && (here && true)) && ((t && (here && true)) && (t && (here && true)))) (Some (Ptr b o)) None) e ∙ ap (λ t. cond ((true && (t && true)) && ((true && (t && true)) && (true && (t && true)))) (Some (Ptr b o)) None) h

pointer_back : (b : BlockName) (o : ℕ) → pointer_of (Part b o 0) (Part b o 1) (Part b o 2) (Part b o 3) ≡ Some (Ptr b o)
pointer_back b o = parts_back b o (same_name b b) (eqb o o) (same_name-refl b) (eq-eqb o o refl)

-- an integer that was stored as a pointer is null
null_back : (t : Bool) (xs ys : List Byte) → cond t (Some ys) None ≡ Some xs → (t ≡ true) × (ys ≡ xs)
null_back true xs ys h = (refl, cc)
null_back false xs ys h = let wrong : ⊥ = cc in absurd wrong

-- a value that was stored in a list of bytes is read back there as its width keeps it
pub read_back : (w : Width) (v : Value) (xs ys : List Byte) (o : ℕ) → IsProper v → o + size_of w ≤ length xs → write w v xs o ≡ Some ys → read w ys o ≡ Some (kept w v)
read_back Signed8 (Int n) xs ys o proper inside h =
    let is : set xs o (Plain (byte_of n 0)) ≡ ys = cc in
    ap (λ (zs : List Byte). read Signed8 zs o) (sym is) ∙ ap signed_of (get_or-set_same xs o (Plain (byte_of n 0)) Unset (omega arith))
read_back Unsigned8 (Int n) xs ys o proper inside h =
    let is : set xs o (Plain (byte_of n 0)) ≡ ys = cc in
    ap (λ (zs : List Byte). read Unsigned8 zs o) (sym is) ∙ ap unsigned_of (get_or-set_same xs o (Plain (byte_of n 0)) Unset (omega arith))
read_back Word (Int n) xs ys o proper inside h =
    let is : put_four xs o (Plain (byte_of n 0)) (Plain (byte_of n 1)) (Plain (byte_of n 2)) (Plain (byte_of n 3)) ≡ ys = cc in
    ap (λ (zs : List Byte). read Word zs o) (sym is) ∙ four_back word_of xs o (Plain (byte_of n 0)) (Plain (byte_of n 1)) (Plain (byte_of n 2)) (Plain (byte_of n 3)) inside
    ∙ ap (λ m. Some (Int m)) (join-word_bytes n proper)
read_back Pointer (Int n) xs ys o proper inside h =
    let null = null_back (eqb n 0) ys (put_four xs o (Plain 0) (Plain 0) (Plain 0) (Plain 0)) h in
    ap (λ (zs : List Byte). read Pointer zs o) (sym null.1) ∙ four_back pointer_of xs o (Plain 0) (Plain 0) (Plain 0) (Plain 0) inside ∙ ap (λ m. Some (Int m)) (sym (eqb-true n 0 null.0))
read_back Signed8 (Ptr b n) xs ys o proper inside h = cc
read_back Unsigned8 (Ptr b n) xs ys o proper inside h = cc
read_back Word (Ptr b n) xs ys o proper inside h = cc
read_back Pointer (Ptr b n) xs ys o proper inside h =
    let is : put_four xs o (Part b n 0) (Part b n 1) (Part b n 2) (Part b n 3) ≡ ys = cc in
    ap (λ (zs : List Byte). read Pointer zs o) (sym is) ∙ four_back pointer_of xs o (Part b n 0) (Part b n 1) (Part b n 2) (Part b n 3) inside ∙ pointer_back b n

put_four-length : (xs : List Byte) (o : ℕ) (p q r s : Byte) → length (put_four xs o p q r s) ≡ length xs
put_four-length xs o p q r s = length-set (set (set (set xs o p) (o + 1) q) (o + 2) r) (o + 3) s ∙ length-set (set (set xs o p) (o + 1) q) (o + 2) r ∙ length-set (set xs o p) (o + 1) q ∙ length-set xs o p

-- a store keeps the size
pub length-write : (w : Width) (v : Value) (xs ys : List Byte) (o : ℕ) → write w v xs o ≡ Some ys → length ys ≡ length xs
length-write Signed8 (Int n) xs ys o h = let is : set xs o (Plain (byte_of n 0)) ≡ ys = cc in ap length (sym is) ∙ length-set xs o (Plain (byte_of n 0))
length-write Unsigned8 (Int n) xs ys o h = let is : set xs o (Plain (byte_of n 0)) ≡ ys = cc in ap length (sym is) ∙ length-set xs o (Plain (byte_of n 0))
length-write Word (Int n) xs ys o h =
    let is : put_four xs o (Plain (byte_of n 0)) (Plain (byte_of n 1)) (Plain (byte_of n 2)) (Plain (byte_of n 3)) ≡ ys = cc in
    ap length (sym is) ∙ put_four-length xs o (Plain (byte_of n 0)) (Plain (byte_of n 1)) (Plain (byte_of n 2)) (Plain (byte_of n 3))
length-write Pointer (Int n) xs ys o h =
    let null = null_back (eqb n 0) ys (put_four xs o (Plain 0) (Plain 0) (Plain 0) (Plain 0)) h in
    ap length (sym null.1) ∙ put_four-length xs o (Plain 0) (Plain 0) (Plain 0) (Plain 0)
length-write Signed8 (Ptr b n) xs ys o h = cc
length-write Unsigned8 (Ptr b n) xs ys o h = cc
length-write Word (Ptr b n) xs ys o h = cc
length-write Pointer (Ptr b n) xs ys o h =
    let is : put_four xs o (Part b n 0) (Part b n 1) (Part b n 2) (Part b n 3) ≡ ys = cc in
    ap length (sym is) ∙ put_four-length xs o (Part b n 0) (Part b n 1) (Part b n 2) (Part b n 3)

-- what a store is made of
pub record Done (m n : Blocks) (b : BlockName) (o : ℕ) (w : Width) (v : Value) : Type 0 where
  pub block : Block
  pub bytes : List Byte
  pub was : map.get m b ≡ Some block
  pub rights : block.writable ≡ true
  pub fitted : fits w block.bytes o ≡ true
  pub wrote : write w v block.bytes o ≡ Some bytes
  pub new : map.insert m b (record block { bytes = bytes }) ≡ n

module _ (m n : Blocks) (b : BlockName) (o : ℕ) (w : Width) (v : Value) where
  by_bytes : (k : Block) (rights inside : Bool) (y : Option (List Byte)) → map.get m b ≡ Some k → k.writable ≡ rights → fits w k.bytes o ≡ inside → write w v k.bytes o ≡ y → with_bytes m b k (cond (rights && inside) y None) ≡ Some n → Done m n b o w v
  by_bytes k true true (Some xs) is r f e h = record { block = k; bytes = xs; was = is; rights = r; fitted = f; wrote = e; new = cc }
  by_bytes k true true None is r f e h = cc
  by_bytes k true false y is r f e h = cc
  by_bytes k false inside y is r f e h = cc

  by_block : (r : Option Block) → map.get m b ≡ r → store_in m b r w o v ≡ Some n → Done m n b o w v
  by_block None is h = cc
  by_block (Some k) is h = by_bytes k k.writable (fits w k.bytes o) (write w v k.bytes o) is refl refl refl h

  pub store-done : store m (Ptr b o) w v ≡ Some n → Done m n b o w v
  store-done h = by_block (map.get m b) refl h

  -- no other block changes
  pub get-store_other : (c : BlockName) → b ≢ c → store m (Ptr b o) w v ≡ Some n → map.get n c ≡ map.get m c
  get-store_other c ne h =
      let done = store-done h in
      let k : Block = record done.block { bytes = done.bytes } in
      ap (λ (x : Blocks). map.get x c) (sym done.new) ∙ get-insert names_total m b k c
      ∙ ap (λ t. cond t (Some k) (map.get m c)) (same_name-ne c b (λ e. ne (sym e)))

  -- what was stored is loaded back
  pub load-store : IsProper v → store m (Ptr b o) w v ≡ Some n → load n (Ptr b o) w ≡ Some (kept w v)
  load-store proper h =
      let done = store-done h in
      let k : Block = record done.block { bytes = done.bytes } in
      let long : length done.bytes ≡ length done.block.bytes = length-write w v done.block.bytes done.bytes o done.wrote in
      let fitted : fits w done.bytes o ≡ true = ap (λ l. leb (o + size_of w) l && eqb (o % size_of w) 0) long ∙ done.fitted in
      let inside : o + size_of w ≤ length done.block.bytes = leb-true _ _ (and_parts _ _ done.fitted).0 in
      ap (λ (x : Blocks). load_in (map.get x b) w o) (sym done.new)
      ∙ ap (λ (r : Option Block). load_in r w o) (get-insert names_total m b k b ∙ ap (λ t. cond t (Some k) (map.get m b)) (same_name-refl b))
      ∙ ap (λ t. cond t (read w done.bytes o) None) fitted
      ∙ read_back w v done.block.bytes done.bytes o proper inside done.wrote
