-- A value that is stored where another was just stored takes its place, and leaves nothing of it.
use Rattle.std.proofs.Common.{◌≡◌, ℕ, ◌+◌, ◌%◌, Bool, true, false, cond, ◌&&◌, eqb, leb, List, set, Option, Some, None, refl, sym, ap, ◌∙◌, arith}
use Rattle.std.proofs.lemmas.List.{set-set, set_comm}
use Rattle.std.specs.FinMap as map
use Rattle.std.specs.FinMap.{get-insert}
use Rattle.cc_base.specs.Words.{byte_of}
use Rattle.block_mem.specs.Names.{same_name-refl, names_total}
use Rattle.block_mem.specs.Blocks.{Block, Blocks}
use Rattle.block_mem.specs.Access.{size_of, write, put_four, fits, with_bytes, store_in, store}
use Rattle.block_mem.specs.laws.ReadBack.{length-write, Done, store-done}
use Rattle.block_mem.specs.declared.value.BlockName.{BlockName}
use Rattle.block_mem.specs.declared.value.Byte.{Byte}
use Rattle.block_mem.specs.declared.value.Byte.TheVariants.{Plain, Part}
use Rattle.block_mem.specs.declared.value.Value.{Value}
use Rattle.block_mem.specs.declared.value.Value.TheVariants.{Int, Ptr}
use Rattle.block_mem.specs.declared.value.Width.{Width}
use Rattle.block_mem.specs.declared.value.Width.TheVariants.{Signed8, Unsigned8, Word, Pointer}
use Rattle.mean_run.proofs.Blocks.{insert-insert}

ne30 : (o : ℕ) → o + 3 ≡ o → ⊥
ne30 o e = omega arith

ne20 : (o : ℕ) → o + 2 ≡ o → ⊥
ne20 o e = omega arith

ne10 : (o : ℕ) → o + 1 ≡ o → ⊥
ne10 o e = omega arith

ne31 : (o : ℕ) → o + 3 ≡ o + 1 → ⊥
ne31 o e = omega arith

ne21 : (o : ℕ) → o + 2 ≡ o + 1 → ⊥
ne21 o e = omega arith

ne32 : (o : ℕ) → o + 3 ≡ o + 2 → ⊥
ne32 o e = omega arith

module _ (xs : List Byte) (o : ℕ) where
  -- one of four bytes is set anew
  at0 : (p q r s a : Byte) → set (put_four xs o p q r s) o a ≡ put_four xs o a q r s
  at0 p q r s a =
      set_comm (set (set (set xs o p) (o + 1) q) (o + 2) r) (o + 3) o s a (ne30 o)
      ∙ ap (λ (l : List Byte). set l (o + 3) s) (set_comm (set (set xs o p) (o + 1) q) (o + 2) o r a (ne20 o))
      ∙ ap (λ (l : List Byte). set (set l (o + 2) r) (o + 3) s) (set_comm (set xs o p) (o + 1) o q a (ne10 o))
      ∙ ap (λ (l : List Byte). set (set (set l (o + 1) q) (o + 2) r) (o + 3) s) (set-set xs o p a)

  at1 : (p q r s a : Byte) → set (put_four xs o p q r s) (o + 1) a ≡ put_four xs o p a r s
  at1 p q r s a =
      set_comm (set (set (set xs o p) (o + 1) q) (o + 2) r) (o + 3) (o + 1) s a (ne31 o)
      ∙ ap (λ (l : List Byte). set l (o + 3) s) (set_comm (set (set xs o p) (o + 1) q) (o + 2) (o + 1) r a (ne21 o))
      ∙ ap (λ (l : List Byte). set (set l (o + 2) r) (o + 3) s) (set-set (set xs o p) (o + 1) q a)

  at2 : (p q r s a : Byte) → set (put_four xs o p q r s) (o + 2) a ≡ put_four xs o p q a s
  at2 p q r s a =
      set_comm (set (set (set xs o p) (o + 1) q) (o + 2) r) (o + 3) (o + 2) s a (ne32 o)
      ∙ ap (λ (l : List Byte). set l (o + 3) s) (set-set (set (set xs o p) (o + 1) q) (o + 2) r a)

  put_four-put_four : (p q r s a b c d : Byte) → put_four (put_four xs o p q r s) o a b c d ≡ put_four xs o a b c d
  put_four-put_four p q r s a b c d =
      ap (λ (l : List Byte). set (set (set l (o + 1) b) (o + 2) c) (o + 3) d) (at0 p q r s a)
      ∙ ap (λ (l : List Byte). set (set l (o + 2) c) (o + 3) d) (at1 a q r s b)
      ∙ ap (λ (l : List Byte). set l (o + 3) d) (at2 a b r s c)
      ∙ set-set (set (set (set xs o a) (o + 1) b) (o + 2) c) (o + 3) s d

-- four bytes over four others
over : (xs ys : List Byte) (o : ℕ) (p q r s a b c d : Byte) → put_four xs o p q r s ≡ ys → put_four ys o a b c d ≡ put_four xs o a b c d
over xs ys o p q r s a b c d h = ap (λ (l : List Byte). put_four l o a b c d) (sym h) ∙ put_four-put_four xs o p q r s a b c d

over_one : (xs ys : List Byte) (o : ℕ) (p a : Byte) → set xs o p ≡ ys → set ys o a ≡ set xs o a
over_one xs ys o p a h = ap (λ (l : List Byte). set l o a) (sym h) ∙ set-set xs o p a

-- what a store as null gives
by_null : (t : Bool) (xs ys : List Byte) → cond t (Some xs) None ≡ Some ys → xs ≡ ys
by_null true xs ys h = cc
by_null false xs ys h = let wrong : ⊥ = cc in absurd wrong

-- four bytes of some kind were stored before
by_four : (v : Value) (xs ys : List Byte) (o : ℕ) (p q r s : Byte) → put_four xs o p q r s ≡ ys → write Pointer v ys o ≡ write Pointer v xs o
by_four (Int n) xs ys o p q r s h = ap (λ (l : List Byte). cond (eqb n 0) (Some l) None) (over xs ys o p q r s (Plain 0) (Plain 0) (Plain 0) (Plain 0) h)
by_four (Ptr b n) xs ys o p q r s h = ap (λ (l : List Byte). Some l) (over xs ys o p q r s (Part b n 0) (Part b n 1) (Part b n 2) (Part b n 3) h)

write-write : (w : Width) (u v : Value) (xs ys : List Byte) (o : ℕ) → write w u xs o ≡ Some ys → write w v ys o ≡ write w v xs o
write-write Signed8 (Int n) (Int m) xs ys o h =
    let is : set xs o (Plain (byte_of n 0)) ≡ ys = cc in
    ap (λ (l : List Byte). Some l) (over_one xs ys o (Plain (byte_of n 0)) (Plain (byte_of m 0)) is)
write-write Signed8 (Int n) (Ptr b k) xs ys o h = refl
write-write Signed8 (Ptr b k) v xs ys o h = let wrong : ⊥ = cc in absurd wrong
write-write Unsigned8 (Int n) (Int m) xs ys o h =
    let is : set xs o (Plain (byte_of n 0)) ≡ ys = cc in
    ap (λ (l : List Byte). Some l) (over_one xs ys o (Plain (byte_of n 0)) (Plain (byte_of m 0)) is)
write-write Unsigned8 (Int n) (Ptr b k) xs ys o h = refl
write-write Unsigned8 (Ptr b k) v xs ys o h = let wrong : ⊥ = cc in absurd wrong
write-write Word (Int n) (Int m) xs ys o h =
    let is : put_four xs o (Plain (byte_of n 0)) (Plain (byte_of n 1)) (Plain (byte_of n 2)) (Plain (byte_of n 3)) ≡ ys = cc in
    ap (λ (l : List Byte). Some l) (over xs ys o (Plain (byte_of n 0)) (Plain (byte_of n 1)) (Plain (byte_of n 2)) (Plain (byte_of n 3)) (Plain (byte_of m 0)) (Plain (byte_of m 1)) (Plain (byte_of m 2)) (Plain (byte_of m 3)) is)
write-write Word (Int n) (Ptr b k) xs ys o h = refl
write-write Word (Ptr b k) v xs ys o h = let wrong : ⊥ = cc in absurd wrong
write-write Pointer (Int n) v xs ys o h = by_four v xs ys o (Plain 0) (Plain 0) (Plain 0) (Plain 0) (by_null (eqb n 0) (put_four xs o (Plain 0) (Plain 0) (Plain 0) (Plain 0)) ys h)
write-write Pointer (Ptr b k) v xs ys o h =
    let is : put_four xs o (Part b k 0) (Part b k 1) (Part b k 2) (Part b k 3) ≡ ys = cc in
    by_four v xs ys o (Part b k 0) (Part b k 1) (Part b k 2) (Part b k 3) is

with_bytes-again : (m n : Blocks) (b : BlockName) (k : Block) (xs : List Byte) (r : Option (List Byte)) → map.insert m b (record k { bytes = xs }) ≡ n → with_bytes n b (record k { bytes = xs }) r ≡ with_bytes m b k r
with_bytes-again m n b k xs None h = refl
with_bytes-again m n b k xs (Some ys) h =
    ap (λ (x : Blocks). Some (map.insert x b (record k { bytes = ys }))) (sym h)
    ∙ ap (λ (x : Blocks). Some x) (insert-insert m b (record k { bytes = xs }) (record k { bytes = ys }))

pub store-store : (m n : Blocks) (p : Value) (w : Width) (u v : Value) → store m p w u ≡ Some n → store n p w v ≡ store m p w v
store-store m n (Int a) w u v h = let wrong : ⊥ = cc in absurd wrong
store-store m n (Ptr b o) w u v h =
    let done : Done m n b o w u = store-done m n b o w u h in
    let k : Block = done.block in
    let new : Block = record k { bytes = done.bytes } in
    let there : map.get n b ≡ Some new =
    ap (λ (x : Blocks). map.get x b) (sym done.new) ∙ get-insert names_total m b new b ∙ ap (λ t. cond t (Some new) (map.get m b)) (same_name-refl b) in
    ap (λ (r : Option Block). store_in n b r w o v) there
    ∙ ap (λ (l : ℕ). with_bytes n b new (cond (k.writable && (leb (o + size_of w) l && eqb (o % size_of w) 0)) (write w v done.bytes o) None)) (length-write w u k.bytes done.bytes o done.wrote)
    ∙ ap (λ (r : Option (List Byte)). with_bytes n b new (cond (k.writable && fits w k.bytes o) r None)) (write-write w u v k.bytes done.bytes o done.wrote)
    ∙ with_bytes-again m n b k done.bytes (cond (k.writable && fits w k.bytes o) (write w v k.bytes o) None) done.new
    ∙ sym (ap (λ (r : Option Block). store_in m b r w o v) done.was)
