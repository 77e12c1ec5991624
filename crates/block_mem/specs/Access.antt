-- Loads and stores. Where the source's rules give no value there is None.
use Rattle.std.specs.Prelude.{ℕ, ◌+◌, ◌%◌, Bool, false, cond, ◌&&◌, eqb, leb, List, length, get_or, set, Option, Some, None}
use Rattle.std.specs.FinMap as map
use Rattle.cc_base.specs.Words.{byte_of, join}
use Rattle.block_mem.specs.Arithmetic.{signed_byte}
use Rattle.block_mem.specs.Names.{same_name}
use Rattle.block_mem.specs.Blocks.{Block, Blocks}
use Rattle.block_mem.specs.declared.value.BlockName.{BlockName}
use Rattle.block_mem.specs.declared.value.Value.{Value}
use Rattle.block_mem.specs.declared.value.Value.TheVariants.{Int, Ptr}
use Rattle.block_mem.specs.declared.value.Byte.{Byte}
use Rattle.block_mem.specs.declared.value.Byte.TheVariants.{Unset, Plain, Part}
use Rattle.block_mem.specs.declared.value.Width.{Width}
use Rattle.block_mem.specs.declared.value.Width.TheVariants.{Signed8, Unsigned8, Word, Pointer}

abbrev pub size_of : Width → ℕ
size_of Signed8 = 1
size_of Unsigned8 = 1
size_of Word = 4
size_of Pointer = 4

-- what a byte stands for through `char` and `signed char`, and through `unsigned char`
abbrev pub signed_of : Byte → Option Value
signed_of Unset = None
signed_of (Plain x) = Some (Int (signed_byte x))
signed_of (Part b o k) = None

abbrev pub unsigned_of : Byte → Option Value
unsigned_of Unset = None
unsigned_of (Plain x) = Some (Int x)
unsigned_of (Part b o k) = None

-- four plain bytes are a word, the lowest first
abbrev pub word_of : Byte → Byte → Byte → Byte → Option Value
word_of (Plain a) (Plain b) (Plain c) (Plain d) = Some (Int (join a b c d))
word_of p q r s = None

abbrev pub is_zero : Byte → Bool
is_zero Unset = false
is_zero (Plain x) = eqb x 0
is_zero (Part b o k) = false

-- whether a byte is this part of this pointer
abbrev pub is_part : BlockName → ℕ → ℕ → Byte → Bool
is_part b o k Unset = false
is_part b o k (Plain x) = false
is_part b o k (Part c n j) = same_name b c && (eqb o n && eqb k j)

-- a pointer's four parts in their order are the pointer, and four zeros are null
abbrev pub pointer_of : Byte → Byte → Byte → Byte → Option Value
pointer_of Unset q r s = None
pointer_of (Plain x) q r s = cond (eqb x 0 && (is_zero q && (is_zero r && is_zero s))) (Some (Int 0)) None
pointer_of (Part b o k) q r s = cond (eqb k 0 && (is_part b o 1 q && (is_part b o 2 r && is_part b o 3 s))) (Some (Ptr b o)) None

-- the value that stands at an offset of a list of bytes
abbrev pub read : Width → List Byte → ℕ → Option Value
read Signed8 xs o = signed_of (get_or xs o Unset)
read Unsigned8 xs o = unsigned_of (get_or xs o Unset)
read Word xs o = word_of (get_or xs o Unset) (get_or xs (o + 1) Unset) (get_or xs (o + 2) Unset) (get_or xs (o + 3) Unset)
read Pointer xs o = pointer_of (get_or xs o Unset) (get_or xs (o + 1) Unset) (get_or xs (o + 2) Unset) (get_or xs (o + 3) Unset)

abbrev pub put_four : List Byte → ℕ → Byte → Byte → Byte → Byte → List Byte
put_four xs o p q r s = set (set (set (set xs o p) (o + 1) q) (o + 2) r) (o + 3) s

-- the list with the value stored at an offset: an integer through an integer's type, a pointer or null through a pointer's
abbrev pub write : Width → Value → List Byte → ℕ → Option (List Byte)
write Signed8 (Int n) xs o = Some (set xs o (Plain (byte_of n 0)))
write Unsigned8 (Int n) xs o = Some (set xs o (Plain (byte_of n 0)))
write Word (Int n) xs o = Some (put_four xs o (Plain (byte_of n 0)) (Plain (byte_of n 1)) (Plain (byte_of n 2)) (Plain (byte_of n 3)))
write Pointer (Int n) xs o = cond (eqb n 0) (Some (put_four xs o (Plain 0) (Plain 0) (Plain 0) (Plain 0))) None
write Signed8 (Ptr b n) xs o = None
write Unsigned8 (Ptr b n) xs o = None
write Word (Ptr b n) xs o = None
write Pointer (Ptr b n) xs o = Some (put_four xs o (Part b n 0) (Part b n 1) (Part b n 2) (Part b n 3))

-- all bytes lie inside, from a multiple of the size on
abbrev pub fits : Width → List Byte → ℕ → Bool
fits w xs o = leb (o + size_of w) (length xs) && eqb (o % size_of w) 0

-- the value of a block's bytes at an offset
abbrev pub read_in : Block → Width → ℕ → Option Value
read_in k w o = cond (fits w k.bytes o) (read w k.bytes o) None

-- the bytes of a block with a value stored at an offset
abbrev pub written_in : Block → Width → ℕ → Value → Option (List Byte)
written_in k w o v = cond (k.writable && fits w k.bytes o) (write w v k.bytes o) None

abbrev pub load_in : Option Block → Width → ℕ → Option Value
load_in None w o = None
load_in (Some k) w o = read_in k w o

-- a load needs a live block
abbrev pub load : Blocks → Value → Width → Option Value
load m (Int n) w = None
load m (Ptr b o) w = load_in (map.get m b) w o

abbrev pub with_bytes : Blocks → BlockName → Block → Option (List Byte) → Option Blocks
with_bytes m b k None = None
with_bytes m b k (Some xs) = Some (map.insert m b (record k { bytes = xs }))

abbrev pub store_in : Blocks → BlockName → Option Block → Width → ℕ → Value → Option Blocks
store_in m b None w o v = None
store_in m b (Some k) w o v = with_bytes m b k (written_in k w o v)

-- a store needs a live block that is writable
abbrev pub store : Blocks → Value → Width → Value → Option Blocks
store m (Int n) w v = None
store m (Ptr b o) w v = store_in m b (map.get m b) w o v
