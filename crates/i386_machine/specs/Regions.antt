-- Memory in regions.
use Rattle.std.specs.Prelude.{◌≡◌, ℕ, ◌+◌, ◌-◌, ◌≤◌, ◌⊎◌, Bool, false, cond, ◌&&◌, ◌||◌, leb, List, [], ◌∷◌, length, get_or, set, drop, map, replicate, Option, Some, None}
use Rattle.std.proofs.lemmas.List.{length-replicate}
use Rattle.cc_base.specs.Words.{byte_of, join}

pub record Region : Type 0 where
  pub base : ℕ
  pub bytes : List ℕ
  pub writable : Bool
  pub executable : Bool

-- what no step changes of a region
pub record Shape : Type 0 where
  pub base : ℕ
  pub size : ℕ
  pub writable : Bool
  pub executable : Bool

abbrev pub shape_of : Region → Shape
shape_of r = record { base = r.base; size = length r.bytes; writable = r.writable; executable = r.executable }

abbrev pub shapes : List Region → List Shape
shapes rs = map shape_of rs

-- all n addresses from a on lie in the region
abbrev pub spans : Shape → ℕ → ℕ → Bool
spans s a n = leb s.base a && leb (a + n) (s.base + s.size)

-- one region has them all
abbrev pub readable : List Shape → ℕ → ℕ → Bool
readable [] a n = false
readable (s ∷ ss) a n = spans s a n || readable ss a n

-- one writable region has them all
abbrev pub writable : List Shape → ℕ → ℕ → Bool
writable [] a n = false
writable (s ∷ ss) a n = (s.writable && spans s a n) || writable ss a n

-- no address is in both
abbrev pub Apart : Shape → Shape → Type 0
Apart s t = (s.base + s.size ≤ t.base) ⊎ (t.base + t.size ≤ s.base)

abbrev pub ApartFrom : Shape → List Shape → Type 0
ApartFrom s [] = Unit {0}
ApartFrom s (t ∷ ts) = Apart s t × ApartFrom s ts

-- no address is in two regions
abbrev pub Disjoint : List Shape → Type 0
Disjoint [] = Unit {0}
Disjoint (s ∷ ss) = ApartFrom s ss × Disjoint ss

-- the byte at an address, and 0 outside all regions
abbrev pub peek : List Region → ℕ → ℕ
peek [] a = 0
peek (r ∷ rs) a = cond (spans (shape_of r) a 1) (get_or r.bytes (a - r.base) 0) (peek rs a)

-- with this byte at an address
abbrev pub poke : List Region → ℕ → ℕ → List Region
poke [] a v = []
poke (r ∷ rs) a v = cond (spans (shape_of r) a 1) (record r { bytes = set r.bytes (a - r.base) v } ∷ rs) (r ∷ poke rs a v)

abbrev pub peek_word : List Region → ℕ → ℕ
peek_word m a = join (peek m a) (peek m (a + 1)) (peek m (a + 2)) (peek m (a + 3))

abbrev pub poke_word : List Region → ℕ → ℕ → List Region
poke_word m a w = poke (poke (poke (poke m a (byte_of w 0)) (a + 1) (byte_of w 1)) (a + 2) (byte_of w 2)) (a + 3) (byte_of w 3)

abbrev pub byte_at : List Region → ℕ → Option ℕ
byte_at m a = cond (readable (shapes m) a 1) (Some (peek m a)) None

abbrev pub word_at : List Region → ℕ → Option ℕ
word_at m a = cond (readable (shapes m) a 4) (Some (peek_word m a)) None

-- the word at an address that may be written too
abbrev pub held_word_at : List Region → ℕ → Option ℕ
held_word_at m a = cond (writable (shapes m) a 4) (Some (peek_word m a)) None

abbrev pub store_byte : List Region → ℕ → ℕ → Option (List Region)
store_byte m a w = cond (writable (shapes m) a 1) (Some (poke m a (byte_of w 0))) None

abbrev pub store_word : List Region → ℕ → ℕ → Option (List Region)
store_word m a w = cond (writable (shapes m) a 4) (Some (poke_word m a w)) None

-- the bytes from an address to the end of its executable region
abbrev pub fetch : List Region → ℕ → Option (List ℕ)
fetch [] a = None
fetch (r ∷ rs) a = cond (r.executable && spans (shape_of r) a 1) (Some (drop (a - r.base) r.bytes)) (fetch rs a)

-- zeros; not an abbrev, since a numeral of some millions would unfold
unfoldable pub zeros : ℕ → List ℕ
zeros n = replicate n 0

pub length-zeros : (n : ℕ) → length (zeros n) ≡ n
unfolding zeros
length-zeros n = length-replicate n 0
