-- Memory of two regions: the stack, and one of code.
use Rattle.std.specs.Prelude.{◌≡◌, ◌≢◌, ℕ, ◌+◌, ◌-◌, ◌<◌, ◌≤◌, ◌^◌, Bool, true, false, ◌||◌, List, [], ◌∷◌, ◌++◌, length, get_or, set, drop, Some}
use Rattle.std.proofs.Common.{arith, ◌∙◌, ap, sym, length-set, get_or-set_same, get_or-set_other, length-append, append_assoc}
use Rattle.std.proofs.lemmas.Bool.{cond-true, and_from, le-leb}
use Rattle.std.proofs.Math.Seq.{drop-append_seam}
use Rattle.cc_base.specs.Words.{byte_of, join, join-word_bytes, add32}
use Rattle.i386_machine.specs.Regions.{Region, shape_of, shapes, spans, writable, readable, byte_at, word_at, store_word, peek, poke, fetch}

-- the address of the first byte of code
abbrev pub text_start : ℕ
text_start = 0x08049000

-- the stack with these bytes, 1 MiB of them
abbrev pub stack_of : List ℕ → Region
stack_of bytes = record { base = 3220176896; bytes = bytes; writable = true; executable = false }

abbrev pub code_region : List ℕ → Region
code_region code = record { base = text_start; bytes = code; writable = false; executable = true }

abbrev pub memory_of : List ℕ → List ℕ → List Region
memory_of bytes code = stack_of bytes ∷ code_region code ∷ []

-- the place in the stack of an address
abbrev pub place : ℕ → ℕ
place address = address - 3220176896

-- a word in the stack
abbrev pub stack_word : List ℕ → ℕ → ℕ
stack_word bytes a = join (get_or bytes (place a) 0) (get_or bytes (place (a + 1)) 0) (get_or bytes (place (a + 2)) 0) (get_or bytes (place (a + 3)) 0)

-- the stack with a word written
abbrev pub with_word : List ℕ → ℕ → ℕ → List ℕ
with_word bytes a w = set (set (set (set bytes (place a) (byte_of w 0)) (place (a + 1)) (byte_of w 1)) (place (a + 2)) (byte_of w 2)) (place (a + 3)) (byte_of w 3)

-- the stack has its size
abbrev pub Whole : List ℕ → Type 0
Whole bytes = length bytes ≡ 1048576

-- the addresses lie in the stack
pub record InStack (a n : ℕ) : Type 0 where
  pub low : 3220176896 ≤ a
  pub high : a + n ≤ 3221225472

spans_stack : (bytes : List ℕ) (a n : ℕ) → Whole bytes → InStack a n → spans (shape_of (stack_of bytes)) a n ≡ true
spans_stack bytes a n whole h = let l = h.low in let k = h.high in and_from _ _ (le-leb _ _ l) (le-leb _ _ (omega (arith, whole, k)))

poke_stack : (bytes code : List ℕ) (a v : ℕ) → Whole bytes → InStack a 1 → poke (memory_of bytes code) a v ≡ memory_of (set bytes (place a) v) code
poke_stack bytes code a v whole h = cond-true _ _ _ (spans_stack bytes a 1 whole h)

peek_stack : (bytes code : List ℕ) (a : ℕ) → Whole bytes → InStack a 1 → peek (memory_of bytes code) a ≡ get_or bytes (place a) 0
peek_stack bytes code a whole h = cond-true _ _ _ (spans_stack bytes a 1 whole h)

part : (a n k : ℕ) → InStack a n → k < n → InStack (a + k) 1
part a n k h l = record { low = let p = h.low in omega arith; high = let p = h.high in omega arith }

first : (a n : ℕ) → InStack a n → 0 < n → InStack a 1
first a n h l = record { low = h.low; high = let p = h.high in omega arith }

readable_stack : (bytes code : List ℕ) (a n : ℕ) → Whole bytes → InStack a n → readable (shapes (memory_of bytes code)) a n ≡ true
readable_stack bytes code a n whole h = ap (λ (b : Bool). b || (spans (shape_of (code_region code)) a n || false)) (spans_stack bytes a n whole h)

writable_stack : (bytes code : List ℕ) (a n : ℕ) → Whole bytes → InStack a n → writable (shapes (memory_of bytes code)) a n ≡ true
writable_stack bytes code a n whole h = ap (λ (b : Bool). b || (false || false)) (spans_stack bytes a n whole h)

pub with_word-whole : (bytes : List ℕ) (a w : ℕ) → Whole bytes → Whole (with_word bytes a w)
with_word-whole bytes a w whole = length-set _ _ _ ∙ length-set _ _ _ ∙ length-set _ _ _ ∙ length-set _ _ _ ∙ whole

pub byte_at-stack : (bytes code : List ℕ) (a : ℕ) → Whole bytes → InStack a 1 → byte_at (memory_of bytes code) a ≡ Some (get_or bytes (place a) 0)
byte_at-stack bytes code a whole h = cond-true _ _ _ (readable_stack bytes code a 1 whole h) ∙ ap (λ (x : ℕ). Some x) (peek_stack bytes code a whole h)

pub word_at-stack : (bytes code : List ℕ) (a : ℕ) → Whole bytes → InStack a 4 → word_at (memory_of bytes code) a ≡ Some (stack_word bytes a)
word_at-stack bytes code a whole h =
    cond-true _ _ _ (readable_stack bytes code a 4 whole h)
    ∙ ap (λ (x : ℕ). Some (join x (peek (memory_of bytes code) (a + 1)) (peek (memory_of bytes code) (a + 2)) (peek (memory_of bytes code) (a + 3)))) (peek_stack bytes code a whole (first a 4 h (omega arith)))
    ∙ ap (λ (x : ℕ). Some (join (get_or bytes (place a) 0) x (peek (memory_of bytes code) (a + 2)) (peek (memory_of bytes code) (a + 3)))) (peek_stack bytes code (a + 1) whole (part a 4 1 h (omega arith)))
    ∙ ap (λ (x : ℕ). Some (join (get_or bytes (place a) 0) (get_or bytes (place (a + 1)) 0) x (peek (memory_of bytes code) (a + 3)))) (peek_stack bytes code (a + 2) whole (part a 4 2 h (omega arith)))
    ∙ ap (λ (x : ℕ). Some (join (get_or bytes (place a) 0) (get_or bytes (place (a + 1)) 0) (get_or bytes (place (a + 2)) 0) x)) (peek_stack bytes code (a + 3) whole (part a 4 3 h (omega arith)))

pub store_word-stack : (bytes code : List ℕ) (a w : ℕ) → Whole bytes → InStack a 4 → store_word (memory_of bytes code) a w ≡ Some (memory_of (with_word bytes a w) code)
store_word-stack bytes code a w whole h =
    let b_1 = set bytes (place a) (byte_of w 0) in
    let b_2 = set b_1 (place (a + 1)) (byte_of w 1) in
    let b_3 = set b_2 (place (a + 2)) (byte_of w 2) in
    let l_1 : Whole b_1 = length-set bytes (place a) (byte_of w 0) ∙ whole in
    let l_2 : Whole b_2 = length-set b_1 (place (a + 1)) (byte_of w 1) ∙ l_1 in
    let l_3 : Whole b_3 = length-set b_2 (place (a + 2)) (byte_of w 2) ∙ l_2 in
    cond-true _ _ _ (writable_stack bytes code a 4 whole h)
    ∙ ap (λ (m : List Region). Some (poke (poke (poke m (a + 1) (byte_of w 1)) (a + 2) (byte_of w 2)) (a + 3) (byte_of w 3))) (poke_stack bytes code a (byte_of w 0) whole (first a 4 h (omega arith)))
    ∙ ap (λ (m : List Region). Some (poke (poke m (a + 2) (byte_of w 2)) (a + 3) (byte_of w 3))) (poke_stack b_1 code (a + 1) (byte_of w 1) l_1 (part a 4 1 h (omega arith)))
    ∙ ap (λ (m : List Region). Some (poke m (a + 3) (byte_of w 3))) (poke_stack b_2 code (a + 2) (byte_of w 2) l_2 (part a 4 2 h (omega arith)))
    ∙ ap (λ (m : List Region). Some m) (poke_stack b_3 code (a + 3) (byte_of w 3) l_3 (part a 4 3 h (omega arith)))

-- a byte away from a word that was written
other : (bytes : List ℕ) (a w k : ℕ) → k ≢ place a → k ≢ place (a + 1) → k ≢ place (a + 2) → k ≢ place (a + 3) → get_or (with_word bytes a w) k 0 ≡ get_or bytes k 0
other bytes a w k p q r s = get_or-set_other _ _ k _ 0 s ∙ get_or-set_other _ _ k _ 0 r ∙ get_or-set_other _ _ k _ 0 q ∙ get_or-set_other _ _ k _ 0 p

-- a byte above a word that was written
pub byte-other : (bytes : List ℕ) (a w b : ℕ) → InStack a 4 → a + 4 ≤ b → get_or (with_word bytes a w) (place b) 0 ≡ get_or bytes (place b) 0
byte-other bytes a w b h l =
    let low = h.low in
    other bytes a w (place b) (let n : place b ≢ place a = omega arith in n) (let n : place b ≢ place (a + 1) = omega arith in n) (let n : place b ≢ place (a + 2) = omega arith in n) (let n : place b ≢ place (a + 3) = omega arith in n)

-- a word above one that was written
pub stack_word-other : (bytes : List ℕ) (a w b : ℕ) → InStack a 4 → a + 4 ≤ b → stack_word (with_word bytes a w) b ≡ stack_word bytes b
stack_word-other bytes a w b h l =
    let low = h.low in
    let away : (k : ℕ) → b ≤ k → get_or (with_word bytes a w) (place k) 0 ≡ get_or bytes (place k) 0 = λ k m.
    other bytes a w (place k) (let n : place k ≢ place a = omega arith in n) (let n : place k ≢ place (a + 1) = omega arith in n) (let n : place k ≢ place (a + 2) = omega arith in n) (let n : place k ≢ place (a + 3) = omega arith in n) in
    ap (λ (x : ℕ). join x (get_or (with_word bytes a w) (place (b + 1)) 0) (get_or (with_word bytes a w) (place (b + 2)) 0) (get_or (with_word bytes a w) (place (b + 3)) 0)) (away b (omega arith))
    ∙ ap (λ (x : ℕ). join (get_or bytes (place b) 0) x (get_or (with_word bytes a w) (place (b + 2)) 0) (get_or (with_word bytes a w) (place (b + 3)) 0)) (away (b + 1) (omega arith))
    ∙ ap (λ (x : ℕ). join (get_or bytes (place b) 0) (get_or bytes (place (b + 1)) 0) x (get_or (with_word bytes a w) (place (b + 3)) 0)) (away (b + 2) (omega arith))
    ∙ ap (λ (x : ℕ). join (get_or bytes (place b) 0) (get_or bytes (place (b + 1)) 0) (get_or bytes (place (b + 2)) 0) x) (away (b + 3) (omega arith))

byte_0 : (bytes : List ℕ) (a w : ℕ) → Whole bytes → InStack a 4 → get_or (with_word bytes a w) (place a) 0 ≡ byte_of w 0
byte_0 bytes a w whole h =
    let low = h.low in let high = h.high in
    get_or-set_other _ _ (place a) _ 0 (let n : place a ≢ place (a + 3) = omega arith in n) ∙ get_or-set_other _ _ (place a) _ 0 (let n : place a ≢ place (a + 2) = omega arith in n)
    ∙ get_or-set_other _ _ (place a) _ 0 (let n : place a ≢ place (a + 1) = omega arith in n) ∙ get_or-set_same bytes (place a) (byte_of w 0) 0 (omega (arith, whole))

byte_1 : (bytes : List ℕ) (a w : ℕ) → Whole bytes → InStack a 4 → get_or (with_word bytes a w) (place (a + 1)) 0 ≡ byte_of w 1
byte_1 bytes a w whole h =
    let low = h.low in let high = h.high in let size = length-set bytes (place a) (byte_of w 0) in
    get_or-set_other _ _ (place (a + 1)) _ 0 (let n : place (a + 1) ≢ place (a + 3) = omega arith in n) ∙ get_or-set_other _ _ (place (a + 1)) _ 0 (let n : place (a + 1) ≢ place (a + 2) = omega arith in n)
    ∙ get_or-set_same _ (place (a + 1)) (byte_of w 1) 0 (omega (arith, whole, size))

byte_2 : (bytes : List ℕ) (a w : ℕ) → Whole bytes → InStack a 4 → get_or (with_word bytes a w) (place (a + 2)) 0 ≡ byte_of w 2
byte_2 bytes a w whole h =
    let low = h.low in let high = h.high in let size = length-set (set bytes (place a) (byte_of w 0)) (place (a + 1)) (byte_of w 1) ∙ length-set bytes (place a) (byte_of w 0) in
    get_or-set_other _ _ (place (a + 2)) _ 0 (let n : place (a + 2) ≢ place (a + 3) = omega arith in n) ∙ get_or-set_same _ (place (a + 2)) (byte_of w 2) 0 (omega (arith, whole, size))

byte_3 : (bytes : List ℕ) (a w : ℕ) → Whole bytes → InStack a 4 → get_or (with_word bytes a w) (place (a + 3)) 0 ≡ byte_of w 3
byte_3 bytes a w whole h =
    let low = h.low in let high = h.high in
    let size = length-set (set (set bytes (place a) (byte_of w 0)) (place (a + 1)) (byte_of w 1)) (place (a + 2)) (byte_of w 2) ∙ length-set (set bytes (place a) (byte_of w 0)) (place (a + 1)) (byte_of w 1) ∙ length-set bytes (place a) (byte_of w 0) in
    get_or-set_same _ (place (a + 3)) (byte_of w 3) 0 (omega (arith, whole, size))

-- the low byte of a word that was written
pub low_byte-with_word : (bytes : List ℕ) (a w : ℕ) → Whole bytes → InStack a 4 → get_or (with_word bytes a w) (place a) 0 ≡ byte_of w 0
low_byte-with_word = byte_0

-- a word that was written
pub stack_word-same : (bytes : List ℕ) (a w : ℕ) → Whole bytes → InStack a 4 → w < 2 ^ 32 → stack_word (with_word bytes a w) a ≡ w
stack_word-same bytes a w whole h small =
    ap (λ (x : ℕ). join x (get_or (with_word bytes a w) (place (a + 1)) 0) (get_or (with_word bytes a w) (place (a + 2)) 0) (get_or (with_word bytes a w) (place (a + 3)) 0)) (byte_0 bytes a w whole h)
    ∙ ap (λ (x : ℕ). join (byte_of w 0) x (get_or (with_word bytes a w) (place (a + 2)) 0) (get_or (with_word bytes a w) (place (a + 3)) 0)) (byte_1 bytes a w whole h)
    ∙ ap (λ (x : ℕ). join (byte_of w 0) (byte_of w 1) x (get_or (with_word bytes a w) (place (a + 3)) 0)) (byte_2 bytes a w whole h)
    ∙ ap (λ (x : ℕ). join (byte_of w 0) (byte_of w 1) (byte_of w 2) x) (byte_3 bytes a w whole h)
    ∙ join-word_bytes w small

-- the code from this address on
pub record Here (code : List ℕ) (e : ℕ) (xs : List ℕ) : Type 0 where
  pub done : List ℕ
  pub whole : code ≡ done ++ xs
  pub place_is : e ≡ 134516736 + length done

-- past some of it
pub skip : (code : List ℕ) (e : ℕ) (s xs : List ℕ) → length code < 16777216 → Here code e (s ++ xs) → Here code (add32 e (length s)) xs
skip code e s xs small h = record {
  done = h.done ++ s;
  whole = h.whole ∙ sym (append_assoc h.done s xs);
  place_is =
      let p = h.place_is in let l = ap length h.whole ∙ length-append h.done (s ++ xs) in let k = length-append s xs in
      let n = length-append h.done s in omega arith;
}

pub fetch-here : (bytes code : List ℕ) (e : ℕ) (xs : List ℕ) → 0 < length xs → Here code e xs → fetch (memory_of bytes code) e ≡ Some xs
fetch-here bytes code e xs some h =
    let p = h.place_is in let l = ap length h.whole ∙ length-append h.done xs in
    let inside : spans (shape_of (code_region code)) e 1 ≡ true = and_from _ _ (le-leb 134516736 e (omega arith)) (le-leb (e + 1) (134516736 + length code) (omega arith)) in
    let at : e - 134516736 ≡ length h.done = omega arith in
    cond-true _ _ _ inside ∙ ap (λ (n : ℕ). Some (drop n code)) at ∙ ap (λ (c : List ℕ). Some (drop (length h.done) c)) h.whole ∙ ap (λ (c : List ℕ). Some c) (drop-append_seam h.done xs)
