-- The bytes of quads.
use Rattle.std.proofs.Common.{◌≡◌, ◌≢◌, ℕ, ◌+◌, ◌*◌, ◌/◌, ◌%◌, ◌<◌, ◌≤◌, List, [], ◌∷◌, length, get_or, set, replicate, eqb, ltb, leb, Bool, true, Option, sym, ap, subst, ◌∙◌, arith}
use Rattle.std.proofs.lemmas.Bool.Decides.{nat_tests}
use Rattle.std.specs.Prelude.{◌&&◌}
use Rattle.std.proofs.lemmas.List.{ext_get_or, length-set, length-replicate, get_or-replicate, get_or-set_same, get_or-set_other}
use Rattle.std.proofs.lemmas.List.FromFn.{length-map-range_with_len, get_or-map-range_with_len}
use Rattle.block_mem.specs.declared.value.Byte.{Byte}
use Rattle.block_mem.specs.declared.value.Byte.TheVariants.{Unset}
use Rattle.block_mem.specs.declared.value.Value.{Value}
use Rattle.block_mem.specs.declared.value.Width.TheVariants.{Word, Pointer}
use Rattle.block_mem.specs.declared.quads.Quad.{Quad}
use Rattle.block_mem.specs.Access.{word_of, pointer_of, read, put_four}
use Rattle.cc_base.specs.Words.{byte_of}
use Rattle.block_mem.specs.Blocks.{Block}
use Rattle.block_mem.specs.Quads.{unset_quad, quad_of_plain, pick, with_byte, byte_in, bytes_of}
use Rattle.block_mem.proofs.Packing.{cases}

pub length-bytes_of : (qs : List Quad) (n : ℕ) → length (bytes_of qs n) ≡ n
length-bytes_of qs n = length-map-range_with_len (byte_in qs) 0 n

pub byte_at : (qs : List Quad) (n i : ℕ) → i < n → get_or (bytes_of qs n) i Unset ≡ byte_in qs i
byte_at qs n i h = get_or-map-range_with_len (byte_in qs) 0 n i i Unset h (omega arith)

-- a list of bytes is the quads' where each place says so
pub same_bytes : (qs : List Quad) (n : ℕ) (xs : List Byte) → length xs ≡ n → ((i : ℕ) → i < n → byte_in qs i ≡ get_or xs i Unset) → bytes_of qs n ≡ xs
same_bytes qs n xs long each =
    ext_get_or Unset (bytes_of qs n) xs (length-bytes_of qs n ∙ sym long)
    (λ i h. let small : i < n = subst (λ m. i < m) (length-bytes_of qs n) h in byte_at qs n i small ∙ each i small)

unset_byte : (k : ℕ) → pick k unset_quad ≡ Unset
unset_byte k = grind (arith, nat_tests)

-- quads of unset bytes
pub unset_bytes : (count n : ℕ) → n ≤ 4 * count → bytes_of (replicate count unset_quad) n ≡ replicate n Unset
unset_bytes count n enough =
    same_bytes (replicate count unset_quad) n (replicate n Unset) (length-replicate n Unset)
    (λ i h. let low : i / 4 < count = omega arith in ap (pick (i % 4)) (get_or-replicate count (i / 4) unset_quad unset_quad low) ∙ unset_byte (i % 4) ∙ sym (get_or-replicate n i Unset Unset h))

-- one byte of four
picked_same : (k : ℕ) (x : Byte) (q : Quad) → pick k (with_byte k x q) ≡ x
picked_same k x q = grind (arith, nat_tests)

picked_other : (j k : ℕ) (x : Byte) (q : Quad) → j < 4 → k < 4 → j ≢ k → pick j (with_byte k x q) ≡ pick j q
picked_other j k x q h g ne = grind (arith, nat_tests)

pub put_one : (qs : List Quad) (n o : ℕ) (x : Byte) → o < n → n ≤ 4 * length qs → bytes_of (set qs (o / 4) (with_byte (o % 4) x (get_or qs (o / 4) unset_quad))) n ≡ set (bytes_of qs n) o x
put_one qs n o x inside enough =
    same_bytes (set qs (o / 4) new) n (set (bytes_of qs n) o x) (length-set (bytes_of qs n) o x ∙ length-bytes_of qs n) each
  where
    new : Quad
    new = with_byte (o % 4) x (get_or qs (o / 4) unset_quad)

    low : o / 4 < length qs
    low = omega arith

    long : o < length (bytes_of qs n)
    long = subst (λ m. o < m) (sym (length-bytes_of qs n)) inside

    kept : (i : ℕ) → i ≢ o → byte_in (set qs (o / 4) new) i ≡ byte_in qs i
    kept i other = cases (byte_in (set qs (o / 4) new) i ≡ byte_in qs i) (i / 4) (o / 4)
        (λ here. ap (λ j. pick (i % 4) (get_or (set qs (o / 4) new) j unset_quad)) here ∙ ap (pick (i % 4)) (get_or-set_same qs (o / 4) new unset_quad low)
        ∙ picked_other (i % 4) (o % 4) x (get_or qs (o / 4) unset_quad) (omega arith) (omega arith) (λ e. other (omega arith))
        ∙ sym (ap (λ j. pick (i % 4) (get_or qs j unset_quad)) here))
        (λ away. ap (pick (i % 4)) (get_or-set_other qs (o / 4) (i / 4) new unset_quad away))

    each : (i : ℕ) → i < n → byte_in (set qs (o / 4) new) i ≡ get_or (set (bytes_of qs n) o x) i Unset
    each i h = cases (byte_in (set qs (o / 4) new) i ≡ get_or (set (bytes_of qs n) o x) i Unset) i o
        (λ same. ap (byte_in (set qs (o / 4) new)) same ∙ ap (pick (o % 4)) (get_or-set_same qs (o / 4) new unset_quad low) ∙ picked_same (o % 4) x (get_or qs (o / 4) unset_quad)
        ∙ sym (ap (λ j. get_or (set (bytes_of qs n) o x) j Unset) same ∙ get_or-set_same (bytes_of qs n) o x Unset long))
        (λ other. kept i other ∙ sym (get_or-set_other (bytes_of qs n) o i x Unset other ∙ byte_at qs n i h))

-- four bytes from a multiple of four on
abbrev pub quad_at : List Quad → ℕ → Quad
quad_at qs o = get_or qs (o / 4) unset_quad

four_in : (qs : List Quad) (o k : ℕ) → o % 4 ≡ 0 → k < 4 → byte_in qs (o + k) ≡ pick k (quad_at qs o)
four_in qs o k even small =
    let rest : (o + k) % 4 ≡ k = omega arith in
    let place : (o + k) / 4 ≡ o / 4 = omega arith in
    ap (λ j. pick j (get_or qs ((o + k) / 4) unset_quad)) rest ∙ ap (λ j. pick k (get_or qs j unset_quad)) place

alike : (f : Byte → Byte → Byte → Byte → Option Value) (a b c d p q r s : Byte) → a ≡ p → b ≡ q → c ≡ r → d ≡ s → f a b c d ≡ f p q r s
alike f a b c d p q r s e g h i = cc

first_in : (qs : List Quad) (o : ℕ) → o % 4 ≡ 0 → byte_in qs o ≡ (quad_at qs o).zero
first_in qs o even = ap (λ j. pick j (quad_at qs o)) even

-- four bytes that lie inside
read_four : (f : Byte → Byte → Byte → Byte → Option Value) (qs : List Quad) (n o : ℕ) → o % 4 ≡ 0 → o + 4 ≤ n → f (get_or (bytes_of qs n) o Unset) (get_or (bytes_of qs n) (o + 1) Unset) (get_or (bytes_of qs n) (o + 2) Unset) (get_or (bytes_of qs n) (o + 3) Unset) ≡ f (quad_at qs o).zero (quad_at qs o).one (quad_at qs o).two (quad_at qs o).three
read_four f qs n o even inside =
    alike f _ _ _ _ (quad_at qs o).zero (quad_at qs o).one (quad_at qs o).two (quad_at qs o).three
    (byte_at qs n o (omega arith) ∙ first_in qs o even)
    (byte_at qs n (o + 1) (omega arith) ∙ four_in qs o 1 even (omega arith))
    (byte_at qs n (o + 2) (omega arith) ∙ four_in qs o 2 even (omega arith))
    (byte_at qs n (o + 3) (omega arith) ∙ four_in qs o 3 even (omega arith))

pub read_word : (qs : List Quad) (n o : ℕ) → o % 4 ≡ 0 → o + 4 ≤ n → read Word (bytes_of qs n) o ≡ word_of (quad_at qs o).zero (quad_at qs o).one (quad_at qs o).two (quad_at qs o).three
read_word qs n o even inside = read_four word_of qs n o even inside

pub read_pointer : (qs : List Quad) (n o : ℕ) → o % 4 ≡ 0 → o + 4 ≤ n → read Pointer (bytes_of qs n) o ≡ pointer_of (quad_at qs o).zero (quad_at qs o).one (quad_at qs o).two (quad_at qs o).three
read_pointer qs n o even inside = read_four pointer_of qs n o even inside

pub put_quad : (qs : List Quad) (n o : ℕ) (q : Quad) → o % 4 ≡ 0 → o + 4 ≤ n → n ≤ 4 * length qs → bytes_of (set qs (o / 4) q) n ≡ put_four (bytes_of qs n) o q.zero q.one q.two q.three
put_quad qs n o q even inside enough =
    same_bytes (set qs (o / 4) q) n d (length-set c (o + 3) q.three ∙ long_c) each
  where
    a : List Byte
    a = set (bytes_of qs n) o q.zero

    b : List Byte
    b = set a (o + 1) q.one

    c : List Byte
    c = set b (o + 2) q.two

    d : List Byte
    d = set c (o + 3) q.three

    long_a : length a ≡ n
    long_a = length-set (bytes_of qs n) o q.zero ∙ length-bytes_of qs n

    long_b : length b ≡ n
    long_b = length-set a (o + 1) q.one ∙ long_a

    long_c : length c ≡ n
    long_c = length-set b (o + 2) q.two ∙ long_b

    here : quad_at (set qs (o / 4) q) o ≡ q
    here = get_or-set_same qs (o / 4) q unset_quad (omega arith)

    new : (k : ℕ) → k < 4 → byte_in (set qs (o / 4) q) (o + k) ≡ pick k q
    new k small = four_in (set qs (o / 4) q) o k even small ∙ ap (pick k) here

    in_a : (i : ℕ) → i < n → i ≢ o + 3 → i ≢ o + 2 → i ≢ o + 1 → byte_in (set qs (o / 4) q) i ≡ get_or a i Unset
    in_a i h not_three not_two not_one = cases (byte_in (set qs (o / 4) q) i ≡ get_or a i Unset) i o
        (λ is. ap (byte_in (set qs (o / 4) q)) is ∙ first_in (set qs (o / 4) q) o even ∙ ap (λ (p : Quad). p.zero) here ∙ sym (ap (λ j. get_or a j Unset) is ∙ get_or-set_same (bytes_of qs n) o q.zero Unset (omega (arith, length-bytes_of qs n))))
        (λ not_zero. ap (pick (i % 4)) (get_or-set_other qs (o / 4) (i / 4) q unset_quad (λ e. absurd (omega arith))) ∙ sym (get_or-set_other (bytes_of qs n) o i q.zero Unset not_zero ∙ byte_at qs n i h))

    in_b : (i : ℕ) → i < n → i ≢ o + 3 → i ≢ o + 2 → byte_in (set qs (o / 4) q) i ≡ get_or b i Unset
    in_b i h not_three not_two = cases (byte_in (set qs (o / 4) q) i ≡ get_or b i Unset) i (o + 1)
        (λ is. ap (byte_in (set qs (o / 4) q)) is ∙ new 1 (omega arith) ∙ sym (ap (λ j. get_or b j Unset) is ∙ get_or-set_same a (o + 1) q.one Unset (omega (arith, long_a))))
        (λ not_one. in_a i h not_three not_two not_one ∙ sym (get_or-set_other a (o + 1) i q.one Unset not_one))

    in_c : (i : ℕ) → i < n → i ≢ o + 3 → byte_in (set qs (o / 4) q) i ≡ get_or c i Unset
    in_c i h not_three = cases (byte_in (set qs (o / 4) q) i ≡ get_or c i Unset) i (o + 2)
        (λ is. ap (byte_in (set qs (o / 4) q)) is ∙ new 2 (omega arith) ∙ sym (ap (λ j. get_or c j Unset) is ∙ get_or-set_same b (o + 2) q.two Unset (omega (arith, long_b))))
        (λ not_two. in_b i h not_three not_two ∙ sym (get_or-set_other b (o + 2) i q.two Unset not_two))

    each : (i : ℕ) → i < n → byte_in (set qs (o / 4) q) i ≡ get_or d i Unset
    each i h = cases (byte_in (set qs (o / 4) q) i ≡ get_or d i Unset) i (o + 3)
        (λ is. ap (byte_in (set qs (o / 4) q)) is ∙ new 3 (omega arith) ∙ sym (ap (λ j. get_or d j Unset) is ∙ get_or-set_same c (o + 3) q.three Unset (omega (arith, long_c))))
        (λ not_three. in_c i h not_three ∙ sym (get_or-set_other c (o + 3) i q.three Unset not_three))

-- whether a byte, or four from a multiple of four on, lie inside
pub fits_byte : (n o : ℕ) → ltb o n ≡ leb (o + 1) n && eqb (o % 1) 0
fits_byte n o = grind (arith, nat_tests)

pub fits_word : (n o : ℕ) → o + 4 ≤ n → eqb (o % 4) 0 ≡ leb (o + 4) n && eqb (o % 4) 0
fits_word n o h = grind (arith, nat_tests)

pub fits_no_word : (n o : ℕ) → n < o + 4 → leb (o + 4) n ≡ leb (o + 4) n && eqb (o % 4) 0
fits_no_word n o h = grind (arith, nat_tests)

pub word_inside : (n o : ℕ) → leb (o + 4) n && eqb (o % 4) 0 ≡ true → (o % 4 ≡ 0) × (o + 4 ≤ n)
word_inside n o h = (grind (arith, nat_tests), grind (arith, nat_tests))

-- the block that the quads are
pub size_is : (qs : List Quad) (n : ℕ) (r : Bool) (k : Block) → record { bytes = bytes_of qs n; writable = r } ≡ k → length k.bytes ≡ n
size_is qs n r k is = ap (λ (b : Block). length b.bytes) (sym is) ∙ length-bytes_of qs n

pub inside_word : (k : Block) (n o : ℕ) → length k.bytes ≡ n → leb (o + 4) (length k.bytes) && eqb (o % 4) 0 ≡ true → (o % 4 ≡ 0) × (o + 4 ≤ n)
inside_word k n o long h = word_inside n o (ap (λ m. leb (o + 4) m && eqb (o % 4) 0) (sym long) ∙ h)

-- the quad of a word's bytes
pub word_quad : (bs : List ℕ) (w : ℕ) → bs ≡ w % 256 ∷ (w / 256 % 256) ∷ (w / 65536 % 256) ∷ (w / 16777216 % 256) ∷ [] → quad_of_plain (get_or bs 0 0) (get_or bs 1 0) (get_or bs 2 0) (get_or bs 3 0) ≡ quad_of_plain (byte_of w 0) (byte_of w 1) (byte_of w 2) (byte_of w 3)
word_quad bs w is =
    let two : w / 65536 % 256 ≡ w / 256 / 256 % 256 = omega arith in
    let three : w / 16777216 % 256 ≡ w / 256 / 256 / 256 % 256 = omega arith in
    ap (λ (xs : List ℕ). quad_of_plain (get_or xs 0 0) (get_or xs 1 0) (get_or xs 2 0) (get_or xs 3 0)) is
    ∙ ap (λ y. quad_of_plain (w % 256) (w / 256 % 256) y (w / 16777216 % 256)) two ∙ ap (λ y. quad_of_plain (w % 256) (w / 256 % 256) (w / 256 / 256 % 256) y) three
