-- What lengths make of a size.
use Rattle.std.proofs.Common.{◌≡◌, ◌⊎◌, ◌==◌, ◌||◌, Bool, true, false, ◌≤◌, ◌<◌, ◌*◌, ◌+◌, ℕ, zero, suc, List, [], ◌∷◌, length, drop, get_or, map, arith, inl, inr, refl, sym, ◌∙◌, ap, subst, drop-cons, zero-add}
use Rattle.std.proofs.Math.Nat.{le-mul_of_pos_right}
use Rattle.std.proofs.lemmas.Bool.{or_right, eqb-true}
use Rattle.std.specs.Prelude.{Option, Some, None}
use Rattle.std.specs.Option.{option_map}
use Rattle.text_grammar.specs.declared.tree.Number.{Number}
use Rattle.typing_types.specs.declared.class.Base.{Base}
use Rattle.typing_types.specs.declared.class.Extent.{Extent}
use Rattle.typing_types.specs.declared.class.Extent.TheVariants as extent
use Rattle.typing_types.specs.Laid.{Laid}
use Rattle.typing_types.specs.Types.{lengths_of, is_empty_among}
use Rattle.typing_types.specs.Structs.{base_size}
use Rattle.typing_types.specs.Widths.{largest, scaled, has_zero, IsPast}
use Rattle.typing_types.specs.Sizes.{count_of, times, size_of, starred}

-- what is past the greatest size stays so, or a length is 0
pub scaled_more : (size : ℕ) (ns : List Number) → largest < size → IsPast size ns
scaled_more size [] past = inl past
scaled_more size (n ∷ ns) past = by n.value refl (λ more. scaled_more (size * n.value) ns more)
  where
    later : IsPast (size * n.value) ns → IsPast size (n ∷ ns)
    later (inl p) = inl p
    later (inr z) = inr (or_right (n.value == 0) (has_zero ns) z)

    by : (v : ℕ) → n.value ≡ v → (largest < size * n.value → IsPast (size * n.value) ns) → IsPast size (n ∷ ns)
    by zero e rest = inr (rw e refl)
    by (suc v) e rest =
        let least : size ≤ size * suc v = le-mul_of_pos_right size (omega arith) in
        let more : largest < size * n.value = rw e (omega arith) in
        later (rest more)

-- with one length more the product is past the greatest size
pub scaled_past : (total : ℕ) (n : Number) (ns : List Number) → (total * n.value ≤ largest → ⊥) → IsPast total (n ∷ ns)
scaled_past total n ns past = by (scaled_more (total * n.value) ns (omega arith))
  where
    by : IsPast (total * n.value) ns → IsPast total (n ∷ ns)
    by (inl p) = inl p
    by (inr z) = inr (or_right (n.value == 0) (has_zero ns) z)

zero_behind : (i : ℕ) (ns : List Number) → has_zero (drop i ns) ≡ true → has_zero ns ≡ true
zero_behind zero ns z = z
zero_behind (suc i) [] z = z
zero_behind (suc i) (n ∷ ns) z = or_right (n.value == 0) (has_zero ns) (zero_behind i ns z)

-- the same where the lengths before it are counted already
pub scaled_past_at : (size total i : ℕ) (d : Number) (ns : List Number) → i < length ns → scaled total (drop i ns) ≡ scaled size ns → (total * (get_or ns i d).value ≤ largest → ⊥) → IsPast size ns
scaled_past_at size total i d ns within same past =
    let split : drop i ns ≡ get_or ns i d ∷ drop (suc i) ns = drop-cons ns i d within in
    by (subst (IsPast total) (sym split) (scaled_past total (get_or ns i d) (drop (suc i) ns) past))
  where
    by : IsPast total (drop i ns) → IsPast size ns
    by (inl p) = inl (subst (λ n. largest < n) same p)
    by (inr z) = inr (zero_behind i ns z)

-- the same of a length in front
pub array_past : (size count : ℕ) (ns : List Number) → IsPast (size * count) ns → (largest < scaled (size * count) ns) ⊎ ((count == 0 || has_zero ns) ≡ true)
array_past size count ns (inl p) = inl p
array_past size count ns (inr z) = inr (or_right (count == 0) (has_zero ns) z)

-- the lengths of a declarator, and those of its type
pub empty_among : (ns : List Number) → is_empty_among (map (λ (n : Number). Some n.value) ns) ≡ has_zero ns
empty_among [] = refl
empty_among (n ∷ ns) = ap (λ b. n.value == 0 || b) (empty_among ns)

pub known_among : (n : ℕ) (rest : List Number) → (n ≡ 0 → ⊥) → has_zero rest ≡ is_empty_among (lengths_of (extent.Known n) rest)
known_among n rest some = by (n == 0) (λ e. some (eqb-true n 0 e))
  where
    by : (b : Bool) → (b ≡ true → ⊥) → has_zero rest ≡ (b || is_empty_among (map (λ (n : Number). Some n.value) rest))
    by true h = absurd (h refl)
    by false h = sym (empty_among rest)

pub past_among : (e : Extent) (n m : ℕ) (rest : List Number) → e ≡ extent.Known n → (largest < m) ⊎ ((n == 0 || has_zero rest) ≡ true) → (largest < m) ⊎ (is_empty_among (lengths_of e rest) ≡ true)
past_among e n m rest is (inl p) = inl p
past_among e n m rest is (inr z) = inr (ap (λ (x : Extent). is_empty_among (lengths_of x rest)) is ∙ ap (λ b. n == 0 || b) (empty_among rest) ∙ z)

abbrev product_of : List Number → ℕ
product_of [] = 1
product_of (n ∷ ns) = n.value * product_of ns

count-is : (ns : List Number) → count_of (map (λ (n : Number). Some n.value) ns) ≡ Some (product_of ns)
count-is [] = refl
count-is (n ∷ ns) = ap (option_map (λ m. n.value * m)) (count-is ns)

scaled-is : (size : ℕ) (ns : List Number) → scaled size ns ≡ product_of ns * size
scaled-is size [] = omega arith
scaled-is size (n ∷ ns) = scaled-is (size * n.value) ns ∙ search (arith)

-- an array's size
pub array_is : (n size : ℕ) (rest : List Number) → times (count_of (lengths_of (extent.Known n) rest)) (Some size) ≡ Some (scaled (size * n) rest)
array_is n size rest =
    ap (λ c. times (option_map (λ m. n * m) c) (Some size)) (count-is rest) ∙ ap (λ m. Some m) (search arith ∙ sym (scaled-is (size * n) rest))

pub size_of_known_array : (structs : List (Option Laid)) (b : Base) (stars pointers n size : ℕ) (e : Extent) (rest : List Number) → pointers ≡ 0 → e ≡ extent.Known n → starred stars (base_size structs b) ≡ Some size → size_of structs (record { base = b; stars = stars; lengths = lengths_of e rest; pointers = pointers }) ≡ Some (scaled (size * n) rest)
size_of_known_array structs b stars pointers n size e rest none is element =
    rw (none, is, element) (array_is n size rest)
