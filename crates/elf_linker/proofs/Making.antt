-- The code of objects, one text behind the other.
use Rattle.std.proofs.Common.{◌≡◌, ℕ, ◌+◌, ◌-◌, ◌<◌, ◌≤◌, List, [], ◌++◌, take, drop, get_or, length, replicate, ap, ◌∙◌, sym, refl, subst, arith, length-append, append-nil, Bool, true, false}
use Rattle.std.specs.Prelude.{nat_lt}
use Rattle.std.proofs.lemmas.List.{get_or_append_left, get_or-append_right, get_or-replicate, length-replicate}
use Rattle.std.proofs.lemmas.Bool.{ltb-true, ltb-false}
use Rattle.elf_file.specs.Image.{first_address}
use Rattle.elf_file.specs.Object.{Object, reloc_of}
use Rattle.elf_file.specs.declared.parts.RelocPart.{RelocPart}
use Rattle.elf_linker.specs.Placement.{text_of, text_address}
use Rattle.elf_linker.specs.Linked.{object_at, offset, IsRelocated, IsPlaced}
use Rattle.elf_linker.specs.LinkSteps.{FitImage, IsCopied, IsGapTo, IsMade}
use Rattle.elf_linker.proofs.Placing.{object_read, text_size, ends_before, ends_inside, stands}
use Rattle.elf_linker.proofs.Relocated.{reloc_inside}
use Rattle.elf_linker.proofs.Words.{stays_relocated}
use Rattle.elf_file.specs.Object.{no_reloc}
use Rattle.std.proofs.lemmas.List.{get_or_default, drop_all, take_all}

-- a text that is placed stays so where its bytes do
pub stays_placed : (objects : List Object) → FitImage objects → (number : ℕ) → number < length objects → (code after : List ℕ) → (let e = offset (text_address objects number) + (text_of (object_at objects number)).size in e ≤ length code) → (let e = offset (text_address objects number) + (text_of (object_at objects number)).size in e ≤ length after)
    → ((k : ℕ) → k < offset (text_address objects number) + (text_of (object_at objects number)).size → get_or after k 0 ≡ get_or code k 0) → IsPlaced objects code number → IsPlaced objects after number
stays_placed objects fit number l code after a b same placed =
    let object = object_at objects number in let read = object_read objects fit.are number l in
    record {
      relocated = λ k d m.
          let w = (reloc_inside object read k m).word in
          let P : RelocPart → Type 0 = λ r. IsRelocated objects after number r in
          subst P (get_or_default object.relocs k no_reloc d m)
          (stays_relocated objects code after number (reloc_of object k) (omega (arith, w, a)) (omega (arith, w, b)) (λ i from to. same i (omega (arith, to, w))) (placed.relocated k no_reloc m));
      others = λ byte m none. same (offset (text_address objects number) + byte) (omega (arith, m)) ∙ placed.others byte m none;
    }

module _ (objects : List Object) (fit : FitImage objects) (number : ℕ) (l : number < length objects) (old : List ℕ) (made : IsMade objects number old) where
  -- how many zeros stand before the text
  abbrev pub gap : ℕ
  gap = text_address objects number - first_address - length old

  pub text_behind : first_address + length old ≤ text_address objects number
  text_behind = let s = (stands objects fit.are number l).from in let e = made.ends in omega (arith, s, e)

  module _ (bytes : List ℕ) (are : bytes ≡ (text_of (object_at objects number)).bytes) (mid : List ℕ) (is : mid ≡ (old ++ replicate gap 0) ++ bytes) where
    start_is : length (old ++ replicate gap 0) ≡ offset (text_address objects number)
    start_is = let n = length-append old (replicate gap 0) in let r = length-replicate {A = ℕ} gap 0 in let t = text_behind in omega (arith, n, r, t)

    size_is : (text_of (object_at objects number)).size ≡ length bytes
    size_is = text_size (object_at objects number) (object_read objects fit.are number l) ∙ ap (λ (xs : List ℕ). length xs) (sym are)

    pub length_is : length mid ≡ offset (text_address objects number) + (text_of (object_at objects number)).size
    length_is = let e = ap (λ (xs : List ℕ). length xs) is in let n = length-append (old ++ replicate gap 0) bytes in let s = start_is in let z = size_is in omega (arith, e, n, s, z)

    pub copied : IsCopied objects number mid
    copied = record {
      inside = (let n = length_is in omega (arith, n));
      bytes = λ byte m.
          let s = start_is in
          ap (λ (xs : List ℕ). get_or xs (offset (text_address objects number) + byte) 0) is
          ∙ get_or-append_right (old ++ replicate gap 0) bytes (offset (text_address objects number)) (offset (text_address objects number) + byte) 0 s (omega arith)
          ∙ ap (λ (i : ℕ). get_or bytes i 0) (let e : offset (text_address objects number) + byte - offset (text_address objects number) ≡ byte = omega arith in e) ∙ ap (λ (xs : List ℕ). get_or xs byte 0) are;
    }

    -- what stands before the text
    old_there : (k : ℕ) → k < length old → get_or mid k 0 ≡ get_or old k 0
    old_there k m =
        ap (λ (xs : List ℕ). get_or xs k 0) is ∙ get_or_append_left (old ++ replicate gap 0) bytes 0 k (let n = length-append old (replicate gap 0) in omega (arith, n, m)) ∙ get_or_append_left old (replicate gap 0) 0 k m

    zero_there : (k : ℕ) → length old ≤ k → k < offset (text_address objects number) → get_or mid k 0 ≡ 0
    zero_there k m n =
        let s = start_is in let t = text_behind in
        ap (λ (xs : List ℕ). get_or xs k 0) is ∙ get_or_append_left (old ++ replicate gap 0) bytes 0 k (omega (arith, s, n)) ∙ get_or-append_right old (replicate gap 0) (length old) k 0 refl m
        ∙ get_or-replicate gap (k - length old) 0 0 (omega (arith, m, n, t))

    module _ (final : List ℕ) (placed : IsPlaced objects final number) (same_length : length final ≡ length mid) (before : (k : ℕ) → k < offset (text_address objects number) → get_or final k 0 ≡ get_or mid k 0) where
      old_stays : (k : ℕ) → k < length old → get_or final k 0 ≡ get_or old k 0
      old_stays k m = before k (let t = text_behind in omega (arith, m, t)) ∙ old_there k m

      earlier_placed : (earlier : ℕ) → earlier < number → IsPlaced objects final earlier
      earlier_placed earlier m =
          let s = (stands objects fit.are earlier (omega (arith, m, l))).to in let f = (stands objects fit.are earlier (omega (arith, m, l))).from in let b = ends_before objects fit.are (earlier + 1) number (omega (arith, m)) (omega (arith, l)) in
          let first = (ends_inside objects fit.are earlier (omega (arith, m, l))).0 in
          let e = made.ends in let n = length_is in let t = text_behind in
          let inside : offset (text_address objects earlier) + (text_of (object_at objects earlier)).size ≤ length old = omega (arith, s, f, b, e, first) in
          stays_placed objects fit earlier (omega (arith, m, l)) old final inside (omega (arith, inside, same_length, n, t)) (λ k i. old_stays k (omega (arith, i, inside))) (made.placed earlier m)

      placed_by : (earlier : ℕ) → earlier < number + 1 → (b : Bool) → nat_lt earlier number ≡ b → IsPlaced objects final earlier
      placed_by earlier m true e = earlier_placed earlier (ltb-true earlier number e)
      placed_by earlier m false e =
          let h = ltb-false earlier number e in let same : number ≡ earlier = omega (arith, h, m) in
          let P : ℕ → Type 0 = λ n. IsPlaced objects final n in subst P same placed

      gap_by : (address : ℕ) → first_address ≤ address → address < first_address + length final → IsGapTo objects (number + 1) address → (b d : Bool) → nat_lt address (first_address + length old) ≡ b → nat_lt address (text_address objects number) ≡ d → get_or final (offset address) 0 ≡ 0
      gap_by address from to none true d e f =
          let h = ltb-true address (first_address + length old) e in
          old_stays (offset address) (omega (arith, h, from)) ∙ made.gaps address from h (λ earlier m. none earlier (omega (arith, m)))
      gap_by address from to none false true e f =
          let h = ltb-false address (first_address + length old) e in let t = ltb-true address (text_address objects number) f in
          before (offset address) (omega (arith, t, from)) ∙ zero_there (offset address) (omega (arith, h, from)) (omega (arith, t, from))
      gap_by address from to none false false e f =
          let t = ltb-false address (text_address objects number) f in let n = length_is in let b = text_behind in
          absurd (none number (omega arith) (t, (let h : address < text_address objects number + (text_of (object_at objects number)).size = omega (arith, to, same_length, n, b) in h)))

      pub made_more : IsMade objects (number + 1) final
      made_more = record {
        ends = (let s = (stands objects fit.are number l).to in let n = length_is in let b = text_behind in omega (arith, s, n, b, same_length));
        placed = λ earlier m. placed_by earlier m (nat_lt earlier number) refl;
        gaps = λ address from to none. gap_by address from to none (nat_lt address (first_address + length old)) (nat_lt address (text_address objects number)) refl refl;
      }

-- no code is made yet
pub made_none : (objects : List Object) → IsMade objects 0 []
made_none objects = record { ends = refl; placed = λ earlier m. (let h : ⊥ = omega (arith, m) in absurd h); gaps = λ address from to none. (let h : ⊥ = omega (arith, from, to) in absurd h) }

-- a slice of the whole code that is written back
pub written_back : (final items : List ℕ) (n : ℕ) → length final ≡ length items → n ≡ length items → take n (final ++ drop (length final) items) ≡ final
written_back final items n f e =
    ap (λ (xs : List ℕ). take n (final ++ xs)) (drop_all (length final) items (omega (arith, f))) ∙ ap (λ (xs : List ℕ). take n xs) (append-nil final) ∙ take_all n final (omega (arith, f, e))
