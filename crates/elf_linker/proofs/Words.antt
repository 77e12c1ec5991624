-- The relocations of an object's text, one after the other.
use Rattle.std.proofs.Common.{◌≡◌, ℕ, zero, suc, ◌+◌, ◌-◌, ◌<◌, ◌≤◌, inl, inr, List, [], ◌∷◌, take, drop, get_or, length, ap, ◌∙◌, sym, refl, subst, arith, Bool, true, false}
use Rattle.std.specs.Prelude.{All, slice_index, nat_lt}
use Rattle.std.proofs.lemmas.List.{drop_more, get_or_default}
use Rattle.std.proofs.lemmas.Bool.{ltb-true, ltb-false}
use Rattle.elf_file.specs.Object.{Object, reloc_of, no_reloc}
use Rattle.elf_file.specs.Read.{IsObject, OnlyText}
use Rattle.elf_file.specs.WellFormed.{RelocFits, StandsBefore, section_sizes}
use Rattle.elf_file.specs.declared.parts.ObjectParts.{ObjectParts}
use Rattle.elf_file.specs.declared.parts.RelocPart.{RelocPart}
use Rattle.elf_linker.specs.Placement.{text_of, text_address}
use Rattle.elf_linker.specs.Linked.{object_at, offset, Covers, IsRelocated, IsPlaced}
use Rattle.elf_linker.specs.LinkSteps.{FitImage, IsAside, IsCopied}
use Rattle.elf_linker.proofs.Placing.{object_read}
use Rattle.elf_linker.proofs.Relocated.{reloc_inside}

-- in an object with text alone every relocation changes the text
only_section : (parts : ObjectParts) → OnlyText parts → (place section : ℕ) → (0 < section) × (section ≤ 3) × (place + 4 ≤ slice_index (section_sizes parts) section) → section ≡ 1
only_section parts only place zero p = let h : ⊥ = (let some = p.0 in omega (arith, some)) in absurd h
only_section parts only place (suc zero) p = refl
only_section parts only place (suc (suc zero)) p = let h = p.2 in let n = ap (λ (xs : List ℕ). length xs) only.fixed in let no : ⊥ = omega (arith, h, n) in absurd no
only_section parts only place (suc (suc (suc zero))) p = let h = p.2 in let n = ap (λ (xs : List ℕ). length xs) only.held in let no : ⊥ = omega (arith, h, n) in absurd no
only_section parts only place (suc (suc (suc (suc n)))) p = let h : ⊥ = (let few = p.1 in omega (arith, few)) in absurd h

next_behind : (first later : RelocPart) → first.section ≡ 1 → later.section ≡ 1 → StandsBefore first later → first.offset + 4 ≤ later.offset
next_behind first later a b (inl h) = let no : ⊥ = omega (arith, a, b, h) in absurd no
next_behind first later a b (inr h) = h.1

module _ (parts : ObjectParts) (only : OnlyText parts) (fits : All (RelocFits (section_sizes parts) parts.symbols) parts.relocs) (rise : (k : ℕ) (d : RelocPart) → k + 1 < length parts.relocs → StandsBefore (get_or parts.relocs k d) (get_or parts.relocs (k + 1) d)) where
  section_at : (k : ℕ) → k < length parts.relocs → (get_or parts.relocs k no_reloc).section ≡ 1
  section_at k l = let f = fits k no_reloc l in only_section parts only (get_or parts.relocs k no_reloc).offset (get_or parts.relocs k no_reloc).section (f.from_text, f.to_writable, f.inside)

  rises_by : (k more : ℕ) → k + more + 1 < length parts.relocs → (get_or parts.relocs k no_reloc).offset + 4 ≤ (get_or parts.relocs (k + more + 1) no_reloc).offset
  rises_by k zero l =
      let h = next_behind (get_or parts.relocs k no_reloc) (get_or parts.relocs (k + 1) no_reloc) (section_at k (omega (arith, l))) (section_at (k + 1) (omega (arith, l))) (rise k no_reloc (omega (arith, l))) in
      let P : ℕ → Type 0 = λ n. (get_or parts.relocs k no_reloc).offset + 4 ≤ (get_or parts.relocs n no_reloc).offset in
      subst P (let e : k + 1 ≡ k + zero + 1 = omega arith in e) h
  rises_by k (suc more) l =
      let h = rises_by k more (omega (arith, l)) in
      let n = next_behind (get_or parts.relocs (k + more + 1) no_reloc) (get_or parts.relocs (k + more + 1 + 1) no_reloc) (section_at (k + more + 1) (omega (arith, l))) (section_at (k + more + 1 + 1) (omega (arith, l))) (rise (k + more + 1) no_reloc (omega (arith, l))) in
      let P : ℕ → Type 0 = λ n. (get_or parts.relocs k no_reloc).offset + 4 ≤ (get_or parts.relocs n no_reloc).offset in
      subst P (let e : k + more + 1 + 1 ≡ k + suc more + 1 = omega arith in e) (let a = h in let b = n in omega (arith, a, b))

-- a later relocation's word is behind that of an earlier one
pub rises : (object : Object) → IsObject object → (k later : ℕ) → k < later → later < length object.relocs → (reloc_of object k).offset + 4 ≤ (reloc_of object later).offset
rises object i k later l m =
    let P : Object → Type 0 = λ o. later < length o.relocs → (reloc_of o k).offset + 4 ≤ (reloc_of o later).offset in
    subst P (sym i.is) (λ n.
    let Q : ℕ → Type 0 = λ x. (get_or i.parts.relocs k no_reloc).offset + 4 ≤ (get_or i.parts.relocs x no_reloc).offset in
    subst Q (let e : k + (later - k - 1) + 1 ≡ later = omega (arith, l) in e) (rises_by i.parts i.only_text i.well_formed.relocs i.well_formed.relocs_rise k (later - k - 1) (omega (arith, l, n)))) m

-- four bytes of a list
four : (xs : List ℕ) (p : ℕ) → p + 4 ≤ length xs → take 4 (drop p xs) ≡ get_or xs p 0 ∷ get_or xs (p + 1) 0 ∷ get_or xs (p + 2) 0 ∷ get_or xs (p + 3) 0 ∷ []
four xs p l =
    let a = drop_more xs p 0 (omega (arith, l)) in let b = drop_more xs (p + 1) 0 (omega (arith, l)) in let c = drop_more xs (p + 1 + 1) 0 (omega (arith, l)) in let d = drop_more xs (p + 1 + 1 + 1) 0 (omega (arith, l)) in
    let two : p + 1 + 1 ≡ p + 2 = omega arith in let three : p + 1 + 1 + 1 ≡ p + 3 = omega arith in
    let x0 = get_or xs p 0 in let x1 = get_or xs (p + 1) 0 in
    ap (λ (ys : List ℕ). take 4 ys) a ∙ ap (λ (ys : List ℕ). x0 ∷ take 3 ys) b ∙ ap (λ (ys : List ℕ). x0 ∷ x1 ∷ take 2 ys) c ∙ ap (λ (ys : List ℕ). x0 ∷ x1 ∷ get_or xs (p + 1 + 1) 0 ∷ take 1 ys) d
    ∙ ap (λ (i : ℕ). x0 ∷ x1 ∷ get_or xs i 0 ∷ get_or xs (p + 1 + 1 + 1) 0 ∷ []) two ∙ ap (λ (i : ℕ). x0 ∷ x1 ∷ get_or xs (p + 2) 0 ∷ get_or xs i 0 ∷ []) three

pub same_word : (xs ys : List ℕ) (p : ℕ) → p + 4 ≤ length xs → p + 4 ≤ length ys → ((k : ℕ) → p ≤ k → k < p + 4 → get_or xs k 0 ≡ get_or ys k 0) → take 4 (drop p xs) ≡ take 4 (drop p ys)
same_word xs ys p l m same =
    four xs p l ∙ ap (λ (x : ℕ). x ∷ get_or xs (p + 1) 0 ∷ get_or xs (p + 2) 0 ∷ get_or xs (p + 3) 0 ∷ []) (same p (omega arith) (omega arith)) ∙ ap (λ (x : ℕ). get_or ys p 0 ∷ x ∷ get_or xs (p + 2) 0 ∷ get_or xs (p + 3) 0 ∷ []) (same (p + 1) (omega arith) (omega arith))
    ∙ ap (λ (x : ℕ). get_or ys p 0 ∷ get_or ys (p + 1) 0 ∷ x ∷ get_or xs (p + 3) 0 ∷ []) (same (p + 2) (omega arith) (omega arith)) ∙ ap (λ (x : ℕ). get_or ys p 0 ∷ get_or ys (p + 1) 0 ∷ get_or ys (p + 2) 0 ∷ x ∷ []) (same (p + 3) (omega arith) (omega arith)) ∙ sym (four ys p m)

-- a word that is relocated stays so where its bytes do
pub stays_relocated : (objects : List Object) (code after : List ℕ) (number : ℕ) (reloc : RelocPart) → (let p = offset (text_address objects number) + reloc.offset in p + 4 ≤ length code) → (let p = offset (text_address objects number) + reloc.offset in p + 4 ≤ length after)
    → ((k : ℕ) → offset (text_address objects number) + reloc.offset ≤ k → k < offset (text_address objects number) + reloc.offset + 4 → get_or after k 0 ≡ get_or code k 0) → IsRelocated objects code number reloc → IsRelocated objects after number reloc
stays_relocated objects code after number reloc l m same r = record { address = r.address; has = r.has; holds = same_word after code (offset (text_address objects number) + reloc.offset) m l same ∙ r.holds }

-- the text after its first relocations
pub record Half (objects : List Object) (number : ℕ) (old code : List ℕ) (index : ℕ) : Type 0 where
  pub same_length : length code ≡ length old
  pub done : (k : ℕ) → k < index → IsRelocated objects code number (reloc_of (object_at objects number) k)
  pub others : (byte : ℕ) → byte < (text_of (object_at objects number)).size → ((k : ℕ) → k < index → ¬ Covers byte (reloc_of (object_at objects number) k))
      → get_or code (offset (text_address objects number) + byte) 0 ≡ get_or (text_of (object_at objects number)).bytes byte 0
  pub before : (k : ℕ) → k < offset (text_address objects number) → get_or code k 0 ≡ get_or old k 0

-- a byte that a word does not cover is beside it
aside_by : (from byte place : ℕ) → ¬ ((place ≤ byte) × (byte < place + 4)) → (b d : Bool) → nat_lt byte place ≡ b → nat_lt byte (place + 4) ≡ d → IsAside (from + place) (from + byte)
aside_by from byte place none true d e f = let h = ltb-true byte place e in inl (omega (arith, h))
aside_by from byte place none false true e f = absurd (none (ltb-false byte place e, ltb-true byte (place + 4) f))
aside_by from byte place none false false e f = let h = ltb-false byte (place + 4) f in inr (omega (arith, h))

aside : (from byte place : ℕ) → ¬ ((place ≤ byte) × (byte < place + 4)) → IsAside (from + place) (from + byte)
aside from byte place none = aside_by from byte place none (nat_lt byte place) (nat_lt byte (place + 4)) refl refl

module _ (objects : List Object) (fit : FitImage objects) (number : ℕ) (l : number < length objects) (old : List ℕ) (inside : offset (text_address objects number) + (text_of (object_at objects number)).size ≤ length old) where
  read : IsObject (object_at objects number)
  read = object_read objects fit.are number l

  module _ (code after : List ℕ) (index : ℕ) (half : Half objects number old code index) (k_in : index < length (object_at objects number).relocs)
      (there : IsRelocated objects after number (reloc_of (object_at objects number) index)) (same_length : length after ≡ length code)
      (others : (k : ℕ) → IsAside (offset (text_address objects number) + (reloc_of (object_at objects number) index).offset) k → get_or after k 0 ≡ get_or code k 0) where
    earlier : (k : ℕ) → k < index → IsRelocated objects after number (reloc_of (object_at objects number) k)
    earlier k m =
        let r = rises (object_at objects number) read k index m k_in in
        let w = (reloc_inside (object_at objects number) read k (omega (arith, m, k_in))).word in let n = half.same_length in
        stays_relocated objects code after number (reloc_of (object_at objects number) k) (omega (arith, w, inside, n)) (omega (arith, w, inside, n, same_length))
        (λ i a b. others i (inl (omega (arith, b, r)))) (half.done k m)

    done_by : (k : ℕ) → k < index + 1 → (b : Bool) → nat_lt k index ≡ b → IsRelocated objects after number (reloc_of (object_at objects number) k)
    done_by k m true e = earlier k (ltb-true k index e)
    done_by k m false e =
        let h = ltb-false k index e in let same : index ≡ k = omega (arith, h, m) in
        let P : ℕ → Type 0 = λ n. IsRelocated objects after number (reloc_of (object_at objects number) n) in subst P same there

    pub half_more : Half objects number old after (index + 1)
    half_more = record {
      same_length = same_length ∙ half.same_length;
      done = λ k m. done_by k m (nat_lt k index) refl;
      others = λ byte m none. others (offset (text_address objects number) + byte) (aside (offset (text_address objects number)) byte (reloc_of (object_at objects number) index).offset (none index (omega arith)))
          ∙ half.others byte m (λ k n. none k (omega (arith, n)));
      before = λ k m. others k (inl (omega (arith, m))) ∙ half.before k m;
    }

  -- nothing is relocated yet
  pub half_none : (copied : IsCopied objects number old) → Half objects number old old 0
  half_none copied = record { same_length = refl; done = λ k m. (let h : ⊥ = omega (arith, m) in absurd h); others = λ byte m none. copied.bytes byte m; before = λ k m. refl }

  -- all words are relocated
  pub half_all : (code : List ℕ) → Half objects number old code (length (object_at objects number).relocs) → IsPlaced objects code number
  half_all code half =
      let rs = (object_at objects number).relocs in
      record {
        relocated = λ k d m. (let P : RelocPart → Type 0 = λ r. IsRelocated objects code number r in subst P (get_or_default rs k no_reloc d m) (half.done k m));
        others = λ byte m none. half.others byte m (λ k n. none k no_reloc n);
      }
