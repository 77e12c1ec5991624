-- The worked example of two units is linked as it says.
use Rattle.std.specs.Prelude.{◌≡◌, ℕ, zero, suc, ◌+◌, ◌<◌, ◌≤◌, List, [], ◌∷◌, get_or, All, None, Bool, true, false, ◌&&◌, ◌||◌, nat_le, nat_lt, eqb, codes}
use Rattle.std.specs.List.{list_any}
use Rattle.std.proofs.Common.{arith, ◌∙◌, ap, refl, subst, inl, inr}
use Rattle.std.proofs.lemmas.Bool.{eqb-true, leb-true, ltb-true}
use Rattle.std.proofs.lemmas.Bool.Decides.{eqb_tells}
use Rattle.std.proofs.lemmas.List.Elements.{All-cons, All-head, All-tail}
use Rattle.elf_file.specs.Image.{first_address, end_address}
use Rattle.elf_file.specs.Object.{Object}
use Rattle.elf_file.specs.declared.parts.RelocPart.{RelocPart}
use Rattle.elf_file.specs.declared.parts.RelocKind.TheVariants.{Rel}
use Rattle.elf_linker.specs.Placement.{text_of, text_address, texts_end}
use Rattle.elf_linker.specs.Linked.{Linked, IsPlaced, IsRelocated, IsDefinedAt, IsGap, Covers, offset, object_at}
use Rattle.elf_linker.specs.Names.{link_fault}
use Rattle.second_code.specs.LinkedObjects.{linked_objects}
use Rattle.second_code.specs.TwoUnits.{two_units, two_units_code, two_units_image}
use Rattle.second_code.proofs.Tests.{one_of, both_of}

abbrev objects : List Object
objects = linked_objects two_units

-- a test of all numbers below one
abbrev all_below : ℕ → (ℕ → Bool) → Bool
all_below zero p = true
all_below (suc n) p = p n && all_below n p

passes : (n : ℕ) (p : ℕ → Bool) → all_below n p ≡ true → (k : ℕ) → k < n → p k ≡ true
passes zero p e k h = absurd (omega (arith, h))
passes (suc n) p e k h =
    let parts = both_of (p n) (all_below n p) e in
    elim (eqb_tells k n) [
      | inl same ↦ ap p same.1 ∙ parts.0
      | inr other ↦ passes n p parts.1 k (let o = other.1 in omega (arith, h, o))
    ]

-- a byte of an object's text is covered, or it is in the code
abbrev is_covered : ℕ → RelocPart → Bool
is_covered byte reloc = nat_le reloc.offset byte && nat_lt byte (reloc.offset + 4)

abbrev is_right : ℕ → ℕ → Bool
is_right number byte =
    list_any (is_covered byte) (object_at objects number).relocs
    || eqb (get_or two_units_code (offset (text_address objects number) + byte) 0) (get_or (text_of (object_at objects number)).bytes byte 0)

none_covers : (byte : ℕ) (relocs : List RelocPart) → All (λ reloc. ¬ Covers byte reloc) relocs → list_any (is_covered byte) relocs ≡ true → ⊥
none_covers byte [] a t = let clash : false ≡ true = t in cc
none_covers byte (reloc ∷ relocs) a t =
    elim (one_of (is_covered byte reloc) (list_any (is_covered byte) relocs) t) [
      | inl here ↦
          let parts = both_of (nat_le reloc.offset byte) (nat_lt byte (reloc.offset + 4)) here in
          All-head (λ r. ¬ Covers byte r) reloc relocs a (leb-true reloc.offset byte parts.0, ltb-true byte (reloc.offset + 4) parts.1)
      | inr more ↦ none_covers byte relocs (All-tail (λ r. ¬ Covers byte r) reloc relocs a) more
    ]

placed_when : (number : ℕ) → All (IsRelocated objects two_units_code number) (object_at objects number).relocs → all_below (text_of (object_at objects number)).size (is_right number) ≡ true → IsPlaced objects two_units_code number
placed_when number relocated t = record {
  relocated = relocated;
  others = λ byte h apart.
      elim (one_of (list_any (is_covered byte) (object_at objects number).relocs) _ (passes (text_of (object_at objects number)).size (is_right number) t byte h)) [
        | inl covered ↦ absurd (none_covers byte (object_at objects number).relocs apart covered)
        | inr same ↦ eqb-true _ _ same
      ];
}

-- where the names are
main_is : IsDefinedAt objects (codes "main") 0x08049000
main_is = record { number = 0; symbol = 2; section = 1; in_objects = omega arith; in_table = omega arith; shown = refl; named = refl; at = (refl, refl) }

f_is : IsDefinedAt objects (codes "f") 0x08049020
f_is = record { number = 1; symbol = 1; section = 1; in_objects = omega arith; in_table = omega arith; shown = refl; named = refl; at = (refl, refl) }

start_is : IsDefinedAt objects (codes "_start") 0x08049040
start_is = record { number = 2; symbol = 1; section = 1; in_objects = omega arith; in_table = omega arith; shown = refl; named = refl; at = (refl, refl) }

putbyte_is : IsDefinedAt objects (codes "putbyte") 0x08049086
putbyte_is = record { number = 2; symbol = 4; section = 1; in_objects = omega arith; in_table = omega arith; shown = refl; named = refl; at = (refl, refl) }

none : (P : RelocPart → Type 0) → All P []
none P k d h = absurd (omega (arith, h))

-- a call's word, by its place and its symbol
abbrev word_of : ℕ → ℕ → RelocPart
word_of place symbol = record { section = 1; offset = place; symbol = symbol; kind = Rel }

placed : (number : ℕ) → number < 3 → IsPlaced objects two_units_code number
placed zero h =
    placed_when 0
    (All-cons (IsRelocated objects two_units_code 0) (word_of 1 1) (word_of 12 3 ∷ []) (record { address = 0x08049020; has = f_is; holds = refl })
    (All-cons (IsRelocated objects two_units_code 0) (word_of 12 3) [] (record { address = 0x08049086; has = putbyte_is; holds = refl }) (none _))) refl
placed (suc zero) h = placed_when 1 (All-cons (IsRelocated objects two_units_code 1) (word_of 7 2) [] (record { address = 0x08049086; has = putbyte_is; holds = refl }) (none _)) refl
placed (suc (suc zero)) h = placed_when 2 (All-cons (IsRelocated objects two_units_code 2) (word_of 1 2) [] (record { address = 0x08049000; has = main_is; holds = refl }) (none _)) refl
placed (suc (suc (suc number))) h = absurd (omega (arith, h))

-- zeros between the texts
abbrev in_text : ℕ → ℕ → Bool
in_text number address = nat_le (text_address objects number) address && nat_lt address (text_address objects number + (text_of (object_at objects number)).size)

abbrev is_text_or_zero : ℕ → Bool
is_text_or_zero place = in_text 0 (first_address + place) || (in_text 1 (first_address + place) || (in_text 2 (first_address + place) || eqb (get_or two_units_code place 0) 0))

no_text : (number address : ℕ) → number < 3 → IsGap objects address → in_text number address ≡ true → ⊥
no_text number address h gap t =
    let parts = both_of (nat_le (text_address objects number) address) (nat_lt address (text_address objects number + (text_of (object_at objects number)).size)) t in
    gap number h (leb-true (text_address objects number) address parts.0, ltb-true address (text_address objects number + (text_of (object_at objects number)).size) parts.1)

zero_there : (place : ℕ) → IsGap objects (first_address + place) → is_text_or_zero place ≡ true → get_or two_units_code place 0 ≡ 0
zero_there place gap t =
    elim (one_of (in_text 0 (first_address + place)) _ t) [
      | inl a ↦ absurd (no_text 0 (first_address + place) (omega arith) gap a)
      | inr t ↦
          elim (one_of (in_text 1 (first_address + place)) _ t) [
            | inl b ↦ absurd (no_text 1 (first_address + place) (omega arith) gap b)
            | inr t ↦
                elim (one_of (in_text 2 (first_address + place)) _ t) [
                  | inl c ↦ absurd (no_text 2 (first_address + place) (omega arith) gap c)
                  | inr z ↦ eqb-true _ _ z
                ]
          ]
    ]

gaps : (address : ℕ) → first_address ≤ address → address < texts_end objects → IsGap objects address → get_or two_units_code (offset address) 0 ≡ 0
gaps address low high gap =
    let at : address ≡ first_address + offset address = omega (arith, low) in
    let below : address < 0x0804909e = high in
    zero_there (offset address) (let P : ℕ → Type 0 = IsGap objects in subst P at gap) (passes 158 is_text_or_zero refl (offset address) (omega (arith, low, below)))

pub two_units_linked : Linked objects two_units_image
two_units_linked = record {
  code = two_units_code;
  segments = refl;
  entry = start_is;
  ends = refl;
  inside = (let h : 0x0804a000 ≤ end_address = omega arith in h);
  placed = placed;
  gaps = gaps;
}

pub two_units_no_fault : link_fault objects ≡ None
two_units_no_fault = refl
