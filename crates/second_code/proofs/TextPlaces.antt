-- Where the texts of objects stand: each behind the first address, and before the end of all texts.
use Rattle.std.specs.Prelude.{◌≡◌, ℕ, zero, suc, ◌+◌, ◌*◌, ◌/◌, ◌%◌, ◌<◌, ◌≤◌, List, [], ◌∷◌, length, get_or}
use Rattle.std.proofs.Common.{arith}
use Rattle.std.proofs.lemmas.Nat.{div-add-mod'}
use Rattle.std.proofs.Math.Nat.{mod-lt}
use Rattle.elf_file.specs.Object.{Object}
use Rattle.elf_linker.specs.Placement.{aligned, text_of, begin_from, end_from, text_from, texts_end_from}

-- alignment goes forward
whole_part : (at n multiple rest : ℕ) → multiple + rest ≡ at + n → rest < suc n → at ≤ multiple
whole_part at n multiple rest e l = omega (arith, e, l)

pub aligned_from : (align at : ℕ) → at ≤ aligned align at
aligned_from zero at = omega arith
aligned_from (suc n) at = whole_part at n ((at + n) / suc n * suc n) ((at + n) % suc n) (div-add-mod' (at + n) (suc n)) (mod-lt (at + n) (omega arith))

between : (at begin size end : ℕ) → at ≤ begin → begin + size ≤ end → at ≤ end
between at begin size end a b = omega (arith, a, b)

ends_from : (at : ℕ) (object : Object) → at ≤ end_from at object
ends_from at object = between at (begin_from at object) (text_of object).size (end_from at object) (aligned_from (text_of object).align at) (let h : begin_from at object + (text_of object).size ≤ end_from at object = omega arith in h)

through : (a b c : ℕ) → a ≤ b → b ≤ c → a ≤ c
through a b c x y = omega (arith, x, y)

texts_from : (at : ℕ) (objects : List Object) → at ≤ texts_end_from at objects
texts_from at [] = omega arith
texts_from at (object ∷ objects) = through at (end_from at object) (texts_end_from (end_from at object) objects) (ends_from at object) (texts_from (end_from at object) objects)

pub text_inside : (at : ℕ) (objects : List Object) (number : ℕ) (d : Object) → number < length objects
    → (at ≤ text_from at objects number) × (text_from at objects number + (text_of (get_or objects number d)).size ≤ texts_end_from at objects)
text_inside at [] number d h = absurd (omega (arith, h))
text_inside at (object ∷ objects) zero d h = (aligned_from (text_of object).align at, texts_from (end_from at object) objects)
text_inside at (object ∷ objects) (suc number) d h =
    let more = text_inside (end_from at object) objects number d (omega (arith, h)) in
    (through at (end_from at object) (text_from (end_from at object) objects number) (ends_from at object) more.0, more.1)
