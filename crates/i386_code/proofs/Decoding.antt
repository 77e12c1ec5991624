-- What the reader of instructions answers, by the spellings alone.
use Rattle.std.proofs.Common.{◌≡◌, ◌≢◌, ℕ, zero, suc, ◌+◌, ◌-◌, ◌<◌, ◌≤◌, Bool, true, false, nat_le, List, [], ◌∷◌, ◌++◌, length, take, drop, refl, sym, ap, subst, ◌∙◌, arith, length-append}
use Rattle.std.proofs.lemmas.Bool.Decides.{nat_tests}
use Rattle.std.proofs.lemmas.Grind.{common_steps}
use Rattle.std.proofs.lemmas.List.{take-append-drop, take-append-le}
use Rattle.std.proofs.Math.Seq.{take-append-add}
use Rattle.i386_code.specs.declared.instr.Instr.{Instr}
use Rattle.i386_code.specs.declared.instr.Decoded.{Decoded}
use Rattle.i386_code.specs.declared.instr.Decoded.TheVariants.{Is, Short, Unknown}
use Rattle.i386_code.specs.Spelling.{Spells, IsAtFront, IsCutShort, IsNoInstruction, NoneBeginsAnother}
use Rattle.i386_code.specs.Reading.{run, instruction}
use Rattle.i386_code.proofs.Readers.{AreBytes, stable, within, given, completed}
use Rattle.i386_code.proofs.Given.{instruction_gives}
use Rattle.i386_code.proofs.Read.{spelling_read, instruction_sure}

-- what the reader makes of bytes
abbrev pub read : List ℕ → Decoded
read bytes = run instruction 0 bytes

pub at_front : (bytes : List ℕ) → AreBytes bytes → (instr : Instr) (count : ℕ) → read bytes ≡ Is instr count → IsAtFront bytes instr count
at_front bytes fit instr count e =
    let g = given instruction (λ s i. Spells i s) instruction_gives 0 bytes fit instr count e in
    let same : g.count ≡ count = omega arith in
    subst (λ (n : ℕ). IsAtFront bytes instr n) same (g.room, g.holds)

pub from_front : (bytes : List ℕ) (instr : Instr) (count : ℕ) → IsAtFront bytes instr count → read bytes ≡ Is instr count
from_front bytes instr count h =
    let front : read (take count bytes) ≡ Is instr (length (take count bytes)) = spelling_read instr (take count bytes) h.1 in
    let counted : length (take count bytes) ≡ count = grind (arith, common_steps) in
    let whole : take count bytes ++ drop count bytes ≡ bytes = take-append-drop count bytes in
    ap read (sym whole) ∙ stable instruction 0 (take count bytes) (drop count bytes) (λ short. cc) ∙ front ∙ ap (Is instr) counted

both_bytes : (bytes more : List ℕ) → AreBytes bytes → AreBytes more → AreBytes (bytes ++ more)
both_bytes [] more h k i = k i
both_bytes (b ∷ bytes) more h k zero = h zero
both_bytes (b ∷ bytes) more h k (suc i) = both_bytes bytes more (λ i. h (suc i)) k i

take_past : (n : ℕ) (bytes more : List ℕ) → take (length bytes + n) (bytes ++ more) ≡ bytes ++ take n more
take_past n bytes more = take-append-add bytes more n

pub cut_short : (bytes : List ℕ) → AreBytes bytes → read bytes ≡ Short → IsCutShort bytes
cut_short bytes fit e =
    let c = completed instruction instruction_sure 0 bytes e in
    let f = at_front (bytes ++ c.more) (both_bytes bytes c.more fit c.fit) c.instr c.count c.done in
    by_count c.more c.instr c.count f.0 f.1 (nat_le c.count (length bytes)) refl
  where
    by_count : (more : List ℕ) (instr : Instr) (count : ℕ) → count ≤ length (bytes ++ more) → Spells instr (take count (bytes ++ more)) → (b : Bool) → nat_le count (length bytes) ≡ b → IsCutShort bytes
    by_count more instr count room spells true test =
        let low : count ≤ length bytes = grind (arith, nat_tests) in
        let same : take count (bytes ++ more) ≡ take count bytes = rw take-append-le refl in
        let found = from_front bytes instr count (low, subst (Spells instr) same spells) in
        absurd cc
    by_count more instr count room spells false test =
        let high : length bytes < count = grind (arith, nat_tests) in
        let lengths = length-append bytes more in
        let split : length bytes + (count - length bytes) ≡ count = omega arith in
        let same : take count (bytes ++ more) ≡ bytes ++ take (count - length bytes) more = ap (λ (n : ℕ). take n (bytes ++ more)) (sym split) ∙ take_past (count - length bytes) bytes more in
        let left : length (take (count - length bytes) more) ≡ count - length bytes = grind (arith, common_steps) in
        (instr, take (count - length bytes) more, (λ none. let empty = ap (length {A = ℕ}) none in absurd (omega arith)), subst (Spells instr) same spells)

longer : (more : List ℕ) → more ≢ [] → 0 < length more
longer [] h = absurd (h refl)
longer (m ∷ more) h = omega arith

pub from_cut_short : (bytes : List ℕ) → IsCutShort bytes → read bytes ≡ Short
from_cut_short bytes h = by_answer (read bytes) refl
  where
    whole : read (bytes ++ h.1) ≡ Is h.0 (length (bytes ++ h.1))
    whole = spelling_read h.0 (bytes ++ h.1) h.3

    by_answer : (d : Decoded) → read bytes ≡ d → read bytes ≡ Short
    by_answer (Is instr count) e =
        let same : read (bytes ++ h.1) ≡ Is instr count = stable instruction 0 bytes h.1 (λ short. cc) ∙ e in
        let answer = whole in
        let counted : length (bytes ++ h.1) ≡ count = cc in
        let bound = within instruction 0 bytes instr count e in
        let lengths = length-append bytes h.1 in
        let more = longer h.1 h.2 in
        absurd (omega arith)
    by_answer Short e = e
    by_answer Unknown e =
        let same : read (bytes ++ h.1) ≡ Unknown = stable instruction 0 bytes h.1 (λ short. cc) ∙ e in
        let answer = whole in
        absurd cc

pub no_instruction : (bytes : List ℕ) → read bytes ≡ Unknown → IsNoInstruction bytes
no_instruction bytes e =
    ((λ instr count h. let found = from_front bytes instr count h in cc), (λ h. let found = from_cut_short bytes h in cc))

pub from_no_instruction : (bytes : List ℕ) → AreBytes bytes → IsNoInstruction bytes → read bytes ≡ Unknown
from_no_instruction bytes fit h = by_answer (read bytes) refl
  where
    by_answer : (d : Decoded) → read bytes ≡ d → read bytes ≡ Unknown
    by_answer (Is instr count) e = absurd (h.0 instr count (at_front bytes fit instr count e))
    by_answer Short e = absurd (h.1 (cut_short bytes fit e))
    by_answer Unknown e = e

empty : (more : List ℕ) → length more ≡ 0 → more ≡ []
empty [] h = refl
empty (m ∷ more) h = absurd (omega arith)

pub none_begins_another : NoneBeginsAnother
none_begins_another first second bytes more h k =
    let one = spelling_read first bytes h in
    let two = spelling_read second (bytes ++ more) k in
    let same : read (bytes ++ more) ≡ Is first (length bytes) = stable instruction 0 bytes more (λ short. cc) ∙ one in
    let counted : length (bytes ++ more) ≡ length bytes = cc in
    let lengths = length-append bytes more in
    (empty more (omega arith), cc)
