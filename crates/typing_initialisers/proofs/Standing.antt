-- The bytes of parts that are in order.
use Rattle.std.proofs.Common.{◌≡◌, ◌⊎◌, inl, inr, ℕ, ◌+◌, ◌-◌, ◌<◌, ◌≤◌, true, false, cond, ◌&&◌, List, [], ◌∷◌, ◌++◌, length, replicate, get_or, refl, sym, ap, ◌∙◌, subst, arith, length-append, append_assoc, append-nil}
use Rattle.std.specs.Prelude.{nat_le, nat_lt}
use Rattle.std.proofs.lemmas.Bool.{cases_lt}
use Rattle.std.proofs.lemmas.List.{get_or_append_left, get_or-append_right, get_or-replicate, get_or_past, length-replicate}
use Rattle.std.proofs.lemmas.Grind.{common_steps}
use Rattle.typing_initialisers.specs.declared.data.Data.{Data}
use Rattle.typing_initialisers.specs.Data.{Part, Bytes, Pointer, padded, nothing, with_part, with_parts}
use Rattle.typing_initialisers.specs.Standing.{start_of, bytes_of, end_of, Within, covers, byte_in, words_in}

length-padded : (at : ℕ) (xs : List ℕ) → length xs ≤ at → length (padded at xs) ≡ at
length-padded at xs within =
    let zero : ℕ = 0 in
    omega (arith, length-append xs (replicate (at - length xs) zero), length-replicate (at - length xs) zero)

bytes-with : (d : Data) (p : Part) → (with_part d p).bytes ≡ padded (start_of p) d.bytes ++ bytes_of p
bytes-with d (Bytes at bytes) = refl
bytes-with d (Pointer at to) = refl

reads : (d : Data) (p : Part) (i : ℕ) → get_or (with_part d p).bytes i 0 ≡ get_or (padded (start_of p) d.bytes ++ bytes_of p) i 0
reads d p i = ap (λ l. get_or l i 0) (bytes-with d p)

length-with : (d : Data) (p : Part) → length d.bytes ≤ start_of p → length (with_part d p).bytes ≡ end_of p
length-with d p within =
    ap length (bytes-with d p)
    ∙ length-append (padded (start_of p) d.bytes) (bytes_of p)
    ∙ ap (λ n. n + length (bytes_of p)) (length-padded (start_of p) d.bytes within)

within_padded : (at : ℕ) (xs : List ℕ) (i : ℕ) → i < length xs → i < length (padded at xs)
within_padded at xs i before = omega (arith, before, length-append xs (replicate (at - length xs) 0))

longer : (d : Data) (p : Part) (i : ℕ) → i < length d.bytes → i < length (with_part d p).bytes
longer d p i before =
    omega (arith, within_padded (start_of p) d.bytes i before, ap length (bytes-with d p), length-append (padded (start_of p) d.bytes) (bytes_of p))

-- what stands in a list of bytes stays
stays : (d : Data) (p : Part) (i : ℕ) → i < length d.bytes → get_or (with_part d p).bytes i 0 ≡ get_or d.bytes i 0
stays d p i before =
    reads d p i
    ∙ get_or_append_left (padded (start_of p) d.bytes) (bytes_of p) 0 i (within_padded (start_of p) d.bytes i before)
    ∙ get_or_append_left d.bytes (replicate (start_of p - length d.bytes) 0) 0 i before

all_stays : (d : Data) (ps : List Part) (i : ℕ) → i < length d.bytes → get_or (with_parts d ps).bytes i 0 ≡ get_or d.bytes i 0
all_stays d [] i before = refl
all_stays d (p ∷ ps) i before = all_stays (with_part d p) ps i (longer d p i before) ∙ stays d p i before

-- zeros stand before a part
zeros_before : (d : Data) (p : Part) (i : ℕ) → length d.bytes ≤ i → i < start_of p → get_or (with_part d p).bytes i 0 ≡ 0
zeros_before d p i behind before =
    reads d p i
    ∙ get_or_append_left (padded (start_of p) d.bytes) (bytes_of p) 0 i (omega (arith, before, length-padded (start_of p) d.bytes (omega arith)))
    ∙ get_or-append_right d.bytes (replicate (start_of p - length d.bytes) 0) (length d.bytes) i 0 refl behind
    ∙ get_or-replicate (start_of p - length d.bytes) (i - length d.bytes) 0 0 (omega arith)

-- and the part itself
stands : (d : Data) (p : Part) (i : ℕ) → length d.bytes ≤ start_of p → start_of p ≤ i → get_or (with_part d p).bytes i 0 ≡ get_or (bytes_of p) (i - start_of p) 0
stands d p i within behind =
    reads d p i
    ∙ get_or-append_right (padded (start_of p) d.bytes) (bytes_of p) (start_of p) i 0 (length-padded (start_of p) d.bytes within) behind

outside_before : (a b i : ℕ) → i < a → (nat_le a i && nat_lt i b) ≡ false
outside_before a b i before = grind (arith, common_steps)

outside_behind : (a b i : ℕ) → b ≤ i → (nat_le a i && nat_lt i b) ≡ false
outside_behind a b i behind = grind (arith, common_steps)

inside : (a b i : ℕ) → a ≤ i → i < b → (nat_le a i && nat_lt i b) ≡ true
inside a b i from to = grind (arith, common_steps)

uncovered : (p : Part) (ps : List Part) (i : ℕ) → covers p i ≡ false → byte_in (p ∷ ps) i ≡ byte_in ps i
uncovered p ps i e = ap (λ b. cond b (get_or (bytes_of p) (i - start_of p) 0) (byte_in ps i)) e

covered : (p : Part) (ps : List Part) (i : ℕ) → covers p i ≡ true → byte_in (p ∷ ps) i ≡ get_or (bytes_of p) (i - start_of p) 0
covered p ps i e = ap (λ b. cond b (get_or (bytes_of p) (i - start_of p) 0) (byte_in ps i)) e

none_before : (from to : ℕ) (ps : List Part) (i : ℕ) → Within from to ps → i < from → byte_in ps i ≡ 0
none_before from to [] i h before = refl
none_before from to (p ∷ ps) i h before =
    uncovered p ps i (outside_before (start_of p) (end_of p) i (omega (arith, before, h.0)))
    ∙ none_before (end_of p) to ps i h.1 (omega (arith, before, h.0))

-- every byte behind those that there are is what the parts give there
pub behind : (d : Data) (to : ℕ) (ps : List Part) (i : ℕ) → Within (length d.bytes) to ps → length d.bytes ≤ i → get_or (with_parts d ps).bytes i 0 ≡ byte_in ps i
behind d to [] i h from = get_or_past d.bytes i 0 from
behind d to (p ∷ ps) i h from =
    by (λ past. behind (with_part d p) to ps i rest (omega (arith, past, length-with d p h.0))) (cases_lt i (end_of p)) (cases_lt i (start_of p))
  where
    rest : Within (length (with_part d p).bytes) to ps
    rest = subst (λ n. Within n to ps) (sym (length-with d p h.0)) h.1

    by : (end_of p ≤ i → get_or (with_parts (with_part d p) ps).bytes i 0 ≡ byte_in ps i) → ((i < end_of p) ⊎ (end_of p ≤ i)) → ((i < start_of p) ⊎ (start_of p ≤ i)) → get_or (with_parts (with_part d p) ps).bytes i 0 ≡ byte_in (p ∷ ps) i
    by later (inl short) (inl before) =
        all_stays (with_part d p) ps i (omega (arith, short, length-with d p h.0))
        ∙ zeros_before d p i from before
        ∙ sym (none_before (end_of p) to ps i h.1 short)
        ∙ sym (uncovered p ps i (outside_before (start_of p) (end_of p) i before))
    by later (inl short) (inr since) =
        all_stays (with_part d p) ps i (omega (arith, short, length-with d p h.0))
        ∙ stands d p i h.0 since
        ∙ sym (covered p ps i (inside (start_of p) (end_of p) i since short))
    by later (inr past) e =
        later past
        ∙ sym (uncovered p ps i (outside_behind (start_of p) (end_of p) i past))

pub stand : (to : ℕ) (ps : List Part) (i : ℕ) → Within 0 to ps → get_or (with_parts nothing ps).bytes i 0 ≡ byte_in ps i
stand to ps i h = behind nothing to ps i h (omega arith)

ends : (d : Data) (to : ℕ) (ps : List Part) → Within (length d.bytes) to ps → length (with_parts d ps).bytes ≤ to
ends d to [] h = h
ends d to (p ∷ ps) h = ends (with_part d p) to ps (subst (λ n. Within n to ps) (sym (length-with d p h.0)) h.1)

-- and no byte stands behind the end
pub fit : (to : ℕ) (ps : List Part) → Within 0 to ps → length (with_parts nothing ps).bytes ≤ to
fit to ps h = ends nothing to ps h

words_behind : (d : Data) (ps : List Part) → (with_parts d ps).words ≡ d.words ++ words_in ps
words_behind d [] = sym (append-nil d.words)
words_behind d (Bytes at bytes ∷ ps) = words_behind (with_part d (Bytes at bytes)) ps
words_behind d (Pointer at to ∷ ps) = words_behind (with_part d (Pointer at to)) ps ∙ append_assoc d.words (record { offset = at; to = to } ∷ []) (words_in ps)

pub point : (ps : List Part) → (with_parts nothing ps).words ≡ words_in ps
point ps = words_behind nothing ps
