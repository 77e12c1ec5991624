-- Words that stand at a place of a file, one after the other.
use Rattle.std.proofs.Common.{◌≡◌, refl, sym, ap, ◌∙◌, ℕ, ◌+◌, ◌*◌, ◌/◌, ◌%◌, ◌<◌, ◌≤◌, List, [], ◌∷◌, ◌++◌, length, take, get_or, arith}
use Rattle.std.proofs.lemmas.List.{length-append, take_more, take_all, length-take}
use Rattle.std.proofs.lemmas.List.Concat.{flat_map-append}
use Rattle.cc_base.specs.Words.{word_bytes}
use Rattle.elf_file.specs.Places.{words_bytes, Stands}
use Rattle.elf_file.proofs.StandsFacts.{stands_join, stands_at, stands_bytes, table_entry}

pub length-words_bytes : (words : List ℕ) → length (words_bytes words) ≡ 4 * length words
length-words_bytes [] = refl
length-words_bytes (word ∷ words) = omega (arith, length-append (word_bytes word) (words_bytes words), length-words_bytes words)

pub word_more : (file words : List ℕ) (at i : ℕ) → Stands file at (words_bytes (take i words)) → i < length words → Stands file (at + 4 * i) (word_bytes (get_or words i 0)) → Stands file at (words_bytes (take (i + 1) words))
word_more file words at i s h t =
    let long : 4 * i ≡ length (words_bytes (take i words)) = omega (arith, length-words_bytes (take i words), length-take i words) in
    let more : words_bytes (take i words) ++ word_bytes (get_or words i 0) ≡ words_bytes (take (i + 1) words) =
    sym (ap words_bytes (take_more words i 0 h) ∙ flat_map-append word_bytes (take i words) (get_or words i 0 ∷ [])) in
    stands_bytes (stands_join file (words_bytes (take i words)) (word_bytes (get_or words i 0)) at s (stands_at t (at + length (words_bytes (take i words))) (ap (λ (n : ℕ). at + n) long))) (words_bytes (take (i + 1) words)) more

pub word_there : (file words : List ℕ) (at i : ℕ) → Stands file at (words_bytes words) → i < length words → Stands file (at + 4 * i) (word_bytes (get_or words i 0))
word_there file words at i s h = table_entry word_bytes 4 file 0 words at (λ w. refl) s i h

pub all_words : (file words : List ℕ) (at i : ℕ) → Stands file at (words_bytes (take i words)) → length words ≤ i → Stands file at (words_bytes words)
all_words file words at i s h = stands_bytes s (words_bytes words) (ap words_bytes (take_all i words h))

-- the bytes of a word, as std has them
pub le_bytes : (w : ℕ) → w % 256 ∷ w / 256 % 256 ∷ w / 65536 % 256 ∷ w / 16777216 % 256 ∷ [] ≡ word_bytes w
le_bytes w =
    let two : w / 65536 ≡ w / 256 / 256 = omega arith in
    let three : w / 16777216 ≡ w / 256 / 256 / 256 = omega arith in
    ap (λ (n : ℕ). w % 256 ∷ w / 256 % 256 ∷ n % 256 ∷ w / 16777216 % 256 ∷ []) two ∙ ap (λ (n : ℕ). w % 256 ∷ w / 256 % 256 ∷ w / 256 / 256 % 256 ∷ n % 256 ∷ []) three
