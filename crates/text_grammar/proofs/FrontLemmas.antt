-- What the first byte of a text tells.
use Rattle.std.proofs.Common.{◌≡◌, ℕ, ◌+◌, ◌≤◌, List, [], ◌∷◌, length, get_or, cond, refl, Bool, true, false, ◌||◌, arith, eqb}
use Rattle.std.specs.List.{prefix_len}
use Rattle.std.specs.Char.{is_ascii_digit, is_ascii_alphabetic}
use Rattle.text_grammar.specs.Lexical.{is_letter, is_word_byte}

cond_first : (test : Bool) (n : ℕ) → test ≡ true → 1 ≤ cond test (1 + n) 0
cond_first true n e = omega arith
cond_first false n e = absurd (cc)

pub first_counts : (p : ℕ → Bool) (text : List ℕ) → 1 ≤ length text → p (get_or text 0 0) ≡ true → 1 ≤ prefix_len p text
first_counts p [] l e = absurd (omega arith)
first_counts p (x ∷ text) l e = cond_first (p x) (prefix_len p text) e

or_more : (a b c : Bool) → (a || c) ≡ true → (a || b || c) ≡ true
or_more true b c e = refl
or_more false true c e = refl
or_more false false c e = e

pub letter_goes_on : (byte : ℕ) → is_letter byte ≡ true → is_word_byte byte ≡ true
unfolding is_letter is_word_byte
letter_goes_on byte e = or_more (is_ascii_alphabetic byte) (is_ascii_digit byte) (eqb byte 95) e

or_middle : (a b c : Bool) → b ≡ true → (a || b || c) ≡ true
or_middle true b c e = refl
or_middle false true c e = refl
or_middle false false c e = absurd (cc)

pub digit_goes_on : (byte : ℕ) → is_ascii_digit byte ≡ true → is_word_byte byte ≡ true
unfolding is_word_byte
digit_goes_on byte e = or_middle (is_ascii_alphabetic byte) (is_ascii_digit byte) (eqb byte 95) e
