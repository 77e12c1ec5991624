-- Words that spell numbers, and two words as texts.
use Rattle.std.proofs.Common.{◌≡◌, ◌≢◌, ℕ, ◌<◌, ◌≤◌, List, [], ◌∷◌, length, get_or, Result, Ok, sym, ◌∙◌, ap, arith, true, map, codes, length-append}
use Rattle.std.specs.Fmt.{decimal}
use Rattle.std.specs.Str.{bytes_eq}
use Rattle.std.specs.Str.Parse.{ParsesUnsigned}
use Rattle.std.proofs.lemmas.Fmt.{parse-decimal}
use Rattle.std.proofs.lemmas.Slice.Eq.{bytes_eq-Decides}
use Rattle.command_words.specs.Commands.{IsUnit}

-- a number is read from its text
pub read_back : {E : Type 0} (n : ℕ) (word : List ℕ) (r : Result ℕ E) → n ≤ 4294967295 → word ≡ decimal n → ParsesUnsigned 32 10 word r → r ≡ Ok n
read_back n word r l e h = parse-decimal 32 n word r (omega arith) (omega arith) e h

pub same_number : {E : Type 0} (n m : ℕ) (word : List ℕ) (r : Result ℕ E) → n ≤ 4294967295 → word ≡ decimal n → ParsesUnsigned 32 10 word r → r ≡ Ok m → m ≡ n
same_number n m word r l e h f = let g = read_back n word r l e h in cc

-- the text of the number that was read is the word
pub spelled_so : {E : Type 0} (n m : ℕ) (word text : List ℕ) (r : Result ℕ E) → n ≤ 4294967295 → word ≡ decimal n → ParsesUnsigned 32 10 word r → r ≡ Ok m → text ≡ decimal m → bytes_eq text word ≡ true
spelled_so n m word text r l e h f g = (bytes_eq-Decides text word).1 (g ∙ ap decimal (same_number n m word r l e h f) ∙ sym e)

-- two words, as texts
two : {X : Type 0} (xs : List X) (a b : X) → 2 ≤ length xs → length xs < 3 → a ≡ get_or xs 0 a → b ≡ get_or xs 1 b → xs ≡ a ∷ b ∷ []
two [] a b l m p q = absurd (omega (arith, l))
two (x ∷ []) a b l m p q = absurd (omega (arith, l))
two (x ∷ y ∷ []) a b l m p q = cc
two (x ∷ y ∷ z ∷ xs) a b l m p q = absurd (omega (arith, m))

pub two_texts : {X : Type 0} (f : X → List ℕ) (xs : List X) (a b : X) (p q : List ℕ) → 2 ≤ length xs → length xs < 3 → a ≡ get_or xs 0 a → b ≡ get_or xs 1 b → p ≡ f a → q ≡ f b → map f xs ≡ p ∷ q ∷ []
two_texts f xs a b p q l m a' b' p' q' = ap (map f) (two xs a b l m a' b') ∙ (let g : f a ∷ f b ∷ [] ≡ p ∷ q ∷ [] = cc in g)

-- the name of a unit
pub unit-some : (unit : List ℕ) → IsUnit unit → unit ≢ []
unit-some unit u e = let l = ap length u.spelled ∙ length-append u.stem (codes ".c") in absurd (let k = ap length e in omega arith)
