-- The literals of a text are read again where they are spelled canonically.
use Rattle.std.proofs.Common.{◌≡◌, ℕ, ◌<◌, ◌≤◌, ◌^◌, Bool, true, false, not, ◌&&◌, ◌||◌, eqb, if◌then◌else◌, nat_lt, List, lit<, arith}
use Rattle.text_grammar.specs.Lexical.{IsNumber, greatest, is_unsigned, is_unsigned_number, number_value, radix_of, body_of}
use Rattle.text_grammar.specs.Grammar.{Symbol}
use Rattle.text_print.specs.Placed.{IsLexeme}
use Rattle.text_print.proofs.Again.{IsReadable}
use Rattle.text_print.proofs.NumbersAgain.{number_value_again, sign_again}
use Rattle.text_print.proofs.BytesAgain.{character_again, string_again}

pub greatest_small : (radix : ℕ) (b : Bool) → greatest radix b ≤ 4294967295
unfolding greatest
greatest_small radix b = go (eqb radix 10 && not b)
  where
    go : (t : Bool) → (if t then 2147483647 else 4294967295) ≤ 4294967295
    go true = omega arith
    go false = omega arith

value_small : (run : List ℕ) → IsNumber run → number_value run < 2 ^ 64
value_small run h = let l = h.fits in let m = greatest_small (radix_of (body_of run)) (is_unsigned run) in let w : 4294967295 < 2 ^ 64 = lit< tt in omega (arith, l, m, w)

pub signed_small : (run : List ℕ) → is_unsigned_number run ≡ false → nat_lt 2147483647 (number_value run) ≡ false
unfolding is_unsigned_number
signed_small run = go (is_unsigned run) (nat_lt 2147483647 (number_value run))
  where
    go : (a b : Bool) → (a || b) ≡ false → b ≡ false
    go true b h = absurd (cc)
    go false b h = h

pub readable : (x : Symbol) → IsLexeme x → IsReadable x
readable x h = record {
  number = λ e. number_value_again (number_value x.text) (is_unsigned_number x.text) (value_small x.text (h.number e));
  sign = λ e. sign_again (number_value x.text) (is_unsigned_number x.text) (value_small x.text (h.number e)) (signed_small x.text);
  character = λ e. character_again _ (h.character e);
  string = λ e. string_again _ (h.string e);
}
