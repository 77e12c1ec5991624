-- The canonical spelling of each name and literal of a text stands alone.
use Rattle.std.proofs.Common.{◌≡◌, ℕ, ◌≤◌, List, [], ◌∷◌, true, false, nat_lt, arith}
use Rattle.std.specs.List.{All}
use Rattle.std.proofs.lemmas.List.Elements.{All-head, All-tail}
use Rattle.text_grammar.specs.Lexical.{is_letter, is_word_byte, is_unsigned, is_unsigned_number, number_value, radix_of, body_of}
use Rattle.text_grammar.specs.Grammar.{Symbol, Reads}
use Rattle.text_grammar.specs.declared.tree.External.{External}
use Rattle.text_print.specs.Spelling.{name}
use Rattle.text_print.specs.Cut.{StandsAlone}
use Rattle.text_grammar.specs.Lexemes.{IsName}
use Rattle.text_print.specs.Placed.{IsLexeme}
use Rattle.text_print.proofs.LiteralsAgain.{greatest_small, signed_small}
use Rattle.text_print.proofs.LiteralsAlone.{EachIs}
use Rattle.text_print.proofs.NamesAlone.{value_alone, name_alone}
use Rattle.text_print.proofs.BytesAlone.{character_alone, string_alone}
use Rattle.text_print.proofs.TreeAlone.{CanStand, tree_alone}
use Rattle.text_print.proofs.Again.{each_of, each_map, all_of}
use Rattle.text_print.specs.Canonical.{tokens_of}

each_is : (bytes : List ℕ) → All (λ byte. is_word_byte byte ≡ true) bytes → EachIs is_word_byte bytes
each_is [] h = tt
each_is (b ∷ bytes) h = (All-head (λ byte. is_word_byte byte ≡ true) b bytes h, each_is bytes (All-tail (λ byte. is_word_byte byte ≡ true) b bytes h))

no_letter : is_letter 0 ≡ true → ⊥
unfolding is_letter
no_letter h = cc

word_alone : (bytes : List ℕ) → IsName bytes → StandsAlone (name bytes)
word_alone [] h = absurd (no_letter h.first)
word_alone (c ∷ more) h = name_alone c more h.first (each_is (c ∷ more) h.all) h.word

below : (n : ℕ) → nat_lt 2147483647 n ≡ false → n ≤ 2147483647
below n h = grind arith

pub can_stand : (x : Symbol) → IsLexeme x → CanStand x
can_stand x h = record {
  name = λ e. word_alone x.text (h.name e);
  number = λ e. value_alone (number_value x.text) (is_unsigned_number x.text)
      (let l = (h.number e).fits in let m = greatest_small (radix_of (body_of x.text)) (is_unsigned x.text) in omega (arith, l, m))
      (λ s. below (number_value x.text) (signed_small x.text s));
  character = λ e. character_alone _ (h.character e);
  string = λ e. string_alone _ (h.string e);
}

pub tree_stands : (tokens : List Symbol) (tree : List External) → Reads tokens tree → All IsLexeme tokens → All StandsAlone (tokens_of tree)
tree_stands tokens tree d h = all_of StandsAlone (tokens_of tree) (tree_alone d (each_map IsLexeme CanStand can_stand tokens (each_of IsLexeme tokens h)))
