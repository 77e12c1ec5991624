-- Each canonical token stands alone.
use Rattle.std.proofs.Common.{◌≡◌, Bool, true, false, refl}
use Rattle.text_grammar.specs.declared.kind.Kind.{Kind}
use Rattle.text_grammar.specs.declared.kind.Kind.TheVariants as k
use Rattle.text_grammar.specs.Lexical.{shape_of, is_space, is_letter, sign_length, is_long_sign, long_signs, is_short_sign, is_word_byte, is_keyword, used_keywords, unused_keywords}
use Rattle.text_parser.specs.Symbols.{keyword_kinds, sign_spellings, sign_kinds}
use Rattle.text_print.specs.Spelling.{spelling, fixed}
use Rattle.text_print.specs.Cut.{StandsAlone}

abbrev pub is_fixed : Kind → Bool
is_fixed k.Id = false
is_fixed k.Num = false
is_fixed k.Char = false
is_fixed k.Str = false
is_fixed k.Unused = false
is_fixed _ = true

true_false : false ≡ true → ⊥
true_false h = cc

pub fixed_alone : (kind : Kind) → is_fixed kind ≡ true → StandsAlone (fixed kind)
unfolding spelling shape_of is_space is_letter sign_length is_long_sign long_signs is_short_sign is_word_byte is_keyword used_keywords unused_keywords keyword_kinds sign_spellings sign_kinds
fixed_alone k.Id h = absurd (true_false h)
fixed_alone k.Num h = absurd (true_false h)
fixed_alone k.Char h = absurd (true_false h)
fixed_alone k.Str h = absurd (true_false h)
fixed_alone k.Unused h = absurd (true_false h)
fixed_alone k.KwInt h = record { before_space = λ rest. refl; before_newline = λ rest. refl; kind = refl }
fixed_alone k.KwChar h = record { before_space = λ rest. refl; before_newline = λ rest. refl; kind = refl }
fixed_alone k.KwSigned h = record { before_space = λ rest. refl; before_newline = λ rest. refl; kind = refl }
fixed_alone k.KwUnsigned h = record { before_space = λ rest. refl; before_newline = λ rest. refl; kind = refl }
fixed_alone k.KwVoid h = record { before_space = λ rest. refl; before_newline = λ rest. refl; kind = refl }
fixed_alone k.KwStruct h = record { before_space = λ rest. refl; before_newline = λ rest. refl; kind = refl }
fixed_alone k.KwStatic h = record { before_space = λ rest. refl; before_newline = λ rest. refl; kind = refl }
fixed_alone k.KwExtern h = record { before_space = λ rest. refl; before_newline = λ rest. refl; kind = refl }
fixed_alone k.KwConst h = record { before_space = λ rest. refl; before_newline = λ rest. refl; kind = refl }
fixed_alone k.KwRegister h = record { before_space = λ rest. refl; before_newline = λ rest. refl; kind = refl }
fixed_alone k.KwReturn h = record { before_space = λ rest. refl; before_newline = λ rest. refl; kind = refl }
fixed_alone k.KwIf h = record { before_space = λ rest. refl; before_newline = λ rest. refl; kind = refl }
fixed_alone k.KwElse h = record { before_space = λ rest. refl; before_newline = λ rest. refl; kind = refl }
fixed_alone k.KwWhile h = record { before_space = λ rest. refl; before_newline = λ rest. refl; kind = refl }
fixed_alone k.KwDo h = record { before_space = λ rest. refl; before_newline = λ rest. refl; kind = refl }
fixed_alone k.KwFor h = record { before_space = λ rest. refl; before_newline = λ rest. refl; kind = refl }
fixed_alone k.KwBreak h = record { before_space = λ rest. refl; before_newline = λ rest. refl; kind = refl }
fixed_alone k.KwContinue h = record { before_space = λ rest. refl; before_newline = λ rest. refl; kind = refl }
fixed_alone k.KwSizeof h = record { before_space = λ rest. refl; before_newline = λ rest. refl; kind = refl }
fixed_alone k.OrOr h = record { before_space = λ rest. refl; before_newline = λ rest. refl; kind = refl }
fixed_alone k.AndAnd h = record { before_space = λ rest. refl; before_newline = λ rest. refl; kind = refl }
fixed_alone k.EqEq h = record { before_space = λ rest. refl; before_newline = λ rest. refl; kind = refl }
fixed_alone k.NotEq h = record { before_space = λ rest. refl; before_newline = λ rest. refl; kind = refl }
fixed_alone k.LessEq h = record { before_space = λ rest. refl; before_newline = λ rest. refl; kind = refl }
fixed_alone k.GreaterEq h = record { before_space = λ rest. refl; before_newline = λ rest. refl; kind = refl }
fixed_alone k.ShiftLeft h = record { before_space = λ rest. refl; before_newline = λ rest. refl; kind = refl }
fixed_alone k.ShiftRight h = record { before_space = λ rest. refl; before_newline = λ rest. refl; kind = refl }
fixed_alone k.Arrow h = record { before_space = λ rest. refl; before_newline = λ rest. refl; kind = refl }
fixed_alone k.Plus h = record { before_space = λ rest. refl; before_newline = λ rest. refl; kind = refl }
fixed_alone k.Minus h = record { before_space = λ rest. refl; before_newline = λ rest. refl; kind = refl }
fixed_alone k.Star h = record { before_space = λ rest. refl; before_newline = λ rest. refl; kind = refl }
fixed_alone k.Slash h = record { before_space = λ rest. refl; before_newline = λ rest. refl; kind = refl }
fixed_alone k.Percent h = record { before_space = λ rest. refl; before_newline = λ rest. refl; kind = refl }
fixed_alone k.And h = record { before_space = λ rest. refl; before_newline = λ rest. refl; kind = refl }
fixed_alone k.Or h = record { before_space = λ rest. refl; before_newline = λ rest. refl; kind = refl }
fixed_alone k.Caret h = record { before_space = λ rest. refl; before_newline = λ rest. refl; kind = refl }
fixed_alone k.Tilde h = record { before_space = λ rest. refl; before_newline = λ rest. refl; kind = refl }
fixed_alone k.Bang h = record { before_space = λ rest. refl; before_newline = λ rest. refl; kind = refl }
fixed_alone k.Less h = record { before_space = λ rest. refl; before_newline = λ rest. refl; kind = refl }
fixed_alone k.Greater h = record { before_space = λ rest. refl; before_newline = λ rest. refl; kind = refl }
fixed_alone k.Assign h = record { before_space = λ rest. refl; before_newline = λ rest. refl; kind = refl }
fixed_alone k.LParen h = record { before_space = λ rest. refl; before_newline = λ rest. refl; kind = refl }
fixed_alone k.RParen h = record { before_space = λ rest. refl; before_newline = λ rest. refl; kind = refl }
fixed_alone k.LBracket h = record { before_space = λ rest. refl; before_newline = λ rest. refl; kind = refl }
fixed_alone k.RBracket h = record { before_space = λ rest. refl; before_newline = λ rest. refl; kind = refl }
fixed_alone k.LBrace h = record { before_space = λ rest. refl; before_newline = λ rest. refl; kind = refl }
fixed_alone k.RBrace h = record { before_space = λ rest. refl; before_newline = λ rest. refl; kind = refl }
fixed_alone k.Semi h = record { before_space = λ rest. refl; before_newline = λ rest. refl; kind = refl }
fixed_alone k.Comma h = record { before_space = λ rest. refl; before_newline = λ rest. refl; kind = refl }
fixed_alone k.Dot h = record { before_space = λ rest. refl; before_newline = λ rest. refl; kind = refl }
