-- Kinds that begin no type.
use Rattle.std.proofs.Common.{◌≡◌, ◌≢◌, false, refl}
use Rattle.text_grammar.specs.declared.kind.Kind.{Kind}
use Rattle.text_grammar.specs.declared.kind.Kind.TheVariants as k
use Rattle.text_grammar.specs.laws.Programs.{is_type_word}

pub no_type_word : (kind : Kind) → kind ≢ k.KwConst → kind ≢ k.KwInt → kind ≢ k.KwChar → kind ≢ k.KwVoid → kind ≢ k.KwSigned → kind ≢ k.KwUnsigned → kind ≢ k.KwStruct → is_type_word kind ≡ false
no_type_word k.KwConst a b c d e f g = absurd (a refl)
no_type_word k.KwInt a b c d e f g = absurd (b refl)
no_type_word k.KwChar a b c d e f g = absurd (c refl)
no_type_word k.KwVoid a b c d e f g = absurd (d refl)
no_type_word k.KwSigned a b c d e f g = absurd (e refl)
no_type_word k.KwUnsigned a b c d e f g = absurd (f refl)
no_type_word k.KwStruct a b c d e f g = absurd (g refl)
no_type_word _ a b c d e f g = refl
