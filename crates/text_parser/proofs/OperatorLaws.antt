-- Kinds that are no operators.
use Rattle.std.proofs.Common.{◌≡◌, ◌≢◌, None, refl}
use Rattle.text_grammar.specs.declared.kind.Kind.{Kind}
use Rattle.text_grammar.specs.declared.kind.Kind.TheVariants as k
use Rattle.text_grammar.specs.Grammar.{prefix_of}

pub no_prefix : (kind : Kind) → kind ≢ k.Minus → kind ≢ k.Tilde → kind ≢ k.Bang → kind ≢ k.Star → kind ≢ k.And → prefix_of kind ≡ None
no_prefix k.Minus a b c d e = absurd (a refl)
no_prefix k.Tilde a b c d e = absurd (b refl)
no_prefix k.Bang a b c d e = absurd (c refl)
no_prefix k.Star a b c d e = absurd (d refl)
no_prefix k.And a b c d e = absurd (e refl)
no_prefix _ a b c d e = refl
