use Rattle.std.proofs.Common.{◌≡◌, ℕ, List, [], ◌∷◌, length, drop, refl, arith}
use Rattle.text_grammar.specs.Lexical.{element_value}
use Rattle.text_grammar.proofs.values.character_value.Goals as goal

at_end : (literal : List ℕ) → length literal ≡ 0 → 0 ≡ element_value (drop 1 literal)
unfolding element_value
at_end [] h = refl
at_end (x ∷ literal) h = absurd (omega (arith, h))

pub returns-then-is_empty : goal.returns-then-is_empty
returns-then-is_empty c = at_end c.args.literal.now (grind arith)
