use Rattle.std.proofs.Common.{◌≡◌, ◌+◌, ◌-◌, ◌≤◌, ℕ, length, drop}
use Rattle.text_grammar.specs.Lexical.{Elements}
use Rattle.text_grammar.proofs.spelling.elements.Given as goal

abbrev pub invariant-loop-at : goal.invariant-loop-at
invariant-loop-at l = record {
  within : l.at ≤ length l.text;
  reaches : (n : ℕ) → Elements 34 (drop l.at l.text) n → Elements 34 l.text (l.at + n);
  passes : (n : ℕ) → Elements 34 l.text n → (m : ℕ) × (n ≡ l.at + m) × Elements 34 (drop l.at l.text) m;
}

abbrev pub decreases-loop-at : goal.decreases-loop-at
decreases-loop-at l = length l.text - l.at
