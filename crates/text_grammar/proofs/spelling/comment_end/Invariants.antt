use Rattle.std.proofs.Common.{◌≡◌, ◌+◌, drop}
use Rattle.std.specs.Option.{option_map}
use Rattle.text_grammar.specs.Lexical.{comment_end}
use Rattle.text_grammar.proofs.spelling.comment_end.Given as goal

abbrev pub invariant-loop-i : goal.invariant-loop-i
invariant-loop-i l = comment_end l.text ≡ option_map (λ n. n + l.i) (comment_end (drop l.i l.text))
