use Rattle.std.proofs.Common.{◌≡◌, ◌∷◌, ◌++◌, take}
use Rattle.std.specs.List.{flat_map}
use Rattle.text_print.specs.Pieces.{token_of}
use Rattle.text_print.proofs.writing.write_spaced.Given as goal

abbrev pub invariant-rest : goal.invariant-rest
invariant-rest l = l.text.items ≡ l.initial.text.items ++ flat_map (λ p. 32 ∷ (token_of p).text) (take l.piece-index l.rest)
