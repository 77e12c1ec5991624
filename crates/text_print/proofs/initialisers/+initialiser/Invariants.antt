use Rattle.std.proofs.Common.{◌≡◌, ◌∷◌, ◌++◌, take}
use Rattle.std.specs.List.{flat_map}
use Rattle.text_grammar.specs.declared.kind.Kind.TheVariants as k
use Rattle.text_print.specs.Spelling.{fixed}
use Rattle.text_print.specs.Canonical.{initialiser_tokens}
use Rattle.text_print.proofs.initialisers.+initialiser.Given as goal

abbrev pub invariant-put_items-rest : goal.invariant-put_items-rest
invariant-put_items-rest l = l.out ≡ l.initial.out ++ flat_map (λ x. fixed k.Comma ∷ initialiser_tokens x) (take l.item-index l.rest)
