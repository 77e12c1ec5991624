use Rattle.std.proofs.Common.{◌≡◌, ◌∷◌, ◌++◌, take}
use Rattle.std.specs.List.{flat_map}
use Rattle.text_grammar.specs.declared.kind.Kind.TheVariants as k
use Rattle.text_print.specs.Spelling.{fixed}
use Rattle.text_print.specs.Canonical.{local_tokens}
use Rattle.text_print.proofs.declarations.put_local_items.Given as goal

abbrev pub invariant-rest : goal.invariant-rest
invariant-rest l = l.out ≡ l.initial.out ++ flat_map (λ x. fixed k.Comma ∷ local_tokens x) (take l.item-index l.rest)
