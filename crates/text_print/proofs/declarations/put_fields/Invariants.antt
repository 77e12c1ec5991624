use Rattle.std.proofs.Common.{◌≡◌, ◌∷◌, ◌++◌, take}
use Rattle.std.specs.List.{flat_map}
use Rattle.text_grammar.specs.declared.kind.Kind.TheVariants as k
use Rattle.text_print.specs.Spelling.{fixed}
use Rattle.text_print.specs.Canonical.{declarator_tokens}
use Rattle.text_print.proofs.declarations.put_fields.Given as goal

abbrev pub invariant-rest : goal.invariant-rest
invariant-rest l = l.out ≡ l.initial.out ++ flat_map (λ x. fixed k.Comma ∷ declarator_tokens x) (take l.field-index l.rest)
