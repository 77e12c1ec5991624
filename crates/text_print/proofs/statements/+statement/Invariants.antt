use Rattle.std.proofs.Common.{◌≡◌, ◌∷◌, ◌++◌, take}
use Rattle.std.specs.List.{flat_map}
use Rattle.text_grammar.specs.declared.kind.Kind.TheVariants as k
use Rattle.text_print.specs.Spelling.{fixed}
use Rattle.text_print.specs.Canonical.{arm_tokens, stmt_tokens}
use Rattle.text_print.proofs.statements.+statement.Given as goal

abbrev pub invariant-put_arms-rest : goal.invariant-put_arms-rest
invariant-put_arms-rest l = l.out ≡ l.initial.out ++ flat_map (λ x. fixed k.KwElse ∷ arm_tokens x) (take l.arm-index l.rest)

abbrev pub invariant-put_block-body : goal.invariant-put_block-body
invariant-put_block-body l = l.out ≡ l.initial.out ++ flat_map stmt_tokens (take l.statement-index l.body)
