-- The rows of two parts are told one after the other.
use Rattle.std.proofs.Common.{◌≡◌, OnOk, Option, rules, subst}
use Rattle.typing_faults.specs.declared.fault.Row.{Row}
use Rattle.typing_expressions.proofs.Telling.{binary_told, index_told}
use Rattle.typing_expressions.proofs.typing.+expression.Goals as goal

pub typed-returns-in_ok-left-in-Binary-clause-rows : goal.typed-returns-in_ok-left-in-Binary-clause-rows
typed-returns-in_ok-left-in-Binary-clause-rows t c =
    subst (λ (r : Option Row). OnOk c.typed_binary.result (c.typed_binary.new.faults ≡ r))
    (binary_told c.args.scope.now c.in-Binary.at c.in-Binary.op c.get-in-Binary.result.now c.get-in-Binary-2.result.now c.args.tree.now c.in_ok-left-in-Binary.left c.args.faults.now c.typed.new.faults
    (search rules) c.in_ok-left-in-Binary.ensures.node c.in_ok-left-in-Binary.ensures.rows)
    c.typed_binary.ensures.rows

pub typed-returns-in_ok-array-in-Index-clause-rows : goal.typed-returns-in_ok-array-in-Index-clause-rows
typed-returns-in_ok-array-in-Index-clause-rows t c =
    subst (λ (r : Option Row). OnOk c.typed_index.result (c.typed_index.new.faults ≡ r))
    (index_told c.args.scope.now c.in-Index.at c.get-in-Index.result.now c.get-in-Index-2.result.now c.args.tree.now c.in_ok-array-in-Index.array c.args.faults.now c.typed-in-Index.new.faults
    (search rules) c.in_ok-array-in-Index.ensures.node c.in_ok-array-in-Index.ensures.rows)
    c.typed_index.ensures.rows
