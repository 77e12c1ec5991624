use Rattle.std.proofs.Common.{ℕ, List, ◌++◌, subst, arith, inl, inr}
use Rattle.std.specs.Option.{option_to_list}
use Rattle.std.proofs.lemmas.List.Elements.{Contains-append_cases}
use Rattle.reg_live.specs.Sweeps.{AreBelow}
use Rattle.reg_live.proofs.flows.above_reads.Goals as goal

pub returns-clause-below : goal.returns-clause-below
returns-clause-below c =
    let r = c.read_by-reads.result in
    let P : List ℕ → Type 0 = λ list. AreBelow c.greater.result list in
    subst P c.read_by-reads.ensures (λ k m. elim (Contains-append_cases (option_to_list r.left ++ option_to_list r.right) r.arguments.now k m) [
      | inl one ↦ elim (Contains-append_cases (option_to_list r.left) (option_to_list r.right) k one) [
        | inl left ↦ omega (arith, c.above-left.ensures.below k left, c.greater-operands.ensures, c.greater.ensures)
        | inr right ↦ omega (arith, c.above-right.ensures.below k right, c.greater-operands.ensures, c.greater.ensures)
      ]
      | inr argument ↦ omega (arith, c.above_all-arguments.ensures.below k argument, c.greater-operands.ensures, c.greater.ensures)
    ])
