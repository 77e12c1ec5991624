use Rattle.std.proofs.Common.{◌++◌, List, append-nil, ap, sym, arith, ◌∙◌}
use Rattle.unit_names.specs.declared.meaning.Meaning.{Meaning}
use Rattle.clight_sem.specs.Functions.{all_parts, meant_as_callee}
use Rattle.mean_start.proofs.ByName.{callees_from-end}
use Rattle.mean_start.proofs.callees.callees_of.Goals as goal

pub returns : goal.returns
returns c =
    let us = c.args.linkage.now.units.now in
    let own = c.args.own.now in
    let symbols = c.as_slice-symbols.result.now in
    let declared = c.as_slice-declared.result.now in
    let none = callees_from-end (meant_as_callee us (all_parts us) own.number own.unit.now) us symbols declared c.loop-symbol.symbol (λ a b. omega arith) in
    sym (append-nil c.loop-symbol.callees) ∙ ap (λ (l : List Meaning). c.loop-symbol.callees ++ l) (sym none) ∙ c.loop-symbol.invariant
