use Rattle.std.proofs.Common.{is_some, sym, ap, ◌∙◌}
use Rattle.std.proofs.lemmas.Bool.{false≢true}
use Rattle.typing_units.specs.Typing.{rows_of}
use Rattle.typing_units.proofs.Unbroken.{no_rows, is_typed, told_is, unit_is}
use Rattle.typing_units.proofs.checking.check.Goals as goal

pub returns-in-Some : goal.returns-in-Some
returns-in-Some c =
    let all = told_is c.in_ok-whole.whole c.as_slice-externals.result.now c.args.tree.now c.new-faults.result c.walk_unit.new.faults c.as_slice-externals.ensures c.in_ok-whole.ensures c.new-faults.ensures c.in_ok-walk.ensures.rows in
    sym all ∙ sym c.least.ensures ∙ c.in-Some.is

pub unreachable-requires : goal.unreachable-requires
unreachable-requires c =
    let all = told_is c.in_ok-whole.whole c.as_slice-externals.result.now c.args.tree.now c.new-faults.result c.walk_unit.new.faults c.as_slice-externals.ensures c.in_ok-whole.ensures c.new-faults.ensures c.in_ok-walk.ensures.rows in
    let unit = unit_is c.in_ok-whole.whole c.as_slice-externals.result.now c.args.tree.now c.in_ok-walk.walk c.as_slice-externals.ensures c.in_ok-whole.ensures c.in_ok-walk.ensures.walk in
    let typed = is_typed c.unbroken_functions_are_typed.ensures c.args.tree.now (no_rows (rows_of c.args.tree.now) (sym all ∙ sym c.least.ensures ∙ c.in_default.is)) in
    false≢true (sym (ap is_some c.in-None.is) ∙ ap is_some (c.in_ok-unit.ensures ∙ unit) ∙ typed)

pub returns : goal.returns
returns c =
    let all = told_is c.in_ok-whole.whole c.as_slice-externals.result.now c.args.tree.now c.new-faults.result c.walk_unit.new.faults c.as_slice-externals.ensures c.in_ok-whole.ensures c.new-faults.ensures c.in_ok-walk.ensures.rows in
    let unit = unit_is c.in_ok-whole.whole c.as_slice-externals.result.now c.args.tree.now c.in_ok-walk.walk c.as_slice-externals.ensures c.in_ok-whole.ensures c.in_ok-walk.ensures.walk in
    record {
      unbroken = no_rows (rows_of c.args.tree.now) (sym all ∙ sym c.least.ensures ∙ c.in_default.is);
      is_unit = sym unit ∙ sym c.in_ok-unit.ensures ∙ c.in-Some-2.is;
    }
