use Rattle.typing_units.proofs.Walked.{undeclared_more}
use Rattle.typing_units.proofs.faces.all_undeclared.Goals as goal

pub symbols-preserved : goal.symbols-preserved
symbols-preserved c =
    undeclared_more c.args.symbols.now.names c.symbols.callees c.push.new.self c.symbols.number c.name.result.now c.in_ok-undeclared.field-0 c.name.ensures c.symbols.invariant c.in_ok-undeclared.ensures c.in_ok-push.ensures.ok
