use Rattle.std.proofs.Common.{ap, sym, not, ◌∙◌}
use Rattle.std.specs.Option.{is_some}
use Rattle.std.proofs.lemmas.Map.Text.{hash_map_updates_str}
use Rattle.mean_start.specs.Firsts.{found}
use Rattle.mean_start.proofs.Told.{nothing, told_first}
use Rattle.mean_start.proofs.firsts.note.Goals as goal

pub returns-in_ok-insert : goal.returns-in_ok-insert
returns-in_ok-insert g c other =
    let old = c.args.firsts.now in let name = c.args.name.now in
    let none = nothing (found old name) (ap is_some (sym c.look_up.ensures) ∙ c.is_none.ensures ∙ ap not c.if-is_none.true) in
    hash_map_updates_str name old c.insert.new.self _ c.in_ok-insert.ensures.updates other ∙ told_first (found old) c.args.tells name c.args.value c.if-tells.true none other
