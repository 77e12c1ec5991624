use Rattle.std.proofs.lemmas.Map.Text.{hash_map_updates_str}
use Rattle.second_form.proofs.second_names.note.Goals as goal

pub returns : goal.returns
returns c other = hash_map_updates_str c.args.name.now c.args.names.now c.insert.new.self _ c.in_ok-insert.ensures.updates other
