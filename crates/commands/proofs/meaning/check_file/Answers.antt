use Rattle.commands.proofs.Meaningful.{was_checked}
use Rattle.commands.proofs.meaning.check_file.Goals as goal

pub returns : goal.returns
returns g c input output = was_checked c.args.name.now input output _ _ _ _ c.in_ok-text.ensures c.as_slice.ensures _ c.check_text.ensures
