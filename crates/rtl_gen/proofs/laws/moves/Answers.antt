use Rattle.rtl_gen.specs.laws.Units.{units_simulate}
use Rattle.rtl_gen.proofs.laws.moves.Goals as goal

pub returns : goal.returns
returns c = units_simulate
