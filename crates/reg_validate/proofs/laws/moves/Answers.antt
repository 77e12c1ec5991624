use Rattle.reg_homes.specs.laws.Units.{units_simulate}
use Rattle.reg_validate.proofs.laws.moves.Goals as goal

pub returns : goal.returns
returns c = units_simulate
