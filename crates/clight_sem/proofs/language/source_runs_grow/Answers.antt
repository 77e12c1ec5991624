use Rattle.clight_sem.specs.laws.Growth.{source_grows}
use Rattle.clight_sem.proofs.language.source_runs_grow.Goals as goal

pub returns : goal.returns
returns c = source_grows
