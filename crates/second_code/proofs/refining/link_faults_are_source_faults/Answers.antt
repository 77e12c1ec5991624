use Rattle.second_code.proofs.SameFaults.{same_fault}
use Rattle.second_code.proofs.refining.link_faults_are_source_faults.Goals as goal

pub returns : goal.returns
returns c = λ units are. same_fault units are
