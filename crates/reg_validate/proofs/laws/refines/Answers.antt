use Rattle.reg_validate.proofs.laws.refines.Goals as goal

pub returns : goal.returns
returns c = λ us vs each linkable room input allowed bytes. (c.refined.ensures.refines us vs tt each linkable tt).1 room input allowed bytes
