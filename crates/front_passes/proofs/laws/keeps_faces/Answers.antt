use Rattle.front_passes.proofs.laws.keeps_faces.Goals as goal

pub returns : goal.returns
returns c = c.refined.ensures.faces
