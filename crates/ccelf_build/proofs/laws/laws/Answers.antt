use Rattle.ccelf_build.proofs.laws.laws.Goals as goal

pub returns : goal.returns
returns c = record {
  one_answer = c.one_answer.ensures;
  one_object = c.object_has_one_meaning.ensures;
  one_image = c.image_has_one_meaning.ensures;
  refine = c.linked_units_refine.ensures;
  load = c.linked_units_load.ensures;
  faults = c.link_faults_are_source_faults.ensures;
}
