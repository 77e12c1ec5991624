use Rattle.std.proofs.Common.{sym, ◌∙◌}
use Rattle.std.specs.Prelude.{find}
use Rattle.cc_base.specs.Faces.{all_defs, all_uses, has_name, shares}
use Rattle.block_mem.specs.Start.{faces_of}
use Rattle.clight_sem.specs.Functions.{all_parts}
use Rattle.mean_start.proofs.Meanings.{definition_found, shared_found, by_definition, by_use}
use Rattle.mean_start.proofs.faces.measure.Goals as goal

pub returns-in-Some : goal.returns-in-Some
returns-in-Some c =
    let us = c.args.linkage.now.units.now in let name = c.args.name.now in let faces = faces_of (all_parts us) in
    by_definition (find (has_name name) (all_defs faces)) (find (shares name) (all_uses faces)) c.in-Some.size (sym (definition_found us name) ∙ sym (c.requires.linkage.definitions name) ∙ sym c.look_up.ensures ∙ c.in-Some.is)

pub returns-in-None : goal.returns-in-None
returns-in-None c =
    let us = c.args.linkage.now.units.now in let name = c.args.name.now in let faces = faces_of (all_parts us) in
    c.look_up-in-None.ensures ∙ c.requires.linkage.shared_sizes name ∙ shared_found us name
    ∙ by_use (find (has_name name) (all_defs faces)) (find (shares name) (all_uses faces)) (sym (definition_found us name) ∙ sym (c.requires.linkage.definitions name) ∙ sym c.look_up.ensures ∙ c.in-None.is)
