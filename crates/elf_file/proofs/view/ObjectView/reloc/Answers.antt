use Rattle.std.proofs.Common.{arith, ◌∙◌}
use Rattle.elf_file.proofs.ViewFacts.{reloc_inside}
use Rattle.elf_file.proofs.ViewFacts.{reloc_read}
use Rattle.elf_file.proofs.view.ObjectView.reloc.Goals as goal

pub overflow_cast-index : goal.overflow_cast-index
overflow_cast-index c = let w = reloc_inside c.self.inside.file.now c.self.inside.sizes c.self.inside.at c.args.self.now c.self.invariant.whole c.self.view_is c.args.index c.requires in omega arith

pub overflow_mul-index : goal.overflow_mul-index
overflow_mul-index c = let w = reloc_inside c.self.inside.file.now c.self.inside.sizes c.self.inside.at c.args.self.now c.self.invariant.whole c.self.view_is c.args.index c.requires in omega arith

pub overflow_add-self-inside : goal.overflow_add-self-inside
overflow_add-self-inside c = let w = reloc_inside c.self.inside.file.now c.self.inside.sizes c.self.inside.at c.args.self.now c.self.invariant.whole c.self.view_is c.args.index c.requires in omega arith

pub slice_at-requires : goal.slice_at-requires
slice_at-requires c = let w = reloc_inside c.self.inside.file.now c.self.inside.sizes c.self.inside.at c.args.self.now c.self.invariant.whole c.self.view_is c.args.index c.requires in omega arith

pub returns : goal.returns
returns c = c.reloc_of_entry.ensures ∙ reloc_read c.self.inside.file.now c.self.inside.sizes c.self.inside.at c.args.self.now c.args.index c.slice_at.result.now c.self.invariant.whole c.self.view_is c.requires c.slice_at.ensures.bytes
