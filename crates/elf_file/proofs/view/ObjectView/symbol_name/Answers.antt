use Rattle.std.proofs.Common.{arith}
use Rattle.elf_file.proofs.ViewFacts.{symbol_inside}
use Rattle.elf_file.proofs.ViewFacts.{name_read}
use Rattle.elf_file.proofs.view.ObjectView.symbol_name.Goals as goal

pub overflow_mul-symbol : goal.overflow_mul-symbol
overflow_mul-symbol c = let w = symbol_inside c.self.inside.file.now c.self.inside.sizes c.self.inside.at c.args.self.now c.self.invariant.whole c.self.view_is c.args.symbol c.requires in omega arith

pub overflow_add-self-inside : goal.overflow_add-self-inside
overflow_add-self-inside c = let w = symbol_inside c.self.inside.file.now c.self.inside.sizes c.self.inside.at c.args.self.now c.self.invariant.whole c.self.view_is c.args.symbol c.requires in omega arith

pub slice_at-entry-requires : goal.slice_at-entry-requires
slice_at-entry-requires c = let w = symbol_inside c.self.inside.file.now c.self.inside.sizes c.self.inside.at c.args.self.now c.self.invariant.whole c.self.view_is c.args.symbol c.requires in omega arith

pub returns : goal.returns
returns c =
    name_read c.self.inside.file.now c.self.inside.sizes c.self.inside.at c.args.self.now c.args.symbol c.slice_at-entry.result.now c.slice_at-strings.result.now c.name_at.result.now c.word_at.result c.self.invariant.whole c.self.view_is c.requires
    c.slice_at-entry.ensures.bytes c.slice_at-strings.ensures.bytes c.word_at.ensures c.name_at.ensures
