use Rattle.std.proofs.Common.{arith}
use Rattle.elf_file.proofs.ViewFacts.{symbol_inside}
use Rattle.elf_file.proofs.ViewFacts.{symbol_read, IsEntry-symbol_in}
use Rattle.elf_file.proofs.view.ObjectView.entry.Goals as goal

pub overflow_mul-symbol : goal.overflow_mul-symbol
overflow_mul-symbol c = let w = symbol_inside c.self.inside.file.now c.self.inside.sizes c.self.inside.at c.args.self.now c.self.invariant.whole c.self.view_is c.args.symbol c.requires in omega arith

pub overflow_add-self-inside : goal.overflow_add-self-inside
overflow_add-self-inside c = let w = symbol_inside c.self.inside.file.now c.self.inside.sizes c.self.inside.at c.args.self.now c.self.invariant.whole c.self.view_is c.args.symbol c.requires in omega arith

pub slice_at-requires : goal.slice_at-requires
slice_at-requires c = let w = symbol_inside c.self.inside.file.now c.self.inside.sizes c.self.inside.at c.args.self.now c.self.invariant.whole c.self.view_is c.args.symbol c.requires in omega arith

pub returns : goal.returns
returns c =
    IsEntry-symbol_in _ c.slice_at.result.now _
    (symbol_read c.self.inside.file.now c.self.inside.sizes c.self.inside.at c.args.self.now c.args.symbol c.slice_at.result.now c.self.invariant.whole c.self.view_is c.requires c.slice_at.ensures.bytes) c.slice_at.ensures.len
