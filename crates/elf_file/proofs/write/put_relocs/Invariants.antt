use Rattle.std.proofs.Common.{◌≡◌, ◌++◌, take}
use Rattle.elf_file.specs.Written.{reloc_table}
use Rattle.elf_file.proofs.write.put_relocs.Given as goal

abbrev pub invariant-loop-reloc : goal.invariant-loop-reloc
invariant-loop-reloc l = l.out.items ≡ l.fn.out.items ++ reloc_table (take l.reloc-index l.relocs)
