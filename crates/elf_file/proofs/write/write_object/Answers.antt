use Rattle.elf_file.proofs.Joined.{three_more}
use Rattle.elf_file.proofs.WrittenPieces.{Written-made}
use Rattle.elf_file.proofs.write.write_object.Goals as goal

pub returns : goal.returns
returns c =
    Written-made c.args.parts.now c.sizes-sizes.result c.of-at.result c.in_ok-out.out.items c.put_ending.new.out.items c.requires c.in_ok-out.ensures.items c.sizes-sizes.ensures c.of-at.ensures
    (three_more _ _ _ _ _ _ _ c.in_ok-put_contents.ensures c.in_ok-put_tables.ensures c.in_ok-put_ending.ensures)
