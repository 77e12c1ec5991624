use Rattle.elf_linker.proofs.WholeLinking.{answered, some_text}
use Rattle.elf_linker.proofs.linking.link_all.Goals as goal

pub place-requires-clause-answered : goal.place-requires-clause-answered
place-requires-clause-answered c = answered c.args.objects.now c.requires.are c.in_ok-find_all_uses.ensures.none

pub place-requires-clause-some : goal.place-requires-clause-some
place-requires-clause-some c = some_text c.args.objects.now c.requires.are c.requires.runtime
