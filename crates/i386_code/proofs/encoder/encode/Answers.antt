-- The canonical bytes of a proper instruction spell it.
use Rattle.std.proofs.Common.{◌≡◌, sym, subst, arith}
use Rattle.std.proofs.lemmas.Grind.{common_steps}
use Rattle.i386_code.specs.Table.{Layout, FitsBytes, layout_of}
use Rattle.i386_code.specs.Spelling.{Spells, canonical}
use Rattle.i386_code.specs.Writing.{FitsDisp}
use Rattle.i386_code.proofs.Canonical.{canonical_spells}
use Rattle.i386_code.proofs.encoder.encode.Goals as goal

pub returns-clause-spelled : goal.returns-clause-spelled
returns-clause-spelled c =
    let instr = c.args.instr.now in
    let written : c.put_constant.new.code ≡ canonical instr = grind (arith, common_steps) in
    let constant : FitsBytes (layout_of instr).constant = subst (λ (l : Layout). FitsBytes l.constant) c.parts_of-parts.ensures.parts c.put_constant.ensures.fits in
    let disp : FitsDisp (layout_of instr).modrm = subst (λ (l : Layout). FitsDisp l.modrm) c.parts_of-parts.ensures.parts c.put_operand.ensures.fits in
    subst (Spells instr) (sym written) (canonical_spells instr c.requires constant disp)
