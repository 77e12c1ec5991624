use Rattle.std.proofs.Common.{eq-eqb, ne_eqb}
use Rattle.elf_file.proofs.SymbolsIn.{fits_local, fits_global}
use Rattle.elf_file.proofs.read.symbol_fits.Goals as goal

pub returns-then-entry-eq0 : goal.returns-then-entry-eq0
returns-then-entry-eq0 c = (
  λ _. fits_local c.args.sections.now c.args.strings.now c.args.entry.now (c.is_placed.ensures.0 c.if-is_placed.true) c.if-entry-eq0.true,
  λ _. eq-eqb _ _ c.if-entry-eq0.true,
)

pub returns-else-entry-eq0 : goal.returns-else-entry-eq0
returns-else-entry-eq0 c = (
  λ h. fits_global c.args.sections.now c.args.strings.now c.args.entry.now (c.is_placed.ensures.0 c.if-is_placed.true) (c.is_named.ensures.0 h),
  λ fits. c.is_named.ensures.1 (fits.named (ne_eqb _ _ c.if-entry-eq0.false)),
)
