use Rattle.std.proofs.Common.{◌+◌, ◌-◌, sym, ◌∙◌, arith}
use Rattle.std.proofs.lemmas.Bool.{false≢true}
use Rattle.elf_file.specs.Checks.{EntryFits, sections_in}
use Rattle.elf_file.specs.Object.{symbol_bytes, strings_in}
use Rattle.elf_file.proofs.SymbolsIn.{one_more}
use Rattle.elf_file.proofs.ReadLoops.{entry_here, entry_there}
use Rattle.elf_file.proofs.read.entries_fit.Goals as goal

pub loop-symbol-preserved : goal.loop-symbol-preserved
loop-symbol-preserved c =
    one_more (λ k. EntryFits (sections_in c.args.sizes) (strings_in c.args.file.now c.args.sizes) (symbol_bytes c.args.file.now c.args.sizes (k + 1))) c.loop-symbol.symbol c.loop-symbol.auto.symbol c.loop-symbol.invariant
    (entry_here (sections_in c.args.sizes) c.strings_at-strings.result.now c.entry_at.result.now c.args.file.now c.args.sizes c.loop-symbol.symbol c.loop-symbol.auto.symbol c.strings_at-strings.ensures.bytes c.entry_at.ensures.bytes
    (c.entry_fits.ensures.0 c.if-not-entry_fits.false))

pub returns-then-not-entry_fits : goal.returns-then-not-entry_fits
returns-then-not-entry_fits c = (
  λ h. absurd (false≢true h),
  λ fits. absurd (false≢true (sym c.if-not-entry_fits.true ∙ c.entry_fits.ensures.1
      (entry_there (sections_in c.args.sizes) c.strings_at-strings.result.now c.entry_at.result.now c.args.file.now c.args.sizes c.loop-symbol.symbol c.loop-symbol.auto.symbol c.strings_at-strings.ensures.bytes c.entry_at.ensures.bytes
      (fits (c.loop-symbol.symbol - 1) (omega arith))))),
)
