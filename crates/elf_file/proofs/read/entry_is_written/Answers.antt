use Rattle.std.proofs.Common.{ap, eq-eqb, get_or, List, ℕ}
use Rattle.std.proofs.lemmas.Bool.{eqb-true}
use Rattle.std.proofs.Common.{arith}
use Rattle.elf_file.proofs.Entries.{entry_written}
use Rattle.elf_file.proofs.read.entry_is_written.Goals as goal

pub returns-then-info_is_written : goal.returns-then-info_is_written
returns-then-info_is_written c =
    let info = c.info_is_written.ensures.0 c.if-info_is_written.true in (
      λ h. entry_written c.args.entry.now (λ i. omega (arith, c.type_inv.entry i)) c.requires info.0 info.1 (eqb-true _ _ h),
      λ e. eq-eqb _ _ (ap (λ (xs : List ℕ). get_or xs 13 0) e),
    )
