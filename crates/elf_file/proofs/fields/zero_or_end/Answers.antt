use Rattle.std.proofs.Common.{◌==◌, length, arith}
use Rattle.std.proofs.lemmas.List.Sums.{position_or_len_is}
use Rattle.std.proofs.lemmas.Bool.{ne_eqb}
use Rattle.std.proofs.Common.{sym, get_or}
use Rattle.elf_file.proofs.fields.zero_or_end.Goals as goal

pub returns-clause-place : goal.returns-clause-place
returns-clause-place c =
    sym (position_or_len_is (λ byte. byte == 0) c.args.bytes.now (length c.args.bytes.now) 0 (omega arith)
    (λ k h. ne_eqb (get_or c.args.bytes.now k 0) 0 (c.loop-i.invariant k (omega arith))) (λ h. absurd (omega arith)))
