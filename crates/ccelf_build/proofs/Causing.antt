-- A status that tells of a count comes only where it rose.
use Rattle.std.proofs.Common.{◌≡◌, ◌⊎◌, ◌≤◌, ℕ, inl, inr, sym, ap, ◌∙◌, subst}
use Rattle.cc_base.specs.Seen.{SinkSeen, Rose}
use Rattle.commands.specs.declared.answer.Answer.{Answer}
use Rattle.commands.specs.declared.answer.Answer.TheVariants as answer
use Rattle.commands.specs.declared.answer.Status.{Status}
use Rattle.commands.specs.declared.answer.Status.TheVariants as status
use Rattle.commands.specs.Answers.{status_of}
use Rattle.commands.specs.Doing.{outside}
use Rattle.ccelf_build.specs.Ends.{Ends, all_told, not_flushed, no_line, cut_short, no_room}
use Rattle.ccelf_build.specs.Tells.{Counts, Raises, Tells}
use Rattle.ccelf_build.specs.Promise.{World, CountsCause}
use Rattle.ccelf_build.proofs.Forcing.{forces, rose_on}

missing_told : (old : Counts) (told : Answer) (new : Counts) → Raises old told new → status_of told ≡ status.Missing → Rose old.misses new.misses
missing_told old (answer.Missing name) new h e = h.0
missing_told old _ new h e = cc

read_told : (old : Counts) (told : Answer) (new : Counts) → Raises old told new → status_of told ≡ status.ReadFault → Rose old.file_reads new.file_reads ⊎ Rose old.input_reads new.input_reads
read_told old answer.ReadFault new (inl h) e = inl h.0
read_told old answer.ReadFault new (inr h) e = inr h.0
read_told old _ new h e = cc

write_told : (old : Counts) (told : Answer) (new : Counts) → Raises old told new → status_of told ≡ status.WriteFault → Rose old.file_writes new.file_writes ⊎ Rose old.output_writes new.output_writes
write_told old answer.WriteFault new (inl h) e = inl h.0
write_told old answer.WriteFault new (inr h) e = inr h.0
write_told old _ new h e = cc

-- a status that no end of a command has is the answer's
pub answered : (told : Answer) (out old after new : SinkSeen) (result s : Status) → Ends told out old result after new → result ≡ s → (s ≡ status.WriteFault → ⊥) → (s ≡ status.Memory → ⊥) → status_of told ≡ s
answered told out old after new result s (all_told a b r) e w m = sym r ∙ e
answered told out old after new result s (not_flushed a b r) e w m = absurd (w (sym e ∙ r))
answered told out old after new result s (no_line n a b r) e w m = absurd (m (sym e ∙ r))
answered told out old after new result s (cut_short n l a b r) e w m = absurd (w (sym e ∙ r))
answered told out old after new result s (no_room n l a b r) e w m = absurd (m (sym e ∙ r))

abbrev Wrote : World → World → Type 0
Wrote old new = Rose old.files.write_faults new.files.write_faults ⊎ (Rose old.output.faults new.output.faults ⊎ Rose old.report.faults new.report.faults)

not_memory : (result : Status) → result ≡ status.Memory → result ≡ status.WriteFault → ⊥
not_memory result e w = let clash : status.Memory ≡ status.WriteFault = sym e ∙ w in cc

wrote_by : (old new : World) (told : Answer) (out : SinkSeen) (result : Status) → (Rose old.files.write_faults new.files.write_faults ⊎ Rose old.output.faults out.faults) → new.output.faults ≡ out.faults → Wrote old new
wrote_by old new told out result (inl h) e = inl h
wrote_by old new told out result (inr h) e = let P : ℕ → Type 0 = λ n. Rose old.output.faults n in inr (inl (subst P (sym e) h))

wrote : (old new : World) (told : Answer) (out : SinkSeen) (result : Status) → Tells (outside old.files old.input old.output) told (outside new.files new.input out) → old.output.faults ≤ out.faults
    → Ends told out old.report result new.output new.report → result ≡ status.WriteFault → Wrote old new
wrote old new told out result h l (all_told a b r) e = wrote_by old new told out result (write_told _ told _ h (sym r ∙ e)) (ap (λ (x : SinkSeen). x.faults) a)
wrote old new told out result h l (not_flushed a b r) e = inr (inl (rose_on _ _ _ l a.rose))
wrote old new told out result h l (no_line n a b r) e = absurd (not_memory result r e)
wrote old new told out result h l (cut_short n m a b r) e = inr (inr b.rose)
wrote old new told out result h l (no_room n m a b r) e = absurd (not_memory result r e)

pub caused : (old new : World) (told : Answer) (out : SinkSeen) (result : Status) → Tells (outside old.files old.input old.output) told (outside new.files new.input out)
    → Ends told out old.report result new.output new.report → CountsCause old result new
caused old new told out result h ends = record {
  missing = λ e. missing_told _ told _ h (answered told out old.report new.output new.report result status.Missing ends e (λ x. cc) (λ x. cc));
  reads = λ e. read_told _ told _ h (answered told out old.report new.output new.report result status.ReadFault ends e (λ x. cc) (λ x. cc));
  writes = wrote old new told out result h (forces _ told _ h).grows ends;
}
