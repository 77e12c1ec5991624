use Rattle.std.proofs.Common.{ℕ, ap, sym, ◌∙◌, List, length, arith, eq-eqb}
use Rattle.std.proofs.lemmas.Bool.{eqb-true, false≢true}
use Rattle.elf_file.specs.Checks.{NameStands}
use Rattle.elf_file.proofs.SymbolsIn.{one_more}
use Rattle.elf_file.proofs.ReadLoops.{name_end, name_here, name_past, name_next, names_end}
use Rattle.elf_file.proofs.read.names_stand.Goals as goal

pub returns-then-name-strings : goal.returns-then-name-strings
returns-then-name-strings c =
    let end = name_end c.args.file.now c.strings_at-strings.result.now c.entry_at.result.now c.args.sizes c.loop-symbol.symbol c.loop-symbol.name c.word_at.result (length c.name_at.result.now)
    c.loop-symbol.auto.symbol c.loop-symbol-test.true c.loop-symbol.invariant.place c.strings_at-strings.ensures.bytes c.entry_at.ensures.bytes c.word_at.ensures c.if-word_at-name.false (ap (λ (xs : List ℕ). length xs) c.name_at.ensures) in
    let len = c.strings_at-strings.ensures.len in
    (λ h. absurd (false≢true h), λ names. absurd (name_past c.args.file.now c.args.sizes c.loop-symbol.symbol _ c.loop-symbol.auto.symbol c.loop-symbol-test.true end (omega arith) names))

pub loop-symbol-preserved : goal.loop-symbol-preserved
loop-symbol-preserved c =
    let end = name_end c.args.file.now c.strings_at-strings.result.now c.entry_at.result.now c.args.sizes c.loop-symbol.symbol c.loop-symbol.name c.word_at.result (length c.name_at.result.now)
    c.loop-symbol.auto.symbol c.loop-symbol-test.true c.loop-symbol.invariant.place c.strings_at-strings.ensures.bytes c.entry_at.ensures.bytes c.word_at.ensures c.if-word_at-name.false (ap (λ (xs : List ℕ). length xs) c.name_at.ensures) in
    let len = c.strings_at-strings.ensures.len in
    record {
      each = one_more (λ k. NameStands c.args.file.now c.args.sizes k) c.loop-symbol.symbol c.loop-symbol.auto.symbol c.loop-symbol.invariant.each
          (name_here c.args.file.now c.entry_at.result.now c.args.sizes c.loop-symbol.symbol c.loop-symbol.name c.word_at.result _ c.loop-symbol.auto.symbol c.loop-symbol.invariant.place c.entry_at.ensures.bytes c.word_at.ensures c.if-word_at-name.false end (omega arith));
      place = end ∙ name_next c.args.file.now c.args.sizes c.loop-symbol.symbol;
    }

pub returns : goal.returns
returns c =
    let end = names_end c.args.file.now c.args.sizes c.loop-symbol.symbol c.loop-symbol.name c.loop-symbol-test.false c.loop-symbol.invariant.place in
    let len = c.strings_at-strings.ensures.len in (
      λ h. record { each = λ k k-in. c.loop-symbol.invariant.each k (omega arith); whole = sym end ∙ eqb-true _ _ h ∙ len },
      λ names. eq-eqb _ _ (end ∙ names.whole ∙ sym len),
    )
