use Rattle.std.proofs.Common.{refl, sym, ◌∙◌, arith}
use Rattle.std.proofs.lemmas.Bool.{false≢true}
use Rattle.elf_file.proofs.StandsFacts.{stands_empty, stands_bytes}
use Rattle.elf_file.proofs.WordsStand.{word_more, word_there, all_words, le_bytes}
use Rattle.elf_file.proofs.image_read.words_stand.Goals as goal

pub loop-i-init : goal.loop-i-init
loop-i-init c = stands_empty c.args.file.now c.args.at

pub returns-then-not-stands : goal.returns-then-not-stands
returns-then-not-stands c = (
  λ h. absurd (false≢true h),
  λ s. absurd (false≢true (sym c.if-not-stands.true ∙ c.stands.ensures.1 (stands_bytes (word_there c.args.file.now c.args.words.now c.args.at c.loop-i.i s c.loop-i-test.true) c.to_le_bytes.result (sym (c.to_le_bytes.ensures ∙ le_bytes _))))),
)

pub loop-i-preserved : goal.loop-i-preserved
loop-i-preserved c =
    word_more c.args.file.now c.args.words.now c.args.at c.loop-i.i c.loop-i.invariant c.loop-i-test.true (stands_bytes (c.stands.ensures.0 c.if-not-stands.false) _ (c.to_le_bytes.ensures ∙ le_bytes _))

pub returns : goal.returns
returns c = (λ _. all_words c.args.file.now c.args.words.now c.args.at c.loop-i.i c.loop-i.invariant (omega arith), λ _. refl)
