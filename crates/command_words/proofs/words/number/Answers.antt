use Rattle.std.proofs.Common.{ap, ◌∙◌, sym, Some, subst}
use Rattle.std.specs.Str.Parse.{ParsesUnsigned}
use Rattle.command_words.proofs.WordFacts.{read_back, same_number, spelled_so}
use Rattle.command_words.proofs.words.number.Goals as goal

pub returns-in_default-clause-only : goal.returns-in_default-clause-only
returns-in_default-clause-only c n l e = absurd (c.in_default.not-Ok n (read_back n _ _ l e c.parse.ensures.value.0))

pub returns-then-eq-clause-only : goal.returns-then-eq-clause-only
returns-then-eq-clause-only c n l e = ap Some (same_number n c.in-Ok.n _ _ l e c.parse.ensures.value.0 c.in-Ok.is)

pub returns-else-eq-clause-only : goal.returns-else-eq-clause-only
returns-else-eq-clause-only c n l e =
    let h = spelled_so n c.in-Ok.n c.as_bytes.result.now c.as_slice.result.now _ l (c.as_bytes.ensures.value ∙ e) (subst (λ w. ParsesUnsigned 32 10 w c.parse.result) (sym c.as_bytes.ensures.value) c.parse.ensures.value.0) c.in-Ok.is (c.as_slice.ensures ∙ c.word_text-text.ensures) in
    absurd (cc (sym h, c.if-eq.false, c.eq.ensures))
