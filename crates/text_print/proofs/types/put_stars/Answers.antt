use Rattle.std.proofs.Common.{◌≡◌, suc, ◌+◌, List, ◌++◌, sym, ap, ◌∙◌, append_assoc, arith}
use Rattle.std.proofs.lemmas.List.{append-nil}
use Rattle.text_grammar.specs.Grammar.{Symbol}
use Rattle.text_print.specs.Canonical.{star_tokens}
use Rattle.text_print.proofs.types.put_stars.Goals as goal

pub stars-init : goal.stars-init
stars-init c = λ n h. let e : n ≡ c.args.count = omega arith in ap (λ i. c.args.out.now ++ star_tokens i) e

pub stars-preserved : goal.stars-preserved
stars-preserved c = λ n h.
    let e : c.stars.done + suc n ≡ c.args.count = omega arith in
    ap (λ (q : List Symbol). q ++ star_tokens n) c.in_ok-fixed.ensures ∙ append_assoc c.stars.out _ (star_tokens n) ∙ c.stars.invariant (suc n) e

pub returns : goal.returns
returns c = let e : c.stars.done + 0 ≡ c.args.count = omega arith in sym (append-nil c.stars.out) ∙ c.stars.invariant 0 e
