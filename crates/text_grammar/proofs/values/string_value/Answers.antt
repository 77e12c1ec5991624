use Rattle.std.proofs.Common.{◌≡◌, ◌++◌, ◌-◌, [], length, drop, sym, ap, ◌∙◌, arith, append-nil, length-append, ◌∷◌, List, ℕ}
use Rattle.std.proofs.lemmas.List.{take_rest}
use Rattle.text_grammar.specs.Lexical.{element_bytes, string_value}
use Rattle.text_grammar.proofs.ValueLemmas.{bytes_quote, bytes_none, bytes_at_end, string_turn}
use Rattle.text_grammar.proofs.values.string_value.Goals as goal

starts : (literal : List ℕ) → string_value literal ≡ [] ++ element_bytes (length literal - length {A = ℕ} []) 34 (drop 1 literal)
unfolding string_value
starts literal = let e : length literal - 0 ≡ length literal = omega arith in ap (λ m. element_bytes m 34 (drop 1 literal)) (sym e)

ends : (literal found more : List ℕ) → string_value literal ≡ found ++ more → more ≡ [] → found ≡ string_value literal
ends literal found more h e = sym (h ∙ ap (λ xs. found ++ xs) e ∙ append-nil found)

pub elements-init : goal.elements-init
elements-init c = rw c.new-found.ensures (record { count = omega arith; same = starts c.args.literal.now })

pub returns-then-byte_at-eq34 : goal.returns-then-byte_at-eq34
returns-then-byte_at-eq34 c =
    ends c.args.literal.now c.elements.found _ c.elements.invariant.same
    (bytes_quote _ (drop c.elements.at c.args.literal.now) (rw take_rest at (sym c.byte_at.ensures.value) ∙ c.if-byte_at-eq34.true))

pub returns-in_default : goal.returns-in_default
returns-in_default c =
    ends c.args.literal.now c.elements.found _ c.elements.invariant.same (bytes_none _ (drop c.elements.at c.args.literal.now) (rw take_rest at (sym c.in_default.ensures.value)))

pub elements-preserved : goal.elements-preserved
elements-preserved c = rw c.in_ok-push.ensures.ok
    (record {
      count = omega (arith, c.elements.invariant.count, c.in-Some.ensures.within, length-append c.elements.found (c.element_value.result ∷ []));
      same =
          c.elements.invariant.same
          ∙ string_turn c.args.literal.now c.elements.found c.elements.at c.in-Some.length c.element_value.result c.elements-test.true c.elements.invariant.count
          (λ e. c.if-byte_at-eq34.false (c.byte_at.ensures.value ∙ rw take_rest e)) (rw take_rest at (sym c.in-Some.ensures.value)) (rw take_rest at c.element_value.ensures);
    })

pub returns : goal.returns
returns c = ends c.args.literal.now c.elements.found _ c.elements.invariant.same (bytes_at_end _ c.elements.at c.args.literal.now (omega arith))
