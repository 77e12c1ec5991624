use Rattle.std.proofs.Common.{refl, sym, ap, ◌∙◌, ◌-◌, ◌/◌, ◌∷◌, drop, drop_of_length-le, arith}
use Rattle.std.proofs.Math.ListN.{length-set}
use Rattle.cc_base.proofs.HexLemmas.{hex_onto, hex_onto-digits, hex_onto-none, hex_onto-last, hex_onto-next, one_before, as_before}
use Rattle.cc_base.proofs.number_text.put_hex.Goals as goal

pub loop-at-init : goal.loop-at-init
loop-at-init c = record {
  within = omega arith;
  long = c.told-buffer;
  written = ap (hex_onto 20 c.args.value) (drop_of_length-le c.args.buffer.now {i = 20} (omega (arith, c.told-buffer))) ∙ hex_onto-digits c.args.value c.ranges.value.fits;
  front = refl;
}

pub loop-at-preserved : goal.loop-at-preserved
loop-at-preserved c =
    let l = c.loop-at in
    let digit = one_before l.buffer l.at c.hex_digit.result c.loop-at-test.true (omega arith) ∙ ap (λ x. x ∷ drop l.at l.buffer) (c.hex_digit.ensures) in
    record {
      within = omega arith;
      long = length-set l.buffer (l.at - 1) c.hex_digit.result ∙ l.invariant.long;
      written = ap (hex_onto (l.at - 1) (l.rest / 16)) digit ∙ sym (hex_onto-next l.at l.rest (drop l.at l.buffer) c.loop-at-test.true c.if-rest-eq0.false) ∙ l.invariant.written;
      front = as_before l.buffer c.args.buffer.now l.at c.hex_digit.result l.invariant.front;
    }

pub returns-then-rest-eq0-clause-written : goal.returns-then-rest-eq0-clause-written
returns-then-rest-eq0-clause-written c =
    let l = c.loop-at in
    one_before l.buffer l.at c.hex_digit.result c.loop-at-test.true (omega arith) ∙ ap (λ x. x ∷ drop l.at l.buffer) (c.hex_digit.ensures)
    ∙ sym (hex_onto-last l.at l.rest (drop l.at l.buffer) c.loop-at-test.true c.if-rest-eq0.true) ∙ l.invariant.written

pub returns-then-rest-eq0-clause-front : goal.returns-then-rest-eq0-clause-front
returns-then-rest-eq0-clause-front c = as_before c.loop-at.buffer c.args.buffer.now c.loop-at.at c.hex_digit.result c.loop-at.invariant.front

pub returns-after-loop-at-clause-written : goal.returns-after-loop-at-clause-written
returns-after-loop-at-clause-written c = let l = c.loop-at in sym (hex_onto-none l.at l.rest (drop l.at l.buffer) c.loop-at-test.false) ∙ l.invariant.written
