use Rattle.std.proofs.Common.{◌≡◌, ◌+◌, ◌++◌, ℕ, List, ap, ◌∙◌, arith, map, subst, sym, drop}
use Rattle.second_form.specs.declared.second_items.SmallStmt.{SmallStmt}
use Rattle.second_code.specs.Parts.{body_of, body_size, uses_from, unit_uses_from}
use Rattle.second_code.specs.PartSteps.{use_of}
use Rattle.second_code.proofs.PartLemmas.{text_left, unit_uses_more}
use Rattle.second_code.proofs.calls.calls.Goals as goal

pub push_calls-requires : goal.push_calls-requires
push_calls-requires c =
    omega (
      arith,
      text_left c.args.items.now c.loop-item.item-index c.item-item.result c.loop-item-test.true c.item-item.is,
      ap body_size c.statements.ensures,
      c.requires,
      c.loop-item.invariant.end,
    )

pub loop-item-preserved : goal.loop-item-preserved
loop-item-preserved c =
    let at = c.loop-item.at in
    let item = c.item-item.result in
    let end : c.in_ok-at.at ≡ at + body_size (body_of item.body) = c.in_ok-at.ensures.end ∙ ap (λ (body : List SmallStmt). at + body_size body) c.statements.ensures in
    let P : ℕ → Type 0 = λ n. map use_of c.push_calls.new.calls ++ unit_uses_from n (drop (c.loop-item.item-index + 1) c.args.items.now) ≡ unit_uses_from 0 c.args.items.now in
    record {
      calls = subst P (sym end)
          (unit_uses_more (map use_of c.loop-item.calls) (map use_of c.push_calls.new.calls) (unit_uses_from 0 c.args.items.now) at c.args.items.now c.loop-item.item-index item c.loop-item-test.true c.item-item.is
          c.loop-item.invariant.calls (c.in_ok-at.ensures.calls ∙ ap (λ (body : List SmallStmt). map use_of c.loop-item.calls ++ uses_from at body) c.statements.ensures));
      end = omega (arith, text_left c.args.items.now c.loop-item.item-index item c.loop-item-test.true c.item-item.is, end, c.loop-item.invariant.end);
    }
