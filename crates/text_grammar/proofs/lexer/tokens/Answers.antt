use Rattle.std.proofs.Common.{arith, drop}
use Rattle.std.proofs.lemmas.List.Elements.{All-push}
use Rattle.std.proofs.lemmas.List.{take_rest}
use Rattle.text_grammar.specs.Scanning.{no_token, bad_literal, NoTokenAt, BadLiteralAt}
use Rattle.text_grammar.specs.Spelled.{IsSpelled}
use Rattle.text_grammar.proofs.LiteralLemmas.{front_literal}
use Rattle.text_grammar.specs.laws.Cuts.{continues_blank, continues_token, found_whole, found_before, room_left}
use Rattle.text_grammar.proofs.lexer.tokens.Goals as goal

pub loop-at-preserved-in-Blank : goal.loop-at-preserved-in-Blank
loop-at-preserved-in-Blank c =
    record {
      within = omega (arith, c.in-Blank.ensures.within.1);
      continues = continues_blank c.args.text.now c.loop-at.at c.in-Blank.length c.loop-at.found (rw take_rest at c.in-Blank.ensures.is) c.loop-at.invariant.continues;
      spelled = c.loop-at.invariant.spelled;
    }

pub loop-at-preserved : goal.loop-at-preserved
loop-at-preserved c =
    record {
      within = omega (arith, c.in-Token.ensures.within.1);
      continues =
          rw c.in_ok-push-in-Token.ensures.ok
          (continues_token c.args.text.now c.loop-at.at c.in-Token.length c.in-Token.kind c.loop-at.found (rw take_rest at c.in-Token.ensures.is) c.loop-at.invariant.continues);
      spelled =
          rw c.in_ok-push-in-Token.ensures.ok
          (All-push (IsSpelled c.args.text.now) c.loop-at.found (record { kind = c.in-Token.kind; start = c.loop-at.at; length = c.in-Token.length }) c.loop-at.invariant.spelled
          (record {
            within = omega (arith, c.in-Token.ensures.within.1);
            literal = front_literal (drop c.loop-at.at c.args.text.now) c.in-Token.kind c.in-Token.length (rw take_rest at c.in-Token.ensures.is);
          }));
    }

pub returns-in-BadLiteral-clause-fault : goal.returns-in-BadLiteral-clause-fault
returns-in-BadLiteral-clause-fault c =
    found_before c.args.text.now c.loop-at.at c.loop-at.found (BadLiteralAt c.loop-at.at) (omega arith) c.loop-at.invariant.continues (bad_literal (rw take_rest at c.in-BadLiteral.ensures.is))

pub returns-in-NoToken-clause-fault : goal.returns-in-NoToken-clause-fault
returns-in-NoToken-clause-fault c =
    found_before c.args.text.now c.loop-at.at c.loop-at.found (NoTokenAt c.loop-at.at) (omega arith) c.loop-at.invariant.continues
    (no_token (room_left c.args.text.now c.loop-at.at (omega arith)) (rw take_rest at c.in-NoToken.ensures.is))

pub returns-clause-tokens : goal.returns-clause-tokens
returns-clause-tokens c =
    record { short = omega arith; cut = found_whole c.args.text.now c.loop-at.at c.loop-at.found (omega arith) c.loop-at.invariant.continues }
