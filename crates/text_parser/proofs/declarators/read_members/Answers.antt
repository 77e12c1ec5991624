use Rattle.std.proofs.Common.{◌<◌, sym, ◌∙◌, ap, length, arith}
use Rattle.text_grammar.specs.declared.kind.Kind.TheVariants as k
use Rattle.text_grammar.specs.laws.Programs.{runs, MembersOf}
use Rattle.text_parser.proofs.Steps.{passed}
use Rattle.text_parser.proofs.DeclarationTurns.{members_turn, member_shorter}
use Rattle.text_parser.proofs.declarators.read_members.Goals as goal

pub members-preserved : goal.members-preserved
members-preserved c = record {
  same = ap (λ f. runs (MembersOf f) c.read_member.new.tokens) c.in_ok-push-2.ensures.ok
      ∙ sym (members_turn c.members.found c.in_ok-next.next c.members.tokens c.next_if.new.self c.read_member.new.tokens c.in_default.ensures c.in_ok-next.ensures.reads)
      ∙ c.members.invariant.same;
  shorter = omega (arith, c.members.invariant.shorter, passed k.RBrace c.members.tokens c.next_if.new.self c.in_default.ensures, c.in_ok-next.ensures.shorter);
}

pub members-smaller : goal.members-smaller
members-smaller c =
    let h : length c.read_member.new.tokens < length c.members.tokens = omega (arith, member_shorter _ _ _ c.in_ok-next.ensures.reads, ap length c.in_default.ensures.1) in
    h
