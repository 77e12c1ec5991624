use Rattle.std.proofs.Common.{arith}
use Rattle.text_grammar.specs.declared.kind.Kind.TheVariants as k
use Rattle.text_parser.proofs.Steps.{took, passed}
use Rattle.text_parser.proofs.objects.read_first_length.Goals as goal

pub returns-clause-shorter : goal.returns-clause-shorter
returns-clause-shorter c =
    omega (
      arith,
      passed k.RBracket c.args.tokens.now c.next_if.new.self c.in_default.ensures,
      took k.Num c.next_if.new.self c.in_ok-number.number c.expect.new.self c.in_ok-number.ensures,
      took k.RBracket c.expect.new.self c.in_ok-expect.field-0 c.expect-2.new.self c.in_ok-expect.ensures,
      c.in_ok-lengths-2.ensures.shorter,
      c.read_initialised-2.ensures.shorter,
    )
