use Rattle.std.proofs.Common.{sym, subst}
use Rattle.text_grammar.specs.declared.tree.External.{External}
use Rattle.text_grammar.specs.laws.Programs.{Out}
use Rattle.text_parser.specs.Descent.{Gives}
use Rattle.text_parser.proofs.DeclarationTurns.{static_external, extern_external, plain_external}
use Rattle.text_parser.proofs.externals.read_external.Goals as goal

pub returns-in-Some-next_if-clause-reads : goal.returns-in-Some-next_if-clause-reads
returns-in-Some-next_if-clause-reads c =
    subst (λ (o : Out External). Gives o c.read_specified.result c.read_specified.new.tokens)
    (sym (static_external c.in-Some-next_if.field-0 c.args.tokens.now c.next_if.new.self c.next_if-2.new.self c.in_default.ensures c.in-Some-next_if.ensures)) c.read_specified.ensures.reads

pub returns-in-Some-next_if-2-clause-reads : goal.returns-in-Some-next_if-2-clause-reads
returns-in-Some-next_if-2-clause-reads c =
    subst (λ (o : Out External). Gives o c.read_specified-in-Some-next_if-2.result c.read_specified-in-Some-next_if-2.new.tokens)
    (sym (extern_external c.in-Some-next_if-2.field-0 c.args.tokens.now c.next_if.new.self c.next_if-2.new.self c.next_if-3.new.self c.in_default.ensures c.in_default-next_if.ensures c.in-Some-next_if-2.ensures))
    c.read_specified-in-Some-next_if-2.ensures.reads

pub returns-clause-reads : goal.returns-clause-reads
returns-clause-reads c =
    subst (λ (o : Out External). Gives o c.read_specified-2.result c.read_specified-2.new.tokens)
    (sym (plain_external c.args.tokens.now c.next_if.new.self c.next_if-2.new.self c.next_if-3.new.self c.in_default.ensures c.in_default-next_if.ensures c.in_default-next_if-2.ensures))
    c.read_specified-2.ensures.reads
