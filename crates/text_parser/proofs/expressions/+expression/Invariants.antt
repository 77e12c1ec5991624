use Rattle.std.proofs.Common.{◌≡◌, ◌≤◌, length}
use Rattle.text_grammar.specs.laws.Programs.{PostfixOf, After, Inner, Open, Plain, SizeofOf, SizeofOpen, UnaryOf, OperandOf, ChainOf, Further, fuel, runs}
use Rattle.text_parser.proofs.expressions.+expression.Given as goal

abbrev pub decreases-read_after : goal.decreases-read_after
decreases-read_after l = fuel (After l.first) l.tokens.now

abbrev pub decreases-read_inner : goal.decreases-read_inner
decreases-read_inner l = fuel (Inner l.x.now) l.tokens.now

abbrev pub decreases-read_open : goal.decreases-read_open
decreases-read_open l = fuel (Open l.x.now) l.tokens.now

abbrev pub decreases-read_sizeof : goal.decreases-read_sizeof
decreases-read_sizeof l = fuel (SizeofOf l.x.now) l.tokens.now

abbrev pub decreases-read_sizeof_open : goal.decreases-read_sizeof_open
decreases-read_sizeof_open l = fuel (SizeofOpen l.x.now l.y.now) l.tokens.now

abbrev pub decreases-read_plain : goal.decreases-read_plain
decreases-read_plain l = fuel (Plain) l.tokens.now

abbrev pub decreases-read_postfix : goal.decreases-read_postfix
decreases-read_postfix l = fuel (PostfixOf) l.tokens.now

abbrev pub decreases-read_unary : goal.decreases-read_unary
decreases-read_unary l = fuel (UnaryOf) l.tokens.now

abbrev pub decreases-read_operand : goal.decreases-read_operand
decreases-read_operand l = fuel (OperandOf l.level) l.tokens.now

abbrev pub decreases-read_chain : goal.decreases-read_chain
decreases-read_chain l = fuel (ChainOf l.level) l.tokens.now

abbrev pub decreases-read_further : goal.decreases-read_further
decreases-read_further l = fuel (Further l.level l.first) l.tokens.now

abbrev pub invariant-read_after-parts : goal.invariant-read_after-parts
invariant-read_after-parts l = record {
  same : runs (After l.whole) l.tokens ≡ runs (After l.fn.first) l.fn.tokens;
  shorter : length l.tokens ≤ length l.fn.tokens;
}

abbrev pub decreases-read_after-parts : goal.decreases-read_after-parts
decreases-read_after-parts l = length l.tokens

abbrev pub invariant-read_further-operators : goal.invariant-read_further-operators
invariant-read_further-operators l = record {
  same : runs (Further l.level l.whole) l.tokens ≡ runs (Further l.level l.fn.first) l.fn.tokens;
  shorter : length l.tokens ≤ length l.fn.tokens;
}

abbrev pub decreases-read_further-operators : goal.decreases-read_further-operators
decreases-read_further-operators l = length l.tokens
