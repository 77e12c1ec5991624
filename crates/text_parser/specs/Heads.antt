-- What the readers of the parts of a `for` answer.
use Rattle.std.specs.Prelude.{◌≡◌, List, Option, Some, None, Result, Ok, Err}
use Rattle.text_grammar.specs.declared.kind.Kind.{Kind}
use Rattle.text_grammar.specs.declared.kind.Kind.TheVariants as k
use Rattle.text_grammar.specs.declared.kind.Level.TheVariants as level
use Rattle.text_grammar.specs.declared.tree.Expr.{Expr}
use Rattle.text_grammar.specs.declared.tree.Simple.{Simple}
use Rattle.text_grammar.specs.declared.tree.Stmt.{Stmt}
use Rattle.text_grammar.specs.Grammar.{Symbol}
use Rattle.text_grammar.specs.laws.Programs.{Prog, Call, SimpleOf, ChainOf, try, expect, for_rest, for_body, walk, runs}
use Rattle.text_parser.specs.declared.stop.Stop.{Stop}
use Rattle.text_parser.specs.declared.stop.Stop.TheVariants as stop
use Rattle.text_parser.specs.declared.heads.ForHead.{ForHead}

-- a simple statement or none, up to and with a token of this kind, and then what goes on from it
abbrev pub simple_before : Kind → (Option Simple → Prog Stmt) → Prog Stmt
simple_before kind f = try kind (λ y. f None) (Call SimpleOf (λ t. expect kind (f (Some t))))

-- the same of an expression up to `;`
abbrev pub test_before : (Option Expr → Prog Stmt) → Prog Stmt
test_before f = try k.Semi (λ y. f None) (Call (ChainOf level.Or) (λ t. expect k.Semi (f (Some t))))

-- whatever goes on from it, unless memory fails
abbrev pub LeadsBy : {A : Type 0} → ((A → Prog Stmt) → Prog Stmt) → List Symbol → Result A Stop → List Symbol → Type 0
LeadsBy {A} before old (Ok a) new = (f : A → Prog Stmt) → walk runs (before f) old ≡ walk runs (f a) new
LeadsBy before old (Err stop.Memory) new = Unit {0}
LeadsBy {A} before old (Err stop.Token) new = (f : A → Prog Stmt) → walk runs (before f) old ≡ (None, new)

-- what stands behind the `for` at x, up to its block
abbrev pub LeadsFor : Symbol → List Symbol → Result ForHead Stop → List Symbol → Type 0
LeadsFor x old (Ok h) new = walk runs (for_rest x) old ≡ walk runs (for_body x h.first h.test h.step) new
LeadsFor x old (Err stop.Memory) new = Unit {0}
LeadsFor x old (Err stop.Token) new = walk runs (for_rest x) old ≡ (None, new)
