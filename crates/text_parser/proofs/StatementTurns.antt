-- Turns of the loops over arguments, arms and statements.
use Rattle.std.proofs.Common.{◌≡◌, ◌<◌, List, [], ◌∷◌, ◌++◌, length, Some, None, ap, ◌∙◌, arith}
use Rattle.text_grammar.specs.declared.kind.Kind.TheVariants as k
use Rattle.text_grammar.specs.declared.kind.Level.TheVariants as level
use Rattle.text_grammar.specs.declared.tree.Expr.{Expr}
use Rattle.text_grammar.specs.declared.tree.Stmt.{Stmt}
use Rattle.text_grammar.specs.declared.tree.Stmt.TheVariants as s
use Rattle.text_grammar.specs.declared.tree.Arm.{Arm}
use Rattle.text_grammar.specs.Grammar.{Symbol, arm}
use Rattle.text_grammar.specs.laws.Programs.{Out, ChainOf, ArgumentsOf, StatementOf, GuardedOf, Choice, StatementsOf, Ret, Call, argument, choice_arm, choice_last, choice_more, statements_more, runs}
use Rattle.text_grammar.specs.laws.ProgramWalks.{runs_walk, runs_consumed}
use Rattle.text_grammar.specs.laws.ProgramSteps.{call_ok, call_last}
use Rattle.text_parser.specs.Descent.{TakesIf}
use Rattle.text_parser.proofs.Steps.{try_yes, try_pass}

pub arguments_turn : (found : List Expr) (t : Expr) (x : Symbol) (ts r q : List Symbol) → TakesIf k.Comma ts (Some x) r → runs (ChainOf level.Or) r ≡ (Some t, q)
    → runs (ArgumentsOf found) ts ≡ runs (ArgumentsOf (found ++ t ∷ [])) q
arguments_turn found t x ts r q h d =
    runs_walk (ArgumentsOf found) ts
    ∙ try_yes k.Comma (argument found) (Ret found) ts x r h
    ∙ call_ok (ChainOf level.Or) (λ t. Call (ArgumentsOf (found ++ t ∷ [])) Ret) r t q d
    ∙ call_last (ArgumentsOf (found ++ t ∷ [])) q

pub arms_turn : (arms : List Arm) (t : Expr) (b : List Stmt) (x y : Symbol) (ts r q z : List Symbol) → TakesIf k.KwElse ts (Some x) r → TakesIf k.KwIf r (Some y) q → runs GuardedOf q ≡ (Some (t, b), z)
    → runs (Choice arms) ts ≡ runs (Choice (arms ++ arm y t b ∷ [])) z
arms_turn arms t b x y ts r q z h i d =
    runs_walk (Choice arms) ts
    ∙ try_yes k.KwElse (choice_more arms) (Ret (s.If arms None)) ts x r h
    ∙ try_yes k.KwIf (choice_arm arms) (choice_last arms) r y q i
    ∙ call_ok GuardedOf (λ v. Call (Choice (arms ++ arm y v.0 v.1 ∷ [])) Ret) q (t, b) z d
    ∙ call_last (Choice (arms ++ arm y t b ∷ [])) z

pub statements_turn : (found : List Stmt) (t : Stmt) (ts r q : List Symbol) → TakesIf k.RBrace ts None r → runs StatementOf r ≡ (Some t, q) → runs (StatementsOf found) ts ≡ runs (StatementsOf (found ++ t ∷ [])) q
statements_turn found t ts r q h d =
    runs_walk (StatementsOf found) ts
    ∙ try_pass k.RBrace (λ y. Ret found) (statements_more found) ts r h
    ∙ call_ok StatementOf (λ t. Call (StatementsOf (found ++ t ∷ [])) Ret) r t q d
    ∙ call_last (StatementsOf (found ++ t ∷ [])) q

pub statement_shorter : (ts r : List Symbol) (t : Stmt) → runs StatementOf ts ≡ (Some t, r) → length r < length ts
statement_shorter ts r t h =
    let less = runs_consumed StatementOf ts t (ap (λ (o : Out Stmt). o.0) h) in
    let e : (runs StatementOf ts).1 ≡ r = ap (λ (o : Out Stmt). o.1) h in
    omega (arith, less, ap length e)
