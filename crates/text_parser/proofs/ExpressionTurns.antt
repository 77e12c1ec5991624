-- Turns of the loops over what stands behind an expression.
use Rattle.std.proofs.Common.{◌≡◌, List, Some, None, sym, ap, ◌∙◌}
use Rattle.text_grammar.specs.declared.kind.Kind.TheVariants as k
use Rattle.text_grammar.specs.declared.kind.Level.{Level}
use Rattle.text_grammar.specs.declared.kind.Level.TheVariants as level
use Rattle.text_grammar.specs.declared.tree.BinaryOp.{BinaryOp}
use Rattle.text_grammar.specs.declared.tree.Expr.{Expr}
use Rattle.text_grammar.specs.declared.tree.Expr.TheVariants as e
use Rattle.text_grammar.specs.Grammar.{Symbol, operator_of}
use Rattle.text_grammar.specs.laws.Programs.{head, tail, After, OperandOf, ChainOf, Further, Ret, Fail, Call, try, expect, index_open, index_close, member_name, arrow_name, after_dot, after_arrow, operated, further_at, further_by, fed, walk, runs}
use Rattle.text_grammar.specs.laws.ProgramWalks.{runs_walk}
use Rattle.text_grammar.specs.laws.ProgramSteps.{call_ok, call_last}
use Rattle.text_parser.specs.Descent.{TakesIf}
use Rattle.text_parser.proofs.Steps.{try_yes, try_pass, expect_yes}

pub index_turn : (t i : Expr) (x y : Symbol) (ts r q z : List Symbol) → TakesIf k.LBracket ts (Some x) r → runs (ChainOf level.Or) r ≡ (Some i, q) → TakesIf k.RBracket q (Some y) z
    → runs (After t) ts ≡ runs (After (e.Index x.at t i)) z
index_turn t i x y ts r q z a b c =
    runs_walk (After t) ts
    ∙ try_yes k.LBracket (index_open t) (after_dot t) ts x r a
    ∙ call_ok (ChainOf level.Or) (λ i. expect k.RBracket (index_close t x i)) r i q b
    ∙ expect_yes k.RBracket (index_close t x i) q y z c
    ∙ call_last (After (e.Index x.at t i)) z

pub member_turn : (t : Expr) (x y : Symbol) (ts s r q : List Symbol) → TakesIf k.LBracket ts None s → TakesIf k.Dot s (Some x) r → TakesIf k.Id r (Some y) q
    → runs (After t) ts ≡ runs (After (e.Member y.at t y.text)) q
member_turn t x y ts s r q a b c =
    runs_walk (After t) ts
    ∙ try_pass k.LBracket (index_open t) (after_dot t) ts s a
    ∙ try_yes k.Dot (λ x. try k.Id (member_name t) Fail) (after_arrow t) s x r b
    ∙ try_yes k.Id (member_name t) Fail r y q c
    ∙ call_last (After (e.Member y.at t y.text)) q

pub arrow_turn : (t : Expr) (x y : Symbol) (ts s s' r q : List Symbol) → TakesIf k.LBracket ts None s → TakesIf k.Dot s None s' → TakesIf k.Arrow s' (Some x) r → TakesIf k.Id r (Some y) q
    → runs (After t) ts ≡ runs (After (e.Arrow y.at t y.text)) q
arrow_turn t x y ts s s' r q a b c d =
    runs_walk (After t) ts
    ∙ try_pass k.LBracket (index_open t) (after_dot t) ts s a
    ∙ try_pass k.Dot (λ x. try k.Id (member_name t) Fail) (after_arrow t) s s' b
    ∙ try_yes k.Arrow (λ x. try k.Id (arrow_name t) Fail) (Ret t) s' x r c
    ∙ try_yes k.Id (arrow_name t) Fail r y q d
    ∙ call_last (After (e.Arrow y.at t y.text)) q

pub further_turn : (l : Level) (t v : Expr) (x : Symbol) (op : BinaryOp) (ts r q : List Symbol) → head ts ≡ Some x → operator_of l x.kind ≡ Some op → r ≡ tail ts → runs (OperandOf l) r ≡ (Some v, q)
    → runs (Further l t) ts ≡ runs (Further l (e.Binary x.at op t v)) q
further_turn l t v x op ts r q h o n b =
    runs_walk (Further l t) ts
    ∙ ap (λ h. walk runs (further_by l t h) ts) h
    ∙ ap (λ o. walk runs (further_at l t x o) ts) o
    ∙ ap (λ h. fed h (walk runs (operated l t x op) (tail ts)) ts) h
    ∙ ap (walk runs (operated l t x op)) (sym n)
    ∙ call_ok (OperandOf l) (λ v. Call (Further l (e.Binary x.at op t v)) Ret) r v q b
    ∙ call_last (Further l (e.Binary x.at op t v)) q
