-- Steps of programs by what a cursor's call says.
use Rattle.std.proofs.Common.{◌≡◌, ◌≤◌, List, [], ◌∷◌, length, Some, None, sym, ap, ◌∙◌, arith}
use Rattle.text_grammar.specs.declared.kind.Kind.{Kind}
use Rattle.text_grammar.specs.Grammar.{Symbol}
use Rattle.text_grammar.specs.laws.Programs.{tail, Prog, Fail, Eat, if_some, try, expect, fed, walk, runs}
use Rattle.text_grammar.specs.laws.ProgramSteps.{try_no}
use Rattle.text_parser.specs.Descent.{TakesIf}

pub try_yes : {A : Type 0} (kind : Kind) (f : Symbol → Prog A) (p : Prog A) (ts : List Symbol) (x : Symbol) (r : List Symbol)
    → TakesIf kind ts (Some x) r → walk runs (try kind f p) ts ≡ walk runs (f x) r
try_yes kind f p ts x r h =
    ap (λ o. walk runs (if_some o (λ x. Eat (f x)) p) ts) h.1
    ∙ ap (λ o. fed o (walk runs (f x) (tail ts)) ts) h.0
    ∙ ap (walk runs (f x)) (sym h.2)

pub try_pass : {A : Type 0} (kind : Kind) (f : Symbol → Prog A) (p : Prog A) (ts r : List Symbol) → TakesIf kind ts None r → walk runs (try kind f p) ts ≡ walk runs p r
try_pass kind f p ts r h = try_no kind f p ts h.0 ∙ ap (walk runs p) (sym h.1)

pub expect_yes : {A : Type 0} (kind : Kind) (p : Prog A) (ts : List Symbol) (x : Symbol) (r : List Symbol)
    → TakesIf kind ts (Some x) r → walk runs (expect kind p) ts ≡ walk runs p r
expect_yes kind p ts x r h = try_yes kind (λ x. p) Fail ts x r h

pub tail_shorter : (ts : List Symbol) → length (tail ts) ≤ length ts
tail_shorter [] = omega arith
tail_shorter (x ∷ ts) = omega arith

pub took : (kind : Kind) (ts : List Symbol) (x : Symbol) (r : List Symbol) → TakesIf kind ts (Some x) r → length r ≤ length ts
took kind ts x r h = omega (arith, tail_shorter ts, ap length h.2)

pub passed : (kind : Kind) (ts r : List Symbol) → TakesIf kind ts None r → length r ≤ length ts
passed kind ts r h = omega (arith, ap length h.1)
