-- The parts of a `for`, one after the other.
use Rattle.std.proofs.Common.{◌≡◌, List, Option, Some, Ok, Err, ◌∙◌}
use Rattle.text_grammar.specs.declared.kind.Kind.TheVariants as k
use Rattle.text_grammar.specs.declared.tree.Expr.{Expr}
use Rattle.text_grammar.specs.declared.tree.Simple.{Simple}
use Rattle.text_grammar.specs.Grammar.{Symbol}
use Rattle.text_grammar.specs.laws.Programs.{for_rest, for_first, for_test, for_step, for_body, walk, runs}
use Rattle.text_parser.specs.declared.stop.Stop.{Stop}
use Rattle.text_parser.specs.declared.stop.Stop.TheVariants as stop
use Rattle.text_parser.specs.Descent.{TakesIf}
use Rattle.text_parser.specs.Heads.{simple_before, test_before, LeadsBy, LeadsFor}
use Rattle.text_parser.proofs.Steps.{expect_yes}

module _ (x y : Symbol) (ts r : List Symbol) (opened : TakesIf k.LParen ts (Some y) r) where
  begins : walk runs (for_rest x) ts ≡ walk runs (for_first x) r
  begins = expect_yes k.LParen (for_first x) ts y r opened

  pub no_first : (s : Stop) (q : List Symbol) → LeadsBy (simple_before k.Semi) r (Err s) q → LeadsFor x ts (Err s) q
  no_first stop.Memory q h = tt
  no_first stop.Token q h = begins ∙ h (for_test x)

  module _ (i : Option Simple) (q : List Symbol) (first : LeadsBy (simple_before k.Semi) r (Ok i) q) where
    pub no_test : (s : Stop) (z : List Symbol) → LeadsBy test_before q (Err s) z → LeadsFor x ts (Err s) z
    no_test stop.Memory z h = tt
    no_test stop.Token z h = begins ∙ first (for_test x) ∙ h (for_step x i)

    module _ (t : Option Expr) (z : List Symbol) (test : LeadsBy test_before q (Ok t) z) where
      pub no_step : (s : Stop) (w : List Symbol) → LeadsBy (simple_before k.RParen) z (Err s) w → LeadsFor x ts (Err s) w
      no_step stop.Memory w h = tt
      no_step stop.Token w h = begins ∙ first (for_test x) ∙ test (for_step x i) ∙ h (for_body x i t)

      pub whole_head : (p : Option Simple) (w : List Symbol) → LeadsBy (simple_before k.RParen) z (Ok p) w → LeadsFor x ts (Ok (record { first = i; test = t; step = p })) w
      whole_head p w h = begins ∙ first (for_test x) ∙ test (for_step x i) ∙ h (for_body x i t)
