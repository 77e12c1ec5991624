-- What is found by a fold of an expression is found on its tree.
use Rattle.std.specs.Prelude.{◌≡◌, ℕ, ◌+◌, max, List, [], ◌∷◌, map, Option, Some, None, option_map}
use Rattle.std.proofs.Common.{refl, ap, sym, ◌∙◌, subst, arith}
use Rattle.block_mem.specs.declared.value.Value.{Value}
use Rattle.clight_sem.specs.Values.{with_value}
use Rattle.core_lang.specs.declared.syntax.Expression.{Expression}
use Rattle.core_lang.specs.declared.syntax.Expression.TheOpen.{Expression-F}
use Rattle.core_lang.specs.declared.syntax.Expression.TheFolds.{map-Expression, fold-Expression, fold-roll-Expression, ind-Expression}
use Rattle.core_lang.specs.declared.syntax.Expression.TheViews.{roll-Expression}
use Rattle.core_lang.specs.declared.syntax.Statement.{Statement}
use Rattle.core_lang.specs.declared.syntax.Statement.TheOpen.{Statement-F}
use Rattle.core_lang.specs.declared.syntax.Statement.TheFolds.{map-Statement, fold-roll-Statement, ind-Statement}
use Rattle.core_lang.specs.declared.syntax.Statement.TheViews.{roll-Statement}
use Rattle.core_lang.specs.Bounds.{Size, of_bytes, and, all_sizes, expression_size_step, expression_size, arguments_size, result_reach, value_size, statement_size_step, statement_size, body_size}
use Rattle.core_lang.specs.Meaning.{Scene, expression_step, value_of, all_values}
use Rattle.core_lang.specs.Prices.{expression_price_step, expression_price, all_prices}
use Rattle.rtl_gen.specs.Trees.{Tree, Constant, Temporary, Address, Local, Load, Unary, Binary, Code, Skip, Then, Set, Store, Call, If, Loop, Block, Exit, Return, tree_step, tree, chain, code_step, code, body_code}

abbrev pub tree_fold : {R : Type 0} → (Expression-F R → R) → Tree → R
tree_fold f (Constant n) = f (Expression-F.Constant n)
tree_fold f (Temporary j) = f (Expression-F.Temporary j)
tree_fold f (Address symbol offset) = f (Expression-F.Address symbol offset)
tree_fold f (Local index) = f (Expression-F.Local index)
tree_fold f (Load w x) = f (Expression-F.Load w (tree_fold f x))
tree_fold f (Unary op x) = f (Expression-F.Unary op (tree_fold f x))
tree_fold f (Binary op x y) = f (Expression-F.Binary op (tree_fold f x) (tree_fold f y))

module _ {R : Type 0} (f : Expression-F R → R) where
  abbrev Same : Expression → Type 0
  Same e = fold-Expression R f e ≡ tree_fold f (tree e)

  abbrev AnExpression : Type 0
  AnExpression = (e : Expression) × Same e

  abbrev bare : Expression-F AnExpression → Expression-F Expression
  bare = map-Expression AnExpression Expression (λ (e : AnExpression). e.0)

  abbrev StepSame : Expression-F Expression → Type 0
  StepSame x = f (map-Expression Expression R (fold-Expression R f) x) ≡ tree_fold f (tree_step (map-Expression Expression Tree tree x))

  step_same : (y : Expression-F AnExpression) → StepSame (bare y)
  step_same (Expression-F.Constant n) = refl
  step_same (Expression-F.Temporary j) = refl
  step_same (Expression-F.Address symbol offset) = refl
  step_same (Expression-F.Local index) = refl
  step_same (Expression-F.Load w x) = ap (λ (r : R). f (Expression-F.Load w r)) x.1
  step_same (Expression-F.Unary op x) = ap (λ (r : R). f (Expression-F.Unary op r)) x.1
  step_same (Expression-F.Binary op x y) = ap (λ (r : R). f (Expression-F.Binary op r (fold-Expression R f y.0))) x.1 ∙ ap (λ (r : R). f (Expression-F.Binary op (tree_fold f (tree x.0)) r)) y.1

  from_step : (x : Expression-F Expression) → StepSame x → Same (roll-Expression x)
  from_step x h = fold-roll-Expression R f x ∙ h ∙ ap (tree_fold f) (sym (fold-roll-Expression Tree tree_step x))

  pub folded : (e : Expression) → fold-Expression R f e ≡ tree_fold f (tree e)
  folded = ind-Expression Same (λ x y is. from_step x (subst StepSame is (step_same y)))

-- Values, prices and sizes

abbrev pub tree_value : Scene → Tree → Option Value
tree_value s = tree_fold (expression_step s)

abbrev pub tree_values : Scene → List Tree → Option (List Value)
tree_values s [] = Some []
tree_values s (x ∷ xs) = with_value (tree_value s x) (tree_values s xs)

abbrev pub tree_price : Tree → ℕ
tree_price = tree_fold expression_price_step

abbrev pub tree_prices : List Tree → ℕ
tree_prices [] = 0
tree_prices (x ∷ xs) = tree_price x + tree_prices xs

abbrev pub tree_size : Tree → Size
tree_size = tree_fold expression_size_step

pub value_is : (s : Scene) (e : Expression) → value_of s e ≡ tree_value s (tree e)
value_is s e = folded (expression_step s) e

pub values_are : (s : Scene) (es : List Expression) → all_values s es ≡ tree_values s (map tree es)
values_are s [] = refl
values_are s (e ∷ es) = ap (λ (o : Option Value). with_value o (all_values s es)) (value_is s e) ∙ ap (with_value (tree_value s (tree e))) (values_are s es)

pub price_is : (e : Expression) → expression_price e ≡ tree_price (tree e)
price_is e = folded expression_price_step e

pub prices_are : (es : List Expression) → all_prices es ≡ tree_prices (map tree es)
prices_are [] = refl
prices_are (e ∷ es) = let a = price_is e in let b = prices_are es in omega (arith, a, b)

pub size_is : (e : Expression) → expression_size e ≡ tree_size (tree e)
size_is e = folded expression_size_step e

abbrev pub trees_size : List Tree → Size
trees_size [] = of_bytes 0
trees_size (x ∷ xs) =
    let a = tree_size x in
    let r = trees_size xs in
    record { bytes = 16 + a.bytes + r.bytes; reach = max a.reach r.reach; depth = max a.depth (1 + r.depth); arguments = 1 + r.arguments }

pub sizes_are : (es : List Expression) → arguments_size es ≡ trees_size (map tree es)
sizes_are [] = refl
sizes_are (e ∷ es) =
    ap (λ (a : Size). record { bytes = 16 + a.bytes + (arguments_size es).bytes; reach = max a.reach (arguments_size es).reach; depth = max a.depth (1 + (arguments_size es).depth); arguments = 1 + (arguments_size es).arguments }) (size_is e)
    ∙ ap (λ (r : Size). record { bytes = 16 + (tree_size (tree e)).bytes + r.bytes; reach = max (tree_size (tree e)).reach r.reach; depth = max (tree_size (tree e)).depth (1 + r.depth); arguments = 1 + r.arguments }) (sizes_are es)

-- Statements

abbrev pub return_size : Option Tree → Size
return_size None = of_bytes 48
return_size (Some e) = let x = tree_size e in record x { bytes = 48 + x.bytes }

abbrev pub code_size : Code → Size
code_size Skip = of_bytes 0
code_size (Then a b) = and (code_size a) (code_size b)
code_size (Set j e) = let x = tree_size e in record x { reach = max (j + 1) x.reach }
code_size (Store w a b) =
    let x = tree_size a in
    let y = tree_size b in
    record { bytes = 26 + x.bytes + y.bytes; reach = max x.reach y.reach; depth = max x.depth (1 + y.depth); arguments = 0 }
code_size (Call to callee xs) = let r = trees_size xs in record r { bytes = 24 + r.bytes; reach = max (result_reach to) r.reach }
code_size (If e a b) = and (let x = tree_size e in record x { bytes = 28 + x.bytes }) (and (code_size a) (code_size b))
code_size (Loop a) = and (of_bytes 5) (code_size a)
code_size (Block a) = code_size a
code_size (Exit n) = of_bytes 0
code_size (Return e) = return_size e

return_same : (e : Option Expression) → value_size e ≡ return_size (option_map tree e)
return_same None = refl
return_same (Some e) = ap (λ (x : Size). record x { bytes = 48 + x.bytes }) (size_is e)

abbrev ForStatement : Statement → Type 0
ForStatement s = statement_size s ≡ code_size (code s)

abbrev AStatement : Type 0
AStatement = (s : Statement) × ForStatement s

abbrev bare_statement : Statement-F AStatement → Statement-F Statement
bare_statement = map-Statement AStatement Statement (λ (s : AStatement). s.0)

lists_same : (ys : List AStatement) → all_sizes (map statement_size (map (λ (s : AStatement). s.0) ys)) ≡ code_size (chain (map code (map (λ (s : AStatement). s.0) ys)))
lists_same [] = refl
lists_same (y ∷ ys) =
    ap (λ (x : Size). and x (all_sizes (map statement_size (map (λ (s : AStatement). s.0) ys)))) y.1
    ∙ ap (and (code_size (code y.0))) (lists_same ys)

abbrev StepStatement : Statement-F Statement → Type 0
StepStatement x = statement_size_step (map-Statement Statement Size statement_size x) ≡ code_size (code_step (map-Statement Statement Code code x))

step_statement : (y : Statement-F AStatement) → StepStatement (bare_statement y)
step_statement (Statement-F.Set k e) = ap (λ (x : Size). record x { reach = max (k + 1) x.reach }) (size_is e)
step_statement (Statement-F.Store w e v) =
    ap (λ (x : Size). record { bytes = 26 + x.bytes + (expression_size v).bytes; reach = max x.reach (expression_size v).reach; depth = max x.depth (1 + (expression_size v).depth); arguments = 0 }) (size_is e)
    ∙ ap (λ (y : Size). record { bytes = 26 + (tree_size (tree e)).bytes + y.bytes; reach = max (tree_size (tree e)).reach y.reach; depth = max (tree_size (tree e)).depth (1 + y.depth); arguments = 0 }) (size_is v)
step_statement (Statement-F.Call to callee es) = ap (λ (r : Size). record r { bytes = 24 + r.bytes; reach = max (result_reach to) r.reach }) (sizes_are es)
step_statement (Statement-F.If e this that) =
    ap (λ (x : Size). and (record x { bytes = 28 + x.bytes }) (and (all_sizes (map statement_size (map (λ (s : AStatement). s.0) this))) (all_sizes (map statement_size (map (λ (s : AStatement). s.0) that))))) (size_is e)
    ∙ ap (λ (x : Size). and (record (tree_size (tree e)) { bytes = 28 + (tree_size (tree e)).bytes }) (and x (all_sizes (map statement_size (map (λ (s : AStatement). s.0) that))))) (lists_same this)
    ∙ ap (λ (x : Size). and (record (tree_size (tree e)) { bytes = 28 + (tree_size (tree e)).bytes }) (and (code_size (chain (map code (map (λ (s : AStatement). s.0) this)))) x)) (lists_same that)
step_statement (Statement-F.Loop body) = ap (and (of_bytes 5)) (lists_same body)
step_statement (Statement-F.Block body) = lists_same body
step_statement (Statement-F.Exit n) = refl
step_statement (Statement-F.Return e) = return_same e

from_statement : (x : Statement-F Statement) → StepStatement x → ForStatement (roll-Statement x)
from_statement x h = fold-roll-Statement Size statement_size_step x ∙ h ∙ ap code_size (sym (fold-roll-Statement Code code_step x))

pub statement_size_is : (s : Statement) → statement_size s ≡ code_size (code s)
statement_size_is = ind-Statement ForStatement (λ x y is. from_statement x (subst StepStatement is (step_statement y)))

pub body_size_is : (ss : List Statement) → body_size ss ≡ code_size (body_code ss)
body_size_is [] = refl
body_size_is (s ∷ ss) = ap (λ (x : Size). and x (body_size ss)) (statement_size_is s) ∙ ap (and (code_size (code s))) (body_size_is ss)
