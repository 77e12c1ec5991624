-- What steps cost: how many instructions of an image stand for one at most, where each temporary lies in memory and jumps count
-- (this project's own rule).
use Rattle.std.specs.Prelude.{ℕ, ◌+◌, ◌*◌, List, [], ◌∷◌, length, Option, Some, None}
use Rattle.core_lang.specs.declared.syntax.Expression.{Expression}
use Rattle.core_lang.specs.declared.syntax.Expression.TheOpen.{Expression-F}
use Rattle.core_lang.specs.declared.syntax.Expression.TheFolds.{fold-Expression}
use Rattle.core_lang.specs.declared.syntax.Statement.{Statement, out-Statement}
use Rattle.core_lang.specs.declared.syntax.Statement.TheOpen.{Statement-F}
use Rattle.core_lang.specs.Meaning.{Item, Do, End, World}

-- what it costs to bring a value into a temporary
abbrev pub expression_price_step : Expression-F ℕ → ℕ
expression_price_step (Expression-F.Constant n) = 3
expression_price_step (Expression-F.Temporary k) = 4
expression_price_step (Expression-F.Address symbol offset) = 3
expression_price_step (Expression-F.Local index) = 3
expression_price_step (Expression-F.Load w x) = 4 + x
expression_price_step (Expression-F.Unary op x) = 12 + x
expression_price_step (Expression-F.Binary op x y) = 9 + x + y

abbrev pub expression_price : Expression → ℕ
expression_price = fold-Expression ℕ expression_price_step

abbrev pub all_prices : List Expression → ℕ
all_prices [] = 0
all_prices (e ∷ es) = expression_price e + all_prices es

abbrev pub price_if_any : Option Expression → ℕ
price_if_any None = 0
price_if_any (Some e) = expression_price e

abbrev pub statement_price : Statement-F Statement → ℕ
statement_price (Statement-F.Set k e) = expression_price e
statement_price (Statement-F.Store w e v) = 4 + expression_price e + expression_price v
statement_price (Statement-F.Call to callee es) = 24 + 5 * length es + all_prices es
statement_price (Statement-F.If e this that) = 5 + expression_price e
statement_price (Statement-F.Loop body) = 1
statement_price (Statement-F.Block body) = 0
statement_price (Statement-F.Exit n) = 0
statement_price (Statement-F.Return e) = 12 + price_if_any e

-- where nothing is left, 0 may have to be returned
abbrev pub first_price : List Item → ℕ
first_price [] = 15
first_price (Do s ∷ left) = statement_price (out-Statement s)
first_price (End ∷ left) = 0

-- the price of the step that a run takes next
abbrev pub price : World → ℕ
price w = first_price w.top.left
