-- Statements of Core opened, and the values and prices of its expressions by their kinds.
use Rattle.std.specs.Prelude.{◌≡◌, ℕ, ◌+◌, List, get_or, Option, Some, None, option_map}
use Rattle.std.proofs.Common.{ap, sym, ◌∙◌}
use Rattle.block_mem.specs.declared.value.Value.{Value}
use Rattle.block_mem.specs.declared.value.Value.TheVariants.{Int}
use Rattle.block_mem.specs.declared.value.BlockName.TheVariants.{Local}
use Rattle.block_mem.specs.declared.value.Width.{Width}
use Rattle.block_mem.specs.declared.operator.Op.{Op}
use Rattle.clight_sem.specs.Values.{start_of, of_one, of_two, held}
use Rattle.core_lang.specs.declared.syntax.Expression.{Expression}
use Rattle.core_lang.specs.declared.syntax.Expression.TheVariants as core
use Rattle.core_lang.specs.declared.syntax.Expression.TheOpen.{Expression-F}
use Rattle.core_lang.specs.declared.syntax.Expression.TheFolds.{fold-roll-Expression}
use Rattle.core_lang.specs.declared.syntax.Statement.{Statement, out-Statement}
use Rattle.core_lang.specs.declared.syntax.Statement.TheVariants as code
use Rattle.core_lang.specs.declared.syntax.Statement.TheOpen.{Statement-F}
use Rattle.core_lang.specs.declared.syntax.Statement.TheViews.{out-roll-Statement}
use Rattle.core_lang.specs.Meaning.{Scene, behind, expression_step, value_of}
use Rattle.core_lang.specs.Prices.{expression_price, expression_price_step}

-- Statements

pub out_set : (k : ℕ) (e : Expression) → out-Statement (code.Set k e) ≡ Statement-F.Set k e
out_set k e = ap out-Statement (sym (code.rolls-Set k e)) ∙ out-roll-Statement (Statement-F.Set k e)

pub out_store : (w : Width) (e v : Expression) → out-Statement (code.Store w e v) ≡ Statement-F.Store w e v
out_store w e v = ap out-Statement (sym (code.rolls-Store w e v)) ∙ out-roll-Statement (Statement-F.Store w e v)

pub out_call : (to : Option ℕ) (callee : ℕ) (es : List Expression) → out-Statement (code.Call to callee es) ≡ Statement-F.Call to callee es
out_call to callee es = ap out-Statement (sym (code.rolls-Call to callee es)) ∙ out-roll-Statement (Statement-F.Call to callee es)

pub out_if : (e : Expression) (a b : List Statement) → out-Statement (code.If e a b) ≡ Statement-F.If e a b
out_if e a b = ap out-Statement (sym (code.rolls-If e a b)) ∙ out-roll-Statement (Statement-F.If e a b)

pub out_loop : (a : List Statement) → out-Statement (code.Loop a) ≡ Statement-F.Loop a
out_loop a = ap out-Statement (sym (code.rolls-Loop a)) ∙ out-roll-Statement (Statement-F.Loop a)

pub out_block : (a : List Statement) → out-Statement (code.Block a) ≡ Statement-F.Block a
out_block a = ap out-Statement (sym (code.rolls-Block a)) ∙ out-roll-Statement (Statement-F.Block a)

pub out_exit : (n : ℕ) → out-Statement (code.Exit n) ≡ Statement-F.Exit n
out_exit n = ap out-Statement (sym (code.rolls-Exit n)) ∙ out-roll-Statement (Statement-F.Exit n)

pub out_return : (e : Option Expression) → out-Statement (code.Return e) ≡ Statement-F.Return e
out_return e = ap out-Statement (sym (code.rolls-Return e)) ∙ out-roll-Statement (Statement-F.Return e)

-- Values

pub value_constant : (s : Scene) (n : ℕ) → value_of s (core.Constant n) ≡ Some (Int n)
value_constant s n = ap (value_of s) (sym (core.rolls-Constant n)) ∙ fold-roll-Expression (Option Value) (expression_step s) (Expression-F.Constant n)

pub value_temporary : (s : Scene) (k : ℕ) → value_of s (core.Temporary k) ≡ s.temporaries k
value_temporary s k = ap (value_of s) (sym (core.rolls-Temporary k)) ∙ fold-roll-Expression (Option Value) (expression_step s) (Expression-F.Temporary k)

pub value_address : (s : Scene) (symbol offset : ℕ) → value_of s (core.Address symbol offset) ≡ option_map (behind offset) (get_or s.objects symbol None)
value_address s symbol offset = ap (value_of s) (sym (core.rolls-Address symbol offset)) ∙ fold-roll-Expression (Option Value) (expression_step s) (Expression-F.Address symbol offset)

pub value_local : (s : Scene) (index : ℕ) → value_of s (core.Local index) ≡ Some (start_of (Local s.activation index))
value_local s index = ap (value_of s) (sym (core.rolls-Local index)) ∙ fold-roll-Expression (Option Value) (expression_step s) (Expression-F.Local index)

pub value_load : (s : Scene) (w : Width) (x : Expression) → value_of s (core.Load w x) ≡ held s.memory w (value_of s x)
value_load s w x = ap (value_of s) (sym (core.rolls-Load w x)) ∙ fold-roll-Expression (Option Value) (expression_step s) (Expression-F.Load w x)

pub value_unary : (s : Scene) (op : Op) (x : Expression) → value_of s (core.Unary op x) ≡ of_one s.memory op (value_of s x)
value_unary s op x = ap (value_of s) (sym (core.rolls-Unary op x)) ∙ fold-roll-Expression (Option Value) (expression_step s) (Expression-F.Unary op x)

pub value_binary : (s : Scene) (op : Op) (x y : Expression) → value_of s (core.Binary op x y) ≡ of_two s.memory op (value_of s x) (value_of s y)
value_binary s op x y = ap (value_of s) (sym (core.rolls-Binary op x y)) ∙ fold-roll-Expression (Option Value) (expression_step s) (Expression-F.Binary op x y)

-- Prices

pub price_constant : (n : ℕ) → expression_price (core.Constant n) ≡ 3
price_constant n = ap expression_price (sym (core.rolls-Constant n)) ∙ fold-roll-Expression ℕ expression_price_step (Expression-F.Constant n)

pub price_temporary : (k : ℕ) → expression_price (core.Temporary k) ≡ 4
price_temporary k = ap expression_price (sym (core.rolls-Temporary k)) ∙ fold-roll-Expression ℕ expression_price_step (Expression-F.Temporary k)

pub price_address : (symbol offset : ℕ) → expression_price (core.Address symbol offset) ≡ 3
price_address symbol offset = ap expression_price (sym (core.rolls-Address symbol offset)) ∙ fold-roll-Expression ℕ expression_price_step (Expression-F.Address symbol offset)

pub price_local : (index : ℕ) → expression_price (core.Local index) ≡ 3
price_local index = ap expression_price (sym (core.rolls-Local index)) ∙ fold-roll-Expression ℕ expression_price_step (Expression-F.Local index)

pub price_load : (w : Width) (x : Expression) → expression_price (core.Load w x) ≡ 4 + expression_price x
price_load w x = ap expression_price (sym (core.rolls-Load w x)) ∙ fold-roll-Expression ℕ expression_price_step (Expression-F.Load w x)

pub price_unary : (op : Op) (x : Expression) → expression_price (core.Unary op x) ≡ 12 + expression_price x
price_unary op x = ap expression_price (sym (core.rolls-Unary op x)) ∙ fold-roll-Expression ℕ expression_price_step (Expression-F.Unary op x)

pub price_binary : (op : Op) (x y : Expression) → expression_price (core.Binary op x y) ≡ 9 + expression_price x + expression_price y
price_binary op x y = ap expression_price (sym (core.rolls-Binary op x y)) ∙ fold-roll-Expression ℕ expression_price_step (Expression-F.Binary op x y)
