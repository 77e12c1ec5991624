-- The sizes of expressions and statements by their kinds.
use Rattle.std.specs.Prelude.{◌≡◌, ℕ, ◌+◌, max, List, Option}
use Rattle.std.proofs.Common.{ap, sym, ◌∙◌}
use Rattle.block_mem.specs.declared.value.Width.{Width}
use Rattle.block_mem.specs.declared.operator.Op.{Op}
use Rattle.core_lang.specs.declared.syntax.Expression.{Expression}
use Rattle.core_lang.specs.declared.syntax.Expression.TheVariants as core
use Rattle.core_lang.specs.declared.syntax.Expression.TheOpen.{Expression-F}
use Rattle.core_lang.specs.declared.syntax.Expression.TheFolds.{fold-roll-Expression}
use Rattle.core_lang.specs.declared.syntax.Statement.{Statement}
use Rattle.core_lang.specs.declared.syntax.Statement.TheVariants as code
use Rattle.core_lang.specs.declared.syntax.Statement.TheOpen.{Statement-F}
use Rattle.core_lang.specs.declared.syntax.Statement.TheFolds.{fold-roll-Statement}
use Rattle.core_lang.specs.Bounds.{Size, of_bytes, and, leaf, expression_size_step, expression_size, arguments_size, result_reach, value_size, statement_size_step, statement_size, body_size}

pub size_constant : (n : ℕ) → expression_size (core.Constant n) ≡ leaf 17
size_constant n = ap expression_size (sym (core.rolls-Constant n)) ∙ fold-roll-Expression Size expression_size_step (Expression-F.Constant n)

pub size_temporary : (k : ℕ) → expression_size (core.Temporary k) ≡ record { bytes = 19; reach = k + 1; depth = 1; arguments = 0 }
size_temporary k = ap expression_size (sym (core.rolls-Temporary k)) ∙ fold-roll-Expression Size expression_size_step (Expression-F.Temporary k)

pub size_address : (symbol offset : ℕ) → expression_size (core.Address symbol offset) ≡ leaf 17
size_address symbol offset = ap expression_size (sym (core.rolls-Address symbol offset)) ∙ fold-roll-Expression Size expression_size_step (Expression-F.Address symbol offset)

pub size_local : (index : ℕ) → expression_size (core.Local index) ≡ leaf 19
size_local index = ap expression_size (sym (core.rolls-Local index)) ∙ fold-roll-Expression Size expression_size_step (Expression-F.Local index)

pub size_load : (w : Width) (x : Expression) → expression_size (core.Load w x) ≡ record { bytes = 26 + (expression_size x).bytes; reach = (expression_size x).reach; depth = (expression_size x).depth; arguments = 0 }
size_load w x = ap expression_size (sym (core.rolls-Load w x)) ∙ fold-roll-Expression Size expression_size_step (Expression-F.Load w x)

pub size_unary : (op : Op) (x : Expression) → expression_size (core.Unary op x) ≡ record { bytes = 57 + (expression_size x).bytes; reach = (expression_size x).reach; depth = max (expression_size x).depth 2; arguments = 0 }
size_unary op x = ap expression_size (sym (core.rolls-Unary op x)) ∙ fold-roll-Expression Size expression_size_step (Expression-F.Unary op x)

pub size_binary : (op : Op) (x y : Expression) → expression_size (core.Binary op x y) ≡ record { bytes = 40 + (expression_size x).bytes + (expression_size y).bytes; reach = max (expression_size x).reach (expression_size y).reach; depth = max (expression_size x).depth (1 + (expression_size y).depth); arguments = 0 }
size_binary op x y = ap expression_size (sym (core.rolls-Binary op x y)) ∙ fold-roll-Expression Size expression_size_step (Expression-F.Binary op x y)

pub size_set : (k : ℕ) (e : Expression) → statement_size (code.Set k e) ≡ record (expression_size e) { reach = max (k + 1) (expression_size e).reach }
size_set k e = ap statement_size (sym (code.rolls-Set k e)) ∙ fold-roll-Statement Size statement_size_step (Statement-F.Set k e)

pub size_store : (w : Width) (e v : Expression) → statement_size (code.Store w e v) ≡ record { bytes = 26 + (expression_size e).bytes + (expression_size v).bytes; reach = max (expression_size e).reach (expression_size v).reach; depth = max (expression_size e).depth (1 + (expression_size v).depth); arguments = 0 }
size_store w e v = ap statement_size (sym (code.rolls-Store w e v)) ∙ fold-roll-Statement Size statement_size_step (Statement-F.Store w e v)

pub size_call : (to : Option ℕ) (callee : ℕ) (es : List Expression) → statement_size (code.Call to callee es) ≡ record (arguments_size es) { bytes = 24 + (arguments_size es).bytes; reach = max (result_reach to) (arguments_size es).reach }
size_call to callee es = ap statement_size (sym (code.rolls-Call to callee es)) ∙ fold-roll-Statement Size statement_size_step (Statement-F.Call to callee es)

pub size_if : (e : Expression) (this that : List Statement) → statement_size (code.If e this that) ≡ and (record (expression_size e) { bytes = 28 + (expression_size e).bytes }) (and (body_size this) (body_size that))
size_if e this that = ap statement_size (sym (code.rolls-If e this that)) ∙ fold-roll-Statement Size statement_size_step (Statement-F.If e this that)

pub size_loop : (body : List Statement) → statement_size (code.Loop body) ≡ and (of_bytes 5) (body_size body)
size_loop body = ap statement_size (sym (code.rolls-Loop body)) ∙ fold-roll-Statement Size statement_size_step (Statement-F.Loop body)

pub size_block : (body : List Statement) → statement_size (code.Block body) ≡ body_size body
size_block body = ap statement_size (sym (code.rolls-Block body)) ∙ fold-roll-Statement Size statement_size_step (Statement-F.Block body)

pub size_exit : (n : ℕ) → statement_size (code.Exit n) ≡ of_bytes 0
size_exit n = ap statement_size (sym (code.rolls-Exit n)) ∙ fold-roll-Statement Size statement_size_step (Statement-F.Exit n)

pub size_return : (e : Option Expression) → statement_size (code.Return e) ≡ value_size e
size_return e = ap statement_size (sym (code.rolls-Return e)) ∙ fold-roll-Statement Size statement_size_step (Statement-F.Return e)
