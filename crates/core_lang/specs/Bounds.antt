-- Bounds of a unit of Core: how much code it may come to, and how much of the stack a call of each function may take. The bytes are
-- those of the longest spelling, where each temporary lies in memory and each piece of code ends with a jump (this project's own
-- rule).
use Rattle.std.specs.Prelude.{ℕ, ◌+◌, ◌*◌, max, List, [], ◌∷◌, map, slice_get, Option, Some, None}
use Rattle.std.specs.Option.{option_map_or}
use Rattle.clight_sem.specs.Bounds.{total, whole_words}
use Rattle.core_lang.specs.declared.syntax.Expression.{Expression}
use Rattle.core_lang.specs.declared.syntax.Expression.TheOpen.{Expression-F}
use Rattle.core_lang.specs.declared.syntax.Expression.TheFolds.{fold-Expression}
use Rattle.core_lang.specs.declared.syntax.Statement.{Statement}
use Rattle.core_lang.specs.declared.syntax.Statement.TheOpen.{Statement-F}
use Rattle.core_lang.specs.declared.syntax.Statement.TheFolds.{fold-Statement}
use Rattle.core_lang.specs.declared.syntax.Function.{Function}
use Rattle.core_lang.specs.declared.syntax.CoreUnit.{CoreUnit}

-- the bytes of code; the first number above those of the temporaries; how many temporaries more an expression takes while it is
-- found, at most; and the most arguments of a call
pub record Size : Type 0 where
  pub bytes : ℕ
  pub reach : ℕ
  pub depth : ℕ
  pub arguments : ℕ

abbrev pub of_bytes : ℕ → Size
of_bytes n = record { bytes = n; reach = 0; depth = 0; arguments = 0 }

-- one part of the code and another
abbrev pub and : Size → Size → Size
and x y = record { bytes = x.bytes + y.bytes; reach = max x.reach y.reach; depth = max x.depth y.depth; arguments = max x.arguments y.arguments }

abbrev pub all_sizes : List Size → Size
all_sizes [] = of_bytes 0
all_sizes (x ∷ xs) = and x (all_sizes xs)

-- Expressions: the left operand comes into the first temporary that is free, and the right one into the next

abbrev pub leaf : ℕ → Size
leaf n = record { bytes = n; reach = 0; depth = 1; arguments = 0 }

abbrev pub expression_size_step : Expression-F Size → Size
expression_size_step (Expression-F.Constant n) = leaf 17
expression_size_step (Expression-F.Temporary k) = record { bytes = 19; reach = k + 1; depth = 1; arguments = 0 }
expression_size_step (Expression-F.Address symbol offset) = leaf 17
expression_size_step (Expression-F.Local index) = leaf 19
expression_size_step (Expression-F.Load w x) = record { bytes = 26 + x.bytes; reach = x.reach; depth = x.depth; arguments = 0 }
expression_size_step (Expression-F.Unary op x) = record { bytes = 57 + x.bytes; reach = x.reach; depth = max x.depth 2; arguments = 0 }
expression_size_step (Expression-F.Binary op x y) = record { bytes = 40 + x.bytes + y.bytes; reach = max x.reach y.reach; depth = max x.depth (1 + y.depth); arguments = 0 }

abbrev pub expression_size : Expression → Size
expression_size = fold-Expression Size expression_size_step

-- arguments, each in a temporary of its own
abbrev pub arguments_size : List Expression → Size
arguments_size [] = of_bytes 0
arguments_size (e ∷ es) =
    let x = expression_size e in
    let r = arguments_size es in
    record { bytes = 16 + x.bytes + r.bytes; reach = max x.reach r.reach; depth = max x.depth (1 + r.depth); arguments = 1 + r.arguments }

-- Statements

abbrev pub result_reach : Option ℕ → ℕ
result_reach None = 0
result_reach (Some k) = k + 1

abbrev pub value_size : Option Expression → Size
value_size None = of_bytes 48
value_size (Some e) = let x = expression_size e in record x { bytes = 48 + x.bytes }

abbrev pub statement_size_step : Statement-F Size → Size
statement_size_step (Statement-F.Set k e) = let x = expression_size e in record x { reach = max (k + 1) x.reach }
statement_size_step (Statement-F.Store w e v) =
    let x = expression_size e in
    let y = expression_size v in
    record { bytes = 26 + x.bytes + y.bytes; reach = max x.reach y.reach; depth = max x.depth (1 + y.depth); arguments = 0 }
statement_size_step (Statement-F.Call to callee es) = let r = arguments_size es in record r { bytes = 24 + r.bytes; reach = max (result_reach to) r.reach }
statement_size_step (Statement-F.If e this that) = and (let x = expression_size e in record x { bytes = 28 + x.bytes }) (and (all_sizes this) (all_sizes that))
statement_size_step (Statement-F.Loop body) = and (of_bytes 5) (all_sizes body)
statement_size_step (Statement-F.Block body) = all_sizes body
statement_size_step (Statement-F.Exit n) = of_bytes 0
statement_size_step (Statement-F.Return e) = value_size e

abbrev pub statement_size : Statement → Size
statement_size = fold-Statement Size statement_size_step

abbrev pub body_size : List Statement → Size
body_size ss = all_sizes (map statement_size ss)

-- Functions and units

-- with what is done at the start and at the end of a call
abbrev pub function_bytes : Function → ℕ
function_bytes f = 112 + 16 * f.parameters + (body_size f.body).bytes

-- the return address, four saved registers, the value at the end of the body, the temporaries and the arguments of calls, a word each,
-- and the locals
abbrev pub function_hold : Function → ℕ
function_hold f = 24 + 4 * (max f.parameters (body_size f.body).reach + (body_size f.body).depth + (body_size f.body).arguments) + whole_words f.locals

abbrev pub functions_bulk : List Function → ℕ
functions_bulk [] = 0
functions_bulk (f ∷ fs) = function_bytes f + functions_bulk fs

-- how much code the unit may come to, in bytes
abbrev pub bulk : CoreUnit → ℕ
bulk u = functions_bulk u.functions

-- how much of the stack a call of the function of this number may take, in bytes
abbrev pub hold : CoreUnit → ℕ → ℕ
hold u index = option_map_or function_hold (slice_get u.functions index) 0
