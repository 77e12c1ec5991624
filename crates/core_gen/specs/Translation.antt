-- What Core has for the source's expressions and statements.
use Rattle.std.specs.Prelude.{ℕ, ◌+◌, ◌*◌, ◌%◌, min, List, [], ◌∷◌, ◌++◌, Option, Some, None}
use Rattle.cc_base.specs.Words.{add32}
use Rattle.block_mem.specs.declared.operator.Op.{Op}
use Rattle.block_mem.specs.declared.operator.Op.TheVariants.{Keep, PtrAdd}
use Rattle.clight_unit.specs.declared.expression.Expression.{Expression}
use Rattle.clight_unit.specs.declared.expression.Expression.TheOpen.{Expression-F, Test-F, Place-F}
use Rattle.clight_unit.specs.declared.expression.Expression.TheFolds.{fold-Expression, fold-Test, fold-Place}
use Rattle.clight_unit.specs.declared.expression.Test.{Test}
use Rattle.clight_unit.specs.declared.expression.Place.{Place}
use Rattle.clight_unit.specs.declared.statement.Statement.{Statement}
use Rattle.clight_unit.specs.declared.statement.Statement.TheOpen.{Statement-F, Arm-F}
use Rattle.clight_unit.specs.declared.statement.Statement.TheFolds.{fold-Statement, fold-Arm}
use Rattle.clight_unit.specs.declared.statement.Arm.{Arm}
use Rattle.clight_unit.specs.declared.statement.Simple.{Simple}
use Rattle.clight_unit.specs.declared.statement.Simple.TheVariants as simple
use Rattle.clight_unit.specs.declared.statement.Assignment.{Assignment}
use Rattle.clight_unit.specs.declared.statement.Call.{Call}
use Rattle.clight_unit.specs.declared.statement.Target.{Target}
use Rattle.clight_unit.specs.declared.statement.Target.TheVariants as target
use Rattle.clight_unit.specs.declared.statement.Value.{Value as Converted}
use Rattle.clight_sem.specs.Bounds.{Compared, Integer, Pointer, Another, compared_by}
use Rattle.core_lang.specs.declared.syntax.Expression.{Expression as Core, out-Expression}
use Rattle.core_lang.specs.declared.syntax.Expression.TheOpen as parts
use Rattle.core_lang.specs.declared.syntax.Expression.TheVariants as core
use Rattle.core_lang.specs.declared.syntax.Statement.{Statement as Code}
use Rattle.core_lang.specs.declared.syntax.Statement.TheVariants as code
use Rattle.core_gen.specs.declared.operands.Operand.{Operand}
use Rattle.core_gen.specs.declared.operands.Operands.{Operands}

-- what is made of an expression: statements that go before, the value behind them, and the first temporary that is free for what
-- else is found before the value is used
pub record Made : Type 0 where
  pub hoists : List Code
  pub value : Core
  pub next : ℕ

-- the same of arguments
pub record AllMade : Type 0 where
  pub hoists : List Code
  pub values : List Core
  pub next : ℕ

-- what is left where the statements stand in a list of their own
abbrev pub operand_of : Made → Operand
operand_of m = record { value = m.value; next = m.next }

abbrev pub operands_of : AllMade → Operands
operands_of m = record { values = m.values; next = m.next }

-- what is made where this temporary and those above it are free
abbrev pub Maker : Type 0
Maker = ℕ → Made

abbrev pub plain : Core → Maker
plain e n = record { hoists = []; value = e; next = n }

abbrev pub one_of : (Core → Core) → Made → Made
one_of f m = record m { value = f m.value }

abbrev pub two_of : (Core → Core → Core) → Made → Made → Made
two_of f m k = record { hoists = m.hoists ++ k.hoists; value = f m.value k.value; next = k.next }

abbrev pub set_to : ℕ → ℕ → List Code
set_to n c = code.Set n (core.Constant c) ∷ []

-- Tests. What is made of a test is its operator and what is made of its value

pub record TestMaker : Type 0 where
  pub differs : Op
  pub value : Maker

abbrev pub compared : Op → Core → Core
compared op e = core.Binary op e (core.Constant 0)

-- what is not 0 where the test holds: an integer is so itself
abbrev pub condition_by : Compared → Op → Core → Core
condition_by Integer op e = e
condition_by Pointer op e = compared op e
condition_by Another op e = compared op e

abbrev pub condition : Op → Core → Core
condition op e = condition_by (compared_by op) op e

abbrev pub condition_made : TestMaker → Maker
condition_made t n = one_of (condition t.differs) (t.value n)

-- a temporary gets 1 where the test holds, and else 0. Both comparisons give just these
abbrev pub set_by : Compared → ℕ → Op → Core → Code
set_by Integer n op e = code.Set n (compared op e)
set_by Pointer n op e = code.Set n (compared op e)
set_by Another n op e = code.If (compared op e) (set_to n 1) (set_to n 0)

abbrev pub decided : ℕ → Op → Made → List Code
decided n op m = m.hoists ++ set_by (compared_by op) n op m.value ∷ []

abbrev pub decided_made : TestMaker → ℕ → List Code
decided_made t n = decided n t.differs (t.value n)

-- the second test stands where the first does not decide. Both may use the same temporaries, the result's too
abbrev pub both_of : ℕ → Made → List Code → Made
both_of n a second = record { hoists = a.hoists ++ code.If a.value second (set_to n 0) ∷ []; value = core.Temporary n; next = n + 1 }

abbrev pub either_of : ℕ → Made → List Code → Made
either_of n a second = record { hoists = a.hoists ++ code.If a.value (set_to n 1) second ∷ []; value = core.Temporary n; next = n + 1 }

-- Places. A pointer is moved; the address of an object takes the offset up (the offset wraps)

abbrev pub moved_by : parts.Expression-F Core → ℕ → Core → Core
moved_by (parts.Expression-F.Address symbol plus) offset e = core.Address symbol (add32 plus offset)
moved_by x offset e = core.Binary (PtrAdd 1) e (core.Constant offset)

abbrev pub moved : ℕ → Core → Core
moved offset e = moved_by (out-Expression e) offset e

-- Operators. The address of an object takes a constant number of elements up (both the number of bytes and the offset wrap)

-- the size of an element, where the operator adds to a pointer
abbrev pub element_of : Op → Option ℕ
element_of (PtrAdd size) = Some size
element_of op = None

-- how many bytes elements of this size take, where their number is a constant
abbrev pub bytes_by : Option ℕ → parts.Expression-F Core → Option ℕ
bytes_by (Some size) (parts.Expression-F.Constant number) = Some ((number * size) % 4294967296)
bytes_by size x = None

abbrev pub operated_by : Option ℕ → parts.Expression-F Core → Op → Core → Core → Core
operated_by (Some bytes) (parts.Expression-F.Address symbol plus) op x y = core.Address symbol (add32 plus bytes)
operated_by bytes z op x y = core.Binary op x y

abbrev pub operated : Op → Core → Core → Core
operated op x y = operated_by (bytes_by (element_of op) (out-Expression y)) (out-Expression x) op x y

-- the source's temporaries are those below the first that is free. A number above these is in no checked unit; it has no value in
-- the source, and stands for the first free one
abbrev pub expression_gen : Expression-F Maker Maker TestMaker → Maker
expression_gen (Expression-F.Constant c) n = plain (core.Constant c) n
expression_gen (Expression-F.Temporary k) n = plain (core.Temporary (min k n)) n
expression_gen (Expression-F.Load w p) n = one_of (core.Load w) (p n)
expression_gen (Expression-F.Decayed p) n = p n
expression_gen (Expression-F.Address p) n = p n
expression_gen (Expression-F.Unary op x) n = one_of (core.Unary op) (x n)
expression_gen (Expression-F.Binary op x y) n = two_of (operated op) (x n) (y (x n).next)
expression_gen (Expression-F.Both x y) n = both_of n (condition_made x n) (decided_made y n)
expression_gen (Expression-F.Either x y) n = either_of n (condition_made x n) (decided_made y n)

abbrev pub place_gen : Place-F Maker Maker TestMaker → Maker
place_gen (Place-F.Object symbol) n = plain (core.Address symbol 0) n
place_gen (Place-F.Local index) n = plain (core.Local index) n
place_gen (Place-F.Deref e) n = e n
place_gen (Place-F.Index size e i) n = two_of (operated (PtrAdd size)) (e n) (i (e n).next)
place_gen (Place-F.Member offset p) n = one_of (moved offset) (p n)
place_gen (Place-F.Arrow offset e) n = one_of (moved offset) (e n)

abbrev pub test_gen : Test-F Maker Maker TestMaker → TestMaker
test_gen t = record { differs = t.differs; value = t.value }

abbrev pub made_of : Expression → Maker
made_of = fold-Expression Maker Maker TestMaker expression_gen place_gen test_gen

abbrev pub place_made : Place → Maker
place_made = fold-Place Maker Maker TestMaker expression_gen place_gen test_gen

abbrev pub test_made : Test → TestMaker
test_made = fold-Test Maker Maker TestMaker expression_gen place_gen test_gen

-- what goes before a test, and what is not 0 where it holds
abbrev pub condition_of : Test → Maker
condition_of t n = condition_made (test_made t) n

-- what sets the temporary of this number to 1 where the test holds, and else to 0
abbrev pub second_of : Test → ℕ → List Code
second_of t n = decided_made (test_made t) n

-- Assignments and calls. `base` is the first temporary that no parameter and no `register` local has, and stands for each number
-- above

abbrev pub converted_by : Op → Core → Core
converted_by Keep e = e
converted_by op e = core.Unary op e

abbrev pub assigned_to : Target → ℕ → Converted → List Code
assigned_to (target.Temporary k) base v = (made_of v.expression base).hoists ++ code.Set (min k base) (converted_by v.conversion (made_of v.expression base).value) ∷ []
assigned_to (target.Place w p) base v =
    let q = place_made p base in
    let m = made_of v.expression q.next in
    q.hoists ++ (m.hoists ++ code.Store w q.value (converted_by v.conversion m.value) ∷ [])

abbrev pub assignment : ℕ → Assignment → List Code
assignment base a = assigned_to a.target base a.value

-- what is made of some arguments, and then of others
abbrev pub joined : List Code → List Core → AllMade → AllMade
joined hoists values m = record { hoists = hoists ++ m.hoists; values = values ++ m.values; next = m.next }

-- arguments, from left to right
abbrev pub all_made : List Converted → ℕ → AllMade
all_made [] n = record { hoists = []; values = []; next = n }
all_made (v ∷ vs) n =
    let m = made_of v.expression n in
    let k = all_made vs m.next in
    record { hoists = m.hoists ++ k.hoists; values = converted_by v.conversion m.value ∷ k.values; next = k.next }

-- what stands behind a call, where the result of the call is in a temporary, and its place in the first one
abbrev pub finish : ℕ → ℕ → Op → Target → List Code
finish base result conversion (target.Temporary k) = code.Set (min k base) (converted_by conversion (core.Temporary result)) ∷ []
finish base result conversion (target.Place w p) = code.Store w (core.Temporary base) (converted_by conversion (core.Temporary result)) ∷ []

-- the place of a result is found first and kept
abbrev pub place_kept : ℕ → Option Target → List Code
place_kept base None = []
place_kept base (Some (target.Temporary k)) = []
place_kept base (Some (target.Place w p)) = (place_made p base).hoists ++ code.Set base (place_made p base).value ∷ []

-- the temporary that takes a result as it comes: the target, where it is one of the very type of the result
abbrev pub own_place : Option Target → Op → Option ℕ
own_place (Some (target.Temporary k)) Keep = Some k
own_place t conversion = None

abbrev pub called_by : Option ℕ → ℕ → Op → Option Target → ℕ → List Core → List Code
called_by (Some k) base conversion t callee values = code.Call (Some (min k base)) callee values ∷ []
called_by None base conversion None callee values = code.Call None callee values ∷ []
called_by None base conversion (Some t) callee values = code.Call (Some (base + 1)) callee values ∷ finish base (base + 1) conversion t

abbrev pub called : ℕ → Op → Option Target → ℕ → List Core → List Code
called base conversion t callee values = called_by (own_place t conversion) base conversion t callee values

abbrev pub call : ℕ → Call → List Code
call base c = let m = all_made c.arguments (base + 1) in place_kept base c.target ++ (m.hoists ++ called base c.conversion c.target c.callee m.values)

abbrev pub simple_code : ℕ → Simple → List Code
simple_code base (simple.Assign a) = assignment base a
simple_code base (simple.Call c) = call base c

abbrev pub simple_if_any : ℕ → Option Simple → List Code
simple_if_any base None = []
simple_if_any base (Some x) = simple_code base x

-- Statements. `depth` is how many blocks stand between a statement and the innermost loop's body

abbrev pub Coder : Type 0
Coder = ℕ → List Code

abbrev pub coded : List Coder → Coder
coded [] depth = []
coded (f ∷ fs) depth = f depth ++ coded fs depth

abbrev pub coded_if_any : Option (List Coder) → Coder
coded_if_any None depth = []
coded_if_any (Some fs) depth = coded fs depth

-- the loop is left where the test does not hold
abbrev pub tested : ℕ → Test → List Code
tested base t = (condition_of t base).hoists ++ code.If (condition_of t base).value [] (code.Exit 0 ∷ []) ∷ []

abbrev pub tested_if_any : ℕ → Option Test → List Code
tested_if_any base None = []
tested_if_any base (Some t) = tested base t

abbrev pub while_round : ℕ → Test → List Code → List Code
while_round base t body = tested base t ++ code.Block body ∷ []

abbrev pub do_round : ℕ → Test → List Code → List Code
do_round base t body = code.Block body ∷ tested base t

abbrev pub for_round : ℕ → Option Test → Option Simple → List Code → List Code
for_round base t step body = tested_if_any base t ++ code.Block body ∷ simple_if_any base step

pub record ArmCode : Type 0 where
  pub test : Test
  pub body : Coder

abbrev pub arms_code : ℕ → ℕ → List ArmCode → List Code → List Code
arms_code base depth [] last = last
arms_code base depth (a ∷ arms) last = (condition_of a.test base).hoists ++ code.If (condition_of a.test base).value (a.body (depth + 1) ++ code.Exit 0 ∷ []) [] ∷ arms_code base depth arms last

abbrev pub return_code : ℕ → Option Converted → List Code
return_code base None = code.Return None ∷ []
return_code base (Some v) = (made_of v.expression base).hoists ++ code.Return (Some (converted_by v.conversion (made_of v.expression base).value)) ∷ []

abbrev pub statement_gen : ℕ → Statement-F Coder ArmCode → Coder
statement_gen base Statement-F.Empty depth = []
statement_gen base (Statement-F.Initialise a) depth = assignment base a
statement_gen base (Statement-F.Simple x) depth = simple_code base x
statement_gen base (Statement-F.Block body) depth = coded body depth
statement_gen base (Statement-F.If arms last) depth = code.Block (arms_code base depth arms (coded_if_any last (depth + 1))) ∷ []
statement_gen base (Statement-F.While t body) depth = code.Block (code.Loop (while_round base t (coded body 0)) ∷ []) ∷ []
statement_gen base (Statement-F.Do body t) depth = code.Block (code.Loop (do_round base t (coded body 0)) ∷ []) ∷ []
statement_gen base (Statement-F.For first t step body) depth = code.Block (simple_if_any base first ++ code.Loop (for_round base t step (coded body 0)) ∷ []) ∷ []
statement_gen base Statement-F.Break depth = code.Exit (depth + 1) ∷ []
statement_gen base Statement-F.Continue depth = code.Exit depth ∷ []
statement_gen base (Statement-F.Return v) depth = return_code base v

abbrev pub arm_gen : ℕ → Arm-F Coder ArmCode → ArmCode
arm_gen base a = record { test = a.test; body = coded a.body }

abbrev pub code_of : ℕ → Statement → Coder
code_of base = fold-Statement Coder ArmCode (statement_gen base) (arm_gen base)

abbrev pub arm_code : ℕ → Arm → ArmCode
arm_code base = fold-Arm Coder ArmCode (statement_gen base) (arm_gen base)
