-- Typed units that say what items of the second form say.
use Rattle.std.specs.Prelude.{◌≡◌, ℕ, Bool, List, [], ◌∷◌, All, Contains, slice_get, codes, Option, Some, None}
use Rattle.block_mem.specs.declared.operator.Op.TheVariants.{Keep}
use Rattle.clight_unit.specs.declared.unit.ClightUnit.{ClightUnit as TypedUnit}
use Rattle.clight_unit.specs.declared.function.Function.{Function}
use Rattle.clight_unit.specs.declared.signature.Callee.TheVariants as callee
use Rattle.clight_unit.specs.declared.signature.Signature.{Signature}
use Rattle.clight_unit.specs.declared.signature.ValueBase.TheVariants as base
use Rattle.clight_unit.specs.declared.expression.Expression.TheVariants as expression
use Rattle.clight_unit.specs.declared.statement.Statement.{Statement}
use Rattle.clight_unit.specs.declared.statement.Statement.TheVariants as typed
use Rattle.clight_unit.specs.declared.statement.Simple.TheVariants as simple
use Rattle.clight_unit.specs.declared.statement.Value.{Value}
use Rattle.clight_sem.specs.Functions.{plain_type, putbyte_signature, function_name}
use Rattle.second_form.specs.declared.second_items.SmallStmt.{SmallStmt}
use Rattle.second_form.specs.declared.second_items.SmallStmt.TheVariants.{Put, Call, Return}
use Rattle.second_form.specs.declared.second_items.Item.{Item}
use Rattle.second_form.specs.SecondForm.{EndsReturning, reserved_words}
use Rattle.second_form.specs.SecondRun.{need_of}

-- `int f(void)`
abbrev pub int_void : Signature
int_void = record { result = plain_type base.Int; parameters = [] }

-- a symbol of the unit has this name, and the unit declares a function of this type under it
pub record HasSymbol (u : TypedUnit) (symbol : ℕ) (name : List ℕ) (type : Signature) : Type 0 where
  pub local : Bool
  pub named : slice_get u.symbol_names symbol ≡ Some (record { name = name; local = local })
  pub declared : slice_get u.callees symbol ≡ Some (callee.Function type)

-- a number as a value, and a call whose result goes nowhere
abbrev pub number : ℕ → Value
number n = record { conversion = Keep; expression = expression.Constant n }

abbrev pub call : ℕ → List Value → Statement
call symbol arguments = typed.Simple (simple.Call (record { target = None; conversion = Keep; callee = symbol; arguments = arguments }))

-- a statement of the typed unit says what one of the second form says
abbrev pub IsStatement : TypedUnit → SmallStmt → Statement → Type 0
IsStatement u (Put n) s = (symbol : ℕ) × HasSymbol u symbol (codes "putbyte") putbyte_signature × (s ≡ call symbol (number n ∷ []))
IsStatement u (Call name) s = (symbol : ℕ) × HasSymbol u symbol name int_void × (¬ Contains reserved_words name) × (s ≡ call symbol [])
IsStatement u (Return n) s = s ≡ typed.Return (Some (number n))

abbrev pub AreStatements : TypedUnit → List SmallStmt → List Statement → Type 0
AreStatements u [] ts = ts ≡ []
AreStatements u (s ∷ ss) [] = ⊥
AreStatements u (s ∷ ss) (t ∷ ts) = IsStatement u s t × AreStatements u ss ts

-- a function of the typed unit does what a body of the second form does
pub record Does (u : TypedUnit) (body : List SmallStmt) (f : Function) : Type 0 where
  pub type : f.signature ≡ int_void
  pub locals : f.locals ≡ []
  pub statements : AreStatements u body f.body
  pub ends : EndsReturning body
  pub need : f.need ≡ need_of body

-- and it has the name and the linkage of an item
pub record IsFunction (u : TypedUnit) (item : Item) (body : List SmallStmt) (f : Function) : Type 0 where
  pub named : function_name u f ≡ item.name
  pub static : f.is_static ≡ item.local
  pub does : Does u body f

-- the functions are those of the items that have a body, in their order
abbrev pub Bodied : TypedUnit → (List Function → Type 0) → Item → Option (List SmallStmt) → List Function → Type 0
Bodied u others item None fs = others fs
Bodied u others item (Some body) [] = ⊥
Bodied u others item (Some body) (f ∷ fs) = IsFunction u item body f × others fs

abbrev pub AreFunctions : TypedUnit → List Item → List Function → Type 0
AreFunctions u [] fs = fs ≡ []
AreFunctions u (item ∷ items) fs = Bodied u (AreFunctions u items) item item.body fs

-- no item has a name of the runtime
abbrev pub IsFree : Item → Type 0
IsFree item = ¬ Contains reserved_words item.name

-- the typed unit has no objects, and its functions are those of the items
pub record Mirrors (items : List Item) (u : TypedUnit) : Type 0 where
  pub globals : u.globals ≡ []
  pub functions : AreFunctions u items u.functions
  pub free : All IsFree items

abbrev pub AllMirror : List (List Item) → List TypedUnit → Type 0
AllMirror [] us = us ≡ []
AllMirror (items ∷ units) [] = ⊥
AllMirror (items ∷ units) (u ∷ us) = Mirrors items u × AllMirror units us
