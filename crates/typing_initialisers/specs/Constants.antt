-- The constant that an item gives to an object of a scalar type (C11, 6.6 and 6.7.9, of the subset).
use Rattle.std.specs.Prelude.{ℕ, ◌%◌, Option, Some, None}
use Rattle.std.specs.Option.{option_and_then}
use Rattle.typing_types.specs.declared.class.Integer.{Integer}
use Rattle.typing_types.specs.declared.class.Integer.TheVariants as integer
use Rattle.typing_types.specs.declared.class.Class.{Class}
use Rattle.typing_types.specs.declared.class.Class.TheVariants as class
use Rattle.typing_types.specs.Types.{Derived, class_of}
use Rattle.clight_unit.specs.declared.statement.Value.{Value}
use Rattle.typing_initialisers.specs.declared.constant_integer.ConstantInteger as integers
use Rattle.typing_initialisers.specs.declared.constant_integer.ConstantInteger.TheVariants as known
use Rattle.typing_initialisers.specs.declared.constant_pointer.ConstantPointer as pointers
use Rattle.typing_initialisers.specs.declared.constant_pointer.ConstantPointer.TheVariants as pointer
use Rattle.typing_initialisers.specs.ConstantExpressions.{integer_of, pointer_of}
use Rattle.typing_expressions.specs.declared.node.Node.{Node}
use Rattle.typing_expressions.specs.Uses.{assigned}
use Rattle.typing_initialisers.specs.declared.constant.Constant.{Constant}
use Rattle.typing_initialisers.specs.declared.constant.Constant.TheVariants as constant

-- a `char` keeps the low byte
abbrev pub integer_at : Integer → ℕ → Constant
integer_at integer.Char n = constant.Byte (n % 256)
integer_at integer.UnsignedChar n = constant.Byte (n % 256)
integer_at i n = constant.Word n

-- an integer that is no constant, or goes wrong, gives none
abbrev pub integer_constant : Integer → integers.ConstantInteger → Option Constant
integer_constant i (known.Known n) = Some (integer_at i n)
integer_constant i c = None

abbrev pub pointer_constant : Option pointers.ConstantPointer → Option Constant
pointer_constant None = None
pointer_constant (Some pointer.Null) = Some (constant.Word 0)
pointer_constant (Some (pointer.At to)) = Some (constant.Pointer to)

abbrev pub constant_at : Class → Value → Option Constant
constant_at (class.Integer i) v = integer_constant i (integer_of v.expression)
constant_at class.Pointer v = pointer_constant (pointer_of v.expression)
constant_at c v = None

-- what may be assigned to an object of the type, and is constant
abbrev pub constant_of : Derived → Node → Option Constant
constant_of t n = option_and_then (constant_at (class_of t)) (assigned t n)
