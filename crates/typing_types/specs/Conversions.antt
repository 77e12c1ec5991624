-- Which values are cast and assigned (C11, 6.5.4 and 6.5.16.1, of the subset).
use Rattle.std.specs.Prelude.{Bool, ◌&&◌, ◌||◌}
use Rattle.typing_types.specs.declared.operator.Operand.{Operand}
use Rattle.typing_types.specs.Types.{Derived}
use Rattle.typing_types.specs.Same.{same_type}
use Rattle.typing_types.specs.Operators.{is_integer, is_pointer, is_void_pointer}

-- an integer to an integer, a pointer to a pointer, the literal 0 to a pointer
abbrev pub casts : Derived → Operand → Bool
casts to x = (is_integer to && is_integer x.ctype) || (is_pointer to && (is_pointer x.ctype || x.is_null))

-- a pointer takes one of its own type, one to or from `void *`, and the literal 0
abbrev pub takes_pointer : Derived → Operand → Bool
takes_pointer to x = x.is_null || (is_pointer x.ctype && (same_type to x.ctype || (is_void_pointer to || is_void_pointer x.ctype)))

-- assignments, arguments, results and returns
abbrev pub assigns : Derived → Operand → Bool
assigns to x = (is_integer to && is_integer x.ctype) || (is_pointer to && takes_pointer to x)
