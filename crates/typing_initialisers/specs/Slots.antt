-- The parts of an array or a struct that the items of a list fill, one after another (C11, 6.7.9, 17, of the subset), and the arrays
-- that take a string (C11, 6.7.9, 14).
use Rattle.std.specs.Prelude.{ℕ, ◌+◌, ◌*◌, Bool, true, false, cond, ◌&&◌, nat_lt, nat_le, List, [], ◌∷◌, ◌++◌, length, Option, Some, None, unwrap_or}
use Rattle.std.specs.Option.{option_map, option_map_or}
use Rattle.typing_types.specs.declared.class.Integer.TheVariants as integer
use Rattle.typing_types.specs.declared.class.Class.{Class}
use Rattle.typing_types.specs.declared.class.Class.TheVariants as class
use Rattle.typing_types.specs.Laid.{Laid}
use Rattle.typing_types.specs.Types.{Derived, class_of, element_of, length_of}
use Rattle.typing_scopes.specs.declared.entity.Member.{Member}
use Rattle.typing_scopes.specs.Visible.{Visible}
use Rattle.typing_scopes.specs.Names.{member_at}
use Rattle.typing_expressions.specs.Conversions.{needed_size}
use Rattle.typing_initialisers.specs.declared.slots.Slot.{Slot}
use Rattle.typing_initialisers.specs.declared.slots.Slots.{Slots}
use Rattle.typing_initialisers.specs.declared.slots.Slots.TheVariants as slots

-- an array whose length is not known has room for all
abbrev pub has_room : Option ℕ → ℕ → Bool
has_room length index = option_map_or (λ n. nat_lt index n) length true

abbrev pub slot : Derived → ℕ → Slot
slot t at = record { ctype = t; at = at }

-- elements whose size is not known have none here: then the object's declarator breaks a rule before its initialiser
abbrev pub elements : List (Option Laid) → Derived → ℕ → Derived → Slots
elements layouts t at element = slots.Elements element (unwrap_or (needed_size layouts element) 0) (length_of t) at

abbrev pub slots_at : Visible → Class → Derived → ℕ → Option Slots
slots_at scope class.Array t at = option_map (elements scope.layouts t at) (element_of t)
slots_at scope (class.Struct tag) t at = Some (slots.Members tag at)
slots_at scope c t at = None

-- the parts of an object of this type at this place; a scalar has none
abbrev pub slots_of : Visible → Derived → ℕ → Option Slots
slots_of scope t at = slots_at scope (class_of t) t at

-- the part of this number, if there is one
abbrev pub slot_in : Visible → Slots → ℕ → Option Slot
slot_in scope (slots.Elements element size length at) index = cond (has_room length index) (Some (slot element (at + index * size))) None
slot_in scope (slots.Members tag at) index = option_map (λ (m : Member). slot m.ctype (at + m.offset)) (member_at scope tag index)

-- `char` and `unsigned char`
abbrev pub is_character : Class → Bool
is_character (class.Integer integer.Char) = true
is_character (class.Integer integer.UnsignedChar) = true
is_character c = false

abbrev pub is_array : Class → Bool
is_array class.Array = true
is_array c = false

abbrev pub has_characters : Derived → Bool
has_characters t = option_map_or (λ e. is_character (class_of e)) (element_of t) false

-- an array of characters takes a string that fits it without its closing zero
abbrev pub takes_string : Derived → List ℕ → Bool
takes_string t bytes = is_array (class_of t) && (has_characters t && option_map_or (λ n. nat_le (length bytes) n) (length_of t) true)

-- the closing zero is one of the string's bytes where there is room for it, or where the array's length is not known
abbrev pub string_bytes : Derived → List ℕ → List ℕ
string_bytes t bytes = cond (has_room (length_of t) (length bytes)) (bytes ++ 0 ∷ []) bytes
