-- What a typed unit shows to others, and what it declares of its symbols (C11, 6.2.2, of the subset).
use Rattle.std.specs.Prelude.{ℕ, ◌+◌, Bool, true, false, cond, codes, List, [], ◌∷◌, ◌++◌, map, length, replicate, position, slice_get, set, unwrap_or}
use Rattle.std.specs.Option.{option_map_or, option_and_then}
use Rattle.std.specs.Str.{bytes_eq}
use Rattle.cc_base.specs.declared.face.Face.{Face}
use Rattle.cc_base.specs.declared.face.Def.{Def}
use Rattle.cc_base.specs.declared.face.Wanted.{Wanted}
use Rattle.cc_base.specs.declared.face.SymbolName.{SymbolName}
use Rattle.text_grammar.specs.declared.tree.Head.{Head}
use Rattle.text_grammar.specs.declared.tree.External.{External}
use Rattle.text_grammar.specs.declared.tree.External.TheVariants as top
use Rattle.typing_symbols.specs.Names.{is_among}
use Rattle.typing_symbols.specs.Table.{Table}
use Rattle.typing_scopes.specs.declared.entity.Entity.{Entity}
use Rattle.typing_scopes.specs.declared.entity.Entity.TheVariants as entity
use Rattle.typing_scopes.specs.declared.entity.Declared.{Declared}
use Rattle.typing_scopes.specs.Visible.{Visible}
use Rattle.typing_scopes.specs.Names.{declared_of}
use Rattle.clight_unit.specs.declared.function.Function.{Function}
use Rattle.clight_unit.specs.declared.signature.ValueBase.TheVariants as base
use Rattle.clight_unit.specs.declared.signature.ValueType.{ValueType}
use Rattle.clight_unit.specs.declared.signature.Callee.{Callee}
use Rattle.clight_unit.specs.declared.signature.Callee.TheVariants as callee
use Rattle.typing_declarations.specs.Declarators.{declared_size}
use Rattle.typing_declarations.specs.Objects.{object_type}
use Rattle.typing_bodies.specs.Signatures.{signature_of}
use Rattle.typing_units.specs.Objects.{is_local_symbol}

-- The names of the symbols, from a number on

abbrev pub symbol_names : Table → ℕ → List (List ℕ) → List SymbolName
symbol_names symbols k [] = []
symbol_names symbols k (n ∷ ns) = record { name = n; local = is_local_symbol symbols k } ∷ symbol_names symbols (k + 1) ns

-- The stack that calls need, by the number of the function's symbol; 0 of other symbols

abbrev pub with_need : List ℕ → Function → List ℕ
with_need needs f = set needs f.symbol f.need

abbrev pub with_needs : List ℕ → List Function → List ℕ
with_needs needs [] = needs
with_needs needs (f ∷ fs) = with_needs (with_need needs f) fs

abbrev pub needs_of : Table → List Function → List ℕ
needs_of symbols fs = with_needs (replicate (length symbols.names) 0) fs

-- What the unit's declarations say of a name behind the last of them

abbrev pub is_function : Entity → Bool
is_function (entity.Function p) = true
is_function _ = false

abbrev pub names_function : Visible → List ℕ → Bool
names_function scope name = option_map_or (λ (d : Declared). is_function d.entity) (declared_of scope name) false

-- the size of the object that is declared, where that is known; 0 of a function, of an array of unknown length and of what is not
-- declared
abbrev pub stated_size : Visible → List ℕ → ℕ
stated_size scope name = unwrap_or (option_and_then (declared_size scope) (option_and_then (λ (d : Declared). object_type d.entity) (declared_of scope name))) 0

-- The face: definitions that other units see, and uses of what the unit does not define, in the order of the symbols

abbrev pub def_of : Visible → ℕ → List ℕ → Def
def_of scope need name = record { name = name; function = names_function scope name; size = stated_size scope name; need = need }

abbrev pub wanted_of : Visible → List ℕ → Wanted
wanted_of scope name = record { name = name; stated = stated_size scope name; shared = false }

abbrev pub face_with : Table → Visible → List ℕ → Face → ℕ → List ℕ → Face
face_with symbols scope needs face k name =
    cond (is_local_symbol symbols k) face
    (cond (is_among name symbols.defined)
    (record face { defs = face.defs ++ def_of scope (unwrap_or (slice_get needs k) 0) name ∷ [] })
    (record face { uses = face.uses ++ wanted_of scope name ∷ [] }))

abbrev pub face_from : Table → Visible → List ℕ → Face → ℕ → List (List ℕ) → Face
face_from symbols scope needs face k [] = face
face_from symbols scope needs face k (n ∷ ns) = face_from symbols scope needs (face_with symbols scope needs face k n) (k + 1) ns

abbrev pub face_of : Table → Visible → List Function → Face
face_of symbols scope fs = face_from symbols scope (needs_of symbols fs) (record { defs = []; uses = [] }) 0 symbols.names

-- What the unit declares of its symbols: a function's type by its declarations, which say the same. The built-in functions are known
-- without one.

abbrev pub int : ValueType
int = record { base = base.Int; stars = 0 }

abbrev pub void : ValueType
void = record { base = base.Void; stars = 0 }

abbrev pub undeclared : List ℕ → Callee
undeclared name =
    cond (bytes_eq name (codes "getbyte")) (callee.Function (record { result = int; parameters = [] }))
    (cond (bytes_eq name (codes "putbyte")) (callee.Function (record { result = void; parameters = int ∷ [] })) callee.Object)

abbrev pub with_head : Table → List Callee → Head → List Callee
with_head symbols cs head = option_map_or (λ k. set cs k (callee.Function (signature_of head))) (position (bytes_eq head.name.bytes) symbols.names) cs

abbrev pub with_external : Table → List Callee → External → List Callee
with_external symbols cs (top.Struct tag members) = cs
with_external symbols cs (top.Objects l base items) = cs
with_external symbols cs (top.Prototype head) = with_head symbols cs head
with_external symbols cs (top.Function head locals body) = with_head symbols cs head

abbrev pub with_externals : Table → List Callee → List External → List Callee
with_externals symbols cs [] = cs
with_externals symbols cs (x ∷ xs) = with_externals symbols (with_external symbols cs x) xs

abbrev pub callees_of : Table → List External → List Callee
callees_of symbols tree = with_externals symbols (map undeclared symbols.names) tree
