-- The rules that a unit of any language keeps. They speak of what it brings beside its code, and of two bounds on its code (this
-- project's own limits; that local symbols stand first is the gABI's, "Symbol Table").
use Rattle.std.specs.Prelude.{◌≡◌, ◌≢◌, ◌≤◌, ◌<◌, ℕ, ◌+◌, ◌*◌, ◌/◌, ◌⊎◌, Bool, true, false, ◌||◌, cond, List, [], ◌∷◌, length, map, slice_get, All, codes}
use Rattle.std.specs.List.{list_any}
use Rattle.std.specs.Option.{option_map_or}
use Rattle.std.specs.Str.{bytes_eq}
use Rattle.cc_base.specs.Faces.{is_built_in}
use Rattle.cc_base.specs.declared.face.GlobalPart.{GlobalPart}
use Rattle.cc_base.specs.declared.face.SymbolName.{SymbolName}
use Rattle.cc_base.specs.declared.face.WordUse.{WordUse}
use Rattle.unit_names.specs.Names.{FunctionPart, NamedUnit, symbol_name}

-- Names

-- the bytes of all names together
abbrev pub bytes_of : List (List ℕ) → ℕ
bytes_of [] = 0
bytes_of (name ∷ names) = length name + bytes_of names

abbrev pub names_in : List SymbolName → List (List ℕ)
names_in symbols = map (λ (s : SymbolName). s.name) symbols

abbrev pub has_symbol : List SymbolName → List ℕ → Bool
has_symbol symbols name = list_any (bytes_eq name) (names_in symbols)

-- `_start`, `getbyte` and `putbyte` are not the unit's to define
abbrev pub is_reserved : List ℕ → Bool
is_reserved name = bytes_eq name (codes "_start") || is_built_in name

-- no local symbol stands behind another one
abbrev pub LocalsFirst : List SymbolName → Type 0
LocalsFirst [] = Unit
LocalsFirst (s ∷ ss) = (s.local ≡ false → All (λ (t : SymbolName). t.local ≡ false) ss) × LocalsFirst ss

-- how often a name stands in a list
abbrev pub times : List ℕ → List (List ℕ) → ℕ
times name [] = 0
times name (n ∷ ns) = cond (bytes_eq name n) 1 0 + times name ns

-- how many of its functions and objects have the name
abbrev pub defined_times : NamedUnit → List ℕ → ℕ
defined_times u name = times name (map (λ (f : FunctionPart). symbol_name u f.symbol) u.functions) + times name (map (λ (g : GlobalPart). g.name) u.globals)

-- no byte of a name is zero. A local symbol has one definition in the unit, and another one has a name, and one definition at most
pub record IsSymbol (u : NamedUnit) (s : SymbolName) : Type 0 where
  pub whole : All (λ byte. byte ≢ 0) s.name
  pub named : s.local ≡ false → s.name ≢ []
  pub defined : s.local ≡ true → defined_times u s.name ≡ 1
  pub once : defined_times u s.name ≤ 1

-- a function is named by one of the symbols
pub record IsFunction (u : NamedUnit) (f : FunctionPart) : Type 0 where
  pub known : f.symbol < length u.symbol_names
  pub free : is_reserved (symbol_name u f.symbol) ≡ false

-- Objects

-- initial pointers rise, the first at or behind this place, do not overlap, and end at the last byte at the latest
abbrev pub UsesRise : ℕ → ℕ → List WordUse → Type 0
UsesRise from size [] = Unit
UsesRise from size (w ∷ ws) = (from ≤ w.offset) × ((w.offset + 4 ≤ size) × UsesRise (w.offset + 4) size ws)

-- an object has bytes, of which the first are given. One that is shared can be written and is seen by other units
pub record IsObject (symbols : List SymbolName) (g : GlobalPart) : Type 0 where
  pub some : 0 < g.size
  pub aligned : (g.align ≡ 1) ⊎ (g.align ≡ 4)
  pub bytes : length g.bytes ≤ g.size
  pub uses : UsesRise 0 (length g.bytes) g.uses
  pub known : All (λ (w : WordUse). has_symbol symbols w.name ≡ true) g.uses
  pub shared : g.shared ≡ true → (g.writable ≡ true) × ((g.local ≡ false) × (g.bytes ≡ []))
  pub free : is_reserved g.name ≡ false
  pub listed : has_symbol symbols g.name ≡ true

-- the sizes of objects together, each up to whole words of 4 bytes
abbrev pub sizes_of : List GlobalPart → ℕ
sizes_of [] = 0
sizes_of (g ∷ gs) = 4 * ((g.size + 3) / 4) + sizes_of gs

-- The rules on names and objects

pub record IsKept (u : NamedUnit) : Type 0 where
  pub few : length u.symbol_names < 1048576
  pub short : bytes_of (names_in u.symbol_names) ≤ 1048576
  pub symbols : All (IsSymbol u) u.symbol_names
  pub locals : LocalsFirst u.symbol_names
  pub functions : All (IsFunction u) u.functions
  pub objects : All (IsObject u.symbol_names) u.globals
  pub small : sizes_of u.globals ≤ 16777216

-- Bounds

-- the stack that a call of the function of this number needs, in bytes, and 0 where there is none
abbrev pub need_at : NamedUnit → ℕ → ℕ
need_at u index = option_map_or (λ (f : FunctionPart). f.need) (slice_get u.functions index) 0

-- no more code becomes of the unit than this many bytes, and no call takes more of the stack than its function's need
pub record IsBounded (u : NamedUnit) (bulk : ℕ) (hold : ℕ → ℕ) : Type 0 where
  pub light : bulk ≤ 25165824
  pub held : (index : ℕ) → hold index ≤ need_at u index

pub record Kept (u : NamedUnit) (bulk : ℕ) (hold : ℕ → ℕ) : Type 0 where
  pub names : IsKept u
  pub bounds : IsBounded u bulk hold
