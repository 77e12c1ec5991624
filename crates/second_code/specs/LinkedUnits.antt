-- What an image holds where units of the second form are linked with the runtime.
use Rattle.std.specs.Prelude.{◌≡◌, ℕ, ◌+◌, ◌<◌, ◌^◌, List, [], ◌++◌, length, slice_index_or, Some, codes}
use Rattle.second_form.specs.declared.second_items.Item.{Item}
use Rattle.second_form.specs.SecondRun.{Meaning, means, main_of}
use Rattle.i386_steps.specs.laws.StackAndCode.{Here}
use Rattle.second_code.specs.Code.{Places, putbyte_code, start_code}
use Rattle.second_code.specs.Parts.{definition_from}
use Rattle.second_code.specs.declared.definitions.Definition.{Definition}
use Rattle.second_code.specs.Placed.{Placed}

abbrev pub unit_at : List (List Item) → ℕ → List Item
unit_at units unit = slice_index_or units unit []

-- the address is that of the definition of the name by the unit of this number, whose text begins so many bytes behind the first address of code
pub record IsAddressOf (units : List (List Item)) (origin : ℕ → ℕ) (unit : ℕ) (name : List ℕ) (address : ℕ) : Type 0 where
  pub definition : Definition
  pub defines : definition_from 0 (unit_at units unit) name ≡ Some definition
  pub address_is : address ≡ 0x08049000 + (origin unit + definition.begin)

-- Each unit's text is placed. A name's address in a unit is that of the definition that it means there, and `putbyte` is the runtime's.
-- The start code calls `main`, and the runtime's code stands where its addresses say.
pub record LinkedUnits (units : List (List Item)) (origin : ℕ → ℕ) (places : Places) (start main_at : ℕ) (code : List ℕ) : Type 0 where
  pub short : length code < 2 ^ 24
  pub placed : (unit : ℕ) → unit < length units → Placed code (origin unit) (places.function unit) (unit_at units unit)
  pub bound : (unit : ℕ) (name : List ℕ) (meaning : Meaning) → means units unit name ≡ Some meaning → IsAddressOf units origin meaning.unit name (places.function unit name)
  pub main_bound : (meaning : Meaning) → main_of units ≡ Some meaning → IsAddressOf units origin meaning.unit (codes "main") main_at
  pub near : (unit : ℕ) (name : List ℕ) → places.function unit name < 2 ^ 32
  pub puts : (unit : ℕ) → places.function unit (codes "putbyte") ≡ places.putbyte
  pub behind_runtime : List ℕ
  pub runtime : Here code places.putbyte (putbyte_code ++ behind_runtime)
  pub behind_start : List ℕ
  pub start_there : Here code start (start_code main_at (start + 5) ++ behind_start)
