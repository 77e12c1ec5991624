-- What Core has for the source's functions and units.
use Rattle.std.specs.Prelude.{◌≡◌, ℕ, ◌+◌, Bool, cond, List, [], length, map, slice_get}
use Rattle.std.specs.Option.{option_map_or}
use Rattle.std.specs.Str.{bytes_eq}
use Rattle.cc_base.specs.declared.face.SymbolName.{SymbolName}
use Rattle.unit_names.specs.declared.naming.Naming.{Naming}
use Rattle.clight_unit.specs.declared.unit.ClightUnit.{ClightUnit as TypedUnit}
use Rattle.clight_unit.specs.declared.function.Function.{Function}
use Rattle.clight_sem.specs.Functions.{has_no_result, main_name}
use Rattle.core_lang.specs.declared.syntax.CoreUnit.{CoreUnit}
use Rattle.core_lang.specs.declared.syntax.Ending.TheVariants as ending
use Rattle.core_lang.specs.declared.syntax.Function.{Function as CoreFunction}
use Rattle.core_gen.specs.Translation.{coded, code_of}

-- the first temporary that no parameter and no `register` local has
abbrev pub base_of : Function → ℕ
base_of f = length f.signature.parameters + f.registers

-- a function in Core, which is `main` or not
abbrev pub function_code : Bool → Function → CoreFunction
function_code is_main f = record {
  symbol = f.symbol;
  is_static = f.is_static;
  parameters = length f.signature.parameters;
  locals = f.locals;
  body = coded (map (code_of (base_of f)) f.body) 0;
  ending = cond (has_no_result f.signature) ending.Bare (cond is_main ending.Zero ending.Stuck);
  need = f.need;
}

-- The code of a function of a unit with these names

abbrev pub is_main_named : List SymbolName → ℕ → Bool
is_main_named symbol_names symbol = bytes_eq (option_map_or (λ (s : SymbolName). s.name) (slice_get symbol_names symbol) []) main_name

unfoldable pub unit_function : List SymbolName → Function → CoreFunction
unit_function symbol_names f = function_code (is_main_named symbol_names f.symbol) f

-- the parts that no pass changes
abbrev pub naming_of : TypedUnit → Naming
naming_of u = record { face = u.face; symbol_names = u.symbol_names; globals = u.globals }

-- the unit of Core that the pass makes
pub record Matches (u : TypedUnit) (v : CoreUnit) : Type 0 where
  pub naming : v.naming ≡ naming_of u
  pub functions : v.functions ≡ map (unit_function u.symbol_names) u.functions
