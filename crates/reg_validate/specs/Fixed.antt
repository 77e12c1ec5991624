-- The fixed homes: the four registers for the first four temporaries, and a slot of its own for each other.
use Rattle.std.specs.Prelude.{ℕ, ◌-◌, List, map}
use Rattle.std.specs.List.{range_with_len}
use Rattle.std.proofs.Common.{zero, suc}
use Rattle.rtl_lang.specs.declared.syntax.RtlParts.{RtlParts}
use Rattle.ltl_lang.specs.declared.location.Loc.{Loc}
use Rattle.ltl_lang.specs.declared.location.Loc.TheVariants.{Ebx, Esi, Edi, Ebp, Slot}
use Rattle.ltl_lang.specs.declared.syntax.LtlParts.{LtlParts}
use Rattle.reg_homes.specs.Homes.{placed, home_of}

abbrev pub fixed_home : ℕ → Loc
fixed_home zero = Ebx
fixed_home (suc zero) = Esi
fixed_home (suc (suc zero)) = Edi
fixed_home (suc (suc (suc zero))) = Ebp
fixed_home (suc (suc (suc (suc k)))) = Slot k

-- the homes of so many temporaries
abbrev pub fixed_homes : ℕ → List Loc
fixed_homes n = map fixed_home (range_with_len 0 n)

-- and how many slots they take
abbrev pub fixed_slots : ℕ → ℕ
fixed_slots n = n - 4

-- what is made of a function over the fixed homes
abbrev pub fixed_function : RtlParts → LtlParts
fixed_function f = record {
  symbol = f.symbol;
  is_static = f.is_static;
  parameters = f.parameters;
  homes = fixed_homes f.temporaries;
  slots = fixed_slots f.temporaries;
  locals = f.locals;
  need = f.need;
  entry = f.entry;
  graph = map (placed (home_of (fixed_homes f.temporaries))) f.graph;
}
