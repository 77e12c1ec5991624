-- The instructions that were decoded and are kept.
use Rattle.std.specs.Prelude.{◌≡◌, List, false, Option, Some, option_map, IfSome}
use Rattle.std.specs.List.{All}
use Rattle.i386_code.specs.Reading.{decoded}
use Rattle.i386_code.specs.declared.instr.Decoded.TheVariants.{Is}
use Rattle.i386_machine.specs.declared.known.Known.{Known}
use Rattle.i386_machine.specs.Regions.{Region, shapes, writable, fetch}

-- The code at its address begins with this instruction, and no writable region has the address, so that no step changes it.
pub record IsKnown (m : List Region) (known : Known) : Type 0 where
  pub spells : option_map decoded (fetch m known.at) ≡ Some (Is known.instr known.size)
  pub fixed : writable (shapes m) known.at 1 ≡ false

-- each slot has such an instruction, if any
abbrev pub AllKnown : List Region → List (Option Known) → Type 0
AllKnown m slots = All (λ slot. IfSome slot (IsKnown m)) slots
