-- The machine: what it holds, and how it starts.
use Rattle.std.specs.Prelude.{ℕ, ◌-◌, Option, None, List, [], ◌∷◌, ◌++◌, length, true, false, Bool, get_or, set}
use Rattle.i386_code.specs.declared.instr.Reg.{Reg}
use Rattle.i386_code.specs.Fields.{number_of}
use Rattle.i386_arith.specs.declared.flags.Flags.{Flags}
use Rattle.i386_machine.specs.declared.event.Standing.{Standing}
use Rattle.i386_machine.specs.declared.event.Standing.TheVariants.{Running}
use Rattle.i386_machine.specs.Regions.{Region, zeros}

-- The regions of memory, the eight registers by their numbers, the address of the next instruction, the flags or None where
-- they are unknown, and whether it runs.
pub record State : Type 0 where
  pub regions : List Region
  pub registers : List ℕ
  pub eip : ℕ
  pub flags : Option Flags
  pub standing : Standing

-- the word in a register
abbrev pub register : State → Reg → ℕ
register m reg = get_or m.registers (number_of reg) 0

-- with this word in a register
abbrev pub with_register : State → Reg → ℕ → State
with_register m reg word = record m { registers = set m.registers (number_of reg) word }

-- a zeroed stack of this many bytes, which ends at 0xC0000000
abbrev pub stack_region : ℕ → Region
stack_region size = record { base = 3221225472 - size; bytes = zeros size; writable = true; executable = false }

-- at the start esp is 0xBFFFFFF0 and the other registers are 0
abbrev pub first_registers : List ℕ
first_registers = 0 ∷ 0 ∷ 0 ∷ 0 ∷ 3221225456 ∷ 0 ∷ 0 ∷ 0 ∷ []

-- a machine that is about to run from an address; its flags are unknown
abbrev pub started : ℕ → List Region → State
started entry regions = record { regions = regions; registers = first_registers; eip = entry; flags = None; standing = Running }

-- a region that begins with these bytes and is zero after them
abbrev pub filled : ℕ → List ℕ → ℕ → Bool → Bool → Region
filled base bytes size writable executable = record { base = base; bytes = bytes ++ zeros (size - length bytes); writable = writable; executable = executable }
