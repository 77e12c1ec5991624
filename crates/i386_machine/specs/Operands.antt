-- Operands in a register or in memory, and what is read and written there (Intel SDM, volume 1, 3.7).
use Rattle.std.specs.Prelude.{ℕ, ◌+◌, ◌-◌, ◌*◌, ◌%◌, ◌^◌, List, Option, Some, None, option_map, Result, Ok, Err, if◌then◌else◌}
use Rattle.i386_code.specs.declared.instr.Reg.{Reg}
use Rattle.i386_code.specs.declared.instr.Scaled.{Scaled}
use Rattle.i386_code.specs.declared.instr.Address.{Address}
use Rattle.i386_code.specs.declared.instr.Rm.{Rm}
use Rattle.i386_code.specs.declared.instr.Rm.TheVariants as rms
use Rattle.i386_machine.specs.declared.event.Cause.{Cause}
use Rattle.i386_machine.specs.declared.event.Cause.TheVariants as cause
use Rattle.i386_machine.specs.declared.operand.Place.{Place}
use Rattle.i386_machine.specs.declared.operand.Place.TheVariants as places
use Rattle.i386_machine.specs.Regions.{Region, shapes, writable, byte_at, word_at, held_word_at, store_byte, store_word}
use Rattle.i386_machine.specs.Machine.{State, register, with_register}

-- what an address is made of: nothing counts as 0
abbrev pub base_word : State → Option Reg → ℕ
base_word m None = 0
base_word m (Some reg) = register m reg

abbrev pub index_word : State → Option Scaled → ℕ
index_word m None = 0
index_word m (Some index) = register m index.register * 2 ^ index.shift

-- an address: the sum of base, index times its scale, and displacement, modulo 2^32
abbrev pub address_of : State → Address → ℕ
address_of m address = (base_word m address.base + index_word m address.index + address.disp) % 2 ^ 32

-- where an operand is: in a register, or at an address
abbrev pub place_of : State → Rm → Place
place_of m (rms.Reg reg) = places.Register reg
place_of m (rms.Mem address) = places.Memory (address_of m address)

-- what an access at an address gives, or that it has no place there
abbrev pub accessed : {A : Type 0} → ℕ → Option A → Result A Cause
accessed address None = Err (cause.Access address)
accessed address (Some x) = Ok x

-- the word there
abbrev pub word_in : State → Place → Result ℕ Cause
word_in m (places.Register reg) = Ok (register m reg)
word_in m (places.Memory address) = accessed address (word_at m.regions address)

-- The word there, where it is written too: that is one access, which needs the right to write.
abbrev pub held_in : State → Place → Result ℕ Cause
held_in m (places.Register reg) = Ok (register m reg)
held_in m (places.Memory address) = accessed address (held_word_at m.regions address)

-- the byte there: of a register the low one
abbrev pub byte_in : State → Place → Result ℕ Cause
byte_in m (places.Register reg) = Ok (register m reg % 256)
byte_in m (places.Memory address) = accessed address (byte_at m.regions address)

-- with other regions
abbrev pub with_regions : State → List Region → State
with_regions m regions = record m { regions = regions }

-- with this word there
abbrev pub with_word : State → Place → ℕ → Result State Cause
with_word m (places.Register reg) word = Ok (with_register m reg word)
with_word m (places.Memory address) word = accessed address (option_map (λ regions. with_regions m regions) (store_word m.regions address word))

-- with this byte there: in a register it is the low one
abbrev pub with_byte : State → Place → ℕ → Result State Cause
with_byte m (places.Register reg) byte = Ok (with_register m reg (register m reg - register m reg % 256 + byte))
with_byte m (places.Memory address) byte = accessed address (option_map (λ regions. with_regions m regions) (store_byte m.regions address byte))

-- that a byte can be written there
abbrev pub byte_room : State → Place → Result (Unit {0}) Cause
byte_room m (places.Register reg) = Ok tt
byte_room m (places.Memory address) = if writable (shapes m.regions) address 1 then Ok tt else Err (cause.Access address)
