-- One step (Intel SDM volume 2, chapters 3 to 5, under each instruction).
use Rattle.std.specs.Prelude.{ℕ, ◌*◌, ◌%◌, ◌^◌, Bool, true, false, List, Option, Some, None, option_map, Result, Ok, Err, ◌&&◌, ◌==◌, if◌then◌else◌}
use Rattle.std.specs.Int.{w32, cast_unsigned, from_bool}
use Rattle.cc_base.specs.Words.{add32, sub32}
use Rattle.i386_code.specs.declared.instr.Reg.TheVariants.{Eax, Ecx, Edx, Ebx, Esp}
use Rattle.i386_code.specs.declared.instr.AluOp.{AluOp}
use Rattle.i386_code.specs.declared.instr.AluOp.TheVariants as alu
use Rattle.i386_code.specs.declared.instr.Cond.{Cond}
use Rattle.i386_code.specs.declared.instr.Instr.{Instr}
use Rattle.i386_code.specs.declared.instr.Instr.TheVariants as instr
use Rattle.i386_code.specs.declared.instr.Decoded.{Decoded}
use Rattle.i386_code.specs.declared.instr.Decoded.TheVariants.{Is, Short, Unknown}
use Rattle.i386_code.specs.Fields.{sign_extended}
use Rattle.i386_code.specs.Reading.{decoded}
use Rattle.i386_arith.specs.declared.flags.Flags.{Flags}
use Rattle.i386_arith.specs.declared.division.Division.{Division}
use Rattle.i386_arith.specs.Words.{complement, sign_word}
use Rattle.i386_arith.specs.Operations.{operated, shifted}
use Rattle.i386_arith.specs.Division.{divided, signed_divided}
use Rattle.i386_arith.specs.Conditions.{holds}
use Rattle.i386_machine.specs.declared.event.Cause.{Cause}
use Rattle.i386_machine.specs.declared.event.Cause.TheVariants as cause
use Rattle.i386_machine.specs.declared.event.Standing.{Standing}
use Rattle.i386_machine.specs.declared.event.Standing.TheVariants as standing
use Rattle.i386_machine.specs.declared.event.Event.{Event}
use Rattle.i386_machine.specs.declared.event.Event.TheVariants as event
use Rattle.i386_machine.specs.declared.operand.Place.{Place}
use Rattle.i386_machine.specs.Regions.{byte_at, word_at, store_word, writable, shapes, fetch, poke}
use Rattle.i386_machine.specs.Machine.{State, register, with_register}
use Rattle.i386_machine.specs.Operands.{address_of, place_of, accessed, word_in, held_in, byte_in, byte_room, with_regions, with_word, with_byte}

-- what the next step does, as far as the machine alone decides it
pub data Doing : Type 0 where
  -- an instruction leads to this state
  Goes : State → Doing
  -- a byte is asked for
  Asks : Doing
  -- this byte is emitted
  Gives : ℕ → Doing
  -- the run ends with this status
  Ends : ℕ → Doing
  -- there is no step
  Sticks : Cause → Doing

-- on with what was read; where that has no place there is no step
abbrev pub given : {A : Type 0} → Result A Cause → (A → Doing) → Doing
given (Ok x) go = go x
given (Err cause) go = Sticks cause

-- the state that was written, if there was a place
abbrev pub goes : Result State Cause → Doing
goes (Ok m) = Goes m
goes (Err cause) = Sticks cause

-- on to the next instruction
abbrev pub past : ℕ → State → State
past size m = record m { eip = add32 m.eip size }

-- on to the instruction so many bytes further, counted from the end of this one
abbrev pub jumped : ℕ → State → State
jumped by m = record m { eip = add32 m.eip by }

abbrev pub with_flags : State → Option Flags → State
with_flags m flags = record m { flags = flags }

-- a word is stored below the top of the stack, and its place is the top
abbrev pub pushed : State → ℕ → Result State Cause
pushed m word = let top = sub32 (register m Esp) 4 in
    accessed top (option_map (λ regions. with_register (with_regions m regions) Esp top) (store_word m.regions top word))

-- the word at the top of the stack
abbrev pub top_word : State → Result ℕ Cause
top_word m = accessed (register m Esp) (word_at m.regions (register m Esp))

-- without the word at the top of the stack
abbrev pub popped : State → State
popped m = with_register m Esp (add32 (register m Esp) 4)

-- cmp and test set flags and change no place
abbrev pub only_tests : AluOp → Bool
only_tests alu.Cmp = true
only_tests alu.Test = true
only_tests _ = false

-- An operation on a place and a word. One that changes the place makes a single access, which needs the right to write.
abbrev pub operates : Bool → AluOp → Place → ℕ → State → Doing
operates true op place b m = given (word_in m place) λ a. Goes (with_flags m (Some (operated op a b).flags))
operates false op place b m = given (held_in m place) λ a. goes (with_word (with_flags m (Some (operated op a b).flags)) place (operated op a b).word)

-- the word of a place becomes another
abbrev pub changed : Place → (ℕ → ℕ) → State → Doing
changed place f m = given (held_in m place) λ a. goes (with_word m place (f a))

-- the flags are not known afterwards
abbrev pub unflagged : State → State
unflagged m = with_flags m None

-- the quotient goes to eax and the remainder to edx
abbrev pub with_division : Option Division → State → Doing
with_division None m = Sticks cause.Divide
with_division (Some d) m = Goes (with_register (with_register (unflagged m) Eax d.quotient) Edx d.remainder)

-- whether a condition holds, which needs known flags
abbrev pub asked : Cond → Option Flags → Result Bool Cause
asked cond None = Err cause.Flags
asked cond (Some flags) = Ok (holds cond flags)

-- the read call asks for a byte where it can be stored, and the write call emits the byte that is there
abbrev pub read_call : ℕ → Bool → Doing
read_call address true = Asks
read_call address false = Sticks (cause.Access address)

abbrev pub write_call : ℕ → Option ℕ → Doing
write_call address None = Sticks (cause.Access address)
write_call address (Some byte) = Gives byte

-- Linux's system calls: 1 is exit, 3 is read of one byte from file 0, 4 is write of one byte to file 1
abbrev pub system_call : State → Doing
system_call m =
    if register m Eax == 1 then Ends (register m Ebx % 256)
    else if register m Eax == 3 && register m Ebx == 0 && register m Edx == 1 then read_call (register m Ecx) (writable (shapes m.regions) (register m Ecx) 1)
    else if register m Eax == 4 && register m Ebx == 1 && register m Edx == 1 then write_call (register m Ecx) (byte_at m.regions (register m Ecx))
    else Sticks cause.System

-- What an instruction does, in a state whose eip is past it already.
abbrev pub effect : Instr → State → Doing
effect (instr.StoreByte to from) m = goes (with_byte m (place_of m to) (register m from % 256))
effect (instr.Store to from) m = goes (with_word m (place_of m to) (register m from))
effect (instr.Load to from) m = given (word_in m (place_of m from)) λ word. Goes (with_register m to word)
effect (instr.LoadImm to value) m = Goes (with_register m to value)
effect (instr.StoreImm to value) m = goes (with_word m (place_of m to) value)
effect (instr.ZeroByte to from) m = given (byte_in m (place_of m from)) λ byte. Goes (with_register m to byte)
effect (instr.SignByte to from) m = given (byte_in m (place_of m from)) λ byte. Goes (with_register m to (sign_extended byte))
effect (instr.Lea to from) m = Goes (with_register m to (address_of m from))
effect (instr.Alu op to from) m = operates (only_tests op) op (place_of m to) (register m from) m
effect (instr.AluImm op to value) m = operates (only_tests op) op (place_of m to) value m
effect (instr.AluShort op to value) m = operates (only_tests op) op (place_of m to) (cast_unsigned w32 value) m
effect (instr.Mul to from) m = given (word_in m (place_of m from)) λ word. Goes (with_register (unflagged m) to ((register m to * word) % 2 ^ 32))
effect (instr.Not to) m = changed (place_of m to) complement m
effect (instr.Neg to) m = changed (place_of m to) (sub32 0) (unflagged m)
effect (instr.Div to) m = given (word_in m (place_of m to)) λ word. with_division (divided (register m Edx) (register m Eax) word) m
effect (instr.SignDiv to) m = given (word_in m (place_of m to)) λ word. with_division (signed_divided (register m Edx) (register m Eax) word) m
effect instr.Cdq m = Goes (with_register m Edx (sign_word (register m Eax)))
effect (instr.Shift op to) m = changed (place_of m to) (λ word. shifted op word (register m Ecx)) (unflagged m)
effect (instr.Push from) m = goes (pushed m (register m from))
effect (instr.Pop to) m = given (top_word m) λ word. Goes (with_register (popped m) to word)
effect (instr.Call by) m = given (pushed m m.eip) λ after. Goes (jumped by after)
effect (instr.Jump by) m = Goes (jumped by m)
effect (instr.JumpIf cond by) m = given (asked cond m.flags) λ yes. Goes (if yes then jumped by m else m)
effect (instr.JumpShort by) m = Goes (jumped (cast_unsigned w32 by) m)
effect (instr.JumpIfShort cond by) m = given (asked cond m.flags) λ yes. Goes (if yes then jumped (cast_unsigned w32 by) m else m)
effect (instr.SetIf cond to) m = given (byte_room m (place_of m to)) λ _. given (asked cond m.flags) λ yes. goes (with_byte m (place_of m to) (from_bool yes))
effect instr.Ret m = given (top_word m) λ word. Goes (record (popped m) { eip = word })
effect (instr.Interrupt number) m = if number == 128 then system_call m else Sticks cause.System

-- an instruction and its length, if the bytes at eip spell one
abbrev pub executed : Decoded → State → Doing
executed (Is i size) m = effect i (past size m)
executed Short m = Sticks cause.Decode
executed Unknown m = Sticks cause.Decode

-- the instruction that a prefix of the code spells, where eip lies in code
abbrev pub fetched : Option (List ℕ) → State → Doing
fetched None m = Sticks cause.Fetch
fetched (Some code) m = executed (decoded code) m

-- a machine that has ended or is stuck stays so
abbrev pub doing_at : Standing → State → Doing
doing_at standing.Running m = fetched (fetch m.regions m.eip) m
doing_at (standing.Ended status) m = Ends status
doing_at (standing.Stuck cause) m = Sticks cause

abbrev pub doing : State → Doing
doing m = doing_at m.standing m

-- a system call has this answer, in eax
abbrev pub answered : ℕ → State → State
answered word m = with_register (past 2 m) Eax word

-- what was seen of a step, and the state after it
pub record Stepped : Type 0 where
  pub event : Event
  pub after : State

-- the step, with the byte that the outside has next, if any
abbrev pub stepped : Doing → State → Option ℕ → Stepped
stepped (Goes after) m next = record { event = event.On; after = after }
stepped Asks m (Some byte) = record { event = event.Took; after = answered 1 (record m { regions = poke m.regions (register m Ecx) byte }) }
stepped Asks m None = record { event = event.AtEnd; after = answered 0 m }
stepped (Gives byte) m next = record { event = event.Gave byte; after = answered 1 m }
stepped (Ends status) m next = record { event = event.Ended status; after = record m { standing = standing.Ended status } }
stepped (Sticks cause) m next = record { event = event.Stuck cause; after = record m { standing = standing.Stuck cause } }

abbrev pub step : State → Option ℕ → Stepped
step m next = stepped (doing m) m next
