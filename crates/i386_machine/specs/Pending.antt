-- What the machine's code answers of a step before the outside has a part in it.
use Rattle.std.specs.Prelude.{◌≡◌, Bool, true, false, ◌&&◌, ◌==◌, Result, Ok, Err}
use Rattle.i386_code.specs.declared.instr.Reg.TheVariants.{Eax, Ecx, Edx, Ebx}
use Rattle.i386_code.specs.declared.instr.Instr.{Instr}
use Rattle.i386_code.specs.declared.instr.Instr.TheVariants.{Interrupt}
use Rattle.i386_machine.specs.declared.event.Cause.{Cause}
use Rattle.i386_machine.specs.declared.event.Standing.{Standing}
use Rattle.i386_machine.specs.declared.event.Standing.TheVariants as standing
use Rattle.i386_machine.specs.declared.machine.Pending.{Pending}
use Rattle.i386_machine.specs.declared.machine.Pending.TheVariants as pending
use Rattle.i386_machine.specs.Regions.{shapes, writable}
use Rattle.i386_machine.specs.Machine.{State, register}
use Rattle.i386_machine.specs.Step.{Doing, Goes, Asks, Gives, Ends, Sticks}

-- what the step does, where the machine is now in this state
abbrev pub doing_of : Pending → State → Doing
doing_of pending.Nothing now = Goes now
doing_of pending.Byte now = Asks
doing_of (pending.Give byte) now = Gives byte
doing_of (pending.End status) now = Ends status
doing_of (pending.Stick cause) now = Sticks cause

-- only an instruction that stays inside the machine changes it
abbrev pub Keeps : Pending → State → State → Type 0
Keeps pending.Nothing old new = Unit {0}
Keeps _ old new = new ≡ old

-- a byte is asked for only where it can be stored
abbrev pub HasPlace : Pending → State → Type 0
HasPlace pending.Byte m = writable (shapes m.regions) (register m Ecx) 1 ≡ true
HasPlace _ m = Unit {0}

-- what a write answers, where the machine is now in this state
abbrev pub written : Result (Unit {0}) Cause → State → Result State Cause
written (Ok _) now = Ok now
written (Err cause) now = Err cause

-- `int 0x80`
abbrev pub is_system_call : Instr → Bool
is_system_call (Interrupt number) = number == 128
is_system_call _ = false

-- whether it takes further steps
abbrev pub runs : Standing → Bool
runs standing.Running = true
runs (standing.Ended status) = false
runs (standing.Stuck cause) = false

-- a system call would read a byte
abbrev pub is_read_call : State → Bool
is_read_call m = register m Eax == 3 && register m Ebx == 0 && register m Edx == 1 && writable (shapes m.regions) (register m Ecx) 1
