-- Which instructions stand in the table: one-byte registers are al, cl, dl and bl, the operation has a digit where the
-- row wants one, no index is esp, and no shift of an index is above 3.
use Rattle.std.specs.Prelude.{◌≢◌, ◌<◌, ◌≤◌, ⊤, IfSome}
use Rattle.i386_code.specs.declared.instr.Reg.{Reg}
use Rattle.i386_code.specs.declared.instr.Reg.TheVariants.{Esp}
use Rattle.i386_code.specs.declared.instr.Address.{Address}
use Rattle.i386_code.specs.declared.instr.Rm.{Rm}
use Rattle.i386_code.specs.declared.instr.Rm.TheVariants as rms
use Rattle.i386_code.specs.declared.instr.AluOp.{AluOp}
use Rattle.i386_code.specs.declared.instr.AluOp.TheVariants.{Add, Sub, And, Or, Xor, Cmp, Test}
use Rattle.i386_code.specs.declared.instr.Instr.{Instr}
use Rattle.i386_code.specs.declared.instr.Instr.TheVariants.{StoreByte, Store, Load, LoadImm, StoreImm, ZeroByte, SignByte, Lea, Alu, AluImm, AluShort, Mul, Not, Neg, Div, SignDiv, Cdq, Shift, Push, Pop, Call, Jump, JumpIf, JumpShort, JumpIfShort, SetIf, Ret, Interrupt}
use Rattle.i386_code.specs.Fields.{number_of}

-- a register with a low byte of its own
abbrev pub HasLowByte : Reg → Type 0
HasLowByte reg = number_of reg < 4

abbrev pub ProperAddress : Address → Type 0
ProperAddress address = IfSome address.index (λ index. (index.register ≢ Esp) × (index.shift ≤ 3))

abbrev pub ProperRm : Rm → Type 0
ProperRm (rms.Reg reg) = ⊤
ProperRm (rms.Mem address) = ProperAddress address

-- an operand of one byte
abbrev pub ProperByte : Rm → Type 0
ProperByte (rms.Reg reg) = HasLowByte reg
ProperByte (rms.Mem address) = ProperAddress address

-- the operations that take a constant
abbrev pub TakesConstant : AluOp → Type 0
TakesConstant Add = ⊤
TakesConstant And = ⊤
TakesConstant Sub = ⊤
TakesConstant Cmp = ⊤
TakesConstant Or = ⊥
TakesConstant Xor = ⊥
TakesConstant Test = ⊥

abbrev pub Proper : Instr → Type 0
Proper (StoreByte to from) = ProperByte to × HasLowByte from
Proper (Store to from) = ProperRm to
Proper (Load to from) = ProperRm from
Proper (LoadImm to value) = ⊤
Proper (StoreImm to value) = ProperRm to
Proper (ZeroByte to from) = ProperByte from
Proper (SignByte to from) = ProperByte from
Proper (Lea to from) = ProperAddress from
Proper (Alu op to from) = ProperRm to
Proper (AluImm op to value) = TakesConstant op × ProperRm to
Proper (AluShort op to value) = TakesConstant op × ProperRm to
Proper (Mul to from) = ProperRm from
Proper (Not to) = ProperRm to
Proper (Neg to) = ProperRm to
Proper (Div to) = ProperRm to
Proper (SignDiv to) = ProperRm to
Proper Cdq = ⊤
Proper (Shift op to) = ProperRm to
Proper (Push from) = ⊤
Proper (Pop to) = ⊤
Proper (Call by) = ⊤
Proper (Jump by) = ⊤
Proper (JumpIf cond by) = ⊤
Proper (JumpShort by) = ⊤
Proper (JumpIfShort cond by) = ⊤
Proper (SetIf cond to) = ProperByte to
Proper Ret = ⊤
Proper (Interrupt number) = ⊤
