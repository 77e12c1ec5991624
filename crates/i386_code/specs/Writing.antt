-- The parts of an instruction as the encoder has them, seen as the table's.
use Rattle.std.specs.Prelude.{ℕ, ◌+◌, ◌^◌, ◌<◌, ◌≤◌, ⊤, List, [], ◌∷◌, length, Option, IfSome, is_some, if◌then◌else◌}
use Rattle.std.specs.Option.{option_map}
use Rattle.i386_code.specs.declared.encoder.Opcode.{Opcode}
use Rattle.i386_code.specs.declared.encoder.Opcode.TheVariants.{One, Two}
use Rattle.i386_code.specs.declared.encoder.Constant.TheVariants as constants
use Rattle.i386_code.specs.declared.encoder.Constant as declared
use Rattle.i386_code.specs.declared.encoder.Operand.{Operand}
use Rattle.i386_code.specs.declared.encoder.Parts.{Parts}
use Rattle.i386_code.specs.declared.instr.Rm.{Rm}
use Rattle.i386_code.specs.declared.instr.Rm.TheVariants.{Reg, Mem}
use Rattle.i386_code.specs.Proper.{ProperRm}
use Rattle.i386_code.specs.Table.{Constant, NoConstant, OneByte, SignedByte, FourBytes, constant_bytes, Modrm, Layout}

abbrev pub opcode_bytes : Opcode → List ℕ
opcode_bytes (One byte) = byte ∷ []
opcode_bytes (Two byte) = 0x0f ∷ byte ∷ []

abbrev pub constant_of : declared.Constant → Constant
constant_of constants.Absent = NoConstant
constant_of (constants.Byte value) = OneByte value
constant_of (constants.Signed value) = SignedByte value
constant_of (constants.Word value) = FourBytes value

abbrev pub modrm_of : Option Operand → Option Modrm
modrm_of operand = option_map (λ operand. record { field = operand.field; operand = operand.rm }) operand

abbrev pub layout : Parts → Layout
layout parts = record { opcode = opcode_bytes parts.opcode; modrm = modrm_of parts.operand; constant = constant_of parts.constant }

-- the displacement of the operand is a number of 32 bits
abbrev pub HasWordDisp : Rm → Type 0
HasWordDisp (Reg reg) = ⊤
HasWordDisp (Mem address) = address.disp < 2 ^ 32

abbrev pub FitsDisp : Option Modrm → Type 0
FitsDisp modrm = IfSome modrm (λ modrm. HasWordDisp modrm.operand)

-- the operand can be written, and the whole has room in 11 bytes, of which an operand takes at most 6
pub record IsWritable (parts : Parts) : Type 0 where
  pub operand : IfSome parts.operand (λ operand. (operand.field < 8) × ProperRm operand.rm)
  pub room : length (opcode_bytes parts.opcode) + (if is_some parts.operand then 6 else 0) + length (constant_bytes (constant_of parts.constant)) ≤ 11
