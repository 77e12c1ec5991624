-- The instruction table: opcode, ModRM and constant of each instruction, a line for each row (Intel SDM, volume 2, chapters
-- 3 to 5, under MOV, MOVZX, MOVSX, LEA, ADD, SUB, AND, OR, XOR, CMP, TEST, IMUL, NOT, NEG, DIV, IDIV, CWD, SAL,
-- PUSH, POP, CALL, JMP, Jcc, SETcc, RET and INT).
use Rattle.std.specs.Prelude.{ℕ, ℤ, ◌+◌, ◌^◌, ◌<◌, ⊤, FitsSigned, Option, Some, None, List, [], ◌∷◌}
use Rattle.std.specs.Int.{w8, cast_unsigned}
use Rattle.cc_base.specs.Words.{word_bytes}
use Rattle.i386_code.specs.declared.instr.Rm.{Rm}
use Rattle.i386_code.specs.declared.instr.Rm.TheVariants.{Mem}
use Rattle.i386_code.specs.declared.instr.AluOp.{AluOp}
use Rattle.i386_code.specs.declared.instr.AluOp.TheVariants.{Add, Sub, And, Or, Xor, Cmp, Test}
use Rattle.i386_code.specs.declared.instr.ShiftOp.{ShiftOp}
use Rattle.i386_code.specs.declared.instr.ShiftOp.TheVariants.{Shl, Shr, Sar}
use Rattle.i386_code.specs.declared.instr.Instr.{Instr}
use Rattle.i386_code.specs.declared.instr.Instr.TheVariants.{StoreByte, Store, Load, LoadImm, StoreImm, ZeroByte, SignByte, Lea, Alu, AluImm, AluShort, Mul, Not, Neg, Div, SignDiv, Cdq, Shift, Push, Pop, Call, Jump, JumpIf, JumpShort, JumpIfShort, SetIf, Ret, Interrupt}
use Rattle.i386_code.specs.Fields.{number_of, code_of}

-- what stands behind opcode and operand
pub data Constant : Type 0 where
  NoConstant : Constant
  OneByte : ℕ → Constant
  SignedByte : ℤ → Constant
  FourBytes : ℕ → Constant

-- its bytes, the lowest first, and that it fits them
abbrev pub constant_bytes : Constant → List ℕ
constant_bytes NoConstant = []
constant_bytes (OneByte value) = value ∷ []
constant_bytes (SignedByte value) = cast_unsigned w8 value ∷ []
constant_bytes (FourBytes value) = word_bytes value

abbrev pub FitsBytes : Constant → Type 0
FitsBytes NoConstant = ⊤
FitsBytes (OneByte value) = value < 256
FitsBytes (SignedByte value) = FitsSigned w8 value
FitsBytes (FourBytes value) = value < 2 ^ 32

-- An operand that ModRM names, and the number in the reg field beside it: a register's, or a digit of the opcode.
pub record Modrm : Type 0 where
  pub field : ℕ
  pub operand : Rm

-- the parts of an instruction's bytes
pub record Layout : Type 0 where
  pub opcode : List ℕ
  pub modrm : Option Modrm
  pub constant : Constant

abbrev pub plain : List ℕ → Constant → Layout
plain opcode constant = record { opcode = opcode; modrm = None; constant = constant }

abbrev pub with_modrm : List ℕ → ℕ → Rm → Constant → Layout
with_modrm opcode field operand constant = record { opcode = opcode; modrm = Some (record { field = field; operand = operand }); constant = constant }

-- the opcode of an operation on two operands
abbrev pub alu_opcode : AluOp → ℕ
alu_opcode Add = 0x01
alu_opcode Sub = 0x29
alu_opcode And = 0x21
alu_opcode Or = 0x09
alu_opcode Xor = 0x31
alu_opcode Cmp = 0x39
alu_opcode Test = 0x85

-- The digit of an operation with a constant. The others have none here, and are not proper.
abbrev pub alu_digit : AluOp → ℕ
alu_digit Add = 0
alu_digit And = 4
alu_digit Sub = 5
alu_digit Cmp = 7
alu_digit Or = 8
alu_digit Xor = 8
alu_digit Test = 8

abbrev pub shift_digit : ShiftOp → ℕ
shift_digit Shl = 4
shift_digit Shr = 5
shift_digit Sar = 7

abbrev pub layout_of : Instr → Layout
layout_of (StoreByte to from) = with_modrm (0x88 ∷ []) (number_of from) to NoConstant
layout_of (Store to from) = with_modrm (0x89 ∷ []) (number_of from) to NoConstant
layout_of (Load to from) = with_modrm (0x8b ∷ []) (number_of to) from NoConstant
layout_of (LoadImm to value) = plain ((0xb8 + number_of to) ∷ []) (FourBytes value)
layout_of (StoreImm to value) = with_modrm (0xc7 ∷ []) 0 to (FourBytes value)
layout_of (ZeroByte to from) = with_modrm (0x0f ∷ 0xb6 ∷ []) (number_of to) from NoConstant
layout_of (SignByte to from) = with_modrm (0x0f ∷ 0xbe ∷ []) (number_of to) from NoConstant
layout_of (Lea to from) = with_modrm (0x8d ∷ []) (number_of to) (Mem from) NoConstant
layout_of (Alu op to from) = with_modrm (alu_opcode op ∷ []) (number_of from) to NoConstant
layout_of (AluImm op to value) = with_modrm (0x81 ∷ []) (alu_digit op) to (FourBytes value)
layout_of (AluShort op to value) = with_modrm (0x83 ∷ []) (alu_digit op) to (SignedByte value)
layout_of (Mul to from) = with_modrm (0x0f ∷ 0xaf ∷ []) (number_of to) from NoConstant
layout_of (Not to) = with_modrm (0xf7 ∷ []) 2 to NoConstant
layout_of (Neg to) = with_modrm (0xf7 ∷ []) 3 to NoConstant
layout_of (Div to) = with_modrm (0xf7 ∷ []) 6 to NoConstant
layout_of (SignDiv to) = with_modrm (0xf7 ∷ []) 7 to NoConstant
layout_of Cdq = plain (0x99 ∷ []) NoConstant
layout_of (Shift op to) = with_modrm (0xd3 ∷ []) (shift_digit op) to NoConstant
layout_of (Push from) = plain ((0x50 + number_of from) ∷ []) NoConstant
layout_of (Pop to) = plain ((0x58 + number_of to) ∷ []) NoConstant
layout_of (Call by) = plain (0xe8 ∷ []) (FourBytes by)
layout_of (Jump by) = plain (0xe9 ∷ []) (FourBytes by)
layout_of (JumpIf cond by) = plain (0x0f ∷ (0x80 + code_of cond) ∷ []) (FourBytes by)
layout_of (JumpShort by) = plain (0xeb ∷ []) (SignedByte by)
layout_of (JumpIfShort cond by) = plain ((0x70 + code_of cond) ∷ []) (SignedByte by)
layout_of (SetIf cond to) = with_modrm (0x0f ∷ (0x90 + code_of cond) ∷ []) 0 to NoConstant
layout_of Ret = plain (0xc3 ∷ []) NoConstant
layout_of (Interrupt number) = plain (0xcd ∷ []) (OneByte number)
