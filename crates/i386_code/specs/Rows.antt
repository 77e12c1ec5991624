-- What opcodes and the reg field of ModRM say, as functions on numbers. The laws in proofs/ tie them to the table.
use Rattle.std.specs.Prelude.{ℕ, ◌-◌, Option, Some, None, ◌==◌, nat_lt, nat_le, ◌&&◌, if◌then◌else◌}
use Rattle.std.specs.Option.{option_map}
use Rattle.i386_code.specs.declared.instr.AluOp.{AluOp}
use Rattle.i386_code.specs.declared.instr.AluOp.TheVariants.{Add, Sub, And, Or, Xor, Cmp, Test}
use Rattle.i386_code.specs.declared.instr.ShiftOp.{ShiftOp}
use Rattle.i386_code.specs.declared.instr.ShiftOp.TheVariants.{Shl, Shr, Sar}
use Rattle.i386_code.specs.declared.rows.Row.{Row}
use Rattle.i386_code.specs.declared.rows.Row.TheVariants.{Plain, WithWord, WithByte, WithOperand}
use Rattle.i386_code.specs.declared.rows.PlainRow.TheVariants as plains
use Rattle.i386_code.specs.declared.rows.WordRow.TheVariants as words
use Rattle.i386_code.specs.declared.rows.ByteRow.TheVariants as bytes
use Rattle.i386_code.specs.declared.rows.OperandRow.{OperandRow}
use Rattle.i386_code.specs.declared.rows.OperandRow.TheVariants as operands
use Rattle.i386_code.specs.declared.rows.Head.{Head}
use Rattle.i386_code.specs.declared.rows.Head.TheVariants as heads
use Rattle.i386_code.specs.Fields.{reg_at, cond_at}

-- the row of an opcode of one byte
unfoldable pub row_at : ℕ → Option Row
row_at n =
    if n == 0x01 then Some (WithOperand (operands.Alu Add)) else
    if n == 0x09 then Some (WithOperand (operands.Alu Or)) else
    if n == 0x21 then Some (WithOperand (operands.Alu And)) else
    if n == 0x29 then Some (WithOperand (operands.Alu Sub)) else
    if n == 0x31 then Some (WithOperand (operands.Alu Xor)) else
    if n == 0x39 then Some (WithOperand (operands.Alu Cmp)) else
    if nat_le 0x50 n && nat_le n 0x57 then Some (Plain (plains.Push (reg_at (n - 0x50)))) else
    if nat_le 0x58 n && nat_le n 0x5f then Some (Plain (plains.Pop (reg_at (n - 0x58)))) else
    if nat_le 0x70 n && nat_le n 0x7f then option_map (λ cond. WithByte (bytes.JumpIfShort cond)) (cond_at (n - 0x70)) else
    if n == 0x81 then Some (WithOperand operands.AluImm) else
    if n == 0x83 then Some (WithOperand operands.AluShort) else
    if n == 0x85 then Some (WithOperand (operands.Alu Test)) else
    if n == 0x88 then Some (WithOperand operands.StoreByte) else
    if n == 0x89 then Some (WithOperand operands.Store) else
    if n == 0x8b then Some (WithOperand operands.Load) else
    if n == 0x8d then Some (WithOperand operands.Lea) else
    if n == 0x99 then Some (Plain plains.Cdq) else
    if nat_le 0xb8 n && nat_le n 0xbf then Some (WithWord (words.LoadImm (reg_at (n - 0xb8)))) else
    if n == 0xc3 then Some (Plain plains.Ret) else
    if n == 0xc7 then Some (WithOperand operands.StoreImm) else
    if n == 0xcd then Some (WithByte bytes.Interrupt) else
    if n == 0xd3 then Some (WithOperand operands.Shift) else
    if n == 0xe8 then Some (WithWord words.Call) else
    if n == 0xe9 then Some (WithWord words.Jump) else
    if n == 0xeb then Some (WithByte bytes.JumpShort) else
    if n == 0xf7 then Some (WithOperand operands.Unary) else None

-- the row of an opcode of two bytes, by the second
unfoldable pub long_row_at : ℕ → Option Row
long_row_at n =
    if nat_le 0x80 n && nat_le n 0x8f then option_map (λ cond. WithWord (words.JumpIf cond)) (cond_at (n - 0x80)) else
    if nat_le 0x90 n && nat_le n 0x9f then option_map (λ cond. WithOperand (operands.SetIf cond)) (cond_at (n - 0x90)) else
    if n == 0xaf then Some (WithOperand operands.Mul) else
    if n == 0xb6 then Some (WithOperand operands.ZeroByte) else
    if n == 0xbe then Some (WithOperand operands.SignByte) else None

-- the operation of a digit, with a constant and on one operand
abbrev pub alu_at : ℕ → Option AluOp
alu_at n = if n == 0 then Some Add else if n == 4 then Some And else if n == 5 then Some Sub else if n == 7 then Some Cmp else None

abbrev pub shift_at : ℕ → Option ShiftOp
shift_at n = if n == 4 then Some Shl else if n == 5 then Some Shr else if n == 7 then Some Sar else None

abbrev pub unary_at : ℕ → Option Head
unary_at n = if n == 2 then Some heads.Not else if n == 3 then Some heads.Neg else if n == 6 then Some heads.Div else if n == 7 then Some heads.SignDiv else None

-- what an opcode and the reg field say together
abbrev pub head_at : OperandRow → ℕ → Option Head
head_at operands.StoreByte n = if nat_lt n 4 then Some (heads.StoreByte (reg_at n)) else None
head_at operands.Store n = Some (heads.Store (reg_at n))
head_at operands.Load n = Some (heads.Load (reg_at n))
head_at operands.StoreImm n = if n == 0 then Some heads.StoreImm else None
head_at operands.ZeroByte n = Some (heads.ZeroByte (reg_at n))
head_at operands.SignByte n = Some (heads.SignByte (reg_at n))
head_at operands.Lea n = Some (heads.Lea (reg_at n))
head_at (operands.Alu op) n = Some (heads.Alu op (reg_at n))
head_at operands.AluImm n = option_map (λ op. heads.AluImm op) (alu_at n)
head_at operands.AluShort n = option_map (λ op. heads.AluShort op) (alu_at n)
head_at operands.Mul n = Some (heads.Mul (reg_at n))
head_at operands.Unary n = unary_at n
head_at operands.Shift n = option_map (λ op. heads.Shift op) (shift_at n)
head_at (operands.SetIf cond) n = if n == 0 then Some (heads.SetIf cond) else None
