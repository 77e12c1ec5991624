-- Reading byte by byte: a reader is done with an instruction, fails, or goes on with one more byte. The decoder is a
-- reader; the laws in proofs/ say that it reads the table's spellings and no others.
use Rattle.std.specs.Prelude.{ℕ, suc, ◌+◌, ◌/◌, ◌%◌, Bool, true, ◌==◌, nat_lt, ◌&&◌, if◌then◌else◌, Option, Some, None, List, [], ◌∷◌, length, slice_index, drop}
use Rattle.std.specs.Option.{option_map}
use Rattle.std.specs.Int.{w8, cast_signed}
use Rattle.cc_base.specs.Words.{join}
use Rattle.i386_code.specs.declared.instr.Reg.{Reg}
use Rattle.i386_code.specs.declared.instr.Scaled.{Scaled}
use Rattle.i386_code.specs.declared.instr.Rm.{Rm}
use Rattle.i386_code.specs.declared.instr.Rm.TheVariants as rms
use Rattle.i386_code.specs.declared.instr.Instr.{Instr}
use Rattle.i386_code.specs.declared.instr.Instr.TheVariants.{StoreByte, Store, Load, LoadImm, StoreImm, ZeroByte, SignByte, Lea, Alu, AluImm, AluShort, Mul, Not, Neg, Div, SignDiv, Cdq, Shift, Push, Pop, Call, Jump, JumpIf, JumpShort, JumpIfShort, SetIf, Ret, Interrupt}
use Rattle.i386_code.specs.declared.instr.Decoded.{Decoded}
use Rattle.i386_code.specs.declared.instr.Decoded.TheVariants.{Is, Short, Unknown}
use Rattle.i386_code.specs.declared.operand.Width.{Width}
use Rattle.i386_code.specs.declared.operand.Width.TheVariants.{Absent, Byte, Word}
use Rattle.i386_code.specs.declared.rows.Row.{Row}
use Rattle.i386_code.specs.declared.rows.Row.TheVariants.{Plain, WithWord, WithByte, WithOperand}
use Rattle.i386_code.specs.declared.rows.PlainRow.{PlainRow}
use Rattle.i386_code.specs.declared.rows.PlainRow.TheVariants as plains
use Rattle.i386_code.specs.declared.rows.WordRow.{WordRow}
use Rattle.i386_code.specs.declared.rows.WordRow.TheVariants as words
use Rattle.i386_code.specs.declared.rows.ByteRow.{ByteRow}
use Rattle.i386_code.specs.declared.rows.ByteRow.TheVariants as bytes
use Rattle.i386_code.specs.declared.rows.Head.{Head}
use Rattle.i386_code.specs.declared.rows.Head.TheVariants as heads
use Rattle.i386_code.specs.Fields.{reg_at, number_of, sign_extended}
use Rattle.i386_code.specs.Rows.{row_at, long_row_at, head_at}

pub data Reader : Type 0 where
  Done : Instr → Reader
  Fail : Reader
  Next : (ℕ → Reader) → Reader

-- what a reader makes of bytes, where `count` bytes stand before them
abbrev pub run : Reader → ℕ → List ℕ → Decoded
run (Done instr) count bytes = Is instr count
run Fail count bytes = Unknown
run (Next go) count [] = Short
run (Next go) count (byte ∷ bytes) = run (go byte) (suc count) bytes

-- four bytes as a word
unfoldable pub word : (ℕ → Reader) → Reader
word go = Next λ a. Next λ b. Next λ c. Next λ d. go (join a b c d)

unfoldable pub displacement : Width → (ℕ → Reader) → Reader
displacement Absent go = go 0
displacement Byte go = Next λ byte. go (sign_extended byte)
displacement Word go = word go

-- base, width of the displacement, and index, by mod and numbers
abbrev pub base_at : ℕ → ℕ → Option Reg
base_at mode number = if (mode == 0) && (number == 5) then None else Some (reg_at number)

abbrev pub width_at : ℕ → ℕ → Width
width_at mode number = if mode == 0 then (if number == 5 then Word else Absent) else if mode == 1 then Byte else Word

abbrev pub index_at : ℕ → ℕ → Option Scaled
index_at scale number = if number == 4 then None else Some (record { register = reg_at number; shift = scale })

abbrev pub address : Option Scaled → ℕ → ℕ → (Rm → Reader) → Reader
address index mode number go = displacement (width_at mode number) λ disp. go (rms.Mem (record { base = base_at mode number; index = index; disp = disp }))

-- the operand of a ModRM byte, with the bytes after it
unfoldable pub operand : ℕ → (Rm → Reader) → Reader
operand modrm go =
    if modrm / 64 == 3 then go (rms.Reg (reg_at (modrm % 8))) else
    if modrm % 8 == 4 then (Next λ sib. address (index_at (sib / 64) (sib / 8 % 8)) (modrm / 64) (sib % 8) go) else
    address None (modrm / 64) (modrm % 8) go

-- The same as functions: what stands at the front of the bytes, and how many of them it takes. None: too few bytes.
abbrev pub word_of : List ℕ → Option ℕ
word_of bytes = if nat_lt (length bytes) 4 then None else Some (join (slice_index bytes 0) (slice_index bytes 1) (slice_index bytes 2) (slice_index bytes 3))

abbrev pub displacement_of : Width → List ℕ → Option (ℕ × ℕ)
displacement_of Absent bytes = Some (0, 0)
displacement_of Byte bytes = if nat_lt (length bytes) 1 then None else Some (sign_extended (slice_index bytes 0), 1)
displacement_of Word bytes = option_map (λ value. (value, 4)) (word_of bytes)

abbrev pub address_of : Option Scaled → ℕ → ℕ → List ℕ → Option (Rm × ℕ)
address_of index mode number bytes = option_map (λ found. (rms.Mem (record { base = base_at mode number; index = index; disp = found.0 }), found.1)) (displacement_of (width_at mode number) bytes)

abbrev pub behind : Option (Rm × ℕ) → Option (Rm × ℕ)
behind found = option_map (λ found. (found.0, found.1 + 1)) found

abbrev pub operand_of : ℕ → List ℕ → Option (Rm × ℕ)
operand_of modrm bytes =
    if modrm / 64 == 3 then Some (rms.Reg (reg_at (modrm % 8)), 0) else
    if modrm % 8 == 4 then (if nat_lt (length bytes) 1 then None else behind (address_of (index_at (slice_index bytes 0 / 64) (slice_index bytes 0 / 8 % 8)) (modrm / 64) (slice_index bytes 0 % 8) (drop 1 bytes))) else
    address_of None (modrm / 64) (modrm % 8) bytes

-- an operand of one byte
abbrev pub is_byte_operand : Rm → Bool
is_byte_operand (rms.Reg reg) = nat_lt (number_of reg) 4
is_byte_operand (rms.Mem address) = true

abbrev pub lea : Reg → Rm → Option Instr
lea to (rms.Reg reg) = None
lea to (rms.Mem address) = Some (Lea to address)

-- the instruction, where no constant follows
abbrev pub instr_of : Head → Rm → Option Instr
instr_of (heads.StoreByte from) rm = if is_byte_operand rm then Some (StoreByte rm from) else None
instr_of (heads.Store from) rm = Some (Store rm from)
instr_of (heads.Load to) rm = Some (Load to rm)
instr_of heads.StoreImm rm = None
instr_of (heads.ZeroByte to) rm = if is_byte_operand rm then Some (ZeroByte to rm) else None
instr_of (heads.SignByte to) rm = if is_byte_operand rm then Some (SignByte to rm) else None
instr_of (heads.Lea to) rm = lea to rm
instr_of (heads.Alu op from) rm = Some (Alu op rm from)
instr_of (heads.AluImm op) rm = None
instr_of (heads.AluShort op) rm = None
instr_of (heads.Mul to) rm = Some (Mul to rm)
instr_of heads.Not rm = Some (Not rm)
instr_of heads.Neg rm = Some (Neg rm)
instr_of heads.Div rm = Some (Div rm)
instr_of heads.SignDiv rm = Some (SignDiv rm)
instr_of (heads.Shift op) rm = Some (Shift op rm)
instr_of (heads.SetIf cond) rm = if is_byte_operand rm then Some (SetIf cond rm) else None

abbrev pub ended : Option Instr → Reader
ended None = Fail
ended (Some instr) = Done instr

-- the rest of an instruction, behind its operand
abbrev pub finish : Head → Rm → Reader
finish heads.StoreImm rm = word λ value. Done (StoreImm rm value)
finish (heads.AluImm op) rm = word λ value. Done (AluImm op rm value)
finish (heads.AluShort op) rm = Next λ byte. Done (AluShort op rm (cast_signed w8 byte))
finish head rm = ended (instr_of head rm)

-- the rest behind a ModRM byte, where the row takes its reg field
abbrev pub begun : Option Head → ℕ → Reader
begun None modrm = Fail
begun (Some head) modrm = operand modrm (finish head)

abbrev pub plain_instr : PlainRow → Instr
plain_instr (plains.Push from) = Push from
plain_instr (plains.Pop to) = Pop to
plain_instr plains.Cdq = Cdq
plain_instr plains.Ret = Ret

abbrev pub word_instr : WordRow → ℕ → Instr
word_instr (words.LoadImm to) value = LoadImm to value
word_instr words.Call value = Call value
word_instr words.Jump value = Jump value
word_instr (words.JumpIf cond) value = JumpIf cond value

abbrev pub byte_instr : ByteRow → ℕ → Instr
byte_instr bytes.JumpShort byte = JumpShort (cast_signed w8 byte)
byte_instr (bytes.JumpIfShort cond) byte = JumpIfShort cond (cast_signed w8 byte)
byte_instr bytes.Interrupt byte = Interrupt byte

-- the rest behind an opcode
abbrev pub opened : Option Row → Reader
opened None = Fail
opened (Some (Plain row)) = Done (plain_instr row)
opened (Some (WithWord row)) = word λ value. Done (word_instr row value)
opened (Some (WithByte row)) = Next λ byte. Done (byte_instr row byte)
opened (Some (WithOperand row)) = Next λ modrm. begun (head_at row (modrm / 8 % 8)) modrm

abbrev pub instruction : Reader
instruction = Next λ opcode. if opcode == 0x0f then (Next λ second. opened (long_row_at second)) else opened (row_at opcode)

-- What the bytes begin with. That it is what the table spells, and nothing else, is what the contract of `decode` says.
unfoldable pub decoded : List ℕ → Decoded
decoded bytes = run instruction 0 bytes
