-- How long spellings are.
use Rattle.std.proofs.Common.{◌≡◌, ℕ, ◌+◌, ◌<◌, ◌≤◌, List, ◌++◌, length, take, Option, Some, None, is_some, if◌then◌else◌, inl, inr, ap, ◌∙◌, arith, length-append}
use Rattle.std.proofs.lemmas.List.{length-take-le}
use Rattle.i386_code.specs.declared.instr.Rm.{Rm}
use Rattle.i386_code.specs.declared.instr.Rm.TheVariants as rms
use Rattle.i386_code.specs.declared.instr.Instr.{Instr}
use Rattle.i386_code.specs.declared.instr.Instr.TheVariants.{StoreByte, Store, Load, LoadImm, StoreImm, ZeroByte, SignByte, Lea, Alu, AluImm, AluShort, Mul, Not, Neg, Div, SignDiv, Cdq, Shift, Push, Pop, Call, Jump, JumpIf, JumpShort, JumpIfShort, SetIf, Ret, Interrupt}
use Rattle.i386_code.specs.declared.instr.Decoded.{Decoded}
use Rattle.i386_code.specs.declared.instr.Decoded.TheVariants.{Is, Short, Unknown}
use Rattle.i386_code.specs.declared.operand.Width.{Width}
use Rattle.i386_code.specs.declared.operand.Width.TheVariants.{Absent, Byte, Word}
use Rattle.i386_code.specs.Operands.{IsDisplacement, IsOperand}
use Rattle.i386_code.specs.Table.{Modrm, constant_bytes, layout_of}
use Rattle.i386_code.specs.Spelling.{IsModrm, Spells, HasShortLength}
use Rattle.i386_code.proofs.Readers.{AreBytes}
use Rattle.i386_code.proofs.Decoding.{read, at_front}

disp_length : (width : Width) (disp : ℕ) (bytes : List ℕ) → IsDisplacement width disp bytes → length bytes ≤ 4
disp_length Absent disp bytes h = rw h.1 (omega arith)
disp_length Byte disp bytes h = rw h.3 (omega arith)
disp_length Word disp bytes h = rw h.1 (omega arith)

operand_length : (field : ℕ) (rm : Rm) (bytes : List ℕ) → IsOperand field rm bytes → length bytes ≤ 6
operand_length field (rms.Reg reg) bytes h = rw h (omega arith)
operand_length field (rms.Mem a) bytes (inl h) = let tail = disp_length h.width a.disp h.tail h.disp in rw h.whole (omega arith)
operand_length field (rms.Mem a) bytes (inr h) = let tail = disp_length h.width a.disp h.tail h.disp in rw h.whole (omega arith)

modrm_length : (modrm : Option Modrm) (bytes : List ℕ) → IsModrm modrm bytes → length bytes ≤ (if is_some modrm then 6 else 0)
modrm_length None bytes h = rw h (omega arith)
modrm_length (Some modrm) bytes h = operand_length modrm.field modrm.operand bytes h

-- the parts of each row
row_length : (instr : Instr) → (0 < length (layout_of instr).opcode) × (length (layout_of instr).opcode + (if is_some (layout_of instr).modrm then 6 else 0) + length (constant_bytes (layout_of instr).constant) ≤ 11)
row_length (StoreByte a b) = (omega arith, omega arith)
row_length (Store a b) = (omega arith, omega arith)
row_length (Load a b) = (omega arith, omega arith)
row_length (LoadImm a b) = (omega arith, omega arith)
row_length (StoreImm a b) = (omega arith, omega arith)
row_length (ZeroByte a b) = (omega arith, omega arith)
row_length (SignByte a b) = (omega arith, omega arith)
row_length (Lea a b) = (omega arith, omega arith)
row_length (Alu a b c) = (omega arith, omega arith)
row_length (AluImm a b c) = (omega arith, omega arith)
row_length (AluShort a b c) = (omega arith, omega arith)
row_length (Mul a b) = (omega arith, omega arith)
row_length (Not a) = (omega arith, omega arith)
row_length (Neg a) = (omega arith, omega arith)
row_length (Div a) = (omega arith, omega arith)
row_length (SignDiv a) = (omega arith, omega arith)
row_length Cdq = (omega arith, omega arith)
row_length (Shift a b) = (omega arith, omega arith)
row_length (Push a) = (omega arith, omega arith)
row_length (Pop a) = (omega arith, omega arith)
row_length (Call a) = (omega arith, omega arith)
row_length (Jump a) = (omega arith, omega arith)
row_length (JumpIf a b) = (omega arith, omega arith)
row_length (JumpShort a) = (omega arith, omega arith)
row_length (JumpIfShort a b) = (omega arith, omega arith)
row_length (SetIf a b) = (omega arith, omega arith)
row_length Ret = (omega arith, omega arith)
row_length (Interrupt a) = (omega arith, omega arith)

spelling_length : (instr : Instr) (bytes : List ℕ) → Spells instr bytes → (0 < length bytes) × (length bytes ≤ 11)
spelling_length instr bytes h =
    let row = row_length instr in
    let operand = modrm_length (layout_of instr).modrm h.operand h.named in
    let whole : length bytes ≡ length (layout_of instr).opcode + (length h.operand + length (constant_bytes (layout_of instr).constant)) = ap (length {A = ℕ}) h.whole ∙ length-append (layout_of instr).opcode (h.operand ++ constant_bytes (layout_of instr).constant) ∙ ap (λ (n : ℕ). length (layout_of instr).opcode + n) (length-append h.operand (constant_bytes (layout_of instr).constant)) in
    (omega arith, omega arith)

pub answer_length : (bytes : List ℕ) → AreBytes bytes → (answer : Decoded) → read bytes ≡ answer → HasShortLength answer
answer_length bytes fit (Is instr count) e =
    let front = at_front bytes fit instr count e in
    let bounds = spelling_length instr (take count bytes) front.1 in
    let counted = length-take-le count bytes front.0 in
    (omega arith, omega arith)
answer_length bytes fit Short e = tt
answer_length bytes fit Unknown e = tt
