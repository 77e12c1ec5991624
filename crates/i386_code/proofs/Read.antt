-- The reader of instructions reads each spelling of the table, and each byte that it wants may lead on.
use Rattle.std.proofs.Common.{◌≡◌, ℕ, ℤ, suc, ◌+◌, ◌/◌, ◌%◌, ◌^◌, ◌<◌, Bool, true, false, cond, if◌then◌else◌, List, [], ◌∷◌, ◌++◌, length, Option, Some, None, ◌==◌, zero-add, length-append, refl, sym, ap, ◌∙◌, arith, w8, FitsSigned}
use Rattle.std.specs.Option.{option_map}
use Rattle.std.specs.Int.{cast_signed, cast_unsigned}
use Rattle.std.proofs.lemmas.Int.{to_z-of_z}
use Rattle.cc_base.specs.Words.{word_bytes}
use Rattle.i386_code.specs.declared.instr.Reg.{Reg}
use Rattle.i386_code.specs.declared.instr.Reg.TheVariants.{Eax, Ecx, Edx, Ebx, Esp, Ebp, Esi, Edi}
use Rattle.i386_code.specs.declared.instr.Address.{Address}
use Rattle.i386_code.specs.declared.instr.Rm.{Rm}
use Rattle.i386_code.specs.declared.instr.Rm.TheVariants as rms
use Rattle.i386_code.specs.declared.instr.AluOp.{AluOp}
use Rattle.i386_code.specs.declared.instr.AluOp.TheVariants.{Add, Sub, And, Or, Xor, Cmp, Test}
use Rattle.i386_code.specs.declared.instr.ShiftOp.{ShiftOp}
use Rattle.i386_code.specs.declared.instr.ShiftOp.TheVariants.{Shl, Shr, Sar}
use Rattle.i386_code.specs.declared.instr.Instr.{Instr}
use Rattle.i386_code.specs.declared.instr.Instr.TheVariants.{StoreByte, Store, Load, LoadImm, StoreImm, ZeroByte, SignByte, Lea, Alu, AluImm, AluShort, Mul, Not, Neg, Div, SignDiv, Cdq, Shift, Push, Pop, Call, Jump, JumpIf, JumpShort, JumpIfShort, SetIf, Ret, Interrupt}
use Rattle.i386_code.specs.declared.instr.Decoded.TheVariants.{Is}
use Rattle.i386_code.specs.declared.rows.Row.{Row}
use Rattle.i386_code.specs.declared.rows.Row.TheVariants.{Plain, WithWord, WithByte, WithOperand}
use Rattle.i386_code.specs.declared.rows.PlainRow.TheVariants as plains
use Rattle.i386_code.specs.declared.rows.WordRow.TheVariants as words
use Rattle.i386_code.specs.declared.rows.ByteRow.TheVariants as byte_rows
use Rattle.i386_code.specs.declared.rows.OperandRow.{OperandRow}
use Rattle.i386_code.specs.declared.rows.OperandRow.TheVariants as operands
use Rattle.i386_code.specs.declared.rows.Head.{Head}
use Rattle.i386_code.specs.declared.rows.Head.TheVariants as heads
use Rattle.i386_code.specs.Fields.{number_of, reg_at}
use Rattle.i386_code.specs.Proper.{HasLowByte, ProperRm, ProperByte, TakesConstant}
use Rattle.i386_code.specs.Operands.{IsOperand}
use Rattle.i386_code.specs.Table.{alu_digit, shift_digit}
use Rattle.i386_code.specs.Spelling.{Spells}
use Rattle.i386_code.specs.Rows.{row_at, long_row_at, alu_at, shift_at, head_at}
use Rattle.i386_code.specs.Reading.{Done, Next, run, word, operand, is_byte_operand, instr_of, ended, finish, begun, opened, instruction, displacement}
use Rattle.i386_code.proofs.Readers.{IsLive, IsSure}
use Rattle.i386_code.proofs.Numbers.{number_below, reg_at-number_of}
use Rattle.i386_code.proofs.Forms.{word_back, operand_leads, zero_fits, live_word, sure_word, sure_operand}
use Rattle.i386_code.proofs.Opcodes.{opcode_of, opened_at}

-- a count of no more bytes
none_more : (instr : Instr) (n : ℕ) → Is instr n ≡ Is instr (0 + n)
none_more instr n = ap (Is instr) (sym (zero-add n))

-- tests of one-byte operands
byte_test : (rm : Rm) → ProperByte rm → is_byte_operand rm ≡ true
byte_test (rms.Mem address) h = refl
byte_test (rms.Reg Eax) h = refl
byte_test (rms.Reg Ecx) h = refl
byte_test (rms.Reg Edx) h = refl
byte_test (rms.Reg Ebx) h = refl
byte_test (rms.Reg Esp) h = absurd (omega arith)
byte_test (rms.Reg Ebp) h = absurd (omega arith)
byte_test (rms.Reg Esi) h = absurd (omega arith)
byte_test (rms.Reg Edi) h = absurd (omega arith)

pub byte_proper : (rm : Rm) → ProperByte rm → ProperRm rm
byte_proper (rms.Reg reg) h = tt
byte_proper (rms.Mem address) h = h

byte_ends : (rm : Rm) (instr : Instr) → ProperByte rm → (n : ℕ) → run (ended (if is_byte_operand rm then Some instr else None)) n [] ≡ Is instr (0 + n)
byte_ends rm instr h n = ap (λ (b : Bool). run (ended (if b then Some instr else None)) n []) (byte_test rm h) ∙ none_more instr n

-- the heads that the reg field of a spelling gives
byte_head : (reg : Reg) → HasLowByte reg → head_at operands.StoreByte (number_of reg) ≡ Some (heads.StoreByte reg)
byte_head Eax h = refl
byte_head Ecx h = refl
byte_head Edx h = refl
byte_head Ebx h = refl
byte_head Esp h = absurd (omega arith)
byte_head Ebp h = absurd (omega arith)
byte_head Esi h = absurd (omega arith)
byte_head Edi h = absurd (omega arith)

reg_head : (make : Reg → Head) (reg : Reg) → Some (make (reg_at (number_of reg))) ≡ Some (make reg)
reg_head make reg = ap (λ (r : Reg). Some (make r)) (reg_at-number_of reg)

alu_head : (op : AluOp) → TakesConstant op → (alu_at (alu_digit op) ≡ Some op) × (alu_digit op < 8)
alu_head Add h = (refl, omega arith)
alu_head And h = (refl, omega arith)
alu_head Sub h = (refl, omega arith)
alu_head Cmp h = (refl, omega arith)
alu_head Or h = absurd h
alu_head Xor h = absurd h
alu_head Test h = absurd h

shift_head : (op : ShiftOp) → (shift_at (shift_digit op) ≡ Some op) × (shift_digit op < 8)
shift_head Shl = (refl, omega arith)
shift_head Shr = (refl, omega arith)
shift_head Sar = (refl, omega arith)

-- behind the opcode of a row with an operand
behind_operand : (row : OperandRow) (head : Head) (field : ℕ) (rm : Rm) (form rest : List ℕ) (instr : Instr) → head_at row field ≡ Some head → field < 8 → ProperRm rm → IsOperand field rm form → ((n : ℕ) → run (finish head rm) n rest ≡ Is instr (length rest + n)) → (n : ℕ) → run (opened (Some (WithOperand row))) n (form ++ rest) ≡ Is instr (length (form ++ rest) + n)
behind_operand row head field rm form rest instr at small proper named finishes n =
    let lead = operand_leads field rm form small proper named in
    let at_modrm : head_at row (lead.modrm / 8 % 8) ≡ Some head = ap (head_at row) lead.field_is ∙ at in
    let counted : length rest + (length lead.tail + suc n) ≡ length (form ++ rest) + n = counting form lead.modrm lead.tail rest n lead.whole in
    ap (λ (f : List ℕ). run (opened (Some (WithOperand row))) n (f ++ rest)) lead.whole
    ∙ ap (λ (h : Option Head). run (begun h lead.modrm) (suc n) (lead.tail ++ rest)) at_modrm
    ∙ lead.leads (finish head) (suc n) rest
    ∙ finishes (length lead.tail + suc n)
    ∙ ap (Is instr) counted
  where
    counting : (form : List ℕ) (first : ℕ) (tail rest : List ℕ) (n : ℕ) → form ≡ first ∷ tail → length rest + (length tail + suc n) ≡ length (form ++ rest) + n
    counting form first tail rest n e = rw (e, length-append) (omega arith)

-- the whole, from its parts
together : (row : Row) (instr : Instr) (bytes rest : List ℕ) → bytes ≡ opcode_of row ++ rest → run (opened (Some row)) (length (opcode_of row)) rest ≡ Is instr (length rest + length (opcode_of row)) → run instruction 0 bytes ≡ Is instr (length bytes)
together row instr bytes rest whole e =
    let counted : length rest + length (opcode_of row) ≡ length bytes = rw (whole, length-append) (omega arith) in
    ap (run instruction 0) whole ∙ opened_at row rest ∙ e ∙ ap (Is instr) counted

no_operand : (row : Row) (instr : Instr) (bytes rest form : List ℕ) → form ≡ [] → bytes ≡ opcode_of row ++ (form ++ rest) → run (opened (Some row)) (length (opcode_of row)) rest ≡ Is instr (length rest + length (opcode_of row)) → run instruction 0 bytes ≡ Is instr (length bytes)
no_operand row instr bytes rest form e whole ends = together row instr bytes rest (whole ∙ ap (λ (f : List ℕ). opcode_of row ++ (f ++ rest)) e) ends

by_operand : (row : OperandRow) (head : Head) (field : ℕ) (rm : Rm) (rest : List ℕ) (instr : Instr) (form bytes : List ℕ) → bytes ≡ opcode_of (WithOperand row) ++ (form ++ rest) → head_at row field ≡ Some head → field < 8 → ProperRm rm → IsOperand field rm form → ((n : ℕ) → run (finish head rm) n rest ≡ Is instr (length rest + n)) → run instruction 0 bytes ≡ Is instr (length bytes)
by_operand row head field rm rest instr form bytes whole at small proper named finishes =
    together (WithOperand row) instr bytes (form ++ rest) whole (behind_operand row head field rm form rest instr at small proper named finishes (length (opcode_of (WithOperand row))))

word_ends : (make : ℕ → Instr) (value : ℕ) → value < 2 ^ 32 → (n : ℕ) → run (word λ v. Done (make v)) n (word_bytes value) ≡ Is (make value) (4 + n)
word_ends make value fits n = word_back (λ v. Done (make v)) n [] value fits

signed_ends : (make : ℤ → Instr) (value : ℤ) → FitsSigned w8 value → (n : ℕ) → Is (make (cast_signed w8 (cast_unsigned w8 value))) (suc n) ≡ Is (make value) (1 + n)
signed_ends make value fits n = ap (λ (v : ℤ). Is (make v) (suc n)) (to_z-of_z w8 value fits) ∙ ap (Is (make value)) (omega arith)

-- Each spelling is read whole.
pub spelling_read : (instr : Instr) (bytes : List ℕ) → Spells instr bytes → run instruction 0 bytes ≡ Is instr (length bytes)
spelling_read (StoreByte to from) bytes h = by_operand operands.StoreByte (heads.StoreByte from) (number_of from) to [] (StoreByte to from) h.operand bytes h.whole (byte_head from h.proper.1) (number_below from) (byte_proper to h.proper.0) h.named (byte_ends to (StoreByte to from) h.proper.0)
spelling_read (Store to from) bytes h = by_operand operands.Store (heads.Store from) (number_of from) to [] (Store to from) h.operand bytes h.whole (reg_head (λ r. heads.Store r) from) (number_below from) h.proper h.named (none_more (Store to from))
spelling_read (Load to from) bytes h = by_operand operands.Load (heads.Load to) (number_of to) from [] (Load to from) h.operand bytes h.whole (reg_head (λ r. heads.Load r) to) (number_below to) h.proper h.named (none_more (Load to from))
spelling_read (LoadImm to value) bytes h = no_operand (WithWord (words.LoadImm to)) (LoadImm to value) bytes (word_bytes value) h.operand h.named h.whole (word_ends (λ v. LoadImm to v) value h.fits 1)
spelling_read (StoreImm to value) bytes h = by_operand operands.StoreImm heads.StoreImm 0 to (word_bytes value) (StoreImm to value) h.operand bytes h.whole refl (omega arith) h.proper h.named (word_ends (λ v. StoreImm to v) value h.fits)
spelling_read (ZeroByte to from) bytes h = by_operand operands.ZeroByte (heads.ZeroByte to) (number_of to) from [] (ZeroByte to from) h.operand bytes h.whole (reg_head (λ r. heads.ZeroByte r) to) (number_below to) (byte_proper from h.proper) h.named (byte_ends from (ZeroByte to from) h.proper)
spelling_read (SignByte to from) bytes h = by_operand operands.SignByte (heads.SignByte to) (number_of to) from [] (SignByte to from) h.operand bytes h.whole (reg_head (λ r. heads.SignByte r) to) (number_below to) (byte_proper from h.proper) h.named (byte_ends from (SignByte to from) h.proper)
spelling_read (Lea to from) bytes h = by_operand operands.Lea (heads.Lea to) (number_of to) (rms.Mem from) [] (Lea to from) h.operand bytes h.whole (reg_head (λ r. heads.Lea r) to) (number_below to) h.proper h.named (none_more (Lea to from))
spelling_read (Alu op to from) bytes h = by_operand (operands.Alu op) (heads.Alu op from) (number_of from) to [] (Alu op to from) h.operand bytes h.whole (reg_head (λ r. heads.Alu op r) from) (number_below from) h.proper h.named (none_more (Alu op to from))
spelling_read (AluImm op to value) bytes h =
    let digit = alu_head op h.proper.0 in
    by_operand operands.AluImm (heads.AluImm op) (alu_digit op) to (word_bytes value) (AluImm op to value) h.operand bytes h.whole (ap (option_map (λ op. heads.AluImm op)) digit.0) digit.1 h.proper.1 h.named (word_ends (λ v. AluImm op to v) value h.fits)
spelling_read (AluShort op to value) bytes h =
    let digit = alu_head op h.proper.0 in
    by_operand operands.AluShort (heads.AluShort op) (alu_digit op) to (cast_unsigned w8 value ∷ []) (AluShort op to value) h.operand bytes h.whole (ap (option_map (λ op. heads.AluShort op)) digit.0) digit.1 h.proper.1 h.named (signed_ends (λ v. AluShort op to v) value h.fits)
spelling_read (Mul to from) bytes h = by_operand operands.Mul (heads.Mul to) (number_of to) from [] (Mul to from) h.operand bytes h.whole (reg_head (λ r. heads.Mul r) to) (number_below to) h.proper h.named (none_more (Mul to from))
spelling_read (Not to) bytes h = by_operand operands.Unary heads.Not 2 to [] (Not to) h.operand bytes h.whole refl (omega arith) h.proper h.named (none_more (Not to))
spelling_read (Neg to) bytes h = by_operand operands.Unary heads.Neg 3 to [] (Neg to) h.operand bytes h.whole refl (omega arith) h.proper h.named (none_more (Neg to))
spelling_read (Div to) bytes h = by_operand operands.Unary heads.Div 6 to [] (Div to) h.operand bytes h.whole refl (omega arith) h.proper h.named (none_more (Div to))
spelling_read (SignDiv to) bytes h = by_operand operands.Unary heads.SignDiv 7 to [] (SignDiv to) h.operand bytes h.whole refl (omega arith) h.proper h.named (none_more (SignDiv to))
spelling_read Cdq bytes h = no_operand (Plain plains.Cdq) Cdq bytes [] h.operand h.named h.whole refl
spelling_read (Shift op to) bytes h =
    let digit = shift_head op in
    by_operand operands.Shift (heads.Shift op) (shift_digit op) to [] (Shift op to) h.operand bytes h.whole (ap (option_map (λ op. heads.Shift op)) digit.0) digit.1 h.proper h.named (none_more (Shift op to))
spelling_read (Push from) bytes h = no_operand (Plain (plains.Push from)) (Push from) bytes [] h.operand h.named h.whole refl
spelling_read (Pop to) bytes h = no_operand (Plain (plains.Pop to)) (Pop to) bytes [] h.operand h.named h.whole refl
spelling_read (Call by) bytes h = no_operand (WithWord words.Call) (Call by) bytes (word_bytes by) h.operand h.named h.whole (word_ends (λ v. Call v) by h.fits 1)
spelling_read (Jump by) bytes h = no_operand (WithWord words.Jump) (Jump by) bytes (word_bytes by) h.operand h.named h.whole (word_ends (λ v. Jump v) by h.fits 1)
spelling_read (JumpIf cond by) bytes h = no_operand (WithWord (words.JumpIf cond)) (JumpIf cond by) bytes (word_bytes by) h.operand h.named h.whole (word_ends (λ v. JumpIf cond v) by h.fits 2)
spelling_read (JumpShort by) bytes h = no_operand (WithByte byte_rows.JumpShort) (JumpShort by) bytes (cast_unsigned w8 by ∷ []) h.operand h.named h.whole (signed_ends (λ v. JumpShort v) by h.fits 1)
spelling_read (JumpIfShort cond by) bytes h = no_operand (WithByte (byte_rows.JumpIfShort cond)) (JumpIfShort cond by) bytes (cast_unsigned w8 by ∷ []) h.operand h.named h.whole (signed_ends (λ v. JumpIfShort cond v) by h.fits 1)
spelling_read (SetIf cond to) bytes h = by_operand (operands.SetIf cond) (heads.SetIf cond) 0 to [] (SetIf cond to) h.operand bytes h.whole refl (omega arith) (byte_proper to h.proper) h.named (byte_ends to (SetIf cond to) h.proper)
spelling_read Ret bytes h = no_operand (Plain plains.Ret) Ret bytes [] h.operand h.named h.whole refl
spelling_read (Interrupt number) bytes h = no_operand (WithByte byte_rows.Interrupt) (Interrupt number) bytes (number ∷ []) h.operand h.named h.whole refl

-- Where the reader wants a byte, some lead on.
sure_ended : (o : Option Instr) → IsSure (ended o)
sure_ended None = tt
sure_ended (Some instr) = tt

sure_finish : (head : Head) (rm : Rm) → IsSure (finish head rm)
sure_finish (heads.StoreByte a) rm = sure_ended (instr_of (heads.StoreByte a) rm)
sure_finish (heads.Store a) rm = sure_ended (instr_of (heads.Store a) rm)
sure_finish (heads.Load a) rm = sure_ended (instr_of (heads.Load a) rm)
sure_finish heads.StoreImm rm = sure_word _ (λ _. tt) (λ _. tt)
sure_finish (heads.ZeroByte a) rm = sure_ended (instr_of (heads.ZeroByte a) rm)
sure_finish (heads.SignByte a) rm = sure_ended (instr_of (heads.SignByte a) rm)
sure_finish (heads.Lea a) rm = sure_ended (instr_of (heads.Lea a) rm)
sure_finish (heads.Alu a b) rm = sure_ended (instr_of (heads.Alu a b) rm)
sure_finish (heads.AluImm a) rm = sure_word _ (λ _. tt) (λ _. tt)
sure_finish (heads.AluShort a) rm = ((0, zero_fits, tt), λ _. tt)
sure_finish (heads.Mul a) rm = sure_ended (instr_of (heads.Mul a) rm)
sure_finish heads.Not rm = sure_ended (instr_of heads.Not rm)
sure_finish heads.Neg rm = sure_ended (instr_of heads.Neg rm)
sure_finish heads.Div rm = sure_ended (instr_of heads.Div rm)
sure_finish heads.SignDiv rm = sure_ended (instr_of heads.SignDiv rm)
sure_finish (heads.Shift a) rm = sure_ended (instr_of (heads.Shift a) rm)
sure_finish (heads.SetIf a) rm = sure_ended (instr_of (heads.SetIf a) rm)

live_finish : (head : Head) (address : Address) → IsLive (finish head (rms.Mem address))
live_finish (heads.StoreByte a) address = tt
live_finish (heads.Store a) address = tt
live_finish (heads.Load a) address = tt
live_finish heads.StoreImm address = live_word _ (λ _. tt)
live_finish (heads.ZeroByte a) address = tt
live_finish (heads.SignByte a) address = tt
live_finish (heads.Lea a) address = tt
live_finish (heads.Alu a b) address = tt
live_finish (heads.AluImm a) address = live_word _ (λ _. tt)
live_finish (heads.AluShort a) address = (0, zero_fits, tt)
live_finish (heads.Mul a) address = tt
live_finish heads.Not address = tt
live_finish heads.Neg address = tt
live_finish heads.Div address = tt
live_finish heads.SignDiv address = tt
live_finish (heads.Shift a) address = tt
live_finish (heads.SetIf a) address = tt

sure_begun : (head : Option Head) (modrm : ℕ) → IsSure (begun head modrm)
sure_begun None modrm = tt
sure_begun (Some head) modrm = sure_operand modrm (finish head) (live_finish head) (sure_finish head)

-- a ModRM byte of mod 0 and rm 0, with a reg field that the row takes
live_begun : (row : OperandRow) → (modrm : ℕ) × (modrm < 256) × IsLive (begun (head_at row (modrm / 8 % 8)) modrm)
unfolding operand displacement
live_begun operands.StoreByte = (0, omega arith, tt)
live_begun operands.Store = (0, omega arith, tt)
live_begun operands.Load = (0, omega arith, tt)
live_begun operands.StoreImm = (0, omega arith, live_word _ (λ _. tt))
live_begun operands.ZeroByte = (0, omega arith, tt)
live_begun operands.SignByte = (0, omega arith, tt)
live_begun operands.Lea = (0, omega arith, tt)
live_begun (operands.Alu a) = (0, omega arith, tt)
live_begun operands.AluImm = (0, omega arith, live_word _ (λ _. tt))
live_begun operands.AluShort = (0, omega arith, (0, zero_fits, tt))
live_begun operands.Mul = (0, omega arith, tt)
live_begun operands.Unary = (16, omega arith, tt)
live_begun operands.Shift = (32, omega arith, tt)
live_begun (operands.SetIf a) = (0, omega arith, tt)

sure_opened : (row : Option Row) → IsSure (opened row)
sure_opened None = tt
sure_opened (Some (Plain row)) = tt
sure_opened (Some (WithWord row)) = sure_word _ (λ _. tt) (λ _. tt)
sure_opened (Some (WithByte row)) = ((0, zero_fits, tt), λ _. tt)
sure_opened (Some (WithOperand row)) = (live_begun row, λ modrm. sure_begun (head_at row (modrm / 8 % 8)) modrm)

pub instruction_sure : IsSure instruction
unfolding row_at long_row_at
instruction_sure = ((0xc3, omega arith, tt), λ opcode. by_test opcode (opcode == 0x0f))
  where
    by_test : (opcode : ℕ) (b : Bool) → IsSure (cond b (Next λ second. opened (long_row_at second)) (opened (row_at opcode)))
    by_test opcode true = ((0x82, omega arith, live_word _ (λ _. tt)), λ second. sure_opened (long_row_at second))
    by_test opcode false = sure_opened (row_at opcode)
