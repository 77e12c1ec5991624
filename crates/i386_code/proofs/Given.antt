-- The reader of instructions reads the table's spellings, and each of them.
use Rattle.std.proofs.Common.{◌≡◌, ℕ, zero, suc, ◌+◌, ◌/◌, ◌%◌, ◌<◌, Bool, true, false, cond, if◌then◌else◌, List, [], ◌∷◌, ◌++◌, Option, Some, None, ◌==◌, nat_lt, refl, sym, ap, subst, arith, w8, FitsSigned}
use Rattle.std.specs.Option.{option_map}
use Rattle.std.specs.Int.{cast_signed, cast_unsigned}
use Rattle.std.proofs.Math.Facts.{sfits_to_z}
use Rattle.std.proofs.lemmas.Int.{of_z-to_z}
use Rattle.std.proofs.lemmas.Bool.Decides.{nat_tests}
use Rattle.i386_code.specs.declared.instr.Reg.TheVariants.{Eax, Ecx, Edx, Ebx, Esp, Ebp, Esi, Edi}
use Rattle.i386_code.specs.declared.instr.Rm.{Rm}
use Rattle.i386_code.specs.declared.instr.Rm.TheVariants as rms
use Rattle.i386_code.specs.declared.instr.AluOp.{AluOp}
use Rattle.i386_code.specs.declared.instr.AluOp.TheVariants.{Add, Sub, And, Cmp}
use Rattle.i386_code.specs.declared.instr.ShiftOp.{ShiftOp}
use Rattle.i386_code.specs.declared.instr.ShiftOp.TheVariants.{Shl, Shr, Sar}
use Rattle.i386_code.specs.declared.instr.Instr.{Instr}
use Rattle.i386_code.specs.declared.instr.Instr.TheVariants.{StoreByte, ZeroByte, SignByte, SetIf}
use Rattle.i386_code.specs.declared.rows.Row.{Row}
use Rattle.i386_code.specs.declared.rows.Row.TheVariants.{Plain, WithWord, WithByte, WithOperand}
use Rattle.i386_code.specs.declared.rows.PlainRow.TheVariants as plains
use Rattle.i386_code.specs.declared.rows.WordRow.TheVariants as words
use Rattle.i386_code.specs.declared.rows.ByteRow.TheVariants as bytes
use Rattle.i386_code.specs.declared.rows.OperandRow.{OperandRow}
use Rattle.i386_code.specs.declared.rows.OperandRow.TheVariants as operands
use Rattle.i386_code.specs.declared.rows.Head.{Head}
use Rattle.i386_code.specs.declared.rows.Head.TheVariants as heads
use Rattle.i386_code.specs.Fields.{number_of, reg_at, code_of}
use Rattle.i386_code.specs.Proper.{ProperRm, ProperByte, TakesConstant}
use Rattle.i386_code.specs.Operands.{IsOperand}
use Rattle.i386_code.specs.Table.{alu_digit, shift_digit}
use Rattle.i386_code.specs.Spelling.{Spells}
use Rattle.i386_code.specs.Rows.{row_at, long_row_at, alu_at, shift_at, unary_at, head_at}
use Rattle.i386_code.specs.Reading.{Next, is_byte_operand, ended, finish, begun, opened, instruction}
use Rattle.i386_code.proofs.Readers.{Gives}
use Rattle.i386_code.proofs.Numbers.{number_of-reg_at}
use Rattle.i386_code.proofs.Forms.{gives_word, gives_operand}
use Rattle.i386_code.proofs.Opcodes.{opcode_of, row_back, long_row_back}

-- a byte with a sign, there and back
signed_fits : (b : ℕ) → b < 256 → FitsSigned w8 (cast_signed w8 b)
signed_fits b small = sfits_to_z (record { fits = small })

signed_back : (b : ℕ) → b < 256 → cast_unsigned w8 (cast_signed w8 b) ≡ b
signed_back b small = of_z-to_z w8 b small

-- choices
chosen : {A : Type 0} (b : Bool) (x y : A) → cond b (Some x) None ≡ Some y → (b ≡ true) × (x ≡ y)
chosen true x y e = (refl, cc)
chosen false x y e = absurd cc

mapped : {A B : Type 0} (f : A → B) (o : Option A) (y : B) → option_map f o ≡ Some y → (x : A) × (o ≡ Some x) × (f x ≡ y)
mapped f None y e = absurd cc
mapped f (Some x) y e = (x, refl, cc)

inside : {A : Type 0} (x y : A) → Some x ≡ Some y → x ≡ y
inside x y e = cc

alu_back : (n : ℕ) (op : AluOp) → n < 8 → alu_at n ≡ Some op → TakesConstant op × (alu_digit op ≡ n)
alu_back zero op small e = subst (λ (op : AluOp). TakesConstant op × (alu_digit op ≡ 0)) (inside Add op e) (tt, refl)
alu_back (suc zero) op small e = absurd cc
alu_back (suc (suc zero)) op small e = absurd cc
alu_back (suc (suc (suc zero))) op small e = absurd cc
alu_back (suc (suc (suc (suc zero)))) op small e = subst (λ (op : AluOp). TakesConstant op × (alu_digit op ≡ 4)) (inside And op e) (tt, refl)
alu_back (suc (suc (suc (suc (suc zero))))) op small e = subst (λ (op : AluOp). TakesConstant op × (alu_digit op ≡ 5)) (inside Sub op e) (tt, refl)
alu_back (suc (suc (suc (suc (suc (suc zero)))))) op small e = absurd cc
alu_back (suc (suc (suc (suc (suc (suc (suc zero))))))) op small e = subst (λ (op : AluOp). TakesConstant op × (alu_digit op ≡ 7)) (inside Cmp op e) (tt, refl)
alu_back (suc (suc (suc (suc (suc (suc (suc (suc n)))))))) op small e = absurd (omega arith)

shift_back : (n : ℕ) (op : ShiftOp) → n < 8 → shift_at n ≡ Some op → shift_digit op ≡ n
shift_back zero op small e = absurd cc
shift_back (suc zero) op small e = absurd cc
shift_back (suc (suc zero)) op small e = absurd cc
shift_back (suc (suc (suc zero))) op small e = absurd cc
shift_back (suc (suc (suc (suc zero)))) op small e = subst (λ (op : ShiftOp). shift_digit op ≡ 4) (inside Shl op e) refl
shift_back (suc (suc (suc (suc (suc zero))))) op small e = subst (λ (op : ShiftOp). shift_digit op ≡ 5) (inside Shr op e) refl
shift_back (suc (suc (suc (suc (suc (suc zero)))))) op small e = absurd cc
shift_back (suc (suc (suc (suc (suc (suc (suc zero))))))) op small e = subst (λ (op : ShiftOp). shift_digit op ≡ 7) (inside Sar op e) refl
shift_back (suc (suc (suc (suc (suc (suc (suc (suc n)))))))) op small e = absurd (omega arith)

-- what a head makes of its operand, with the bytes of the operand in front
Finishes : OperandRow → Rm → List ℕ → Head → Type 0
Finishes row rm form head = Gives (finish head rm) (λ s i. Spells i (opcode_of (WithOperand row) ++ (form ++ s)))

unary_gives : (n : ℕ) (head : Head) (rm : Rm) (form : List ℕ) → n < 8 → unary_at n ≡ Some head → ProperRm rm → IsOperand n rm form → Finishes operands.Unary rm form head
unfolding Finishes
unary_gives zero head rm form small e proper named = absurd cc
unary_gives (suc zero) head rm form small e proper named = absurd cc
unary_gives (suc (suc zero)) head rm form small e proper named = subst (λ (h : Head). Gives (finish h rm) (λ s i. Spells i (0xf7 ∷ (form ++ s)))) (inside heads.Not head e) (record { proper = proper; operand = form; named = named; fits = tt; whole = refl })
unary_gives (suc (suc (suc zero))) head rm form small e proper named = subst (λ (h : Head). Gives (finish h rm) (λ s i. Spells i (0xf7 ∷ (form ++ s)))) (inside heads.Neg head e) (record { proper = proper; operand = form; named = named; fits = tt; whole = refl })
unary_gives (suc (suc (suc (suc zero)))) head rm form small e proper named = absurd cc
unary_gives (suc (suc (suc (suc (suc zero))))) head rm form small e proper named = absurd cc
unary_gives (suc (suc (suc (suc (suc (suc zero)))))) head rm form small e proper named = subst (λ (h : Head). Gives (finish h rm) (λ s i. Spells i (0xf7 ∷ (form ++ s)))) (inside heads.Div head e) (record { proper = proper; operand = form; named = named; fits = tt; whole = refl })
unary_gives (suc (suc (suc (suc (suc (suc (suc zero))))))) head rm form small e proper named = subst (λ (h : Head). Gives (finish h rm) (λ s i. Spells i (0xf7 ∷ (form ++ s)))) (inside heads.SignDiv head e) (record { proper = proper; operand = form; named = named; fits = tt; whole = refl })
unary_gives (suc (suc (suc (suc (suc (suc (suc (suc n)))))))) head rm form small e proper named = absurd (omega arith)

-- an operand of one byte: the test that the code makes
byte_gives : (rm : Rm) (instr : Instr) (P : List ℕ → Instr → Type 0) → ProperRm rm → (ProperByte rm → P [] instr) → Gives (ended (if is_byte_operand rm then Some instr else None)) P
byte_gives (rms.Mem address) instr P proper h = h proper
byte_gives (rms.Reg Eax) instr P proper h = h (omega arith)
byte_gives (rms.Reg Ecx) instr P proper h = h (omega arith)
byte_gives (rms.Reg Edx) instr P proper h = h (omega arith)
byte_gives (rms.Reg Ebx) instr P proper h = h (omega arith)
byte_gives (rms.Reg Esp) instr P proper h = tt
byte_gives (rms.Reg Ebp) instr P proper h = tt
byte_gives (rms.Reg Esi) instr P proper h = tt
byte_gives (rms.Reg Edi) instr P proper h = tt

finish_gives : (row : OperandRow) (field : ℕ) (head : Head) (rm : Rm) (form : List ℕ) → field < 8 → head_at row field ≡ Some head → ProperRm rm → IsOperand field rm form → Finishes row rm form head
unfolding Finishes
finish_gives operands.StoreByte field head rm form small e proper named =
    let choice = chosen (nat_lt field 4) (heads.StoreByte (reg_at field)) head e in
    let test = choice.0 in
    let number : number_of (reg_at field) ≡ field = number_of-reg_at field small in
    let below : field < 4 = grind (arith, nat_tests) in
    let low : number_of (reg_at field) < 4 = omega arith in
    subst (Finishes operands.StoreByte rm form) choice.1
    (byte_gives rm (StoreByte rm (reg_at field)) _ proper (λ byte. record { proper = (byte, low); operand = form; named = subst (λ (n : ℕ). IsOperand n rm form) (sym (number_of-reg_at field small)) named; fits = tt; whole = refl }))
finish_gives operands.Store field head rm form small e proper named = subst (Finishes operands.Store rm form) (inside (heads.Store (reg_at field)) head e)
    (record { proper = proper; operand = form; named = subst (λ (n : ℕ). IsOperand n rm form) (sym (number_of-reg_at field small)) named; fits = tt; whole = refl })
finish_gives operands.Load field head rm form small e proper named = subst (Finishes operands.Load rm form) (inside (heads.Load (reg_at field)) head e)
    (record { proper = proper; operand = form; named = subst (λ (n : ℕ). IsOperand n rm form) (sym (number_of-reg_at field small)) named; fits = tt; whole = refl })
finish_gives operands.StoreImm field head rm form small e proper named =
    let choice = chosen (field == 0) heads.StoreImm head e in
    let test = choice.0 in
    let is : field ≡ 0 = grind (arith, nat_tests) in
    subst (Finishes operands.StoreImm rm form) choice.1
    (gives_word _ _ (λ value fits. record { proper = proper; operand = form; named = subst (λ (n : ℕ). IsOperand n rm form) is named; fits = fits; whole = refl }))
finish_gives operands.ZeroByte field head rm form small e proper named = subst (Finishes operands.ZeroByte rm form) (inside (heads.ZeroByte (reg_at field)) head e)
    (byte_gives rm (ZeroByte (reg_at field) rm) _ proper (λ low. record { proper = low; operand = form; named = subst (λ (n : ℕ). IsOperand n rm form) (sym (number_of-reg_at field small)) named; fits = tt; whole = refl }))
finish_gives operands.SignByte field head rm form small e proper named = subst (Finishes operands.SignByte rm form) (inside (heads.SignByte (reg_at field)) head e)
    (byte_gives rm (SignByte (reg_at field) rm) _ proper (λ low. record { proper = low; operand = form; named = subst (λ (n : ℕ). IsOperand n rm form) (sym (number_of-reg_at field small)) named; fits = tt; whole = refl }))
finish_gives operands.Lea field head (rms.Reg reg) form small e proper named = subst (Finishes operands.Lea (rms.Reg reg) form) (inside (heads.Lea (reg_at field)) head e) tt
finish_gives operands.Lea field head (rms.Mem address) form small e proper named = subst (Finishes operands.Lea (rms.Mem address) form) (inside (heads.Lea (reg_at field)) head e)
    (record { proper = proper; operand = form; named = subst (λ (n : ℕ). IsOperand n (rms.Mem address) form) (sym (number_of-reg_at field small)) named; fits = tt; whole = refl })
finish_gives (operands.Alu op) field head rm form small e proper named = subst (Finishes (operands.Alu op) rm form) (inside (heads.Alu op (reg_at field)) head e)
    (record { proper = proper; operand = form; named = subst (λ (n : ℕ). IsOperand n rm form) (sym (number_of-reg_at field small)) named; fits = tt; whole = refl })
finish_gives operands.AluImm field head rm form small e proper named =
    let choice = mapped (λ op. heads.AluImm op) (alu_at field) head e in
    let row = alu_back field choice.0 small choice.1 in
    subst (Finishes operands.AluImm rm form) choice.2
    (gives_word _ _ (λ value fits. record { proper = (row.0, proper); operand = form; named = subst (λ (n : ℕ). IsOperand n rm form) (sym row.1) named; fits = fits; whole = refl }))
finish_gives operands.AluShort field head rm form small e proper named =
    let choice = mapped (λ op. heads.AluShort op) (alu_at field) head e in
    let row = alu_back field choice.0 small choice.1 in
    subst (Finishes operands.AluShort rm form) choice.2
    (λ b fits. record { proper = (row.0, proper); operand = form; named = subst (λ (n : ℕ). IsOperand n rm form) (sym row.1) named; fits = signed_fits b fits; whole = ap (λ (v : ℕ). 0x83 ∷ (form ++ v ∷ [])) (sym (signed_back b fits)) })
finish_gives operands.Mul field head rm form small e proper named = subst (Finishes operands.Mul rm form) (inside (heads.Mul (reg_at field)) head e)
    (record { proper = proper; operand = form; named = subst (λ (n : ℕ). IsOperand n rm form) (sym (number_of-reg_at field small)) named; fits = tt; whole = refl })
finish_gives operands.Unary field head rm form small e proper named = unary_gives field head rm form small e proper named
finish_gives operands.Shift field head rm form small e proper named =
    let choice = mapped (λ op. heads.Shift op) (shift_at field) head e in
    let digit = shift_back field choice.0 small choice.1 in
    subst (Finishes operands.Shift rm form) choice.2
    (record { proper = proper; operand = form; named = subst (λ (n : ℕ). IsOperand n rm form) (sym digit) named; fits = tt; whole = refl })
finish_gives (operands.SetIf cond) field head rm form small e proper named =
    let choice = chosen (field == 0) (heads.SetIf cond) head e in
    let test = choice.0 in
    let is : field ≡ 0 = grind (arith, nat_tests) in
    subst (Finishes (operands.SetIf cond) rm form) choice.1
    (byte_gives rm (SetIf cond rm) _ proper (λ low. record { proper = low; operand = form; named = subst (λ (n : ℕ). IsOperand n rm form) is named; fits = tt; whole = refl }))

begun_gives : (row : OperandRow) (modrm : ℕ) → modrm < 256 → (h : Option Head) → head_at row (modrm / 8 % 8) ≡ h → Gives (begun h modrm) (λ s i. Spells i (opcode_of (WithOperand row) ++ (modrm ∷ s)))
begun_gives row modrm small None e = tt
begun_gives row modrm small (Some head) e =
    gives_operand modrm small (finish head) (λ s i. Spells i (opcode_of (WithOperand row) ++ s)) (λ rm form proper named.
    finished row (modrm / 8 % 8) head rm form (omega arith) e proper named)
  where
    finished : (row : OperandRow) (field : ℕ) (head : Head) (rm : Rm) (form : List ℕ) → field < 8 → head_at row field ≡ Some head → ProperRm rm → IsOperand field rm form → Gives (finish head rm) (λ s i. Spells i (opcode_of (WithOperand row) ++ (form ++ s)))
    finished row field head rm form small e proper named = unfold Finishes in finish_gives row field head rm form small e proper named

opened_gives : (row : Row) → Gives (opened (Some row)) (λ s i. Spells i (opcode_of row ++ s))
opened_gives (Plain (plains.Push reg)) = record { proper = tt; operand = []; named = refl; fits = tt; whole = refl }
opened_gives (Plain (plains.Pop reg)) = record { proper = tt; operand = []; named = refl; fits = tt; whole = refl }
opened_gives (Plain plains.Cdq) = record { proper = tt; operand = []; named = refl; fits = tt; whole = refl }
opened_gives (Plain plains.Ret) = record { proper = tt; operand = []; named = refl; fits = tt; whole = refl }
opened_gives (WithWord (words.LoadImm reg)) = gives_word _ _ (λ value fits. record { proper = tt; operand = []; named = refl; fits = fits; whole = refl })
opened_gives (WithWord words.Call) = gives_word _ _ (λ value fits. record { proper = tt; operand = []; named = refl; fits = fits; whole = refl })
opened_gives (WithWord words.Jump) = gives_word _ _ (λ value fits. record { proper = tt; operand = []; named = refl; fits = fits; whole = refl })
opened_gives (WithWord (words.JumpIf cond)) = gives_word _ _ (λ value fits. record { proper = tt; operand = []; named = refl; fits = fits; whole = refl })
opened_gives (WithByte bytes.JumpShort) = λ b fits. record { proper = tt; operand = []; named = refl; fits = signed_fits b fits; whole = ap (λ (v : ℕ). 0xeb ∷ v ∷ []) (sym (signed_back b fits)) }
opened_gives (WithByte (bytes.JumpIfShort cond)) = λ b fits. record { proper = tt; operand = []; named = refl; fits = signed_fits b fits; whole = ap (λ (v : ℕ). (0x70 + code_of cond) ∷ v ∷ []) (sym (signed_back b fits)) }
opened_gives (WithByte bytes.Interrupt) = λ b fits. record { proper = tt; operand = []; named = refl; fits = fits; whole = refl }
opened_gives (WithOperand row) = λ modrm small. begun_gives row modrm small (head_at row (modrm / 8 % 8)) refl

-- What the reader gives is a spelling.
pub instruction_gives : Gives instruction (λ s i. Spells i s)
instruction_gives opcode small = by_test (opcode == 0x0f) refl
  where
    long_row : (second : ℕ) → second < 256 → (row : Option Row) → long_row_at second ≡ row → Gives (opened row) (λ s i. Spells i (0x0f ∷ second ∷ s))
    long_row second fits None e = tt
    long_row second fits (Some row) e = subst (λ (w : List ℕ). Gives (opened (Some row)) (λ s i. Spells i (w ++ s))) (long_row_back second fits row e) (opened_gives row)

    short_row : (row : Option Row) → row_at opcode ≡ row → Gives (opened row) (λ s i. Spells i (opcode ∷ s))
    short_row None e = tt
    short_row (Some row) e = subst (λ (w : List ℕ). Gives (opened (Some row)) (λ s i. Spells i (w ++ s))) (row_back opcode small row e) (opened_gives row)

    by_test : (b : Bool) → (opcode == 0x0f) ≡ b → Gives (cond b (Next λ second. opened (long_row_at second)) (opened (row_at opcode))) (λ s i. Spells i (opcode ∷ s))
    by_test true test =
        let is : opcode ≡ 0x0f = grind (arith, nat_tests) in
        λ second fits. subst (λ (n : ℕ). Gives (opened (long_row_at second)) (λ s i. Spells i (n ∷ second ∷ s))) (sym is) (long_row second fits (long_row_at second) refl)
    by_test false test = short_row (row_at opcode) refl
