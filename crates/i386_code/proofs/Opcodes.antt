-- Opcodes: the row of each, by a test that the checker computes, and the opcode of each row.
use Rattle.std.proofs.Common.{◌≡◌, ℕ, zero, suc, ◌+◌, ◌<◌, Bool, true, false, ◌&&◌, cond, List, [], ◌∷◌, ◌++◌, length, Option, Some, None, ◌==◌, refl, sym, ap, ◌∙◌, arith}
use Rattle.std.proofs.lemmas.Bool.Decides.{nat_tests}
use Rattle.i386_code.specs.declared.instr.Reg.TheVariants.{Eax, Ecx, Edx, Ebx, Esp, Ebp, Esi, Edi}
use Rattle.i386_code.specs.declared.instr.Cond.TheVariants.{B, Ae, E, Ne, Be, A, L, Ge, Le, G}
use Rattle.i386_code.specs.declared.instr.AluOp.TheVariants.{Add, Sub, And, Or, Xor, Cmp, Test}
use Rattle.i386_code.specs.declared.rows.Row.{Row}
use Rattle.i386_code.specs.declared.rows.Row.TheVariants.{Plain, WithWord, WithByte, WithOperand}
use Rattle.i386_code.specs.declared.rows.PlainRow.TheVariants as plains
use Rattle.i386_code.specs.declared.rows.WordRow.TheVariants as words
use Rattle.i386_code.specs.declared.rows.ByteRow.TheVariants as bytes
use Rattle.i386_code.specs.declared.rows.OperandRow.TheVariants as operands
use Rattle.i386_code.specs.Fields.{number_of, code_of}
use Rattle.i386_code.specs.Table.{alu_opcode}
use Rattle.i386_code.specs.Rows.{row_at, long_row_at}
use Rattle.i386_code.specs.Reading.{run, opened, instruction}

-- the opcode of a row
abbrev pub opcode_of : Row → List ℕ
opcode_of (Plain (plains.Push reg)) = (0x50 + number_of reg) ∷ []
opcode_of (Plain (plains.Pop reg)) = (0x58 + number_of reg) ∷ []
opcode_of (Plain plains.Cdq) = 0x99 ∷ []
opcode_of (Plain plains.Ret) = 0xc3 ∷ []
opcode_of (WithWord (words.LoadImm reg)) = (0xb8 + number_of reg) ∷ []
opcode_of (WithWord words.Call) = 0xe8 ∷ []
opcode_of (WithWord words.Jump) = 0xe9 ∷ []
opcode_of (WithWord (words.JumpIf cond)) = 0x0f ∷ (0x80 + code_of cond) ∷ []
opcode_of (WithByte bytes.JumpShort) = 0xeb ∷ []
opcode_of (WithByte (bytes.JumpIfShort cond)) = (0x70 + code_of cond) ∷ []
opcode_of (WithByte bytes.Interrupt) = 0xcd ∷ []
opcode_of (WithOperand operands.StoreByte) = 0x88 ∷ []
opcode_of (WithOperand operands.Store) = 0x89 ∷ []
opcode_of (WithOperand operands.Load) = 0x8b ∷ []
opcode_of (WithOperand operands.StoreImm) = 0xc7 ∷ []
opcode_of (WithOperand operands.ZeroByte) = 0x0f ∷ 0xb6 ∷ []
opcode_of (WithOperand operands.SignByte) = 0x0f ∷ 0xbe ∷ []
opcode_of (WithOperand operands.Lea) = 0x8d ∷ []
opcode_of (WithOperand (operands.Alu op)) = alu_opcode op ∷ []
opcode_of (WithOperand operands.AluImm) = 0x81 ∷ []
opcode_of (WithOperand operands.AluShort) = 0x83 ∷ []
opcode_of (WithOperand operands.Mul) = 0x0f ∷ 0xaf ∷ []
opcode_of (WithOperand operands.Unary) = 0xf7 ∷ []
opcode_of (WithOperand operands.Shift) = 0xd3 ∷ []
opcode_of (WithOperand (operands.SetIf cond)) = 0x0f ∷ (0x90 + code_of cond) ∷ []

-- what holds of each number below one, as a test
below_all : ℕ → (ℕ → Bool) → Bool
below_all zero p = true
below_all (suc n) p = p n && below_all n p

both : (a b : Bool) → (a && b) ≡ true → (a ≡ true) × (b ≡ true)
both true b e = (refl, e)
both false b e = absurd cc

each_below : (n : ℕ) (p : ℕ → Bool) → below_all n p ≡ true → (k : ℕ) → k < n → p k ≡ true
unfolding below_all
each_below zero p e k small = absurd (omega arith)
each_below (suc n) p e k small = by_test (k == n) refl (each_below n p (both (p n) (below_all n p) e).1 k)
  where
    by_test : (b : Bool) → (k == n) ≡ b → (k < n → p k ≡ true) → p k ≡ true
    by_test true same deeper = let is : k ≡ n = grind (arith, nat_tests) in rw is (both (p n) (below_all n p) e).0
    by_test false other deeper = deeper (grind (arith, nat_tests))

is_one : List ℕ → ℕ → Bool
is_one [] n = false
is_one (a ∷ []) n = a == n
is_one (a ∷ b ∷ xs) n = false

is_two : List ℕ → ℕ → Bool
is_two [] n = false
is_two (a ∷ []) n = false
is_two (a ∷ b ∷ []) n = (a == 0x0f) && (b == n)
is_two (a ∷ b ∷ c ∷ xs) n = false

one : (xs : List ℕ) (n : ℕ) → is_one xs n ≡ true → xs ≡ n ∷ []
unfolding is_one
one [] n e = absurd cc
one (a ∷ []) n e = let same : a ≡ n = grind (arith, nat_tests) in ap (λ (k : ℕ). k ∷ []) same
one (a ∷ b ∷ xs) n e = absurd cc

two : (xs : List ℕ) (n : ℕ) → is_two xs n ≡ true → xs ≡ 0x0f ∷ n ∷ []
unfolding is_two
two [] n e = absurd cc
two (a ∷ []) n e = absurd cc
two (a ∷ b ∷ []) n e =
    let parts = both (a == 0x0f) (b == n) e in
    let first = parts.0 in
    let second = parts.1 in
    let same : a ≡ 0x0f = grind (arith, nat_tests) in
    let other : b ≡ n = grind (arith, nat_tests) in
    cc
two (a ∷ b ∷ c ∷ xs) n e = absurd cc

agrees : Option Row → ℕ → Bool
agrees None n = true
agrees (Some row) n = is_one (opcode_of row) n

long_agrees : Option Row → ℕ → Bool
long_agrees None n = true
long_agrees (Some row) n = is_two (opcode_of row) n

-- the two tables, computed for each byte
rows_agree : below_all 256 (λ n. agrees (row_at n) n) ≡ true
unfolding below_all is_one agrees row_at
rows_agree = refl

long_rows_agree : below_all 256 (λ n. long_agrees (long_row_at n) n) ≡ true
unfolding below_all is_two long_agrees long_row_at
long_rows_agree = refl

pub row_back : (n : ℕ) → n < 256 → (row : Row) → row_at n ≡ Some row → opcode_of row ≡ n ∷ []
unfolding agrees
row_back n small row e = one (opcode_of row) n (ap (λ (r : Option Row). agrees r n) (sym e) ∙ each_below 256 (λ n. agrees (row_at n) n) rows_agree n small)

pub long_row_back : (n : ℕ) → n < 256 → (row : Row) → long_row_at n ≡ Some row → opcode_of row ≡ 0x0f ∷ n ∷ []
unfolding long_agrees
long_row_back n small row e = two (opcode_of row) n (ap (λ (r : Option Row). long_agrees r n) (sym e) ∙ each_below 256 (λ n. long_agrees (long_row_at n) n) long_rows_agree n small)

-- the opcode of a row opens that row
pub opened_at : (row : Row) (s : List ℕ) → run instruction 0 (opcode_of row ++ s) ≡ run (opened (Some row)) (length (opcode_of row)) s
unfolding row_at long_row_at
opened_at (Plain (plains.Push Eax)) s = refl
opened_at (Plain (plains.Push Ecx)) s = refl
opened_at (Plain (plains.Push Edx)) s = refl
opened_at (Plain (plains.Push Ebx)) s = refl
opened_at (Plain (plains.Push Esp)) s = refl
opened_at (Plain (plains.Push Ebp)) s = refl
opened_at (Plain (plains.Push Esi)) s = refl
opened_at (Plain (plains.Push Edi)) s = refl
opened_at (Plain (plains.Pop Eax)) s = refl
opened_at (Plain (plains.Pop Ecx)) s = refl
opened_at (Plain (plains.Pop Edx)) s = refl
opened_at (Plain (plains.Pop Ebx)) s = refl
opened_at (Plain (plains.Pop Esp)) s = refl
opened_at (Plain (plains.Pop Ebp)) s = refl
opened_at (Plain (plains.Pop Esi)) s = refl
opened_at (Plain (plains.Pop Edi)) s = refl
opened_at (Plain plains.Cdq) s = refl
opened_at (Plain plains.Ret) s = refl
opened_at (WithWord (words.LoadImm Eax)) s = refl
opened_at (WithWord (words.LoadImm Ecx)) s = refl
opened_at (WithWord (words.LoadImm Edx)) s = refl
opened_at (WithWord (words.LoadImm Ebx)) s = refl
opened_at (WithWord (words.LoadImm Esp)) s = refl
opened_at (WithWord (words.LoadImm Ebp)) s = refl
opened_at (WithWord (words.LoadImm Esi)) s = refl
opened_at (WithWord (words.LoadImm Edi)) s = refl
opened_at (WithWord words.Call) s = refl
opened_at (WithWord words.Jump) s = refl
opened_at (WithWord (words.JumpIf B)) s = refl
opened_at (WithWord (words.JumpIf Ae)) s = refl
opened_at (WithWord (words.JumpIf E)) s = refl
opened_at (WithWord (words.JumpIf Ne)) s = refl
opened_at (WithWord (words.JumpIf Be)) s = refl
opened_at (WithWord (words.JumpIf A)) s = refl
opened_at (WithWord (words.JumpIf L)) s = refl
opened_at (WithWord (words.JumpIf Ge)) s = refl
opened_at (WithWord (words.JumpIf Le)) s = refl
opened_at (WithWord (words.JumpIf G)) s = refl
opened_at (WithByte bytes.JumpShort) s = refl
opened_at (WithByte (bytes.JumpIfShort B)) s = refl
opened_at (WithByte (bytes.JumpIfShort Ae)) s = refl
opened_at (WithByte (bytes.JumpIfShort E)) s = refl
opened_at (WithByte (bytes.JumpIfShort Ne)) s = refl
opened_at (WithByte (bytes.JumpIfShort Be)) s = refl
opened_at (WithByte (bytes.JumpIfShort A)) s = refl
opened_at (WithByte (bytes.JumpIfShort L)) s = refl
opened_at (WithByte (bytes.JumpIfShort Ge)) s = refl
opened_at (WithByte (bytes.JumpIfShort Le)) s = refl
opened_at (WithByte (bytes.JumpIfShort G)) s = refl
opened_at (WithByte bytes.Interrupt) s = refl
opened_at (WithOperand operands.StoreByte) s = refl
opened_at (WithOperand operands.Store) s = refl
opened_at (WithOperand operands.Load) s = refl
opened_at (WithOperand operands.StoreImm) s = refl
opened_at (WithOperand operands.ZeroByte) s = refl
opened_at (WithOperand operands.SignByte) s = refl
opened_at (WithOperand operands.Lea) s = refl
opened_at (WithOperand (operands.Alu Add)) s = refl
opened_at (WithOperand (operands.Alu Sub)) s = refl
opened_at (WithOperand (operands.Alu And)) s = refl
opened_at (WithOperand (operands.Alu Or)) s = refl
opened_at (WithOperand (operands.Alu Xor)) s = refl
opened_at (WithOperand (operands.Alu Cmp)) s = refl
opened_at (WithOperand (operands.Alu Test)) s = refl
opened_at (WithOperand operands.AluImm) s = refl
opened_at (WithOperand operands.AluShort) s = refl
opened_at (WithOperand operands.Mul) s = refl
opened_at (WithOperand operands.Unary) s = refl
opened_at (WithOperand operands.Shift) s = refl
opened_at (WithOperand (operands.SetIf B)) s = refl
opened_at (WithOperand (operands.SetIf Ae)) s = refl
opened_at (WithOperand (operands.SetIf E)) s = refl
opened_at (WithOperand (operands.SetIf Ne)) s = refl
opened_at (WithOperand (operands.SetIf Be)) s = refl
opened_at (WithOperand (operands.SetIf A)) s = refl
opened_at (WithOperand (operands.SetIf L)) s = refl
opened_at (WithOperand (operands.SetIf Ge)) s = refl
opened_at (WithOperand (operands.SetIf Le)) s = refl
opened_at (WithOperand (operands.SetIf G)) s = refl
