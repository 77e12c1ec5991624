-- Numbers: bytes of words, fields of ModRM and SIB, and what they stand for.
use Rattle.std.proofs.Common.{◌≡◌, ◌≢◌, ℕ, zero, suc, ◌/◌, ◌%◌, ◌<◌, ◌≤◌, [], ◌∷◌, Option, Some, None, refl, arith}
use Rattle.std.specs.Prelude.{IfSome}
use Rattle.cc_base.specs.Words.{join, word_bytes}
use Rattle.i386_code.specs.declared.instr.Reg.{Reg}
use Rattle.i386_code.specs.declared.instr.Reg.TheVariants.{Eax, Ecx, Edx, Ebx, Esp, Ebp, Esi, Edi}
use Rattle.i386_code.specs.declared.instr.Scaled.{Scaled}
use Rattle.i386_code.specs.declared.operand.Width.{Width}
use Rattle.i386_code.specs.declared.operand.Width.TheVariants.{Absent, Byte, Word}
use Rattle.i386_code.specs.Fields.{number_of, reg_at, fields}
use Rattle.i386_code.specs.Operands.{IsBase, IsIndex}
use Rattle.i386_code.specs.Reading.{base_at, width_at, index_at}

pub word_bytes-join : (a b c d : ℕ) → a < 256 → b < 256 → c < 256 → d < 256 → word_bytes (join a b c d) ≡ a ∷ b ∷ c ∷ d ∷ []
word_bytes-join a b c d ha hb hc hd =
    let e0 : join a b c d % 256 ≡ a = omega arith in
    let e1 : join a b c d / 256 % 256 ≡ b = omega arith in
    let e2 : join a b c d / 256 / 256 % 256 ≡ c = omega arith in
    let e3 : join a b c d / 256 / 256 / 256 % 256 ≡ d = omega arith in
    cc

pub high_field : (a b c : ℕ) → b < 8 → c < 8 → fields a b c / 64 ≡ a
high_field a b c hb hc = omega arith

pub middle_field : (a b c : ℕ) → b < 8 → c < 8 → fields a b c / 8 % 8 ≡ b
middle_field a b c hb hc = omega arith

pub low_field : (a b c : ℕ) → c < 8 → fields a b c % 8 ≡ c
low_field a b c hc = omega arith

-- a byte is made of its fields
pub fields_of : (byte : ℕ) → fields (byte / 64) (byte / 8 % 8) (byte % 8) ≡ byte
fields_of byte = omega arith

pub number_below : (reg : Reg) → number_of reg < 8
number_below Eax = omega arith
number_below Ecx = omega arith
number_below Edx = omega arith
number_below Ebx = omega arith
number_below Esp = omega arith
number_below Ebp = omega arith
number_below Esi = omega arith
number_below Edi = omega arith

pub reg_at-number_of : (reg : Reg) → reg_at (number_of reg) ≡ reg
reg_at-number_of Eax = refl
reg_at-number_of Ecx = refl
reg_at-number_of Edx = refl
reg_at-number_of Ebx = refl
reg_at-number_of Esp = refl
reg_at-number_of Ebp = refl
reg_at-number_of Esi = refl
reg_at-number_of Edi = refl

pub number_of-reg_at : (n : ℕ) → n < 8 → number_of (reg_at n) ≡ n
number_of-reg_at zero h = refl
number_of-reg_at (suc zero) h = refl
number_of-reg_at (suc (suc zero)) h = refl
number_of-reg_at (suc (suc (suc zero))) h = refl
number_of-reg_at (suc (suc (suc (suc zero)))) h = refl
number_of-reg_at (suc (suc (suc (suc (suc zero))))) h = refl
number_of-reg_at (suc (suc (suc (suc (suc (suc zero)))))) h = refl
number_of-reg_at (suc (suc (suc (suc (suc (suc (suc zero))))))) h = refl
number_of-reg_at (suc (suc (suc (suc (suc (suc (suc (suc n)))))))) h = absurd (omega arith)

-- what base_at and width_at give stands for mod and number
pub based : (mode number : ℕ) → mode < 3 → number < 8 → IsBase (base_at mode number) (width_at mode number) mode number
based zero zero h k = (refl, refl, λ e. cc)
based zero (suc zero) h k = (refl, refl, λ e. cc)
based zero (suc (suc zero)) h k = (refl, refl, λ e. cc)
based zero (suc (suc (suc zero))) h k = (refl, refl, λ e. cc)
based zero (suc (suc (suc (suc zero)))) h k = (refl, refl, λ e. cc)
based zero (suc (suc (suc (suc (suc zero))))) h k = (refl, refl)
based zero (suc (suc (suc (suc (suc (suc zero)))))) h k = (refl, refl, λ e. cc)
based zero (suc (suc (suc (suc (suc (suc (suc zero))))))) h k = (refl, refl, λ e. cc)
based zero (suc (suc (suc (suc (suc (suc (suc (suc n)))))))) h k = absurd (omega arith)
based (suc zero) zero h k = (refl, refl)
based (suc zero) (suc zero) h k = (refl, refl)
based (suc zero) (suc (suc zero)) h k = (refl, refl)
based (suc zero) (suc (suc (suc zero))) h k = (refl, refl)
based (suc zero) (suc (suc (suc (suc zero)))) h k = (refl, refl)
based (suc zero) (suc (suc (suc (suc (suc zero))))) h k = (refl, refl)
based (suc zero) (suc (suc (suc (suc (suc (suc zero)))))) h k = (refl, refl)
based (suc zero) (suc (suc (suc (suc (suc (suc (suc zero))))))) h k = (refl, refl)
based (suc zero) (suc (suc (suc (suc (suc (suc (suc (suc n)))))))) h k = absurd (omega arith)
based (suc (suc zero)) zero h k = (refl, refl)
based (suc (suc zero)) (suc zero) h k = (refl, refl)
based (suc (suc zero)) (suc (suc zero)) h k = (refl, refl)
based (suc (suc zero)) (suc (suc (suc zero))) h k = (refl, refl)
based (suc (suc zero)) (suc (suc (suc (suc zero)))) h k = (refl, refl)
based (suc (suc zero)) (suc (suc (suc (suc (suc zero))))) h k = (refl, refl)
based (suc (suc zero)) (suc (suc (suc (suc (suc (suc zero)))))) h k = (refl, refl)
based (suc (suc zero)) (suc (suc (suc (suc (suc (suc (suc zero))))))) h k = (refl, refl)
based (suc (suc zero)) (suc (suc (suc (suc (suc (suc (suc (suc n)))))))) h k = absurd (omega arith)
based (suc (suc (suc m))) n h k = absurd (omega arith)

-- and nothing else does
pub record BaseIs (base : Option Reg) (width : Width) (mode number : ℕ) : Type 0 where
  pub base_is : base_at mode number ≡ base
  pub width_is : width_at mode number ≡ width
  pub mode_below : mode < 3
  pub number_fits : number < 8

pub base_back : (base : Option Reg) (width : Width) (mode number : ℕ) → IsBase base width mode number → BaseIs base width mode number
base_back None Absent mode number h = absurd h
base_back None Byte mode number h = absurd h
base_back None Word mode number h = record { base_is = rw (h.0, h.1) refl; width_is = rw (h.0, h.1) refl; mode_below = omega arith; number_fits = omega arith }
base_back (Some Eax) Absent mode number h = record { base_is = rw (h.0, h.1) refl; width_is = rw (h.0, h.1) refl; mode_below = omega arith; number_fits = omega arith }
base_back (Some Eax) Byte mode number h = record { base_is = rw (h.0, h.1) refl; width_is = rw h.0 refl; mode_below = omega arith; number_fits = omega arith }
base_back (Some Eax) Word mode number h = record { base_is = rw (h.0, h.1) refl; width_is = rw h.0 refl; mode_below = omega arith; number_fits = omega arith }
base_back (Some Ecx) Absent mode number h = record { base_is = rw (h.0, h.1) refl; width_is = rw (h.0, h.1) refl; mode_below = omega arith; number_fits = omega arith }
base_back (Some Ecx) Byte mode number h = record { base_is = rw (h.0, h.1) refl; width_is = rw h.0 refl; mode_below = omega arith; number_fits = omega arith }
base_back (Some Ecx) Word mode number h = record { base_is = rw (h.0, h.1) refl; width_is = rw h.0 refl; mode_below = omega arith; number_fits = omega arith }
base_back (Some Edx) Absent mode number h = record { base_is = rw (h.0, h.1) refl; width_is = rw (h.0, h.1) refl; mode_below = omega arith; number_fits = omega arith }
base_back (Some Edx) Byte mode number h = record { base_is = rw (h.0, h.1) refl; width_is = rw h.0 refl; mode_below = omega arith; number_fits = omega arith }
base_back (Some Edx) Word mode number h = record { base_is = rw (h.0, h.1) refl; width_is = rw h.0 refl; mode_below = omega arith; number_fits = omega arith }
base_back (Some Ebx) Absent mode number h = record { base_is = rw (h.0, h.1) refl; width_is = rw (h.0, h.1) refl; mode_below = omega arith; number_fits = omega arith }
base_back (Some Ebx) Byte mode number h = record { base_is = rw (h.0, h.1) refl; width_is = rw h.0 refl; mode_below = omega arith; number_fits = omega arith }
base_back (Some Ebx) Word mode number h = record { base_is = rw (h.0, h.1) refl; width_is = rw h.0 refl; mode_below = omega arith; number_fits = omega arith }
base_back (Some Esp) Absent mode number h = record { base_is = rw (h.0, h.1) refl; width_is = rw (h.0, h.1) refl; mode_below = omega arith; number_fits = omega arith }
base_back (Some Esp) Byte mode number h = record { base_is = rw (h.0, h.1) refl; width_is = rw h.0 refl; mode_below = omega arith; number_fits = omega arith }
base_back (Some Esp) Word mode number h = record { base_is = rw (h.0, h.1) refl; width_is = rw h.0 refl; mode_below = omega arith; number_fits = omega arith }
base_back (Some Ebp) Absent mode number h = absurd (h.2 refl)
base_back (Some Ebp) Byte mode number h = record { base_is = rw (h.0, h.1) refl; width_is = rw h.0 refl; mode_below = omega arith; number_fits = omega arith }
base_back (Some Ebp) Word mode number h = record { base_is = rw (h.0, h.1) refl; width_is = rw h.0 refl; mode_below = omega arith; number_fits = omega arith }
base_back (Some Esi) Absent mode number h = record { base_is = rw (h.0, h.1) refl; width_is = rw (h.0, h.1) refl; mode_below = omega arith; number_fits = omega arith }
base_back (Some Esi) Byte mode number h = record { base_is = rw (h.0, h.1) refl; width_is = rw h.0 refl; mode_below = omega arith; number_fits = omega arith }
base_back (Some Esi) Word mode number h = record { base_is = rw (h.0, h.1) refl; width_is = rw h.0 refl; mode_below = omega arith; number_fits = omega arith }
base_back (Some Edi) Absent mode number h = record { base_is = rw (h.0, h.1) refl; width_is = rw (h.0, h.1) refl; mode_below = omega arith; number_fits = omega arith }
base_back (Some Edi) Byte mode number h = record { base_is = rw (h.0, h.1) refl; width_is = rw h.0 refl; mode_below = omega arith; number_fits = omega arith }
base_back (Some Edi) Word mode number h = record { base_is = rw (h.0, h.1) refl; width_is = rw h.0 refl; mode_below = omega arith; number_fits = omega arith }

-- the same of the index
pub record IndexIs (scale number : ℕ) (index : Option Scaled) : Type 0 where
  pub is : IsIndex index scale number
  pub proper : IfSome index (λ index. (index.register ≢ Esp) × (index.shift ≤ 3))

pub indexed : (scale number : ℕ) → scale < 4 → number < 8 → IndexIs scale number (index_at scale number)
indexed scale zero h k = record { is = (refl, refl); proper = ((λ e. cc), omega arith) }
indexed scale (suc zero) h k = record { is = (refl, refl); proper = ((λ e. cc), omega arith) }
indexed scale (suc (suc zero)) h k = record { is = (refl, refl); proper = ((λ e. cc), omega arith) }
indexed scale (suc (suc (suc zero))) h k = record { is = (refl, refl); proper = ((λ e. cc), omega arith) }
indexed scale (suc (suc (suc (suc zero)))) h k = record { is = (h, refl); proper = tt }
indexed scale (suc (suc (suc (suc (suc zero))))) h k = record { is = (refl, refl); proper = ((λ e. cc), omega arith) }
indexed scale (suc (suc (suc (suc (suc (suc zero)))))) h k = record { is = (refl, refl); proper = ((λ e. cc), omega arith) }
indexed scale (suc (suc (suc (suc (suc (suc (suc zero))))))) h k = record { is = (refl, refl); proper = ((λ e. cc), omega arith) }
indexed scale (suc (suc (suc (suc (suc (suc (suc (suc n)))))))) h k = absurd (omega arith)

pub record IndexBack (index : Option Scaled) (scale number : ℕ) : Type 0 where
  pub index_is : index_at scale number ≡ index
  pub scale_fits : scale < 4
  pub number_fits : number < 8

index_of_reg : (reg : Reg) → reg ≢ Esp → (shift : ℕ) → index_at shift (number_of reg) ≡ Some (record { register = reg; shift = shift })
index_of_reg Eax h shift = refl
index_of_reg Ecx h shift = refl
index_of_reg Edx h shift = refl
index_of_reg Ebx h shift = refl
index_of_reg Esp h shift = absurd (h refl)
index_of_reg Ebp h shift = refl
index_of_reg Esi h shift = refl
index_of_reg Edi h shift = refl

pub index_back : (index : Option Scaled) (scale number : ℕ) → IsIndex index scale number → IfSome index (λ index. (index.register ≢ Esp) × (index.shift ≤ 3)) → IndexBack index scale number
index_back None scale number h proper = record { index_is = rw h.1 refl; scale_fits = h.0; number_fits = omega arith }
index_back (Some index) scale number h proper =
    let small = number_below index.register in
    record { index_is = rw (h.0, h.1) (index_of_reg index.register proper.0 index.shift); scale_fits = omega arith; number_fits = omega arith }
