-- What the encoder chooses is a spelling.
use Rattle.std.proofs.Common.{◌≡◌, ◌≢◌, ℕ, ◌%◌, ◌^◌, ◌<◌, Bool, true, false, cond, ◌||◌, [], ◌∷◌, ◌++◌, Option, Some, None, is_some, ◌==◌, inl, inr, refl, sym, ap, subst, arith}
use Rattle.std.specs.Prelude.{IfSome}
use Rattle.std.proofs.lemmas.Bool.Decides.{nat_tests}
use Rattle.i386_code.specs.declared.instr.Reg.{Reg}
use Rattle.i386_code.specs.declared.instr.Reg.TheVariants.{Eax, Ecx, Edx, Ebx, Esp, Ebp, Esi, Edi}
use Rattle.i386_code.specs.declared.instr.Scaled.{Scaled}
use Rattle.i386_code.specs.declared.instr.Address.{Address}
use Rattle.i386_code.specs.declared.instr.Rm.{Rm}
use Rattle.i386_code.specs.declared.instr.Rm.TheVariants as rms
use Rattle.i386_code.specs.declared.instr.Instr.{Instr}
use Rattle.i386_code.specs.declared.instr.Instr.TheVariants.{StoreByte, Store, Load, LoadImm, StoreImm, ZeroByte, SignByte, Lea, Alu, AluImm, AluShort, Mul, Not, Neg, Div, SignDiv, Cdq, Shift, Push, Pop, Call, Jump, JumpIf, JumpShort, JumpIfShort, SetIf, Ret, Interrupt}
use Rattle.i386_code.specs.declared.operand.Width.{Width}
use Rattle.i386_code.specs.declared.operand.Width.TheVariants.{Absent, Byte, Word}
use Rattle.i386_code.specs.Fields.{number_of, fields, sign_extended}
use Rattle.i386_code.specs.Proper.{ProperRm, Proper}
use Rattle.i386_code.specs.Operands.{IsBase, IsIndex, IsDisplacement, IsOperand, is_short, width_beside, mode_of, base_number, displacement_bytes, sib_byte, needs_sib, canonical_operand}
use Rattle.i386_code.specs.Table.{Modrm, FitsBytes, layout_of}
use Rattle.i386_code.specs.Spelling.{Spells, IsModrm, canonical_modrm, canonical}
use Rattle.i386_code.specs.Writing.{FitsDisp, HasWordDisp}
use Rattle.i386_code.proofs.Read.{byte_proper}

base_chosen_by : (base : Reg) (zero short : Bool) → let width : Width = cond zero (cond (number_of base == 5) Byte Absent) (cond short Byte Word) in IsBase (Some base) width (mode_of (Some base) width) (number_of base)
base_chosen_by Eax true short = (refl, refl, λ e. cc)
base_chosen_by Eax false true = (refl, refl)
base_chosen_by Eax false false = (refl, refl)
base_chosen_by Ecx true short = (refl, refl, λ e. cc)
base_chosen_by Ecx false true = (refl, refl)
base_chosen_by Ecx false false = (refl, refl)
base_chosen_by Edx true short = (refl, refl, λ e. cc)
base_chosen_by Edx false true = (refl, refl)
base_chosen_by Edx false false = (refl, refl)
base_chosen_by Ebx true short = (refl, refl, λ e. cc)
base_chosen_by Ebx false true = (refl, refl)
base_chosen_by Ebx false false = (refl, refl)
base_chosen_by Esp true short = (refl, refl, λ e. cc)
base_chosen_by Esp false true = (refl, refl)
base_chosen_by Esp false false = (refl, refl)
base_chosen_by Ebp true short = (refl, refl)
base_chosen_by Ebp false true = (refl, refl)
base_chosen_by Ebp false false = (refl, refl)
base_chosen_by Esi true short = (refl, refl, λ e. cc)
base_chosen_by Esi false true = (refl, refl)
base_chosen_by Esi false false = (refl, refl)
base_chosen_by Edi true short = (refl, refl, λ e. cc)
base_chosen_by Edi false true = (refl, refl)
base_chosen_by Edi false false = (refl, refl)

base_chosen : (base : Option Reg) (disp : ℕ) → IsBase base (width_beside base disp) (mode_of base (width_beside base disp)) (base_number base)
base_chosen None disp = (refl, refl)
base_chosen (Some base) disp = base_chosen_by base (disp == 0) (is_short disp)

short_disp : (disp : ℕ) → disp < 2 ^ 32 → is_short disp ≡ true → disp ≡ sign_extended (disp % 256)
short_disp disp fits e = let same : sign_extended (disp % 256) ≡ disp = grind (arith, nat_tests) in sym same

disp_chosen_by : (number disp : ℕ) → disp < 2 ^ 32 → (zero five short : Bool) → (disp == 0) ≡ zero → is_short disp ≡ short → let width : Width = cond zero (cond five Byte Absent) (cond short Byte Word) in IsDisplacement width disp (displacement_bytes width disp)
disp_chosen_by number disp fits true true short e f = let is : disp ≡ 0 = grind (arith, nat_tests) in (disp % 256, omega arith, rw is refl, refl)
disp_chosen_by number disp fits true false short e f = let is : disp ≡ 0 = grind (arith, nat_tests) in (is, refl)
disp_chosen_by number disp fits false five true e f = (disp % 256, omega arith, short_disp disp fits f, refl)
disp_chosen_by number disp fits false five false e f = (fits, refl)

disp_chosen : (base : Option Reg) (disp : ℕ) → disp < 2 ^ 32 → IsDisplacement (width_beside base disp) disp (displacement_bytes (width_beside base disp) disp)
disp_chosen None disp fits = (fits, refl)
disp_chosen (Some base) disp fits = disp_chosen_by (number_of base) disp fits (disp == 0) (number_of base == 5) (is_short disp) refl refl

neither : (a b : Bool) → (a || b) ≡ false → (a ≡ false) × (b ≡ false)
neither true b e = absurd cc
neither false b e = (refl, e)

absent : (index : Option Scaled) → is_some index ≡ false → index ≡ None
absent None e = refl
absent (Some index) e = absurd cc

with_sib : (field : ℕ) (a : Address) (index : Option Scaled) → a.index ≡ index → a.disp < 2 ^ 32 → IsOperand field (rms.Mem a) (fields (mode_of a.base (width_beside a.base a.disp)) field 4 ∷ sib_byte a.index (base_number a.base) ∷ displacement_bytes (width_beside a.base a.disp) a.disp)
with_sib field a None e fits = inr (record {
  width = width_beside a.base a.disp;
  mode = mode_of a.base (width_beside a.base a.disp);
  number = base_number a.base;
  scale = 0;
  index_number = 4;
  tail = displacement_bytes (width_beside a.base a.disp) a.disp;
  base = base_chosen a.base a.disp;
  index = subst (λ (i : Option Scaled). IsIndex i 0 4) (sym e) (omega arith, refl);
  disp = disp_chosen a.base a.disp fits;
  whole = ap (λ (i : Option Scaled). fields (mode_of a.base (width_beside a.base a.disp)) field 4 ∷ sib_byte i (base_number a.base) ∷ displacement_bytes (width_beside a.base a.disp) a.disp) e;
})
with_sib field a (Some index) e fits = inr (record {
  width = width_beside a.base a.disp;
  mode = mode_of a.base (width_beside a.base a.disp);
  number = base_number a.base;
  scale = index.shift;
  index_number = number_of index.register;
  tail = displacement_bytes (width_beside a.base a.disp) a.disp;
  base = base_chosen a.base a.disp;
  index = subst (λ (i : Option Scaled). IsIndex i index.shift (number_of index.register)) (sym e) (refl, refl);
  disp = disp_chosen a.base a.disp fits;
  whole = ap (λ (i : Option Scaled). fields (mode_of a.base (width_beside a.base a.disp)) field 4 ∷ sib_byte i (base_number a.base) ∷ displacement_bytes (width_beside a.base a.disp) a.disp) e;
})

operand_chosen : (field : ℕ) (rm : Rm) → ProperRm rm → HasWordDisp rm → IsOperand field rm (canonical_operand field rm)
operand_chosen field (rms.Reg reg) proper fits = refl
operand_chosen field (rms.Mem a) proper fits = by_test (needs_sib a) refl
  where
    by_test : (b : Bool) → needs_sib a ≡ b → IsOperand field (rms.Mem a) (cond b (fields (mode_of a.base (width_beside a.base a.disp)) field 4 ∷ sib_byte a.index (base_number a.base) ∷ []) (fields (mode_of a.base (width_beside a.base a.disp)) field (base_number a.base) ∷ []) ++ displacement_bytes (width_beside a.base a.disp) a.disp)
    by_test true e = with_sib field a a.index refl fits
    by_test false e =
        let parts = neither (is_some a.index) (base_number a.base == 4) e in
        let test = parts.1 in
        let other : base_number a.base ≢ 4 = grind (arith, nat_tests) in
        inl (record {
          width = width_beside a.base a.disp;
          mode = mode_of a.base (width_beside a.base a.disp);
          number = base_number a.base;
          tail = displacement_bytes (width_beside a.base a.disp) a.disp;
          base = base_chosen a.base a.disp;
          no_index = absent a.index parts.0;
          no_sib = other;
          disp = disp_chosen a.base a.disp fits;
          whole = refl;
        })

modrm_chosen : (modrm : Option Modrm) → IfSome modrm (λ modrm. ProperRm modrm.operand) → FitsDisp modrm → IsModrm modrm (canonical_modrm modrm)
modrm_chosen None proper fits = refl
modrm_chosen (Some modrm) proper fits = operand_chosen modrm.field modrm.operand proper fits

proper_modrm : (instr : Instr) → Proper instr → IfSome (layout_of instr).modrm (λ modrm. ProperRm modrm.operand)
proper_modrm (StoreByte to from) h = byte_proper to h.0
proper_modrm (Store to from) h = h
proper_modrm (Load to from) h = h
proper_modrm (LoadImm to value) h = tt
proper_modrm (StoreImm to value) h = h
proper_modrm (ZeroByte to from) h = byte_proper from h
proper_modrm (SignByte to from) h = byte_proper from h
proper_modrm (Lea to from) h = h
proper_modrm (Alu op to from) h = h
proper_modrm (AluImm op to value) h = h.1
proper_modrm (AluShort op to value) h = h.1
proper_modrm (Mul to from) h = h
proper_modrm (Not to) h = h
proper_modrm (Neg to) h = h
proper_modrm (Div to) h = h
proper_modrm (SignDiv to) h = h
proper_modrm Cdq h = tt
proper_modrm (Shift op to) h = h
proper_modrm (Push from) h = tt
proper_modrm (Pop to) h = tt
proper_modrm (Call by) h = tt
proper_modrm (Jump by) h = tt
proper_modrm (JumpIf cond by) h = tt
proper_modrm (JumpShort by) h = tt
proper_modrm (JumpIfShort cond by) h = tt
proper_modrm (SetIf cond to) h = byte_proper to h
proper_modrm Ret h = tt
proper_modrm (Interrupt number) h = tt

pub canonical_spells : (instr : Instr) → Proper instr → FitsBytes (layout_of instr).constant → FitsDisp (layout_of instr).modrm → Spells instr (canonical instr)
canonical_spells instr proper constant disp = record {
  proper = proper;
  operand = canonical_modrm (layout_of instr).modrm;
  named = modrm_chosen (layout_of instr).modrm (proper_modrm instr proper) disp;
  fits = constant;
  whole = refl;
}
