-- Operands as ModRM, SIB and displacement name them (Intel SDM, volume 2, 2.1.5, tables 2-2 and 2-3).
use Rattle.std.specs.Prelude.{◌≡◌, ◌≢◌, ℕ, ◌%◌, ◌^◌, ◌<◌, Bool, ◌==◌, ◌||◌, ◌⊎◌, if◌then◌else◌, Option, Some, None, is_some, List, [], ◌∷◌, ◌++◌}
use Rattle.cc_base.specs.Words.{word_bytes}
use Rattle.i386_code.specs.declared.instr.Reg.{Reg}
use Rattle.i386_code.specs.declared.instr.Reg.TheVariants.{Ebp}
use Rattle.i386_code.specs.declared.instr.Scaled.{Scaled}
use Rattle.i386_code.specs.declared.instr.Address.{Address}
use Rattle.i386_code.specs.declared.instr.Rm.{Rm}
use Rattle.i386_code.specs.declared.instr.Rm.TheVariants as rms
use Rattle.i386_code.specs.declared.operand.Width.{Width}
use Rattle.i386_code.specs.declared.operand.Width.TheVariants.{Absent, Byte, Word}
use Rattle.i386_code.specs.Fields.{number_of, fields, sign_extended}

-- Which base a number stands for under a mod, and how wide a displacement follows. The number is that of rm, or that of
-- the SIB byte's base. Mod 0 with the number of ebp has no base and four bytes.
abbrev pub IsBase : Option Reg → Width → ℕ → ℕ → Type 0
IsBase None Absent mode number = ⊥
IsBase None Byte mode number = ⊥
IsBase None Word mode number = (mode ≡ 0) × (number ≡ 5)
IsBase (Some base) Absent mode number = (mode ≡ 0) × (number ≡ number_of base) × (base ≢ Ebp)
IsBase (Some base) Byte mode number = (mode ≡ 1) × (number ≡ number_of base)
IsBase (Some base) Word mode number = (mode ≡ 2) × (number ≡ number_of base)

-- Which index the SIB byte's scale and index stand for. Index 4 is none, with any scale.
abbrev pub IsIndex : Option Scaled → ℕ → ℕ → Type 0
IsIndex None scale number = (scale < 4) × (number ≡ 4)
IsIndex (Some index) scale number = (scale ≡ index.shift) × (number ≡ number_of index.register)

-- the bytes of a displacement
abbrev pub IsDisplacement : Width → ℕ → List ℕ → Type 0
IsDisplacement Absent disp bytes = (disp ≡ 0) × (bytes ≡ [])
IsDisplacement Byte disp bytes = (byte : ℕ) × (byte < 256) × (disp ≡ sign_extended byte) × (bytes ≡ byte ∷ [])
IsDisplacement Word disp bytes = (disp < 2 ^ 32) × (bytes ≡ word_bytes disp)

-- an address without a SIB byte: rm is the base's number
pub record IsPlain (field : ℕ) (address : Address) (bytes : List ℕ) : Type 0 where
  pub width : Width
  pub mode : ℕ
  pub number : ℕ
  pub tail : List ℕ
  pub base : IsBase address.base width mode number
  pub no_index : address.index ≡ None
  pub no_sib : number ≢ 4
  pub disp : IsDisplacement width address.disp tail
  pub whole : bytes ≡ fields mode field number ∷ tail

-- an address with a SIB byte: rm is 4
pub record IsWithSib (field : ℕ) (address : Address) (bytes : List ℕ) : Type 0 where
  pub width : Width
  pub mode : ℕ
  pub number : ℕ
  pub scale : ℕ
  pub index_number : ℕ
  pub tail : List ℕ
  pub base : IsBase address.base width mode number
  pub index : IsIndex address.index scale index_number
  pub disp : IsDisplacement width address.disp tail
  pub whole : bytes ≡ fields mode field 4 ∷ fields scale index_number number ∷ tail

-- ModRM, SIB and displacement of an operand, beside the reg field. Mod 3 is a register.
abbrev pub IsOperand : ℕ → Rm → List ℕ → Type 0
IsOperand field (rms.Reg reg) bytes = bytes ≡ fields 3 field (number_of reg) ∷ []
IsOperand field (rms.Mem address) bytes = IsPlain field address bytes ⊎ IsWithSib field address bytes

-- Of these the encoder chooses one. Whether one byte has the displacement as its sign extension.
abbrev pub is_short : ℕ → Bool
is_short disp = sign_extended (disp % 256) == disp

-- the width of a displacement: none where it is 0 and the base isn't ebp, one byte where that is enough, else four; without
-- a base four
abbrev pub width_beside : Option Reg → ℕ → Width
width_beside None disp = Word
width_beside (Some base) disp =
    if disp == 0 then (if number_of base == 5 then Byte else Absent) else
    if is_short disp then Byte else Word

-- the mod of a width, and the number of a base
abbrev pub mode_of : Option Reg → Width → ℕ
mode_of None width = 0
mode_of (Some base) Absent = 0
mode_of (Some base) Byte = 1
mode_of (Some base) Word = 2

abbrev pub base_number : Option Reg → ℕ
base_number None = 5
base_number (Some base) = number_of base

-- the bytes of a displacement
abbrev pub displacement_bytes : Width → ℕ → List ℕ
displacement_bytes Absent disp = []
displacement_bytes Byte disp = (disp % 256) ∷ []
displacement_bytes Word disp = word_bytes disp

-- scale and index of a SIB byte, before its base: without an index the scale is 0
abbrev pub sib_byte : Option Scaled → ℕ → ℕ
sib_byte None base = fields 0 4 base
sib_byte (Some index) base = fields index.shift (number_of index.register) base

-- a SIB byte stands only where the base is esp or there is an index
abbrev pub needs_sib : Address → Bool
needs_sib address = is_some address.index || (base_number address.base == 4)

-- ModRM and SIB of an address, and all bytes of an operand, as the encoder chooses them
abbrev pub address_head : ℕ → Address → Width → List ℕ
address_head field address width =
    if needs_sib address
    then fields (mode_of address.base width) field 4 ∷ sib_byte address.index (base_number address.base) ∷ []
    else fields (mode_of address.base width) field (base_number address.base) ∷ []

abbrev pub canonical_address : ℕ → Address → Width → List ℕ
canonical_address field address width = address_head field address width ++ displacement_bytes width address.disp

abbrev pub canonical_operand : ℕ → Rm → List ℕ
canonical_operand field (rms.Reg reg) = fields 3 field (number_of reg) ∷ []
canonical_operand field (rms.Mem address) = canonical_address field address (width_beside address.base address.disp)
