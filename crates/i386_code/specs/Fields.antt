-- Numbers of registers, condition codes, and the fields of the ModRM and SIB bytes (Intel SDM, volume 2, 2.1.3 and
-- tables 2-2 and 2-3, and appendix B, table B-10).
use Rattle.std.specs.Prelude.{ℕ, ◌+◌, ◌*◌, [], ◌∷◌, Option, Some, None, nat_lt, if◌then◌else◌}
use Rattle.std.specs.List.{slice_index_or}
use Rattle.i386_code.specs.declared.instr.Reg.{Reg}
use Rattle.i386_code.specs.declared.instr.Reg.TheVariants.{Eax, Ecx, Edx, Ebx, Esp, Ebp, Esi, Edi}
use Rattle.i386_code.specs.declared.instr.Cond.{Cond}
use Rattle.i386_code.specs.declared.instr.Cond.TheVariants.{B, Ae, E, Ne, Be, A, L, Ge, Le, G}

-- the number of a register
abbrev pub number_of : Reg → ℕ
number_of Eax = 0
number_of Ecx = 1
number_of Edx = 2
number_of Ebx = 3
number_of Esp = 4
number_of Ebp = 5
number_of Esi = 6
number_of Edi = 7

-- the register of a number
abbrev pub reg_at : ℕ → Reg
reg_at n = slice_index_or (Eax ∷ Ecx ∷ Edx ∷ Ebx ∷ Esp ∷ Ebp ∷ Esi ∷ Edi ∷ []) n Eax

-- the code of a condition
abbrev pub code_of : Cond → ℕ
code_of B = 0x2
code_of Ae = 0x3
code_of E = 0x4
code_of Ne = 0x5
code_of Be = 0x6
code_of A = 0x7
code_of L = 0xc
code_of Ge = 0xd
code_of Le = 0xe
code_of G = 0xf

-- the condition of a code, where it is one
abbrev pub cond_at : ℕ → Option Cond
cond_at n = slice_index_or (None ∷ None ∷ Some B ∷ Some Ae ∷ Some E ∷ Some Ne ∷ Some Be ∷ Some A ∷ None ∷ None ∷ None ∷ None ∷ Some L ∷ Some Ge ∷ Some Le ∷ Some G ∷ []) n None

-- A byte of two, three and three bits, the highest first: mod, reg and rm of ModRM, or scale, index and base of SIB.
abbrev pub fields : ℕ → ℕ → ℕ → ℕ
fields high middle low = 64 * high + 8 * middle + low

-- a byte as a word of 32 bits, its sign extended
abbrev pub sign_extended : ℕ → ℕ
sign_extended byte = if nat_lt byte 0x80 then byte else byte + 0xffff_ff00
