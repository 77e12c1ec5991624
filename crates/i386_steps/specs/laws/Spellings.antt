-- The instructions that some bytes begin with.
use Rattle.std.specs.Prelude.{◌≡◌, ℕ, List, ◌∷◌, Some, None}
use Rattle.std.proofs.Common.{refl}
use Rattle.cc_base.specs.Words.{join}
use Rattle.i386_code.specs.declared.instr.Reg.TheVariants.{Eax, Ecx, Edx, Ebx, Esp}
use Rattle.i386_code.specs.declared.instr.Rm.TheVariants as rms
use Rattle.i386_code.specs.declared.instr.Instr.TheVariants.{Store, LoadImm, Lea, Push, Pop, Call, Ret, Interrupt}
use Rattle.i386_code.specs.declared.instr.Decoded.TheVariants.{Is}
use Rattle.i386_code.specs.Reading.{decoded, word, displacement, operand}
use Rattle.i386_code.specs.Rows.{row_at}

pub load_eax : (a b c d : ℕ) (rest : List ℕ) → decoded (0xb8 ∷ a ∷ b ∷ c ∷ d ∷ rest) ≡ Is (LoadImm Eax (join a b c d)) 5
unfolding decoded row_at word
load_eax a b c d rest = refl

pub load_edx : (a b c d : ℕ) (rest : List ℕ) → decoded (0xba ∷ a ∷ b ∷ c ∷ d ∷ rest) ≡ Is (LoadImm Edx (join a b c d)) 5
unfolding decoded row_at word
load_edx a b c d rest = refl

pub load_ebx : (a b c d : ℕ) (rest : List ℕ) → decoded (0xbb ∷ a ∷ b ∷ c ∷ d ∷ rest) ≡ Is (LoadImm Ebx (join a b c d)) 5
unfolding decoded row_at word
load_ebx a b c d rest = refl

pub eax_to_ebx : (rest : List ℕ) → decoded (0x89 ∷ 0xc3 ∷ rest) ≡ Is (Store (rms.Reg Ebx) Eax) 2
unfolding decoded row_at operand
eax_to_ebx rest = refl

pub lea_ecx : (rest : List ℕ) → decoded (0x8d ∷ 0x4c ∷ 0x24 ∷ 8 ∷ rest) ≡ Is (Lea Ecx (record { base = Some Esp; index = None; disp = 8 })) 4
unfolding decoded row_at operand displacement
lea_ecx rest = refl

pub push_eax : (rest : List ℕ) → decoded (0x50 ∷ rest) ≡ Is (Push Eax) 1
unfolding decoded row_at
push_eax rest = refl

pub push_ebx : (rest : List ℕ) → decoded (0x53 ∷ rest) ≡ Is (Push Ebx) 1
unfolding decoded row_at
push_ebx rest = refl

pub pop_eax : (rest : List ℕ) → decoded (0x58 ∷ rest) ≡ Is (Pop Eax) 1
unfolding decoded row_at
pop_eax rest = refl

pub pop_ebx : (rest : List ℕ) → decoded (0x5b ∷ rest) ≡ Is (Pop Ebx) 1
unfolding decoded row_at
pop_ebx rest = refl

pub call_by : (a b c d : ℕ) (rest : List ℕ) → decoded (0xe8 ∷ a ∷ b ∷ c ∷ d ∷ rest) ≡ Is (Call (join a b c d)) 5
unfolding decoded row_at word
call_by a b c d rest = refl

pub return_from : (rest : List ℕ) → decoded (0xc3 ∷ rest) ≡ Is Ret 1
unfolding decoded row_at
return_from rest = refl

pub interrupt : (number : ℕ) (rest : List ℕ) → decoded (0xcd ∷ number ∷ rest) ≡ Is (Interrupt number) 2
unfolding decoded row_at
interrupt number rest = refl
