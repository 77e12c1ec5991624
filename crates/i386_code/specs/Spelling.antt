-- What an instruction's spellings are, which of them the encoder chooses, and what the front of some bytes is.
use Rattle.std.specs.Prelude.{◌≡◌, ◌≢◌, ℕ, ◌<◌, ◌≤◌, ⊤, Option, Some, None, List, [], ◌++◌, length, take}
use Rattle.i386_code.specs.declared.instr.Instr.{Instr}
use Rattle.i386_code.specs.declared.instr.Decoded.{Decoded}
use Rattle.i386_code.specs.declared.instr.Decoded.TheVariants.{Is, Short, Unknown}
use Rattle.i386_code.specs.Proper.{Proper}
use Rattle.i386_code.specs.Operands.{IsOperand, canonical_operand}
use Rattle.i386_code.specs.Table.{Modrm, constant_bytes, FitsBytes, layout_of}

abbrev pub IsModrm : Option Modrm → List ℕ → Type 0
IsModrm None bytes = bytes ≡ []
IsModrm (Some modrm) bytes = IsOperand modrm.field modrm.operand bytes

-- The bytes spell the instruction: opcode, operand and constant by the table. Only proper instructions have spellings.
pub record Spells (instr : Instr) (bytes : List ℕ) : Type 0 where
  pub proper : Proper instr
  pub operand : List ℕ
  pub named : IsModrm (layout_of instr).modrm operand
  pub fits : FitsBytes (layout_of instr).constant
  pub whole : bytes ≡ (layout_of instr).opcode ++ (operand ++ constant_bytes (layout_of instr).constant)

abbrev pub canonical_modrm : Option Modrm → List ℕ
canonical_modrm None = []
canonical_modrm (Some modrm) = canonical_operand modrm.field modrm.operand

-- the one spelling that the encoder chooses
abbrev pub canonical : Instr → List ℕ
canonical instr = (layout_of instr).opcode ++ (canonical_modrm (layout_of instr).modrm ++ constant_bytes (layout_of instr).constant)

-- the first bytes, of this number, spell the instruction
abbrev pub IsAtFront : List ℕ → Instr → ℕ → Type 0
IsAtFront bytes instr count = (count ≤ length bytes) × Spells instr (take count bytes)

-- more bytes would make a spelling
abbrev pub IsCutShort : List ℕ → Type 0
IsCutShort bytes = (instr : Instr) × (more : List ℕ) × (more ≢ []) × Spells instr (bytes ++ more)

-- no bytes of an instruction stand at the front, and more bytes would make none
abbrev pub IsNoInstruction : List ℕ → Type 0
IsNoInstruction bytes = ((instr : Instr) (count : ℕ) → ¬ IsAtFront bytes instr count) × ¬ IsCutShort bytes

-- Both spell an instruction only if they are equal: no spelling is a proper prefix of another.
abbrev pub NoneBeginsAnother : Type 0
NoneBeginsAnother = (first second : Instr) (bytes more : List ℕ) → Spells first bytes → Spells second (bytes ++ more) → (more ≡ []) × (first ≡ second)

-- an answer of an instruction has a length of 1 to 11 bytes
abbrev pub HasShortLength : Decoded → Type 0
HasShortLength (Is instr count) = (0 < count) × (count ≤ 11)
HasShortLength Short = ⊤
HasShortLength Unknown = ⊤
