-- What an image holds where the text of a unit of the second form is placed (Intel386 supplement, chapter 4, relocation).
use Rattle.std.specs.Prelude.{◌≡◌, ℕ, ◌+◌, ◌<◌, ◌≤◌, List, length, take, drop, get_or, All}
use Rattle.cc_base.specs.Words.{word_bytes, add32, sub32}
use Rattle.second_form.specs.declared.second_items.Item.{Item}
use Rattle.second_code.specs.Parts.{Use, text_of, unit_uses_from}

-- S + A - P, where A is -4 (R_386_PC32)
abbrev pub relocated : ℕ → ℕ → ℕ
relocated target place = sub32 (add32 target 0xffff_fffc) place

-- the byte lies in the call's word
abbrev pub Covers : ℕ → Use → Type 0
Covers k call = (call.place ≤ k) × (k < call.place + 4)

-- the call's word is relocated, where the text begins this many bytes behind the first address of code
abbrev pub IsRelocated : List ℕ → ℕ → (List ℕ → ℕ) → Use → Type 0
IsRelocated code origin target call = take 4 (drop (origin + call.place) code) ≡ word_bytes (relocated (target call.callee) (0x08049000 + (origin + call.place)))

-- the text of a unit is placed there: each call's word is relocated by the address of what it names, and all else is the text
pub record Placed (code : List ℕ) (origin : ℕ) (target : List ℕ → ℕ) (items : List Item) : Type 0 where
  pub inside : origin + length (text_of items) ≤ length code
  pub words : All (IsRelocated code origin target) (unit_uses_from 0 items)
  pub others : (k : ℕ) → k < length (text_of items) → All (λ call. ¬ Covers k call) (unit_uses_from 0 items) → get_or code (origin + k) 0 ≡ get_or (text_of items) k 0
