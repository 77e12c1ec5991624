-- Scopes in which the members of structs stand one behind another, each in its struct, and aligned (C11, 6.7.2.1).
use Rattle.std.specs.Prelude.{ℕ, ◌+◌, ◌%◌, ◌≤◌, ◌≡◌, List, [], ◌∷◌, Option, Some}
use Rattle.std.specs.Option.{option_map, option_map_or}
use Rattle.typing_types.specs.Types.{Derived}
use Rattle.typing_types.specs.Laid.{Laid}
use Rattle.typing_types.specs.Structs.{struct_of}
use Rattle.typing_types.specs.Sizes.{size_of, align_of}
use Rattle.typing_scopes.specs.declared.entity.Member.{Member}
use Rattle.typing_scopes.specs.Visible.{Visible}
use Rattle.typing_scopes.specs.Names.{member_at}

-- a type as declarations and expressions derive it: without an array there is no pointer to one
abbrev pub sound_at : List (Option ℕ) → ℕ → Type 0
sound_at [] n = n ≡ 0
sound_at (l ∷ ls) n = Unit

abbrev pub IsSound : Derived → Type 0
IsSound t = sound_at t.lengths t.pointers

-- where a member begins, and behind the last one where the struct ends
abbrev pub begin_of : Visible → ℕ → ℕ → ℕ → ℕ
begin_of scope tag size k = option_map_or (λ (m : Member). m.offset) (member_at scope tag k) size

-- a struct's members stand in it one behind another
pub record IsLaid (scope : Visible) (tag size : ℕ) : Type 0 where
  pub rising : (k : ℕ) → begin_of scope tag size k ≤ begin_of scope tag size (k + 1)
  pub inside : (k : ℕ) → begin_of scope tag size k ≤ size
  pub sound : (k : ℕ) (m : Member) → member_at scope tag k ≡ Some m → IsSound m.ctype
  pub fits : (k : ℕ) (m : Member) → member_at scope tag k ≡ Some m → (n : ℕ) × (size_of scope.layouts m.ctype ≡ Some n) × (m.offset + n ≤ begin_of scope tag size (k + 1))

-- so do those of all structs
abbrev pub AreLaid : Visible → Type 0
AreLaid scope = (tag : ℕ) (l : Laid) → struct_of scope.layouts tag ≡ Some l → IsLaid scope tag l.size

-- a type whose objects stand at multiples of four
abbrev pub IsFour : List (Option Laid) → Derived → Type 0
IsFour layouts t = align_of layouts t ≡ Some 4

-- a struct with a member that stands at multiples of four does so itself
pub record IsAligned (scope : Visible) (tag : ℕ) : Type 0 where
  pub whole : (l : Laid) → struct_of scope.layouts tag ≡ Some l → l.align ≡ 4 → l.size % 4 ≡ 0
  pub member : (k : ℕ) (m : Member) → member_at scope tag k ≡ Some m → IsFour scope.layouts m.ctype → (option_map (λ (l : Laid). l.align) (struct_of scope.layouts tag) ≡ Some 4) × (m.offset % 4 ≡ 0)

abbrev pub AreAligned : Visible → Type 0
AreAligned scope = (tag : ℕ) → IsAligned scope tag
