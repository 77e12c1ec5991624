-- What is known of the structs, by the numbers of their tags, and the places of members (C11, 6.7.2.1).
use Rattle.std.specs.Prelude.{ℕ, ◌+◌, max, List, slice_get, Option, Some, None}
use Rattle.std.specs.Option.{option_map, option_and_then}
use Rattle.std.specs.Int.{next_multiple_of}
use Rattle.typing_types.specs.declared.class.Base.{Base}
use Rattle.typing_types.specs.declared.class.Base.TheVariants as base
use Rattle.typing_types.specs.Laid.{Laid, laid}
use Rattle.typing_types.specs.Widths.{width_of}

-- none where the definition has not ended
abbrev pub struct_of : List (Option Laid) → ℕ → Option Laid
struct_of structs tag = option_and_then (λ (l : Option Laid). l) (slice_get structs tag)

abbrev pub base_size : List (Option Laid) → Base → Option ℕ
base_size structs (base.Integer i) = Some (width_of i)
base_size structs base.Void = None
base_size structs (base.Struct tag) = option_map (λ (l : Laid). l.size) (struct_of structs tag)

abbrev pub base_align : List (Option Laid) → Base → Option ℕ
base_align structs (base.Integer i) = Some (width_of i)
base_align structs base.Void = None
base_align structs (base.Struct tag) = option_map (λ (l : Laid). l.align) (struct_of structs tag)

-- Members stand in order, each at the next multiple of its alignment. The layout of what stands before has as its size
-- where the last of them ends, and as its alignment the greatest of theirs.
abbrev pub offset_behind : Laid → Laid → ℕ
offset_behind before member = next_multiple_of before.size member.align

abbrev pub end_behind : Laid → Laid → ℕ
end_behind before member = offset_behind before member + member.size

abbrev pub laid_behind : Laid → Laid → Laid
laid_behind before member = laid (end_behind before member) (max before.align member.align)

-- the size of a struct is rounded up to its alignment
abbrev pub struct_size : Laid → ℕ
struct_size members = next_multiple_of members.size members.align

abbrev pub struct_laid : Laid → Laid
struct_laid members = laid (struct_size members) members.align
