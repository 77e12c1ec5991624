-- What names mean at a place of a unit: a fact about what stands before it (C11, 6.2.1 and 6.2.3).
use Rattle.std.specs.Prelude.{ℕ, Bool, false, List, [], slice_get, position, Option, unwrap_or}
use Rattle.std.specs.Option.{option_map, option_or}
use Rattle.std.specs.Map.{keys_of}
use Rattle.std.specs.Str.{bytes_eq}
use Rattle.text_grammar.specs.declared.tree.Base.{Base as BaseText}
use Rattle.text_grammar.specs.declared.tree.BaseKind.{BaseKind}
use Rattle.text_grammar.specs.declared.tree.BaseKind.TheVariants as kind
use Rattle.typing_types.specs.declared.class.Integer.TheVariants as integer
use Rattle.typing_types.specs.declared.class.Base.{Base}
use Rattle.typing_types.specs.declared.class.Base.TheVariants as base
use Rattle.typing_types.specs.Types.{Derived, plain}
use Rattle.typing_scopes.specs.declared.entity.Entity.{Entity}
use Rattle.typing_scopes.specs.declared.entity.Declared.{Declared}
use Rattle.typing_scopes.specs.declared.entity.Member.{Member}
use Rattle.typing_scopes.specs.Tables.{found, found_at}
use Rattle.typing_scopes.specs.Visible.{Visible}

-- what the file scope knows of a name by its declarations
abbrev pub declared_of : Visible → List ℕ → Option Declared
declared_of scope name = found scope.names name

-- a function's own names hide those of file scope
abbrev pub entity_of : Visible → List ℕ → Option Entity
entity_of scope name =
    option_or (found scope.own name) (option_or (option_map (λ (d : Declared). d.entity) (declared_of scope name)) (found scope.built_in name))

-- the number of a tag: its place among all tags of the unit
abbrev pub tag_of : Visible → List ℕ → ℕ
tag_of scope name = unwrap_or (position (bytes_eq name) (keys_of scope.tags)) 0

-- whether the definition of the struct of a tag has ended
abbrev pub is_ended : Visible → List ℕ → Bool
is_ended scope tag = unwrap_or (found scope.tags tag) false

abbrev pub members_of : Visible → ℕ → List (List ℕ × Member)
members_of scope tag = unwrap_or (slice_get scope.members tag) []

abbrev pub member_of : Visible → ℕ → List ℕ → Option Member
member_of scope tag name = found (members_of scope tag) name

-- a member by its place among a struct's members
abbrev pub member_at : Visible → ℕ → ℕ → Option Member
member_at scope tag index = found_at (members_of scope tag) index

-- what a base of the tree is
abbrev pub base_of : Visible → BaseKind → Base
base_of scope kind.Int = base.Integer integer.Int
base_of scope kind.Char = base.Integer integer.Char
base_of scope kind.UnsignedInt = base.Integer integer.UnsignedInt
base_of scope kind.UnsignedChar = base.Integer integer.UnsignedChar
base_of scope kind.Void = base.Void
base_of scope (kind.Struct name) = base.Struct (tag_of scope name)

-- the type of a parameter, of a function's result, and as a cast or `sizeof` names one
abbrev pub plain_of : Visible → BaseText → ℕ → Derived
plain_of scope b stars = plain (base_of scope b.kind) stars
