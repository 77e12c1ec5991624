-- How what is known grows from one place of a unit to the next.
use Rattle.std.specs.Prelude.{ℕ, Bool, true, false, cond, List, [], ◌∷◌, ◌++◌, slice_set, Option, Some, None, is_some}
use Rattle.typing_types.specs.Laid.{Laid}
use Rattle.typing_scopes.specs.declared.entity.Entity.{Entity}
use Rattle.typing_scopes.specs.declared.entity.Declared.{Declared}
use Rattle.typing_scopes.specs.declared.entity.Member.{Member}
use Rattle.typing_scopes.specs.Tables.{found, with_entry}
use Rattle.typing_scopes.specs.Visible.{Visible}
use Rattle.typing_scopes.specs.Names.{tag_of}

-- nothing is known
abbrev pub nothing : Visible
nothing = record { own = []; names = []; built_in = []; tags = []; layouts = []; members = [] }

-- a name is known without a declaration
abbrev pub with_built_in : Visible → List ℕ → Entity → Visible
with_built_in scope name entity = record scope { built_in = with_entry scope.built_in name entity }

-- a declaration at file scope: from here on the name means this
abbrev pub with_declared : Visible → List ℕ → Declared → Visible
with_declared scope name declared = record scope { names = with_entry scope.names name declared }

-- a parameter or a local
abbrev pub with_own : Visible → List ℕ → Entity → Visible
with_own scope name entity = record scope { own = with_entry scope.own name entity }

-- behind the end of a function, and before its head
abbrev pub outside : Visible → Visible
outside scope = record scope { own = [] }

-- a tag that is seen for the first time gets the next number. Its struct has neither layout nor members as yet
abbrev pub with_new_tag : Visible → List ℕ → Visible
with_new_tag scope tag = record scope { tags = with_entry scope.tags tag false; layouts = scope.layouts ++ None ∷ []; members = scope.members ++ [] ∷ [] }

abbrev pub with_tag : Visible → List ℕ → Visible
with_tag scope tag = cond (is_some (found scope.tags tag)) scope (with_new_tag scope tag)

-- behind the definition of a struct. Within it the struct is as it was before, so its size is not known there
abbrev pub with_struct : Visible → List ℕ → List (List ℕ × Member) → Option Laid → Visible
with_struct scope tag members layout =
    let seen = with_tag scope tag in
    record seen {
      tags = with_entry seen.tags tag true;
      layouts = slice_set seen.layouts (tag_of seen tag) layout;
      members = slice_set seen.members (tag_of seen tag) members;
    }
