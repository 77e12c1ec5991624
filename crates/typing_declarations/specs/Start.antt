-- What is known before the first declaration of a unit: all its tags have their numbers, and the built-in functions are known.
use Rattle.std.specs.Prelude.{ℕ, List, [], ◌∷◌, map}
use Rattle.text_grammar.specs.declared.tree.External.{External}
use Rattle.typing_tags.specs.Tags.{tags_of}
use Rattle.typing_scopes.specs.Visible.{Visible}
use Rattle.typing_scopes.specs.Growth.{nothing, with_tag}
use Rattle.typing_declarations.specs.declared.whole.Whole.{Whole}
use Rattle.typing_declarations.specs.Whole.{with_built_ins}
use denote.Ref.{Bor}

abbrev pub tags_in : List (Bor (List ℕ)) → List (List ℕ)
tags_in tags = map (λ (k : Bor (List ℕ)). k.now) tags

abbrev pub with_tags : Visible → List (List ℕ) → Visible
with_tags scope [] = scope
with_tags scope (t ∷ ts) = with_tags (with_tag scope t) ts

abbrev pub scope_before : Whole → List External → Visible
scope_before whole tree = with_built_ins whole (with_tags nothing (tags_of tree))
