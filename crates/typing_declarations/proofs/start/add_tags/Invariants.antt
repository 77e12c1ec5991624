use Rattle.std.proofs.Common.{◌≡◌, drop}
use Rattle.typing_declarations.specs.Start.{tags_in, with_tags}
use Rattle.typing_declarations.proofs.start.add_tags.Given as goal

-- those that are left are seen from here on
abbrev pub invariant-tags : goal.invariant-tags
invariant-tags l = with_tags l.scope (tags_in (drop l.tag-index l.tags)) ≡ with_tags l.initial.scope (tags_in l.tags)
