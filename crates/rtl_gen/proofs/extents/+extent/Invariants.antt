use Rattle.std.proofs.Common.{◌≡◌, drop}
use Rattle.core_lang.specs.Bounds.{body_size}
use Rattle.rtl_gen.specs.Extents.{extent_of, both}
use Rattle.rtl_gen.proofs.extents.+extent.Given as goal

-- what those that are left take comes to what was found
abbrev pub invariant-body_extent-statements : goal.invariant-body_extent-statements
invariant-body_extent-statements l = both l.extent (extent_of (body_size (drop l.statement-index l.statements))) ≡ extent_of (body_size l.statements)
