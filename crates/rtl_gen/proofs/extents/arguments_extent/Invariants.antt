use Rattle.std.proofs.Common.{◌≡◌, ◌≤◌, drop, length}
use Rattle.core_lang.specs.Bounds.{arguments_size}
use Rattle.rtl_gen.specs.Extents.{extent_of}
use Rattle.rtl_gen.proofs.extents.arguments_extent.Given as goal

-- those behind were found
abbrev pub invariant-arguments : goal.invariant-arguments
invariant-arguments l = (l.left ≤ length l.arguments) × (l.extent ≡ extent_of (arguments_size (drop l.left l.arguments)))
