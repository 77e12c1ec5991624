use Rattle.std.proofs.Common.{◌≡◌, ◌++◌, drop, map}
use Rattle.rtl_gen.specs.Trees.{tree}
use Rattle.rtl_gen.specs.Translation.{homes}
use Rattle.rtl_gen.proofs.arguments.homes.Given as goal

-- those that are left come behind those that were found
abbrev pub invariant-arguments : goal.invariant-arguments
invariant-arguments l = l.made ++ homes l.free (map tree (drop l.argument-index l.arguments)) ≡ homes l.scratch (map tree l.arguments)
