use Rattle.std.proofs.Common.{◌≡◌, ◌++◌, ◌∷◌, map, take}
use Rattle.i386_machine.specs.Regions.{shapes}
use Rattle.elf_loader.specs.Load.{region_of}
use Rattle.elf_loader.specs.Places.{segment_shape, stack_shape}
use Rattle.elf_loader.proofs.loading.add_segments.Given as goal

abbrev pub invariant-loop-index : goal.invariant-loop-index
invariant-loop-index l = (l.machine ≡ record l.fn.machine { regions = l.fn.machine.regions ++ map region_of (take l.index l.image.segments) })
    × (shapes l.machine.regions ≡ stack_shape ∷ map segment_shape (take l.index l.image.segments))
