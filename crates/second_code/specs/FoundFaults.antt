-- That the linker finds in the objects of units what is wrong with the units.
use Rattle.std.specs.Prelude.{◌≡◌, ℕ, List, Option, Some, None}
use Rattle.second_form.specs.SecondFaults.{SourceFault, Doubled, Unresolved}
use Rattle.elf_file.specs.Object.{Object, symbol_of}
use Rattle.elf_linker.specs.declared.fault.LinkFault.{LinkFault}
use Rattle.elf_linker.specs.declared.fault.LinkFault.TheVariants as linking
use Rattle.elf_linker.specs.Linked.{object_at}
use Rattle.elf_linker.specs.Names.{too_long}

-- the same fault in the same unit, at a symbol of the same name. Where nothing is wrong with the units there may still be too many bytes
abbrev pub IsFoundAs : List Object → Option SourceFault → Option LinkFault → Type 0
IsFoundAs objects None fault = fault ≡ too_long objects
IsFoundAs objects (Some (Doubled unit name)) fault = (symbol : ℕ) × (fault ≡ Some (linking.Doubled unit symbol)) × ((symbol_of (object_at objects unit) symbol).name ≡ name)
IsFoundAs objects (Some (Unresolved unit name)) fault = (symbol : ℕ) × (fault ≡ Some (linking.Unresolved unit symbol)) × ((symbol_of (object_at objects unit) symbol).name ≡ name)
