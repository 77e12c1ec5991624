-- An image that is linked from the objects of units can be loaded.
use Rattle.std.specs.Prelude.{◌≡◌, ℕ, ◌+◌, ◌<◌, ◌≤◌, List, [], ◌∷◌, length, All, Option, Some, None, Bool, true, false, cond, nat_lt, nat_le, ◌&&◌, ◌||◌}
use Rattle.std.specs.Option.{option_or}
use Rattle.std.proofs.Common.{arith, ◌∙◌}
use Rattle.std.proofs.lemmas.Bool.{le-ltb, lt-ltb, le-leb}
use Rattle.second_form.specs.declared.second_items.Item.{Item}
use Rattle.elf_file.specs.declared.image.ImageParts.{ImageParts}
use Rattle.elf_linker.specs.Placement.{texts_end, whole_end}
use Rattle.elf_linker.specs.Linked.{Linked}
use Rattle.elf_linker.specs.Names.{link_fault}
use Rattle.elf_loader.specs.Load.{load_fault}
use Rattle.elf_loader.specs.declared.fault.LoadFault.{LoadFault}
use Rattle.elf_loader.specs.declared.fault.LoadFault.TheVariants.{Segment, Entry}
use Rattle.second_code.specs.LinkedObjects.{IsUnit, linked_objects}
use Rattle.second_code.proofs.PlacedUnits.{origin_of}
use Rattle.second_code.proofs.TextPlaces.{aligned_from}
use Rattle.second_code.proofs.LinkedRuntime.{runtime_inside}
use Rattle.second_code.proofs.WholeLinking.{entry_is}

-- what the tests of the one segment come to
abbrev fault_by : Bool → Bool → Bool → Option LoadFault
fault_by outside from below = option_or (option_or (cond outside (Some (Segment 0)) None) None) (cond (from && below || false) None (Some Entry))

module _ (units : List (List Item)) (image : ImageParts) (linked : Linked (linked_objects units) image) (fine : link_fault (linked_objects units) ≡ None) (are : All IsUnit units) where
  abbrev long : ℕ
  long = length linked.code

  abbrev start : ℕ
  start = 0x08049000 + origin_of units (length units)

  -- the segment ends in the addresses of images
  ends : 0x08049000 + long ≤ 0x09048000
  ends =
      let e = linked.ends in let i = linked.inside in let a : texts_end (linked_objects units) ≤ whole_end (linked_objects units) = aligned_from 4096 (texts_end (linked_objects units)) in
      below (0x08049000 + long) (texts_end (linked_objects units)) (whole_end (linked_objects units)) e a i
    where
      below : (size end whole : ℕ) → size ≡ end → end ≤ whole → whole ≤ 0x09048000 → size ≤ 0x09048000
      below size end whole e a i = omega (arith, e, a, i)

  -- and it has the entry
  has_entry : start < 0x08049000 + long
  has_entry = inside (origin_of units (length units)) long (runtime_inside units image linked fine)
    where
      inside : (origin size : ℕ) → origin + 94 ≤ size → 0x08049000 + origin < 0x08049000 + size
      inside origin size l = omega (arith, l)

  from_first : 0x08049000 ≤ start
  from_first = omega arith

  loads : load_fault (record { entry = start; segments = record { start = 0x08049000; flags = 5; size = long; bytes = linked.code } ∷ [] }) ≡ None
  loads =
      let a : nat_lt 0x09048000 (0x08049000 + long) ≡ false = le-ltb 0x09048000 (0x08049000 + long) ends in
      let b : nat_le 0x08049000 start ≡ true = le-leb 0x08049000 start from_first in
      let c : nat_lt start (0x08049000 + long) ≡ true = lt-ltb start (0x08049000 + long) has_entry in
      λ i. fault_by (a i) (b i) (c i)

  pub whole_loading : load_fault image ≡ None
  whole_loading = (λ i. load_fault (record { entry = entry_is units image linked fine are i; segments = linked.segments i })) ∙ loads
