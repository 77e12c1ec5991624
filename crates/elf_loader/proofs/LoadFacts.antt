-- What the loader's loops over the segments have come to, and that a segment is apart from the stack and those before it.
use Rattle.std.proofs.Common.{◌≡◌, sym, subst, ◌∙◌, get_or, ℕ, ◌+◌, ◌<◌, ◌≤◌, Bool, false, Option, Some, None, cond, List, [], ◌∷◌, length, take, drop, map, inl, inr, arith}
use Rattle.std.specs.List.{list_any, AllByRecursion}
use Rattle.std.proofs.lemmas.Bool.Decides.{nat_tests}
use Rattle.std.proofs.lemmas.List.{length-take, get_or-take, get_or_default}
use Rattle.std.proofs.lemmas.List.Elements.{recursion_from_All}
use Rattle.cc_base.specs.Faces.{first_answer}
use Rattle.elf_file.specs.ImageView.{no_segment, segment_of, SegmentsApart}
use Rattle.elf_file.specs.declared.image.ImageParts.{ImageParts}
use Rattle.elf_file.specs.declared.image.SegmentPart.{SegmentPart}
use Rattle.i386_machine.specs.Regions.{Shape, shapes, ApartFrom}
use Rattle.elf_loader.specs.Load.{leaves, has_entry}
use Rattle.elf_loader.specs.Places.{segment_shape, stack_shape, AllInside}
use Rattle.elf_loader.specs.declared.fault.LoadFault.{LoadFault}
use Rattle.elf_loader.specs.declared.fault.LoadFault.TheVariants.{Segment}

-- the answer of the segments that are left
abbrev pub outside_from : ImageParts → ℕ → Option LoadFault
outside_from image i = first_answer (λ index (segment : SegmentPart). cond (leaves segment) (Some (Segment index)) None) i (drop i image.segments)

-- whether one of the segments that are left has the entry
abbrev pub entry_from : ImageParts → ℕ → Bool
entry_from image i = list_any (has_entry image.entry) (drop i image.segments)

-- a segment that does not leave the addresses of images ends before the stack
before_stack : (segment : SegmentPart) → leaves segment ≡ false → segment.start + segment.size ≤ stack_shape.base
before_stack segment inside = grind (arith, nat_tests)

-- it is apart from what lies before it
apart_before : (segment : SegmentPart) (before : List SegmentPart) → AllByRecursion (λ first. first.start + first.size ≤ segment.start) before → ApartFrom (segment_shape segment) (map segment_shape before)
apart_before segment [] h = tt
apart_before segment (first ∷ before) h = (inr h.0, apart_before segment before h.1)

apart_all : (image : ImageParts) (i : ℕ) → i < length image.segments → SegmentsApart image → AllInside image → ApartFrom (segment_shape (segment_of image i)) (stack_shape ∷ map segment_shape (take i image.segments))
apart_all image i h apart inside =
    let segment = segment_of image i in
    let Before : SegmentPart → Type 0 = λ first. first.start + first.size ≤ segment.start in
    let long = length-take i image.segments in
    let each = λ (k : ℕ) (d : SegmentPart) (l : k < length (take i image.segments)).
    let here : k < i = omega arith in
    let first : get_or image.segments k no_segment ≡ get_or (take i image.segments) k d = get_or_default image.segments k no_segment d (omega arith) ∙ sym (get_or-take i image.segments k d here) in
    subst Before first (apart.rise k i no_segment here h) in
    (inl (before_stack segment (inside i no_segment h)), apart_before segment (take i image.segments) (recursion_from_All Before (take i image.segments) each))

pub apart_here : (image : ImageParts) (i : ℕ) (shapes : List Shape) → i < length image.segments → SegmentsApart image → AllInside image → shapes ≡ stack_shape ∷ map segment_shape (take i image.segments) → ApartFrom (segment_shape (segment_of image i)) shapes
apart_here image i shapes h apart inside e = let P : List Shape → Type 0 = λ ss. ApartFrom (segment_shape (segment_of image i)) ss in subst P (sym e) (apart_all image i h apart inside)
