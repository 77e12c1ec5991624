use Rattle.std.proofs.Common.{◌≡◌, ap, refl, arith, List, [], ◌∷◌, Some}
use Rattle.std.specs.List.{slice_get}
use Rattle.elf_file.specs.declared.image.SegmentPart.{SegmentPart}
use Rattle.elf_file.proofs.ImageFacts.{WrittenImage-made}
use Rattle.elf_file.proofs.image_file.write_image.Goals as goal

-- the segment that is read is the one that there is
read_one : (segments : List SegmentPart) (segment got : SegmentPart) → segments ≡ segment ∷ [] → slice_get segments 0 ≡ Some got → got ≡ segment
read_one segments segment got one read = let first : slice_get segments 0 ≡ Some segment = ap (λ (xs : List SegmentPart). slice_get xs 0) one in cc

pub returns : goal.returns
returns c =
    let at = c.contents_at-start.ensures in
    WrittenImage-made c.args.parts.now c.at-segment.result.now c.as_slice-bytes.result.now c.in_ok-out.out.items c.put_headers.new.out.items c.resize.new.self.items c.extend_from_slice.new.self.items c.contents_at-start.result _ _ c.requires
    (read_one c.args.parts.now.segments c.requires.segment c.at-segment.result.now c.requires.one c.at-segment.ensures)
    (record { numbers = refl; bytes_are = c.as_slice-bytes.ensures; place = at; none = c.in_ok-out.ensures.items; headers = c.in_ok-put_headers.ensures; so_far = omega (arith, c.put_headers.new.out.ok.0); gap = c.in_ok-resize.ensures.items; whole = c.in_ok-extend_from_slice.ensures.items })
