-- From what the linker answers to what a command tells.
use Rattle.std.proofs.Common.{◌≡◌, ℕ, ◌<◌, ◌^◌, List, [], ◌∷◌, Result, Ok, Err, None, IfOk, get_or, length, sym, ap, ◌∙◌, subst, arith}
use Rattle.std.specs.Prelude.{IfErr}
use Rattle.elf_file.specs.Object.{Object}
use Rattle.elf_file.specs.Image.{WellFormedImage, ImageInRange, WrittenImage}
use Rattle.elf_file.specs.declared.image.ImageParts.{ImageParts}
use Rattle.elf_file.specs.declared.image.SegmentPart.{SegmentPart}
use Rattle.elf_linker.specs.Runtime.{with_runtime}
use Rattle.elf_linker.specs.Linked.{Linked}
use Rattle.elf_linker.specs.Names.{link_fault}
use Rattle.commands.specs.declared.answer.Answer.{Answer}
use Rattle.commands.specs.declared.answer.Answer.TheVariants as answer
use Rattle.commands.specs.Steps.{AreObjectFiles, LinkedBy, LinkedFrom}
use Rattle.commands.specs.LinkingSteps.{ReadFrom, are_objects, has_none, no_memory_left}

pub files_of : (names files : List (List ℕ)) (objects : List Object) → ReadFrom names files (Ok objects) → AreObjectFiles files objects
files_of names files objects (are_objects _ a) = a

-- the one segment is that of text
same_segment : (xs : List SegmentPart) (a b : SegmentPart) → xs ≡ a ∷ [] → xs ≡ b ∷ [] → a ≡ b
same_segment xs a b e f = sym (ap (λ (ys : List SegmentPart). get_or ys 0 a) e) ∙ ap (λ (ys : List SegmentPart). get_or ys 0 a) f

in_range : (objects : List Object) (image : ImageParts) → Linked objects image → (w : WellFormedImage image) → image.entry < 2 ^ 32 → ImageInRange image w.segment
in_range objects image linked w entry =
    let five = ap (λ (s : SegmentPart). s.flags) (same_segment image.segments w.segment (record { start = 0x08049000; flags = 5; size = length linked.code; bytes = linked.code }) w.one linked.segments) in
    record { entry = entry; flags = omega (arith, five) }

pub linked_image : (names files : List (List ℕ)) (objects : List Object) (image : ImageParts) (result : Result (List ℕ) Answer) → AreObjectFiles files objects → Linked (with_runtime objects) image → link_fault (with_runtime objects) ≡ None → WellFormedImage image → image.entry < 2 ^ 32
    → IfOk result (λ file. WrittenImage image file) → IfErr result (λ told. told ≡ answer.Memory) → LinkedFrom names files result
linked_image names files objects image (Ok bytes) are linked none w entry written memory =
    (objects, are, record { image = image; linked = linked; no_fault = none; written = record { well_formed = w; in_range = in_range (with_runtime objects) image linked w entry; written = written } })
linked_image names files objects image (Err told) are linked none w entry written memory =
    let P : Answer → Type 0 = λ a. LinkedFrom names files (Err a) in subst P (sym memory) tt

-- what cannot be read is told
pub from_read : (names files : List (List ℕ)) (told : Answer) → ReadFrom names files (Err told) → LinkedFrom names files (Err told)
from_read names files (answer.ObjectForm which) (has_none _ h) = h
from_read names files answer.Memory no_memory_left = tt
from_read names files answer.Words h = elim h [ ]
from_read names files (answer.Missing _) h = elim h [ ]
from_read names files answer.ReadFault h = elim h [ ]
from_read names files answer.WriteFault h = elim h [ ]
from_read names files (answer.LimitFile _) h = elim h [ ]
from_read names files (answer.LimitForm _) h = elim h [ ]
from_read names files (answer.LimitText _) h = elim h [ ]
from_read names files (answer.LimitDeep _ _) h = elim h [ ]
from_read names files (answer.Syntax _ _ _) h = elim h [ ]
from_read names files (answer.Typing _ _ _) h = elim h [ ]
from_read names files (answer.LimitUnit _ _ _) h = elim h [ ]
from_read names files answer.Shown h = elim h [ ]
from_read names files (answer.Doubled _ _) h = elim h [ ]
from_read names files (answer.Unresolved _ _) h = elim h [ ]
from_read names files (answer.Sized _ _ _ _) h = elim h [ ]
from_read names files (answer.Range _) h = elim h [ ]
from_read names files (answer.ImageForm _) h = elim h [ ]
from_read names files (answer.ImageSegment _ _) h = elim h [ ]
from_read names files (answer.ImageEntry _) h = elim h [ ]
from_read names files (answer.ObjectStored _) h = elim h [ ]
from_read names files (answer.ImageStored _) h = elim h [ ]
from_read names files (answer.Ended _) h = elim h [ ]
from_read names files answer.Spent h = elim h [ ]
from_read names files (answer.Stuck _ _) h = elim h [ ]
from_read names files (answer.Wrong _) h = elim h [ ]
from_read names files (answer.Deep _) h = elim h [ ]

-- what is wrong with the objects is told
pub from_fault : (names files : List (List ℕ)) (objects : List Object) (told : Answer) → AreObjectFiles files objects → LinkedBy names objects (Err told) → LinkedFrom names files (Err told)
from_fault names files objects (answer.ObjectForm which) are h = elim h [ ]
from_fault names files objects answer.Memory are h = tt
from_fault names files objects answer.Words are h = (objects, are, h)
from_fault names files objects (answer.Missing _) are h = (objects, are, h)
from_fault names files objects answer.ReadFault are h = (objects, are, h)
from_fault names files objects answer.WriteFault are h = (objects, are, h)
from_fault names files objects (answer.LimitFile _) are h = (objects, are, h)
from_fault names files objects (answer.LimitForm _) are h = (objects, are, h)
from_fault names files objects (answer.LimitText _) are h = (objects, are, h)
from_fault names files objects (answer.LimitDeep _ _) are h = (objects, are, h)
from_fault names files objects (answer.Syntax _ _ _) are h = (objects, are, h)
from_fault names files objects (answer.Typing _ _ _) are h = (objects, are, h)
from_fault names files objects (answer.LimitUnit _ _ _) are h = (objects, are, h)
from_fault names files objects answer.Shown are h = (objects, are, h)
from_fault names files objects (answer.Doubled _ _) are h = (objects, are, h)
from_fault names files objects (answer.Unresolved _ _) are h = (objects, are, h)
from_fault names files objects (answer.Sized _ _ _ _) are h = (objects, are, h)
from_fault names files objects (answer.Range _) are h = (objects, are, h)
from_fault names files objects (answer.ImageForm _) are h = (objects, are, h)
from_fault names files objects (answer.ImageSegment _ _) are h = (objects, are, h)
from_fault names files objects (answer.ImageEntry _) are h = (objects, are, h)
from_fault names files objects (answer.ObjectStored _) are h = (objects, are, h)
from_fault names files objects (answer.ImageStored _) are h = (objects, are, h)
from_fault names files objects (answer.Ended _) are h = (objects, are, h)
from_fault names files objects answer.Spent are h = (objects, are, h)
from_fault names files objects (answer.Stuck _ _) are h = (objects, are, h)
from_fault names files objects (answer.Wrong _) are h = (objects, are, h)
from_fault names files objects (answer.Deep _) are h = (objects, are, h)
