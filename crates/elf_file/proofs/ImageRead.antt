-- A file that passes the checks is that of the image in it, and the file of an image passes them and gives it back.
use Rattle.std.proofs.Common.{◌≡◌, refl, sym, ap, subst, ◌∙◌, ℕ, ◌+◌, ◌^◌, ◌<◌, ◌≤◌, List, [], ◌∷◌, ◌++◌, length, arith}
use Rattle.cc_base.specs.Words.{join-word_bytes}
use Rattle.elf_file.specs.Places.{word_at, words_bytes, Stands}
use Rattle.elf_file.specs.Written.{ZerosUpTo}
use Rattle.elf_file.specs.Object.{bytes_in}
use Rattle.elf_file.specs.Image.{offset_of, image_header, program_header, image_end, WrittenBySegment, IsImageOf}
use Rattle.elf_file.specs.ImageNumbers.{program_words, contents_at, numbers_of, numbers_in, Proper, HeadersStand, ContentsStand, ImageStands, image_at, image_in}
use Rattle.elf_file.specs.declared.image.ImageParts.{ImageParts}
use Rattle.elf_file.specs.declared.image.SegmentPart.{SegmentPart}
use Rattle.elf_file.specs.declared.image_headers.Numbers.{Numbers}
use Rattle.elf_file.proofs.Entries.{AreBytes}
use Rattle.elf_file.proofs.SizesBack.{word_stands}
use Rattle.elf_file.proofs.StandsFacts.{stands_join, stands_split, stands_at, stands_bytes, stands_inside, bytes_stand}
use Rattle.elf_file.proofs.ViewFacts.{length-bytes_in}
use Rattle.elf_file.proofs.ImageFacts.{image_end-is, contents_of, contents_stand, written_by}

-- the three parts of the file header
abbrev ident : List ℕ
ident = 0x7f ∷ 0x45 ∷ 0x4c ∷ 0x46 ∷ 1 ∷ 1 ∷ 1 ∷ 0 ∷ 0 ∷ 0 ∷ 0 ∷ 0 ∷ 0 ∷ 0 ∷ 0 ∷ 0 ∷ 2 ∷ 0 ∷ 3 ∷ 0 ∷ []

abbrev words : ℕ → List ℕ
words entry = words_bytes (1 ∷ entry ∷ 52 ∷ 0 ∷ 0 ∷ [])

abbrev counts : List ℕ
counts = 52 ∷ 0 ∷ 32 ∷ 0 ∷ 1 ∷ 0 ∷ 0 ∷ 0 ∷ 0 ∷ 0 ∷ 0 ∷ 0 ∷ []

header_forth : (file : List ℕ) (n : Numbers) → HeadersStand file n → Stands file 0 (image_header n.entry)
header_forth file n h = stands_join file ident (words n.entry ++ counts) 0 h.ident (stands_join file (words n.entry) counts 20 h.words h.counts)

-- the headers of an image
headers_back : (file : List ℕ) (n : Numbers) → Stands file 0 (image_header n.entry) → Stands file 52 (words_bytes (program_words n)) → HeadersStand file n
headers_back file n h p =
    let a = stands_split file ident (words n.entry ++ counts) 0 h in
    let b = stands_split file (words n.entry) counts 20 a.1 in
    record { ident = a.0; words = b.0; counts = b.1; program = p }

-- the file of an image passes the checks
pub checks_back : (parts : ImageParts) (file : List ℕ) (is : IsImageOf parts file) → ImageStands file (numbers_of parts.entry is.well_formed.segment)
checks_back parts file is =
    let f = is.well_formed in
    let n = numbers_of parts.entry f.segment in
    let w = written_by parts file f is.written in
    let c = contents_stand parts f.segment file w in
    record {
      proper = record { some = f.some; short = f.short; from = f.from; to = f.to };
      headers = headers_back file n w.header w.program;
      contents = record { whole = w.length_is ∙ image_end-is parts.entry f.segment; gap = c.0 };
    }

same_numbers : (a b : Numbers) → a.entry ≡ b.entry → a.start ≡ b.start → a.file_size ≡ b.file_size → a.size ≡ b.size → a.flags ≡ b.flags → a ≡ b
same_numbers a b e1 e2 e3 e4 e5 =
    ap (λ (x : ℕ). record { entry = x; start = a.start; file_size = a.file_size; size = a.size; flags = a.flags }) e1
    ∙ ap (λ (x : ℕ). record { entry = b.entry; start = x; file_size = a.file_size; size = a.size; flags = a.flags }) e2
    ∙ ap (λ (x : ℕ). record { entry = b.entry; start = b.start; file_size = x; size = a.size; flags = a.flags }) e3
    ∙ ap (λ (x : ℕ). record { entry = b.entry; start = b.start; file_size = b.file_size; size = x; flags = a.flags }) e4
    ∙ ap (λ (x : ℕ). record { entry = b.entry; start = b.start; file_size = b.file_size; size = b.size; flags = x }) e5

-- the numbers that stand in the headers
pub numbers_back : (file : List ℕ) (n : Numbers) → n.entry < 2 ^ 32 → n.flags < 2 ^ 32 → Proper n → HeadersStand file n → numbers_in file ≡ n
numbers_back file n entry flags p h =
    let some = p.some in let short = p.short in let from = p.from in let to = p.to in
    same_numbers (numbers_in file) n
    (word_stands file (words n.entry) 20 4 h.words (omega arith) ∙ join-word_bytes n.entry entry)
    (word_stands file (words_bytes (program_words n)) 52 8 h.program (omega arith) ∙ join-word_bytes n.start (omega arith))
    (word_stands file (words_bytes (program_words n)) 52 16 h.program (omega arith) ∙ join-word_bytes n.file_size (omega arith))
    (word_stands file (words_bytes (program_words n)) 52 20 h.program (omega arith) ∙ join-word_bytes n.size (omega arith))
    (word_stands file (words_bytes (program_words n)) 52 24 h.program (omega arith) ∙ join-word_bytes n.flags flags)

-- so they are those of the image
pub numbers_are : (parts : ImageParts) (file : List ℕ) (is : IsImageOf parts file) → numbers_in file ≡ numbers_of parts.entry is.well_formed.segment
numbers_are parts file is =
    let c = checks_back parts file is in
    numbers_back file (numbers_of parts.entry is.well_formed.segment) is.in_range.entry is.in_range.flags c.proper c.headers

pub stands_back : (parts : ImageParts) (file : List ℕ) → IsImageOf parts file → ImageStands file (numbers_in file)
stands_back parts file is = let P : Numbers → Type 0 = λ n. ImageStands file n in subst P (sym (numbers_are parts file is)) (checks_back parts file is)

abbrev with_bytes : ℕ → SegmentPart → List ℕ → ImageParts
with_bytes entry segment bytes = record { entry = entry; segments = record { start = segment.start; flags = segment.flags; size = segment.size; bytes = bytes } ∷ [] }

-- and the image is the one that the headers give
pub image_back : (parts : ImageParts) (file : List ℕ) → IsImageOf parts file → image_in file ≡ parts
image_back parts file is =
    let f = is.well_formed in
    let w = written_by parts file f is.written in
    let c = contents_stand parts f.segment file w in
    ap (λ (n : Numbers). image_at file n) (numbers_are parts file is) ∙ ap (λ (xs : List ℕ). with_bytes parts.entry f.segment xs) c.1.are
    ∙ ap (λ (ss : List SegmentPart). record { entry = parts.entry; segments = ss }) (sym f.one)

pub one_image : (one other : ImageParts) (file : List ℕ) → IsImageOf one file → IsImageOf other file → one ≡ other
one_image one other file a b = sym (image_back one file a) ∙ image_back other file b

word-small : (file : List ℕ) (at : ℕ) → AreBytes file → word_at file at < 2 ^ 32
word-small file at bytes =
    let b0 = bytes at in let b1 = bytes (at + 1) in let b2 = bytes (at + 2) in let b3 = bytes (at + 3) in omega arith

-- the segment that the headers give
abbrev segment_at : List ℕ → Numbers → SegmentPart
segment_at file n = record { start = n.start; flags = n.flags; size = n.size; bytes = bytes_in file (contents_at n) n.file_size }

length-contents : (file : List ℕ) (n : Numbers) → ContentsStand file n → length (bytes_in file (contents_at n) n.file_size) ≡ n.file_size
length-contents file n c = let whole = c.whole in length-bytes_in file (contents_at n) n.file_size (omega arith)

abbrev numbers_sized : Numbers → ℕ → Numbers
numbers_sized n size = record { entry = n.entry; start = n.start; file_size = size; size = n.size; flags = n.flags }

written_forth : (file : List ℕ) (n : Numbers) → ImageStands file n → WrittenBySegment (image_at file n) (segment_at file n) file
written_forth file n s =
    let long = length-contents file n s.contents in
    let from = s.proper.from in
    let whole = s.contents.whole in
    let size : numbers_sized n n.file_size ≡ numbers_of n.entry (segment_at file n) = ap (λ (k : ℕ). numbers_sized n k) (sym long) in
    let there : 0 < length (segment_at file n).bytes → contents_at n ≡ offset_of n.start = λ some. contents_of n (omega arith) in
    let end : image_end (segment_at file n) ≡ contents_at n + length (segment_at file n).bytes = image_end-is n.entry (segment_at file n) ∙ ap (λ (m : Numbers). contents_at m + length (segment_at file n).bytes) (sym size) in
    let Gap : ℕ → Type 0 = λ to. ZerosUpTo file 84 to in
    record {
      header = header_forth file n s.headers;
      program = stands_bytes s.headers.program (program_header (segment_at file n)) (ap (λ (m : Numbers). words_bytes (program_words m)) size);
      gap = λ some. subst Gap (there some) s.contents.gap;
      bytes = λ some. stands_at (bytes_stand file (contents_at n) n.file_size (omega arith)) (offset_of n.start) (there some);
      length_is = omega arith;
    }

pub image_forth : (file : List ℕ) (n : Numbers) → n.entry < 2 ^ 32 → n.flags < 2 ^ 32 → ImageStands file n → IsImageOf (image_at file n) file
image_forth file n entry flags s =
    let long = length-contents file n s.contents in
    let p = s.proper in
    let short = p.short in
    record {
      well_formed = record { segment = segment_at file n; one = refl; some = p.some; short = omega arith; from = p.from; to = p.to };
      in_range = record { entry = entry; flags = flags };
      written = (segment_at file n, refl, written_forth file n s);
    }

pub found_image : (file : List ℕ) (n : Numbers) → AreBytes file → n ≡ numbers_in file → ImageStands file n → IsImageOf (image_at file n) file
found_image file n bytes e s =
    let P : Numbers → Type 0 = λ m. ImageStands file m → IsImageOf (image_at file m) file in
    subst P (sym e) (image_forth file (numbers_in file) (word-small file 24 bytes) (word-small file 76 bytes)) s

-- the headers have room in the file
pub headers_inside : (parts : ImageParts) (file : List ℕ) → IsImageOf parts file → 84 ≤ length file
headers_inside parts file is =
    let c = checks_back parts file is in
    let n = numbers_of parts.entry is.well_formed.segment in
    stands_inside file (words_bytes (program_words n)) 52 c.headers.program (omega arith)

-- an image with these numbers and bytes, as a view shows it
abbrev pub image_with : Numbers → List ℕ → ImageParts
image_with n bytes = record { entry = n.entry; segments = record { start = n.start; flags = n.flags; size = n.size; bytes = bytes } ∷ [] }

pub slice_is : (file bytes : List ℕ) (n : Numbers) (at : ℕ) → bytes ≡ bytes_in file at n.file_size → at ≡ contents_at n → bytes ≡ bytes_in file (contents_at n) n.file_size
slice_is file bytes n at b e = b ∙ ap (λ (k : ℕ). bytes_in file k n.file_size) e
