-- The file of an image: its pieces, its headers, and what is read from it.
use Rattle.std.proofs.Common.{◌≡◌, refl, sym, ap, subst, ◌∙◌, ℕ, zero, suc, ◌+◌, ◌-◌, ◌<◌, ◌≤◌, ◌⊎◌, inl, inr, Bool, true, false, List, [], ◌∷◌, ◌++◌, length, take, replicate, arith}
use Rattle.std.specs.Prelude.{nat_eq, if◌then◌else◌}
use Rattle.std.proofs.Math.Logic.{⊎_elim}
use Rattle.std.proofs.lemmas.Bool.{eqb-true}
use Rattle.std.proofs.lemmas.List.{take_all}
use Rattle.elf_file.specs.Places.{words_bytes, Stands}
use Rattle.elf_file.specs.Pieces.{joined}
use Rattle.elf_file.specs.Written.{ZerosUpTo}
use Rattle.elf_file.specs.Image.{first_address, offset_of, image_header, image_end, WellFormedImage, WrittenBySegment, WrittenImage}
use Rattle.elf_file.specs.ImageNumbers.{program_words, image_headers, contents_at, numbers_of}
use Rattle.elf_file.specs.declared.image.ImageParts.{ImageParts}
use Rattle.elf_file.specs.declared.image.SegmentPart.{SegmentPart}
use Rattle.elf_file.specs.declared.image_headers.Numbers.{Numbers}
use Rattle.elf_file.proofs.Joined.{length-joined, joined_stand, two_more, two_pieces}
use Rattle.elf_file.proofs.OneFile.{together}
use Rattle.elf_file.proofs.StandsFacts.{stands_at, stands_bytes, stands_empty, no_gap}
use Rattle.elf_file.proofs.WrittenPieces.{length_gap}

-- where the contents stand, with bytes and without
abbrev Placed : Numbers → Type 0
Placed n = ((n.file_size ≡ 0) × (contents_at n ≡ 84)) ⊎ ((0 < n.file_size) × (contents_at n ≡ offset_of n.start))

placed_by : (n : Numbers) (none : Bool) → nat_eq n.file_size 0 ≡ none → Placed n
placed_by n true e = inl (eqb-true n.file_size 0 e, ap (λ (b : Bool). if b then 84 else offset_of n.start) e)
placed_by n false e =
    let some : n.file_size ≡ 0 → ⊥ = λ z. let clash : true ≡ false = sym (ap (λ (k : ℕ). nat_eq k 0) z) ∙ e in cc in
    inr (omega arith, ap (λ (b : Bool). if b then 84 else offset_of n.start) e)

pub placed : (n : Numbers) → Placed n
placed n = placed_by n (nat_eq n.file_size 0) refl

-- the pieces of an image's file
abbrev pub image_pieces : Numbers → List ℕ → List (List ℕ)
image_pieces n bytes = image_header n.entry ∷ words_bytes (program_words n) ∷ replicate (contents_at n - 84) 0 ∷ bytes ∷ []

ends_by : (segment : SegmentPart) (none : Bool) → nat_eq (length segment.bytes) 0 ≡ none
    → (if none then 84 else offset_of segment.start + length segment.bytes) ≡ (if none then 84 else offset_of segment.start) + length segment.bytes
ends_by segment true e = let z = eqb-true (length segment.bytes) 0 e in omega arith
ends_by segment false e = refl

pub image_end-is : (entry : ℕ) (segment : SegmentPart) → image_end segment ≡ contents_at (numbers_of entry segment) + length segment.bytes
image_end-is entry segment = ends_by segment (nat_eq (length segment.bytes) 0) refl

-- the contents do not stand before the headers' end
pub contents_behind : (n : Numbers) → first_address ≤ n.start → 84 ≤ contents_at n
contents_behind n h = ⊎_elim (λ (p : (n.file_size ≡ 0) × (contents_at n ≡ 84)). omega arith) (λ (p : (0 < n.file_size) × (contents_at n ≡ offset_of n.start)). omega arith) (placed n)

pub contents_of : (n : Numbers) → 0 < n.file_size → contents_at n ≡ offset_of n.start
contents_of n some = ⊎_elim (λ (p : (n.file_size ≡ 0) × (contents_at n ≡ 84)). absurd (omega arith)) (λ (p : (0 < n.file_size) × (contents_at n ≡ offset_of n.start)). p.1) (placed n)

no_contents : (n : Numbers) → n.file_size ≡ 0 → contents_at n ≡ 84
no_contents n none = ⊎_elim (λ (p : (n.file_size ≡ 0) × (contents_at n ≡ 84)). p.1) (λ (p : (0 < n.file_size) × (contents_at n ≡ offset_of n.start)). absurd (omega arith)) (placed n)

pub no_bytes : (bytes : List ℕ) → length bytes ≡ 0 → bytes ≡ []
no_bytes [] h = refl
no_bytes (b ∷ bytes) h = absurd (omega arith)

-- the gap and the bytes, wherever they stand
contents_by : (parts : ImageParts) (segment : SegmentPart) (file : List ℕ) → WrittenBySegment parts segment file
    → (length segment.bytes ≡ 0) ⊎ (0 < length segment.bytes) → ZerosUpTo file 84 (contents_at (numbers_of parts.entry segment)) × Stands file (contents_at (numbers_of parts.entry segment)) segment.bytes
contents_by parts segment file w (inl none) =
    let n = numbers_of parts.entry segment in
    (no_gap file 84 (contents_at n) (omega (arith, no_contents n none)), stands_bytes (stands_empty file (contents_at n)) segment.bytes (sym (no_bytes segment.bytes none)))
contents_by parts segment file w (inr some) =
    let n = numbers_of parts.entry segment in
    let there = sym (contents_of n some) in
    let P : ℕ → Type 0 = λ to. ZerosUpTo file 84 to in
    (subst P there (w.gap some), stands_at (w.bytes some) (contents_at n) there)

pub some_or_none : (k : ℕ) → (k ≡ 0) ⊎ (0 < k)
some_or_none zero = inl refl
some_or_none (suc k) = inr (omega arith)

pub contents_stand : (parts : ImageParts) (segment : SegmentPart) (file : List ℕ) → WrittenBySegment parts segment file → ZerosUpTo file 84 (contents_at (numbers_of parts.entry segment)) × Stands file (contents_at (numbers_of parts.entry segment)) segment.bytes
contents_stand parts segment file w = contents_by parts segment file w (some_or_none (length segment.bytes))

-- what was written is the image
pub WrittenImage-pieces : (parts : ImageParts) (segment : SegmentPart) → parts.segments ≡ segment ∷ [] → first_address ≤ segment.start → WrittenImage parts (joined (image_pieces (numbers_of parts.entry segment) segment.bytes))
WrittenImage-pieces parts segment one from =
    let n = numbers_of parts.entry segment in
    let s = joined_stand (image_pieces n segment.bytes) in
    let len = length-joined (image_pieces n segment.bytes) in
    let gap = length_gap 84 (contents_at n) in
    let behind = contents_behind n from in
    let s1 = s.1 in let s2 = s1.1 in let s3 = s2.1 in
    let there : 0 < length segment.bytes → contents_at n ≡ offset_of segment.start = λ some. contents_of n some in (
      segment,
      one,
      record {
        header = s.0;
        program = s1.0;
        gap = λ some. let P : ℕ → Type 0 = λ to. ZerosUpTo (joined (image_pieces n segment.bytes)) 84 to in subst P (there some) s2.0;
        bytes = λ some. stands_at s3.0 (offset_of segment.start) (omega (arith, there some));
        length_is = omega (arith, image_end-is parts.entry segment);
      },
    )

-- and nothing else is
pub image_is : (parts : ImageParts) (segment : SegmentPart) (file : List ℕ) → first_address ≤ segment.start → WrittenBySegment parts segment file → file ≡ joined (image_pieces (numbers_of parts.entry segment) segment.bytes)
image_is parts segment file from w =
    let n = numbers_of parts.entry segment in
    let pieces = image_pieces n segment.bytes in
    let len = length-joined pieces in
    let gap = length_gap 84 (contents_at n) in
    let behind = contents_behind n from in
    let whole : length file ≡ contents_at n + length segment.bytes = w.length_is ∙ image_end-is parts.entry segment in
    let c = contents_stand parts segment file w in
    let all : Stands file 0 (joined pieces) = together file pieces 0 (w.header, (w.program, (c.0, (stands_at c.1 _ (omega arith), tt)))) in
    sym (take_all (length (joined pieces)) file (omega arith)) ∙ all.are

-- the one segment is the well-formed one
pub same_segment : (parts : ImageParts) (a b : SegmentPart) → parts.segments ≡ a ∷ [] → parts.segments ≡ b ∷ [] → a ≡ b
same_segment parts a b p q = cc

pub written_by : (parts : ImageParts) (file : List ℕ) (f : WellFormedImage parts) → WrittenImage parts file → WrittenBySegment parts f.segment file
written_by parts file f w =
    let P : SegmentPart → Type 0 = λ s. WrittenBySegment parts s file in
    subst P (same_segment parts w.0 f.segment w.1 f.one) w.2

pub one_image_file : (parts : ImageParts) (one other : List ℕ) → WellFormedImage parts → WrittenImage parts one → WrittenImage parts other → one ≡ other
one_image_file parts one other f a b = image_is parts f.segment one f.from (written_by parts one f a) ∙ sym (image_is parts f.segment other f.from (written_by parts other f b))

-- what the writer has at each step, and the segment that it reads
pub record Steps (parts : ImageParts) (got : SegmentPart) (bytes empty headed filled file : List ℕ) (start len : ℕ) (n : Numbers) : Type 0 where
  pub numbers : n ≡ record { entry = parts.entry; start = got.start; file_size = length bytes; size = got.size; flags = got.flags }
  pub bytes_are : bytes ≡ got.bytes
  pub place : start ≡ contents_at n
  pub none : empty ≡ []
  pub headers : headed ≡ empty ++ joined (image_headers n)
  pub so_far : len ≡ length headed
  pub gap : filled ≡ take start headed ++ replicate (start - len) 0
  pub whole : file ≡ filled ++ bytes

abbrev numbers_with : ℕ → SegmentPart → ℕ → Numbers
numbers_with entry segment size = record { entry = entry; start = segment.start; file_size = size; size = segment.size; flags = segment.flags }

length-image_headers : (n : Numbers) → length (joined (image_headers n)) ≡ 84
length-image_headers n = length-joined (image_headers n)

written_at_once : (parts : ImageParts) (got : SegmentPart) (bytes empty headed filled file : List ℕ) (start len : ℕ) (n : Numbers) → n ≡ numbers_of parts.entry got → first_address ≤ got.start
    → Steps parts got bytes empty headed filled file start len n → file ≡ joined (image_pieces n bytes)
written_at_once parts got bytes empty headed filled file start len n e from steps =
    let H = joined (image_headers n) in
    let zs : List ℕ = replicate (contents_at n - 84) 0 in
    let low : first_address ≤ n.start = omega (arith, ap (λ (m : Numbers). m.start) e) in
    let behind = contents_behind n low in
    let head : headed ≡ H = steps.headers ∙ ap (λ (xs : List ℕ). xs ++ H) steps.none in
    let long : length headed ≡ 84 = ap length head ∙ length-image_headers n in
    let place = steps.place in let so_far = steps.so_far in
    let all : take start headed ≡ H = take_all start headed (omega arith) ∙ head in
    let left : start - len ≡ contents_at n - 84 = omega arith in
    let fill : filled ≡ H ++ zs = steps.gap ∙ ap (λ (xs : List ℕ). xs ++ replicate (start - len) 0) all ∙ ap (λ (k : ℕ). H ++ replicate k 0) left in
    two_more [] H file (image_headers n) (zs ∷ bytes ∷ []) refl (two_pieces H filled file zs bytes fill steps.whole)

pub WrittenImage-made : (parts : ImageParts) (got : SegmentPart) (bytes empty headed filled file : List ℕ) (start len : ℕ) (n : Numbers) → (f : WellFormedImage parts) → got ≡ f.segment
    → Steps parts got bytes empty headed filled file start len n → WrittenImage parts file
WrittenImage-made parts got bytes empty headed filled file start len n f is steps =
    let e : n ≡ numbers_of parts.entry got = steps.numbers ∙ ap (λ (xs : List ℕ). numbers_with parts.entry got (length xs)) steps.bytes_are in
    let one : parts.segments ≡ got ∷ [] = f.one ∙ ap (λ (s : SegmentPart). s ∷ []) (sym is) in
    let from : first_address ≤ got.start = omega (arith, f.from, ap (λ (s : SegmentPart). s.start) is) in
    let whole : file ≡ joined (image_pieces (numbers_of parts.entry got) got.bytes) =
    written_at_once parts got bytes empty headed filled file start len n e from steps ∙ ap (λ (m : Numbers). joined (image_pieces m bytes)) e ∙ ap (λ (xs : List ℕ). joined (image_pieces (numbers_of parts.entry got) xs)) steps.bytes_are in
    let P : List ℕ → Type 0 = λ xs. WrittenImage parts xs in
    subst P (sym whole) (WrittenImage-pieces parts got one from)
