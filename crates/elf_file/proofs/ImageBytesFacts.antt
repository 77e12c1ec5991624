-- The file of an image is one of it as the standard's fields say.
use Rattle.std.proofs.Common.{◌≡◌, refl, sym, ap, subst, ◌∙◌, ℕ, ◌+◌, ◌*◌, ◌^◌, ◌<◌, ◌≤◌, ◌⊎◌, inl, inr, Bool, cond, List, [], ◌∷◌, length, drop, get_or, map, arith}
use Rattle.std.specs.List.{filter, range_with_len}
use Rattle.std.proofs.lemmas.Bool.{lt-ltb}
use Rattle.cc_base.specs.Words.{join-word_bytes}
use Rattle.elf_file.specs.Places.{words_bytes, Stands}
use Rattle.elf_file.specs.Image.{offset_of, image_header, WrittenBySegment, IsImageOf}
use Rattle.elf_file.specs.ImageNumbers.{program_words, numbers_of, Proper}
use Rattle.elf_file.specs.ImageView.{no_segment}
use Rattle.elf_file.specs.HeaderBytes.{HeaderBytes, e_phoff, e_phnum, e_entry}
use Rattle.elf_file.specs.ImageBytes.{ProgramHeader, program_header_at, program_at, LoadableFits, ProgramFits, is_segment, segments_in, SegmentBytes, no_program, ImageBytes}
use Rattle.elf_file.specs.declared.image.ImageParts.{ImageParts}
use Rattle.elf_file.specs.declared.image.SegmentPart.{SegmentPart}
use Rattle.elf_file.specs.declared.image_headers.Numbers.{Numbers}
use Rattle.elf_file.proofs.SizesBack.{word_stands}
use Rattle.elf_file.proofs.FieldsStand.{byte_stands, half_stands}
use Rattle.elf_file.proofs.StandsFacts.{stands_split, stands_bytes, stands_empty}
use Rattle.elf_file.proofs.ImageFacts.{contents_of, no_bytes, some_or_none, written_by}
use Rattle.elf_file.proofs.ImageRead.{checks_back, headers_inside}

-- the program header of an image with these numbers
abbrev pub program_of : Numbers → ProgramHeader
program_of n = record { p_type = 1; p_offset = offset_of n.start; p_vaddr = n.start; p_filesz = n.file_size; p_memsz = n.size; p_flags = n.flags; p_align = 4096 }

same_program : (a b : ProgramHeader) → a.p_type ≡ b.p_type → a.p_offset ≡ b.p_offset → a.p_vaddr ≡ b.p_vaddr → a.p_filesz ≡ b.p_filesz → a.p_memsz ≡ b.p_memsz → a.p_flags ≡ b.p_flags → a.p_align ≡ b.p_align → a ≡ b
same_program a b e1 e2 e3 e4 e5 e6 e7 =
    let make = λ (t o v f m g l : ℕ). let h : ProgramHeader = record { p_type = t; p_offset = o; p_vaddr = v; p_filesz = f; p_memsz = m; p_flags = g; p_align = l } in h in
    ap (λ (x : ℕ). make x a.p_offset a.p_vaddr a.p_filesz a.p_memsz a.p_flags a.p_align) e1
    ∙ ap (λ (x : ℕ). make b.p_type x a.p_vaddr a.p_filesz a.p_memsz a.p_flags a.p_align) e2
    ∙ ap (λ (x : ℕ). make b.p_type b.p_offset x a.p_filesz a.p_memsz a.p_flags a.p_align) e3
    ∙ ap (λ (x : ℕ). make b.p_type b.p_offset b.p_vaddr x a.p_memsz a.p_flags a.p_align) e4
    ∙ ap (λ (x : ℕ). make b.p_type b.p_offset b.p_vaddr b.p_filesz x a.p_flags a.p_align) e5
    ∙ ap (λ (x : ℕ). make b.p_type b.p_offset b.p_vaddr b.p_filesz b.p_memsz x a.p_align) e6
    ∙ ap (λ (x : ℕ). make b.p_type b.p_offset b.p_vaddr b.p_filesz b.p_memsz b.p_flags x) e7

program_read : (file : List ℕ) (n : Numbers) → Proper n → n.flags < 2 ^ 32 → Stands file 52 (words_bytes (program_words n)) → program_header_at file 52 ≡ program_of n
program_read file n p flags s =
    let some = p.some in let short = p.short in let from = p.from in let to = p.to in
    let w = words_bytes (program_words n) in
    same_program (program_header_at file 52) (program_of n)
    (word_stands file w 52 0 s (omega arith))
    (word_stands file w 52 4 s (omega arith) ∙ join-word_bytes (offset_of n.start) (omega arith))
    (word_stands file w 52 8 s (omega arith) ∙ join-word_bytes n.start (omega arith))
    (word_stands file w 52 16 s (omega arith) ∙ join-word_bytes n.file_size (omega arith))
    (word_stands file w 52 20 s (omega arith) ∙ join-word_bytes n.size (omega arith))
    (word_stands file w 52 24 s (omega arith) ∙ join-word_bytes n.flags flags)
    (word_stands file w 52 28 s (omega arith))

abbrev magic : List ℕ
magic = 0x7f ∷ 0x45 ∷ 0x4c ∷ 0x46 ∷ []

-- the fields of the file header
header_read : (file : List ℕ) (entry : ℕ) → Stands file 0 (image_header entry) → 52 ≤ length file → HeaderBytes file 2
header_read file entry s inside =
    let h = image_header entry in
    record {
      whole = inside;
      magic = (stands_split file magic (drop 4 h) 0 s).0;
      ei_class = byte_stands file h 0 4 s (omega arith);
      ei_data = byte_stands file h 0 5 s (omega arith);
      ei_version = byte_stands file h 0 6 s (omega arith);
      type = half_stands file h 0 16 s (omega arith);
      machine = half_stands file h 0 18 s (omega arith);
      version = word_stands file h 0 20 s (omega arith);
      ehsize = half_stands file h 0 40 s (omega arith);
    }

-- the first of one program header
first_program : (file : List ℕ) (n : Numbers) → e_phoff file ≡ 52 → program_header_at file 52 ≡ program_of n → program_at file 0 ≡ program_of n
first_program file n place read = ap (λ (p : ℕ). program_header_at file (p + 32 * 0)) place ∙ read

program_fits : (file : List ℕ) (n : Numbers) → Proper n → (0 < n.file_size → offset_of n.start + n.file_size ≤ length file) → LoadableFits file 0 (program_of n)
program_fits file n p inside =
    let from = p.from in let to = p.to in
    record {
      short = p.short;
      inside = inside;
      aligned = inr (12, refl);
      congruent = λ _. omega arith;
      ends = omega arith;
      rises = λ j h. absurd (omega arith);
    }

first_fits : (file : List ℕ) (n : Numbers) → Proper n → (0 < n.file_size → offset_of n.start + n.file_size ≤ length file) → program_at file 0 ≡ program_of n → ProgramFits file 0
first_fits file n p inside read =
    let type : (program_at file 0).p_type ≡ 1 = ap (λ (h : ProgramHeader). h.p_type) read in
    let P : ProgramHeader → Type 0 = λ h. LoadableFits file 0 h in
    record {
      no_dynamic = λ e. let clash : 1 ≡ 2 = sym type ∙ e in absurd (omega arith);
      no_interp = λ e. let clash : 1 ≡ 3 = sym type ∙ e in absurd (omega arith);
      no_tls = λ e. let clash : 1 ≡ 7 = sym type ∙ e in absurd (omega arith);
      loadable = λ _. subst P (sym read) (program_fits file n p inside);
    }

-- a header of a segment is kept
kept_header : (n : Numbers) → 0 < n.size → filter is_segment (program_of n ∷ []) ≡ program_of n ∷ []
kept_header n some = ap (λ (b : Bool). cond b (program_of n ∷ []) []) (lt-ltb 0 n.size some)

one_segment : (file : List ℕ) (n : Numbers) → 0 < n.size → e_phnum file ≡ 1 → program_at file 0 ≡ program_of n → segments_in file ≡ program_of n ∷ []
one_segment file n some count read =
    ap (λ (m : ℕ). filter is_segment (map (program_at file) (range_with_len 0 m))) count ∙ ap (λ (h : ProgramHeader). filter is_segment (h ∷ [])) read ∙ kept_header n some

bytes_by : (parts : ImageParts) (segment : SegmentPart) (file : List ℕ) → WrittenBySegment parts segment file → (length segment.bytes ≡ 0) ⊎ (0 < length segment.bytes) → Stands file (offset_of segment.start) segment.bytes
bytes_by parts segment file w (inl none) = stands_bytes (stands_empty file (offset_of segment.start)) segment.bytes (sym (no_bytes segment.bytes none))
bytes_by parts segment file w (inr some) = w.bytes some

segment_bytes : (parts : ImageParts) (segment : SegmentPart) (file : List ℕ) → WrittenBySegment parts segment file → SegmentBytes file (program_of (numbers_of parts.entry segment)) segment
segment_bytes parts segment file w = record { start = refl; flags = refl; size = refl; count = refl; bytes = bytes_by parts segment file w (some_or_none (length segment.bytes)) }

pub ImageBytes-written : (parts : ImageParts) (file : List ℕ) → IsImageOf parts file → ImageBytes parts file
ImageBytes-written parts file is =
    let f = is.well_formed in
    let n = numbers_of parts.entry f.segment in
    let h = image_header parts.entry in
    let w = written_by parts file f is.written in
    let c = checks_back parts file is in
    let p = c.proper in
    let some = p.some in
    let inside = headers_inside parts file is in
    let whole = c.contents.whole in
    let phoff : e_phoff file ≡ 52 = word_stands file h 0 28 w.header (omega arith) in
    let phnum : e_phnum file ≡ 1 = half_stands file h 0 44 w.header (omega arith) in
    let entry : e_entry file ≡ parts.entry = word_stands file h 0 24 w.header (omega arith) ∙ join-word_bytes parts.entry is.in_range.entry in
    let read = first_program file n phoff (program_read file n p is.in_range.flags w.program) in
    let bytes_inside = λ (b : 0 < n.file_size). let place = contents_of n b in let end : offset_of n.start + n.file_size ≤ length file = omega arith in end in
    let kept = one_segment file n some phnum read in
    let Fits : ℕ → Type 0 = λ k. ProgramFits file k in
    let Is : List ProgramHeader → List SegmentPart → ℕ → Type 0 = λ hs ss k. SegmentBytes file (get_or hs k no_program) (get_or ss k no_segment) in
    let Heads : List ProgramHeader → Type 0 = λ hs. Is hs parts.segments 0 in
    let Parts : List SegmentPart → Type 0 = λ ss. Is (program_of n ∷ []) ss 0 in
    let Place : ℕ → Type 0 = λ k. Is (segments_in file) parts.segments k in
    let long : length parts.segments ≡ 1 = ap length f.one in
    let first = subst Heads (sym kept) (subst Parts (sym f.one) (segment_bytes parts f.segment file w)) in
    record {
      header = record { header = header_read file parts.entry w.header (omega arith); phentsize = half_stands file h 0 42 w.header (omega arith); some = omega arith; few = omega arith; table = omega arith };
      programs = λ k b. let zeroth : 0 ≡ k = omega arith in subst Fits zeroth (first_fits file n p bytes_inside read);
      entry = sym entry;
      count = long ∙ sym (ap length kept);
      segments = λ k b. let zeroth : 0 ≡ k = omega arith in subst Place zeroth first;
    }
