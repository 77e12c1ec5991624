-- The file of an object is one of it as the standard's fields say.
use Rattle.std.proofs.Common.{◌≡◌, sym, subst, ◌∙◌, get_or, ℕ, ◌+◌, ◌^◌, ◌<◌, ◌≤◌, List, [], ◌∷◌, length, drop, arith}
use Rattle.std.specs.Prelude.{slice_index}
use Rattle.std.proofs.lemmas.List.{append-nil}
use Rattle.std.proofs.lemmas.List.Sums.{count_by-le-length}
use Rattle.cc_base.specs.Words.{join-word_bytes}
use Rattle.elf_file.specs.Places.{Stands}
use Rattle.elf_file.specs.Layout.{headers_at, file_header}
use Rattle.elf_file.specs.Written.{Written, sizes_of}
use Rattle.elf_file.specs.WellFormed.{WellFormed, section_sizes}
use Rattle.elf_file.specs.Object.{object_of}
use Rattle.elf_file.specs.Read.{InRange, OnlyText, IsFileOf}
use Rattle.elf_file.specs.HeaderBytes.{HeaderBytes, e_shoff, e_shnum, e_shstrndx}
use Rattle.elf_file.specs.ObjectBytes.{ObjectHeaderBytes, ObjectBytes}
use Rattle.elf_file.specs.declared.parts.ObjectParts.{ObjectParts}
use Rattle.elf_file.proofs.SizesBack.{word_stands, text_reloc, text_relocs, all_count, no_count}
use Rattle.elf_file.proofs.FieldsStand.{byte_stands, half_stands}
use Rattle.elf_file.proofs.StandsFacts.{stands_split}
use Rattle.elf_file.proofs.SectionHeaders.{bounds, sections_read}
use Rattle.elf_file.proofs.SectionsFit.{Read, ends, sections_fit, sections_shown}
use Rattle.elf_file.proofs.SymbolsShown.{symbols_shown}
use Rattle.elf_file.proofs.RelocsShown.{ByTable, relocs_shown}

abbrev magic : List ℕ
magic = 0x7f ∷ 0x45 ∷ 0x4c ∷ 0x46 ∷ []

header_read : (file : List ℕ) (headers : ℕ) → Stands file 0 (file_header headers) → 52 ≤ length file → HeaderBytes file 1
header_read file headers s inside =
    let h = file_header headers in
    record {
      whole = inside;
      magic = (stands_split file magic (drop 4 h) 0 s).0;
      ei_class = byte_stands file h 0 4 s (omega arith);
      ei_data = byte_stands file h 0 5 s (omega arith);
      ei_version = byte_stands file h 0 6 s (omega arith);
      type = half_stands file h 0 16 s (omega arith);
      machine = half_stands file h 0 18 s (omega arith);
      version = word_stands file h 0 20 s (omega arith);
      ehsize = half_stands file h 0 40 s (omega arith);
    }

object_header : (file : List ℕ) (headers : ℕ) → Stands file 0 (file_header headers) → headers < 2 ^ 32 → 52 ≤ length file → headers + 440 ≤ length file → ObjectHeaderBytes file
object_header file headers s small long inside =
    let h = file_header headers in
    let shoff : e_shoff file ≡ headers = word_stands file h 0 32 s (omega arith) ∙ join-word_bytes headers small in
    let shnum : e_shnum file ≡ 11 = half_stands file h 0 48 s (omega arith) in
    let shstrndx : e_shstrndx file ≡ 10 = half_stands file h 0 50 s (omega arith) in
    record { header = header_read file headers s long; shentsize = half_stands file h 0 46 s (omega arith); some = omega arith; few = omega arith; names = omega arith; table = omega arith }

-- parts whose relocations go by sections
pub ObjectBytes-written : (parts : ObjectParts) (file : List ℕ) → WellFormed parts → InRange parts → parts.zeros < 2 ^ 32 → ByTable parts → Written parts file → ObjectBytes (object_of parts) file
ObjectBytes-written parts file f range zeros t w =
    let s = sizes_of parts in
    let h = file_header (headers_at s) in
    let whole = w.length_is in
    let small = f.small in
    let locals : s.locals ≤ s.symbols = omega (arith, count_by-le-length (λ symbol. symbol.local) parts.symbols) in
    let place : headers_at s < 2 ^ 32 = omega arith in
    let shoff : e_shoff file ≡ headers_at s = word_stands file h 0 32 w.header (omega arith) ∙ join-word_bytes (headers_at s) place in
    let shnum : e_shnum file ≡ 11 = half_stands file h 0 48 w.header (omega arith) in
    let r : Read file s = record { count = shnum; each = sections_read file s (bounds s small zeros locals) shoff w.headers } in
    record {
      header = object_header file (headers_at s) w.header place (omega arith) (omega arith);
      sections_fit = sections_fit file s r (ends file s whole) locals;
      count = sym shnum;
      sections = sections_shown parts file r w;
      symbols = symbols_shown parts file r f range w;
      relocs = relocs_shown parts file t r f w;
    }

-- where there is only text, each relocation is of the text
only_text : (parts : ObjectParts) → WellFormed parts → OnlyText parts → ByTable parts
only_text parts f only =
    let all = text_relocs parts f only in
    let few = f.few_symbols in
    let small = f.small in
    record {
      text = parts.relocs;
      fixed = [];
      held = [];
      whole = sym (append-nil parts.relocs);
      of_text = λ k d h.
          let fits = f.relocs k d h in
          let text = text_reloc parts only _ fits in
          let within = fits.inside in
          let table = fits.in_table in
          let P : ℕ → Type 0 = λ n. (get_or parts.relocs k d).offset + 4 ≤ slice_index (section_sizes parts) n in
          let in_text : (get_or parts.relocs k d).offset + 4 ≤ length parts.text = subst P text within in
          record { section = text; offset = omega arith; symbol = omega arith };
      of_fixed = λ k d h. absurd (omega arith);
      of_held = λ k d h. absurd (omega arith);
      text_count = sym (all_count parts.relocs all);
      fixed_count = sym (no_count 2 parts.relocs (omega arith) all);
      held_count = sym (no_count 3 parts.relocs (omega arith) all);
    }

pub ObjectBytes-text : (parts : ObjectParts) (file : List ℕ) → IsFileOf parts file → ObjectBytes (object_of parts) file
ObjectBytes-text parts file is =
    let none = is.only_text.zeros in
    ObjectBytes-written parts file is.well_formed is.in_range (omega arith) (only_text parts is.well_formed is.only_text) is.written
