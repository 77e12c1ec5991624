-- What the reader compares the headers with.
use Rattle.std.proofs.Common.{◌≡◌, sym, ap, subst, ◌∙◌, ℕ, ◌+◌, ◌-◌, List, length, arith}
use Rattle.elf_file.specs.Places.{Stands}
use Rattle.elf_file.specs.Layout.{places_of, headers_at, names_at, file_header}
use Rattle.elf_file.specs.Written.{ZerosUpTo, section_names}
use Rattle.elf_file.specs.Pieces.{joined, padded, ending}
use Rattle.elf_file.specs.View.{IsWhole}
use Rattle.elf_file.specs.Checks.{FrameStands}
use Rattle.elf_file.specs.declared.layout.Sizes.{Sizes}
use Rattle.elf_file.specs.declared.layout.Places.{Places}
use Rattle.elf_file.proofs.Joined.{length-joined}
use Rattle.elf_file.proofs.Lengths.{length-section_table}
use Rattle.elf_file.proofs.WrittenPieces.{length_gap}

pub length-header : (headers : ℕ) → length (joined (padded (file_header headers) 12)) ≡ 64
length-header headers = length-joined (padded (file_header headers) 12)

pub length-ending : (sizes : Sizes) → length (joined (ending sizes (places_of sizes))) ≡ headers_at sizes - (names_at sizes + 84) + 440
length-ending sizes =
    let gap = length_gap (names_at sizes + 84) (headers_at sizes) in
    let table = length-section_table sizes in
    omega (arith, length-joined (ending sizes (places_of sizes)))

-- what was compared, and with what
pub frame_of : (file header end : List ℕ) (sizes : Sizes) (at : Places) → at ≡ places_of sizes → header ≡ joined (padded (file_header at.headers) 12) → end ≡ joined (ending sizes at)
    → Stands file 0 header × ZerosUpTo file (64 + sizes.text) at.zeros × Stands file at.names section_names × Stands file (at.names + 84) end → FrameStands file sizes
frame_of file header end sizes at p h e s =
    let P : Places → Type 0 = λ a. Stands file 0 (joined (padded (file_header a.headers) 12)) × ZerosUpTo file (64 + sizes.text) a.zeros × Stands file a.names section_names × Stands file (a.names + 84) (joined (ending sizes a)) in
    let H : List ℕ → Type 0 = λ xs. Stands file 0 xs in
    let E : List ℕ → Type 0 = λ xs. Stands file (at.names + 84) xs in
    let t = subst P p (subst H h s.0, s.1, s.2, subst E e s.3) in
    record { header = t.0; before_relocs = t.1; names = t.2; ending = t.3 }

pub frame_back : (file header end : List ℕ) (sizes : Sizes) (at : Places) → at ≡ places_of sizes → header ≡ joined (padded (file_header at.headers) 12) → end ≡ joined (ending sizes at)
    → FrameStands file sizes → Stands file 0 header × ZerosUpTo file (64 + sizes.text) at.zeros × Stands file at.names section_names × Stands file (at.names + 84) end
frame_back file header end sizes at p h e s =
    let P : Places → Type 0 = λ a. Stands file 0 (joined (padded (file_header a.headers) 12)) × ZerosUpTo file (64 + sizes.text) a.zeros × Stands file a.names section_names × Stands file (a.names + 84) (joined (ending sizes a)) in
    let H : List ℕ → Type 0 = λ xs. Stands file 0 xs in
    let E : List ℕ → Type 0 = λ xs. Stands file (at.names + 84) xs in
    let t = subst P (sym p) (s.header, s.before_relocs, s.names, s.ending) in
    (subst H (sym h) t.0, t.1, t.2, subst E (sym e) t.3)

-- the frame's two ends are as long as they are to be
pub header_long : (header : List ℕ) (headers : ℕ) → header ≡ joined (padded (file_header headers) 12) → length header ≡ 64
header_long header headers e = ap length e ∙ length-header headers

pub ending_long : (file end : List ℕ) (sizes : Sizes) (at : Places) → IsWhole file sizes at → end ≡ joined (ending sizes at) → at.names + 84 + length end ≡ length file
ending_long file end sizes at w e =
    let long : length end ≡ headers_at sizes - (names_at sizes + 84) + 440 = ap length e ∙ ap (λ (a : Places). length (joined (ending sizes a))) w.places ∙ length-ending sizes in
    let names : at.names ≡ names_at sizes = ap (λ (a : Places). a.names) w.places in
    let whole = w.whole in
    omega arith
