-- The file that is written for parts is determined, byte for byte.
use Rattle.std.proofs.Common.{◌≡◌, sym, ◌∙◌, ℕ, ◌+◌, List, [], ◌∷◌, length, arith}
use Rattle.std.proofs.lemmas.List.{take_all}
use Rattle.elf_file.specs.Places.{Stands}
use Rattle.elf_file.specs.Layout.{fixed_at, held_at, zeros_at, names_at, headers_at}
use Rattle.elf_file.specs.Written.{Written, sizes_of}
use Rattle.elf_file.specs.WellFormed.{WellFormed}
use Rattle.elf_file.specs.Pieces.{joined, pieces_of}
use Rattle.elf_file.specs.declared.parts.ObjectParts.{ObjectParts}
use Rattle.elf_file.proofs.Joined.{length-joined, AllStand}
use Rattle.elf_file.proofs.Lengths.{length-reloc_table, length-symbol_table, length-section_table}
use Rattle.elf_file.proofs.StandsFacts.{stands_join, stands_empty, stands_at}
use Rattle.elf_file.proofs.WrittenPieces.{relocs_in_sections, length_gap}

-- pieces that stand one behind the other stand as one
pub together : (file : List ℕ) (pieces : List (List ℕ)) (at : ℕ) → AllStand file at pieces → Stands file at (joined pieces)
unfolding joined
together file [] at s = stands_empty file at
together file (piece ∷ pieces) at s = stands_join file piece (joined pieces) at s.0 (together file pieces (at + length piece) s.1)

pub file_is : (parts : ObjectParts) (file : List ℕ) → WellFormed parts → Written parts file → file ≡ joined (pieces_of parts)
file_is parts file f w =
    let sizes = sizes_of parts in
    let counts = relocs_in_sections parts f in
    let relocs = length-reloc_table parts.relocs in
    let symbols = length-symbol_table parts.symbols in
    let table = length-section_table sizes in
    let len = length-joined (pieces_of parts) in
    let before_fixed = length_gap (64 + sizes.text) (fixed_at sizes) in
    let before_held = length_gap (fixed_at sizes + sizes.fixed) (held_at sizes) in
    let before_relocs = length_gap (held_at sizes + sizes.held) (zeros_at sizes) in
    let before_headers = length_gap (names_at sizes + 84) (headers_at sizes) in
    let whole = w.length_is in
    let all : Stands file 0 (joined (pieces_of parts)) = together file (pieces_of parts) 0 (
      w.header,
      (
        stands_at w.before_text _ (omega arith),
        (
          stands_at w.text _ (omega arith),
          (
            stands_at w.before_fixed _ (omega arith),
            (
              stands_at w.fixed _ (omega arith),
              (
                stands_at w.before_held _ (omega arith),
                (
                  stands_at w.held _ (omega arith),
                  (
                    stands_at w.before_relocs _ (omega arith),
                    (
                      stands_at w.relocs _ (omega arith),
                      (
                        stands_at w.symbols _ (omega arith),
                        (stands_at w.strings _ (omega arith), (stands_at w.names _ (omega arith), (stands_at w.before_headers _ (omega arith), (stands_at w.headers _ (omega arith), tt)))),
                      ),
                    ),
                  ),
                ),
              ),
            ),
          ),
        ),
      ),
    ) in
    sym (take_all (length (joined (pieces_of parts))) file (omega arith)) ∙ all.are

pub one_file : (parts : ObjectParts) (one other : List ℕ) → WellFormed parts → Written parts one → Written parts other → one ≡ other
one_file parts one other f a b = file_is parts one f a ∙ sym (file_is parts other f b)
