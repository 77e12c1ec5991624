-- A written file as pieces, one after the other.
use Rattle.std.specs.Prelude.{ℕ, ◌+◌, ◌-◌, List, [], ◌∷◌, ◌++◌, replicate}
use Rattle.elf_file.specs.Layout.{places_of, file_header, section_table}
use Rattle.elf_file.specs.Written.{sizes_of, reloc_table, symbol_table, string_table, section_names}
use Rattle.elf_file.specs.declared.parts.ObjectParts.{ObjectParts}
use Rattle.elf_file.specs.declared.layout.Sizes.{Sizes}
use Rattle.elf_file.specs.declared.layout.Places.{Places}

-- the pieces as one list
unfoldable pub joined : List (List ℕ) → List ℕ
joined [] = []
joined (piece ∷ pieces) = piece ++ joined pieces

-- these bytes, and so many zeros
abbrev pub padded : List ℕ → ℕ → List (List ℕ)
padded bytes gap = bytes ∷ replicate gap 0 ∷ []

-- the file header and the contents of the sections 1 to 3, each with the gap behind it
abbrev pub contents : ObjectParts → Sizes → Places → List (List ℕ)
contents parts sizes at = padded (file_header at.headers) 12 ++ (padded parts.text (at.fixed - (64 + sizes.text))
    ++ (padded parts.fixed (at.held - (at.fixed + sizes.fixed)) ++ padded parts.held (at.zeros - (at.held + sizes.held))))

-- the relocations, the symbols, and the names of the symbols and the sections
abbrev pub tables : ObjectParts → List (List ℕ)
tables parts = reloc_table parts.relocs ∷ symbol_table parts.symbols ∷ string_table parts.symbols ∷ section_names ∷ []

-- the last gap and the section headers
abbrev pub ending : Sizes → Places → List (List ℕ)
ending sizes at = replicate (at.headers - (at.names + 84)) 0 ∷ section_table sizes ∷ []

abbrev pub pieces_of : ObjectParts → List (List ℕ)
pieces_of parts = contents parts (sizes_of parts) (places_of (sizes_of parts)) ++ (tables parts ++ ending (sizes_of parts) (places_of (sizes_of parts)))
