use Rattle.std.proofs.Common.{◌≡◌, ◌++◌, ◌∷◌, [], ap, ◌∙◌, List}
use Rattle.std.proofs.lemmas.Result.{on_ok_weaker}
use Rattle.elf_file.specs.Written.{reloc_table, symbol_table, string_table, section_names}
use Rattle.elf_file.specs.Pieces.{joined, tables}
use Rattle.elf_file.specs.declared.parts.ObjectParts.{ObjectParts}
use Rattle.elf_file.specs.declared.parts.SymbolPart.{SymbolPart}
use Rattle.elf_file.specs.declared.parts.RelocPart.{RelocPart}
use Rattle.elf_file.proofs.Joined.{four_pieces}
use Rattle.elf_file.proofs.write.put_tables.Goals as goal

tables_are : (parts : ObjectParts) (relocs : List RelocPart) (symbols names : List SymbolPart) → relocs ≡ parts.relocs → symbols ≡ parts.symbols → names ≡ parts.symbols
    → joined (reloc_table relocs ∷ symbol_table symbols ∷ string_table names ∷ section_names ∷ []) ≡ joined (tables parts)
tables_are parts relocs symbols names p q r =
    ap (λ (xs : List RelocPart). joined (reloc_table xs ∷ symbol_table symbols ∷ string_table names ∷ section_names ∷ [])) p
    ∙ ap (λ (xs : List SymbolPart). joined (reloc_table parts.relocs ∷ symbol_table xs ∷ string_table names ∷ section_names ∷ [])) q
    ∙ ap (λ (xs : List SymbolPart). joined (reloc_table parts.relocs ∷ symbol_table parts.symbols ∷ string_table xs ∷ section_names ∷ [])) r

pub returns : goal.returns
returns c = on_ok_weaker c.put_names.result
    (λ e. four_pieces _ _ _ _ _ _ _ _ _ c.in_ok-put_relocs.ensures c.in_ok-put_symbols.ensures c.in_ok-put_strings.ensures e
    ∙ ap (λ xs. c.args.out.now.items ++ xs) (tables_are c.args.parts.now _ _ _ c.as_slice.ensures c.as_slice-2.ensures c.as_slice-3.ensures))
    c.put_names.ensures
