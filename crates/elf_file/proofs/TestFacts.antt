-- The symbols and relocations of a view, one by one.
use Rattle.std.proofs.Common.{◌≡◌, sym, ap, ◌∙◌, ℕ, ◌+◌, ◌-◌, ◌<◌, ◌≤◌, List, [], ◌∷◌, ◌++◌, length, take, drop, get_or, arith}
use Rattle.std.proofs.lemmas.List.{take_more, get_or-drop, length-drop, take_all}
use Rattle.elf_file.specs.Object.{Object, symbol_of, reloc_of, no_symbol, no_reloc}
use Rattle.elf_file.specs.declared.parts.SymbolPart.{SymbolPart}
use Rattle.elf_file.specs.declared.parts.RelocPart.{RelocPart}

pub symbol_next : (object : Object) (made : List SymbolPart) (symbol : SymbolPart) (s : ℕ) → 1 ≤ s → s < length object.symbols → made ≡ take (s - 1) (drop 1 object.symbols) → symbol ≡ symbol_of object s
    → made ++ symbol ∷ [] ≡ take (s + 1 - 1) (drop 1 object.symbols)
symbol_next object made symbol s some h m e =
    let back : 1 + (s - 1) ≡ s = omega arith in
    let next : s - 1 + 1 ≡ s + 1 - 1 = omega arith in
    ap (λ (xs : List SymbolPart). xs ++ symbol ∷ []) m
    ∙ ap (λ (x : SymbolPart). take (s - 1) (drop 1 object.symbols) ++ x ∷ []) (e ∙ ap (λ (n : ℕ). get_or object.symbols n no_symbol) (sym back) ∙ sym (get_or-drop 1 object.symbols (s - 1) no_symbol))
    ∙ sym (take_more (drop 1 object.symbols) (s - 1) no_symbol (omega (arith, length-drop 1 object.symbols))) ∙ ap (λ (n : ℕ). take n (drop 1 object.symbols)) next

pub symbols_all : (object : Object) (s : ℕ) → length object.symbols ≤ s → take (s - 1) (drop 1 object.symbols) ≡ drop 1 object.symbols
symbols_all object s h = take_all (s - 1) (drop 1 object.symbols) (omega (arith, length-drop 1 object.symbols))

pub reloc_next : (object : Object) (made : List RelocPart) (reloc : RelocPart) (k : ℕ) → k < length object.relocs → made ≡ take k object.relocs → reloc ≡ reloc_of object k → made ++ reloc ∷ [] ≡ take (k + 1) object.relocs
reloc_next object made reloc k h m e =
    ap (λ (xs : List RelocPart). xs ++ reloc ∷ []) m ∙ ap (λ (x : RelocPart). take k object.relocs ++ x ∷ []) e ∙ sym (take_more object.relocs k no_reloc h)
