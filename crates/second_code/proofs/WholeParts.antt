-- The parts of an object, of what its functions gave.
use Rattle.std.proofs.Common.{◌≡◌, ℕ, List, [], ◌++◌, map, filter, ◌∙◌, ap, Bool, ◌||◌, Option}
use Rattle.std.specs.Prelude.{not, ◌&&◌, is_some}
use Rattle.second_form.specs.declared.second_items.Item.{Item}
use Rattle.elf_file.specs.declared.parts.ObjectParts.{ObjectParts}
use Rattle.elf_file.specs.declared.parts.SymbolPart.{SymbolPart}
use Rattle.elf_file.specs.declared.parts.RelocPart.{RelocPart}
use Rattle.second_code.specs.declared.definitions.Definition.{Definition}
use Rattle.second_code.specs.Parts.{Use, text_of, unit_uses_from, definition_from, first_sights, is_static, is_used, symbol_names, symbol_from, symbol_of, reloc_of, parts_of}

chosen_made : (items : List Item) (found : List ℕ → Option Definition) (used : List ℕ → Bool) (seen : List (List ℕ)) → ((name : List ℕ) → found name ≡ definition_from 0 items name)
    → ((name : List ℕ) → used name ≡ is_used (unit_uses_from 0 items) name) → seen ≡ first_sights items
    → filter (λ name. is_static (found name)) seen ++ filter (λ name. not (is_static (found name)) && (is_some (found name) || used name)) seen ≡ symbol_names items
chosen_made items found used seen f u s =
    λ j. filter (λ name. is_static (f name j)) (s j) ++ filter (λ name. not (is_static (f name j)) && (is_some (f name j) || u name j)) (s j)

pub names_made : (items : List Item) (found : List ℕ → Option Definition) (used : List ℕ → Bool) (seen none static names : List (List ℕ)) → ((name : List ℕ) → found name ≡ definition_from 0 items name)
    → ((name : List ℕ) → used name ≡ is_used (unit_uses_from 0 items) name) → seen ≡ first_sights items → none ≡ []
    → static ≡ none ++ filter (λ name. is_static (found name)) seen
    → names ≡ static ++ filter (λ name. not (is_static (found name)) && (is_some (found name) || used name)) seen → names ≡ symbol_names items
names_made items found used seen none static names f u s e k n =
    let local = filter (λ name. is_static (found name)) seen in
    let shared = filter (λ name. not (is_static (found name)) && (is_some (found name) || used name)) seen in
    n ∙ ap (λ (xs : List (List ℕ)). xs ++ shared) (k ∙ ap (λ (xs : List (List ℕ)). xs ++ local) e) ∙ chosen_made items found used seen f u s

pub symbols_made : (items : List Item) (found : List ℕ → Option Definition) (names : List (List ℕ)) → ((name : List ℕ) → found name ≡ definition_from 0 items name) → names ≡ symbol_names items
    → map (λ name. symbol_from name (found name)) names ≡ map (symbol_of items) (symbol_names items)
symbols_made items found names f n = λ j. map (λ name. symbol_from name (f name j)) (n j)

pub relocs_made : (items : List Item) (names : List (List ℕ)) (calls : List Use) → names ≡ symbol_names items → calls ≡ unit_uses_from 0 items
    → map (reloc_of names) calls ≡ map (reloc_of (symbol_names items)) (unit_uses_from 0 items)
relocs_made items names calls n k = λ j. map (reloc_of (n j)) (k j)

pub object_made : (items : List Item) (text fixed held : List ℕ) (symbols : List SymbolPart) (relocs : List RelocPart) (made : ObjectParts) → text ≡ text_of items → fixed ≡ [] → held ≡ []
    → symbols ≡ map (symbol_of items) (symbol_names items) → relocs ≡ map (reloc_of (symbol_names items)) (unit_uses_from 0 items)
    → made ≡ record { text = text; fixed = fixed; held = held; zeros = 0; symbols = symbols; relocs = relocs } → made ≡ parts_of items
object_made items text fixed held symbols relocs made t f h s r e = e ∙ (λ j. record { text = t j; fixed = f j; held = h j; zeros = 0; symbols = s j; relocs = r j })
