-- What is wrong with the names of objects that are to be linked, over their symbol tables alone (gABI, chapter 4: symbol table, STB_GLOBAL).
-- That stated sizes must agree is this project's own rule.
use Rattle.std.specs.Prelude.{ℕ, Bool, true, false, cond, not, ◌&&◌, ◌==◌, nat_lt, List, ◌++◌, take, find, Option, Some, None}
use Rattle.std.specs.List.{list_any, flat_map}
use Rattle.std.specs.Option.{option_or}
use Rattle.std.specs.Prelude.{option_and_then}
use Rattle.std.specs.Str.{bytes_eq}
use Rattle.cc_base.specs.Faces.{first_answer}
use Rattle.elf_file.specs.Image.{end_address}
use Rattle.elf_file.specs.Object.{Object}
use Rattle.elf_file.specs.declared.parts.SymbolPart.{SymbolPart}
use Rattle.elf_file.specs.declared.parts.SymbolKind.{SymbolKind}
use Rattle.elf_file.specs.declared.parts.SymbolKind.TheVariants as kind
use Rattle.elf_file.specs.declared.parts.SymbolPlace.{SymbolPlace}
use Rattle.elf_file.specs.declared.parts.SymbolPlace.TheVariants.{Undefined, At, Absolute}
use Rattle.elf_linker.specs.Placement.{whole_end}
use Rattle.elf_linker.specs.declared.fault.LinkFault.{LinkFault}
use Rattle.elf_linker.specs.declared.fault.LinkFault.TheVariants.{Doubled, Unresolved, Sized, Range}

abbrev pub is_in_section : SymbolPlace → Bool
is_in_section Undefined = false
is_in_section (At section) = true
is_in_section Absolute = false

abbrev pub is_nowhere : SymbolPlace → Bool
is_nowhere Undefined = true
is_nowhere (At section) = false
is_nowhere Absolute = false

abbrev pub is_object : SymbolKind → Bool
is_object kind.NoType = false
is_object kind.Object = true
is_object kind.Func = false
is_object kind.Section = false
is_object kind.File = false

-- a definition that other objects see, and a use of a name that another object defines
abbrev pub is_definition : SymbolPart → Bool
is_definition symbol = not symbol.local && is_in_section symbol.place

abbrev pub is_use : SymbolPart → Bool
is_use symbol = not symbol.local && is_nowhere symbol.place

abbrev pub defines : List ℕ → SymbolPart → Bool
defines name symbol = is_definition symbol && bytes_eq symbol.name name

-- all symbols, in the order of the objects and of their tables
abbrev pub all_symbols : List Object → List SymbolPart
all_symbols objects = flat_map (λ object. object.symbols) objects

-- the first definition of a name
abbrev pub definition : List Object → List ℕ → Option SymbolPart
definition objects name = find (defines name) (all_symbols objects)

abbrev pub is_defined : List Object → List ℕ → Bool
is_defined objects name = list_any (defines name) (all_symbols objects)

-- a definition whose name an earlier one has: of an object before it, or of its own
abbrev pub defined_before : List Object → ℕ → List SymbolPart → ℕ → List ℕ → Bool
defined_before objects object symbols symbol name = list_any (defines name) (all_symbols (take object objects) ++ take symbol symbols)

abbrev pub doubled : List Object → ℕ → Object → Option LinkFault
doubled objects number object =
    first_answer (λ place (symbol : SymbolPart). cond (is_definition symbol && defined_before objects number object.symbols place symbol.name) (Some (Doubled number place)) None) 0 object.symbols

-- a use of a name that no object defines
abbrev pub unresolved : List Object → ℕ → Object → Option LinkFault
unresolved objects number object =
    first_answer (λ place (symbol : SymbolPart). cond (is_use symbol && not (is_defined objects symbol.name)) (Some (Unresolved number place)) None) 0 object.symbols

-- a use that states a size, of an object of another size
abbrev pub size_differs : ℕ → ℕ → ℕ → SymbolPart → Option LinkFault
size_differs number place stated found =
    cond (nat_lt 0 stated && (is_object found.kind && (nat_lt 0 found.size && not (stated == found.size)))) (Some (Sized number place stated found.size)) None

abbrev pub sized : List Object → ℕ → Object → Option LinkFault
sized objects number object =
    first_answer (λ place (symbol : SymbolPart). cond (is_use symbol) (option_and_then (size_differs number place symbol.size) (definition objects symbol.name)) None) 0 object.symbols

-- the end of all sections passes the last address of an image
abbrev pub too_long : List Object → Option LinkFault
too_long objects = cond (nat_lt end_address (whole_end objects)) (Some (Range (whole_end objects))) None

-- What is wrong with these objects. Each check tries the objects and their symbols in order
abbrev pub link_fault : List Object → Option LinkFault
link_fault objects = option_or (first_answer (doubled objects) 0 objects) (option_or (first_answer (unresolved objects) 0 objects)
    (option_or (first_answer (sized objects) 0 objects) (too_long objects)))
