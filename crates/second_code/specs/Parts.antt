-- What the object of a unit of the second form holds: text, symbols and relocations (gABI, chapter 4, symbol table;
-- Intel386 supplement, chapter 4, relocation). No unit but its own has a part in it.
use Rattle.std.specs.Prelude.{ℕ, suc, ◌+◌, List, [], ◌∷◌, ◌++◌, Option, Some, None, is_some, Bool, true, false, not, if◌then◌else◌, ◌&&◌, ◌||◌, map, filter, codes}
use Rattle.std.specs.Str.{bytes_eq}
use Rattle.cc_base.specs.Words.{word_bytes}
use Rattle.indexmap.specs.IndexSet.{insert_all}
use Rattle.second_form.specs.declared.second_items.SmallStmt.{SmallStmt}
use Rattle.second_form.specs.declared.second_items.SmallStmt.TheVariants.{Put, Call, Return}
use Rattle.second_form.specs.declared.second_items.Item.{Item}
use Rattle.elf_file.specs.declared.parts.ObjectParts.{ObjectParts}
use Rattle.elf_file.specs.declared.parts.SymbolPart.{SymbolPart}
use Rattle.elf_file.specs.declared.parts.RelocPart.{RelocPart}
use Rattle.elf_file.specs.declared.parts.SymbolKind.TheVariants.{NoType, Func}
use Rattle.elf_file.specs.declared.parts.SymbolPlace.TheVariants.{Undefined, At}
use Rattle.elf_file.specs.declared.parts.RelocKind.TheVariants.{Rel}
use Rattle.second_code.specs.Code.{statement_size}
use Rattle.second_code.specs.declared.definitions.Definition.{Definition}

-- call, with -4 in its word until it is relocated
abbrev pub open_call : List ℕ
open_call = 0xe8 ∷ 0xfc ∷ 0xff ∷ 0xff ∷ 0xff ∷ []

-- mov eax, n; push eax; call putbyte; pop eax
-- call the function
-- mov eax, n; ret
abbrev pub open_statement : SmallStmt → List ℕ
open_statement (Put n) = (0xb8 ∷ word_bytes n) ++ ((0x50 ∷ []) ++ (open_call ++ (0x58 ∷ [])))
open_statement (Call name) = open_call
open_statement (Return n) = (0xb8 ∷ word_bytes n) ++ (0xc3 ∷ [])

abbrev pub open_body : List SmallStmt → List ℕ
open_body [] = []
open_body (statement ∷ body) = open_statement statement ++ open_body body

abbrev pub body_size : List SmallStmt → ℕ
body_size [] = 0
body_size (statement ∷ body) = statement_size statement + body_size body

-- the statements of a definition; a declaration has none
abbrev pub body_of : Option (List SmallStmt) → List SmallStmt
body_of None = []
body_of (Some body) = body

-- The functions stand in text in the order of their definitions.
abbrev pub text_of : List Item → List ℕ
text_of [] = []
text_of (item ∷ items) = open_body (body_of item.body) ++ text_of items

-- a call: what it names, and where its word stands in text
pub record Use : Type 0 where
  pub callee : List ℕ
  pub place : ℕ

-- the calls of statements whose code begins at this place of the text
abbrev pub uses_from : ℕ → List SmallStmt → List Use
uses_from at [] = []
uses_from at (Put n ∷ body) = record { callee = codes "putbyte"; place = at + 7 } ∷ uses_from (at + 12) body
uses_from at (Call name ∷ body) = record { callee = name; place = at + 1 } ∷ uses_from (at + 5) body
uses_from at (Return n ∷ body) = uses_from (at + 6) body

abbrev pub unit_uses_from : ℕ → List Item → List Use
unit_uses_from at [] = []
unit_uses_from at (item ∷ items) = uses_from at (body_of item.body) ++ unit_uses_from (at + body_size (body_of item.body)) items

abbrev pub definition_or : Bool → Bool → ℕ → Option (List SmallStmt) → Option Definition → Option Definition
definition_or false local at body others = others
definition_or true local at None others = others
definition_or true local at (Some body) others = Some (record { local = local; begin = at; extent = body_size body })

-- the first definition of the name by items whose text begins at this place
abbrev pub definition_from : ℕ → List Item → List ℕ → Option Definition
definition_from at [] name = None
definition_from at (item ∷ items) name = definition_or (bytes_eq item.name name) item.local at item.body (definition_from (at + body_size (body_of item.body)) items name)

-- the names that the tokens of the text name, in their order
abbrev pub named : List Item → List (List ℕ)
named [] = []
named (item ∷ items) = item.name ∷ (map (λ call. call.callee) (uses_from 0 (body_of item.body)) ++ named items)

-- each once, in the order of the first token that names it
abbrev pub first_sights : List Item → List (List ℕ)
first_sights items = insert_all bytes_eq [] (named items)

abbrev pub is_static : Option Definition → Bool
is_static None = false
is_static (Some definition) = definition.local

abbrev pub is_used : List Use → List ℕ → Bool
is_used [] name = false
is_used (call ∷ calls) name = bytes_eq call.callee name || is_used calls name

-- a global definition, or an undefined name that is used
abbrev pub is_shared : List Item → List ℕ → Bool
is_shared items name = not (is_static (definition_from 0 items name)) && (is_some (definition_from 0 items name) || is_used (unit_uses_from 0 items) name)

-- the names of the symbols 1 and on: static definitions, and then global definitions and undefined names
abbrev pub symbol_names : List Item → List (List ℕ)
symbol_names items = filter (λ name. is_static (definition_from 0 items name)) (first_sights items) ++ filter (is_shared items) (first_sights items)

abbrev pub symbol_from : List ℕ → Option Definition → SymbolPart
symbol_from name None = record { name = name; local = false; kind = NoType; place = Undefined; value = 0; size = 0 }
symbol_from name (Some definition) = record { name = name; local = definition.local; kind = Func; place = At 1; value = definition.begin; size = definition.extent }

abbrev pub symbol_of : List Item → List ℕ → SymbolPart
symbol_of items name = symbol_from name (definition_from 0 items name)

-- the number of the symbol of a name
abbrev pub number_in : List (List ℕ) → List ℕ → ℕ
number_in [] name = 0
number_in (first ∷ rest) name = if bytes_eq first name then 1 else suc (number_in rest name)

-- a call's word gets the distance to what it names
abbrev pub reloc_of : List (List ℕ) → Use → RelocPart
reloc_of names call = record { section = 1; offset = call.place; symbol = number_in names call.callee; kind = Rel }

abbrev pub parts_of : List Item → ObjectParts
parts_of items = record {
  text = text_of items;
  fixed = [];
  held = [];
  zeros = 0;
  symbols = map (symbol_of items) (symbol_names items);
  relocs = map (reloc_of (symbol_names items)) (unit_uses_from 0 items);
}
