-- The symbols of a unit: its static definitions, and then its other definitions and the names that it uses and does not define,
-- each in the order of the first token in the text that names it (the order is this project's own; that local symbols precede the
-- others is the gABI's, "Symbol Table").
use Rattle.std.specs.Prelude.{ℕ, Bool, true, false, not, ◌&&◌, ◌||◌, List, [], length, map, filter}
use Rattle.text_grammar.specs.declared.tree.External.{External}
use Rattle.typing_symbols.specs.Names.{is_among, with_names}
use Rattle.typing_symbols.specs.Sights.{Seen, sights_of}
use Rattle.typing_symbols.specs.declared.sight.How.{How}
use Rattle.typing_symbols.specs.declared.sight.How.TheVariants as how
use Rattle.typing_symbols.specs.declared.known.Known.{Known}
use Rattle.typing_symbols.specs.declared.known.Role.{Role}
use Rattle.typing_symbols.specs.declared.known.Role.TheVariants as role
use Rattle.typing_symbols.specs.Table.{Table}

-- whether what stands at a name is a use, a definition, or says that the name is static
abbrev pub plays : Role → How → Bool
plays role.Use how.Used = true
plays role.Definition (how.Defined is_static) = true
plays role.Static (how.Declared is_static) = is_static
plays role.Static (how.Defined is_static) = is_static
plays _ _ = false

-- the names of which something in the text is that, each once
abbrev pub names_with : Role → List Seen → List (List ℕ)
names_with r sights = with_names [] (map (λ (s : Seen). s.name) (filter (λ (s : Seen). plays r s.how) sights))

-- what the text says of its names. In a unit that breaks no rule a name that is static at one of its declarations is so at each
abbrev pub known_of : List Seen → Known
known_of sights = record { used = names_with role.Use sights; defined = names_with role.Definition sights; statics = names_with role.Static sights }

-- a static definition
abbrev pub is_local : Known → List ℕ → Bool
is_local k name = is_among name k.defined && is_among name k.statics

-- another definition, or a name that is used and not defined
abbrev pub is_global : Known → List ℕ → Bool
is_global k name = (is_among name k.defined || is_among name k.used) && not (is_local k name)

abbrev pub names_that : (List ℕ → Bool) → List Seen → List (List ℕ)
names_that holds sights = map (λ (s : Seen). s.name) (filter (λ (s : Seen). holds s.name) sights)

-- the names of the static definitions, each once
abbrev pub locals_of : Known → List Seen → List (List ℕ)
locals_of k sights = with_names [] (names_that (is_local k) sights)

-- the names of the symbols, without the first, empty symbol
abbrev pub names_of : Known → List Seen → List (List ℕ)
names_of k sights = with_names (locals_of k sights) (names_that (is_global k) sights)

-- the symbols
abbrev pub symbols_in : Known → List Seen → Table
symbols_in k sights = record { names = names_of k sights; defined = k.defined; locals = length (locals_of k sights) }

-- the symbols of a unit's tree
abbrev pub symbols_of : List External → Table
symbols_of tree = symbols_in (known_of (sights_of tree)) (sights_of tree)
