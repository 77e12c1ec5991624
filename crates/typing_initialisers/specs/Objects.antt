-- What an object of file scope begins with (C11, 6.7.9 and 6.9.2, of the subset).
use Rattle.std.specs.Prelude.{ℕ, List, [], ◌∷◌, ◌++◌, Option, Some, None}
use Rattle.text_grammar.specs.declared.tree.Initialised.{Initialised}
use Rattle.text_grammar.specs.declared.tree.Linkage.{Linkage}
use Rattle.text_grammar.specs.declared.tree.Linkage.TheVariants as linkage
use Rattle.typing_faults.specs.declared.fault.Row.{Row}
use Rattle.typing_faults.specs.declared.fault.TypeKind.TheVariants as kind
use Rattle.typing_types.specs.Types.{Derived}
use Rattle.typing_scopes.specs.Visible.{Visible}
use Rattle.typing_initialisers.specs.declared.data.Data.{Data}
use Rattle.typing_initialisers.specs.Data.{nothing, with_parts}
use Rattle.typing_initialisers.specs.Initialisers.{fills}

-- an `extern` object takes no initialiser: the row stands at `=`
abbrev pub linkage_rows : Linkage → ℕ → List Row
linkage_rows linkage.Plain at = []
linkage_rows linkage.Static at = []
linkage_rows linkage.Extern at = record { kind = kind.Initialiser; at = at } ∷ []

-- the rows that the initialiser of an object breaks
abbrev pub initial_rows : Visible → Linkage → Derived → Option Initialised → List Row
initial_rows scope l t None = []
initial_rows scope l t (Some i) = linkage_rows l i.at ++ (fills scope i.value t 0).rows

-- what the object begins with. Without an initialiser all of it is zero
abbrev pub initial_data : Visible → Derived → Option Initialised → Data
initial_data scope t None = nothing
initial_data scope t (Some i) = with_parts nothing (fills scope i.value t 0).parts
