-- What is known of names, each once, in the order in which they were first told.
use Rattle.std.specs.Prelude.{ℕ, List, map, slice_get, Option}
use Rattle.std.specs.Option.{option_map}
use Rattle.std.specs.HashMap.{HashMap}
use Rattle.std.specs.Map.{lookup}
use Rattle.std.specs.Str.{bytes_eq}
use Rattle.indexmap.specs.IndexMap.{insert_entry}
use denote.Ref.{Bor}

module _ {V : Type 0} where
  -- what is known of a name
  abbrev pub found : List (List ℕ × V) → List ℕ → Option V
  found entries name = lookup (bytes_eq name) entries

  -- what is known of the name that came at a place
  abbrev pub found_at : List (List ℕ × V) → ℕ → Option V
  found_at entries place = option_map (λ (e : List ℕ × V). e.1) (slice_get entries place)

  -- a name that is known keeps its place, and another goes last
  abbrev pub with_entry : List (List ℕ × V) → List ℕ → V → List (List ℕ × V)
  with_entry entries name v = insert_entry bytes_eq entries name v

  -- the entries of a map
  abbrev pub entries_in : {S : Type 0} → HashMap (Bor (List ℕ)) V S → List (List ℕ × V)
  entries_in m = map (λ (e : Bor (List ℕ) × V). (e.0.now, e.1)) m.entries
