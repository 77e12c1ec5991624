-- The words as the program has read them.
use Rattle.std.specs.Prelude.{◌≡◌, ℕ, ⊤, List, map, string_bytes, String}
use Rattle.std.specs.declared.alloc.Global.{Global}
use denote.Ref.{Bor}
use Rattle.command_words.specs.declared.words.Order.{Order}
use Rattle.command_words.specs.declared.words.Order.TheVariants as order
use Rattle.command_words.specs.Commands.{Request, Compile, Link, Run, Show, Exec, Mean, object_name}

abbrev pub texts : List (String Global) → List (List ℕ)
texts words = map string_bytes words

-- the bytes of borrowed names
abbrev pub bytes_of : List (Bor (List ℕ)) → List (List ℕ)
bytes_of names = map (λ name. name.now) names

-- what an order asks for
abbrev pub request_of : Order → Request
request_of (order.Compile unit object) = Compile unit.now object.now
request_of (order.Link image objects) = Link image.now (texts objects.now)
request_of (order.Run steps image) = Run steps image.now
request_of (order.Show unit) = Show unit.now
request_of (order.Exec steps image units objects) = Exec steps image.now (texts units.now)
request_of (order.Mean steps units) = Mean steps (texts units.now)

-- an order exec names the object of each of its units, in their order
abbrev pub NamesObjects : Order → Type 0
NamesObjects (order.Compile unit object) = ⊤
NamesObjects (order.Link image objects) = ⊤
NamesObjects (order.Run steps image) = ⊤
NamesObjects (order.Show unit) = ⊤
NamesObjects (order.Exec steps image units objects) = texts objects.items ≡ map object_name (texts units.now)
NamesObjects (order.Mean steps units) = ⊤
