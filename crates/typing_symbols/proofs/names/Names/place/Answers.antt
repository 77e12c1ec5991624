use Rattle.std.proofs.Common.{ap, ◌∙◌, List, ℕ, position}
use Rattle.std.specs.Str.{bytes_eq}
use denote.Ref.{Bor}
use Rattle.typing_symbols.proofs.NameLists.{position_map}
use Rattle.typing_symbols.proofs.names.Names.place.Goals as goal

pub returns : goal.returns
returns c =
    c.get_index_of.ensures.index
    ∙ position_map (λ (x : Bor (List ℕ)). x.now) (bytes_eq c.args.name.now) c.self.inside.held.keys
    ∙ ap (λ (ns : List (List ℕ)). position (bytes_eq c.args.name.now) ns) c.self.view_is
