use Rattle.std.proofs.Common.{ap, ◌∙◌, List, ℕ}
use Rattle.std.specs.Str.{bytes_eq}
use denote.Ref.{Bor}
use Rattle.typing_symbols.specs.Names.{is_among}
use Rattle.typing_symbols.proofs.NameLists.{list_any_map}
use Rattle.typing_symbols.proofs.names.Names.has.Goals as goal

pub returns : goal.returns
returns c =
    c.contains.ensures
    ∙ list_any_map (λ (x : Bor (List ℕ)). x.now) (bytes_eq c.args.name.now) c.self.inside.held.keys
    ∙ ap (λ (ns : List (List ℕ)). is_among c.args.name.now ns) c.self.view_is
