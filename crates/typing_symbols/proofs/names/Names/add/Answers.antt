use Rattle.std.proofs.Common.{map, ap, sym, ◌∙◌, List, ℕ}
use denote.Ref.{Bor}
use Rattle.typing_symbols.specs.Names.{with_name}
use Rattle.typing_symbols.proofs.NameLists.{name_added}
use Rattle.typing_symbols.proofs.names.Names.add.Goals as goal

pub returns : goal.returns
returns c =
    ap (map (λ (x : Bor (List ℕ)). x.now)) c.in_ok-insert.ensures.keys
    ∙ name_added c.self.inside.held.keys c.args.name
    ∙ ap (λ (ns : List (List ℕ)). with_name ns c.args.name.now) c.self.view_is
