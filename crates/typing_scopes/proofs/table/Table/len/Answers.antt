use Rattle.std.proofs.Common.{ap, sym, ◌∙◌, length}
use Rattle.std.proofs.lemmas.List.{length-map}
use Rattle.typing_scopes.proofs.TableLists.{stripped}
use Rattle.typing_scopes.proofs.table.Table.len.Goals as goal

pub returns : goal.returns
returns g c = c.len.ensures.len ∙ sym (length-map c.self.inside.held.entries stripped) ∙ ap length c.self.view_is
