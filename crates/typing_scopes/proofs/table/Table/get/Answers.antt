use Rattle.std.proofs.Common.{ap, ◌∙◌}
use Rattle.typing_scopes.specs.Tables.{found}
use Rattle.typing_scopes.proofs.TableLists.{lookup_stripped}
use Rattle.typing_scopes.proofs.table.Table.get.Goals as goal

pub returns : goal.returns
returns g c =
    c.get.ensures.value
    ∙ lookup_stripped c.args.name.now c.self.inside.held.entries
    ∙ ap (λ es. found es c.args.name.now) c.self.view_is
