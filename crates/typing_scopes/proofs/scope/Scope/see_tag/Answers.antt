-- A tag that was seen has a place.
use Rattle.std.proofs.Common.{sym, ap, ◌∙◌, true≢false, is_some}
use Rattle.typing_scopes.specs.Tables.{found}
use Rattle.typing_scopes.specs.Visible.{Visible}
use Rattle.typing_scopes.specs.laws.Growth.{tag_is_known}
use Rattle.typing_scopes.proofs.scope.Scope.see_tag.Goals as goal

pub unreachable-requires : goal.unreachable-requires
unreachable-requires c =
    true≢false
    (
    sym (tag_is_known c.args.self.now c.args.tag.now)
    ∙ ap (λ (s : Visible). is_some (found s.tags c.args.tag.now)) (sym c.in_ok-add_unseen.ensures)
    ∙ ap (λ (s : Visible). is_some (found s.tags c.args.tag.now)) (sym c.self.view_is)
    ∙ sym c.place.ensures.some
    ∙ ap is_some c.in-None.is
    )
