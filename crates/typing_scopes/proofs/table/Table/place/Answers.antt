use Rattle.std.proofs.Common.{ap, sym, subst, ◌∙◌, ◌<◌, ℕ, length, position, is_some}
use Rattle.std.specs.Prelude.{IfSome}
use Rattle.std.specs.Map.{keys_of}
use Rattle.std.specs.Str.{bytes_eq}
use Rattle.std.proofs.lemmas.List.{length-map}
use Rattle.typing_scopes.specs.Tables.{found}
use Rattle.typing_scopes.proofs.TableLists.{stripped, lookup_stripped, place_stripped}
use Rattle.typing_scopes.proofs.table.Table.place.Goals as goal

pub returns-clause-place : goal.returns-clause-place
returns-clause-place g c =
    c.get_index_of.ensures.index
    ∙ place_stripped c.args.name.now c.self.inside.held.entries
    ∙ ap (λ es. position (bytes_eq c.args.name.now) (keys_of es)) c.self.view_is

pub returns-clause-within : goal.returns-clause-within
returns-clause-within g c =
    subst (λ (n : ℕ). IfSome c.get_index_of.result (λ i. i < n)) (sym (length-map c.self.inside.held.entries stripped) ∙ ap length c.self.view_is) c.get_index_of.ensures.within

pub returns-clause-some : goal.returns-clause-some
returns-clause-some g c =
    c.get_index_of.ensures.found
    ∙ ap is_some (lookup_stripped c.args.name.now c.self.inside.held.entries ∙ ap (λ es. found es c.args.name.now) c.self.view_is)
