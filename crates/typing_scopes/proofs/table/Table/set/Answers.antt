use Rattle.std.proofs.Common.{map, ap, sym, ◌∙◌, length, ◌+◌}
use Rattle.std.specs.Prelude.{is_some, if◌then◌else◌}
use Rattle.std.proofs.lemmas.List.{length-map}
use Rattle.typing_scopes.specs.Tables.{with_entry, found}
use Rattle.typing_scopes.proofs.TableLists.{stripped, set_stripped, lookup_stripped}
use Rattle.typing_scopes.proofs.table.Table.set.Goals as goal

pub returns-clause-entries : goal.returns-clause-entries
returns-clause-entries g c =
    ap (map stripped) c.in_ok-insert.ensures.entries
    ∙ set_stripped c.self.inside.held.entries c.args.name c.args.value
    ∙ ap (λ es. with_entry es c.args.name.now c.args.value) c.self.view_is

pub returns-clause-len : goal.returns-clause-len
returns-clause-len g c =
    let old = c.in_ok-insert.ensures.old ∙ lookup_stripped c.args.name.now c.self.inside.held.entries ∙ ap (λ es. found es c.args.name.now) c.self.view_is in
    length-map c.insert.new.self.entries stripped
    ∙ c.in_ok-insert.ensures.len
    ∙ ap (λ n. n + (if is_some c.in_ok-insert.field-0 then 0 else 1)) (sym (length-map c.self.inside.held.entries stripped) ∙ ap length c.self.view_is)
    ∙ ap (λ o. length c.args.self.now + (if is_some o then 0 else 1)) old
