use Rattle.std.proofs.Common.{◌≡◌, ℕ, List, None, sym, ◌∙◌, ap}
use Rattle.std.specs.Prelude.{is_some}
use Rattle.std.specs.Str.{bytes_eq}
use Rattle.std.proofs.lemmas.Slice.Eq.{bytes_eq-Decides}
use Rattle.std.proofs.lemmas.Map.Text.{hash_map_updates_str}
use Rattle.second_code.specs.PartSteps.{found_at}
use Rattle.second_code.proofs.PartLemmas.{kept_first, none_is}
use Rattle.second_code.proofs.definitions.note.Goals as goal

pub returns : goal.returns
returns c other =
    let old = c.args.definitions.now in
    let name = c.args.name.now in
    let none : found_at old name ≡ None = none_is (found_at old name) (ap is_some (sym c.look_up.ensures) ∙ sym c.if-is_some.ensures) in
    hash_map_updates_str name old c.insert.new.self _ c.in_ok-insert.ensures.updates other
    ∙ kept_first (bytes_eq name other) (found_at old other) c.args.definition (λ t. ap (λ (n : List ℕ). found_at old n) (sym ((bytes_eq-Decides name other).0 t)) ∙ none)
