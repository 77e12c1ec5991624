use Rattle.std.proofs.Common.{◌≡◌, List, ◌∙◌, ap}
use Rattle.second_code.specs.Parts.{Use, is_used, first_sights}
use Rattle.second_code.specs.PartSteps.{bytes_of, found_at, has}
use Rattle.second_code.proofs.WholeParts.{names_made}
use Rattle.second_code.proofs.names.symbol_names.Goals as goal

pub returns : goal.returns
returns c =
    let sights : bytes_of c.as_slice-seen.result.now ≡ first_sights c.args.items.now = ap bytes_of c.as_slice-seen.ensures.keys ∙ c.in_ok-sights.ensures in
    names_made c.args.items.now (found_at c.args.definitions.now) (has c.in_ok-used.used) (bytes_of c.as_slice-seen.result.now) (bytes_of c.new-names.result) (bytes_of c.push_static.new.chosen)
    (bytes_of c.push_shared.new.chosen) c.requires.definitions (λ name. c.in_ok-used.ensures name ∙ ap (λ (uses : List Use). is_used uses name) c.requires.calls) sights (ap bytes_of c.new-names.ensures)
    c.in_ok-push_static.ensures c.in_ok-push_shared.ensures
