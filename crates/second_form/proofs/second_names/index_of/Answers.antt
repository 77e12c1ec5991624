use Rattle.std.proofs.Common.{◌≡◌, ℕ, List, Option, Some, sym, ◌∙◌, ap, subst}
use Rattle.std.specs.Prelude.{cond}
use Rattle.std.specs.Str.{bytes_eq}
use Rattle.second_form.specs.declared.second_names.Known.{Known}
use Rattle.second_form.specs.SecondNames.{known_of, joined_with}
use Rattle.second_form.proofs.NameRules.{indexed_more, indexed_fails}
use Rattle.second_form.proofs.second_names.index_of.Goals as goal

pub returns-in_default : goal.returns-in_default
returns-in_default c s d =
    let item = c.index-items-place.result in
    let place = c.loop-place.place in
    indexed_fails c.args.items.now place item c.loop-place.names c.loop-place-test.true c.index-items-place.is c.loop-place.invariant
    (
    ap (λ (bytes : List ℕ). joined_with (known_of c.loop-place.names bytes) place item) (sym c.as_slice-name.ensures) ∙ ap (λ (o : Option Known). joined_with o place item) (sym c.look_up.ensures) ∙ sym c.joined.ensures
    ∙ c.in_default.is
    )
    s d

pub loop-place-preserved : goal.loop-place-preserved
loop-place-preserved c =
    let item = c.index-items-place.result in
    let place = c.loop-place.place in
    let P : List ℕ → Type 0 = λ name. (other : List ℕ) → known_of c.note.new.names other ≡ cond (bytes_eq name other) (Some c.in-Some.after) (known_of c.loop-place.names other) in
    indexed_more c.args.items.now place item c.loop-place.names c.note.new.names c.in-Some.after c.loop-place-test.true c.index-items-place.is c.loop-place.invariant
    (
    ap (λ (bytes : List ℕ). joined_with (known_of c.loop-place.names bytes) place item) (sym c.as_slice-name.ensures) ∙ ap (λ (o : Option Known). joined_with o place item) (sym c.look_up.ensures) ∙ sym c.joined.ensures
    ∙ c.in-Some.is
    )
    (subst P c.as_slice-name.ensures c.in_ok-note.ensures)
