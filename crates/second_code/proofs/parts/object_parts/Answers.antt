use Rattle.std.proofs.Common.{◌≡◌, ◌<◌, ◌^◌, ℕ, List, length, ◌∙◌, ap, sym, subst, map, refl, arith}
use Rattle.std.proofs.lemmas.List.{length-map}
use Rattle.second_form.specs.declared.second_items.Item.{Item}
use Rattle.second_code.specs.declared.calls.CallSite.{CallSite}
use Rattle.second_code.specs.Parts.{text_of, definition_from, unit_uses_from, symbol_names}
use Rattle.second_code.specs.PartSteps.{bytes_of, use_of, found_at}
use Rattle.second_code.proofs.Sizes.{object_small}
use Rattle.second_code.proofs.WholeParts.{symbols_made, relocs_made, object_made}
use Rattle.second_code.proofs.parts.object_parts.Goals as goal

pub returns : goal.returns
returns c =
    let items = c.args.items.now in
    let names = bytes_of c.as_slice-names.result.now in
    let same = c.as_slice-items.ensures in
    let n : names ≡ symbol_names items = ap bytes_of c.as_slice-names.ensures ∙ c.in_ok-names.ensures ∙ ap symbol_names same in
    let k : map use_of c.as_slice-calls.result.now ≡ unit_uses_from 0 items =
    ap (λ (sites : List CallSite). map use_of sites) c.as_slice-calls.ensures ∙ c.in_ok-calls.ensures ∙ ap (λ (xs : List Item). unit_uses_from 0 xs) same
    in
    object_made items c.in_ok-text.field-0 c.new.result c.new-2.result c.in_ok-symbols.field-0 c.in_ok-relocs.field-0 _ (c.in_ok-text.ensures ∙ ap text_of same) c.new.ensures c.new-2.ensures
    (
    c.in_ok-symbols.ensures
    ∙ symbols_made items (found_at c.in_ok-definitions.definitions) names (λ name. c.in_ok-definitions.ensures name ∙ ap (λ (xs : List Item). definition_from 0 xs name) same) n
    )
    (c.in_ok-relocs.ensures ∙ relocs_made items names (map use_of c.as_slice-calls.result.now) n k)
    refl

pub symbol_names-requires : goal.symbol_names-requires
symbol_names-requires c = record {
  definitions = c.in_ok-definitions.ensures;
  calls = ap (λ (sites : List CallSite). map use_of sites) c.as_slice-calls.ensures ∙ c.in_ok-calls.ensures;
}

pub definitions-requires : goal.definitions-requires
definitions-requires c =
    let P : List Item → Type 0 = λ xs. length (text_of xs) < 2 ^ 32 in let small = object_small c.args.items.now c.requires in
    subst P (sym c.as_slice-items.ensures) small.text

pub calls-requires : goal.calls-requires
calls-requires c =
    let P : List Item → Type 0 = λ xs. length (text_of xs) < 2 ^ 32 in let small = object_small c.args.items.now c.requires in
    subst P (sym c.as_slice-items.ensures) small.text

pub relocs-requires : goal.relocs-requires
relocs-requires c =
    let names = c.as_slice-names.result.now in
    let n = ap (λ (xs : List (List ℕ)). length xs) (ap bytes_of c.as_slice-names.ensures ∙ c.in_ok-names.ensures ∙ ap symbol_names c.as_slice-items.ensures) in
    let m = length-map names (λ name. name.now) in
    let small = object_small c.args.items.now c.requires in let s = small.symbols in
    omega (arith, n, m, s)
