use Rattle.std.proofs.Common.{◌≡◌, [], ap, sym, ◌∙◌, Some, rules, length}
use Rattle.text_grammar.specs.laws.Programs.{UnitOf, runs}
use Rattle.text_parser.specs.Words.{word_symbols}
use Rattle.text_parser.proofs.Faults.{unit_read, unit_faulted, unit_left_over}
use Rattle.text_parser.proofs.unit.parse_words.Goals as goal

pub returns-then-is_empty : goal.returns-then-is_empty
returns-then-is_empty c =
    let e : c.read_unit.new.tokens ≡ [] = search rules in
    unit_read (word_symbols c.args.text.now c.args.words.now) c.in-Ok.tree
    (ap (runs (UnitOf [])) (sym c.new-tokens.ensures) ∙ c.in-Ok.ensures.reads ∙ ap (λ r. (Some c.in-Ok.tree, r)) e)

pub returns-else-is_empty : goal.returns-else-is_empty
returns-else-is_empty c =
    let n : c.read_unit.new.tokens ≡ [] → ⊥ = search rules in
    rw c.place_of.ensures
    (unit_left_over (length c.args.text.now) (word_symbols c.args.text.now c.args.words.now) c.in-Ok.tree c.read_unit.new.tokens (ap (runs (UnitOf [])) (sym c.new-tokens.ensures) ∙ c.in-Ok.ensures.reads) n)

pub returns-in-Err-Token : goal.returns-in-Err-Token
returns-in-Err-Token c =
    rw c.place_of-in-Err-Token.ensures
    (unit_faulted (length c.args.text.now) (word_symbols c.args.text.now c.args.words.now) c.read_unit.new.tokens
    (ap (runs (UnitOf [])) (sym c.new-tokens.ensures) ∙ (rw c.in-Err-Token.field-0-is at c.in-Err-Token.ensures.reads)))
