use Rattle.std.proofs.Common.{sym, ◌∙◌, ap}
use Rattle.std.proofs.lemmas.List.{take_rest}
use Rattle.text_grammar.specs.Lexical.{is_octal_digit}
use Rattle.text_grammar.proofs.ValueLemmas.{octal_small, hex_small}
use Rattle.text_grammar.proofs.values.escape_value.Goals as goal

pub octal_value-requires : goal.octal_value-requires
octal_value-requires c =
    octal_small c.args.text.now (ap is_octal_digit (sym c.byte_at-first.ensures.value) ∙ sym c.is_octal_digit.ensures ∙ c.if-is_octal_digit.true) c.requires

pub hex_value-requires : goal.hex_value-requires
hex_value-requires c = rw take_rest (hex_small c.args.text.now (sym c.byte_at-first.ensures.value ∙ c.if-first-eq120.true) c.requires)
