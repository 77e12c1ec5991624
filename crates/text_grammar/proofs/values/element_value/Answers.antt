use Rattle.std.proofs.Common.{sym, ◌∙◌}
use Rattle.std.proofs.lemmas.List.{take_rest}
use Rattle.text_grammar.proofs.ValueLemmas.{escape_some}
use Rattle.text_grammar.proofs.values.element_value.Goals as goal

pub escape_value-requires : goal.escape_value-requires
escape_value-requires c = rw take_rest (escape_some c.args.quote c.args.text.now (sym c.byte_at-first.ensures.value ∙ c.if-first-eq92.true) c.requires)
