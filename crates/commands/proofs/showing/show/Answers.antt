use Rattle.commands.proofs.Shows.{not_parsed, not_given, all_given}
use Rattle.std.proofs.Common.{◌∙◌}
use Rattle.commands.proofs.showing.show.Goals as goal

pub returns-in-Err-parse_text : goal.returns-in-Err-parse_text
returns-in-Err-parse_text g c input = not_parsed _ input _ _ _ _ _ c.in-Ok.ensures c.as_slice.ensures _ c.in-Err-parse_text.ensures

pub returns-in-Ok-give_out : goal.returns-in-Ok-give_out
returns-in-Ok-give_out g c input =
    all_given _ input _ _ _ _ _ c.in-Ok.ensures c.as_slice.ensures _ c.in-Ok-parse_text.ensures c.as_slice-2.result.now (c.as_slice-2.ensures ∙ c.in-Ok-print.ensures) _ c.in-Ok-give_out.ensures

pub returns : goal.returns
returns g c input =
    not_given _ input _ _ _ _ _ c.in-Ok.ensures c.as_slice.ensures _ c.in-Ok-parse_text.ensures c.as_slice-2.result.now (c.as_slice-2.ensures ∙ c.in-Ok-print.ensures) _ _ c.in-Err-give_out.ensures
