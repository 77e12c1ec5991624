use Rattle.std.proofs.Common.{ap, sym, ◌∙◌}
use Rattle.typing_symbols.specs.Held.{seen_in}
use Rattle.typing_symbols.specs.Symbols.{known_of}
use Rattle.typing_symbols.proofs.Found.{symbols_are}
use Rattle.typing_symbols.proofs.finding.symbols.Goals as goal

pub returns : goal.returns
returns c =
    symbols_are _ c.in_ok-known.known (seen_in c.as_slice-2.result.now) c.args.tree.now
    (c.as_slice-2.ensures ∙ c.in_ok-sights.ensures)
    (c.in_ok-known.ensures ∙ ap known_of (c.as_slice.ensures ∙ sym c.as_slice-2.ensures))
    c.symbols_in.ensures
