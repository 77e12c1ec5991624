-- The symbols that are found are those of the tree.
use Rattle.std.proofs.Common.{◌≡◌, List, Result, ap, ◌∙◌, subst}
use Rattle.std.specs.Prelude.{IfOk}
use Rattle.text_grammar.specs.declared.tree.External.{External}
use Rattle.typing_symbols.specs.declared.known.Known.{Known}
use Rattle.typing_symbols.specs.Sights.{Seen, sights_of}
use Rattle.typing_symbols.specs.Symbols.{known_of, symbols_in, symbols_of}
use Rattle.typing_symbols.specs.Table.{Table}

pub symbols_are : {E : Type 0} (r : Result Table E) (known : Known) (sights : List Seen) (tree : List External) → sights ≡ sights_of tree → known ≡ known_of sights → IfOk r (λ s. s ≡ symbols_in known sights) → IfOk r (λ s. s ≡ symbols_of tree)
symbols_are r known sights tree e f h =
    let g : symbols_in known sights ≡ symbols_of tree = ap (λ k. symbols_in k sights) f ∙ ap (λ s. symbols_in (known_of s) s) e in
    subst (λ (t : Table). IfOk r (λ s. s ≡ t)) g h
