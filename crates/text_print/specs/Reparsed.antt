-- What is parsed of a canonical text.
use Rattle.std.specs.Prelude.{◌≤◌, ◌<◌, List, length, Result, Ok, Err}
use Rattle.text_grammar.specs.declared.tree.External.{External}
use Rattle.text_grammar.specs.declared.fault.SyntaxFault.{SyntaxFault}
use Rattle.text_grammar.specs.declared.fault.SyntaxFault.TheVariants as fault
use Rattle.text_grammar.specs.Scanning.{text_max}
use Rattle.text_parser.specs.Depth.{IsShallow, IsFirstDeep}
use Rattle.text_print.specs.Canonical.{tokens_of, canonical_text}
use Rattle.text_print.specs.Placed.{placed}
use Rattle.text_print.specs.SameTree.{SameTree}

-- the tree's canonical text keeps the limits of length and depth
pub record KeepsLimits (tree : List External) : Type 0 where
  pub short : length (canonical_text tree) ≤ text_max
  pub shallow : IsShallow (placed 0 (tokens_of tree))

-- the tree with new places; want of memory may come anywhere
abbrev pub IsTreeAgain : List External → Result (List External) SyntaxFault → Type 0
IsTreeAgain tree (Ok again) = SameTree tree again
IsTreeAgain tree (Err fault.Memory) = Unit {0}
IsTreeAgain tree (Err _) = ⊥

-- the tree with new places, or the limit that its canonical text does not keep; want of memory may come anywhere
abbrev pub IsTreeOrLimit : List External → Result (List External) SyntaxFault → Type 0
IsTreeOrLimit tree (Ok again) = SameTree tree again
IsTreeOrLimit tree (Err fault.Long) = text_max < length (canonical_text tree)
IsTreeOrLimit tree (Err (fault.Deep at)) = IsFirstDeep (placed 0 (tokens_of tree)) at
IsTreeOrLimit tree (Err fault.Memory) = Unit {0}
IsTreeOrLimit tree (Err _) = ⊥
