-- Tokens that read as a tree again.
use Rattle.std.specs.Prelude.{List}
use Rattle.text_grammar.specs.declared.tree.External.{External}
use Rattle.text_grammar.specs.Grammar.{Symbol, Reads}
use Rattle.text_print.specs.SameTree.{SameTree}

-- the tokens read as a tree that is the same but for its places
pub record ReadsBack (tokens : List Symbol) (tree : List External) : Type 0 where
  pub again : List External
  pub reads : Reads tokens again
  pub same : SameTree tree again
