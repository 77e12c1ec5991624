use Rattle.text_print.specs.Canonical.{tokens_of}
use Rattle.text_print.proofs.CutAgain.{text_is_cut}
use Rattle.text_print.proofs.LexemesAlone.{tree_stands}
use Rattle.text_print.proofs.laws.canonical_text_is_cut.Goals as goal

pub returns : goal.returns
returns c = λ tokens tree d h. text_is_cut (tokens_of tree) (tree_stands tokens tree d h)
