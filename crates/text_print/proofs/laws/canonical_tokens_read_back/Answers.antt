use Rattle.text_print.proofs.Again.{IsReadable, each_of, each_map}
use Rattle.text_print.proofs.LiteralsAgain.{readable}
use Rattle.text_print.proofs.DeclarationsAgain.{tree_again}
use Rattle.text_print.specs.Placed.{IsLexeme}
use Rattle.text_print.proofs.laws.canonical_tokens_read_back.Goals as goal

pub returns : goal.returns
returns c = λ tokens tree at d h. let x = tree_again d (each_map IsLexeme IsReadable readable tokens (each_of IsLexeme tokens h)) at in record { again = x.tree; reads = x.reads; same = x.same }
