use Rattle.std.proofs.Common.{◌++◌, ap, ◌∙◌, List, ℕ}
use Rattle.std.specs.List.{flat_map}
use Rattle.std.proofs.lemmas.Result.{on_ok_weaker}
use Rattle.elf_file.specs.Places.{words_bytes}
use Rattle.elf_file.specs.Layout.{section_table}
use Rattle.elf_file.proofs.Joined.{two_pieces}
use Rattle.elf_file.proofs.write.put_ending.Goals as goal

pub returns : goal.returns
unfolding section_table
returns c = on_ok_weaker c.put_headers.result (λ e. two_pieces _ _ _ _ _ c.in_ok-put_zeros.ensures (e ∙ ap (λ (hs : List (List ℕ)). c.put_zeros.new.out.items ++ flat_map words_bytes hs) c.section_headers.ensures)) c.put_headers.ensures
