use Rattle.std.proofs.Common.{◌≡◌, ap, ◌∙◌, ℕ, List, ◌++◌}
use Rattle.std.proofs.lemmas.Result.{on_ok_weaker}
use Rattle.elf_file.specs.Places.{words_bytes}
use Rattle.elf_file.specs.Pieces.{joined}
use Rattle.elf_file.proofs.Joined.{four_pieces}
use Rattle.elf_file.proofs.image_file.put_headers.Goals as goal

-- what was appended as words is what the words are
words : (out old made are : List ℕ) → out ≡ old ++ words_bytes made → made ≡ are → out ≡ old ++ words_bytes are
words out old made are o e = o ∙ ap (λ (ws : List ℕ). old ++ words_bytes ws) e

pub returns : goal.returns
unfolding joined
returns c =
    on_ok_weaker c.put_words-2.result (λ e. four_pieces _ _ _ _ _ _ _ _ _ c.in_ok-extend_from_slice.ensures.items (words _ _ _ _ c.in_ok-put_words.ensures c.header_words.ensures) c.in_ok-extend_from_slice-2.ensures.items
    (words _ _ _ _ e c.program_words.ensures)) c.put_words-2.ensures
