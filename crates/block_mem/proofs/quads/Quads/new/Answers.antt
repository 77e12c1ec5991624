use Rattle.std.proofs.Common.{◌≡◌, map, replicate, ap, ◌∙◌}
use Rattle.block_mem.specs.Quads.{quad_in, unset_word}
use Rattle.block_mem.proofs.Packing.{mapped_replicate}
use Rattle.block_mem.proofs.quads.Quads.new.Goals as goal

pub returns : goal.returns
returns c = let words : c.in_ok-words.words.items ≡ replicate c.args.count unset_word = c.in_ok-words.ensures.items_if_clones_equal (λ y e. e) in ap (map (quad_in _)) words ∙ mapped_replicate _ c.args.count
