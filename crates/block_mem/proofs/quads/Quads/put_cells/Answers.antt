use Rattle.std.proofs.Common.{◌≡◌, List, get_or, set, refl, ap, ◌∙◌}
use Rattle.std.specs.Prelude.{vec_capacity}
use Rattle.block_mem.specs.declared.quads.Quad.{Quad}
use Rattle.block_mem.specs.Quads.{unset_word, one_if_simple, quad_of_cells}
use Rattle.block_mem.specs.declared.quads.Word.TheVariants.{Simple}
use Rattle.block_mem.proofs.Packing.{word_at, inside_words, put_simple, packed_simple}
use Rattle.block_mem.proofs.quads.Quads.put_cells.Goals as goal

pub invariant_of-self : goal.invariant_of-self
invariant_of-self c =
    let inside = inside_words c.self.inside.words.items c.self.inside.mixed.items c.args.self.now c.args.at c.self.view_is c.requires in
    let word : get_or c.self.inside.words.items c.args.at unset_word ≡ Simple c.in-Simple.zero c.in-Simple.one c.in-Simple.two c.in-Simple.three = word_at c.self.inside.words.items c.args.at c.index.result.now (Simple c.in-Simple.zero c.in-Simple.one c.in-Simple.two c.in-Simple.three) inside c.index.ensures c.in-Simple.is in
    packed_simple c.self.inside.words.items c.self.inside.mixed.items (vec_capacity c.self.inside.mixed) c.args.at (Simple c.args.zero c.args.one c.args.two c.args.three) c.self.invariant inside (ap one_if_simple word) refl

pub returns-in-Simple : goal.returns-in-Simple
returns-in-Simple c =
    let inside = inside_words c.self.inside.words.items c.self.inside.mixed.items c.args.self.now c.args.at c.self.view_is c.requires in
    put_simple c.self.inside.words.items c.self.inside.mixed.items c.args.at (Simple c.args.zero c.args.one c.args.two c.args.three) (quad_of_cells c.args.zero c.args.one c.args.two c.args.three) inside refl
    ∙ ap (λ (qs : List Quad). set qs c.args.at (quad_of_cells c.args.zero c.args.one c.args.two c.args.three)) c.self.view_is
