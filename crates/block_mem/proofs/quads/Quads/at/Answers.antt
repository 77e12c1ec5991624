use Rattle.std.proofs.Common.{◌<◌, length, get_or, sym, ap, ◌∙◌, arith}
use Rattle.std.proofs.lemmas.Grind.{common_steps}
use Rattle.std.proofs.lemmas.List.{get_or_default}
use Rattle.cc_base.specs.Words.{join}
use Rattle.block_mem.specs.declared.quads.Quad.{Quad}
use Rattle.block_mem.specs.Quads.{quad_in, unset_quad, entry_of}
use Rattle.block_mem.specs.declared.quads.Word.TheVariants.{Mixed}
use Rattle.block_mem.proofs.Packing.{at_mapped, word_at, inside_words}
use Rattle.block_mem.proofs.quads.Quads.at.Goals as goal
use Rattle.std.specs.Prelude.{List}

pub index-requires-in-Mixed : goal.index-requires-in-Mixed
index-requires-in-Mixed c =
    let inside = inside_words c.self.inside.words.items c.self.inside.mixed.items c.args.self.now c.args.at c.self.view_is c.requires in
    let word = word_at c.self.inside.words.items c.args.at c.index.result.now (Mixed c.in-Mixed.a c.in-Mixed.b c.in-Mixed.c c.in-Mixed.d) inside c.index.ensures c.in-Mixed.is in
    let h : join c.in-Mixed.a c.in-Mixed.b c.in-Mixed.c c.in-Mixed.d < length c.self.inside.mixed.items = c.self.invariant.within c.args.at (join c.in-Mixed.a c.in-Mixed.b c.in-Mixed.c c.in-Mixed.d) (ap entry_of word) in
    grind (arith, common_steps, h, c.number_of.ensures)

pub returns-in-Mixed : goal.returns-in-Mixed
returns-in-Mixed c =
    let inside = inside_words c.self.inside.words.items c.self.inside.mixed.items c.args.self.now c.args.at c.self.view_is c.requires in
    let word = word_at c.self.inside.words.items c.args.at c.index.result.now (Mixed c.in-Mixed.a c.in-Mixed.b c.in-Mixed.c c.in-Mixed.d) inside c.index.ensures c.in-Mixed.is in
    let h : join c.in-Mixed.a c.in-Mixed.b c.in-Mixed.c c.in-Mixed.d < length c.self.inside.mixed.items = c.self.invariant.within c.args.at (join c.in-Mixed.a c.in-Mixed.b c.in-Mixed.c c.in-Mixed.d) (ap entry_of word) in
    let g : c.number_of.result < length c.self.inside.mixed.items = omega (arith, c.number_of.ensures, h) in
    c.index-in-Mixed.ensures ∙ get_or_default c.self.inside.mixed.items c.number_of.result c.index-in-Mixed.result.now unset_quad g
    ∙ ap (λ n. get_or c.self.inside.mixed.items n unset_quad) c.number_of.ensures
    ∙ sym (ap (quad_in c.self.inside.mixed.items) word) ∙ sym (at_mapped c.self.inside.mixed.items c.self.inside.words.items c.args.at)
    ∙ ap (λ (qs : List Quad). get_or qs c.args.at unset_quad) c.self.view_is
