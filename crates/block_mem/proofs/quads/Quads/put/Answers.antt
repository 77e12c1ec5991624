use Rattle.std.proofs.Common.{◌≡◌, ◌<◌, ◌^◌, List, [], ◌∷◌, ◌++◌, map, length, get_or, set, sym, ap, subst, ◌∙◌, arith}
use Rattle.std.proofs.lemmas.Grind.{common_steps}
use Rattle.std.specs.Prelude.{vec_capacity}
use Rattle.cc_base.specs.Words.{join}
use Rattle.block_mem.specs.declared.quads.Quad.{Quad}
use Rattle.block_mem.specs.Quads.{quad_in, unset_word, entry_of, one_if_simple, IsPacked}
use Rattle.block_mem.specs.declared.quads.Word.TheVariants.{Mixed, Simple}
use Rattle.block_mem.proofs.Packing.{word_at, inside_words, put_mixed, put_new, packed_new, number_is}
use Rattle.block_mem.proofs.quads.Quads.put.Goals as goal

pub index_mut-requires : goal.index_mut-requires
index_mut-requires c =
    let inside = inside_words c.self.inside.words.items c.self.inside.mixed.items c.args.self.now c.args.at c.self.view_is c.requires in
    let word = word_at c.self.inside.words.items c.args.at c.index.result.now (Mixed c.in-Mixed.a c.in-Mixed.b c.in-Mixed.c c.in-Mixed.d) inside c.index.ensures c.in-Mixed.is in
    let h : join c.in-Mixed.a c.in-Mixed.b c.in-Mixed.c c.in-Mixed.d < length c.self.inside.mixed.items = c.self.invariant.within c.args.at (join c.in-Mixed.a c.in-Mixed.b c.in-Mixed.c c.in-Mixed.d) (ap entry_of word) in
    grind (arith, common_steps, h, c.number_of.ensures)

pub returns-in-Mixed : goal.returns-in-Mixed
returns-in-Mixed c =
    let inside = inside_words c.self.inside.words.items c.self.inside.mixed.items c.args.self.now c.args.at c.self.view_is c.requires in
    let word = word_at c.self.inside.words.items c.args.at c.index.result.now (Mixed c.in-Mixed.a c.in-Mixed.b c.in-Mixed.c c.in-Mixed.d) inside c.index.ensures c.in-Mixed.is in
    ap (λ n. map (quad_in (set c.self.inside.mixed.items n c.args.quad)) c.self.inside.words.items) c.number_of.ensures
    ∙ put_mixed c.self.inside.words.items c.self.inside.mixed.items (vec_capacity c.self.inside.mixed) c.args.at c.in-Mixed.a c.in-Mixed.b c.in-Mixed.c c.in-Mixed.d c.args.quad c.self.invariant inside word
    ∙ ap (λ (qs : List Quad). set qs c.args.at c.args.quad) c.self.view_is

pub invariant_of-self-in-Ok : goal.invariant_of-self-in-Ok
invariant_of-self-in-Ok c =
    let inside = inside_words c.self.inside.words.items c.self.inside.mixed.items c.args.self.now c.args.at c.self.view_is c.requires in
    let items : c.push.new.self.items ≡ c.self.inside.mixed.items ++ c.args.quad ∷ [] = c.in-Ok.ensures.items in
    let word : get_or c.self.inside.words.items c.args.at unset_word ≡ Simple c.in_default.field-0 c.in_default.field-1 c.in_default.field-2 c.in_default.field-3 = word_at c.self.inside.words.items c.args.at c.index.result.now (Simple c.in_default.field-0 c.in_default.field-1 c.in_default.field-2 c.in_default.field-3) inside c.index.ensures c.in_default.is in
    let long : c.len.result ≡ length c.self.inside.mixed.items = grind (arith, common_steps, c.len.ensures) in
    let few : c.len.result < 2 ^ 32 = omega (arith, c.self.invariant.count, c.self.invariant.few, long) in
    let packed = packed_new c.self.inside.words.items c.self.inside.mixed.items (vec_capacity c.self.inside.mixed) (vec_capacity c.push.new.self) c.args.at (get_or c.to_le_bytes.result 0 0) (get_or c.to_le_bytes.result 1 0) (get_or c.to_le_bytes.result 2 0) (get_or c.to_le_bytes.result 3 0) c.args.quad c.self.invariant c.in-Ok.ensures.capacity inside (ap one_if_simple word) (number_is c.to_le_bytes.result c.len.result few c.to_le_bytes.ensures ∙ long) in
    subst (λ (ms : List Quad). IsPacked (set c.self.inside.words.items c.args.at (Mixed (get_or c.to_le_bytes.result 0 0) (get_or c.to_le_bytes.result 1 0) (get_or c.to_le_bytes.result 2 0) (get_or c.to_le_bytes.result 3 0))) ms (vec_capacity c.push.new.self)) (sym items) packed

pub returns : goal.returns
returns c =
    let inside = inside_words c.self.inside.words.items c.self.inside.mixed.items c.args.self.now c.args.at c.self.view_is c.requires in
    let items : c.push.new.self.items ≡ c.self.inside.mixed.items ++ c.args.quad ∷ [] = c.in-Ok.ensures.items in
    let long : c.len.result ≡ length c.self.inside.mixed.items = grind (arith, common_steps, c.len.ensures) in
    let few : c.len.result < 2 ^ 32 = omega (arith, c.self.invariant.count, c.self.invariant.few, long) in
    ap (λ (ms : List Quad). map (quad_in ms) (set c.self.inside.words.items c.args.at (Mixed (get_or c.to_le_bytes.result 0 0) (get_or c.to_le_bytes.result 1 0) (get_or c.to_le_bytes.result 2 0) (get_or c.to_le_bytes.result 3 0)))) items
    ∙ put_new c.self.inside.words.items c.self.inside.mixed.items (vec_capacity c.self.inside.mixed) c.args.at (get_or c.to_le_bytes.result 0 0) (get_or c.to_le_bytes.result 1 0) (get_or c.to_le_bytes.result 2 0) (get_or c.to_le_bytes.result 3 0) c.args.quad c.self.invariant inside (number_is c.to_le_bytes.result c.len.result few c.to_le_bytes.ensures ∙ long)
    ∙ ap (λ (qs : List Quad). set qs c.args.at c.args.quad) c.self.view_is
