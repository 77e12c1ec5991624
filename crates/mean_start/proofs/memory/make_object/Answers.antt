use Rattle.std.proofs.Common.{◌≡◌, ◌-◌, ◌≤◌, ℕ, List, ◌&&◌, not, length, ap, sym, arith, ◌∙◌}
use Rattle.cc_base.specs.declared.face.WordUse.{WordUse}
use Rattle.block_mem.specs.Blocks.{Blocks}
use Rattle.cc_base.specs.Faces.{all_defs, is_defined}
use Rattle.block_mem.specs.Start.{meant, faces_of, is_first, is_shared, object_of}
use Rattle.block_mem.specs.declared.value.BlockName.TheVariants.{Global}
use Rattle.clight_sem.specs.Functions.{parts_of, all_parts}
use Rattle.mean_start.specs.Making.{size_in, zeros_behind, with_block, all_pointed}
use Rattle.mean_start.proofs.Blocks.{size-with_block}
use Rattle.mean_start.proofs.Making.{shared_made, own_made, length-zeros}
use Rattle.mean_start.proofs.memory.make_object.Goals as goal

pub returns-in_ok-make_filled : goal.returns-in_ok-make_filled
returns-in_ok-make_filled c =
    let parts = all_parts c.args.linkage.now.units.now in
    let own = c.args.own.now in
    let g = c.args.object.now in
    let is = λ (name : List ℕ). not (is_defined (all_defs (faces_of parts)) name) && is_first (Global own.number c.args.index) (object_of (is_shared name) parts) in
    c.in_ok-make_filled.ensures
    ∙ shared_made parts own.number (parts_of own.unit.now) c.args.index g c.args.memory.now c.if-object.true (ap is (sym c.as_slice.ensures) ∙ sym c.is_shared_block.ensures ∙ c.if-is_shared_block.true)

pub put_pointers-requires-clause-size : goal.put_pointers-requires-clause-size
put_pointers-requires-clause-size c =
    let own = c.args.own.now in
    let bytes = c.as_slice-bytes.result.now in
    let size = c.max-size.result in
    let fit : length bytes ≤ size = omega arith in
    ap (λ (m : Blocks). size_in m (Global own.number c.args.index)) c.in_ok-make_filled-2.ensures
    ∙ size-with_block c.args.memory.now (Global own.number c.args.index) (zeros_behind bytes size) c.args.object.now.writable
    ∙ length-zeros bytes size fit

pub returns : goal.returns
returns c =
    let parts = all_parts c.args.linkage.now.units.now in
    let own = c.args.own.now in
    let g = c.args.object.now in
    let name = Global own.number c.args.index in
    let size = c.max-size.result in
    let same : size - length g.bytes ≡ g.size - length g.bytes = omega (arith, ap length c.as_slice-bytes.ensures) in
    let means = meant parts own.number (parts_of own.unit.now) in
    c.put_pointers.ensures
    ∙ ap (λ (words : List WordUse). all_pointed means name words c.make_filled-2.new.memory) c.as_slice-words.ensures
    ∙ ap (λ (m : Blocks). all_pointed means name g.uses m) c.in_ok-make_filled-2.ensures
    ∙ ap (λ (bytes : List ℕ). all_pointed means name g.uses (with_block c.args.memory.now name (zeros_behind bytes size) g.writable)) c.as_slice-bytes.ensures
    ∙ own_made parts own.number (parts_of own.unit.now) c.args.index g size c.args.memory.now c.if-object.false same
