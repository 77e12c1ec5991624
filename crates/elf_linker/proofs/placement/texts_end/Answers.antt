use Rattle.std.proofs.Common.{◌<◌, ◌∙◌, arith, length}
use Rattle.elf_linker.proofs.Placing.{begins_there, ends_there, stands}
use Rattle.elf_linker.proofs.placement.texts_end.Goals as goal

pub aligned-requires : goal.aligned-requires
aligned-requires c = let s = c.loop-number.invariant.small in let f = c.len-number-end.ensures.are.few in omega (arith, s, f, c.loop-number-test.true, c.len-number-end.ensures.count)

pub loop-number-preserved : goal.loop-number-preserved
loop-number-preserved c =
    let objects = c.args.objects.now in let number = c.loop-number.number in let are = c.len-number-end.ensures.are in
    let l : number < length objects = omega (arith, c.loop-number-test.true, c.len-number-end.ensures.count) in
    let e = begins_there objects c.at-view.result.now number c.loop-number.at c.align.result c.aligned.result l c.at-view.ensures c.loop-number.invariant.end c.align.ensures c.aligned.ensures in
    let s = stands objects are number l in let n = s.near in
    record {
      end = ends_there objects are c.at-view.result.now number c.aligned.result c.from.result l c.at-view.ensures e (c.from.ensures ∙ c.size.ensures);
      small = omega (arith, n, e, c.loop-number.invariant.end, c.loop-number.invariant.small, c.from.ensures, c.size.type_inv);
    }
