use Rattle.std.proofs.Common.{◌≡◌, ◌<◌, ◌+◌, ◌∙◌, ap, sym, subst, arith, length, List, [], ◌∷◌, ℕ, get_or, length-append}
use Rattle.elf_linker.specs.Placement.{text_address}
use Rattle.elf_linker.proofs.Placing.{near, begins_there, ends_there, texts_more}
use Rattle.elf_linker.proofs.placement.text_addresses.Goals as goal

pub aligned-at-requires : goal.aligned-at-requires
aligned-at-requires c =
    let l : c.loop-number.number < length c.args.objects.now = omega (arith, c.loop-number-test.true, c.len-number-end.ensures.count) in
    let n = near c.args.objects.now c.len.ensures.are c.requires c.loop-number.number l in let e = n.ends in omega (arith, e, c.loop-number.invariant.end)

pub overflow_cast-at : goal.overflow_cast-at
overflow_cast-at c =
    let l : c.loop-number.number < length c.args.objects.now = omega (arith, c.loop-number-test.true, c.len-number-end.ensures.count) in
    let n = near c.args.objects.now c.len.ensures.are c.requires c.loop-number.number l in let b = n.begins in
    let e = begins_there c.args.objects.now c.at-view.result.now c.loop-number.number c.loop-number.at c.align.result c.aligned-at.result l c.at-view.ensures c.loop-number.invariant.end c.align.ensures c.aligned-at.ensures in
    omega (arith, e, b)

pub overflow_add-at : goal.overflow_add-at
overflow_add-at c =
    let l : c.loop-number.number < length c.args.objects.now = omega (arith, c.loop-number-test.true, c.len-number-end.ensures.count) in
    let n = near c.args.objects.now c.len.ensures.are c.requires c.loop-number.number l in let b = n.begins in
    let e = begins_there c.args.objects.now c.at-view.result.now c.loop-number.number c.loop-number.at c.align.result c.aligned-at.result l c.at-view.ensures c.loop-number.invariant.end c.align.ensures c.aligned-at.ensures in
    omega (arith, e, b, c.from-at-in-loop-number.ensures)

pub loop-number-preserved : goal.loop-number-preserved
loop-number-preserved c =
    let objects = c.args.objects.now in let number = c.loop-number.number in
    let l : number < length objects = omega (arith, c.loop-number-test.true, c.len-number-end.ensures.count) in
    let e = begins_there objects c.at-view.result.now number c.loop-number.at c.align.result c.aligned-at.result l c.at-view.ensures c.loop-number.invariant.end c.align.ensures c.aligned-at.ensures in
    record {
      end = ends_there objects c.len.ensures.are c.at-view.result.now number c.aligned-at.result c.from-at-in-loop-number.result l c.at-view.ensures e (c.from-at-in-loop-number.ensures ∙ c.size.ensures);
      each = let n = ap (λ (xs : List ℕ). length xs) c.in_ok-push.ensures.items ∙ length-append c.loop-number.texts.items (c.aligned-at.result ∷ []) in omega (arith, c.loop-number.invariant.each, n);
      are = let P : List ℕ → Type 0 = λ texts. (k : ℕ) → k < number + 1 → get_or texts k 0 ≡ text_address objects k in
          subst P (sym c.in_ok-push.ensures.items) (texts_more objects c.loop-number.texts.items number c.aligned-at.result c.loop-number.invariant.each e c.loop-number.invariant.are);
    }
