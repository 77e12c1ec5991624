use Rattle.std.proofs.Common.{ℕ, ◌<◌, List, [], ◌∷◌, ◌||◌, length, take, get_or, sym, subst, arith}
use Rattle.std.proofs.lemmas.List.{take_more}
use Rattle.std.proofs.lemmas.List.Elements.{Contains-get_or}
use Rattle.reg_live.specs.Sweeps.{Adds, InRow}
use Rattle.reg_live.proofs.Adding.{insert_adds, in_row_then}
use Rattle.reg_live.proofs.sweeps.insert_all.Goals as goal

pub insert-inserted-requires-clause-bit_in_range : goal.insert-inserted-requires-clause-bit_in_range
insert-inserted-requires-clause-bit_in_range c =
    let ts = c.args.temporaries.now in
    let i = c.loop-temporary.temporary-index in
    let inside : i < length ts = omega arith in
    omega (arith, c.requires.bits (get_or ts i 0) (Contains-get_or ts i 0 inside), c.loop-temporary.invariant.wide)

pub loop-temporary-preserved : goal.loop-temporary-preserved
loop-temporary-preserved c =
    let e = c.insert-inserted.ensures in
    let ts = c.args.temporaries.now in
    let i = c.loop-temporary.temporary-index in
    let inside : i < length ts = omega arith in
    let x : ℕ = get_or ts i 0 in
    let was = c.loop-temporary.invariant in
    let row : c.args.place < length c.loop-temporary.rows.rows = omega (arith, was.high) in
    let bit : x < c.loop-temporary.rows.width = omega (arith, c.requires.bits x (Contains-get_or ts i 0 inside), was.wide) in
    let P : List ℕ → Type 0 = λ list. Adds (InRow c.args.place list) c.args.rows.now c.insert-inserted.new.self (c.loop-temporary.changed || c.insert-inserted.result) in
    subst P (sym (take_more ts i 0 inside)) (in_row_then c.args.place (take i ts) (x ∷ []) c.args.rows.now c.loop-temporary.rows c.insert-inserted.new.self c.loop-temporary.changed c.insert-inserted.result was (insert_adds c.args.place x c.loop-temporary.rows c.insert-inserted.new.self c.insert-inserted.result (record { high = e.high; wide = e.wide; set = e.set; others = e.others; changed_is = e.changed; unchanged = e.unchanged }) row bit))
