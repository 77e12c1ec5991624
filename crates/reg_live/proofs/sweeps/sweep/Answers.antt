use Rattle.std.proofs.Common.{arith}
use Rattle.rtl_lang.specs.Routines.{routine}
use Rattle.reg_live.proofs.Moving.{fits_still, moves_then, settled_more}
use Rattle.reg_live.proofs.sweeps.sweep.Goals as goal

pub gather-gathered-requires-clause-fits : goal.gather-gathered-requires-clause-fits
gather-gathered-requires-clause-fits c =
    let m = c.loop-place.invariant.moves in
    fits_still (routine c.args.function.now) c.args.rows.now c.loop-place.rows m.high m.wide c.requires.fits

pub loop-place-preserved : goal.loop-place-preserved
loop-place-preserved c =
    let r = routine c.args.function.now in
    let e = c.gather-gathered.ensures in
    let was = c.loop-place.invariant in
    record {
      moves = moves_then r c.args.rows.now c.loop-place.rows c.gather-gathered.new.rows c.loop-place.changed c.gather-gathered.result was.moves e.moves;
      settled = settled_more r c.loop-place.rows c.gather-gathered.new.rows c.loop-place.place c.loop-place.changed c.gather-gathered.result was.settled e.moves e.settled;
    }

pub returns-clause-settled : goal.returns-clause-settled
returns-clause-settled c = λ e n h. c.loop-place.invariant.settled e n (omega arith)
