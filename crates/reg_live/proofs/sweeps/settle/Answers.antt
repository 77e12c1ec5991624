use Rattle.std.proofs.Common.{◌∙◌}
use Rattle.rtl_lang.specs.Routines.{routine}
use Rattle.reg_live.proofs.Moving.{fits_still}
use Rattle.reg_live.proofs.sweeps.settle.Goals as goal

pub returns-then-not-changed-clause-settled : goal.returns-then-not-changed-clause-settled
returns-then-not-changed-clause-settled c = c.sweep-changed.ensures.settled (cc)

pub loop-places-preserved : goal.loop-places-preserved
loop-places-preserved c =
    let was = c.loop-places.invariant in
    let m = c.sweep-changed.ensures.moves in
    record {
      fits = fits_still (routine c.args.function.now) c.loop-places.rows c.sweep-changed.new.rows m.high m.wide was.fits;
      high = m.high ∙ was.high;
      sound = λ s. m.sound (was.sound s);
    }
