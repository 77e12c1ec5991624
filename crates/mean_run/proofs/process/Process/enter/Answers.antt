use Rattle.std.proofs.Common.{◌≡◌, ap, arith}
use Rattle.clight_sem.specs.States.{Frame}
use Rattle.mean_run.proofs.process.Process.enter.Goals as goal

pub push-requires : goal.push-requires
push-requires c =
    let same : c.in_ok-frame.frame.function.now.need ≡ c.in-Some.function.now.need = ap (λ (f : Frame). f.function.need) c.in_ok-frame.ensures in
    let small = c.fits.ensures.small c.if-not-fits.false in
    record { fits = omega (arith, small) }
