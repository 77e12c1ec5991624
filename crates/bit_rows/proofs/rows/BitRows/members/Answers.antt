use Rattle.std.proofs.Common.{◌∙◌, arith}
use Rattle.bit_rows.proofs.Lists.{taken_more, rising_more}
use Rattle.bit_rows.proofs.rows.BitRows.members.Goals as goal

pub loop-bit-preserved : goal.loop-bit-preserved
loop-bit-preserved c =
    record {
      within = omega (arith, c.in-Some.ensures.in_range);
      taken = rw c.in_ok-push.ensures.items (taken_more c.args.self.now c.args.row c.loop-bit.from c.loop-bit.members.items c.in-Some.bit c.loop-bit.invariant.taken c.in-Some.ensures.first.0 c.in-Some.ensures.first.1 c.in-Some.ensures.first.2);
      rising = rw c.in_ok-push.ensures.items (rising_more c.args.self.now c.args.row c.loop-bit.from c.loop-bit.members.items c.in-Some.bit c.loop-bit.invariant.taken c.in-Some.ensures.first.0 c.loop-bit.invariant.rising);
    }
