use Rattle.std.proofs.Common.{◌∙◌, length-set}
use Rattle.reg_assign.proofs.Own.{own_set}
use Rattle.reg_assign.proofs.homes.give_registers.Goals as goal

pub loop-left-preserved-in-Some : goal.loop-left-preserved-in-Some
loop-left-preserved-in-Some c =
    record {
      count = rw c.set.ensures (length-set _ _ _ ∙ c.loop-left.invariant.count);
      own = rw c.set.ensures (own_set _ _ _ c.loop-left.invariant.own c.in-Some.ensures);
    }
