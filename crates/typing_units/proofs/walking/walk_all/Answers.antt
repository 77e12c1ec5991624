use Rattle.std.proofs.Common.{◌∙◌}
use Rattle.typing_units.proofs.Walked.{walk_more, walk_rows_more}
use Rattle.typing_units.proofs.walking.walk_all.Goals as goal

pub externals-preserved : goal.externals-preserved
externals-preserved c =
    let one = c.in_ok-walk_external.ensures.walk in
    record {
      walk = walk_more c.args.whole.now c.externals.walk c.walk_external.new.walk c.args.tree.now c.externals.external-index c.external-item.result c.externals-test.true c.external-item.is one ∙ c.externals.invariant.walk;
      told = walk_rows_more c.args.whole.now c.externals.walk c.walk_external.new.walk c.externals.faults c.walk_external.new.faults c.args.tree.now c.externals.external-index c.external-item.result c.externals-test.true c.external-item.is one c.in_ok-walk_external.ensures.rows ∙ c.externals.invariant.told;
    }
