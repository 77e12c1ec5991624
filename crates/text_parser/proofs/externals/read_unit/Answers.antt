use Rattle.std.proofs.Common.{◌<◌, length}
use Rattle.text_parser.proofs.DeclarationTurns.{external_shorter}
use Rattle.text_parser.proofs.externals.read_unit.Goals as goal

pub externals-smaller : goal.externals-smaller
externals-smaller c =
    let h : length c.read_external.new.tokens < length c.externals.tokens = external_shorter _ _ _ c.in_ok-next.ensures.reads in
    h
