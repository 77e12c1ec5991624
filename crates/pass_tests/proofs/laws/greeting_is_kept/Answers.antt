use Rattle.std.proofs.Common.{[], ◌∷◌}
use Rattle.pass_core.specs.Rooms.{usual_room}
use Rattle.pass_tests.specs.Toys.{greeting}
use Rattle.pass_tests.proofs.laws.greeting_is_kept.Goals as goal

pub returns : goal.returns
returns c = λ made m input bytes.
    (c.refined.ensures.refines (greeting ∷ []) (made ∷ []) tt (m, tt) c.greeting_is_a_program.ensures.linked tt).1 usual_room input c.greeting_is_a_program.ensures.allowed bytes (c.greeting_is_a_program.ensures.sound input)
