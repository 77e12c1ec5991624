use Rattle.std.proofs.Common.{[], ◌∷◌}
use Rattle.pass_tests.specs.Toys.{greeting}
use Rattle.pass_tests.specs.laws.Toys.{direct_sound, greeting_links, usual_is_allowed}
use Rattle.pass_tests.proofs.laws.greeting_is_a_program.Goals as goal

pub returns-clause-linked : goal.returns-clause-linked
returns-clause-linked c = greeting_links

pub returns-clause-allowed : goal.returns-clause-allowed
returns-clause-allowed c = usual_is_allowed

pub returns-clause-sound : goal.returns-clause-sound
returns-clause-sound c = direct_sound 2 (greeting ∷ [])
