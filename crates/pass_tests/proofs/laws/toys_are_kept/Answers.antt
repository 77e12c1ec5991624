use Rattle.pass_tests.proofs.laws.toys_are_kept.Goals as goal

pub returns-clause-names : goal.returns-clause-names
returns-clause-names c = c.names_kept.ensures.unit

pub returns-clause-bulk : goal.returns-clause-bulk
returns-clause-bulk c = c.lightened.ensures.bulk
