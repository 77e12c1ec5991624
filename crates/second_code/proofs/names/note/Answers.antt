use Rattle.second_code.proofs.NameLemmas.{noted_keys, noted_has}
use Rattle.second_code.proofs.names.note.Goals as goal

pub returns-clause-keys : goal.returns-clause-keys
returns-clause-keys c = noted_keys c.args.names.now.keys c.insert.new.self.keys c.args.name c.in_ok-insert.ensures.keys

pub returns-clause-has : goal.returns-clause-has
returns-clause-has c other = noted_has c.args.names.now.keys c.insert.new.self.keys c.args.name other c.in_ok-insert.ensures.keys
