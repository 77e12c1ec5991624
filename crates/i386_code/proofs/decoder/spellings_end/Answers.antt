-- The law of the reader.
use Rattle.i386_code.proofs.Decoding.{none_begins_another}
use Rattle.i386_code.proofs.decoder.spellings_end.Goals as goal

pub returns : goal.returns
returns c = none_begins_another
