use Rattle.text_parser.proofs.OneAnswer as laws
use Rattle.text_parser.proofs.reading.one_answer.Goals as goal

pub returns : goal.returns
returns c text answer other h g = laws.one_answer text answer other h g
