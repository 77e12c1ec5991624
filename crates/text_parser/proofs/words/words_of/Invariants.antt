use Rattle.std.proofs.Common.{◌≡◌, take}
use Rattle.text_parser.specs.Symbols.{symbols_of}
use Rattle.text_parser.specs.Words.{word_symbols, AreWords}
use Rattle.text_parser.proofs.words.words_of.Given as goal

abbrev pub invariant-tokens : goal.invariant-tokens
invariant-tokens l = record {
  words : AreWords l.text l.found.items;
  symbols : word_symbols l.text l.found.items ≡ symbols_of l.text (take l.token-index l.tokens);
}
