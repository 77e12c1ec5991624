-- The token that a piece is.
use Rattle.std.specs.Prelude.{List, map}
use Rattle.text_grammar.specs.Grammar.{Symbol}
use Rattle.text_print.specs.Spelling.{fixed, name, number, character, string}
use Rattle.text_print.specs.declared.pieces.Piece.{Piece}
use Rattle.text_print.specs.declared.pieces.Piece.TheVariants as piece

abbrev pub token_of : Piece → Symbol
token_of (piece.Fixed kind) = fixed kind
token_of (piece.Name bytes) = name bytes.now
token_of (piece.Number value is_unsigned) = number value is_unsigned
token_of (piece.Character byte) = character byte
token_of (piece.String bytes) = string bytes.now

abbrev pub tokens_in : List Piece → List Symbol
tokens_in pieces = map token_of pieces
