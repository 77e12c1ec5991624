-- Whether two kinds of tokens are the same, by a number for each.
use Rattle.std.specs.Prelude.{ℕ, Bool, eqb}
use Rattle.text_grammar.specs.declared.kind.Kind.{Kind}
use Rattle.text_grammar.specs.declared.kind.Kind.TheVariants as k

abbrev pub code : Kind → ℕ
code k.Id = 0
code k.Num = 1
code k.Char = 2
code k.Str = 3
code k.KwInt = 4
code k.KwChar = 5
code k.KwSigned = 6
code k.KwUnsigned = 7
code k.KwVoid = 8
code k.KwStruct = 9
code k.KwStatic = 10
code k.KwExtern = 11
code k.KwConst = 12
code k.KwRegister = 13
code k.KwReturn = 14
code k.KwIf = 15
code k.KwElse = 16
code k.KwWhile = 17
code k.KwDo = 18
code k.KwFor = 19
code k.KwBreak = 20
code k.KwContinue = 21
code k.KwSizeof = 22
code k.Unused = 23
code k.OrOr = 24
code k.AndAnd = 25
code k.EqEq = 26
code k.NotEq = 27
code k.LessEq = 28
code k.GreaterEq = 29
code k.ShiftLeft = 30
code k.ShiftRight = 31
code k.Arrow = 32
code k.Plus = 33
code k.Minus = 34
code k.Star = 35
code k.Slash = 36
code k.Percent = 37
code k.And = 38
code k.Or = 39
code k.Caret = 40
code k.Tilde = 41
code k.Bang = 42
code k.Less = 43
code k.Greater = 44
code k.Assign = 45
code k.LParen = 46
code k.RParen = 47
code k.LBracket = 48
code k.RBracket = 49
code k.LBrace = 50
code k.RBrace = 51
code k.Semi = 52
code k.Comma = 53
code k.Dot = 54

abbrev pub same : Kind → Kind → Bool
same a b = eqb (code a) (code b)
