-- How the tokens of a canonical text are spelled.
use Rattle.std.specs.Prelude.{ℕ, ◌+◌, ◌/◌, ◌%◌, List, [], ◌∷◌, ◌++◌, Bool, codes, decimal, nat_lt, if◌then◌else◌}
use Rattle.std.specs.List.{flat_map}
use Rattle.text_grammar.specs.declared.kind.Kind.{Kind}
use Rattle.text_grammar.specs.declared.kind.Kind.TheVariants as k
use Rattle.text_grammar.specs.declared.tree.UnaryOp.{UnaryOp}
use Rattle.text_grammar.specs.declared.tree.UnaryOp.TheVariants as u
use Rattle.text_grammar.specs.declared.tree.BinaryOp.{BinaryOp}
use Rattle.text_grammar.specs.declared.tree.BinaryOp.TheVariants as b
use Rattle.text_grammar.specs.Grammar.{Symbol}

-- a keyword or a sign; names and literals have no spelling of their own
unfoldable pub spelling : Kind → List ℕ
spelling k.KwInt = codes "int"
spelling k.KwChar = codes "char"
spelling k.KwSigned = codes "signed"
spelling k.KwUnsigned = codes "unsigned"
spelling k.KwVoid = codes "void"
spelling k.KwStruct = codes "struct"
spelling k.KwStatic = codes "static"
spelling k.KwExtern = codes "extern"
spelling k.KwConst = codes "const"
spelling k.KwRegister = codes "register"
spelling k.KwReturn = codes "return"
spelling k.KwIf = codes "if"
spelling k.KwElse = codes "else"
spelling k.KwWhile = codes "while"
spelling k.KwDo = codes "do"
spelling k.KwFor = codes "for"
spelling k.KwBreak = codes "break"
spelling k.KwContinue = codes "continue"
spelling k.KwSizeof = codes "sizeof"
spelling k.OrOr = codes "||"
spelling k.AndAnd = codes "&&"
spelling k.EqEq = codes "=="
spelling k.NotEq = codes "!="
spelling k.LessEq = codes "<="
spelling k.GreaterEq = codes ">="
spelling k.ShiftLeft = codes "<<"
spelling k.ShiftRight = codes ">>"
spelling k.Arrow = codes "->"
spelling k.Plus = codes "+"
spelling k.Minus = codes "-"
spelling k.Star = codes "*"
spelling k.Slash = codes "/"
spelling k.Percent = codes "%"
spelling k.And = codes "&"
spelling k.Or = codes "|"
spelling k.Caret = codes "^"
spelling k.Tilde = codes "~"
spelling k.Bang = codes "!"
spelling k.Less = codes "<"
spelling k.Greater = codes ">"
spelling k.Assign = codes "="
spelling k.LParen = codes "("
spelling k.RParen = codes ")"
spelling k.LBracket = codes "["
spelling k.RBracket = codes "]"
spelling k.LBrace = codes "{"
spelling k.RBrace = codes "}"
spelling k.Semi = codes ";"
spelling k.Comma = codes ","
spelling k.Dot = codes "."
spelling k.Id = []
spelling k.Num = []
spelling k.Char = []
spelling k.Str = []
spelling k.Unused = []

abbrev pub prefix_kind : UnaryOp → Kind
prefix_kind u.Neg = k.Minus
prefix_kind u.Flip = k.Tilde
prefix_kind u.Not = k.Bang
prefix_kind u.Deref = k.Star
prefix_kind u.Address = k.And

abbrev pub operator_kind : BinaryOp → Kind
operator_kind b.OrOr = k.OrOr
operator_kind b.AndAnd = k.AndAnd
operator_kind b.Or = k.Or
operator_kind b.Xor = k.Caret
operator_kind b.And = k.And
operator_kind b.Eq = k.EqEq
operator_kind b.Ne = k.NotEq
operator_kind b.Lt = k.Less
operator_kind b.Gt = k.Greater
operator_kind b.Le = k.LessEq
operator_kind b.Ge = k.GreaterEq
operator_kind b.Shl = k.ShiftLeft
operator_kind b.Shr = k.ShiftRight
operator_kind b.Add = k.Plus
operator_kind b.Sub = k.Minus
operator_kind b.Mul = k.Star
operator_kind b.Div = k.Slash
operator_kind b.Rem = k.Percent

-- Literals.

-- in decimal, with `u` where it is unsigned
unfoldable pub number_text : ℕ → Bool → List ℕ
number_text value is_unsigned = decimal value ++ (if is_unsigned then codes "u" else [])

-- of 0 to 15, in lower case
unfoldable pub hex_digit : ℕ → ℕ
hex_digit n = if nat_lt n 10 then 48 + n else 87 + n

-- a byte as `\xHH`
unfoldable pub escaped : ℕ → List ℕ
escaped byte = 92 ∷ 120 ∷ hex_digit (byte / 16) ∷ hex_digit (byte % 16) ∷ []

unfoldable pub character_text : ℕ → List ℕ
character_text byte = 39 ∷ (escaped byte ++ 39 ∷ [])

unfoldable pub string_text : List ℕ → List ℕ
string_text bytes = 34 ∷ (flat_map escaped bytes ++ 34 ∷ [])

-- Tokens, at no place.

abbrev pub token : Kind → List ℕ → Symbol
token kind text = record { kind = kind; at = 0; text = text }

-- a keyword or a sign
abbrev pub fixed : Kind → Symbol
fixed kind = token kind (spelling kind)

abbrev pub name : List ℕ → Symbol
name bytes = token k.Id bytes

abbrev pub number : ℕ → Bool → Symbol
number value is_unsigned = token k.Num (number_text value is_unsigned)

abbrev pub character : ℕ → Symbol
character byte = token k.Char (character_text byte)

abbrev pub string : List ℕ → Symbol
string bytes = token k.Str (string_text bytes)
