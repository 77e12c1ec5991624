-- The grammar: which tokens read as which tree. One case for each alternative, and one non-terminal for each level of the operators.
use Rattle.std.specs.Prelude.{◌≡◌, ℕ, suc, List, [], ◌∷◌, ◌++◌, drop, Option, Some, None, is_some, Bool, true, false, not, ◌&&◌, ◌==◌, if◌then◌else◌}
use Rattle.text_grammar.specs.Lexical.{number_value, is_unsigned_number, element_value, string_value}
use Rattle.text_grammar.specs.declared.kind.Kind.{Kind}
use Rattle.text_grammar.specs.declared.kind.Kind.TheVariants as k
use Rattle.text_grammar.specs.declared.kind.Level.{Level}
use Rattle.text_grammar.specs.declared.kind.Level.TheVariants as level
use Rattle.text_grammar.specs.declared.tree.NameAt.{NameAt}
use Rattle.text_grammar.specs.declared.tree.BaseKind.{BaseKind}
use Rattle.text_grammar.specs.declared.tree.BaseKind.TheVariants as base
use Rattle.text_grammar.specs.declared.tree.Base.{Base}
use Rattle.text_grammar.specs.declared.tree.TypeName.{TypeName}
use Rattle.text_grammar.specs.declared.tree.Number.{Number}
use Rattle.text_grammar.specs.declared.tree.UnaryOp.{UnaryOp}
use Rattle.text_grammar.specs.declared.tree.UnaryOp.TheVariants as u
use Rattle.text_grammar.specs.declared.tree.BinaryOp.{BinaryOp}
use Rattle.text_grammar.specs.declared.tree.BinaryOp.TheVariants as b
use Rattle.text_grammar.specs.declared.tree.Expr.{Expr}
use Rattle.text_grammar.specs.declared.tree.Expr.TheVariants as e
use Rattle.text_grammar.specs.declared.tree.Call.{Call}
use Rattle.text_grammar.specs.declared.tree.AssignedValue.TheVariants as value
use Rattle.text_grammar.specs.declared.tree.Simple.{Simple}
use Rattle.text_grammar.specs.declared.tree.Simple.TheVariants as act
use Rattle.text_grammar.specs.declared.tree.Stmt.{Stmt}
use Rattle.text_grammar.specs.declared.tree.Stmt.TheVariants as s
use Rattle.text_grammar.specs.declared.tree.Arm.{Arm, roll-Arm}
use Rattle.text_grammar.specs.declared.tree.Initialiser.{Initialiser}
use Rattle.text_grammar.specs.declared.tree.Initialiser.TheVariants as i
use Rattle.text_grammar.specs.declared.tree.Declarator.{Declarator}
use Rattle.text_grammar.specs.declared.tree.ObjectItem.{ObjectItem}
use Rattle.text_grammar.specs.declared.tree.Members.{Members}
use Rattle.text_grammar.specs.declared.tree.Parameter.{Parameter}
use Rattle.text_grammar.specs.declared.tree.LocalItem.{LocalItem}
use Rattle.text_grammar.specs.declared.tree.Locals.{Locals}
use Rattle.text_grammar.specs.declared.tree.Linkage.{Linkage}
use Rattle.text_grammar.specs.declared.tree.Linkage.TheVariants as linkage
use Rattle.text_grammar.specs.declared.tree.Head.{Head}
use Rattle.text_grammar.specs.declared.tree.External.{External}
use Rattle.text_grammar.specs.declared.tree.External.TheVariants as top

-- A token as the grammar sees it: what it is, where it stands, and its bytes.
pub record Symbol : Type 0 where
  pub kind : Kind
  pub at : ℕ
  pub text : List ℕ

abbrev pub name_at : Symbol → NameAt
name_at x = record { at = x.at; bytes = x.text }

abbrev pub number_at : Symbol → Number
number_at x = record { at = x.at; value = number_value x.text; is_unsigned = is_unsigned_number x.text }

-- Types

-- `int | char | signed [int|char] | unsigned [int|char] | void | struct ID`, with the place of the last token
pub data BaseWords : List Symbol → ℕ → BaseKind → Type 0 where
  int : (x : Symbol) → x.kind ≡ k.KwInt → BaseWords (x ∷ []) x.at base.Int
  char : (x : Symbol) → x.kind ≡ k.KwChar → BaseWords (x ∷ []) x.at base.Char
  signed : (x : Symbol) → x.kind ≡ k.KwSigned → BaseWords (x ∷ []) x.at base.Int
  signed_int : (x y : Symbol) → x.kind ≡ k.KwSigned → y.kind ≡ k.KwInt → BaseWords (x ∷ y ∷ []) y.at base.Int
  signed_char : (x y : Symbol) → x.kind ≡ k.KwSigned → y.kind ≡ k.KwChar → BaseWords (x ∷ y ∷ []) y.at base.Char
  unsigned : (x : Symbol) → x.kind ≡ k.KwUnsigned → BaseWords (x ∷ []) x.at base.UnsignedInt
  unsigned_int : (x y : Symbol) → x.kind ≡ k.KwUnsigned → y.kind ≡ k.KwInt → BaseWords (x ∷ y ∷ []) y.at base.UnsignedInt
  unsigned_char : (x y : Symbol) → x.kind ≡ k.KwUnsigned → y.kind ≡ k.KwChar → BaseWords (x ∷ y ∷ []) y.at base.UnsignedChar
  void : (x : Symbol) → x.kind ≡ k.KwVoid → BaseWords (x ∷ []) x.at base.Void
  struct : (x y : Symbol) → x.kind ≡ k.KwStruct → y.kind ≡ k.Id → BaseWords (x ∷ y ∷ []) y.at (base.Struct y.text)

-- `[ "const" ] ..`
pub data BaseReads : List Symbol → Base → Type 0 where
  plain : {a : List Symbol} {at : ℕ} {kind : BaseKind} → BaseWords a at kind → BaseReads a (record { at = at; is_const = false; kind = kind })
  constant : (x : Symbol) {a : List Symbol} {at : ℕ} {kind : BaseKind} → x.kind ≡ k.KwConst → BaseWords a at kind
      → BaseReads (x ∷ a) (record { at = at; is_const = true; kind = kind })

-- `{ "*" }`, with their number
pub data Stars : List Symbol → ℕ → Type 0 where
  none : Stars [] 0
  one : (x : Symbol) {a : List Symbol} {n : ℕ} → x.kind ≡ k.Star → Stars a n → Stars (x ∷ a) (suc n)

-- `base stars`
pub data TypeReads : List Symbol → TypeName → Type 0 where
  named : {a s : List Symbol} {t : Base} {n : ℕ} → BaseReads a t → Stars s n → TypeReads (a ++ s) (record { base = t; stars = n })

-- Expressions

-- the operators before an operand
abbrev pub prefix_of : Kind → Option UnaryOp
prefix_of k.Minus = Some u.Neg
prefix_of k.Tilde = Some u.Flip
prefix_of k.Bang = Some u.Not
prefix_of k.Star = Some u.Deref
prefix_of k.And = Some u.Address
prefix_of _ = None

-- the operators of each level, from the loosest on
abbrev pub operator_of : Level → Kind → Option BinaryOp
operator_of level.Or k.OrOr = Some b.OrOr
operator_of level.And k.AndAnd = Some b.AndAnd
operator_of level.BitOr k.Or = Some b.Or
operator_of level.BitXor k.Caret = Some b.Xor
operator_of level.BitAnd k.And = Some b.And
operator_of level.Equality k.EqEq = Some b.Eq
operator_of level.Equality k.NotEq = Some b.Ne
operator_of level.Order k.Less = Some b.Lt
operator_of level.Order k.Greater = Some b.Gt
operator_of level.Order k.LessEq = Some b.Le
operator_of level.Order k.GreaterEq = Some b.Ge
operator_of level.Shift k.ShiftLeft = Some b.Shl
operator_of level.Shift k.ShiftRight = Some b.Shr
operator_of level.Sum k.Plus = Some b.Add
operator_of level.Sum k.Minus = Some b.Sub
operator_of level.Product k.Star = Some b.Mul
operator_of level.Product k.Slash = Some b.Div
operator_of level.Product k.Percent = Some b.Rem
operator_of _ _ = None

mutual
  pub data Primary : List Symbol → Expr → Type 0 where
    name : (x : Symbol) → x.kind ≡ k.Id → Primary (x ∷ []) (e.Name x.at x.text)
    number : (x : Symbol) → x.kind ≡ k.Num → Primary (x ∷ []) (e.Number x.at (number_value x.text) (is_unsigned_number x.text))
    character : (x : Symbol) → x.kind ≡ k.Char → Primary (x ∷ []) (e.Character x.at (element_value (drop 1 x.text)))
    parens : (x y : Symbol) {a : List Symbol} {t : Expr} → x.kind ≡ k.LParen → Chain level.Or a t → y.kind ≡ k.RParen → Primary (x ∷ (a ++ y ∷ [])) t

  pub data Postfix : List Symbol → Expr → Type 0 where
    primary : {a : List Symbol} {t : Expr} → Primary a t → Postfix a t
    index : (x y : Symbol) {a c : List Symbol} {t i : Expr} → Postfix a t → x.kind ≡ k.LBracket → Chain level.Or c i → y.kind ≡ k.RBracket
        → Postfix (a ++ x ∷ (c ++ y ∷ [])) (e.Index x.at t i)
    member : (x y : Symbol) {a : List Symbol} {t : Expr} → Postfix a t → x.kind ≡ k.Dot → y.kind ≡ k.Id → Postfix (a ++ x ∷ y ∷ []) (e.Member y.at t y.text)
    arrow : (x y : Symbol) {a : List Symbol} {t : Expr} → Postfix a t → x.kind ≡ k.Arrow → y.kind ≡ k.Id → Postfix (a ++ x ∷ y ∷ []) (e.Arrow y.at t y.text)

  -- what is no cast, and so may stand behind `sizeof`
  pub data Uncast : List Symbol → Expr → Type 0 where
    postfix : {a : List Symbol} {t : Expr} → Postfix a t → Uncast a t
    prefix : (x : Symbol) (op : UnaryOp) {a : List Symbol} {t : Expr} → prefix_of x.kind ≡ Some op → Unary a t → Uncast (x ∷ a) (e.Unary x.at op t)
    sizeof_type : (x y z : Symbol) {a : List Symbol} {t : TypeName} → x.kind ≡ k.KwSizeof → y.kind ≡ k.LParen → TypeReads a t → z.kind ≡ k.RParen
        → Uncast (x ∷ y ∷ (a ++ z ∷ [])) (e.SizeofType x.at t)
    sizeof : (x : Symbol) {a : List Symbol} {t : Expr} → x.kind ≡ k.KwSizeof → Uncast a t → Uncast (x ∷ a) (e.Sizeof x.at t)

  pub data Unary : List Symbol → Expr → Type 0 where
    uncast : {a : List Symbol} {t : Expr} → Uncast a t → Unary a t
    cast : (x y : Symbol) {a c : List Symbol} {t : TypeName} {v : Expr} → x.kind ≡ k.LParen → TypeReads a t → y.kind ≡ k.RParen → Unary c v
        → Unary (x ∷ (a ++ y ∷ c)) (e.Cast x.at t v)

  -- the operands of a level: chains of the next tighter one
  pub data Operand : Level → List Symbol → Expr → Type 0 where
    of_or : {a : List Symbol} {t : Expr} → Chain level.And a t → Operand level.Or a t
    of_and : {a : List Symbol} {t : Expr} → Chain level.BitOr a t → Operand level.And a t
    of_bit_or : {a : List Symbol} {t : Expr} → Chain level.BitXor a t → Operand level.BitOr a t
    of_bit_xor : {a : List Symbol} {t : Expr} → Chain level.BitAnd a t → Operand level.BitXor a t
    of_bit_and : {a : List Symbol} {t : Expr} → Chain level.Equality a t → Operand level.BitAnd a t
    of_equality : {a : List Symbol} {t : Expr} → Chain level.Order a t → Operand level.Equality a t
    of_order : {a : List Symbol} {t : Expr} → Chain level.Shift a t → Operand level.Order a t
    of_shift : {a : List Symbol} {t : Expr} → Chain level.Sum a t → Operand level.Shift a t
    of_sum : {a : List Symbol} {t : Expr} → Chain level.Product a t → Operand level.Sum a t
    of_product : {a : List Symbol} {t : Expr} → Unary a t → Operand level.Product a t

  -- operands with operators of the level between them, which associate to the left
  pub data Chain : Level → List Symbol → Expr → Type 0 where
    operand : {l : Level} {a : List Symbol} {t : Expr} → Operand l a t → Chain l a t
    binary : (x : Symbol) (op : BinaryOp) {l : Level} {a c : List Symbol} {t v : Expr} → Chain l a t → operator_of l x.kind ≡ Some op → Operand l c v
        → Chain l (a ++ x ∷ c) (e.Binary x.at op t v)

-- the tokens are an expression
abbrev pub ReadsExpr : List Symbol → Expr → Type 0
ReadsExpr ts t = Chain level.Or ts t

-- Statements

-- `expr { "," expr }`
pub data Arguments : List Symbol → List Expr → Type 0 where
  one : {a : List Symbol} {t : Expr} → ReadsExpr a t → Arguments a (t ∷ [])
  more : (x : Symbol) {a c : List Symbol} {ts : List Expr} {t : Expr} → Arguments a ts → x.kind ≡ k.Comma → ReadsExpr c t → Arguments (a ++ x ∷ c) (ts ++ t ∷ [])

-- `ID "(" [ arguments ] ")"`
pub data CallReads : List Symbol → Call → Type 0 where
  none : (n x y : Symbol) → n.kind ≡ k.Id → x.kind ≡ k.LParen → y.kind ≡ k.RParen → CallReads (n ∷ x ∷ y ∷ []) (record { name = name_at n; arguments = [] })
  some : (n x y : Symbol) {a : List Symbol} {ts : List Expr} → n.kind ≡ k.Id → x.kind ≡ k.LParen → Arguments a ts → y.kind ≡ k.RParen
      → CallReads (n ∷ x ∷ (a ++ y ∷ [])) (record { name = name_at n; arguments = ts })

-- `call | unary "=" ( expr | call )`
pub data SimpleReads : List Symbol → Simple → Type 0 where
  call : {a : List Symbol} {c : Call} → CallReads a c → SimpleReads a (act.Call c)
  assign : (x : Symbol) {a c : List Symbol} {t v : Expr} → Unary a t → x.kind ≡ k.Assign → ReadsExpr c v → SimpleReads (a ++ x ∷ c) (act.Assign x.at t (value.Expr v))
  assign_call : (x : Symbol) {a c : List Symbol} {t : Expr} {v : Call} → Unary a t → x.kind ≡ k.Assign → CallReads c v
      → SimpleReads (a ++ x ∷ c) (act.Assign x.at t (value.Call v))

-- `[ simple ]`
pub data MaybeSimple : List Symbol → Option Simple → Type 0 where
  none : MaybeSimple [] None
  some : {a : List Symbol} {t : Simple} → SimpleReads a t → MaybeSimple a (Some t)

-- `[ expr ]`
pub data MaybeExpr : List Symbol → Option Expr → Type 0 where
  none : MaybeExpr [] None
  some : {a : List Symbol} {t : Expr} → ReadsExpr a t → MaybeExpr a (Some t)

abbrev pub arm : Symbol → Expr → List Stmt → Arm
arm x t c = roll-Arm (record { at = x.at; test = t; body = c })

mutual
  pub data Statement : List Symbol → Stmt → Type 0 where
    empty : (x : Symbol) → x.kind ≡ k.Semi → Statement (x ∷ []) (s.Empty x.at)
    block : (x : Symbol) {a : List Symbol} {c : List Stmt} → x.kind ≡ k.LBrace → Braced a c → Statement (x ∷ a) (s.Block x.at c)
    simple : (x : Symbol) {a : List Symbol} {t : Simple} → SimpleReads a t → x.kind ≡ k.Semi → Statement (a ++ x ∷ []) (s.Simple t)
    return : (x y : Symbol) {a : List Symbol} {t : Option Expr} → x.kind ≡ k.KwReturn → MaybeExpr a t → y.kind ≡ k.Semi → Statement (x ∷ (a ++ y ∷ [])) (s.Return x.at t)
    break : (x y : Symbol) → x.kind ≡ k.KwBreak → y.kind ≡ k.Semi → Statement (x ∷ y ∷ []) (s.Break x.at)
    continue : (x y : Symbol) → x.kind ≡ k.KwContinue → y.kind ≡ k.Semi → Statement (x ∷ y ∷ []) (s.Continue x.at)
    choice : {a : List Symbol} {arms : List Arm} → Arms a arms → Statement a (s.If arms None)
    choice_else : (x : Symbol) {a c : List Symbol} {arms : List Arm} {d : List Stmt} → Arms a arms → x.kind ≡ k.KwElse → Body c d
        → Statement (a ++ x ∷ c) (s.If arms (Some d))
    while : (x : Symbol) {a : List Symbol} {t : Expr} {c : List Stmt} → x.kind ≡ k.KwWhile → Guarded a t c → Statement (x ∷ a) (s.While x.at t c)
    do_while : (x y z w v : Symbol) {a c : List Symbol} {t : Expr} {d : List Stmt} → x.kind ≡ k.KwDo → Body a d → y.kind ≡ k.KwWhile → z.kind ≡ k.LParen → ReadsExpr c t
        → w.kind ≡ k.RParen → v.kind ≡ k.Semi → Statement (x ∷ (a ++ y ∷ z ∷ (c ++ w ∷ v ∷ []))) (s.Do x.at d t)
    for : (x y z w v : Symbol) {a c d f : List Symbol} {i p : Option Simple} {t : Option Expr} {g : List Stmt} → x.kind ≡ k.KwFor → y.kind ≡ k.LParen → MaybeSimple a i
        → z.kind ≡ k.Semi → MaybeExpr c t → w.kind ≡ k.Semi → MaybeSimple d p → v.kind ≡ k.RParen → Body f g
        → Statement (x ∷ y ∷ (a ++ z ∷ (c ++ w ∷ (d ++ v ∷ f)))) (s.For x.at i t p g)

  -- `"(" expr ")" block`
  pub data Guarded : List Symbol → Expr → List Stmt → Type 0 where
    guarded : (x y : Symbol) {a c : List Symbol} {t : Expr} {d : List Stmt} → x.kind ≡ k.LParen → ReadsExpr a t → y.kind ≡ k.RParen → Body c d
        → Guarded (x ∷ (a ++ y ∷ c)) t d

  -- `"if" guarded { "else" "if" guarded }`
  pub data Arms : List Symbol → List Arm → Type 0 where
    first : (x : Symbol) {a : List Symbol} {t : Expr} {c : List Stmt} → x.kind ≡ k.KwIf → Guarded a t c → Arms (x ∷ a) (arm x t c ∷ [])
    another : (x y : Symbol) {a c : List Symbol} {arms : List Arm} {t : Expr} {d : List Stmt} → Arms a arms → x.kind ≡ k.KwElse → y.kind ≡ k.KwIf → Guarded c t d
        → Arms (a ++ x ∷ y ∷ c) (arms ++ arm y t d ∷ [])

  -- a block: `"{" { stmt } "}"`
  pub data Body : List Symbol → List Stmt → Type 0 where
    braces : (x : Symbol) {a : List Symbol} {c : List Stmt} → x.kind ≡ k.LBrace → Braced a c → Body (x ∷ a) c

  -- `{ stmt } "}"`
  pub data Braced : List Symbol → List Stmt → Type 0 where
    closed : (y : Symbol) {a : List Symbol} {c : List Stmt} → Statements a c → y.kind ≡ k.RBrace → Braced (a ++ y ∷ []) c

  pub data Statements : List Symbol → List Stmt → Type 0 where
    none : Statements [] []
    more : {a c : List Symbol} {d : List Stmt} {t : Stmt} → Statements a d → Statement c t → Statements (a ++ c) (d ++ t ∷ [])

-- Declarations

-- `{ "[" NUM "]" }`
pub data Lengths : List Symbol → List Number → Type 0 where
  none : Lengths [] []
  more : (x n y : Symbol) {a : List Symbol} {ns : List Number} → Lengths a ns → x.kind ≡ k.LBracket → n.kind ≡ k.Num → y.kind ≡ k.RBracket
      → Lengths (a ++ x ∷ n ∷ y ∷ []) (ns ++ number_at n ∷ [])

-- `stars ID { "[" NUM "]" }`
pub data FieldReads : List Symbol → Declarator → Type 0 where
  field : (x : Symbol) {a c : List Symbol} {n : ℕ} {ns : List Number} → Stars a n → x.kind ≡ k.Id → Lengths c ns
      → FieldReads (a ++ x ∷ c) (record { stars = n; name = name_at x; is_open = false; lengths = ns })

-- the same, where the first `[ ]` may be empty
pub data DeclaratorReads : List Symbol → Declarator → Type 0 where
  known : {a : List Symbol} {d : Declarator} → FieldReads a d → DeclaratorReads a d
  open_array : (x y z : Symbol) {a c : List Symbol} {n : ℕ} {ns : List Number} → Stars a n → x.kind ≡ k.Id → y.kind ≡ k.LBracket → z.kind ≡ k.RBracket → Lengths c ns
      → DeclaratorReads (a ++ x ∷ y ∷ z ∷ c) (record { stars = n; name = name_at x; is_open = true; lengths = ns })

mutual
  -- `expr | STRING | "{" init { "," init } [ "," ] "}"`
  pub data InitialiserReads : List Symbol → Initialiser → Type 0 where
    expr : {a : List Symbol} {t : Expr} → ReadsExpr a t → InitialiserReads a (i.Expr t)
    string : (x : Symbol) → x.kind ≡ k.Str → InitialiserReads (x ∷ []) (i.String x.at (string_value x.text))
    items : (x : Symbol) {a : List Symbol} {ts : List Initialiser} → x.kind ≡ k.LBrace → ItemsClosed a ts → InitialiserReads (x ∷ a) (i.List x.at ts)

  -- `init { "," init } [ "," ] "}"`
  pub data ItemsClosed : List Symbol → List Initialiser → Type 0 where
    closed : (y : Symbol) {a : List Symbol} {ts : List Initialiser} → InitialiserItems a ts → y.kind ≡ k.RBrace → ItemsClosed (a ++ y ∷ []) ts
    comma : (y z : Symbol) {a : List Symbol} {ts : List Initialiser} → InitialiserItems a ts → y.kind ≡ k.Comma → z.kind ≡ k.RBrace → ItemsClosed (a ++ y ∷ z ∷ []) ts

  -- `init { "," init }`
  pub data InitialiserItems : List Symbol → List Initialiser → Type 0 where
    one : {a : List Symbol} {t : Initialiser} → InitialiserReads a t → InitialiserItems a (t ∷ [])
    more : (x : Symbol) {a c : List Symbol} {ts : List Initialiser} {t : Initialiser} → InitialiserItems a ts → x.kind ≡ k.Comma → InitialiserReads c t
        → InitialiserItems (a ++ x ∷ c) (ts ++ t ∷ [])

-- `decl`
pub data ObjectReads : List Symbol → ObjectItem → Type 0 where
  bare : {a : List Symbol} {d : Declarator} → DeclaratorReads a d → ObjectReads a (record { declarator = d; initialised = None })
  initialised : (x : Symbol) {a c : List Symbol} {d : Declarator} {v : Initialiser} → DeclaratorReads a d → x.kind ≡ k.Assign → InitialiserReads c v
      → ObjectReads (a ++ x ∷ c) (record { declarator = d; initialised = Some (record { at = x.at; value = v }) })

pub data Objects : List Symbol → List ObjectItem → Type 0 where
  one : {a : List Symbol} {d : ObjectItem} → ObjectReads a d → Objects a (d ∷ [])
  more : (x : Symbol) {a c : List Symbol} {ds : List ObjectItem} {d : ObjectItem} → Objects a ds → x.kind ≡ k.Comma → ObjectReads c d → Objects (a ++ x ∷ c) (ds ++ d ∷ [])

-- `field { "," field }`
pub data Fields : List Symbol → List Declarator → Type 0 where
  one : {a : List Symbol} {d : Declarator} → FieldReads a d → Fields a (d ∷ [])
  more : (x : Symbol) {a c : List Symbol} {ds : List Declarator} {d : Declarator} → Fields a ds → x.kind ≡ k.Comma → FieldReads c d → Fields (a ++ x ∷ c) (ds ++ d ∷ [])

-- `base field { "," field } ";"`
pub data MemberReads : List Symbol → Members → Type 0 where
  member : (x : Symbol) {a c : List Symbol} {t : Base} {fs : List Declarator} → BaseReads a t → Fields c fs → x.kind ≡ k.Semi → MemberReads (a ++ (c ++ x ∷ [])) (record { base = t; fields = fs })

-- `member { member }`
pub data MemberLists : List Symbol → List Members → Type 0 where
  one : {a : List Symbol} {m : Members} → MemberReads a m → MemberLists a (m ∷ [])
  more : {a c : List Symbol} {ms : List Members} {m : Members} → MemberLists a ms → MemberReads c m → MemberLists (a ++ c) (ms ++ m ∷ [])

-- `member { member } "}"`
pub data MembersClosed : List Symbol → List Members → Type 0 where
  closed : (y : Symbol) {a : List Symbol} {ms : List Members} → MemberLists a ms → y.kind ≡ k.RBrace → MembersClosed (a ++ y ∷ []) ms

-- `base stars [ ID ]`
pub data ParameterReads : List Symbol → Parameter → Type 0 where
  bare : {a c : List Symbol} {t : Base} {n : ℕ} → BaseReads a t → Stars c n → ParameterReads (a ++ c) (record { base = t; stars = n; name = None })
  named : (x : Symbol) {a c : List Symbol} {t : Base} {n : ℕ} → BaseReads a t → Stars c n → x.kind ≡ k.Id
      → ParameterReads (a ++ (c ++ x ∷ [])) (record { base = t; stars = n; name = Some (name_at x) })

pub data Parameters : List Symbol → List Parameter → Type 0 where
  one : {a : List Symbol} {p : Parameter} → ParameterReads a p → Parameters a (p ∷ [])
  more : (x : Symbol) {a c : List Symbol} {ps : List Parameter} {p : Parameter} → Parameters a ps → x.kind ≡ k.Comma → ParameterReads c p → Parameters (a ++ x ∷ c) (ps ++ p ∷ [])

-- whether it is the bare word `void`
abbrev pub is_void_word : BaseKind → Bool
is_void_word base.Void = true
is_void_word _ = false

abbrev pub is_void_alone : Parameter → Bool
is_void_alone p = is_void_word p.base.kind && not p.base.is_const && p.stars == 0 && not (is_some p.name)

-- the single word `void` is no parameter
abbrev pub proper : List Parameter → List Parameter
proper (p ∷ []) = if is_void_alone p then [] else (p ∷ [])
proper ps = ps

-- `[ "void" ] | parameter { "," parameter }`, and `")"`
pub data ParametersClosed : List Symbol → List Parameter → Type 0 where
  empty : (z : Symbol) → z.kind ≡ k.RParen → ParametersClosed (z ∷ []) []
  closed : (z : Symbol) {a : List Symbol} {ps : List Parameter} → Parameters a ps → z.kind ≡ k.RParen → ParametersClosed (a ++ z ∷ []) (proper ps)

-- whether each has a name
abbrev pub all_named : List Parameter → Bool
all_named [] = true
all_named (p ∷ ps) = is_some p.name && all_named ps

-- `[ "static" | "extern" ]`
pub data LinkageReads : List Symbol → Linkage → Type 0 where
  plain : LinkageReads [] linkage.Plain
  internal : (x : Symbol) → x.kind ≡ k.KwStatic → LinkageReads (x ∷ []) linkage.Static
  external : (x : Symbol) → x.kind ≡ k.KwExtern → LinkageReads (x ∷ []) linkage.Extern

-- `[ "static" | "extern" ] base`
pub data Specifiers : List Symbol → Linkage → Base → Type 0 where
  specified : {a c : List Symbol} {l : Linkage} {t : Base} → LinkageReads a l → BaseReads c t → Specifiers (a ++ c) l t

abbrev pub head_of : Linkage → Base → ℕ → Symbol → List Parameter → Head
head_of l t n x ps = record { linkage = l; base = t; stars = n; name = name_at x; parameters = ps }

-- `[ "static" | "extern" ] base stars ID "(" params ")"`
pub data HeadReads : List Symbol → Head → Type 0 where
  head : (x y : Symbol) {a d f : List Symbol} {l : Linkage} {t : Base} {n : ℕ} {ps : List Parameter} → Specifiers a l t → Stars d n → x.kind ≡ k.Id → y.kind ≡ k.LParen → ParametersClosed f ps
      → HeadReads (a ++ (d ++ x ∷ y ∷ f)) (head_of l t n x ps)

-- `stars ID { "[" NUM "]" } [ "=" expr ]`
pub data LocalReads : List Symbol → LocalItem → Type 0 where
  bare : {a : List Symbol} {d : Declarator} → FieldReads a d → LocalReads a (record { declarator = d; value = None })
  initialised : (x : Symbol) {a c : List Symbol} {d : Declarator} {v : Expr} → FieldReads a d → x.kind ≡ k.Assign → ReadsExpr c v
      → LocalReads (a ++ x ∷ c) (record { declarator = d; value = Some (record { at = x.at; value = v }) })

pub data LocalItems : List Symbol → List LocalItem → Type 0 where
  one : {a : List Symbol} {d : LocalItem} → LocalReads a d → LocalItems a (d ∷ [])
  more : (x : Symbol) {a c : List Symbol} {ds : List LocalItem} {d : LocalItem} → LocalItems a ds → x.kind ≡ k.Comma → LocalReads c d → LocalItems (a ++ x ∷ c) (ds ++ d ∷ [])

-- `[ "register" ]`
pub data RegisterReads : List Symbol → Bool → Type 0 where
  no : RegisterReads [] false
  yes : (x : Symbol) → x.kind ≡ k.KwRegister → RegisterReads (x ∷ []) true

-- `[ "register" ] base ldecl { "," ldecl } ";"`
pub data LocalsRead : List Symbol → Locals → Type 0 where
  locals : (x : Symbol) {a c d : List Symbol} {r : Bool} {t : Base} {ds : List LocalItem} → RegisterReads a r → BaseReads c t → LocalItems d ds → x.kind ≡ k.Semi
      → LocalsRead (a ++ (c ++ (d ++ x ∷ []))) (record { is_register = r; base = t; items = ds })

-- `{ local }`
pub data LocalLists : List Symbol → List Locals → Type 0 where
  none : LocalLists [] []
  more : {a c : List Symbol} {ls : List Locals} {l : Locals} → LocalLists a ls → LocalsRead c l → LocalLists (a ++ c) (ls ++ l ∷ [])

pub data ExternalReads : List Symbol → External → Type 0 where
  struct : (x n y w : Symbol) {a : List Symbol} {ms : List Members} → x.kind ≡ k.KwStruct → n.kind ≡ k.Id → y.kind ≡ k.LBrace → MembersClosed a ms → w.kind ≡ k.Semi
      → ExternalReads (x ∷ n ∷ y ∷ (a ++ w ∷ [])) (top.Struct (name_at n) ms)
  objects : (x : Symbol) {a d : List Symbol} {l : Linkage} {t : Base} {ds : List ObjectItem} → Specifiers a l t → Objects d ds → x.kind ≡ k.Semi → ExternalReads (a ++ (d ++ x ∷ [])) (top.Objects l t ds)
  prototype : (x : Symbol) {a : List Symbol} {h : Head} → HeadReads a h → x.kind ≡ k.Semi → ExternalReads (a ++ x ∷ []) (top.Prototype h)
  -- a function with a body has names for all parameters
  function : (x : Symbol) {a c d : List Symbol} {h : Head} {ls : List Locals} {ss : List Stmt} → HeadReads a h → all_named h.parameters ≡ true → x.kind ≡ k.LBrace → LocalLists c ls
      → Braced d ss → ExternalReads (a ++ x ∷ (c ++ d)) (top.Function h ls ss)

-- a unit: `{ external }`
pub data Reads : List Symbol → List External → Type 0 where
  none : Reads [] []
  more : {a c : List Symbol} {ts : List External} {t : External} → Reads a ts → ExternalReads c t → Reads (a ++ c) (ts ++ t ∷ [])
