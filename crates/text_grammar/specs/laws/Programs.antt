-- What the parser does, as data: for each of its functions a program that looks one token ahead.
use Rattle.std.specs.Prelude.{ℕ, zero, suc, ◌+◌, ◌*◌, List, [], ◌∷◌, ◌++◌, length, drop, Option, Some, None, Bool, true, false, if◌then◌else◌}
use Rattle.text_grammar.specs.Lexical.{number_value, is_unsigned_number, element_value, string_value}
use Rattle.text_grammar.specs.declared.kind.Kind.{Kind}
use Rattle.text_grammar.specs.declared.kind.Kind.TheVariants as k
use Rattle.text_grammar.specs.declared.kind.Level.{Level}
use Rattle.text_grammar.specs.declared.kind.Level.TheVariants as level
use Rattle.text_grammar.specs.declared.tree.NameAt.{NameAt}
use Rattle.text_grammar.specs.declared.tree.BaseKind.{BaseKind}
use Rattle.text_grammar.specs.declared.tree.BaseKind.TheVariants as base
use Rattle.text_grammar.specs.declared.tree.Base.{Base}
use Rattle.text_grammar.specs.declared.tree.TypeName.{TypeName}
use Rattle.text_grammar.specs.declared.tree.UnaryOp.{UnaryOp}
use Rattle.text_grammar.specs.declared.tree.BinaryOp.{BinaryOp}
use Rattle.text_grammar.specs.declared.tree.Expr.{Expr}
use Rattle.text_grammar.specs.declared.tree.Expr.TheVariants as e
use Rattle.text_grammar.specs.declared.tree.Call.{Call as CallTree}
use Rattle.text_grammar.specs.declared.tree.AssignedValue.{AssignedValue}
use Rattle.text_grammar.specs.declared.tree.AssignedValue.TheVariants as value
use Rattle.text_grammar.specs.declared.tree.Simple.{Simple}
use Rattle.text_grammar.specs.declared.tree.Simple.TheVariants as act
use Rattle.text_grammar.specs.declared.tree.Stmt.{Stmt}
use Rattle.text_grammar.specs.declared.tree.Stmt.TheVariants as s
use Rattle.text_grammar.specs.declared.tree.Arm.{Arm}
use Rattle.text_grammar.specs.declared.tree.Number.{Number}
use Rattle.text_grammar.specs.declared.tree.Initialiser.{Initialiser}
use Rattle.text_grammar.specs.declared.tree.Initialiser.TheVariants as i
use Rattle.text_grammar.specs.declared.tree.Declarator.{Declarator}
use Rattle.text_grammar.specs.declared.tree.ObjectItem.{ObjectItem}
use Rattle.text_grammar.specs.declared.tree.Members.{Members}
use Rattle.text_grammar.specs.declared.tree.Parameter.{Parameter}
use Rattle.text_grammar.specs.declared.tree.LocalItem.{LocalItem}
use Rattle.text_grammar.specs.declared.tree.Locals.{Locals}
use Rattle.text_grammar.specs.declared.tree.Linkage.{Linkage}
use Rattle.text_grammar.specs.declared.tree.Linkage.TheVariants as linkage
use Rattle.text_grammar.specs.declared.tree.Head.{Head}
use Rattle.text_grammar.specs.declared.tree.External.{External}
use Rattle.text_grammar.specs.declared.tree.External.TheVariants as top
use Rattle.text_grammar.specs.laws.SameKind.{same}
use Rattle.text_grammar.specs.Grammar.{Symbol, name_at, arm, prefix_of, operator_of, number_at, head_of, proper, all_named}

abbrev pub head : List Symbol → Option Symbol
head [] = None
head (x ∷ xs) = Some x

abbrev pub tail : List Symbol → List Symbol
tail [] = []
tail (x ∷ xs) = xs

-- a value, or none for a fault, and the tokens that are left
abbrev pub Out : Type 0 → Type 0
Out A = Option A × List Symbol

-- what the parser's functions read
pub data Rule : Type 0 where
  BaseWord : Rule
  BaseType : Rule
  -- stars behind this number of them
  StarsOf : ℕ → Rule
  TypeOf : Rule
  -- a name or a literal
  PrimaryOf : Rule
  PostfixOf : Rule
  -- indices and members behind an expression
  After : Expr → Rule
  -- an expression behind its parenthesis
  Inner : Symbol → Rule
  -- a cast or an expression behind its parenthesis
  Open : Symbol → Rule
  -- what begins with no parenthesis and is no cast
  Plain : Rule
  -- behind `sizeof`
  SizeofOf : Symbol → Rule
  -- behind `sizeof` and a parenthesis
  SizeofOpen : Symbol → Symbol → Rule
  UnaryOf : Rule
  OperandOf : Level → Rule
  ChainOf : Level → Rule
  -- operators and operands behind an expression
  Further : Level → Expr → Rule
  -- the rest of a chain of this level whose first token, a name, was taken before
  Resume : Level → Symbol → Rule
  -- arguments behind these
  ArgumentsOf : List Expr → Rule
  -- a call behind its name and parenthesis
  CallTail : Symbol → Rule
  -- what stands behind `=`
  ValueOf : Rule
  SimpleOf : Rule
  StatementOf : Rule
  GuardedOf : Rule
  -- what follows the arms of an `if`
  Choice : List Arm → Rule
  BodyOf : Rule
  -- statements behind these, and `}`
  StatementsOf : List Stmt → Rule
  -- array lengths behind these
  LengthsOf : List Number → Rule
  FieldOf : Rule
  FieldsOf : List Declarator → Rule
  MemberOf : Rule
  -- members behind these, and `}`
  MembersOf : List Members → Rule
  InitialiserOf : Rule
  -- items behind these, and `}`
  ItemsOf : List Initialiser → Rule
  -- an object behind so many stars and its name
  ObjectTail : ℕ → Symbol → Rule
  ObjectOf : Rule
  ObjectsOf : List ObjectItem → Rule
  -- a parameter behind its base
  ParameterTail : Base → Rule
  ParameterOf : Rule
  ParametersOf : List Parameter → Rule
  -- parameters behind their parenthesis, with the closing one
  ParameterList : Rule
  -- what stands behind the base of a declaration
  DeclaredOf : Linkage → Base → Rule
  LocalOf : Rule
  LocalItemsOf : List LocalItem → Rule
  LocalListsOf : List Locals → Rule
  ExternalOf : Rule
  UnitOf : List External → Rule

abbrev pub Sort : Rule → Type 0
Sort BaseWord = ℕ × BaseKind
Sort BaseType = Base
Sort (StarsOf n) = ℕ
Sort TypeOf = TypeName
Sort (ArgumentsOf found) = List Expr
Sort (CallTail n) = CallTree
Sort ValueOf = AssignedValue
Sort SimpleOf = Simple
Sort StatementOf = Stmt
Sort GuardedOf = Expr × List Stmt
Sort (Choice arms) = Stmt
Sort BodyOf = List Stmt
Sort (StatementsOf found) = List Stmt
Sort (LengthsOf found) = List Number
Sort FieldOf = Declarator
Sort (FieldsOf found) = List Declarator
Sort MemberOf = Members
Sort (MembersOf found) = List Members
Sort InitialiserOf = Initialiser
Sort (ItemsOf found) = List Initialiser
Sort (ObjectTail n x) = ObjectItem
Sort ObjectOf = ObjectItem
Sort (ObjectsOf found) = List ObjectItem
Sort (ParameterTail t) = Parameter
Sort ParameterOf = Parameter
Sort (ParametersOf found) = List Parameter
Sort ParameterList = List Parameter
Sort (DeclaredOf l t) = External
Sort LocalOf = LocalItem
Sort (LocalItemsOf found) = List LocalItem
Sort (LocalListsOf found) = List Locals
Sort ExternalOf = External
Sort (UnitOf found) = List External
Sort _ = Expr

pub data Prog (A : Type 0) : Type 0 where
  Ret : A → Prog A
  Fail : Prog A
  Peek : (Option Symbol → Prog A) → Prog A
  Eat : Prog A → Prog A
  Call : (m : Rule) → (Sort m → Prog A) → Prog A

-- the token, if it is of this kind
abbrev pub taken : Kind → Option Symbol → Option Symbol
taken kind None = None
taken kind (Some x) = if same kind x.kind then Some x else None

abbrev pub if_some : {A B : Type 0} → Option A → (A → B) → B → B
if_some (Some a) f b = f a
if_some None f b = b

-- takes a token of this kind and goes on with the first, or else with the second
abbrev pub try : {A : Type 0} → Kind → (Symbol → Prog A) → Prog A → Prog A
try kind f p = Peek (λ h. if_some (taken kind h) (λ x. Eat (f x)) p)

abbrev pub expect : {A : Type 0} → Kind → Prog A → Prog A
expect kind p = try kind (λ x. p) Fail

-- Types

abbrev pub signed_words : Symbol → Prog (ℕ × BaseKind)
signed_words x = try k.KwInt (λ y. Ret (y.at, base.Int)) (try k.KwChar (λ y. Ret (y.at, base.Char)) (Ret (x.at, base.Int)))

abbrev pub unsigned_words : Symbol → Prog (ℕ × BaseKind)
unsigned_words x = try k.KwInt (λ y. Ret (y.at, base.UnsignedInt)) (try k.KwChar (λ y. Ret (y.at, base.UnsignedChar)) (Ret (x.at, base.UnsignedInt)))

abbrev pub struct_words : Symbol → Prog (ℕ × BaseKind)
struct_words x = try k.Id (λ y. Ret (y.at, base.Struct y.text)) Fail

abbrev pub words_from_struct : Prog (ℕ × BaseKind)
words_from_struct = try k.KwStruct struct_words Fail

abbrev pub words_from_unsigned : Prog (ℕ × BaseKind)
words_from_unsigned = try k.KwUnsigned unsigned_words words_from_struct

abbrev pub words_from_signed : Prog (ℕ × BaseKind)
words_from_signed = try k.KwSigned signed_words words_from_unsigned

abbrev pub words_from_void : Prog (ℕ × BaseKind)
words_from_void = try k.KwVoid (λ x. Ret (x.at, base.Void)) words_from_signed

abbrev pub words_from_char : Prog (ℕ × BaseKind)
words_from_char = try k.KwChar (λ x. Ret (x.at, base.Char)) words_from_void

abbrev pub base_words : Prog (ℕ × BaseKind)
base_words = try k.KwInt (λ x. Ret (x.at, base.Int)) words_from_char

abbrev pub base_from : Bool → ℕ × BaseKind → Base
base_from is_const v = record { at = v.0; is_const = is_const; kind = v.1 }

abbrev pub base_after : Bool → Prog Base
base_after is_const = Call BaseWord (λ v. Ret (base_from is_const v))

abbrev pub type_stars : Base → Prog TypeName
type_stars t = Call (StarsOf 0) (λ n. Ret (record { base = t; stars = n }))

-- whether the word begins a type
abbrev pub is_type_word : Kind → Bool
is_type_word k.KwConst = true
is_type_word k.KwInt = true
is_type_word k.KwChar = true
is_type_word k.KwVoid = true
is_type_word k.KwSigned = true
is_type_word k.KwUnsigned = true
is_type_word k.KwStruct = true
is_type_word _ = false

abbrev pub begins_type : Option Symbol → Bool
begins_type None = false
begins_type (Some x) = is_type_word x.kind

-- Expressions

abbrev pub number_of : Symbol → Expr
number_of x = e.Number x.at (number_value x.text) (is_unsigned_number x.text)

abbrev pub character_of : Symbol → Expr
character_of x = e.Character x.at (element_value (drop 1 x.text))

abbrev pub primary_literal : Prog Expr
primary_literal = try k.Num (λ x. Ret (number_of x)) (try k.Char (λ x. Ret (character_of x)) Fail)

abbrev pub index_close : Expr → Symbol → Expr → Prog Expr
index_close t x i = Call (After (e.Index x.at t i)) Ret

abbrev pub index_open : Expr → Symbol → Prog Expr
index_open t x = Call (ChainOf level.Or) (λ i. expect k.RBracket (index_close t x i))

abbrev pub member_name : Expr → Symbol → Prog Expr
member_name t y = Call (After (e.Member y.at t y.text)) Ret

abbrev pub arrow_name : Expr → Symbol → Prog Expr
arrow_name t y = Call (After (e.Arrow y.at t y.text)) Ret

abbrev pub after_arrow : Expr → Prog Expr
after_arrow t = try k.Arrow (λ x. try k.Id (arrow_name t) Fail) (Ret t)

abbrev pub after_dot : Expr → Prog Expr
after_dot t = try k.Dot (λ x. try k.Id (member_name t) Fail) (after_arrow t)

abbrev pub inner_close : Expr → Prog Expr
inner_close t = Call (After t) Ret

abbrev pub inner : Prog Expr
inner = Call (ChainOf level.Or) (λ t. expect k.RParen (inner_close t))

abbrev pub cast_operand : Symbol → TypeName → Prog Expr
cast_operand x t = Call UnaryOf (λ v. Ret (e.Cast x.at t v))

abbrev pub cast_type : Symbol → Prog Expr
cast_type x = Call TypeOf (λ t. expect k.RParen (cast_operand x t))

abbrev pub open_at : Symbol → Bool → Prog Expr
open_at x true = cast_type x
open_at x false = Call (Inner x) Ret

abbrev pub sizeof_type : Symbol → Prog Expr
sizeof_type x = Call TypeOf (λ t. expect k.RParen (Ret (e.SizeofType x.at t)))

abbrev pub sizeof_open_at : Symbol → Symbol → Bool → Prog Expr
sizeof_open_at x y true = sizeof_type x
sizeof_open_at x y false = Call (Inner y) (λ t. Ret (e.Sizeof x.at t))

abbrev pub sizeof_plain : Symbol → Prog Expr
sizeof_plain x = Call Plain (λ t. Ret (e.Sizeof x.at t))

abbrev pub prefixed : Symbol → UnaryOp → Prog Expr
prefixed x op = Call UnaryOf (λ t. Ret (e.Unary x.at op t))

abbrev pub prefix_by : Option Symbol → Prog Expr
prefix_by None = Call PostfixOf Ret
prefix_by (Some x) = if_some (prefix_of x.kind) (λ op. Eat (prefixed x op)) (Call PostfixOf Ret)

abbrev pub operated : Level → Expr → Symbol → BinaryOp → Prog Expr
operated l t x op = Call (OperandOf l) (λ v. Call (Further l (e.Binary x.at op t v)) Ret)

abbrev pub further_at : Level → Expr → Symbol → Option BinaryOp → Prog Expr
further_at l t x o = if_some o (λ op. Eat (operated l t x op)) (Ret t)

abbrev pub further_by : Level → Expr → Option Symbol → Prog Expr
further_by l t None = Ret t
further_by l t (Some x) = further_at l t x (operator_of l x.kind)

-- Statements

abbrev pub argument : List Expr → Symbol → Prog (List Expr)
argument found x = Call (ChainOf level.Or) (λ t. Call (ArgumentsOf (found ++ t ∷ [])) Ret)

abbrev pub call_of : Symbol → List Expr → CallTree
call_of n ts = record { name = name_at n; arguments = ts }

abbrev pub call_close : Symbol → List Expr → Prog CallTree
call_close n ts = expect k.RParen (Ret (call_of n ts))

abbrev pub call_first : Symbol → Prog CallTree
call_first n = Call (ChainOf level.Or) (λ t. Call (ArgumentsOf (t ∷ [])) (call_close n))

abbrev pub value_named : Symbol → Prog AssignedValue
value_named n = try k.LParen (λ x. Call (CallTail n) (λ c. Ret (value.Call c))) (Call (Resume level.Or n) (λ t. Ret (value.Expr t)))

abbrev pub value_plain : Prog AssignedValue
value_plain = Call (ChainOf level.Or) (λ t. Ret (value.Expr t))

abbrev pub assigned : Expr → Symbol → Prog Simple
assigned t x = Call ValueOf (λ v. Ret (act.Assign x.at t v))

abbrev pub assign_rest : Expr → Prog Simple
assign_rest t = try k.Assign (assigned t) Fail

abbrev pub named_target : Symbol → Prog Simple
named_target n = Call (After (e.Name n.at n.text)) assign_rest

abbrev pub simple_named : Symbol → Prog Simple
simple_named n = try k.LParen (λ x. Call (CallTail n) (λ c. Ret (act.Call c))) (named_target n)

abbrev pub simple : Prog Simple
simple = try k.Id simple_named (Call UnaryOf assign_rest)

abbrev pub guard_body : Expr → Prog (Expr × List Stmt)
guard_body t = Call BodyOf (λ c. Ret (t, c))

abbrev pub guard_test : Prog (Expr × List Stmt)
guard_test = Call (ChainOf level.Or) (λ t. expect k.RParen (guard_body t))

abbrev pub choice_arm : List Arm → Symbol → Prog Stmt
choice_arm arms y = Call GuardedOf (λ v. Call (Choice (arms ++ arm y v.0 v.1 ∷ [])) Ret)

abbrev pub choice_last : List Arm → Prog Stmt
choice_last arms = Call BodyOf (λ c. Ret (s.If arms (Some c)))

abbrev pub choice_more : List Arm → Symbol → Prog Stmt
choice_more arms x = try k.KwIf (choice_arm arms) (choice_last arms)

abbrev pub block_rest : Symbol → Prog Stmt
block_rest x = Call (StatementsOf []) (λ c. Ret (s.Block x.at c))

abbrev pub return_value : Symbol → Prog Stmt
return_value x = Call (ChainOf level.Or) (λ t. expect k.Semi (Ret (s.Return x.at (Some t))))

abbrev pub return_rest : Symbol → Prog Stmt
return_rest x = try k.Semi (λ y. Ret (s.Return x.at None)) (return_value x)

abbrev pub while_rest : Symbol → Prog Stmt
while_rest x = Call GuardedOf (λ v. Ret (s.While x.at v.0 v.1))

abbrev pub do_end : Symbol → List Stmt → Expr → Prog Stmt
do_end x c t = expect k.RParen (expect k.Semi (Ret (s.Do x.at c t)))

abbrev pub do_test : Symbol → List Stmt → Prog Stmt
do_test x c = expect k.KwWhile (expect k.LParen (Call (ChainOf level.Or) (do_end x c)))

abbrev pub do_rest : Symbol → Prog Stmt
do_rest x = Call BodyOf (do_test x)

abbrev pub for_body : Symbol → Option Simple → Option Expr → Option Simple → Prog Stmt
for_body x i t p = Call BodyOf (λ c. Ret (s.For x.at i t p c))

abbrev pub for_step_some : Symbol → Option Simple → Option Expr → Simple → Prog Stmt
for_step_some x i t p = expect k.RParen (for_body x i t (Some p))

abbrev pub for_step : Symbol → Option Simple → Option Expr → Prog Stmt
for_step x i t = try k.RParen (λ y. for_body x i t None) (Call SimpleOf (for_step_some x i t))

abbrev pub for_test_some : Symbol → Option Simple → Expr → Prog Stmt
for_test_some x i t = expect k.Semi (for_step x i (Some t))

abbrev pub for_test : Symbol → Option Simple → Prog Stmt
for_test x i = try k.Semi (λ y. for_step x i None) (Call (ChainOf level.Or) (for_test_some x i))

abbrev pub for_first_some : Symbol → Simple → Prog Stmt
for_first_some x i = expect k.Semi (for_test x (Some i))

abbrev pub for_first : Symbol → Prog Stmt
for_first x = try k.Semi (λ y. for_test x None) (Call SimpleOf (for_first_some x))

abbrev pub for_rest : Symbol → Prog Stmt
for_rest x = expect k.LParen (for_first x)

abbrev pub break_rest : Symbol → Prog Stmt
break_rest x = expect k.Semi (Ret (s.Break x.at))

abbrev pub continue_rest : Symbol → Prog Stmt
continue_rest x = expect k.Semi (Ret (s.Continue x.at))

abbrev pub stmt_simple : Prog Stmt
stmt_simple = Call SimpleOf (λ t. expect k.Semi (Ret (s.Simple t)))

abbrev pub stmt_for : Prog Stmt
stmt_for = try k.KwFor for_rest stmt_simple

abbrev pub stmt_do : Prog Stmt
stmt_do = try k.KwDo do_rest stmt_for

abbrev pub stmt_while : Prog Stmt
stmt_while = try k.KwWhile while_rest stmt_do

abbrev pub stmt_if : Prog Stmt
stmt_if = try k.KwIf (choice_arm []) stmt_while

abbrev pub stmt_continue : Prog Stmt
stmt_continue = try k.KwContinue continue_rest stmt_if

abbrev pub stmt_break : Prog Stmt
stmt_break = try k.KwBreak break_rest stmt_continue

abbrev pub stmt_return : Prog Stmt
stmt_return = try k.KwReturn return_rest stmt_break

abbrev pub stmt_block : Prog Stmt
stmt_block = try k.LBrace block_rest stmt_return

abbrev pub statement : Prog Stmt
statement = try k.Semi (λ x. Ret (s.Empty x.at)) stmt_block

abbrev pub statements_more : List Stmt → Prog (List Stmt)
statements_more found = Call StatementOf (λ t. Call (StatementsOf (found ++ t ∷ [])) Ret)

abbrev pub resumed : Level → Expr → Prog Expr
resumed l t = Call (Further l t) Ret

-- Declarations

abbrev pub length_number : List Number → Symbol → Prog (List Number)
length_number found m = expect k.RBracket (Call (LengthsOf (found ++ number_at m ∷ [])) Ret)

abbrev pub length_at : List Number → Symbol → Prog (List Number)
length_at found x = try k.Num (length_number found) Fail

abbrev pub declarator : ℕ → Symbol → Bool → List Number → Declarator
declarator n x is_open ns = record { stars = n; name = name_at x; is_open = is_open; lengths = ns }

abbrev pub field_named : ℕ → Symbol → Prog Declarator
field_named n x = Call (LengthsOf []) (λ ns. Ret (declarator n x false ns))

abbrev pub field_from : ℕ → Prog Declarator
field_from n = try k.Id (field_named n) Fail

abbrev pub fields_more : List Declarator → Symbol → Prog (List Declarator)
fields_more found x = Call FieldOf (λ d. Call (FieldsOf (found ++ d ∷ [])) Ret)

abbrev pub member_end : Base → List Declarator → Prog Members
member_end t fs = expect k.Semi (Ret (record { base = t; fields = fs }))

abbrev pub member_fields : Base → Declarator → Prog Members
member_fields t d = Call (FieldsOf (d ∷ [])) (member_end t)

abbrev pub member_base : Base → Prog Members
member_base t = Call FieldOf (member_fields t)

abbrev pub members_more : List Members → Prog (List Members)
members_more found = Call MemberOf (λ m. Call (MembersOf (found ++ m ∷ [])) Ret)

abbrev pub string_of : Symbol → Initialiser
string_of x = i.String x.at (string_value x.text)

abbrev pub list_items : Symbol → Initialiser → Prog Initialiser
list_items x v = Call (ItemsOf (v ∷ [])) (λ vs. Ret (i.List x.at vs))

abbrev pub list_first : Symbol → Prog Initialiser
list_first x = Call InitialiserOf (list_items x)

abbrev pub init_expr : Prog Initialiser
init_expr = Call (ChainOf level.Or) (λ t. Ret (i.Expr t))

abbrev pub init_braces : Prog Initialiser
init_braces = try k.LBrace list_first init_expr

abbrev pub items_next : List Initialiser → Prog (List Initialiser)
items_next found = Call InitialiserOf (λ v. Call (ItemsOf (found ++ v ∷ [])) Ret)

abbrev pub items_comma : List Initialiser → Symbol → Prog (List Initialiser)
items_comma found x = try k.RBrace (λ y. Ret found) (items_next found)

abbrev pub object_done : Declarator → Symbol → Initialiser → ObjectItem
object_done d x v = record { declarator = d; initialised = Some (record { at = x.at; value = v }) }

abbrev pub object_value : Declarator → Symbol → Prog ObjectItem
object_value d x = Call InitialiserOf (λ v. Ret (object_done d x v))

abbrev pub object_init : Declarator → Prog ObjectItem
object_init d = try k.Assign (object_value d) (Ret (record { declarator = d; initialised = None }))

abbrev pub object_open : ℕ → Symbol → Symbol → Prog ObjectItem
object_open n x z = Call (LengthsOf []) (λ ns. object_init (declarator n x true ns))

abbrev pub object_length : ℕ → Symbol → Symbol → Prog ObjectItem
object_length n x m = expect k.RBracket (Call (LengthsOf (number_at m ∷ [])) (λ ns. object_init (declarator n x false ns)))

abbrev pub object_bracket : ℕ → Symbol → Symbol → Prog ObjectItem
object_bracket n x y = try k.RBracket (object_open n x) (try k.Num (object_length n x) Fail)

abbrev pub object_tail : ℕ → Symbol → Prog ObjectItem
object_tail n x = try k.LBracket (object_bracket n x) (object_init (declarator n x false []))

abbrev pub object_named : ℕ → Symbol → Prog ObjectItem
object_named n x = Call (ObjectTail n x) Ret

abbrev pub object_from : ℕ → Prog ObjectItem
object_from n = try k.Id (object_named n) Fail

abbrev pub objects_more : List ObjectItem → Symbol → Prog (List ObjectItem)
objects_more found x = Call ObjectOf (λ d. Call (ObjectsOf (found ++ d ∷ [])) Ret)

abbrev pub parameter_of : Base → ℕ → Option NameAt → Parameter
parameter_of t n name = record { base = t; stars = n; name = name }

abbrev pub parameter_named : Base → ℕ → Symbol → Prog Parameter
parameter_named t n x = Ret (parameter_of t n (Some (name_at x)))

abbrev pub parameter_from : Base → ℕ → Prog Parameter
parameter_from t n = try k.Id (parameter_named t n) (Ret (parameter_of t n None))

abbrev pub parameters_more : List Parameter → Symbol → Prog (List Parameter)
parameters_more found x = Call ParameterOf (λ q. Call (ParametersOf (found ++ q ∷ [])) Ret)

abbrev pub parameters_end : List Parameter → Prog (List Parameter)
parameters_end ps = expect k.RParen (Ret (proper ps))

abbrev pub parameters_first : Parameter → Prog (List Parameter)
parameters_first q = Call (ParametersOf (q ∷ [])) parameters_end

abbrev pub parameters_given : Prog (List Parameter)
parameters_given = Call ParameterOf parameters_first

abbrev pub objects_end : Linkage → Base → List ObjectItem → Prog External
objects_end l t ds = expect k.Semi (Ret (top.Objects l t ds))

abbrev pub objects_first : Linkage → Base → ObjectItem → Prog External
objects_first l t d = Call (ObjectsOf (d ∷ [])) (objects_end l t)

abbrev pub function_body : Head → List Locals → Prog External
function_body h ls = Call (StatementsOf []) (λ ss. Ret (top.Function h ls ss))

abbrev pub function_locals : Head → Symbol → Prog External
function_locals h z = Call (LocalListsOf []) (function_body h)

abbrev pub head_end : Head → Prog External
head_end h = expect k.Semi (Ret (top.Prototype h))

abbrev pub head_at : Head → Bool → Prog External
head_at h true = try k.LBrace (function_locals h) (head_end h)
head_at h false = head_end h

abbrev pub head_closed : Linkage → Base → ℕ → Symbol → List Parameter → Prog External
head_closed l t n x ps = head_at (head_of l t n x ps) (all_named ps)

abbrev pub declared_named : Linkage → Base → ℕ → Symbol → Prog External
declared_named l t n x = try k.LParen (λ y. Call ParameterList (head_closed l t n x)) (Call (ObjectTail n x) (objects_first l t))

abbrev pub declared_from : Linkage → Base → ℕ → Prog External
declared_from l t n = try k.Id (declared_named l t n) Fail

abbrev pub local_value : Declarator → Symbol → Expr → LocalItem
local_value d x v = record { declarator = d; value = Some (record { at = x.at; value = v }) }

abbrev pub local_init : Declarator → Prog LocalItem
local_init d = try k.Assign (λ x. Call (ChainOf level.Or) (λ v. Ret (local_value d x v))) (Ret (record { declarator = d; value = None }))

abbrev pub local_items_more : List LocalItem → Symbol → Prog (List LocalItem)
local_items_more found x = Call LocalOf (λ d. Call (LocalItemsOf (found ++ d ∷ [])) Ret)

abbrev pub locals_next : List Locals → Bool → Base → List LocalItem → Prog (List Locals)
locals_next found r t ds = Call (LocalListsOf (found ++ record { is_register = r; base = t; items = ds } ∷ [])) Ret

abbrev pub locals_end : List Locals → Bool → Base → List LocalItem → Prog (List Locals)
locals_end found r t ds = expect k.Semi (locals_next found r t ds)

abbrev pub locals_items : List Locals → Bool → Base → LocalItem → Prog (List Locals)
locals_items found r t d = Call (LocalItemsOf (d ∷ [])) (locals_end found r t)

abbrev pub locals_from : List Locals → Bool → Base → Prog (List Locals)
locals_from found r t = Call LocalOf (locals_items found r t)

abbrev pub locals_at : List Locals → Bool → Prog (List Locals)
locals_at found true = Call BaseType (locals_from found false)
locals_at found false = Ret found

abbrev pub struct_done : Symbol → List Members → Prog External
struct_done n ms = expect k.Semi (Ret (top.Struct (name_at n) ms))

abbrev pub struct_members : Symbol → Members → Prog External
struct_members n m = Call (MembersOf (m ∷ [])) (struct_done n)

abbrev pub struct_first : Symbol → Symbol → Prog External
struct_first n y = Call MemberOf (struct_members n)

abbrev pub struct_base : Symbol → Base
struct_base n = base_from false (n.at, base.Struct n.text)

abbrev pub struct_named : Symbol → Prog External
struct_named n = try k.LBrace (struct_first n) (Call (DeclaredOf linkage.Plain (struct_base n)) Ret)

abbrev pub struct_start : Symbol → Prog External
struct_start x = try k.Id struct_named Fail

abbrev pub specified : Linkage → Prog External
specified l = Call BaseType (λ t. Call (DeclaredOf l t) Ret)

abbrev pub external_extern : Prog External
external_extern = try k.KwExtern (λ x. specified linkage.Extern) (specified linkage.Plain)

abbrev pub external_static : Prog External
external_static = try k.KwStatic (λ x. specified linkage.Static) external_extern

abbrev pub unit_more : List External → Prog (List External)
unit_more found = Call ExternalOf (λ t. Call (UnitOf (found ++ t ∷ [])) Ret)

abbrev pub unit_by : List External → Option Symbol → Prog (List External)
unit_by found None = Ret found
unit_by found (Some x) = unit_more found

abbrev pub body : (m : Rule) → Prog (Sort m)
body BaseWord = base_words
body BaseType = try k.KwConst (λ x. base_after true) (base_after false)
body (StarsOf n) = try k.Star (λ x. Call (StarsOf (suc n)) Ret) (Ret n)
body TypeOf = Call BaseType type_stars
body PrimaryOf = try k.Id (λ x. Ret (e.Name x.at x.text)) primary_literal
body PostfixOf = Call PrimaryOf (λ t. Call (After t) Ret)
body (After t) = try k.LBracket (index_open t) (after_dot t)
body (Inner x) = inner
body (Open x) = Peek (λ h. open_at x (begins_type h))
body Plain = try k.KwSizeof (λ x. Call (SizeofOf x) Ret) (Peek prefix_by)
body (SizeofOf x) = try k.LParen (λ y. Call (SizeofOpen x y) Ret) (sizeof_plain x)
body (SizeofOpen x y) = Peek (λ h. sizeof_open_at x y (begins_type h))
body UnaryOf = try k.LParen (λ x. Call (Open x) Ret) (Call Plain Ret)
body (OperandOf level.Or) = Call (ChainOf level.And) Ret
body (OperandOf level.And) = Call (ChainOf level.BitOr) Ret
body (OperandOf level.BitOr) = Call (ChainOf level.BitXor) Ret
body (OperandOf level.BitXor) = Call (ChainOf level.BitAnd) Ret
body (OperandOf level.BitAnd) = Call (ChainOf level.Equality) Ret
body (OperandOf level.Equality) = Call (ChainOf level.Order) Ret
body (OperandOf level.Order) = Call (ChainOf level.Shift) Ret
body (OperandOf level.Shift) = Call (ChainOf level.Sum) Ret
body (OperandOf level.Sum) = Call (ChainOf level.Product) Ret
body (OperandOf level.Product) = Call UnaryOf Ret
body (ChainOf l) = Call (OperandOf l) (λ t. Call (Further l t) Ret)
body (Further l t) = Peek (further_by l t)
body (Resume level.Or n) = Call (Resume level.And n) (resumed level.Or)
body (Resume level.And n) = Call (Resume level.BitOr n) (resumed level.And)
body (Resume level.BitOr n) = Call (Resume level.BitXor n) (resumed level.BitOr)
body (Resume level.BitXor n) = Call (Resume level.BitAnd n) (resumed level.BitXor)
body (Resume level.BitAnd n) = Call (Resume level.Equality n) (resumed level.BitAnd)
body (Resume level.Equality n) = Call (Resume level.Order n) (resumed level.Equality)
body (Resume level.Order n) = Call (Resume level.Shift n) (resumed level.Order)
body (Resume level.Shift n) = Call (Resume level.Sum n) (resumed level.Shift)
body (Resume level.Sum n) = Call (Resume level.Product n) (resumed level.Sum)
body (Resume level.Product n) = Call (After (e.Name n.at n.text)) (resumed level.Product)
body (ArgumentsOf found) = try k.Comma (argument found) (Ret found)
body (CallTail n) = try k.RParen (λ y. Ret (call_of n [])) (call_first n)
body ValueOf = try k.Id value_named value_plain
body SimpleOf = simple
body StatementOf = statement
body GuardedOf = expect k.LParen guard_test
body (Choice arms) = try k.KwElse (choice_more arms) (Ret (s.If arms None))
body BodyOf = expect k.LBrace (Call (StatementsOf []) Ret)
body (StatementsOf found) = try k.RBrace (λ y. Ret found) (statements_more found)
body (LengthsOf found) = try k.LBracket (length_at found) (Ret found)
body FieldOf = Call (StarsOf 0) field_from
body (FieldsOf found) = try k.Comma (fields_more found) (Ret found)
body MemberOf = Call BaseType member_base
body (MembersOf found) = try k.RBrace (λ y. Ret found) (members_more found)
body InitialiserOf = try k.Str (λ x. Ret (string_of x)) init_braces
body (ItemsOf found) = try k.Comma (items_comma found) (expect k.RBrace (Ret found))
body (ObjectTail n x) = object_tail n x
body ObjectOf = Call (StarsOf 0) object_from
body (ObjectsOf found) = try k.Comma (objects_more found) (Ret found)
body (ParameterTail t) = Call (StarsOf 0) (parameter_from t)
body ParameterOf = Call BaseType (λ t. Call (ParameterTail t) Ret)
body (ParametersOf found) = try k.Comma (parameters_more found) (Ret found)
body ParameterList = try k.RParen (λ y. Ret []) parameters_given
body (DeclaredOf l t) = Call (StarsOf 0) (declared_from l t)
body LocalOf = Call FieldOf local_init
body (LocalItemsOf found) = try k.Comma (local_items_more found) (Ret found)
body (LocalListsOf found) = try k.KwRegister (λ x. Call BaseType (locals_from found true)) (Peek (λ h. locals_at found (begins_type h)))
body ExternalOf = try k.KwStruct struct_start external_static
body (UnitOf found) = Peek (unit_by found)

-- What a program does with tokens, where the calls are answered by c

abbrev pub fed : {A : Type 0} → Option Symbol → Out A → List Symbol → Out A
fed None o ts = (None, ts)
fed (Some x) o ts = o

abbrev pub and_then : {A B : Type 0} → Out A → (A → List Symbol → Out B) → Out B
and_then o f = if_some o.0 (λ a. f a o.1) (None, o.1)

abbrev pub Calls : Type 0
Calls = (m : Rule) → List Symbol → Out (Sort m)

abbrev pub walk : {A : Type 0} → Calls → Prog A → List Symbol → Out A
walk c (Ret a) ts = (Some a, ts)
walk c Fail ts = (None, ts)
walk c (Peek f) ts = walk c (f (head ts)) ts
walk c (Eat p) ts = fed (head ts) (walk c p (tail ts)) ts
walk c (Call m f) ts = and_then (c m ts) (λ v r. walk c (f v) r)

abbrev pub exec : ℕ → Calls
exec zero m ts = (None, ts)
exec (suc n) m ts = walk (exec n) (body m) ts

-- how far a rule is above those that it begins with
abbrev pub level_rank : Level → ℕ
level_rank level.Or = 22
level_rank level.And = 20
level_rank level.BitOr = 18
level_rank level.BitXor = 16
level_rank level.BitAnd = 14
level_rank level.Equality = 12
level_rank level.Order = 10
level_rank level.Shift = 8
level_rank level.Sum = 6
level_rank level.Product = 4

abbrev pub rank : Rule → ℕ
rank BaseWord = 0
rank BaseType = 1
rank (StarsOf n) = 0
rank TypeOf = 2
rank PrimaryOf = 0
rank PostfixOf = 1
rank (After t) = 0
rank (Inner x) = 24
rank (Open x) = 25
rank Plain = 2
rank (SizeofOf x) = 3
rank (SizeofOpen x y) = 25
rank UnaryOf = 3
rank (OperandOf l) = level_rank l
rank (ChainOf l) = level_rank l + 1
rank (Further l t) = 0
rank (Resume l n) = level_rank l
rank (ArgumentsOf found) = 0
rank (CallTail n) = 24
rank ValueOf = 24
rank SimpleOf = 4
rank StatementOf = 5
rank GuardedOf = 0
rank (Choice arms) = 0
rank BodyOf = 0
rank (StatementsOf found) = 6
rank (LengthsOf found) = 0
rank FieldOf = 1
rank (FieldsOf found) = 0
rank MemberOf = 2
rank (MembersOf found) = 3
rank InitialiserOf = 24
rank (ItemsOf found) = 0
rank (ObjectTail n x) = 0
rank ObjectOf = 1
rank (ObjectsOf found) = 0
rank (ParameterTail t) = 1
rank ParameterOf = 2
rank (ParametersOf found) = 0
rank ParameterList = 3
rank (DeclaredOf l t) = 1
rank LocalOf = 2
rank (LocalItemsOf found) = 0
rank (LocalListsOf found) = 3
rank ExternalOf = 2
rank (UnitOf found) = 3

abbrev pub fuel : Rule → List Symbol → ℕ
fuel m ts = 32 * length ts + rank m + 1

-- what the parser does at tokens
unfoldable pub runs : Calls
runs m ts = exec (fuel m ts) m ts
