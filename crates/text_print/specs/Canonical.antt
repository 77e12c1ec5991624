-- The canonical text of a tree: its canonical tokens with single spaces between them, and a newline.
use Rattle.std.specs.Prelude.{ℕ, zero, suc, List, [], ◌∷◌, ◌++◌, Bool, true, false, Option, Some, None, if◌then◌else◌}
use Rattle.std.specs.List.{flat_map}
use Rattle.text_grammar.specs.declared.kind.Kind.{Kind}
use Rattle.text_grammar.specs.declared.kind.Kind.TheVariants as k
use Rattle.text_grammar.specs.declared.tree.NameAt.{NameAt}
use Rattle.text_grammar.specs.declared.tree.BaseKind.{BaseKind}
use Rattle.text_grammar.specs.declared.tree.BaseKind.TheVariants as base
use Rattle.text_grammar.specs.declared.tree.Base.{Base}
use Rattle.text_grammar.specs.declared.tree.TypeName.{TypeName}
use Rattle.text_grammar.specs.declared.tree.Number.{Number}
use Rattle.text_grammar.specs.declared.tree.Expr.{Expr}
use Rattle.text_grammar.specs.declared.tree.Expr.TheOpen.{Expr-F}
use Rattle.text_grammar.specs.declared.tree.Expr.TheFolds.{fold-Expr}
use Rattle.text_grammar.specs.declared.tree.Call.{Call}
use Rattle.text_grammar.specs.declared.tree.AssignedValue.{AssignedValue}
use Rattle.text_grammar.specs.declared.tree.AssignedValue.TheVariants as value
use Rattle.text_grammar.specs.declared.tree.Simple.{Simple}
use Rattle.text_grammar.specs.declared.tree.Simple.TheVariants as act
use Rattle.text_grammar.specs.declared.tree.Stmt.{Stmt}
use Rattle.text_grammar.specs.declared.tree.Stmt.TheOpen.{Stmt-F, Arm-F}
use Rattle.text_grammar.specs.declared.tree.Stmt.TheFolds.{fold-Stmt, fold-Arm}
use Rattle.text_grammar.specs.declared.tree.Arm.{Arm}
use Rattle.text_grammar.specs.declared.tree.Initialiser.{Initialiser}
use Rattle.text_grammar.specs.declared.tree.Initialiser.TheOpen.{Initialiser-F}
use Rattle.text_grammar.specs.declared.tree.Initialiser.TheFolds.{fold-Initialiser}
use Rattle.text_grammar.specs.declared.tree.Declarator.{Declarator}
use Rattle.text_grammar.specs.declared.tree.Initialised.{Initialised}
use Rattle.text_grammar.specs.declared.tree.ObjectItem.{ObjectItem}
use Rattle.text_grammar.specs.declared.tree.Members.{Members}
use Rattle.text_grammar.specs.declared.tree.Parameter.{Parameter}
use Rattle.text_grammar.specs.declared.tree.LocalValue.{LocalValue}
use Rattle.text_grammar.specs.declared.tree.LocalItem.{LocalItem}
use Rattle.text_grammar.specs.declared.tree.Locals.{Locals}
use Rattle.text_grammar.specs.declared.tree.Linkage.{Linkage}
use Rattle.text_grammar.specs.declared.tree.Linkage.TheVariants as linkage
use Rattle.text_grammar.specs.declared.tree.Head.{Head}
use Rattle.text_grammar.specs.declared.tree.External.{External}
use Rattle.text_grammar.specs.declared.tree.External.TheVariants as top
use Rattle.text_grammar.specs.Grammar.{Symbol}
use Rattle.text_print.specs.Spelling.{prefix_kind, operator_kind, fixed, name, number, character, string}

-- what f gives for each, with the sign or keyword between each two
abbrev pub separated : {A : Type 0} → Kind → (A → List Symbol) → List A → List Symbol
separated kind f [] = []
separated kind f (x ∷ xs) = f x ++ flat_map (λ y. fixed kind ∷ f y) xs

abbrev pub parenthesised : List Symbol → List Symbol
parenthesised ts = fixed k.LParen ∷ (ts ++ fixed k.RParen ∷ [])

abbrev pub bracketed : List Symbol → List Symbol
bracketed ts = fixed k.LBracket ∷ (ts ++ fixed k.RBracket ∷ [])

abbrev pub braced : List Symbol → List Symbol
braced ts = fixed k.LBrace ∷ (ts ++ fixed k.RBrace ∷ [])

-- Types.

abbrev pub base_kind_tokens : BaseKind → List Symbol
base_kind_tokens base.Int = fixed k.KwInt ∷ []
base_kind_tokens base.Char = fixed k.KwChar ∷ []
base_kind_tokens base.UnsignedInt = fixed k.KwUnsigned ∷ fixed k.KwInt ∷ []
base_kind_tokens base.UnsignedChar = fixed k.KwUnsigned ∷ fixed k.KwChar ∷ []
base_kind_tokens base.Void = fixed k.KwVoid ∷ []
base_kind_tokens (base.Struct tag) = fixed k.KwStruct ∷ name tag ∷ []

-- the keyword, where it is so
abbrev pub keyword_if : Bool → Kind → List Symbol
keyword_if b kind = if b then (fixed kind ∷ []) else []

abbrev pub base_tokens : Base → List Symbol
base_tokens t = keyword_if t.is_const k.KwConst ++ base_kind_tokens t.kind

abbrev pub star_tokens : ℕ → List Symbol
star_tokens zero = []
star_tokens (suc n) = fixed k.Star ∷ star_tokens n

abbrev pub type_tokens : TypeName → List Symbol
type_tokens t = base_tokens t.base ++ star_tokens t.stars

-- Expressions.

-- what an expression is to the operators round it: it stands alone, it begins with an operator, a cast or `sizeof`, or it
-- has an operator between its operands
pub data Form : Type 0 where
  Tight : Form
  Prefixed : Form
  Infixed : Form

pub record Printed : Type 0 where
  pub tokens : List Symbol
  pub form : Form

abbrev pub is_tight : Form → Bool
is_tight Tight = true
is_tight Prefixed = false
is_tight Infixed = false

abbrev pub is_infixed : Form → Bool
is_infixed Tight = false
is_infixed Prefixed = false
is_infixed Infixed = true

-- an operand of an operator, a cast or `sizeof`, and what stands before `[`, `.` or `->`
abbrev pub operand : Printed → List Symbol
operand t = if is_tight t.form then t.tokens else parenthesised t.tokens

-- what stands before `=`
abbrev pub target : Printed → List Symbol
target t = if is_infixed t.form then parenthesised t.tokens else t.tokens

abbrev pub expr_step : Expr-F Printed → Printed
expr_step (Expr-F.Name at bytes) = record { tokens = name bytes ∷ []; form = Tight }
expr_step (Expr-F.Number at value is_unsigned) = record { tokens = number value is_unsigned ∷ []; form = Tight }
expr_step (Expr-F.Character at byte) = record { tokens = character byte ∷ []; form = Tight }
expr_step (Expr-F.Unary at op t) = record { tokens = fixed (prefix_kind op) ∷ operand t; form = Prefixed }
expr_step (Expr-F.Binary at op t v) = record { tokens = operand t ++ fixed (operator_kind op) ∷ operand v; form = Infixed }
expr_step (Expr-F.Cast at to t) = record { tokens = fixed k.LParen ∷ (type_tokens to ++ fixed k.RParen ∷ operand t); form = Prefixed }
expr_step (Expr-F.SizeofType at to) = record { tokens = fixed k.KwSizeof ∷ parenthesised (type_tokens to); form = Prefixed }
expr_step (Expr-F.Sizeof at t) = record { tokens = fixed k.KwSizeof ∷ operand t; form = Prefixed }
expr_step (Expr-F.Index at t i) = record { tokens = operand t ++ bracketed i.tokens; form = Tight }
expr_step (Expr-F.Member at t bytes) = record { tokens = operand t ++ fixed k.Dot ∷ name bytes ∷ []; form = Tight }
expr_step (Expr-F.Arrow at t bytes) = record { tokens = operand t ++ fixed k.Arrow ∷ name bytes ∷ []; form = Tight }

abbrev pub printed : Expr → Printed
printed = fold-Expr Printed expr_step

abbrev pub expr_tokens : Expr → List Symbol
expr_tokens t = (printed t).tokens

-- Statements.

abbrev pub call_tokens : Call → List Symbol
call_tokens c = name c.name.bytes ∷ parenthesised (separated k.Comma expr_tokens c.arguments)

abbrev pub value_tokens : AssignedValue → List Symbol
value_tokens (value.Expr t) = expr_tokens t
value_tokens (value.Call c) = call_tokens c

abbrev pub simple_tokens : Simple → List Symbol
simple_tokens (act.Call c) = call_tokens c
simple_tokens (act.Assign at t v) = target (printed t) ++ fixed k.Assign ∷ value_tokens v

abbrev pub maybe_expr_tokens : Option Expr → List Symbol
maybe_expr_tokens None = []
maybe_expr_tokens (Some t) = expr_tokens t

abbrev pub maybe_simple_tokens : Option Simple → List Symbol
maybe_simple_tokens None = []
maybe_simple_tokens (Some t) = simple_tokens t

-- `for` with its three parts in parentheses
abbrev pub for_tokens : Option Simple → Option Expr → Option Simple → List Symbol
for_tokens first t step =
    fixed k.KwFor ∷ parenthesised (maybe_simple_tokens first ++ fixed k.Semi ∷ (maybe_expr_tokens t ++ fixed k.Semi ∷ maybe_simple_tokens step))

-- the tokens of statements in a row
abbrev pub in_a_row : List (List Symbol) → List Symbol
in_a_row tss = flat_map (λ ts. ts) tss

-- `else` and its block
abbrev pub last_tokens : Option (List (List Symbol)) → List Symbol
last_tokens None = []
last_tokens (Some tss) = fixed k.KwElse ∷ braced (in_a_row tss)

abbrev pub stmt_step : Stmt-F (List Symbol) (List Symbol) → List Symbol
stmt_step (Stmt-F.Empty at) = fixed k.Semi ∷ []
stmt_step (Stmt-F.Block at tss) = braced (in_a_row tss)
stmt_step (Stmt-F.Simple t) = simple_tokens t ++ fixed k.Semi ∷ []
stmt_step (Stmt-F.Return at t) = fixed k.KwReturn ∷ (maybe_expr_tokens t ++ fixed k.Semi ∷ [])
stmt_step (Stmt-F.Break at) = fixed k.KwBreak ∷ fixed k.Semi ∷ []
stmt_step (Stmt-F.Continue at) = fixed k.KwContinue ∷ fixed k.Semi ∷ []
stmt_step (Stmt-F.If arms last) = separated k.KwElse (λ ts. ts) arms ++ last_tokens last
stmt_step (Stmt-F.While at t tss) = fixed k.KwWhile ∷ (parenthesised (expr_tokens t) ++ braced (in_a_row tss))
stmt_step (Stmt-F.Do at tss t) = fixed k.KwDo ∷ (braced (in_a_row tss) ++ fixed k.KwWhile ∷ (parenthesised (expr_tokens t) ++ fixed k.Semi ∷ []))
stmt_step (Stmt-F.For at first t step tss) = for_tokens first t step ++ braced (in_a_row tss)

abbrev pub arm_step : Arm-F (List Symbol) (List Symbol) → List Symbol
arm_step y = fixed k.KwIf ∷ (parenthesised (expr_tokens y.test) ++ braced (in_a_row y.body))

abbrev pub stmt_tokens : Stmt → List Symbol
stmt_tokens = fold-Stmt (List Symbol) (List Symbol) stmt_step arm_step

abbrev pub arm_tokens : Arm → List Symbol
arm_tokens = fold-Arm (List Symbol) (List Symbol) stmt_step arm_step

-- Declarations.

abbrev pub initialiser_step : Initialiser-F (List Symbol) → List Symbol
initialiser_step (Initialiser-F.Expr t) = expr_tokens t
initialiser_step (Initialiser-F.String at bytes) = string bytes ∷ []
initialiser_step (Initialiser-F.List at tss) = braced (separated k.Comma (λ ts. ts) tss)

abbrev pub initialiser_tokens : Initialiser → List Symbol
initialiser_tokens = fold-Initialiser (List Symbol) initialiser_step

abbrev pub length_tokens : Number → List Symbol
length_tokens n = bracketed (number n.value n.is_unsigned ∷ [])

-- `[ ]`, where the first length is open
abbrev pub open_tokens : Bool → List Symbol
open_tokens is_open = if is_open then bracketed [] else []

abbrev pub declarator_tokens : Declarator → List Symbol
declarator_tokens d = star_tokens d.stars ++ name d.name.bytes ∷ (open_tokens d.is_open ++ flat_map length_tokens d.lengths)

abbrev pub initialised_tokens : Option Initialised → List Symbol
initialised_tokens None = []
initialised_tokens (Some v) = fixed k.Assign ∷ initialiser_tokens v.value

abbrev pub object_tokens : ObjectItem → List Symbol
object_tokens d = declarator_tokens d.declarator ++ initialised_tokens d.initialised

abbrev pub member_tokens : Members → List Symbol
member_tokens m = base_tokens m.base ++ (separated k.Comma declarator_tokens m.fields ++ fixed k.Semi ∷ [])

abbrev pub maybe_name_tokens : Option NameAt → List Symbol
maybe_name_tokens None = []
maybe_name_tokens (Some n) = name n.bytes ∷ []

abbrev pub parameter_tokens : Parameter → List Symbol
parameter_tokens p = base_tokens p.base ++ (star_tokens p.stars ++ maybe_name_tokens p.name)

-- none is `void`
abbrev pub parameters_tokens : List Parameter → List Symbol
parameters_tokens [] = fixed k.KwVoid ∷ []
parameters_tokens (p ∷ ps) = separated k.Comma parameter_tokens (p ∷ ps)

abbrev pub linkage_tokens : Linkage → List Symbol
linkage_tokens linkage.Plain = []
linkage_tokens linkage.Static = fixed k.KwStatic ∷ []
linkage_tokens linkage.Extern = fixed k.KwExtern ∷ []

abbrev pub head_tokens : Head → List Symbol
head_tokens h = linkage_tokens h.linkage ++ (base_tokens h.base ++ (star_tokens h.stars ++ name h.name.bytes ∷ parenthesised (parameters_tokens h.parameters)))

abbrev pub local_value_tokens : Option LocalValue → List Symbol
local_value_tokens None = []
local_value_tokens (Some v) = fixed k.Assign ∷ expr_tokens v.value

abbrev pub local_tokens : LocalItem → List Symbol
local_tokens d = declarator_tokens d.declarator ++ local_value_tokens d.value

abbrev pub locals_tokens : Locals → List Symbol
locals_tokens l = keyword_if l.is_register k.KwRegister ++ (base_tokens l.base ++ (separated k.Comma local_tokens l.items ++ fixed k.Semi ∷ []))

abbrev pub external_tokens : External → List Symbol
external_tokens (top.Struct tag members) = fixed k.KwStruct ∷ name tag.bytes ∷ (braced (flat_map member_tokens members) ++ fixed k.Semi ∷ [])
external_tokens (top.Objects l t items) = linkage_tokens l ++ (base_tokens t ++ (separated k.Comma object_tokens items ++ fixed k.Semi ∷ []))
external_tokens (top.Prototype head) = head_tokens head ++ fixed k.Semi ∷ []
external_tokens (top.Function head locals body) = head_tokens head ++ braced (flat_map locals_tokens locals ++ flat_map stmt_tokens body)

-- the canonical tokens of a tree
abbrev pub tokens_of : List External → List Symbol
tokens_of tree = flat_map external_tokens tree

-- Text.

-- the tokens with single spaces between them
abbrev pub spaced : List Symbol → List ℕ
spaced [] = []
spaced (x ∷ xs) = x.text ++ flat_map (λ y. 32 ∷ y.text) xs

-- the canonical text of a tree
abbrev pub canonical_text : List External → List ℕ
canonical_text tree = spaced (tokens_of tree) ++ 10 ∷ []
