-- The tags that the text of a unit names, in the order of the text (C11, 6.2.3 and 6.7.2.3).
use Rattle.std.specs.Prelude.{ℕ, List, [], ◌∷◌, ◌++◌, Option, Some, None}
use Rattle.std.specs.List.{flat_map}
use Rattle.text_grammar.specs.declared.tree.BaseKind.{BaseKind}
use Rattle.text_grammar.specs.declared.tree.BaseKind.TheVariants as kind
use Rattle.text_grammar.specs.declared.tree.Base.{Base}
use Rattle.text_grammar.specs.declared.tree.Expr.{Expr}
use Rattle.text_grammar.specs.declared.tree.Expr.TheOpen.{Expr-F}
use Rattle.text_grammar.specs.declared.tree.Expr.TheFolds.{fold-Expr}
use Rattle.text_grammar.specs.declared.tree.Call.{Call}
use Rattle.text_grammar.specs.declared.tree.AssignedValue.{AssignedValue}
use Rattle.text_grammar.specs.declared.tree.AssignedValue.TheVariants as value
use Rattle.text_grammar.specs.declared.tree.Simple.{Simple}
use Rattle.text_grammar.specs.declared.tree.Simple.TheVariants as act
use Rattle.text_grammar.specs.declared.tree.Stmt.{Stmt}
use Rattle.text_grammar.specs.declared.tree.Stmt.TheOpen.{Stmt-F, Arm-F}
use Rattle.text_grammar.specs.declared.tree.Stmt.TheFolds.{fold-Stmt, fold-Arm}
use Rattle.text_grammar.specs.declared.tree.Arm.{Arm}
use Rattle.text_grammar.specs.declared.tree.Initialiser.{Initialiser}
use Rattle.text_grammar.specs.declared.tree.Initialiser.TheOpen.{Initialiser-F}
use Rattle.text_grammar.specs.declared.tree.Initialiser.TheFolds.{fold-Initialiser}
use Rattle.text_grammar.specs.declared.tree.Initialised.{Initialised}
use Rattle.text_grammar.specs.declared.tree.ObjectItem.{ObjectItem}
use Rattle.text_grammar.specs.declared.tree.Members.{Members}
use Rattle.text_grammar.specs.declared.tree.Parameter.{Parameter}
use Rattle.text_grammar.specs.declared.tree.LocalValue.{LocalValue}
use Rattle.text_grammar.specs.declared.tree.LocalItem.{LocalItem}
use Rattle.text_grammar.specs.declared.tree.Locals.{Locals}
use Rattle.text_grammar.specs.declared.tree.Head.{Head}
use Rattle.text_grammar.specs.declared.tree.External.{External}
use Rattle.text_grammar.specs.declared.tree.External.TheVariants as top

abbrev pub kind_tags : BaseKind → List (List ℕ)
kind_tags (kind.Struct tag) = tag ∷ []
kind_tags kind.Int = []
kind_tags kind.Char = []
kind_tags kind.UnsignedInt = []
kind_tags kind.UnsignedChar = []
kind_tags kind.Void = []

abbrev pub base_tags : Base → List (List ℕ)
base_tags b = kind_tags b.kind

-- Expressions: the types of casts, and those under `sizeof`

abbrev pub expr_step : Expr-F (List (List ℕ)) → List (List ℕ)
expr_step (Expr-F.Name at name) = []
expr_step (Expr-F.Number at value is_unsigned) = []
expr_step (Expr-F.Character at byte) = []
expr_step (Expr-F.Unary at op x) = x
expr_step (Expr-F.Binary at op x y) = x ++ y
expr_step (Expr-F.Cast at to x) = base_tags to.base ++ x
expr_step (Expr-F.SizeofType at t) = base_tags t.base
expr_step (Expr-F.Sizeof at x) = x
expr_step (Expr-F.Index at x i) = x ++ i
expr_step (Expr-F.Member at x name) = x
expr_step (Expr-F.Arrow at x name) = x

abbrev pub expr_tags : Expr → List (List ℕ)
expr_tags = fold-Expr (List (List ℕ)) expr_step

-- Statements

abbrev pub call_tags : Call → List (List ℕ)
call_tags c = flat_map expr_tags c.arguments

abbrev pub value_tags : AssignedValue → List (List ℕ)
value_tags (value.Expr x) = expr_tags x
value_tags (value.Call c) = call_tags c

abbrev pub simple_tags : Simple → List (List ℕ)
simple_tags (act.Call c) = call_tags c
simple_tags (act.Assign at x v) = expr_tags x ++ value_tags v

abbrev pub maybe_expr_tags : Option Expr → List (List ℕ)
maybe_expr_tags None = []
maybe_expr_tags (Some x) = expr_tags x

abbrev pub maybe_simple_tags : Option Simple → List (List ℕ)
maybe_simple_tags None = []
maybe_simple_tags (Some x) = simple_tags x

abbrev pub in_a_row : List (List (List ℕ)) → List (List ℕ)
in_a_row tags = flat_map (λ ts. ts) tags

abbrev pub last_tags : Option (List (List (List ℕ))) → List (List ℕ)
last_tags None = []
last_tags (Some tags) = in_a_row tags

abbrev pub stmt_step : Stmt-F (List (List ℕ)) (List (List ℕ)) → List (List ℕ)
stmt_step (Stmt-F.Empty at) = []
stmt_step (Stmt-F.Block at tags) = in_a_row tags
stmt_step (Stmt-F.Simple x) = simple_tags x
stmt_step (Stmt-F.Return at x) = maybe_expr_tags x
stmt_step (Stmt-F.Break at) = []
stmt_step (Stmt-F.Continue at) = []
stmt_step (Stmt-F.If arms last) = in_a_row arms ++ last_tags last
stmt_step (Stmt-F.While at x tags) = expr_tags x ++ in_a_row tags
stmt_step (Stmt-F.Do at tags x) = in_a_row tags ++ expr_tags x
stmt_step (Stmt-F.For at first x step tags) = maybe_simple_tags first ++ (maybe_expr_tags x ++ (maybe_simple_tags step ++ in_a_row tags))

abbrev pub arm_step : Arm-F (List (List ℕ)) (List (List ℕ)) → List (List ℕ)
arm_step y = expr_tags y.test ++ in_a_row y.body

abbrev pub stmt_tags : Stmt → List (List ℕ)
stmt_tags = fold-Stmt (List (List ℕ)) (List (List ℕ)) stmt_step arm_step

abbrev pub arm_tags : Arm → List (List ℕ)
arm_tags = fold-Arm (List (List ℕ)) (List (List ℕ)) stmt_step arm_step

-- Declarations

abbrev pub initialiser_step : Initialiser-F (List (List ℕ)) → List (List ℕ)
initialiser_step (Initialiser-F.Expr x) = expr_tags x
initialiser_step (Initialiser-F.String at bytes) = []
initialiser_step (Initialiser-F.List at tags) = in_a_row tags

abbrev pub initialiser_tags : Initialiser → List (List ℕ)
initialiser_tags = fold-Initialiser (List (List ℕ)) initialiser_step

abbrev pub initialised_tags : Option Initialised → List (List ℕ)
initialised_tags None = []
initialised_tags (Some v) = initialiser_tags v.value

abbrev pub item_tags : ObjectItem → List (List ℕ)
item_tags item = initialised_tags item.initialised

abbrev pub members_tags : Members → List (List ℕ)
members_tags m = base_tags m.base

abbrev pub parameter_tags : Parameter → List (List ℕ)
parameter_tags p = base_tags p.base

abbrev pub head_tags : Head → List (List ℕ)
head_tags h = base_tags h.base ++ flat_map parameter_tags h.parameters

abbrev pub local_value_tags : Option LocalValue → List (List ℕ)
local_value_tags None = []
local_value_tags (Some v) = expr_tags v.value

abbrev pub local_tags : LocalItem → List (List ℕ)
local_tags item = local_value_tags item.value

abbrev pub locals_tags : Locals → List (List ℕ)
locals_tags l = base_tags l.base ++ flat_map local_tags l.items

abbrev pub external_tags : External → List (List ℕ)
external_tags (top.Struct tag members) = tag.bytes ∷ flat_map members_tags members
external_tags (top.Objects l base items) = base_tags base ++ flat_map item_tags items
external_tags (top.Prototype head) = head_tags head
external_tags (top.Function head locals body) = head_tags head ++ (flat_map locals_tags locals ++ flat_map stmt_tags body)

abbrev pub tags_of : List External → List (List ℕ)
tags_of tree = flat_map external_tags tree
