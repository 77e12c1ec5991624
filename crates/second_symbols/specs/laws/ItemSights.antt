-- What the text of the second form says of its names.
use Rattle.std.proofs.Common.{◌≡◌, ℕ, zero, suc, Bool, true, false, ◌&&◌, ◌||◌, List, [], ◌∷◌, ◌++◌, slice_get, Option, Some, None, refl, sym, ap, ◌∙◌}
use Rattle.std.specs.Prelude.{codes, option_map}
use Rattle.std.specs.List.{list_any, flat_map}
use Rattle.std.specs.Option.{option_and_then}
use Rattle.std.specs.Str.{bytes_eq}
use Rattle.std.proofs.Math.Bool.{or-true, or-false, and-false}
use Rattle.std.proofs.lemmas.Bool.{or_right}
use Rattle.std.proofs.lemmas.Slice.Eq.{bytes_eq-Decides}
use Rattle.std.proofs.lemmas.List.Folds.{list_any-append}
use Rattle.text_grammar.specs.declared.tree.Expr.{Expr}
use Rattle.text_grammar.specs.declared.tree.Expr.TheVariants as expr
use Rattle.text_grammar.specs.declared.tree.Expr.TheOpen.{Expr-F}
use Rattle.text_grammar.specs.declared.tree.Expr.TheFolds.{fold-roll-Expr}
use Rattle.text_grammar.specs.declared.tree.Simple.TheVariants as simple
use Rattle.text_grammar.specs.declared.tree.Stmt.{Stmt}
use Rattle.text_grammar.specs.declared.tree.Stmt.TheVariants as stmt
use Rattle.text_grammar.specs.declared.tree.Stmt.TheOpen.{Stmt-F}
use Rattle.text_grammar.specs.declared.tree.Stmt.TheFolds.{fold-roll-Stmt}
use Rattle.text_grammar.specs.declared.tree.Locals.{Locals}
use Rattle.text_grammar.specs.declared.tree.Head.{Head}
use Rattle.text_grammar.specs.declared.tree.External.{External}
use Rattle.text_grammar.specs.declared.tree.External.TheVariants as top
use Rattle.typing_symbols.specs.declared.known.Role.TheVariants as role
use Rattle.typing_symbols.specs.declared.sight.How.TheVariants as how
use Rattle.typing_symbols.specs.Sights.{Seen, seen, expr_step, expr_sights, stmt_step, arm_step, stmt_sights, hidden_by, body_sights, is_static, external_sights, sights_of}
use Rattle.typing_symbols.specs.Symbols.{plays}
use Rattle.second_form.specs.declared.second_items.SmallStmt.{SmallStmt}
use Rattle.second_form.specs.declared.second_items.SmallStmt.TheVariants.{Put, Call, Return}
use Rattle.second_form.specs.declared.second_items.Item.{Item}
use Rattle.second_form.specs.SecondForm.{all_of, statement_of, StaticAlike}
use Rattle.second_symbols.specs.Shapes.{IsNumber, IsCall, HasShape, shape_of}
use Rattle.second_symbols.specs.Sources.{IsHead, IsBodyOf, Declares, AllDeclare}
use Rattle.second_symbols.specs.laws.Sighted.{sighted}

-- Bodies

number_sights : (x : Expr) (n : ℕ) → IsNumber x n → expr_sights [] x ≡ []
number_sights x n h =
    ap (expr_sights []) (h.is ∙ sym (expr.rolls-Number h.at n false))
    ∙ ap (λ (f : Bool → List Seen). f false) (fold-roll-Expr (Bool → List Seen) (expr_step []) (Expr-F.Number h.at n false))

call_sights : (s : Stmt) (name : List ℕ) (es : List Expr) → IsCall s name es → stmt_sights [] s ≡ seen how.Used name ∷ flat_map (expr_sights []) es
call_sights s name es h =
    ap (stmt_sights []) (h.is ∙ sym (stmt.rolls-Simple (simple.Call h.c)))
    ∙ fold-roll-Stmt (List Seen) (List Seen) (stmt_step []) (arm_step []) (Stmt-F.Simple (simple.Call h.c))
    ∙ ap (λ n. seen how.Used n ∷ flat_map (expr_sights []) h.c.arguments) h.named
    ∙ ap (λ es. seen how.Used name ∷ flat_map (expr_sights []) es) h.arguments

-- what a statement names
abbrev pub names_in : SmallStmt → List Seen
names_in (Put n) = seen how.Used (codes "putbyte") ∷ []
names_in (Call name) = seen how.Used name ∷ []
names_in (Return n) = []

statement_sights : (s : Stmt) (x : SmallStmt) → HasShape s x → stmt_sights [] s ≡ names_in x
statement_sights s (Put n) h =
    call_sights s (codes "putbyte") (h.0 ∷ []) h.2
    ∙ ap (λ ss. seen how.Used (codes "putbyte") ∷ ss ++ []) (number_sights h.0 n h.1)
statement_sights s (Call name) h = call_sights s name [] h
statement_sights s (Return n) h =
    ap (stmt_sights []) (h.3 ∙ sym (stmt.rolls-Return h.0 (Some h.1)))
    ∙ fold-roll-Stmt (List Seen) (List Seen) (stmt_step []) (arm_step []) (Stmt-F.Return h.0 (Some h.1))
    ∙ number_sights h.1 n h.2

one_name : (s : Stmt) (body : List Stmt) (ss : List SmallStmt) → ((more : List SmallStmt) → all_of statement_of body ≡ Some more → flat_map (stmt_sights []) body ≡ flat_map names_in more)
    → (o : Option SmallStmt) → statement_of s ≡ o → (r : Option (List SmallStmt)) → all_of statement_of body ≡ r → option_and_then (λ y. option_map (λ ys. y ∷ ys) r) o ≡ Some ss
    → flat_map (stmt_sights []) (s ∷ body) ≡ flat_map names_in ss
one_name s body ss later None is r others are = cc
one_name s body ss later (Some x) is None others are = cc
one_name s body ss later (Some x) is (Some xs) others are =
    let same : x ∷ xs ≡ ss = cc in
    ap (λ n. n ++ flat_map (stmt_sights []) body) (statement_sights s x (shape_of s x is))
    ∙ ap (λ n. names_in x ++ n) (later xs others)
    ∙ ap (flat_map names_in) same

pub body_names : (body : List Stmt) (ss : List SmallStmt) → all_of statement_of body ≡ Some ss → flat_map (stmt_sights []) body ≡ flat_map names_in ss
body_names [] ss are = let none : [] ≡ ss = cc in ap (flat_map names_in) none
body_names (s ∷ body) ss are = one_name s body ss (body_names body) (statement_of s) refl (all_of statement_of body) refl are

-- a function's name, and those in its body
pub function_sights : (head : Head) (locals : List Locals) (body : List Stmt) (item : Item) → IsHead head item → locals ≡ [] → (h : IsBodyOf body item)
    → external_sights (top.Function head locals body) ≡ seen (how.Defined item.local) item.name ∷ flat_map names_in h.statements
function_sights head locals body item is none h =
    ap (λ b. seen (how.Defined b) head.name.bytes ∷ body_sights (hidden_by [] head.parameters) locals body) is.static
    ∙ ap (λ n. seen (how.Defined item.local) n ∷ body_sights (hidden_by [] head.parameters) locals body) is.named
    ∙ ap (λ ps. seen (how.Defined item.local) item.name ∷ body_sights (hidden_by [] ps) locals body) is.parameters
    ∙ ap (λ ls. seen (how.Defined item.local) item.name ∷ body_sights [] ls body) none
    ∙ ap (λ ss. seen (how.Defined item.local) item.name ∷ ss) (body_names body h.statements h.are)

-- Static names

no_static : (n : List ℕ) (ss : List SmallStmt) → sighted role.Static n (flat_map names_in ss) ≡ false
no_static n [] = refl
no_static n (Put k ∷ ss) = ap (λ b. b || sighted role.Static n (flat_map names_in ss)) (and-false (bytes_eq n (codes "putbyte"))) ∙ no_static n ss
no_static n (Call name ∷ ss) = ap (λ b. b || sighted role.Static n (flat_map names_in ss)) (and-false (bytes_eq n name)) ∙ no_static n ss
no_static n (Return k ∷ ss) = no_static n ss

abbrev pub is_static_name : List ℕ → Item → Bool
is_static_name n item = bytes_eq n item.name && item.local

external_static : (n : List ℕ) (x : External) (item : Item) → Declares x item → sighted role.Static n (external_sights x) ≡ is_static_name n item
external_static n (top.Struct tag members) item h = absurd h
external_static n (top.Objects l b items) item h = absurd h
external_static n (top.Prototype head) item h =
    or-false (bytes_eq n head.name.bytes && is_static head.linkage)
    ∙ ap (λ m. bytes_eq n m && is_static head.linkage) h.0.named
    ∙ ap (λ b. bytes_eq n item.name && b) h.0.static
external_static n (top.Function head locals body) item h =
    ap (sighted role.Static n) (function_sights head locals body item h.0 h.1 h.2)
    ∙ ap (λ b. (bytes_eq n item.name && item.local) || b) (no_static n h.2.statements)
    ∙ or-false (bytes_eq n item.name && item.local)

static_names : (n : List ℕ) (tree : List External) (items : List Item) → AllDeclare tree items → sighted role.Static n (sights_of tree) ≡ list_any (is_static_name n) items
static_names n [] items h = sym (ap (list_any (is_static_name n)) h)
static_names n (x ∷ xs) [] h = absurd h
static_names n (x ∷ xs) (item ∷ items) h =
    list_any-append (λ (s : Seen). bytes_eq n s.name && plays role.Static s.how) (external_sights x) (sights_of xs)
    ∙ ap (λ b. b || sighted role.Static n (sights_of xs)) (external_static n x item h.0)
    ∙ ap (λ b. is_static_name n item || b) (static_names n xs items h.1)

some_static : (items : List Item) (i : ℕ) (item : Item) → slice_get items i ≡ Some item → item.local ≡ true → list_any (is_static_name item.name) items ≡ true
some_static [] i item at local = let none : slice_get [] i ≡ None = refl in let x = sym none ∙ at in cc
some_static (x ∷ items) zero item at local =
    let same : x ≡ item = cc in
    ap (λ (x : Item). is_static_name item.name x || list_any (is_static_name item.name) items) same
    ∙ ap (λ b. (b && item.local) || list_any (is_static_name item.name) items) ((bytes_eq-Decides item.name item.name).1 refl)
    ∙ ap (λ b. b || list_any (is_static_name item.name) items) local
some_static (x ∷ items) (suc i) item at local = ap (λ b. is_static_name item.name x || b) (some_static items i item at local) ∙ or-true (is_static_name item.name x)

none_static : (n : List ℕ) (items : List Item) → ((i : ℕ) (item : Item) → slice_get items i ≡ Some item → item.name ≡ n → item.local ≡ false) → list_any (is_static_name n) items ≡ false
none_static n [] not = refl
none_static n (x ∷ items) not =
    ap (λ b. b || list_any (is_static_name n) items) (by (bytes_eq n x.name) refl)
    ∙ none_static n items (λ i item at. not (suc i) item at)
  where
    by : (b : Bool) → bytes_eq n x.name ≡ b → (b && x.local) ≡ false
    by true same = not 0 x refl (sym ((bytes_eq-Decides n x.name).0 same))
    by false same = refl

-- an item is static exactly where its name stands somewhere as static
pub static_as_told : (tree : List External) (items : List Item) → AllDeclare tree items → StaticAlike items → (i : ℕ) (item : Item) → slice_get items i ≡ Some item
    → sighted role.Static item.name (sights_of tree) ≡ item.local
static_as_told tree items all alike i item at = static_names item.name tree items all ∙ by item.local refl
  where
    by : (b : Bool) → item.local ≡ b → list_any (is_static_name item.name) items ≡ b
    by true local = some_static items i item at local
    by false local = none_static item.name items (λ j other there same. alike j i other item there at same ∙ local)

-- Names that are used

-- each name of a body stands in the text as used
abbrev pub AllUsed : List External → List SmallStmt → Type 0
AllUsed tree [] = Unit {0}
AllUsed tree (Put n ∷ ss) = (sighted role.Use (codes "putbyte") (sights_of tree) ≡ true) × AllUsed tree ss
AllUsed tree (Call name ∷ ss) = (sighted role.Use name (sights_of tree) ≡ true) × AllUsed tree ss
AllUsed tree (Return n ∷ ss) = AllUsed tree ss

one_used : (name : List ℕ) (sights : List Seen) → sighted role.Use name (seen how.Used name ∷ sights) ≡ true
one_used name sights = ap (λ b. (b && true) || sighted role.Use name sights) ((bytes_eq-Decides name name).1 refl)

pub all_used : (tree : List External) (ss : List SmallStmt) → ((n : List ℕ) → sighted role.Use n (flat_map names_in ss) ≡ true → sighted role.Use n (sights_of tree) ≡ true) → AllUsed tree ss
all_used tree [] within = tt
all_used tree (Put k ∷ ss) within =
    (within (codes "putbyte") (one_used (codes "putbyte") (flat_map names_in ss)), all_used tree ss (λ n h. within n (or_right (bytes_eq n (codes "putbyte") && true) (sighted role.Use n (flat_map names_in ss)) h)))
all_used tree (Call name ∷ ss) within =
    (within name (one_used name (flat_map names_in ss)), all_used tree ss (λ n h. within n (or_right (bytes_eq n name && true) (sighted role.Use n (flat_map names_in ss)) h)))
all_used tree (Return k ∷ ss) within = all_used tree ss within
