-- The typed units of texts of the second form, and what their trees declare, item by item.
use Rattle.std.proofs.Common.{◌≡◌, ℕ, suc, Bool, true, false, not, ◌&&◌, cond, List, [], ◌∷◌, slice_get, Option, Some, None, refl, sym, ap, ◌∙◌, subst}
use Rattle.std.specs.Prelude.{option_map, ◌==◌}
use Rattle.std.specs.Option.{option_and_then}
use Rattle.std.proofs.lemmas.Bool.{eqb-true}
use Rattle.text_grammar.specs.declared.tree.Linkage.{Linkage}
use Rattle.text_grammar.specs.declared.tree.Linkage.TheVariants as linkage
use Rattle.text_grammar.specs.declared.tree.BaseKind.{BaseKind}
use Rattle.text_grammar.specs.declared.tree.BaseKind.TheVariants as base
use Rattle.text_grammar.specs.declared.tree.Parameter.{Parameter}
use Rattle.text_grammar.specs.declared.tree.Stmt.{Stmt}
use Rattle.text_grammar.specs.declared.tree.Head.{Head}
use Rattle.text_grammar.specs.declared.tree.External.{External}
use Rattle.text_grammar.specs.declared.tree.External.TheVariants as top
use Rattle.typing_symbols.specs.Sights.{is_static}
use Rattle.clight_unit.specs.declared.unit.ClightUnit.{ClightUnit as TypedUnit}
use Rattle.typing_units.specs.Typing.{Typed}
use Rattle.second_form.specs.declared.second_items.SmallStmt.{SmallStmt}
use Rattle.second_form.specs.declared.second_items.Item.{Item}
use Rattle.second_form.specs.SecondForm.{all_of, statement_of, is_int, is_none, is_plain, is_local, item_with, item_of, items_of, IsSecondForm}

-- a tree of the second form has these items and is this typed unit
pub record IsSource (items : List Item) (u : TypedUnit) : Type 0 where
  pub tree : List External
  pub form : IsSecondForm tree items
  pub typed : Typed tree u

-- so it is of each
abbrev pub AreSources : List (List Item) → List TypedUnit → Type 0
AreSources [] us = us ≡ []
AreSources (items ∷ units) [] = ⊥
AreSources (items ∷ units) (u ∷ us) = IsSource items u × AreSources units us

-- The tree, item by item

-- int ID ( void )
pub record IsHead (head : Head) (item : Item) : Type 0 where
  pub kind : head.base.kind ≡ base.Int
  pub stars : head.stars ≡ 0
  pub parameters : head.parameters ≡ []
  pub static : is_static head.linkage ≡ item.local
  pub named : head.name.bytes ≡ item.name

-- a body, statement by statement
pub record IsBodyOf (list : List Stmt) (item : Item) : Type 0 where
  pub statements : List SmallStmt
  pub are : all_of statement_of list ≡ Some statements
  pub body : item.body ≡ Some statements

abbrev pub Declares : External → Item → Type 0
Declares (top.Struct tag members) item = ⊥
Declares (top.Objects l b items) item = ⊥
Declares (top.Prototype head) item = IsHead head item × (item.body ≡ None)
Declares (top.Function head locals body) item = IsHead head item × (locals ≡ []) × IsBodyOf body item

abbrev pub AllDeclare : List External → List Item → Type 0
AllDeclare [] items = items ≡ []
AllDeclare (x ∷ xs) [] = ⊥
AllDeclare (x ∷ xs) (item ∷ items) = Declares x item × AllDeclare xs items

both_true : (a b : Bool) → (a && b) ≡ true → (a ≡ true) × (b ≡ true)
both_true true b e = (refl, e)
both_true false b e = cc

is_zero : (n : ℕ) → (n == 0) ≡ true → n ≡ 0
is_zero n e = eqb-true n 0 e

int_kind : (k : BaseKind) → is_int k ≡ true → k ≡ base.Int
int_kind base.Int e = refl
int_kind base.Char e = cc
int_kind base.UnsignedInt e = cc
int_kind base.UnsignedChar e = cc
int_kind base.Void e = cc
int_kind (base.Struct tag) e = cc

no_parameters : (ps : List Parameter) → is_none ps ≡ true → ps ≡ []
no_parameters [] e = refl
no_parameters (p ∷ ps) e = cc

local_is : (l : Linkage) (local : Bool) → is_local l ≡ Some local → is_static l ≡ local
local_is linkage.Plain local e = cc
local_is linkage.Static local e = cc
local_is linkage.Extern local e = cc

-- what an item with a head is
head_is : (head : Head) (body : Option (List SmallStmt)) (item : Item) → item_with head body ≡ Some item → IsHead head item × (item.body ≡ body)
head_is head body item e = by_plain (is_plain head) refl e
  where
    by_local : is_plain head ≡ true → (l : Option Bool) → is_local head.linkage ≡ l → option_map (λ (local : Bool). record { local = local; name = head.name.bytes; body = body }) l ≡ Some item → IsHead head item × (item.body ≡ body)
    by_local plain None l e = cc
    by_local plain (Some local) l e =
        let is : record { local = local; name = head.name.bytes; body = body } ≡ item = cc in
        let p = both_true (is_int head.base.kind) _ plain in
        let q = both_true (not head.base.is_const) _ p.1 in
        let r = both_true (head.stars == 0) (is_none head.parameters) q.1 in (
          record {
            kind = int_kind head.base.kind p.0;
            stars = is_zero head.stars r.0;
            parameters = no_parameters head.parameters r.1;
            static = local_is head.linkage local l ∙ ap (λ (i : Item). i.local) is;
            named = ap (λ (i : Item). i.name) is;
          },
          sym (ap (λ (i : Item). i.body) is),
        )

    by_plain : (b : Bool) → is_plain head ≡ b → cond b (option_map (λ (local : Bool). record { local = local; name = head.name.bytes; body = body }) (is_local head.linkage)) None ≡ Some item → IsHead head item × (item.body ≡ body)
    by_plain true plain e = by_local plain (is_local head.linkage) refl e
    by_plain false plain e = cc

declares : (x : External) (item : Item) → item_of x ≡ Some item → Declares x item
declares (top.Struct tag members) item e = cc
declares (top.Objects l b items) item e = cc
declares (top.Prototype head) item e = head_is head None item e
declares (top.Function head (l ∷ ls) body) item e = cc
declares (top.Function head [] body) item e = by (all_of statement_of body) refl e
  where
    by : (ss : Option (List SmallStmt)) → all_of statement_of body ≡ ss → option_and_then (λ statements. item_with head (Some statements)) ss ≡ Some item → Declares (top.Function head [] body) item
    by None are e = cc
    by (Some statements) are e = let h = head_is head (Some statements) item e in (h.0, refl, record { statements = statements; are = are; body = h.1 })

-- one more item, where the items behind it are so
declares_more : (x : External) (xs : List External) (items : List Item) → ((more : List Item) → items_of xs ≡ Some more → AllDeclare xs more)
    → (o : Option Item) → item_of x ≡ o → (r : Option (List Item)) → items_of xs ≡ r → option_and_then (λ y. option_map (λ ys. y ∷ ys) r) o ≡ Some items → AllDeclare (x ∷ xs) items
declares_more x xs items later None first r rest e = cc
declares_more x xs items later (Some item) first None rest e = cc
declares_more x xs items later (Some item) first (Some more) rest e =
    let is : item ∷ more ≡ items = cc in
    subst (AllDeclare (x ∷ xs)) is (declares x item first, later more rest)

pub all_declare : (tree : List External) (items : List Item) → items_of tree ≡ Some items → AllDeclare tree items
all_declare [] items e = cc
all_declare (x ∷ xs) items e = declares_more x xs items (all_declare xs) (item_of x) refl (items_of xs) refl e

-- Something of each item

abbrev pub Each : (Item → Type 0) → List Item → Type 0
Each P [] = Unit {0}
Each P (item ∷ items) = P item × Each P items

pub each_from : (P : Item → Type 0) (items : List Item) → ((i : ℕ) (item : Item) → slice_get items i ≡ Some item → P item) → Each P items
each_from P [] f = tt
each_from P (item ∷ items) f = (f 0 item refl, each_from P items (λ i x e. f (suc i) x e))
