-- The second form of a unit: functions that emit bytes, call one another and return.
use Rattle.std.specs.Prelude.{◌≡◌, ◌≤◌, ◌⊎◌, ℕ, Bool, true, false, not, cond, ◌==◌, ◌&&◌, List, [], ◌∷◌, All, Contains, slice_get, codes, Option, Some, None, IsSome}
use Rattle.std.specs.Option.{option_map, option_and_then}
use Rattle.std.specs.Str.{bytes_eq}
use Rattle.text_grammar.specs.declared.tree.Linkage.{Linkage}
use Rattle.text_grammar.specs.declared.tree.Linkage.TheVariants as linkage
use Rattle.text_grammar.specs.declared.tree.BaseKind.{BaseKind}
use Rattle.text_grammar.specs.declared.tree.BaseKind.TheVariants as base
use Rattle.text_grammar.specs.declared.tree.Parameter.{Parameter}
use Rattle.text_grammar.specs.declared.tree.Head.{Head}
use Rattle.text_grammar.specs.declared.tree.Expr.{Expr}
use Rattle.text_grammar.specs.declared.tree.Expr.TheVariants as expr
use Rattle.text_grammar.specs.declared.tree.Call.{Call as CallTree}
use Rattle.text_grammar.specs.declared.tree.Simple.TheVariants as simple
use Rattle.text_grammar.specs.declared.tree.Stmt.{Stmt}
use Rattle.text_grammar.specs.declared.tree.Stmt.TheVariants as stmt
use Rattle.text_grammar.specs.declared.tree.External.{External}
use Rattle.text_grammar.specs.declared.tree.External.TheVariants as top
use Rattle.second_form.specs.declared.second_items.SmallStmt.{SmallStmt}
use Rattle.second_form.specs.declared.second_items.SmallStmt.TheVariants.{Put, Call, Return}
use Rattle.second_form.specs.declared.second_items.Item.{Item}

-- what each thing of a list is, if each is something
abbrev pub all_of : {A B : Type 0} → (A → Option B) → List A → Option (List B)
all_of f [] = Some []
all_of f (x ∷ xs) = option_and_then (λ y. option_map (λ ys. y ∷ ys) (all_of f xs)) (f x)

-- a number that is an `int`
abbrev pub number_of : Expr → Option ℕ
number_of (expr.Number at value is_unsigned) = cond is_unsigned None (Some value)
number_of _ = None

-- putbyte ( NUM ) ;
abbrev pub put_of : List Expr → Option SmallStmt
put_of (x ∷ []) = option_map (λ n. Put n) (number_of x)
put_of _ = None

-- ID ( ) ;
abbrev pub call_of : List ℕ → List Expr → Option SmallStmt
call_of name [] = Some (Call name)
call_of name (x ∷ xs) = None

abbrev pub called_of : CallTree → Option SmallStmt
called_of c = cond (bytes_eq c.name.bytes (codes "putbyte")) (put_of c.arguments) (call_of c.name.bytes c.arguments)

-- the same, or return NUM ;
abbrev pub statement_of : Stmt → Option SmallStmt
statement_of (stmt.Simple (simple.Call c)) = called_of c
statement_of (stmt.Return at (Some x)) = option_map (λ n. Return n) (number_of x)
statement_of _ = None

-- `int`, without `const`
abbrev pub is_int : BaseKind → Bool
is_int base.Int = true
is_int _ = false

abbrev pub is_none : List Parameter → Bool
is_none [] = true
is_none (p ∷ ps) = false

-- int ID ( void )
abbrev pub is_plain : Head → Bool
is_plain head = is_int head.base.kind && (not head.base.is_const && (head.stars == 0 && is_none head.parameters))

-- an `extern` before it is not of the form
abbrev pub is_local : Linkage → Option Bool
is_local linkage.Plain = Some false
is_local linkage.Static = Some true
is_local linkage.Extern = None

abbrev pub item_with : Head → Option (List SmallStmt) → Option Item
item_with head body = cond (is_plain head) (option_map (λ local. record { local = local; name = head.name.bytes; body = body }) (is_local head.linkage)) None

abbrev pub item_of : External → Option Item
item_of (top.Prototype head) = item_with head None
item_of (top.Function head [] body) = option_and_then (λ statements. item_with head (Some statements)) (all_of statement_of body)
item_of _ = None

abbrev pub items_of : List External → Option (List Item)
items_of tree = all_of item_of tree

-- the names of the runtime but for `main`, which no function of a unit has
abbrev pub reserved_words : List (List ℕ)
reserved_words = codes "getbyte" ∷ codes "putbyte" ∷ codes "_start" ∷ []

-- a digit from 0 to 9
pub record IsDigit (byte : ℕ) : Type 0 where
  pub low : 48 ≤ byte
  pub high : byte ≤ 57

-- a letter, an underscore or a digit
abbrev pub IsWordByte : ℕ → Type 0
IsWordByte byte = ((97 ≤ byte) × (byte ≤ 122)) ⊎ (((65 ≤ byte) × (byte ≤ 90)) ⊎ ((byte ≡ 95) ⊎ ((48 ≤ byte) × (byte ≤ 57))))

-- a letter or an underscore, and then letters, digits and underscores
abbrev pub IsIdentifier : List ℕ → Type 0
IsIdentifier [] = ⊥
IsIdentifier (first ∷ rest) = ¬ IsDigit first × All IsWordByte (first ∷ rest)

pub record IsName (name : List ℕ) : Type 0 where
  pub identifier : IsIdentifier name
  pub free : ¬ Contains reserved_words name

-- a number that an `int` can have
abbrev pub IsInt : ℕ → Type 0
IsInt n = n ≤ 2147483647

-- the number of a statement fits an `int`
abbrev pub Fits : SmallStmt → Type 0
Fits (Put n) = IsInt n
Fits (Call name) = Unit {0}
Fits (Return n) = IsInt n

-- the name that a statement calls is a name
abbrev pub CallsName : SmallStmt → Type 0
CallsName (Put n) = Unit {0}
CallsName (Call name) = IsName name
CallsName (Return n) = Unit {0}

-- the last statement is a return, and no other is
abbrev pub EndsReturning : List SmallStmt → Type 0
EndsReturning [] = ⊥
EndsReturning (Put n ∷ statements) = EndsReturning statements
EndsReturning (Call name ∷ statements) = EndsReturning statements
EndsReturning (Return n ∷ statements) = statements ≡ []

-- what each body is to be
pub record IsBody (statements : List SmallStmt) : Type 0 where
  pub ends : EndsReturning statements
  pub fits : All Fits statements
  pub names : All CallsName statements

abbrev pub IsBodyIfAny : Option (List SmallStmt) → Type 0
IsBodyIfAny None = Unit {0}
IsBodyIfAny (Some statements) = IsBody statements

-- what each item is to be, whatever the others are
pub record IsItem (item : Item) : Type 0 where
  pub name : IsName item.name
  pub body : IsBodyIfAny item.body

-- the item at a place, counted from 0
abbrev pub IsAt : List Item → ℕ → Item → Type 0
IsAt items place item = slice_get items place ≡ Some item

-- a body has a call of the name
abbrev pub HasCall : Option (List SmallStmt) → List ℕ → Type 0
HasCall None name = ⊥
HasCall (Some statements) name = Contains statements (Call name)

-- an item of this name stands at the place or before it
pub record DeclaredBy (items : List Item) (place : ℕ) (name : List ℕ) : Type 0 where
  pub where_at : ℕ
  pub item : Item
  pub at : IsAt items where_at item
  pub before : where_at ≤ place
  pub named : item.name ≡ name

-- an item defines the name
pub record Defined (items : List Item) (name : List ℕ) : Type 0 where
  pub where_at : ℕ
  pub item : Item
  pub at : IsAt items where_at item
  pub named : item.name ≡ name
  pub has_body : IsSome item.body

-- a called name is declared by an item before the call, or by the head of the function that calls it
abbrev pub CallsAreDeclared : List Item → Type 0
CallsAreDeclared items = (place : ℕ) (item : Item) (name : List ℕ) → IsAt items place item → HasCall item.body name → DeclaredBy items place name

-- no name is defined twice
abbrev pub DefinedOnce : List Item → Type 0
DefinedOnce items = (i j : ℕ) (a b : Item) → IsAt items i a → IsAt items j b → a.name ≡ b.name → IsSome a.body → IsSome b.body → i ≡ j

-- a name with one static item has only static items
abbrev pub StaticAlike : List Item → Type 0
StaticAlike items = (i j : ℕ) (a b : Item) → IsAt items i a → IsAt items j b → a.name ≡ b.name → a.local ≡ b.local

-- and it is defined
abbrev pub StaticDefined : List Item → Type 0
StaticDefined items = (place : ℕ) (item : Item) → IsAt items place item → item.local ≡ true → Defined items item.name

-- `main` is not static
abbrev pub MainIsGlobal : List Item → Type 0
MainIsGlobal items = (place : ℕ) (item : Item) → IsAt items place item → item.name ≡ codes "main" → item.local ≡ false

-- the rules of names
pub record KeepsNames (items : List Item) : Type 0 where
  pub declared : CallsAreDeclared items
  pub once : DefinedOnce items
  pub alike : StaticAlike items
  pub static_defined : StaticDefined items
  pub main_global : MainIsGlobal items

-- the tree is of the form, with these items
pub record IsSecondForm (tree : List External) (items : List Item) : Type 0 where
  pub are : items_of tree ≡ Some items
  pub each : All IsItem items
  pub rules : KeepsNames items
