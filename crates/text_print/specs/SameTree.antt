-- When two trees are the same but for their places.
use Rattle.std.specs.Prelude.{◌≡◌, ℕ, List, [], ◌∷◌, ◌++◌, Bool, Option, Some, None}
use Rattle.text_grammar.specs.declared.tree.NameAt.{NameAt}
use Rattle.text_grammar.specs.declared.tree.Base.{Base}
use Rattle.text_grammar.specs.declared.tree.TypeName.{TypeName}
use Rattle.text_grammar.specs.declared.tree.Number.{Number}
use Rattle.text_grammar.specs.declared.tree.UnaryOp.{UnaryOp}
use Rattle.text_grammar.specs.declared.tree.BinaryOp.{BinaryOp}
use Rattle.text_grammar.specs.declared.tree.Expr.{Expr}
use Rattle.text_grammar.specs.declared.tree.Expr.TheVariants as e
use Rattle.text_grammar.specs.declared.tree.Call.{Call}
use Rattle.text_grammar.specs.declared.tree.AssignedValue.{AssignedValue}
use Rattle.text_grammar.specs.declared.tree.Simple.{Simple}
use Rattle.text_grammar.specs.declared.tree.Stmt.{Stmt}
use Rattle.text_grammar.specs.declared.tree.Initialiser.{Initialiser}
use Rattle.text_grammar.specs.declared.tree.Declarator.{Declarator}
use Rattle.text_grammar.specs.declared.tree.Initialised.{Initialised}
use Rattle.text_grammar.specs.declared.tree.ObjectItem.{ObjectItem}
use Rattle.text_grammar.specs.declared.tree.Members.{Members}
use Rattle.text_grammar.specs.declared.tree.Parameter.{Parameter}
use Rattle.text_grammar.specs.declared.tree.LocalValue.{LocalValue}
use Rattle.text_grammar.specs.declared.tree.LocalItem.{LocalItem}
use Rattle.text_grammar.specs.declared.tree.Locals.{Locals}
use Rattle.text_grammar.specs.declared.tree.Linkage.{Linkage}
use Rattle.text_grammar.specs.declared.tree.Head.{Head}
use Rattle.text_grammar.specs.declared.tree.External.{External}
use Rattle.text_grammar.specs.declared.tree.Arm.{Arm, roll-Arm}
use Rattle.text_grammar.specs.declared.tree.AssignedValue.TheVariants as value
use Rattle.text_grammar.specs.declared.tree.Simple.TheVariants as act
use Rattle.text_grammar.specs.declared.tree.Stmt.TheVariants as s
use Rattle.text_grammar.specs.declared.tree.Initialiser.TheVariants as i
use Rattle.text_grammar.specs.declared.tree.External.TheVariants as top

abbrev pub SameName : NameAt → NameAt → Type 0
SameName n m = n.bytes ≡ m.bytes

pub record SameNumber (n m : Number) : Type 0 where
  pub value : n.value ≡ m.value
  pub sign : n.is_unsigned ≡ m.is_unsigned

pub record SameBase (t u : Base) : Type 0 where
  pub is_const : t.is_const ≡ u.is_const
  pub kind : t.kind ≡ u.kind

pub record SameType (t u : TypeName) : Type 0 where
  pub base : SameBase t.base u.base
  pub stars : t.stars ≡ u.stars

pub data SameExpr : Expr → Expr → Type 0 where
  name : (p q : ℕ) (bytes : List ℕ) → SameExpr (e.Name p bytes) (e.Name q bytes)
  number : (p q value : ℕ) (is_unsigned : Bool) → SameExpr (e.Number p value is_unsigned) (e.Number q value is_unsigned)
  character : (p q byte : ℕ) → SameExpr (e.Character p byte) (e.Character q byte)
  unary : (p q : ℕ) (op : UnaryOp) {t u : Expr} → SameExpr t u → SameExpr (e.Unary p op t) (e.Unary q op u)
  binary : (p q : ℕ) (op : BinaryOp) {t u v w : Expr} → SameExpr t u → SameExpr v w → SameExpr (e.Binary p op t v) (e.Binary q op u w)
  cast : (p q : ℕ) {a b : TypeName} {t u : Expr} → SameType a b → SameExpr t u → SameExpr (e.Cast p a t) (e.Cast q b u)
  sizeof_type : (p q : ℕ) {a b : TypeName} → SameType a b → SameExpr (e.SizeofType p a) (e.SizeofType q b)
  sizeof : (p q : ℕ) {t u : Expr} → SameExpr t u → SameExpr (e.Sizeof p t) (e.Sizeof q u)
  index : (p q : ℕ) {t u v w : Expr} → SameExpr t u → SameExpr v w → SameExpr (e.Index p t v) (e.Index q u w)
  member : (p q : ℕ) (bytes : List ℕ) {t u : Expr} → SameExpr t u → SameExpr (e.Member p t bytes) (e.Member q u bytes)
  arrow : (p q : ℕ) (bytes : List ℕ) {t u : Expr} → SameExpr t u → SameExpr (e.Arrow p t bytes) (e.Arrow q u bytes)

-- pair by pair
pub data SameExprs : List Expr → List Expr → Type 0 where
  none : SameExprs [] []
  more : {ts us : List Expr} {t u : Expr} → SameExprs ts us → SameExpr t u → SameExprs (ts ++ t ∷ []) (us ++ u ∷ [])

pub record SameCall (c d : Call) : Type 0 where
  pub name : SameName c.name d.name
  pub arguments : SameExprs c.arguments d.arguments

pub data SameMaybe {A : Type 0} (S : A → A → Type 0) : Option A → Option A → Type 0 where
  none : SameMaybe S None None
  some : {t u : A} → S t u → SameMaybe S (Some t) (Some u)

pub data SameValue : AssignedValue → AssignedValue → Type 0 where
  expr : {t u : Expr} → SameExpr t u → SameValue (value.Expr t) (value.Expr u)
  call : {c d : Call} → SameCall c d → SameValue (value.Call c) (value.Call d)

pub data SameSimple : Simple → Simple → Type 0 where
  call : {c d : Call} → SameCall c d → SameSimple (act.Call c) (act.Call d)
  assign : (p q : ℕ) {t u : Expr} {v w : AssignedValue} → SameExpr t u → SameValue v w → SameSimple (act.Assign p t v) (act.Assign q u w)

mutual
  pub data SameStmt : Stmt → Stmt → Type 0 where
    empty : (p q : ℕ) → SameStmt (s.Empty p) (s.Empty q)
    block : (p q : ℕ) {c d : List Stmt} → SameStmts c d → SameStmt (s.Block p c) (s.Block q d)
    simple : {t u : Simple} → SameSimple t u → SameStmt (s.Simple t) (s.Simple u)
    return : (p q : ℕ) {t u : Option Expr} → SameMaybe SameExpr t u → SameStmt (s.Return p t) (s.Return q u)
    break : (p q : ℕ) → SameStmt (s.Break p) (s.Break q)
    continue : (p q : ℕ) → SameStmt (s.Continue p) (s.Continue q)
    choice : {xs ys : List Arm} → SameArms xs ys → SameStmt (s.If xs None) (s.If ys None)
    choice_else : {xs ys : List Arm} {c d : List Stmt} → SameArms xs ys → SameStmts c d → SameStmt (s.If xs (Some c)) (s.If ys (Some d))
    while : (p q : ℕ) {t u : Expr} {c d : List Stmt} → SameExpr t u → SameStmts c d → SameStmt (s.While p t c) (s.While q u d)
    do_while : (p q : ℕ) {t u : Expr} {c d : List Stmt} → SameStmts c d → SameExpr t u → SameStmt (s.Do p c t) (s.Do q d u)
    for : (p q : ℕ) {f g l m : Option Simple} {t u : Option Expr} {c d : List Stmt} → SameMaybe SameSimple f g → SameMaybe SameExpr t u → SameMaybe SameSimple l m → SameStmts c d
        → SameStmt (s.For p f t l c) (s.For q g u m d)

  pub data SameStmts : List Stmt → List Stmt → Type 0 where
    no_statement : SameStmts [] []
    further_statement : {ts us : List Stmt} {t u : Stmt} → SameStmts ts us → SameStmt t u → SameStmts (ts ++ t ∷ []) (us ++ u ∷ [])

  pub data SameArms : List Arm → List Arm → Type 0 where
    no_arm : SameArms [] []
    further_arm : (p q : ℕ) {xs ys : List Arm} {t u : Expr} {c d : List Stmt} → SameArms xs ys → SameExpr t u → SameStmts c d
        → SameArms (xs ++ roll-Arm (record { at = p; test = t; body = c }) ∷ []) (ys ++ roll-Arm (record { at = q; test = u; body = d }) ∷ [])

-- Declarations.

mutual
  pub data SameInitialiser : Initialiser → Initialiser → Type 0 where
    expr : {t u : Expr} → SameExpr t u → SameInitialiser (i.Expr t) (i.Expr u)
    string : (p q : ℕ) (bytes : List ℕ) → SameInitialiser (i.String p bytes) (i.String q bytes)
    items : (p q : ℕ) {ts us : List Initialiser} → SameInitialisers ts us → SameInitialiser (i.List p ts) (i.List q us)

  pub data SameInitialisers : List Initialiser → List Initialiser → Type 0 where
    none : SameInitialisers [] []
    more : {ts us : List Initialiser} {t u : Initialiser} → SameInitialisers ts us → SameInitialiser t u → SameInitialisers (ts ++ t ∷ []) (us ++ u ∷ [])

-- pair by pair
pub data SameAll {A : Type 0} (S : A → A → Type 0) : List A → List A → Type 0 where
  none : SameAll S [] []
  more : {ts us : List A} {t u : A} → SameAll S ts us → S t u → SameAll S (ts ++ t ∷ []) (us ++ u ∷ [])

pub record SameDeclarator (d f : Declarator) : Type 0 where
  pub stars : d.stars ≡ f.stars
  pub name : SameName d.name f.name
  pub is_open : d.is_open ≡ f.is_open
  pub lengths : SameAll SameNumber d.lengths f.lengths

abbrev pub SameInitialised : Initialised → Initialised → Type 0
SameInitialised v w = SameInitialiser v.value w.value

pub record SameObject (d f : ObjectItem) : Type 0 where
  pub declarator : SameDeclarator d.declarator f.declarator
  pub initialised : SameMaybe SameInitialised d.initialised f.initialised

pub record SameMembers (m l : Members) : Type 0 where
  pub base : SameBase m.base l.base
  pub fields : SameAll SameDeclarator m.fields l.fields

pub record SameParameter (p q : Parameter) : Type 0 where
  pub base : SameBase p.base q.base
  pub stars : p.stars ≡ q.stars
  pub name : SameMaybe SameName p.name q.name

abbrev pub SameLocalValue : LocalValue → LocalValue → Type 0
SameLocalValue v w = SameExpr v.value w.value

pub record SameLocal (d f : LocalItem) : Type 0 where
  pub declarator : SameDeclarator d.declarator f.declarator
  pub value : SameMaybe SameLocalValue d.value f.value

pub record SameLocals (l m : Locals) : Type 0 where
  pub is_register : l.is_register ≡ m.is_register
  pub base : SameBase l.base m.base
  pub items : SameAll SameLocal l.items m.items

pub record SameHead (h f : Head) : Type 0 where
  pub linkage : h.linkage ≡ f.linkage
  pub base : SameBase h.base f.base
  pub stars : h.stars ≡ f.stars
  pub name : SameName h.name f.name
  pub parameters : SameAll SameParameter h.parameters f.parameters

pub data SameExternal : External → External → Type 0 where
  struct : {n m : NameAt} {ms ls : List Members} → SameName n m → SameAll SameMembers ms ls → SameExternal (top.Struct n ms) (top.Struct m ls)
  objects : (l : Linkage) {t u : Base} {ds fs : List ObjectItem} → SameBase t u → SameAll SameObject ds fs → SameExternal (top.Objects l t ds) (top.Objects l u fs)
  prototype : {h f : Head} → SameHead h f → SameExternal (top.Prototype h) (top.Prototype f)
  function : {h f : Head} {ls ms : List Locals} {c d : List Stmt} → SameHead h f → SameAll SameLocals ls ms → SameStmts c d → SameExternal (top.Function h ls c) (top.Function f ms d)

-- two trees that are the same but for their places
abbrev pub SameTree : List External → List External → Type 0
SameTree ts us = SameAll SameExternal ts us
