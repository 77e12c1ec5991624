-- What the statements of a body of the second form are in the tree.
use Rattle.std.proofs.Common.{◌≡◌, ℕ, Bool, true, false, cond, List, [], ◌∷◌, Option, Some, None, refl, ap, subst}
use Rattle.std.specs.Prelude.{codes}
use Rattle.std.specs.Option.{option_map}
use Rattle.std.specs.Str.{bytes_eq}
use Rattle.std.proofs.lemmas.Slice.Eq.{bytes_eq-Decides}
use Rattle.text_grammar.specs.declared.tree.Expr.{Expr}
use Rattle.text_grammar.specs.declared.tree.Expr.TheVariants as expr
use Rattle.text_grammar.specs.declared.tree.Call.{Call as CallTree}
use Rattle.text_grammar.specs.declared.tree.Simple.TheVariants as simple
use Rattle.text_grammar.specs.declared.tree.Stmt.{Stmt}
use Rattle.text_grammar.specs.declared.tree.Stmt.TheVariants as stmt
use Rattle.second_form.specs.declared.second_items.SmallStmt.{SmallStmt}
use Rattle.second_form.specs.declared.second_items.SmallStmt.TheVariants.{Put, Call, Return}
use Rattle.second_form.specs.SecondForm.{number_of, put_of, call_of, called_of, statement_of}

-- an expression that is a number
pub record IsNumber (x : Expr) (n : ℕ) : Type 0 where
  pub at : ℕ
  pub is : x ≡ expr.Number at n false

-- a call of a name
pub record IsCall (s : Stmt) (name : List ℕ) (es : List Expr) : Type 0 where
  pub c : CallTree
  pub is : s ≡ stmt.Simple (simple.Call c)
  pub named : c.name.bytes ≡ name
  pub arguments : c.arguments ≡ es

abbrev pub HasShape : Stmt → SmallStmt → Type 0
HasShape s (Put n) = (x : Expr) × IsNumber x n × IsCall s (codes "putbyte") (x ∷ [])
HasShape s (Call name) = IsCall s name []
HasShape s (Return n) = (at : ℕ) × (x : Expr) × IsNumber x n × (s ≡ stmt.Return at (Some x))

is_number : (x : Expr) (n : ℕ) → number_of x ≡ Some n → IsNumber x n
is_number (expr.Name at name) n e = cc
is_number (expr.Number at value true) n e = cc
is_number (expr.Number at value false) n e = let same : value ≡ n = cc in record { at = at; is = ap (λ v. expr.Number at v false) same }
is_number (expr.Character at byte) n e = cc
is_number (expr.Unary' at op p x) n e = cc
is_number (expr.Binary' at op p x q y) n e = cc
is_number (expr.Cast' at to p x) n e = cc
is_number (expr.SizeofType at t) n e = cc
is_number (expr.Sizeof' at p x) n e = cc
is_number (expr.Index' at p x q y) n e = cc
is_number (expr.Member' at p x name) n e = cc
is_number (expr.Arrow' at p x name) n e = cc

is_return : (at : ℕ) (x : Expr) (n : Option ℕ) (t : SmallStmt) → number_of x ≡ n → option_map (λ n. Return n) n ≡ Some t → HasShape (stmt.Return at (Some x)) t
is_return at x None t h e = cc
is_return at x (Some n) t h e = let same : Return n ≡ t = cc in subst (HasShape (stmt.Return at (Some x))) same (at, x, is_number x n h, refl)

puts : (c : CallTree) (t : SmallStmt) → c.name.bytes ≡ codes "putbyte" → (es : List Expr) → c.arguments ≡ es → put_of es ≡ Some t → HasShape (stmt.Simple (simple.Call c)) t
puts c t named [] es e = cc
puts c t named (x ∷ y ∷ es) are e = cc
puts c t named (x ∷ []) are e = by (number_of x) refl e
  where
    by : (n : Option ℕ) → number_of x ≡ n → option_map (λ n. Put n) n ≡ Some t → HasShape (stmt.Simple (simple.Call c)) t
    by None h e = cc
    by (Some n) h e =
        let same : Put n ≡ t = cc in
        subst (HasShape (stmt.Simple (simple.Call c))) same (x, is_number x n h, record { c = c; is = refl; named = named; arguments = are })

calls : (c : CallTree) (t : SmallStmt) (es : List Expr) → c.arguments ≡ es → call_of c.name.bytes es ≡ Some t → HasShape (stmt.Simple (simple.Call c)) t
calls c t [] are e = let same : Call c.name.bytes ≡ t = cc in subst (HasShape (stmt.Simple (simple.Call c))) same (record { c = c; is = refl; named = refl; arguments = are })
calls c t (x ∷ es) are e = cc

is_called : (c : CallTree) (t : SmallStmt) → called_of c ≡ Some t → HasShape (stmt.Simple (simple.Call c)) t
is_called c t e = by (bytes_eq c.name.bytes (codes "putbyte")) refl e
  where
    by : (b : Bool) → bytes_eq c.name.bytes (codes "putbyte") ≡ b → cond b (put_of c.arguments) (call_of c.name.bytes c.arguments) ≡ Some t → HasShape (stmt.Simple (simple.Call c)) t
    by true named e = puts c t ((bytes_eq-Decides c.name.bytes (codes "putbyte")).0 named) c.arguments refl e
    by false named e = calls c t c.arguments refl e

pub shape_of : (s : Stmt) (t : SmallStmt) → statement_of s ≡ Some t → HasShape s t
shape_of (stmt.Empty at) t e = cc
shape_of (stmt.Block' at n k) t e = cc
shape_of (stmt.Simple (simple.Assign at x v)) t e = cc
shape_of (stmt.Simple (simple.Call c)) t e = is_called c t e
shape_of (stmt.Return at None) t e = cc
shape_of (stmt.Return at (Some x)) t e = is_return at x (number_of x) t refl e
shape_of (stmt.Break at) t e = cc
shape_of (stmt.Continue at) t e = cc
shape_of (stmt.If' n k last) t e = cc
shape_of (stmt.While' at x n k) t e = cc
shape_of (stmt.Do' at n k x) t e = cc
shape_of (stmt.For' at first x step n k) t e = cc
