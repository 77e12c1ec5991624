use Rattle.std.proofs.Common.{◌≡◌, Bool, true, false, refl, sym, ap, ◌∙◌, Some, eq-eqb, eqb-true}
use Rattle.std.specs.Prelude.{slice_get, List, [], ◌∷◌}
use Rattle.text_grammar.specs.declared.kind.Kind.{Kind}
use Rattle.text_grammar.specs.declared.kind.Kind.TheVariants as k
use Rattle.text_grammar.specs.laws.SameKind.{code, same}

abbrev all : List Kind
all = k.Id ∷ k.Num ∷ k.Char ∷ k.Str ∷ k.KwInt ∷ k.KwChar ∷ k.KwSigned ∷ k.KwUnsigned ∷ k.KwVoid ∷ k.KwStruct ∷ k.KwStatic ∷ k.KwExtern ∷ k.KwConst ∷ k.KwRegister ∷ k.KwReturn ∷ k.KwIf ∷ k.KwElse ∷ k.KwWhile ∷ k.KwDo ∷ k.KwFor ∷ k.KwBreak ∷ k.KwContinue ∷ k.KwSizeof ∷ k.Unused ∷ k.OrOr ∷ k.AndAnd ∷ k.EqEq ∷ k.NotEq ∷ k.LessEq ∷ k.GreaterEq ∷ k.ShiftLeft ∷ k.ShiftRight ∷ k.Arrow ∷ k.Plus ∷ k.Minus ∷ k.Star ∷ k.Slash ∷ k.Percent ∷ k.And ∷ k.Or ∷ k.Caret ∷ k.Tilde ∷ k.Bang ∷ k.Less ∷ k.Greater ∷ k.Assign ∷ k.LParen ∷ k.RParen ∷ k.LBracket ∷ k.RBracket ∷ k.LBrace ∷ k.RBrace ∷ k.Semi ∷ k.Comma ∷ k.Dot ∷ []

decoded : (a : Kind) → slice_get all (code a) ≡ Some a
decoded k.Id = refl
decoded k.Num = refl
decoded k.Char = refl
decoded k.Str = refl
decoded k.KwInt = refl
decoded k.KwChar = refl
decoded k.KwSigned = refl
decoded k.KwUnsigned = refl
decoded k.KwVoid = refl
decoded k.KwStruct = refl
decoded k.KwStatic = refl
decoded k.KwExtern = refl
decoded k.KwConst = refl
decoded k.KwRegister = refl
decoded k.KwReturn = refl
decoded k.KwIf = refl
decoded k.KwElse = refl
decoded k.KwWhile = refl
decoded k.KwDo = refl
decoded k.KwFor = refl
decoded k.KwBreak = refl
decoded k.KwContinue = refl
decoded k.KwSizeof = refl
decoded k.Unused = refl
decoded k.OrOr = refl
decoded k.AndAnd = refl
decoded k.EqEq = refl
decoded k.NotEq = refl
decoded k.LessEq = refl
decoded k.GreaterEq = refl
decoded k.ShiftLeft = refl
decoded k.ShiftRight = refl
decoded k.Arrow = refl
decoded k.Plus = refl
decoded k.Minus = refl
decoded k.Star = refl
decoded k.Slash = refl
decoded k.Percent = refl
decoded k.And = refl
decoded k.Or = refl
decoded k.Caret = refl
decoded k.Tilde = refl
decoded k.Bang = refl
decoded k.Less = refl
decoded k.Greater = refl
decoded k.Assign = refl
decoded k.LParen = refl
decoded k.RParen = refl
decoded k.LBracket = refl
decoded k.RBracket = refl
decoded k.LBrace = refl
decoded k.RBrace = refl
decoded k.Semi = refl
decoded k.Comma = refl
decoded k.Dot = refl

same_some : {A : Type 0} {a b : A} → Some a ≡ Some b → a ≡ b
same_some h = cc

code_once : (a b : Kind) → code a ≡ code b → a ≡ b
code_once a b h = same_some (sym (decoded a) ∙ ap (slice_get all) h ∙ decoded b)

pub same_self : (a b : Kind) → a ≡ b → same a b ≡ true
same_self a b h = eq-eqb (code a) (code b) (ap code h)

pub same_true : (a b : Kind) → same a b ≡ true → a ≡ b
same_true a b h = code_once a b (eqb-true (code a) (code b) h)

pub same_not : (a b : Kind) → (a ≡ b → ⊥) → same a b ≡ false
same_not a b h = go (same a b) refl
  where
    go : (c : Bool) → same a b ≡ c → same a b ≡ false
    go true e = absurd (h (same_true a b e))
    go false e = e
