-- An expression is read, unless what follows goes on with it.
use Rattle.std.proofs.Common.{◌≡◌, ℕ, suc, ◌+◌, ◌<◌, List, [], ◌∷◌, ◌++◌, Option, Some, None, refl, sym, ap, ◌∙◌, arith, append_assoc, ◌≤◌, true, false}
use Rattle.text_grammar.specs.declared.kind.Kind.{Kind}
use Rattle.text_grammar.specs.declared.kind.Kind.TheVariants as k
use Rattle.text_grammar.specs.declared.kind.Level.{Level}
use Rattle.text_grammar.specs.declared.kind.Level.TheVariants as level
use Rattle.text_grammar.specs.declared.tree.BaseKind.{BaseKind}
use Rattle.text_grammar.specs.declared.tree.BaseKind.TheVariants as base
use Rattle.text_grammar.specs.declared.tree.Base.{Base}
use Rattle.text_grammar.specs.declared.tree.TypeName.{TypeName}
use Rattle.text_grammar.specs.declared.tree.UnaryOp.{UnaryOp}
use Rattle.text_grammar.specs.declared.tree.BinaryOp.{BinaryOp}
use Rattle.text_grammar.specs.declared.tree.Expr.{Expr}
use Rattle.text_grammar.specs.declared.tree.Expr.TheVariants as e
use Rattle.text_grammar.specs.laws.SameKind.{same}
use Rattle.text_grammar.specs.Grammar.{Symbol, prefix_of, operator_of}
use Rattle.text_grammar.specs.Grammar as g
use Rattle.text_grammar.specs.laws.Programs.{head, Out, BaseWord, BaseType, StarsOf, TypeOf, PrimaryOf, PostfixOf, After, Inner, Open, Plain, SizeofOf, SizeofOpen, UnaryOf, OperandOf, ChainOf, Further, Ret, Fail, Peek, Eat, Call, taken, if_some, try, expect, signed_words, unsigned_words, struct_words, words_from_struct, words_from_unsigned, words_from_signed, words_from_void, words_from_char, base_from, base_after, type_stars, begins_type, primary_literal, number_of, character_of, index_open, index_close, member_name, arrow_name, after_arrow, after_dot, inner_close, cast_operand, open_at, sizeof_open_at, sizeof_plain, prefixed, prefix_by, further_at, walk, runs}
use Rattle.std.proofs.lemmas.List.{append-nil}
use Rattle.text_grammar.specs.laws.Programs.{is_type_word}
use Rattle.text_grammar.specs.laws.ProgramWalks.{runs_walk}
use Rattle.text_grammar.specs.laws.ProgramSteps.{not_taken, other, try_take, try_no, try_other, expect_take, call_ok, call_last}

pub none_some : {A : Type 0} {a : A} → None ≡ Some a → ⊥
none_some h = cc

-- how tightly a token goes on with what stands before it
abbrev pub binds : Kind → ℕ
binds k.LBracket = 11
binds k.Dot = 11
binds k.Arrow = 11
binds k.Star = 10
binds k.Slash = 10
binds k.Percent = 10
binds k.Plus = 9
binds k.Minus = 9
binds k.ShiftLeft = 8
binds k.ShiftRight = 8
binds k.Less = 7
binds k.Greater = 7
binds k.LessEq = 7
binds k.GreaterEq = 7
binds k.EqEq = 6
binds k.NotEq = 6
binds k.And = 5
binds k.Caret = 4
binds k.Or = 3
binds k.AndAnd = 2
binds k.OrOr = 1
binds _ = 0

abbrev pub next_binds : List Symbol → ℕ
next_binds [] = 0
next_binds (x ∷ ts) = binds x.kind

abbrev pub number : Level → ℕ
number level.Or = 1
number level.And = 2
number level.BitOr = 3
number level.BitXor = 4
number level.BitAnd = 5
number level.Equality = 6
number level.Order = 7
number level.Shift = 8
number level.Sum = 9
number level.Product = 10

pub operator_binds : (l : Level) (kind : Kind) (op : BinaryOp) → operator_of l kind ≡ Some op → binds kind ≡ number l
operator_binds level.Or k.OrOr op h = refl
operator_binds level.And k.AndAnd op h = refl
operator_binds level.BitOr k.Or op h = refl
operator_binds level.BitXor k.Caret op h = refl
operator_binds level.BitAnd k.And op h = refl
operator_binds level.Equality k.EqEq op h = refl
operator_binds level.Equality k.NotEq op h = refl
operator_binds level.Order k.Less op h = refl
operator_binds level.Order k.Greater op h = refl
operator_binds level.Order k.LessEq op h = refl
operator_binds level.Order k.GreaterEq op h = refl
operator_binds level.Shift k.ShiftLeft op h = refl
operator_binds level.Shift k.ShiftRight op h = refl
operator_binds level.Sum k.Plus op h = refl
operator_binds level.Sum k.Minus op h = refl
operator_binds level.Product k.Star op h = refl
operator_binds level.Product k.Slash op h = refl
operator_binds level.Product k.Percent op h = refl
operator_binds _ _ op h = absurd (none_some h)

pub less_itself : (n : ℕ) → n < n → ⊥
less_itself n h = omega arith

no_operator : (l : Level) (kind : Kind) → binds kind < number l → operator_of l kind ≡ None
no_operator level.Or k.OrOr h = absurd (less_itself _ h)
no_operator level.And k.AndAnd h = absurd (less_itself _ h)
no_operator level.BitOr k.Or h = absurd (less_itself _ h)
no_operator level.BitXor k.Caret h = absurd (less_itself _ h)
no_operator level.BitAnd k.And h = absurd (less_itself _ h)
no_operator level.Equality k.EqEq h = absurd (less_itself _ h)
no_operator level.Equality k.NotEq h = absurd (less_itself _ h)
no_operator level.Order k.Less h = absurd (less_itself _ h)
no_operator level.Order k.Greater h = absurd (less_itself _ h)
no_operator level.Order k.LessEq h = absurd (less_itself _ h)
no_operator level.Order k.GreaterEq h = absurd (less_itself _ h)
no_operator level.Shift k.ShiftLeft h = absurd (less_itself _ h)
no_operator level.Shift k.ShiftRight h = absurd (less_itself _ h)
no_operator level.Sum k.Plus h = absurd (less_itself _ h)
no_operator level.Sum k.Minus h = absurd (less_itself _ h)
no_operator level.Product k.Star h = absurd (less_itself _ h)
no_operator level.Product k.Slash h = absurd (less_itself _ h)
no_operator level.Product k.Percent h = absurd (less_itself _ h)
no_operator _ _ h = refl

no_postfix : (kind : Kind) → binds kind < 11 → (same k.LBracket kind ≡ false) × (same k.Dot kind ≡ false) × (same k.Arrow kind ≡ false)
no_postfix k.LBracket h = absurd (less_itself _ h)
no_postfix k.Dot h = absurd (less_itself _ h)
no_postfix k.Arrow h = absurd (less_itself _ h)
no_postfix _ h = (refl, refl, refl)

pub prefix_is : (kind : Kind) (op : UnaryOp) → prefix_of kind ≡ Some op → (same k.LParen kind ≡ false) × (same k.KwSizeof kind ≡ false) × (is_type_word kind ≡ false)
prefix_is k.Minus op h = (refl, refl, refl)
prefix_is k.Tilde op h = (refl, refl, refl)
prefix_is k.Bang op h = (refl, refl, refl)
prefix_is k.Star op h = (refl, refl, refl)
prefix_is k.And op h = (refl, refl, refl)
prefix_is _ op h = absurd (none_some h)

-- What an expression begins with is no word of a type.

mutual
  pub postfix_no_type : {a : List Symbol} {t : Expr} → g.Postfix a t → (r : List Symbol) → begins_type (head (a ++ r)) ≡ false
  postfix_no_type (g.primary (g.name x h)) r = ap is_type_word h
  postfix_no_type (g.primary (g.number x h)) r = ap is_type_word h
  postfix_no_type (g.primary (g.character x h)) r = ap is_type_word h
  postfix_no_type (g.primary (g.parens x y h d h')) r = ap is_type_word h
  postfix_no_type (g.index x y {a = a} {c = c} d h d' h') r = ap (λ z. begins_type (head z)) (append_assoc a (x ∷ (c ++ y ∷ [])) r) ∙ postfix_no_type d ((x ∷ (c ++ y ∷ [])) ++ r)
  postfix_no_type (g.member x y {a = a} d h h') r = ap (λ z. begins_type (head z)) (append_assoc a (x ∷ y ∷ []) r) ∙ postfix_no_type d ((x ∷ y ∷ []) ++ r)
  postfix_no_type (g.arrow x y {a = a} d h h') r = ap (λ z. begins_type (head z)) (append_assoc a (x ∷ y ∷ []) r) ∙ postfix_no_type d ((x ∷ y ∷ []) ++ r)

  pub uncast_no_type : {a : List Symbol} {t : Expr} → g.Uncast a t → (r : List Symbol) → begins_type (head (a ++ r)) ≡ false
  uncast_no_type (g.postfix d) r = postfix_no_type d r
  uncast_no_type (g.prefix x op h d) r = (prefix_is x.kind op h).2
  uncast_no_type (g.sizeof_type x y z h h' d h'') r = ap is_type_word h
  uncast_no_type (g.sizeof x h d) r = ap is_type_word h

  pub unary_no_type : {a : List Symbol} {t : Expr} → g.Unary a t → (r : List Symbol) → begins_type (head (a ++ r)) ≡ false
  unary_no_type (g.uncast d) r = uncast_no_type d r
  unary_no_type (g.cast x y h d h' d') r = ap is_type_word h

  operand_no_type : {l : Level} {a : List Symbol} {t : Expr} → g.Operand l a t → (r : List Symbol) → begins_type (head (a ++ r)) ≡ false
  operand_no_type (g.of_or d) r = chain_no_type d r
  operand_no_type (g.of_and d) r = chain_no_type d r
  operand_no_type (g.of_bit_or d) r = chain_no_type d r
  operand_no_type (g.of_bit_xor d) r = chain_no_type d r
  operand_no_type (g.of_bit_and d) r = chain_no_type d r
  operand_no_type (g.of_equality d) r = chain_no_type d r
  operand_no_type (g.of_order d) r = chain_no_type d r
  operand_no_type (g.of_shift d) r = chain_no_type d r
  operand_no_type (g.of_sum d) r = chain_no_type d r
  operand_no_type (g.of_product d) r = unary_no_type d r

  pub chain_no_type : {l : Level} {a : List Symbol} {t : Expr} → g.Chain l a t → (r : List Symbol) → begins_type (head (a ++ r)) ≡ false
  chain_no_type (g.operand d) r = operand_no_type d r
  chain_no_type (g.binary x op {a = a} {c = c} d h d') r = ap (λ z. begins_type (head z)) (append_assoc a (x ∷ c) r) ∙ chain_no_type d ((x ∷ c) ++ r)

-- Types.

words_begin : {a : List Symbol} {at : ℕ} {t : BaseKind} → g.BaseWords a at t → (r : List Symbol) → begins_type (head (a ++ r)) ≡ true
words_begin (g.int x h) r = ap is_type_word h
words_begin (g.char x h) r = ap is_type_word h
words_begin (g.signed x h) r = ap is_type_word h
words_begin (g.signed_int x y h h') r = ap is_type_word h
words_begin (g.signed_char x y h h') r = ap is_type_word h
words_begin (g.unsigned x h) r = ap is_type_word h
words_begin (g.unsigned_int x y h h') r = ap is_type_word h
words_begin (g.unsigned_char x y h h') r = ap is_type_word h
words_begin (g.void x h) r = ap is_type_word h
words_begin (g.struct x y h h') r = ap is_type_word h

pub base_begins : {a : List Symbol} {t : Base} → g.BaseReads a t → (r : List Symbol) → begins_type (head (a ++ r)) ≡ true
base_begins (g.BaseReads.plain d) r = words_begin d r
base_begins (g.BaseReads.constant x h d) r = ap is_type_word h

type_begins : {a : List Symbol} {t : TypeName} → g.TypeReads a t → (r : List Symbol) → begins_type (head (a ++ r)) ≡ true
type_begins (g.TypeReads.named {a = a} {s = s} d d') r = ap (λ z. begins_type (head z)) (append_assoc a s r) ∙ base_begins d (s ++ r)

pub true_false : true ≡ false → ⊥
true_false h = cc

word_not : (kind : Kind) → is_type_word kind ≡ false → (same k.KwInt kind ≡ false) × (same k.KwChar kind ≡ false)
word_not k.KwInt h = absurd (true_false h)
word_not k.KwChar h = absurd (true_false h)
word_not _ h = (refl, refl)

no_word : (r : List Symbol) → begins_type (head r) ≡ false → (taken k.KwInt (head r) ≡ None) × (taken k.KwChar (head r) ≡ None)
no_word [] h = (refl, refl)
no_word (x ∷ r) h = let n = word_not x.kind h in (not_taken k.KwInt x n.0, not_taken k.KwChar x n.1)

pub words_complete : {a : List Symbol} {at : ℕ} {t : BaseKind} → g.BaseWords a at t → (r : List Symbol) → begins_type (head r) ≡ false → runs BaseWord (a ++ r) ≡ (Some (at, t), r)
words_complete (g.int x h) r n =
    runs_walk BaseWord (x ∷ r)
    ∙ try_take k.KwInt (λ x. Ret (x.at, base.Int)) words_from_char x (r) h
words_complete (g.char x h) r n =
    runs_walk BaseWord (x ∷ r)
    ∙ try_other k.KwInt (λ x. Ret (x.at, base.Int)) words_from_char k.KwChar x (r) h refl
    ∙ try_take k.KwChar (λ x. Ret (x.at, base.Char)) words_from_void x (r) h
words_complete (g.void x h) r n =
    runs_walk BaseWord (x ∷ r)
    ∙ try_other k.KwInt (λ x. Ret (x.at, base.Int)) words_from_char k.KwVoid x (r) h refl
    ∙ try_other k.KwChar (λ x. Ret (x.at, base.Char)) words_from_void k.KwVoid x (r) h refl
    ∙ try_take k.KwVoid (λ x. Ret (x.at, base.Void)) words_from_signed x (r) h
words_complete (g.signed x h) r n =
    runs_walk BaseWord (x ∷ r)
    ∙ try_other k.KwInt (λ x. Ret (x.at, base.Int)) words_from_char k.KwSigned x (r) h refl
    ∙ try_other k.KwChar (λ x. Ret (x.at, base.Char)) words_from_void k.KwSigned x (r) h refl
    ∙ try_other k.KwVoid (λ x. Ret (x.at, base.Void)) words_from_signed k.KwSigned x (r) h refl
    ∙ try_take k.KwSigned signed_words words_from_unsigned x (r) h
    ∙ try_no k.KwInt (λ y. Ret (y.at, base.Int)) (try k.KwChar (λ y. Ret (y.at, base.Char)) (Ret (x.at, base.Int))) r (no_word r n).0
    ∙ try_no k.KwChar (λ y. Ret (y.at, base.Char)) (Ret (x.at, base.Int)) r (no_word r n).1
words_complete (g.signed_int x y h h') r n =
    runs_walk BaseWord (x ∷ y ∷ r)
    ∙ try_other k.KwInt (λ x. Ret (x.at, base.Int)) words_from_char k.KwSigned x (y ∷ r) h refl
    ∙ try_other k.KwChar (λ x. Ret (x.at, base.Char)) words_from_void k.KwSigned x (y ∷ r) h refl
    ∙ try_other k.KwVoid (λ x. Ret (x.at, base.Void)) words_from_signed k.KwSigned x (y ∷ r) h refl
    ∙ try_take k.KwSigned signed_words words_from_unsigned x (y ∷ r) h
    ∙ try_take k.KwInt (λ y. Ret (y.at, base.Int)) (try k.KwChar (λ y. Ret (y.at, base.Char)) (Ret (x.at, base.Int))) y r h'
words_complete (g.signed_char x y h h') r n =
    runs_walk BaseWord (x ∷ y ∷ r)
    ∙ try_other k.KwInt (λ x. Ret (x.at, base.Int)) words_from_char k.KwSigned x (y ∷ r) h refl
    ∙ try_other k.KwChar (λ x. Ret (x.at, base.Char)) words_from_void k.KwSigned x (y ∷ r) h refl
    ∙ try_other k.KwVoid (λ x. Ret (x.at, base.Void)) words_from_signed k.KwSigned x (y ∷ r) h refl
    ∙ try_take k.KwSigned signed_words words_from_unsigned x (y ∷ r) h
    ∙ try_other k.KwInt (λ y. Ret (y.at, base.Int)) (try k.KwChar (λ y. Ret (y.at, base.Char)) (Ret (x.at, base.Int))) k.KwChar y r h' refl
    ∙ try_take k.KwChar (λ y. Ret (y.at, base.Char)) (Ret (x.at, base.Int)) y r h'
words_complete (g.unsigned x h) r n =
    runs_walk BaseWord (x ∷ r)
    ∙ try_other k.KwInt (λ x. Ret (x.at, base.Int)) words_from_char k.KwUnsigned x (r) h refl
    ∙ try_other k.KwChar (λ x. Ret (x.at, base.Char)) words_from_void k.KwUnsigned x (r) h refl
    ∙ try_other k.KwVoid (λ x. Ret (x.at, base.Void)) words_from_signed k.KwUnsigned x (r) h refl
    ∙ try_other k.KwSigned signed_words words_from_unsigned k.KwUnsigned x (r) h refl
    ∙ try_take k.KwUnsigned unsigned_words words_from_struct x (r) h
    ∙ try_no k.KwInt (λ y. Ret (y.at, base.UnsignedInt)) (try k.KwChar (λ y. Ret (y.at, base.UnsignedChar)) (Ret (x.at, base.UnsignedInt))) r (no_word r n).0
    ∙ try_no k.KwChar (λ y. Ret (y.at, base.UnsignedChar)) (Ret (x.at, base.UnsignedInt)) r (no_word r n).1
words_complete (g.unsigned_int x y h h') r n =
    runs_walk BaseWord (x ∷ y ∷ r)
    ∙ try_other k.KwInt (λ x. Ret (x.at, base.Int)) words_from_char k.KwUnsigned x (y ∷ r) h refl
    ∙ try_other k.KwChar (λ x. Ret (x.at, base.Char)) words_from_void k.KwUnsigned x (y ∷ r) h refl
    ∙ try_other k.KwVoid (λ x. Ret (x.at, base.Void)) words_from_signed k.KwUnsigned x (y ∷ r) h refl
    ∙ try_other k.KwSigned signed_words words_from_unsigned k.KwUnsigned x (y ∷ r) h refl
    ∙ try_take k.KwUnsigned unsigned_words words_from_struct x (y ∷ r) h
    ∙ try_take k.KwInt (λ y. Ret (y.at, base.UnsignedInt)) (try k.KwChar (λ y. Ret (y.at, base.UnsignedChar)) (Ret (x.at, base.UnsignedInt))) y r h'
words_complete (g.unsigned_char x y h h') r n =
    runs_walk BaseWord (x ∷ y ∷ r)
    ∙ try_other k.KwInt (λ x. Ret (x.at, base.Int)) words_from_char k.KwUnsigned x (y ∷ r) h refl
    ∙ try_other k.KwChar (λ x. Ret (x.at, base.Char)) words_from_void k.KwUnsigned x (y ∷ r) h refl
    ∙ try_other k.KwVoid (λ x. Ret (x.at, base.Void)) words_from_signed k.KwUnsigned x (y ∷ r) h refl
    ∙ try_other k.KwSigned signed_words words_from_unsigned k.KwUnsigned x (y ∷ r) h refl
    ∙ try_take k.KwUnsigned unsigned_words words_from_struct x (y ∷ r) h
    ∙ try_other k.KwInt (λ y. Ret (y.at, base.UnsignedInt)) (try k.KwChar (λ y. Ret (y.at, base.UnsignedChar)) (Ret (x.at, base.UnsignedInt))) k.KwChar y r h' refl
    ∙ try_take k.KwChar (λ y. Ret (y.at, base.UnsignedChar)) (Ret (x.at, base.UnsignedInt)) y r h'
words_complete (g.struct x y h h') r n =
    runs_walk BaseWord (x ∷ y ∷ r)
    ∙ try_other k.KwInt (λ x. Ret (x.at, base.Int)) words_from_char k.KwStruct x (y ∷ r) h refl
    ∙ try_other k.KwChar (λ x. Ret (x.at, base.Char)) words_from_void k.KwStruct x (y ∷ r) h refl
    ∙ try_other k.KwVoid (λ x. Ret (x.at, base.Void)) words_from_signed k.KwStruct x (y ∷ r) h refl
    ∙ try_other k.KwSigned signed_words words_from_unsigned k.KwStruct x (y ∷ r) h refl
    ∙ try_other k.KwUnsigned unsigned_words words_from_struct k.KwStruct x (y ∷ r) h refl
    ∙ try_take k.KwStruct struct_words Fail x (y ∷ r) h
    ∙ try_take k.Id (λ y. Ret (y.at, base.Struct y.text)) Fail y r h'

not_const : {a : List Symbol} {at : ℕ} {t : BaseKind} → g.BaseWords a at t → (r : List Symbol) → taken k.KwConst (head (a ++ r)) ≡ None
not_const (g.int x h) r = other k.KwConst k.KwInt x h refl
not_const (g.char x h) r = other k.KwConst k.KwChar x h refl
not_const (g.signed x h) r = other k.KwConst k.KwSigned x h refl
not_const (g.signed_int x y h h') r = other k.KwConst k.KwSigned x h refl
not_const (g.signed_char x y h h') r = other k.KwConst k.KwSigned x h refl
not_const (g.unsigned x h) r = other k.KwConst k.KwUnsigned x h refl
not_const (g.unsigned_int x y h h') r = other k.KwConst k.KwUnsigned x h refl
not_const (g.unsigned_char x y h h') r = other k.KwConst k.KwUnsigned x h refl
not_const (g.void x h) r = other k.KwConst k.KwVoid x h refl
not_const (g.struct x y h h') r = other k.KwConst k.KwStruct x h refl

pub base_complete : {a : List Symbol} {t : Base} → g.BaseReads a t → (r : List Symbol) → begins_type (head r) ≡ false → runs BaseType (a ++ r) ≡ (Some t, r)
base_complete (g.BaseReads.plain {a = a} {at = at} {kind = t} d) r n =
    runs_walk BaseType (a ++ r)
    ∙ try_no k.KwConst (λ x. base_after true) (base_after false) (a ++ r) (not_const d r)
    ∙ call_ok BaseWord (λ v. Ret (base_from false v)) (a ++ r) (at, t) r (words_complete d r n)
base_complete (g.BaseReads.constant x {a = a} {at = at} {kind = t} h d) r n =
    runs_walk BaseType (x ∷ (a ++ r))
    ∙ try_take k.KwConst (λ x. base_after true) (base_after false) x (a ++ r) h
    ∙ call_ok BaseWord (λ v. Ret (base_from true v)) (a ++ r) (at, t) r (words_complete d r n)

stars_turn : (i : ℕ) (x : Symbol) (r : List Symbol) → x.kind ≡ k.Star → runs (StarsOf i) (x ∷ r) ≡ runs (StarsOf (suc i)) r
stars_turn i x r h =
    runs_walk (StarsOf i) (x ∷ r) ∙ try_take k.Star (λ x. Call (StarsOf (suc i)) Ret) (Ret i) x r h ∙ call_last (StarsOf (suc i)) r

pub stars_read : {s : List Symbol} {n : ℕ} → g.Stars s n → (i : ℕ) (r : List Symbol) → taken k.Star (head r) ≡ None → runs (StarsOf i) (s ++ r) ≡ (Some (i + n), r)
stars_read g.Stars.none i r h =
    let e : i ≡ i + 0 = omega arith in
    runs_walk (StarsOf i) r ∙ try_no k.Star (λ x. Call (StarsOf (suc i)) Ret) (Ret i) r h ∙ ap (λ j. (Some j, r)) e
stars_read (g.Stars.one x {a = a} {n = n} ex s) i r h =
    let e : suc i + n ≡ i + suc n = omega arith in
    stars_turn i x (a ++ r) ex ∙ stars_read s (suc i) r h ∙ ap (λ j. (Some j, r)) e

pub stars_no_type : {s : List Symbol} {n : ℕ} → g.Stars s n → (r : List Symbol) → begins_type (head r) ≡ false → begins_type (head (s ++ r)) ≡ false
stars_no_type g.Stars.none r h = h
stars_no_type (g.Stars.one x ex s) r h = ap is_type_word ex

pub type_complete : {a : List Symbol} {t : TypeName} → g.TypeReads a t → (r : List Symbol) → begins_type (head r) ≡ false → taken k.Star (head r) ≡ None → runs TypeOf (a ++ r) ≡ (Some t, r)
type_complete (g.TypeReads.named {a = a} {s = s} {t = t} {n = n} d d') r b c =
    let e : 0 + n ≡ n = omega arith in
    ap (runs TypeOf) (append_assoc a s r)
    ∙ runs_walk TypeOf (a ++ (s ++ r))
    ∙ call_ok BaseType type_stars (a ++ (s ++ r)) t (s ++ r) (base_complete d (s ++ r) (stars_no_type d' r b))
    ∙ call_ok (StarsOf 0) (λ n. Ret (record { base = t; stars = n })) (s ++ r) n r (stars_read d' 0 r c ∙ ap (λ j. (Some j, r)) e)

-- Where a loop ends.

pub after_ends : (t : Expr) (r : List Symbol) → next_binds r < 11 → runs (After t) r ≡ (Some t, r)
after_ends t [] h = runs_walk (After t) []
after_ends t (x ∷ r) h =
    let n = no_postfix x.kind h in
    runs_walk (After t) (x ∷ r)
    ∙ try_no k.LBracket (index_open t) (after_dot t) (x ∷ r) (not_taken k.LBracket x n.0)
    ∙ try_no k.Dot (λ x. try k.Id (member_name t) Fail) (after_arrow t) (x ∷ r) (not_taken k.Dot x n.1)
    ∙ try_no k.Arrow (λ x. try k.Id (arrow_name t) Fail) (Ret t) (x ∷ r) (not_taken k.Arrow x n.2)

pub further_ends : (l : Level) (t : Expr) (r : List Symbol) → next_binds r < number l → runs (Further l t) r ≡ (Some t, r)
further_ends l t [] h = runs_walk (Further l t) []
further_ends l t (x ∷ r) h = runs_walk (Further l t) (x ∷ r) ∙ ap (λ o. walk runs (further_at l t x o) (x ∷ r)) (no_operator l x.kind h)

further_turn : (l : Level) (t v : Expr) (x : Symbol) (op : BinaryOp) (r q : List Symbol) → operator_of l x.kind ≡ Some op → runs (OperandOf l) r ≡ (Some v, q)
    → runs (Further l t) (x ∷ r) ≡ runs (Further l (e.Binary x.at op t v)) q
further_turn l t v x op r q o b =
    runs_walk (Further l t) (x ∷ r)
    ∙ ap (λ o. walk runs (further_at l t x o) (x ∷ r)) o
    ∙ call_ok (OperandOf l) (λ v. Call (Further l (e.Binary x.at op t v)) Ret) r v q b
    ∙ call_last (Further l (e.Binary x.at op t v)) q

index_turn : (t i : Expr) (x y : Symbol) (r q : List Symbol) → x.kind ≡ k.LBracket → runs (ChainOf level.Or) r ≡ (Some i, y ∷ q) → y.kind ≡ k.RBracket
    → runs (After t) (x ∷ r) ≡ runs (After (e.Index x.at t i)) q
index_turn t i x y r q h b h' =
    runs_walk (After t) (x ∷ r)
    ∙ try_take k.LBracket (index_open t) (after_dot t) x r h
    ∙ call_ok (ChainOf level.Or) (λ i. expect k.RBracket (index_close t x i)) r i (y ∷ q) b
    ∙ expect_take k.RBracket (index_close t x i) y q h'
    ∙ call_last (After (e.Index x.at t i)) q

member_turn : (t : Expr) (x y : Symbol) (q : List Symbol) → x.kind ≡ k.Dot → y.kind ≡ k.Id → runs (After t) (x ∷ y ∷ q) ≡ runs (After (e.Member y.at t y.text)) q
member_turn t x y q h h' =
    runs_walk (After t) (x ∷ y ∷ q)
    ∙ try_other k.LBracket (index_open t) (after_dot t) k.Dot x (y ∷ q) h refl
    ∙ try_take k.Dot (λ x. try k.Id (member_name t) Fail) (after_arrow t) x (y ∷ q) h
    ∙ try_take k.Id (member_name t) Fail y q h'
    ∙ call_last (After (e.Member y.at t y.text)) q

arrow_turn : (t : Expr) (x y : Symbol) (q : List Symbol) → x.kind ≡ k.Arrow → y.kind ≡ k.Id → runs (After t) (x ∷ y ∷ q) ≡ runs (After (e.Arrow y.at t y.text)) q
arrow_turn t x y q h h' =
    runs_walk (After t) (x ∷ y ∷ q)
    ∙ try_other k.LBracket (index_open t) (after_dot t) k.Arrow x (y ∷ q) h refl
    ∙ try_other k.Dot (λ x. try k.Id (member_name t) Fail) (after_arrow t) k.Arrow x (y ∷ q) h refl
    ∙ try_take k.Arrow (λ x. try k.Id (arrow_name t) Fail) (Ret t) x (y ∷ q) h
    ∙ try_take k.Id (arrow_name t) Fail y q h'
    ∙ call_last (After (e.Arrow y.at t y.text)) q

-- How an operand that is no cast begins: with a parenthesis, or so that `Plain` reads it. What is read of it is o.
data Begun (a r : List Symbol) (o : Out Expr) : Type 0 where
  paren : (y : Symbol) (c : List Symbol) → a ≡ y ∷ c → y.kind ≡ k.LParen → begins_type (head (c ++ r)) ≡ false → runs (Inner y) (c ++ r) ≡ o → Begun a r o
  plain : taken k.LParen (head (a ++ r)) ≡ None → runs Plain (a ++ r) ≡ o → Begun a r o

extended : (a c r : List Symbol) (o p : Out Expr) → Begun a (c ++ r) o → o ≡ p → Begun (a ++ c) r p
extended a c r o p (paren y f e h n b) q =
    let e1 : (f ++ c) ++ r ≡ f ++ (c ++ r) = append_assoc f c r in
    paren y (f ++ c) (ap (λ z. z ++ c) e) h (ap (λ z. begins_type (head z)) e1 ∙ n) (ap (runs (Inner y)) e1 ∙ b ∙ q)
extended a c r o p (plain n b) q =
    let e1 : (a ++ c) ++ r ≡ a ++ (c ++ r) = append_assoc a c r in
    plain (ap (λ z. taken k.LParen (head z)) e1 ∙ n) (ap (runs Plain) e1 ∙ b ∙ q)

same_begun : (a r : List Symbol) (o p : Out Expr) → Begun a r o → o ≡ p → Begun a r p
same_begun a r o p (paren y c e h n b) q = paren y c e h n (b ∙ q)
same_begun a r o p (plain n b) q = plain n (b ∙ q)

open_inner : (y : Symbol) (c r : List Symbol) → y.kind ≡ k.LParen → begins_type (head (c ++ r)) ≡ false → runs UnaryOf (y ∷ (c ++ r)) ≡ runs (Inner y) (c ++ r)
open_inner y c r h n =
    runs_walk UnaryOf (y ∷ (c ++ r))
    ∙ try_take k.LParen (λ x. Call (Open x) Ret) (Call Plain Ret) y (c ++ r) h
    ∙ call_last (Open y) (c ++ r)
    ∙ runs_walk (Open y) (c ++ r)
    ∙ ap (λ b. walk runs (open_at y b) (c ++ r)) n
    ∙ call_last (Inner y) (c ++ r)

begun_unary : (a r : List Symbol) (o : Out Expr) → Begun a r o → runs UnaryOf (a ++ r) ≡ o
begun_unary a r o (paren y c e h n b) = ap (λ z. runs UnaryOf (z ++ r)) e ∙ open_inner y c r h n ∙ b
begun_unary a r o (plain n b) = runs_walk UnaryOf (a ++ r) ∙ try_no k.LParen (λ x. Call (Open x) Ret) (Call Plain Ret) (a ++ r) n ∙ call_last Plain (a ++ r) ∙ b

begun_sizeof : (x : Symbol) (a r : List Symbol) (t : Expr) → Begun a r (Some t, r) → runs (SizeofOf x) (a ++ r) ≡ (Some (e.Sizeof x.at t), r)
begun_sizeof x a r t (paren y c is h n b) =
    ap (λ z. runs (SizeofOf x) (z ++ r)) is
    ∙ runs_walk (SizeofOf x) (y ∷ (c ++ r))
    ∙ try_take k.LParen (λ y. Call (SizeofOpen x y) Ret) (sizeof_plain x) y (c ++ r) h
    ∙ call_last (SizeofOpen x y) (c ++ r)
    ∙ runs_walk (SizeofOpen x y) (c ++ r)
    ∙ ap (λ b. walk runs (sizeof_open_at x y b) (c ++ r)) n
    ∙ call_ok (Inner y) (λ t. Ret (e.Sizeof x.at t)) (c ++ r) t r b
begun_sizeof x a r t (plain n b) =
    runs_walk (SizeofOf x) (a ++ r)
    ∙ try_no k.LParen (λ y. Call (SizeofOpen x y) Ret) (sizeof_plain x) (a ++ r) n
    ∙ call_ok Plain (λ t. Ret (e.Sizeof x.at t)) (a ++ r) t r b

-- a token that is an expression by itself
pub alone : (x : Symbol) (t : Expr) (r : List Symbol) → taken k.KwSizeof (Some x) ≡ None → prefix_of x.kind ≡ None → runs PrimaryOf (x ∷ r) ≡ (Some t, r)
    → runs Plain (x ∷ r) ≡ runs (After t) r
alone x t r hp hq h =
    runs_walk Plain (x ∷ r)
    ∙ try_no k.KwSizeof (λ x. Call (SizeofOf x) Ret) (Peek prefix_by) (x ∷ r) hp
    ∙ ap (λ o. walk runs (if_some o (λ op. Eat (prefixed x op)) (Call PostfixOf Ret)) (x ∷ r)) hq
    ∙ call_last PostfixOf (x ∷ r)
    ∙ runs_walk PostfixOf (x ∷ r)
    ∙ call_ok PrimaryOf (λ t. Call (After t) Ret) (x ∷ r) t r h
    ∙ call_last (After t) r

pub closes : (kind : Kind) (y : Symbol) (r : List Symbol) → y.kind ≡ kind → binds kind ≡ 0 → next_binds (y ∷ r) < 1
closes kind y r h b = let e : binds y.kind ≡ 0 = ap binds h ∙ b in omega arith

mutual
  postfix_begun : {a : List Symbol} {t : Expr} → g.Postfix a t → (r : List Symbol) → Begun a r (runs (After t) r)
  postfix_begun (g.primary (g.name x h)) r =
      plain (other k.LParen k.Id x h refl)
      (alone x (e.Name x.at x.text) r (other k.KwSizeof k.Id x h refl) (ap prefix_of h)
      (runs_walk PrimaryOf (x ∷ r) ∙ try_take k.Id (λ x. Ret (e.Name x.at x.text)) primary_literal x r h))
  postfix_begun (g.primary (g.number x h)) r =
      plain (other k.LParen k.Num x h refl)
      (alone x (number_of x) r (other k.KwSizeof k.Num x h refl) (ap prefix_of h)
      (runs_walk PrimaryOf (x ∷ r) ∙ try_other k.Id (λ x. Ret (e.Name x.at x.text)) primary_literal k.Num x r h refl
      ∙ try_take k.Num (λ x. Ret (number_of x)) (try k.Char (λ x. Ret (character_of x)) Fail) x r h))
  postfix_begun (g.primary (g.character x h)) r =
      plain (other k.LParen k.Char x h refl)
      (alone x (character_of x) r (other k.KwSizeof k.Char x h refl) (ap prefix_of h)
      (runs_walk PrimaryOf (x ∷ r) ∙ try_other k.Id (λ x. Ret (e.Name x.at x.text)) primary_literal k.Char x r h refl
      ∙ try_other k.Num (λ x. Ret (number_of x)) (try k.Char (λ x. Ret (character_of x)) Fail) k.Char x r h refl
      ∙ try_take k.Char (λ x. Ret (character_of x)) Fail x r h))
  postfix_begun (g.primary (g.parens x y {a = a} {t = t} h d h')) r =
      let e1 : (a ++ y ∷ []) ++ r ≡ a ++ y ∷ r = append_assoc a (y ∷ []) r in
      paren x (a ++ y ∷ []) refl h (ap (λ z. begins_type (head z)) e1 ∙ chain_no_type d (y ∷ r))
      (ap (runs (Inner x)) e1
      ∙ runs_walk (Inner x) (a ++ y ∷ r)
      ∙ call_ok (ChainOf level.Or) (λ t. expect k.RParen (inner_close t)) (a ++ y ∷ r) t (y ∷ r)
      (chain_complete d (y ∷ r) (omega (arith, closes k.RParen y r h' refl)) ∙ further_ends level.Or t (y ∷ r) (closes k.RParen y r h' refl))
      ∙ expect_take k.RParen (inner_close t) y r h'
      ∙ call_last (After t) r)
  postfix_begun (g.index x y {a = a} {c = c} {t = t} {i = i} d h d' h') r =
      let e1 : (x ∷ (c ++ y ∷ [])) ++ r ≡ x ∷ (c ++ y ∷ r) = simp append_assoc in
      extended a (x ∷ (c ++ y ∷ [])) r (runs (After t) ((x ∷ (c ++ y ∷ [])) ++ r)) (runs (After (e.Index x.at t i)) r) (postfix_begun d ((x ∷ (c ++ y ∷ [])) ++ r))
      (ap (runs (After t)) e1
      ∙ index_turn t i x y (c ++ y ∷ r) r h
      (chain_complete d' (y ∷ r) (omega (arith, closes k.RBracket y r h' refl)) ∙ further_ends level.Or i (y ∷ r) (closes k.RBracket y r h' refl)) h')
  postfix_begun (g.member x y {a = a} {t = t} d h h') r =
      extended a (x ∷ y ∷ []) r (runs (After t) (x ∷ y ∷ r)) (runs (After (e.Member y.at t y.text)) r) (postfix_begun d (x ∷ y ∷ r)) (member_turn t x y r h h')
  postfix_begun (g.arrow x y {a = a} {t = t} d h h') r =
      extended a (x ∷ y ∷ []) r (runs (After t) (x ∷ y ∷ r)) (runs (After (e.Arrow y.at t y.text)) r) (postfix_begun d (x ∷ y ∷ r)) (arrow_turn t x y r h h')

  uncast_begun : {a : List Symbol} {t : Expr} → g.Uncast a t → (r : List Symbol) → next_binds r < 11 → Begun a r (Some t, r)
  uncast_begun (g.postfix {a = a} {t = t} d) r b = same_begun a r (runs (After t) r) (Some t, r) (postfix_begun d r) (after_ends t r b)
  uncast_begun (g.prefix x op {a = a} {t = t} h d) r b =
      let n = prefix_is x.kind op h in
      plain (not_taken k.LParen x n.0)
      (runs_walk Plain (x ∷ (a ++ r))
      ∙ try_no k.KwSizeof (λ x. Call (SizeofOf x) Ret) (Peek prefix_by) (x ∷ (a ++ r)) (not_taken k.KwSizeof x n.1)
      ∙ ap (λ o. walk runs (if_some o (λ op. Eat (prefixed x op)) (Call PostfixOf Ret)) (x ∷ (a ++ r))) h
      ∙ call_ok UnaryOf (λ t. Ret (e.Unary x.at op t)) (a ++ r) t r (unary_complete d r b))
  uncast_begun (g.sizeof_type x y z {a = a} {t = t} h h' d h'') r b =
      let e1 : (a ++ z ∷ []) ++ r ≡ a ++ z ∷ r = append_assoc a (z ∷ []) r in
      plain (other k.LParen k.KwSizeof x h refl)
      (ap (λ q. runs Plain (x ∷ y ∷ q)) e1
      ∙ runs_walk Plain (x ∷ y ∷ (a ++ z ∷ r))
      ∙ try_take k.KwSizeof (λ x. Call (SizeofOf x) Ret) (Peek prefix_by) x (y ∷ (a ++ z ∷ r)) h
      ∙ call_last (SizeofOf x) (y ∷ (a ++ z ∷ r))
      ∙ runs_walk (SizeofOf x) (y ∷ (a ++ z ∷ r))
      ∙ try_take k.LParen (λ y. Call (SizeofOpen x y) Ret) (sizeof_plain x) y (a ++ z ∷ r) h'
      ∙ call_last (SizeofOpen x y) (a ++ z ∷ r)
      ∙ runs_walk (SizeofOpen x y) (a ++ z ∷ r)
      ∙ ap (λ b. walk runs (sizeof_open_at x y b) (a ++ z ∷ r)) (type_begins d (z ∷ r))
      ∙ call_ok TypeOf (λ t. expect k.RParen (Ret (e.SizeofType x.at t))) (a ++ z ∷ r) t (z ∷ r) (type_complete d (z ∷ r) (ap is_type_word h'') (other k.Star k.RParen z h'' refl))
      ∙ expect_take k.RParen (Ret (e.SizeofType x.at t)) z r h'')
  uncast_begun (g.sizeof x {a = a} {t = t} h d) r b =
      plain (other k.LParen k.KwSizeof x h refl)
      (runs_walk Plain (x ∷ (a ++ r))
      ∙ try_take k.KwSizeof (λ x. Call (SizeofOf x) Ret) (Peek prefix_by) x (a ++ r) h
      ∙ call_last (SizeofOf x) (a ++ r)
      ∙ begun_sizeof x a r t (uncast_begun d r b))

  pub unary_complete : {a : List Symbol} {t : Expr} → g.Unary a t → (r : List Symbol) → next_binds r < 11 → runs UnaryOf (a ++ r) ≡ (Some t, r)
  unary_complete (g.uncast {a = a} {t = t} d) r b = begun_unary a r (Some t, r) (uncast_begun d r b)
  unary_complete (g.cast x y {a = a} {c = c} {t = t} {v = v} h d h' d') r b =
      ap (λ q. runs UnaryOf (x ∷ q)) (append_assoc a (y ∷ c) r)
      ∙ runs_walk UnaryOf (x ∷ (a ++ y ∷ (c ++ r)))
      ∙ try_take k.LParen (λ x. Call (Open x) Ret) (Call Plain Ret) x (a ++ y ∷ (c ++ r)) h
      ∙ call_last (Open x) (a ++ y ∷ (c ++ r))
      ∙ runs_walk (Open x) (a ++ y ∷ (c ++ r))
      ∙ ap (λ b. walk runs (open_at x b) (a ++ y ∷ (c ++ r))) (type_begins d (y ∷ (c ++ r)))
      ∙ call_ok TypeOf (λ t. expect k.RParen (cast_operand x t)) (a ++ y ∷ (c ++ r)) t (y ∷ (c ++ r)) (type_complete d (y ∷ (c ++ r)) (ap is_type_word h') (other k.Star k.RParen y h' refl))
      ∙ expect_take k.RParen (cast_operand x t) y (c ++ r) h'
      ∙ call_ok UnaryOf (λ v. Ret (e.Cast x.at t v)) (c ++ r) v r (unary_complete d' r b)

  pub operand_complete : {l : Level} {a : List Symbol} {t : Expr} → g.Operand l a t → (r : List Symbol) → next_binds r ≤ number l → runs (OperandOf l) (a ++ r) ≡ (Some t, r)
  operand_complete (g.of_or {a = a} {t = t} d) r b =
      runs_walk (OperandOf level.Or) (a ++ r) ∙ call_last (ChainOf level.And) (a ++ r) ∙ chain_complete d r (omega arith) ∙ further_ends level.And t r (omega arith)
  operand_complete (g.of_and {a = a} {t = t} d) r b =
      runs_walk (OperandOf level.And) (a ++ r) ∙ call_last (ChainOf level.BitOr) (a ++ r) ∙ chain_complete d r (omega arith) ∙ further_ends level.BitOr t r (omega arith)
  operand_complete (g.of_bit_or {a = a} {t = t} d) r b =
      runs_walk (OperandOf level.BitOr) (a ++ r) ∙ call_last (ChainOf level.BitXor) (a ++ r) ∙ chain_complete d r (omega arith) ∙ further_ends level.BitXor t r (omega arith)
  operand_complete (g.of_bit_xor {a = a} {t = t} d) r b =
      runs_walk (OperandOf level.BitXor) (a ++ r) ∙ call_last (ChainOf level.BitAnd) (a ++ r) ∙ chain_complete d r (omega arith) ∙ further_ends level.BitAnd t r (omega arith)
  operand_complete (g.of_bit_and {a = a} {t = t} d) r b =
      runs_walk (OperandOf level.BitAnd) (a ++ r) ∙ call_last (ChainOf level.Equality) (a ++ r) ∙ chain_complete d r (omega arith) ∙ further_ends level.Equality t r (omega arith)
  operand_complete (g.of_equality {a = a} {t = t} d) r b =
      runs_walk (OperandOf level.Equality) (a ++ r) ∙ call_last (ChainOf level.Order) (a ++ r) ∙ chain_complete d r (omega arith) ∙ further_ends level.Order t r (omega arith)
  operand_complete (g.of_order {a = a} {t = t} d) r b =
      runs_walk (OperandOf level.Order) (a ++ r) ∙ call_last (ChainOf level.Shift) (a ++ r) ∙ chain_complete d r (omega arith) ∙ further_ends level.Shift t r (omega arith)
  operand_complete (g.of_shift {a = a} {t = t} d) r b =
      runs_walk (OperandOf level.Shift) (a ++ r) ∙ call_last (ChainOf level.Sum) (a ++ r) ∙ chain_complete d r (omega arith) ∙ further_ends level.Sum t r (omega arith)
  operand_complete (g.of_sum {a = a} {t = t} d) r b =
      runs_walk (OperandOf level.Sum) (a ++ r) ∙ call_last (ChainOf level.Product) (a ++ r) ∙ chain_complete d r (omega arith) ∙ further_ends level.Product t r (omega arith)
  operand_complete (g.of_product {a = a} {t = t} d) r b =
      runs_walk (OperandOf level.Product) (a ++ r) ∙ call_last UnaryOf (a ++ r) ∙ unary_complete d r (omega arith)

  chain_complete : {l : Level} {a : List Symbol} {t : Expr} → g.Chain l a t → (r : List Symbol) → next_binds r ≤ number l → runs (ChainOf l) (a ++ r) ≡ runs (Further l t) r
  chain_complete (g.operand {l = l} {a = a} {t = t} d) r b =
      runs_walk (ChainOf l) (a ++ r)
      ∙ call_ok (OperandOf l) (λ t. Call (Further l t) Ret) (a ++ r) t r (operand_complete d r b)
      ∙ call_last (Further l t) r
  chain_complete (g.binary x op {l = l} {a = a} {c = c} {t = t} {v = v} d h d') r le =
      ap (runs (ChainOf l)) (append_assoc a (x ∷ c) r)
      ∙ chain_complete d (x ∷ (c ++ r)) (omega (arith, operator_binds l x.kind op h))
      ∙ further_turn l t v x op (c ++ r) r h (operand_complete d' r le)

-- The whole expression.

pub complete : (a : List Symbol) (t : Expr) → g.ReadsExpr a t → (r : List Symbol) → next_binds r < 1 → runs (ChainOf level.Or) (a ++ r) ≡ (Some t, r)
complete a t d r b = chain_complete d r (omega arith) ∙ further_ends level.Or t r b

pub whole_expression : (ts : List Symbol) (t : Expr) → g.ReadsExpr ts t → runs (ChainOf level.Or) ts ≡ (Some t, [])
whole_expression ts t d = ap (runs (ChainOf level.Or)) (sym (append-nil ts)) ∙ complete ts t d [] (omega arith)

pub value_of_pair : {A : Type 0} {a b : Option A} {r s : List Symbol} → ◌≡◌ {A = Out A} (a, r) (b, s) → a ≡ b
value_of_pair h = ap (λ o. o.0) h

pub same_some : {A : Type 0} {a b : A} → Some a ≡ Some b → a ≡ b
same_some h = cc

-- Tokens are one expression at most.
pub one_expression : (ts : List Symbol) (t v : Expr) → g.ReadsExpr ts t → g.ReadsExpr ts v → v ≡ t
one_expression ts t v d d' = same_some (value_of_pair (sym (whole_expression ts v d') ∙ whole_expression ts t d))
