-- Programs look one token ahead, and end: enough fuel is as good as any.
use Rattle.std.proofs.Common.{◌≡◌, ℕ, zero, suc, ◌+◌, ◌*◌, ◌<◌, List, [], ◌∷◌, ◌++◌, length, Option, Some, None, refl, sym, ap, ◌∙◌, subst, arith, append_assoc, length-append, ◌≤◌, Bool, true, false}
use Rattle.text_grammar.specs.declared.kind.Kind.{Kind}
use Rattle.text_grammar.specs.declared.kind.Kind.TheVariants as k
use Rattle.text_grammar.specs.declared.kind.Level.{Level}
use Rattle.text_grammar.specs.declared.kind.Level.TheVariants as level
use Rattle.text_grammar.specs.declared.tree.UnaryOp.{UnaryOp}
use Rattle.text_grammar.specs.declared.tree.BinaryOp.{BinaryOp}
use Rattle.text_grammar.specs.declared.tree.Expr.{Expr}
use Rattle.text_grammar.specs.Grammar.{Symbol, prefix_of, operator_of, head_of, all_named}
use Rattle.text_grammar.specs.declared.tree.Simple.{Simple}
use Rattle.text_grammar.specs.declared.tree.Declarator.{Declarator}
use Rattle.text_grammar.specs.declared.tree.Locals.{Locals}
use Rattle.text_grammar.specs.declared.tree.Linkage.{Linkage}
use Rattle.text_grammar.specs.declared.tree.Linkage.TheVariants as linkage
use Rattle.text_grammar.specs.declared.tree.Head.{Head}
use Rattle.text_grammar.specs.declared.tree.Base.{Base}
use Rattle.text_grammar.specs.laws.Programs.{head, Out, Rule, Sort, Prog, Calls, BaseWord, BaseType, StarsOf, TypeOf, PrimaryOf, PostfixOf, After, Inner, Open, Plain, SizeofOf, SizeofOpen, UnaryOf, OperandOf, ChainOf, Further, Ret, Fail, Peek, Eat, Call, taken, if_some, try, expect, base_words, begins_type, open_at, sizeof_open_at, prefixed, prefix_by, further_at, body, and_then, walk, exec, rank, fuel, runs, Resume, ArgumentsOf, CallTail, ValueOf, SimpleOf, StatementOf, GuardedOf, Choice, BodyOf, StatementsOf, for_step, for_test, for_first, assigned, assign_rest, LengthsOf, FieldOf, FieldsOf, MemberOf, MembersOf, InitialiserOf, ItemsOf, ObjectTail, ObjectOf, ObjectsOf, ParameterTail, ParameterOf, ParametersOf, ParameterList, DeclaredOf, LocalOf, LocalItemsOf, LocalListsOf, ExternalOf, UnitOf, head_at, object_init, object_value, locals_from, locals_at, declarator, specified, head_end, function_locals}
use Rattle.text_grammar.specs.laws.Programs.{level_rank}
use Rattle.text_grammar.specs.laws.Sound.{eats, consumed}

-- Behind a rule that always takes a token, any rule may be called.
abbrev pub behind : Rule → ℕ → ℕ
behind StatementOf b = 32
behind MemberOf b = 32
behind ExternalOf b = 32
behind _ b = b

-- Before the first token it takes, a program calls only rules of lower rank.
abbrev pub Ranked : {A : Type 0} → ℕ → Prog A → Type 0
Ranked b (Ret a) = Unit {0}
Ranked b Fail = Unit {0}
Ranked b (Peek f) = (h : Option Symbol) → Ranked b (f h)
Ranked b (Eat p) = Ranked 32 p
Ranked b (Call m f) = (rank m < b) × ((v : Sort m) → Ranked (behind m b) (f v))

ranked_try : {A : Type 0} (b : ℕ) (kind : Kind) (f : Symbol → Prog A) (p : Prog A) → ((x : Symbol) → Ranked 32 (f x)) → Ranked b p → Ranked b (try kind f p)
ranked_try b kind f p r s h = go (taken kind h)
  where
    go : (o : Option Symbol) → Ranked b (if_some o (λ x. Eat (f x)) p)
    go None = s
    go (Some x) = r x

ranked_expect : {A : Type 0} (b : ℕ) (kind : Kind) (p : Prog A) → Ranked 32 p → Ranked b (expect kind p)
ranked_expect b kind p r = ranked_try b kind (λ x. p) Fail (λ x. r) tt

ranked_words : Ranked 0 (base_words)
ranked_words = ranked_try 0 k.KwInt _ _ (λ x. tt) (ranked_try 0 k.KwChar _ _ (λ x. tt) (ranked_try 0 k.KwVoid _ _ (λ x. tt)
    (ranked_try 0 k.KwSigned _ _ (λ x. ranked_try 32 k.KwInt _ _ (λ y. tt) (ranked_try 32 k.KwChar _ _ (λ y. tt) tt))
    (ranked_try 0 k.KwUnsigned _ _ (λ x. ranked_try 32 k.KwInt _ _ (λ y. tt) (ranked_try 32 k.KwChar _ _ (λ y. tt) tt))
    (ranked_try 0 k.KwStruct _ _ (λ x. ranked_try 32 k.Id _ _ (λ y. tt) tt) tt)))))

ranked_prefix : (x : Symbol) (o : Option UnaryOp) → Ranked 2 (if_some o (λ op. Eat (prefixed x op)) (Call PostfixOf Ret))
ranked_prefix x None = (omega arith, λ t. tt)
ranked_prefix x (Some op) = (omega arith, λ t. tt)

ranked_prefix_by : (h : Option Symbol) → Ranked 2 (prefix_by h)
ranked_prefix_by None = (omega arith, λ t. tt)
ranked_prefix_by (Some x) = ranked_prefix x (prefix_of x.kind)

level_low : (l : Level) → level_rank l + 1 < 32
level_low level.Or = omega arith
level_low level.And = omega arith
level_low level.BitOr = omega arith
level_low level.BitXor = omega arith
level_low level.BitAnd = omega arith
level_low level.Equality = omega arith
level_low level.Order = omega arith
level_low level.Shift = omega arith
level_low level.Sum = omega arith
level_low level.Product = omega arith

ranked_further : (l : Level) (t : Expr) (x : Symbol) (o : Option BinaryOp) → Ranked 0 (further_at l t x o)
ranked_further l t x None = tt
ranked_further l t x (Some op) = (omega (arith, level_low l), λ v. (omega arith, λ w. tt))

ranked_open : (x : Symbol) (b : Bool) → Ranked 25 (open_at x b)
ranked_open x true = (omega arith, λ t. ranked_expect 25 k.RParen _ (omega arith, λ v. tt))
ranked_open x false = (omega arith, λ t. tt)

ranked_sizeof_open : (x y : Symbol) (b : Bool) → Ranked 25 (sizeof_open_at x y b)
ranked_sizeof_open x y true = (omega arith, λ t. ranked_expect 25 k.RParen _ tt)
ranked_sizeof_open x y false = (omega arith, λ t. tt)

ranked_assign : (b : ℕ) (t : Expr) → Ranked b (assign_rest t)
ranked_assign b t = ranked_try b k.Assign (assigned t) Fail (λ x. (omega arith, λ v. tt)) tt

ranked_step : (x : Symbol) (i : Option Simple) (t : Option Expr) → Ranked 32 (for_step x i t)
ranked_step x i t = ranked_try 32 k.RParen _ _ (λ y. (omega arith, λ c. tt)) (omega arith, λ p. ranked_expect 32 k.RParen _ (omega arith, λ c. tt))

ranked_test : (x : Symbol) (i : Option Simple) → Ranked 32 (for_test x i)
ranked_test x i = ranked_try 32 k.Semi _ _ (λ y. ranked_step x i None) (omega arith, λ t. ranked_expect 32 k.Semi _ (ranked_step x i (Some t)))

ranked_first : (x : Symbol) → Ranked 32 (for_first x)
ranked_first x = ranked_try 32 k.Semi _ _ (λ y. ranked_test x None) (omega arith, λ i. ranked_expect 32 k.Semi _ (ranked_test x (Some i)))

ranked_init : (b : ℕ) (d : Declarator) → Ranked b (object_init d)
ranked_init b d = ranked_try b k.Assign (object_value d) _ (λ x. (omega arith, λ v. tt)) tt

ranked_head : (h : Head) (b : Bool) → Ranked 32 (head_at h b)
ranked_head h true = ranked_try 32 k.LBrace (function_locals h) (head_end h) (λ z. (omega arith, λ ls. (omega arith, λ ss. tt))) (ranked_expect 32 k.Semi _ tt)
ranked_head h false = ranked_expect 32 k.Semi _ tt

ranked_locals : (b : ℕ) (found : List Locals) (r : Bool) (t : Base) → 2 < b → Ranked b (locals_from found r t)
ranked_locals b found r t h = (h, λ d. (omega arith, λ ds. ranked_expect b k.Semi _ (omega arith, λ v. tt)))

ranked_locals_at : (found : List Locals) (b : Bool) → Ranked 3 (locals_at found b)
ranked_locals_at found true = (omega arith, λ t. ranked_locals 3 found false t (omega arith))
ranked_locals_at found false = tt

ranked_specified : (b : ℕ) (l : Linkage) → 1 < b → Ranked b (specified l)
ranked_specified b l h = (h, λ t. (h, λ v. tt))

ranked : (m : Rule) → Ranked (rank m) (body m)
ranked BaseWord = ranked_words
ranked BaseType = ranked_try 1 k.KwConst _ _ (λ x. (omega arith, λ v. tt)) (omega arith, λ v. tt)
ranked (StarsOf n) = ranked_try 0 k.Star _ _ (λ x. (omega arith, λ v. tt)) tt
ranked TypeOf = (omega arith, λ t. (omega arith, λ n. tt))
ranked PrimaryOf = ranked_try 0 k.Id _ _ (λ x. tt) (ranked_try 0 k.Num _ _ (λ x. tt) (ranked_try 0 k.Char _ _ (λ x. tt) tt))
ranked PostfixOf = (omega arith, λ t. (omega arith, λ v. tt))
ranked (After t) = ranked_try 0 k.LBracket _ _ (λ x. (omega arith, λ i. ranked_expect 32 k.RBracket _ (omega arith, λ v. tt)))
    (ranked_try 0 k.Dot _ _ (λ x. ranked_try 32 k.Id _ _ (λ y. (omega arith, λ v. tt)) tt) (ranked_try 0 k.Arrow _ _ (λ x. ranked_try 32 k.Id _ _ (λ y. (omega arith, λ v. tt)) tt) tt))
ranked (Inner x) = (omega arith, λ t. ranked_expect 24 k.RParen _ (omega arith, λ v. tt))
ranked (Open x) = λ h. ranked_open x (begins_type h)
ranked Plain = ranked_try 2 k.KwSizeof _ _ (λ x. (omega arith, λ t. tt)) ranked_prefix_by
ranked (SizeofOf x) = ranked_try 3 k.LParen _ _ (λ y. (omega arith, λ t. tt)) (omega arith, λ t. tt)
ranked (SizeofOpen x y) = λ h. ranked_sizeof_open x y (begins_type h)
ranked UnaryOf = ranked_try 3 k.LParen _ _ (λ x. (omega arith, λ t. tt)) (omega arith, λ t. tt)
ranked (OperandOf level.Or) = (omega arith, λ t. tt)
ranked (OperandOf level.And) = (omega arith, λ t. tt)
ranked (OperandOf level.BitOr) = (omega arith, λ t. tt)
ranked (OperandOf level.BitXor) = (omega arith, λ t. tt)
ranked (OperandOf level.BitAnd) = (omega arith, λ t. tt)
ranked (OperandOf level.Equality) = (omega arith, λ t. tt)
ranked (OperandOf level.Order) = (omega arith, λ t. tt)
ranked (OperandOf level.Shift) = (omega arith, λ t. tt)
ranked (OperandOf level.Sum) = (omega arith, λ t. tt)
ranked (OperandOf level.Product) = (omega arith, λ t. tt)
ranked (ChainOf l) = (omega arith, λ t. (omega arith, λ v. tt))
ranked (Further l t) = elim [ None ↦ tt | Some x ↦ ranked_further l t x (operator_of l x.kind) ]
ranked (Resume level.Or n) = (omega arith, λ t. (omega arith, λ v. tt))
ranked (Resume level.And n) = (omega arith, λ t. (omega arith, λ v. tt))
ranked (Resume level.BitOr n) = (omega arith, λ t. (omega arith, λ v. tt))
ranked (Resume level.BitXor n) = (omega arith, λ t. (omega arith, λ v. tt))
ranked (Resume level.BitAnd n) = (omega arith, λ t. (omega arith, λ v. tt))
ranked (Resume level.Equality n) = (omega arith, λ t. (omega arith, λ v. tt))
ranked (Resume level.Order n) = (omega arith, λ t. (omega arith, λ v. tt))
ranked (Resume level.Shift n) = (omega arith, λ t. (omega arith, λ v. tt))
ranked (Resume level.Sum n) = (omega arith, λ t. (omega arith, λ v. tt))
ranked (Resume level.Product n) = (omega arith, λ t. (omega arith, λ v. tt))
ranked (ArgumentsOf found) = ranked_try 0 k.Comma _ _ (λ x. (omega arith, λ t. (omega arith, λ v. tt))) tt
ranked (CallTail n) = ranked_try 24 k.RParen _ _ (λ y. tt) (omega arith, λ t. (omega arith, λ ts. ranked_expect 24 k.RParen _ tt))
ranked ValueOf = ranked_try 24 k.Id _ _ (λ n. ranked_try 32 k.LParen _ _ (λ x. (omega arith, λ c. tt)) (omega arith, λ t. tt)) (omega arith, λ t. tt)
ranked SimpleOf = ranked_try 4 k.Id _ _ (λ n. ranked_try 32 k.LParen _ _ (λ x. (omega arith, λ c. tt)) (omega arith, λ t. ranked_assign 32 t)) (omega arith, λ t. ranked_assign 4 t)
ranked StatementOf = ranked_try 5 k.Semi _ _ (λ x. tt) (ranked_try 5 k.LBrace _ _ (λ x. (omega arith, λ c. tt))
    (ranked_try 5 k.KwReturn _ _ (λ x. ranked_try 32 k.Semi _ _ (λ y. tt) (omega arith, λ t. ranked_expect 32 k.Semi _ tt))
    (ranked_try 5 k.KwBreak _ _ (λ x. ranked_expect 32 k.Semi _ tt) (ranked_try 5 k.KwContinue _ _ (λ x. ranked_expect 32 k.Semi _ tt)
    (ranked_try 5 k.KwIf _ _ (λ x. (omega arith, λ v. (omega arith, λ w. tt))) (ranked_try 5 k.KwWhile _ _ (λ x. (omega arith, λ v. tt))
    (ranked_try 5 k.KwDo _ _ (λ x. (omega arith, λ c. ranked_expect 32 k.KwWhile _ (ranked_expect 32 k.LParen _ (omega arith, λ t. ranked_expect 32 k.RParen _ (ranked_expect 32 k.Semi _ tt)))))
    (ranked_try 5 k.KwFor _ _ (λ x. ranked_expect 32 k.LParen _ (ranked_first x)) (omega arith, λ t. ranked_expect 5 k.Semi _ tt)))))))))
ranked GuardedOf = ranked_expect 0 k.LParen _ (omega arith, λ t. ranked_expect 32 k.RParen _ (omega arith, λ c. tt))
ranked (Choice arms) = ranked_try 0 k.KwElse _ _ (λ x. ranked_try 32 k.KwIf _ _ (λ y. (omega arith, λ v. (omega arith, λ w. tt))) (omega arith, λ c. tt)) tt
ranked BodyOf = ranked_expect 0 k.LBrace _ (omega arith, λ c. tt)
ranked (StatementsOf found) = ranked_try 6 k.RBrace _ _ (λ y. tt) (omega arith, λ t. (omega arith, λ v. tt))
ranked (LengthsOf found) = ranked_try 0 k.LBracket _ _ (λ x. ranked_try 32 k.Num _ _ (λ m. ranked_expect 32 k.RBracket _ (omega arith, λ v. tt)) tt) tt
ranked FieldOf = (omega arith, λ n. ranked_try 1 k.Id _ _ (λ x. (omega arith, λ v. tt)) tt)
ranked (FieldsOf found) = ranked_try 0 k.Comma _ _ (λ x. (omega arith, λ d. (omega arith, λ v. tt))) tt
ranked MemberOf = (omega arith, λ t. (omega arith, λ d. (omega arith, λ fs. ranked_expect 2 k.Semi _ tt)))
ranked (MembersOf found) = ranked_try 3 k.RBrace _ _ (λ y. tt) (omega arith, λ m. (omega arith, λ v. tt))
ranked InitialiserOf = ranked_try 24 k.Str _ _ (λ x. tt) (ranked_try 24 k.LBrace _ _ (λ x. (omega arith, λ v. (omega arith, λ vs. tt))) (omega arith, λ t. tt))
ranked (ItemsOf found) = ranked_try 0 k.Comma _ _ (λ x. ranked_try 32 k.RBrace _ _ (λ y. tt) (omega arith, λ v. (omega arith, λ w. tt))) (ranked_expect 0 k.RBrace _ tt)
ranked (ObjectTail n x) = ranked_try 0 k.LBracket _ _ (λ y. ranked_try 32 k.RBracket _ _ (λ z. (omega arith, λ ns. ranked_init 32 (declarator n x true ns)))
    (ranked_try 32 k.Num _ _ (λ m. ranked_expect 32 k.RBracket _ (omega arith, λ ns. ranked_init 32 (declarator n x false ns))) tt)) (ranked_init 0 (declarator n x false []))
ranked ObjectOf = (omega arith, λ n. ranked_try 1 k.Id _ _ (λ x. (omega arith, λ v. tt)) tt)
ranked (ObjectsOf found) = ranked_try 0 k.Comma _ _ (λ x. (omega arith, λ d. (omega arith, λ v. tt))) tt
ranked (ParameterTail t) = (omega arith, λ n. ranked_try 1 k.Id _ _ (λ x. tt) tt)
ranked ParameterOf = (omega arith, λ t. (omega arith, λ v. tt))
ranked (ParametersOf found) = ranked_try 0 k.Comma _ _ (λ x. (omega arith, λ d. (omega arith, λ v. tt))) tt
ranked ParameterList = ranked_try 3 k.RParen _ _ (λ y. tt) (omega arith, λ q. (omega arith, λ ps. ranked_expect 3 k.RParen _ tt))
ranked (DeclaredOf l t) = (
  omega arith,
  λ n. ranked_try 1 k.Id _ _ (λ x. ranked_try 32 k.LParen _ _ (λ y. (omega arith, λ ps. ranked_head (head_of l t n x ps) (all_named ps)))
      (omega arith, λ d. (omega arith, λ ds. ranked_expect 32 k.Semi _ tt))) tt,
)
ranked LocalOf = (omega arith, λ d. ranked_try 2 k.Assign _ _ (λ x. (omega arith, λ v. tt)) tt)
ranked (LocalItemsOf found) = ranked_try 0 k.Comma _ _ (λ x. (omega arith, λ d. (omega arith, λ v. tt))) tt
ranked (LocalListsOf found) = ranked_try 3 k.KwRegister _ _ (λ x. (omega arith, λ t. ranked_locals 32 found true t (omega arith))) (λ h. ranked_locals_at found (begins_type h))
ranked ExternalOf = ranked_try 2 k.KwStruct _ _ (λ x. ranked_try 32 k.Id _ _ (λ n. ranked_try 32 k.LBrace _ _ (λ y. (omega arith, λ m. (omega arith, λ ms. ranked_expect 32 k.Semi _ tt))) (omega arith, λ v. tt)) tt)
    (ranked_try 2 k.KwStatic _ _ (λ x. ranked_specified 32 linkage.Static (omega arith)) (ranked_try 2 k.KwExtern _ _ (λ x. ranked_specified 32 linkage.Extern (omega arith)) (ranked_specified 2 linkage.Plain (omega arith))))
ranked (UnitOf found) = elim [ None ↦ tt | Some x ↦ (omega arith, λ t. (omega arith, λ v. tt)) ]

-- What follows holds for any such programs

behind_room : (m : Rule) (b x y n : ℕ) → 32 * x + b ≤ n → y + eats m ≤ x → 32 * y + behind m b ≤ n
behind_room StatementOf b x y n h l = omega arith
behind_room MemberOf b x y n h l = omega arith
behind_room ExternalOf b x y n h l = omega arith
behind_room _ b x y n h l = omega arith

head-append : (p r q : List Symbol) → head r ≡ head q → head (p ++ r) ≡ head (p ++ q)
head-append [] r q e = e
head-append (x ∷ p) r q e = refl

-- What was read stays read, whatever follows the next token.
record StaysAt (m : Rule) (o : Out (Sort m)) (ts : List Symbol) : Type 0 where
  front : List Symbol
  is : ts ≡ front ++ o.1
  again : (r : List Symbol) (n : ℕ) → head r ≡ head o.1 → 32 * length (front ++ r) + rank m < n → exec n m (front ++ r) ≡ (o.0, r)

record Stays {A : Type 0} (p : Prog A) (b : ℕ) (o : Out A) (ts : List Symbol) : Type 0 where
  front : List Symbol
  is : ts ≡ front ++ o.1
  again : (r : List Symbol) (n : ℕ) → head r ≡ head o.1 → 32 * length (front ++ r) + b ≤ n → walk (exec n) p (front ++ r) ≡ (o.0, r)

eat_at_end : {A : Type 0} (p : Prog A) (c : Calls) (r : List Symbol) → head r ≡ None → walk c (Eat p) r ≡ (None, r)
eat_at_end p c [] h = refl
eat_at_end p c (x ∷ r) h = cc

module _ (n₀ : ℕ) (calls : (m : Rule) (ts : List Symbol) → 32 * length ts + rank m < n₀ → StaysAt m (exec n₀ m ts) ts) where
  stays_call : {A : Type 0} (m : Rule) (f : Sort m → Prog A) (b : ℕ) (ts : List Symbol)
      → StaysAt m (exec n₀ m ts) ts → rank m < b
      → ((v : Sort m) (r : List Symbol) → 32 * length r + behind m b ≤ n₀ → Stays (f v) (behind m b) (walk (exec n₀) (f v) r) r)
      → 32 * length ts + b ≤ n₀
      → (v : Option (Sort m)) → (exec n₀ m ts).0 ≡ v
      → Stays (Call m f) b (if_some v (λ a. walk (exec n₀) (f a) (exec n₀ m ts).1) (None, (exec n₀ m ts).1)) ts
  stays_call m f b ts s lt rest room None e = record {
    front = s.front;
    is = s.is;
    again = λ r n hr hn. ap (λ o. and_then o (λ v q. walk (exec n) (f v) q)) (s.again r n hr (omega arith) ∙ ap (λ v. (v, r)) e);
  }
  stays_call m f b ts s lt rest room (Some v) e =
      let len : length ts ≡ length s.front + length (exec n₀ m ts).1 = ap length s.is ∙ length-append s.front (exec n₀ m ts).1 in
      let less : length (exec n₀ m ts).1 + eats m ≤ length ts = consumed n₀ m ts v e in
      let t = rest v (exec n₀ m ts).1 (behind_room m b (length ts) (length (exec n₀ m ts).1) n₀ room less) in
      record {
        front = s.front ++ t.front;
        is = s.is ∙ ap (λ q. s.front ++ q) t.is ∙ sym (append_assoc s.front t.front _);
        again = λ r n hr hn.
            let e1 : (s.front ++ t.front) ++ r ≡ s.front ++ (t.front ++ r) = append_assoc s.front t.front r in
            let hn' : 32 * length (s.front ++ (t.front ++ r)) + b ≤ n = subst (λ (q : List Symbol). 32 * length q + b ≤ n) e1 hn in
            let h' : head (t.front ++ r) ≡ head (exec n₀ m ts).1 = head-append t.front r _ hr ∙ ap head (sym t.is) in
            let l' : length (s.front ++ (t.front ++ r)) ≡ length s.front + length (t.front ++ r) = length-append s.front (t.front ++ r) in
            ap (walk (exec n) (Call m f)) e1
            ∙ ap (λ o. and_then o (λ v q. walk (exec n) (f v) q)) (s.again (t.front ++ r) n h' (omega arith) ∙ ap (λ v. (v, t.front ++ r)) e)
            ∙ t.again r n hr (behind_room m b (length (s.front ++ (t.front ++ r))) (length (t.front ++ r)) n hn' (omega arith));
      }

  stays_walk : {A : Type 0} (p : Prog A) (b : ℕ) (ts : List Symbol) → Ranked b p → 32 * length ts + b ≤ n₀ → Stays p b (walk (exec n₀) p ts) ts
  stays_walk (Ret a) b ts h room = record { front = []; is = refl; again = λ r n hr hn. refl }
  stays_walk Fail b ts h room = record { front = []; is = refl; again = λ r n hr hn. refl }
  stays_walk (Peek f) b ts h room =
      let s = stays_walk (f (head ts)) b ts (h (head ts)) room in
      record {
        front = s.front;
        is = s.is;
        again = λ r n hr hn.
            let e : head (s.front ++ r) ≡ head ts = head-append s.front r _ hr ∙ ap head (sym s.is) in
            ap (λ h. walk (exec n) (f h) (s.front ++ r)) e ∙ s.again r n hr hn;
      }
  stays_walk (Eat p) b [] h room = record { front = []; is = refl; again = λ r n hr hn. eat_at_end p (exec n) r hr }
  stays_walk (Eat p) b (x ∷ ts) h room =
      let s = stays_walk p 32 ts h (omega arith) in
      record {
        front = x ∷ s.front;
        is = ap (λ q. x ∷ q) s.is;
        again = λ r n hr hn. s.again r n hr (omega arith);
      }
  stays_walk (Call m f) b ts h room =
      stays_call m f b ts (calls m ts (omega (arith, h.0))) h.0 (λ v r room'. stays_walk (f v) (behind m b) r (h.1 v) room') room (exec n₀ m ts).0 refl

stays : (n : ℕ) (m : Rule) (ts : List Symbol) → 32 * length ts + rank m < n → StaysAt m (exec n m ts) ts
stays zero m ts h = absurd (omega arith)
stays (suc n) m ts h =
    let s = stays_walk n (stays n) (body m) (rank m) ts (ranked m) (omega arith) in
    let up : (r : List Symbol) (i : ℕ) → head r ≡ head (walk (exec n) (body m) ts).1 → 32 * length (s.front ++ r) + rank m < i → exec i m (s.front ++ r) ≡ ((walk (exec n) (body m) ts).0, r) =
    λ r. elim [ zero ↦ (λ hr hn. absurd (omega arith)) | suc i ↦ (λ hr hn. s.again r i hr (omega arith)) ] in
    record { front = s.front; is = s.is; again = up }

-- The parser, with fuel to spare.
pub record Local (m : Rule) (ts : List Symbol) : Type 0 where
  pub front : List Symbol
  pub is : ts ≡ front ++ (runs m ts).1
  pub again : (r : List Symbol) → head r ≡ head (runs m ts).1 → runs m (front ++ r) ≡ ((runs m ts).0, r)

pub local : (m : Rule) (ts : List Symbol) → Local m ts
unfolding runs
local m ts =
    let s = stays (fuel m ts) m ts (omega arith) in
    record { front = s.front; is = s.is; again = λ r hr. s.again r (fuel m (s.front ++ r)) hr (omega arith) }

exec-runs : (n : ℕ) (m : Rule) (ts : List Symbol) → 32 * length ts + rank m < n → exec n m ts ≡ runs m ts
unfolding runs
exec-runs n m ts h =
    let s = stays (fuel m ts) m ts (omega arith) in
    let e : ts ≡ s.front ++ (exec (fuel m ts) m ts).1 = s.is in
    let h' : 32 * length (s.front ++ (exec (fuel m ts) m ts).1) + rank m < n = subst (λ (q : List Symbol). 32 * length q + rank m < n) e h in
    ap (exec n m) e ∙ s.again (exec (fuel m ts) m ts).1 n refl h'

pub shrinks : (m : Rule) (ts : List Symbol) → length (runs m ts).1 ≤ length ts
shrinks m ts = let l = local m ts in omega (arith, ap length l.is, length-append l.front (runs m ts).1)

pub runs_consumed : (m : Rule) (ts : List Symbol) (v : Sort m) → (runs m ts).0 ≡ Some v → length (runs m ts).1 + eats m ≤ length ts
unfolding runs
runs_consumed m ts v e = consumed (fuel m ts) m ts v e

walk_runs : {A : Type 0} (n : ℕ) (p : Prog A) (b : ℕ) (ts : List Symbol) → Ranked b p → 32 * length ts + b ≤ n → walk (exec n) p ts ≡ walk runs p ts
walk_runs n (Ret a) b ts h room = refl
walk_runs n Fail b ts h room = refl
walk_runs n (Peek f) b ts h room = walk_runs n (f (head ts)) b ts (h (head ts)) room
walk_runs n (Eat p) b [] h room = refl
walk_runs n (Eat p) b (x ∷ ts) h room = walk_runs n p 32 ts h (omega arith)
walk_runs n (Call m f) b ts h room =
    ap (λ o. and_then o (λ v q. walk (exec n) (f v) q)) (exec-runs n m ts (omega (arith, h.0)))
    ∙ go (λ v e. walk_runs n (f v) (behind m b) (runs m ts).1 (h.1 v) (behind_room m b (length ts) (length (runs m ts).1) n room (runs_consumed m ts v e))) (runs m ts).0 refl
  where
    go : ((v : Sort m) → (runs m ts).0 ≡ Some v → walk (exec n) (f v) (runs m ts).1 ≡ walk runs (f v) (runs m ts).1)
        → (v : Option (Sort m)) → (runs m ts).0 ≡ v → if_some v (λ a. walk (exec n) (f a) (runs m ts).1) (None, (runs m ts).1) ≡ if_some v (λ a. walk runs (f a) (runs m ts).1) (None, (runs m ts).1)
    go rest None e = refl
    go rest (Some v) e = rest v e

unrolled : (m : Rule) (ts : List Symbol) → runs m ts ≡ walk (exec (32 * length ts + rank m)) (body m) ts
unfolding runs
unrolled m ts = let e : fuel m ts ≡ suc (32 * length ts + rank m) = omega arith in ap (λ n. exec n m ts) e

-- The parser does what its rule's program says, with itself for the calls.
pub runs_walk : (m : Rule) (ts : List Symbol) → runs m ts ≡ walk runs (body m) ts
runs_walk m ts = unrolled m ts ∙ walk_runs (32 * length ts + rank m) (body m) (rank m) ts (ranked m) (omega arith)
