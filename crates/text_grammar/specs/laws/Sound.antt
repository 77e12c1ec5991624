-- What a program reads is in the grammar, and where it faults the tokens before can be completed.
use Rattle.std.proofs.Common.{◌≡◌, ℕ, zero, suc, ◌+◌, List, [], ◌∷◌, ◌++◌, length, Option, Some, None, refl, sym, ap, ◌∙◌, subst, arith, append_assoc, length-append, ◌≤◌, Bool, true, false, if◌then◌else◌}
use Rattle.text_grammar.specs.declared.kind.Kind.{Kind}
use Rattle.text_grammar.specs.declared.kind.Kind.TheVariants as k
use Rattle.text_grammar.specs.declared.kind.Level.{Level}
use Rattle.text_grammar.specs.declared.kind.Level.TheVariants as level
use Rattle.text_grammar.specs.declared.tree.BaseKind.{BaseKind}
use Rattle.text_grammar.specs.declared.tree.BaseKind.TheVariants as base
use Rattle.text_grammar.specs.declared.tree.UnaryOp.{UnaryOp}
use Rattle.text_grammar.specs.declared.tree.BinaryOp.{BinaryOp}
use Rattle.text_grammar.specs.declared.tree.Expr.{Expr}
use Rattle.text_grammar.specs.declared.tree.Expr.TheVariants as e
use Rattle.text_grammar.specs.declared.tree.Call.{Call as CallTree}
use Rattle.text_grammar.specs.declared.tree.AssignedValue.{AssignedValue}
use Rattle.text_grammar.specs.declared.tree.AssignedValue.TheVariants as value
use Rattle.text_grammar.specs.declared.tree.Simple.{Simple}
use Rattle.text_grammar.specs.declared.tree.Simple.TheVariants as act
use Rattle.text_grammar.specs.declared.tree.Stmt.{Stmt}
use Rattle.text_grammar.specs.declared.tree.Stmt.TheVariants as stmt
use Rattle.text_grammar.specs.declared.tree.Initialiser.{Initialiser}
use Rattle.text_grammar.specs.declared.tree.Initialiser.TheVariants as init
use Rattle.text_grammar.specs.declared.tree.Declarator.{Declarator}
use Rattle.text_grammar.specs.declared.tree.ObjectItem.{ObjectItem}
use Rattle.text_grammar.specs.declared.tree.Members.{Members}
use Rattle.text_grammar.specs.declared.tree.Locals.{Locals}
use Rattle.text_grammar.specs.declared.tree.Linkage.{Linkage}
use Rattle.text_grammar.specs.declared.tree.Linkage.TheVariants as linkage
use Rattle.text_grammar.specs.declared.tree.Head.{Head}
use Rattle.text_grammar.specs.declared.tree.External.{External}
use Rattle.text_grammar.specs.declared.tree.External.TheVariants as top
use Rattle.text_grammar.specs.declared.tree.Base.{Base}
use Rattle.text_grammar.specs.laws.SameKind.{same}
use Rattle.text_grammar.specs.Grammar.{name_at, arm, Symbol, prefix_of, operator_of, number_at, head_of, proper, all_named}
use Rattle.text_grammar.specs.Grammar as g
use Rattle.text_grammar.specs.laws.Programs.{head, Out, Rule, Sort, Prog, Calls, BaseWord, BaseType, StarsOf, TypeOf, PrimaryOf, PostfixOf, After, Inner, Open, Plain, SizeofOf, SizeofOpen, UnaryOf, OperandOf, ChainOf, Further, Ret, Fail, Peek, Eat, Call, if_some, try, expect, signed_words, unsigned_words, struct_words, words_from_struct, words_from_unsigned, words_from_signed, words_from_void, words_from_char, base_words, base_from, base_after, begins_type, primary_literal, index_open, index_close, member_name, arrow_name, after_arrow, after_dot, inner_close, cast_operand, open_at, sizeof_open_at, sizeof_plain, prefixed, prefix_by, further_at, body, walk, exec, Resume, ArgumentsOf, CallTail, ValueOf, SimpleOf, StatementOf, GuardedOf, Choice, BodyOf, StatementsOf, argument, call_of, call_first, value_named, value_plain, assigned, assign_rest, named_target, simple_named, simple, guard_body, guard_test, choice_arm, choice_last, choice_more, block_rest, return_value, return_rest, while_rest, do_end, do_rest, for_body, for_step_some, for_step, for_test_some, for_test, for_first_some, for_first, for_rest, break_rest, continue_rest, stmt_simple, stmt_for, stmt_do, stmt_while, stmt_if, stmt_continue, stmt_break, stmt_return, stmt_block, statement, statements_more, resumed, LengthsOf, FieldOf, FieldsOf, MemberOf, MembersOf, InitialiserOf, ItemsOf, ObjectTail, ObjectOf, ObjectsOf, ParameterTail, ParameterOf, ParametersOf, ParameterList, DeclaredOf, LocalOf, LocalItemsOf, LocalListsOf, ExternalOf, UnitOf, length_number, length_at, declarator, field_named, fields_more, members_more, string_of, list_first, init_braces, init_expr, items_next, items_comma, object_done, object_value, object_init, object_open, object_length, object_bracket, object_tail, object_named, objects_more, parameter_of, parameter_named, parameters_more, parameters_given, objects_first, function_locals, head_end, head_at, head_closed, declared_named, local_value, locals_next, locals_from, locals_at, local_items_more, struct_first, struct_base, struct_named, struct_start, specified, external_extern, external_static, unit_more}
use Rattle.text_grammar.specs.laws.Same.{same_true}

-- what stands behind `=`
pub data ValueReads : List Symbol → AssignedValue → Type 0 where
  expr : {a : List Symbol} {t : Expr} → g.ReadsExpr a t → ValueReads a (value.Expr t)
  call : {a : List Symbol} {c : CallTree} → g.CallReads a c → ValueReads a (value.Call c)

append-nil : (xs : List Symbol) → xs ++ [] ≡ xs
append-nil [] = refl
append-nil (x ∷ xs) = ap (λ q. x ∷ q) (append-nil xs)

-- what stands behind a declarator of an object
pub data ObjectRest (d : Declarator) : List Symbol → ObjectItem → Type 0 where
  none : ObjectRest d [] (record { declarator = d; initialised = None })
  given : (x : Symbol) {s : List Symbol} {v : Initialiser} → x.kind ≡ k.Assign → g.InitialiserReads s v → ObjectRest d (x ∷ s) (object_done d x v)

object_made : {a : List Symbol} {d : Declarator} → g.DeclaratorReads a d → {s : List Symbol} {o : ObjectItem} → ObjectRest d s o → g.ObjectReads (a ++ s) o
object_made {a = a} {d = d} dd ObjectRest.none = subst (λ (z : List Symbol). g.ObjectReads z (record { declarator = d; initialised = None })) (sym (append-nil a)) (g.ObjectReads.bare dd)
object_made dd (ObjectRest.given x ex dv) = g.ObjectReads.initialised x dd ex dv

-- the tokens that a rule reads, and what it makes of them
abbrev pub Accepts : (m : Rule) → List Symbol → Sort m → Type 0
Accepts BaseWord s v = g.BaseWords s v.0 v.1
Accepts BaseType s t = g.BaseReads s t
Accepts (StarsOf n) s i = (p : List Symbol) → g.Stars p n → g.Stars (p ++ s) i
Accepts TypeOf s t = g.TypeReads s t
Accepts PrimaryOf s t = g.Primary s t
Accepts PostfixOf s t = g.Postfix s t
Accepts (After a) s t = (p : List Symbol) → g.Postfix p a → g.Postfix (p ++ s) t
Accepts (Inner x) s t = x.kind ≡ k.LParen → g.Postfix (x ∷ s) t
Accepts (Open x) s t = x.kind ≡ k.LParen → g.Unary (x ∷ s) t
Accepts Plain s t = g.Uncast s t
Accepts (SizeofOf x) s t = x.kind ≡ k.KwSizeof → g.Uncast (x ∷ s) t
Accepts (SizeofOpen x y) s t = x.kind ≡ k.KwSizeof → y.kind ≡ k.LParen → g.Uncast (x ∷ y ∷ s) t
Accepts UnaryOf s t = g.Unary s t
Accepts (OperandOf l) s t = g.Operand l s t
Accepts (ChainOf l) s t = g.Chain l s t
Accepts (Further l a) s t = (p : List Symbol) → g.Chain l p a → g.Chain l (p ++ s) t
Accepts (Resume l n) s t = n.kind ≡ k.Id → g.Chain l (n ∷ s) t
Accepts (ArgumentsOf found) s ts = (p : List Symbol) → g.Arguments p found → g.Arguments (p ++ s) ts
Accepts (CallTail n) s c = (x : Symbol) → n.kind ≡ k.Id → x.kind ≡ k.LParen → g.CallReads (n ∷ x ∷ s) c
Accepts ValueOf s v = ValueReads s v
Accepts SimpleOf s t = g.SimpleReads s t
Accepts StatementOf s t = g.Statement s t
Accepts GuardedOf s v = g.Guarded s v.0 v.1
Accepts (Choice arms) s t = (p : List Symbol) → g.Arms p arms → g.Statement (p ++ s) t
Accepts BodyOf s c = g.Body s c
Accepts (StatementsOf found) s c = (p : List Symbol) → g.Statements p found → g.Braced (p ++ s) c
Accepts (LengthsOf found) s ns = (p : List Symbol) → g.Lengths p found → g.Lengths (p ++ s) ns
Accepts FieldOf s d = g.FieldReads s d
Accepts (FieldsOf found) s ds = (p : List Symbol) → g.Fields p found → g.Fields (p ++ s) ds
Accepts MemberOf s m = g.MemberReads s m
Accepts (MembersOf found) s ms = (p : List Symbol) → g.MemberLists p found → g.MembersClosed (p ++ s) ms
Accepts InitialiserOf s v = g.InitialiserReads s v
Accepts (ItemsOf found) s vs = (p : List Symbol) → g.InitialiserItems p found → g.ItemsClosed (p ++ s) vs
Accepts (ObjectTail n x) s d = (p : List Symbol) → g.Stars p n → x.kind ≡ k.Id → g.ObjectReads (p ++ x ∷ s) d
Accepts ObjectOf s d = g.ObjectReads s d
Accepts (ObjectsOf found) s ds = (p : List Symbol) → g.Objects p found → g.Objects (p ++ s) ds
Accepts (ParameterTail t) s q = (p : List Symbol) → g.BaseReads p t → g.ParameterReads (p ++ s) q
Accepts ParameterOf s q = g.ParameterReads s q
Accepts (ParametersOf found) s ps = (p : List Symbol) → g.Parameters p found → g.Parameters (p ++ s) ps
Accepts ParameterList s ps = g.ParametersClosed s ps
Accepts (DeclaredOf l t) s x = (p : List Symbol) → g.Specifiers p l t → g.ExternalReads (p ++ s) x
Accepts LocalOf s d = g.LocalReads s d
Accepts (LocalItemsOf found) s ds = (p : List Symbol) → g.LocalItems p found → g.LocalItems (p ++ s) ds
Accepts (LocalListsOf found) s ls = (p : List Symbol) → g.LocalLists p found → g.LocalLists (p ++ s) ls
Accepts ExternalOf s x = g.ExternalReads s x
Accepts (UnitOf found) s ts = (p : List Symbol) → g.Reads p found → g.Reads (p ++ s) ts

abbrev pub Lang : Type 0 → Type 1
Lang A = List Symbol → A → Type 0

-- some tokens that go on from these
abbrev pub Goes : {A : Type 0} → Lang A → List Symbol → Type 0
Goes {A} R p = (s : List Symbol) × (a : A) × R (p ++ s) a

-- At each exit of the program, where the next token is h, its value is right or the tokens so far can be completed.
abbrev pub Sound : {A : Type 0} → Lang A → Option Symbol → Prog A → Type 0
Sound R h (Ret a) = R [] a
Sound R h Fail = Goes R []
Sound R h (Peek f) = Sound R h (f h)
Sound R None (Eat p) = Goes R []
Sound R (Some x) (Eat p) = (h : Option Symbol) → Sound (λ s a. R (x ∷ s) a) h p
Sound R h (Call m f) = (s : List Symbol) (v : Sort m) → Accepts m s v → (h' : Option Symbol) → Sound (λ q a. R (s ++ q) a) h' (f v)

abbrev pub Says : {A : Type 0} → Lang A → List Symbol → Option A → Type 0
Says R p (Some a) = R p a
Says R p None = Goes R p

pub record Reading {A : Type 0} (R : List Symbol → A → Type 0) (o : Out A) (ts : List Symbol) : Type 0 where
  pub front : List Symbol
  pub is : ts ≡ front ++ o.1
  pub says : Says R front o.0

abbrev pub sample_symbol : Kind → Symbol
sample_symbol kind = record { kind = kind; at = 0; text = [] }

-- one operand is a chain of each level
lift_product : {a : List Symbol} {t : Expr} → g.Unary a t → g.Chain level.Product a t
lift_product u = g.operand (g.of_product u)

lift_sum : {a : List Symbol} {t : Expr} → g.Unary a t → g.Chain level.Sum a t
lift_sum u = g.operand (g.of_sum (lift_product u))

lift_shift : {a : List Symbol} {t : Expr} → g.Unary a t → g.Chain level.Shift a t
lift_shift u = g.operand (g.of_shift (lift_sum u))

lift_order : {a : List Symbol} {t : Expr} → g.Unary a t → g.Chain level.Order a t
lift_order u = g.operand (g.of_order (lift_shift u))

lift_equality : {a : List Symbol} {t : Expr} → g.Unary a t → g.Chain level.Equality a t
lift_equality u = g.operand (g.of_equality (lift_order u))

lift_bit_and : {a : List Symbol} {t : Expr} → g.Unary a t → g.Chain level.BitAnd a t
lift_bit_and u = g.operand (g.of_bit_and (lift_equality u))

lift_bit_xor : {a : List Symbol} {t : Expr} → g.Unary a t → g.Chain level.BitXor a t
lift_bit_xor u = g.operand (g.of_bit_xor (lift_bit_and u))

lift_bit_or : {a : List Symbol} {t : Expr} → g.Unary a t → g.Chain level.BitOr a t
lift_bit_or u = g.operand (g.of_bit_or (lift_bit_xor u))

lift_and : {a : List Symbol} {t : Expr} → g.Unary a t → g.Chain level.And a t
lift_and u = g.operand (g.of_and (lift_bit_or u))

lift_or : {a : List Symbol} {t : Expr} → g.Unary a t → g.Chain level.Or a t
lift_or u = g.operand (g.of_or (lift_and u))

pub lift : (l : Level) {a : List Symbol} {t : Expr} → g.Unary a t → g.Chain l a t
lift level.Product u = lift_product u
lift level.Sum u = lift_sum u
lift level.Shift u = lift_shift u
lift level.Order u = lift_order u
lift level.Equality u = lift_equality u
lift level.BitAnd u = lift_bit_and u
lift level.BitXor u = lift_bit_xor u
lift level.BitOr u = lift_bit_or u
lift level.And u = lift_and u
lift level.Or u = lift_or u

pub lift_operand : (l : Level) {a : List Symbol} {t : Expr} → g.Unary a t → g.Operand l a t
lift_operand level.Product u = g.of_product u
lift_operand level.Sum u = g.of_sum (lift level.Product u)
lift_operand level.Shift u = g.of_shift (lift level.Sum u)
lift_operand level.Order u = g.of_order (lift level.Shift u)
lift_operand level.Equality u = g.of_equality (lift level.Order u)
lift_operand level.BitAnd u = g.of_bit_and (lift level.Equality u)
lift_operand level.BitXor u = g.of_bit_xor (lift level.BitAnd u)
lift_operand level.BitOr u = g.of_bit_or (lift level.BitXor u)
lift_operand level.And u = g.of_and (lift level.BitOr u)
lift_operand level.Or u = g.of_or (lift level.And u)

abbrev a_name : Symbol
a_name = sample_symbol k.Id

abbrev the_name : Expr
the_name = e.Name 0 []

name_postfix : g.Postfix (a_name ∷ []) the_name
name_postfix = g.primary (g.name a_name refl)

name_uncast : g.Uncast (a_name ∷ []) the_name
name_uncast = g.postfix name_postfix

name_unary : g.Unary (a_name ∷ []) the_name
name_unary = g.uncast name_uncast

bare : (R : List Symbol → Type 0) (xs : List Symbol) → R xs → R (xs ++ [])
bare R xs h = subst R (sym (append-nil xs)) h

int_words : g.BaseWords (sample_symbol k.KwInt ∷ []) 0 base.Int
int_words = g.int (sample_symbol k.KwInt) refl

int_base : g.BaseReads (sample_symbol k.KwInt ∷ []) (base_from false (0, base.Int))
int_base = g.BaseReads.plain int_words

int_type : g.TypeReads (sample_symbol k.KwInt ∷ []) (record { base = base_from false (0, base.Int); stars = 0 })
int_type = g.TypeReads.named int_base g.Stars.none

name_chain : g.ReadsExpr (a_name ∷ []) the_name
name_chain = lift level.Or name_unary

empty_braced : g.Braced (sample_symbol k.RBrace ∷ []) []
empty_braced = g.Braced.closed (sample_symbol k.RBrace) g.Statements.none refl

empty_body : g.Body (sample_symbol k.LBrace ∷ sample_symbol k.RBrace ∷ []) []
empty_body = g.braces (sample_symbol k.LBrace) refl empty_braced

abbrev a_declarator : Declarator
a_declarator = declarator 0 a_name false []

name_field : g.FieldReads (a_name ∷ []) a_declarator
name_field = g.field a_name g.Stars.none refl g.Lengths.none

abbrev int_type_base : Base
int_type_base = base_from false (0, base.Int)

abbrev a_member : Members
a_member = record { base = int_type_base; fields = a_declarator ∷ [] }

int_member : g.MemberReads (sample_symbol k.KwInt ∷ a_name ∷ sample_symbol k.Semi ∷ []) a_member
int_member = g.member (sample_symbol k.Semi) int_base (g.Fields.one name_field) refl

object_at : (n : ℕ) (x : Symbol) (p : List Symbol) → g.Stars p n → x.kind ≡ k.Id → g.ObjectReads (p ++ x ∷ []) (record { declarator = declarator n x false []; initialised = None })
object_at n x p d h = g.ObjectReads.bare (g.known (g.field x d h g.Lengths.none))

abbrev an_object : ObjectItem
an_object = record { declarator = a_declarator; initialised = None }

name_object : g.ObjectReads (a_name ∷ []) an_object
name_object = object_at 0 a_name [] g.Stars.none refl

objects_at : (l : Linkage) (t : Base) (p : List Symbol) → g.Specifiers p l t → g.ExternalReads (p ++ a_name ∷ sample_symbol k.Semi ∷ []) (top.Objects l t (an_object ∷ []))
objects_at l t p d = g.objects (sample_symbol k.Semi) d (g.Objects.one name_object) refl

-- Each rule reads some tokens.
sample : (m : Rule) → (s : List Symbol) × (v : Sort m) × Accepts m s v
sample BaseWord = (sample_symbol k.KwInt ∷ [], (0, base.Int), int_words)
sample BaseType = (sample_symbol k.KwInt ∷ [], base_from false (0, base.Int), int_base)
sample (StarsOf n) = ([], n, λ p d. bare (λ q. g.Stars q n) p d)
sample TypeOf = (sample_symbol k.KwInt ∷ [], record { base = base_from false (0, base.Int); stars = 0 }, int_type)
sample PrimaryOf = (a_name ∷ [], the_name, g.name a_name refl)
sample PostfixOf = (a_name ∷ [], the_name, name_postfix)
sample (After a) = ([], a, λ p d. bare (λ q. g.Postfix q a) p d)
sample (Inner x) = (a_name ∷ sample_symbol k.RParen ∷ [], the_name, λ h. g.primary (g.parens x (sample_symbol k.RParen) h (lift level.Or name_unary) refl))
sample (Open x) = (a_name ∷ sample_symbol k.RParen ∷ [], the_name, λ h. g.uncast (g.postfix (g.primary (g.parens x (sample_symbol k.RParen) h (lift level.Or name_unary) refl))))
sample Plain = (a_name ∷ [], the_name, name_uncast)
sample (SizeofOf x) = (a_name ∷ [], e.Sizeof x.at the_name, λ h. g.sizeof x h name_uncast)
sample (SizeofOpen x y) = (
  a_name ∷ sample_symbol k.RParen ∷ [],
  e.Sizeof x.at the_name,
  λ h i. g.sizeof x h (g.postfix (g.primary (g.parens y (sample_symbol k.RParen) i (lift level.Or name_unary) refl))),
)
sample UnaryOf = (a_name ∷ [], the_name, name_unary)
sample (OperandOf l) = (a_name ∷ [], the_name, lift_operand l name_unary)
sample (ChainOf l) = (a_name ∷ [], the_name, lift l name_unary)
sample (Further l a) = ([], a, λ p d. bare (λ q. g.Chain l q a) p d)
sample (Resume l n) = ([], e.Name n.at n.text, λ h. lift l (g.uncast (g.postfix (g.primary (g.name n h)))))
sample (ArgumentsOf found) = ([], found, λ p d. bare (λ q. g.Arguments q found) p d)
sample (CallTail n) = (sample_symbol k.RParen ∷ [], call_of n [], λ x en ex. g.CallReads.none n x (sample_symbol k.RParen) en ex refl)
sample ValueOf = (a_name ∷ [], value.Expr the_name, ValueReads.expr name_chain)
sample SimpleOf = (a_name ∷ sample_symbol k.LParen ∷ sample_symbol k.RParen ∷ [], act.Call (call_of a_name []), g.SimpleReads.call (g.CallReads.none a_name (sample_symbol k.LParen) (sample_symbol k.RParen) refl refl refl))
sample StatementOf = (sample_symbol k.Semi ∷ [], stmt.Empty 0, g.empty (sample_symbol k.Semi) refl)
sample GuardedOf = (
  sample_symbol k.LParen ∷ a_name ∷ sample_symbol k.RParen ∷ sample_symbol k.LBrace ∷ sample_symbol k.RBrace ∷ [],
  (the_name, []),
  g.guarded (sample_symbol k.LParen) (sample_symbol k.RParen) refl name_chain refl empty_body,
)
sample (Choice arms) = ([], stmt.If arms None, λ p d. bare (λ q. g.Statement q (stmt.If arms None)) p (g.choice d))
sample BodyOf = (sample_symbol k.LBrace ∷ sample_symbol k.RBrace ∷ [], [], empty_body)
sample (StatementsOf found) = (sample_symbol k.RBrace ∷ [], found, λ p d. g.Braced.closed (sample_symbol k.RBrace) d refl)
sample (LengthsOf found) = ([], found, λ p d. bare (λ q. g.Lengths q found) p d)
sample FieldOf = (a_name ∷ [], a_declarator, name_field)
sample (FieldsOf found) = ([], found, λ p d. bare (λ q. g.Fields q found) p d)
sample MemberOf = (sample_symbol k.KwInt ∷ a_name ∷ sample_symbol k.Semi ∷ [], a_member, int_member)
sample (MembersOf found) = (sample_symbol k.RBrace ∷ [], found, λ p d. g.MembersClosed.closed (sample_symbol k.RBrace) d refl)
sample InitialiserOf = (a_name ∷ [], init.Expr the_name, g.InitialiserReads.expr name_chain)
sample (ItemsOf found) = (sample_symbol k.RBrace ∷ [], found, λ p d. g.ItemsClosed.closed (sample_symbol k.RBrace) d refl)
sample (ObjectTail n x) = ([], record { declarator = declarator n x false []; initialised = None }, object_at n x)
sample ObjectOf = (a_name ∷ [], an_object, name_object)
sample (ObjectsOf found) = ([], found, λ p d. bare (λ q. g.Objects q found) p d)
sample (ParameterTail t) = ([], parameter_of t 0 None, λ p d. g.ParameterReads.bare d g.Stars.none)
sample ParameterOf = (sample_symbol k.KwInt ∷ [], parameter_of int_type_base 0 None, g.ParameterReads.bare int_base g.Stars.none)
sample (ParametersOf found) = ([], found, λ p d. bare (λ q. g.Parameters q found) p d)
sample ParameterList = (sample_symbol k.RParen ∷ [], [], g.ParametersClosed.empty (sample_symbol k.RParen) refl)
sample (DeclaredOf l t) = (a_name ∷ sample_symbol k.Semi ∷ [], top.Objects l t (an_object ∷ []), objects_at l t)
sample LocalOf = (a_name ∷ [], record { declarator = a_declarator; value = None }, g.LocalReads.bare name_field)
sample (LocalItemsOf found) = ([], found, λ p d. bare (λ q. g.LocalItems q found) p d)
sample (LocalListsOf found) = ([], found, λ p d. bare (λ q. g.LocalLists q found) p d)
sample ExternalOf = (sample_symbol k.KwInt ∷ a_name ∷ sample_symbol k.Semi ∷ [], top.Objects linkage.Plain int_type_base (an_object ∷ []), objects_at linkage.Plain int_type_base (sample_symbol k.KwInt ∷ []) (g.specified g.LinkageReads.plain int_base))
sample (UnitOf found) = ([], found, λ p d. bare (λ q. g.Reads q found) p d)

-- So what a sound program reads can always be completed.
goes_of : {A : Type 0} (p : Prog A) (R : List Symbol → A → Type 0) (h : Option Symbol) → Sound R h p → Goes R []
goes_of (Ret a) R h d = ([], a, d)
goes_of Fail R h d = d
goes_of (Peek f) R h d = goes_of (f h) R h d
goes_of (Eat p) R None d = d
goes_of (Eat p) R (Some x) d = let g = goes_of p (λ s a. R (x ∷ s) a) None (d None) in (x ∷ g.0, g.1, g.2)
goes_of (Call m f) R h d =
    let v = sample m in
    let g = goes_of (f v.1) (λ s a. R (v.0 ++ s) a) None (d v.0 v.1 v.2 None) in
    (v.0 ++ g.0, g.1, g.2)

abbrev pub ReadsAs : (m : Rule) → List Symbol → Out (Sort m) → Type 0
ReadsAs m ts o = Reading (Accepts m) o ts

reading_more : {A : Type 0} (R : List Symbol → A → Type 0) (p : List Symbol) (v : Option A) (q : List Symbol)
    → Says (λ s a. R (p ++ s) a) q v → Says R (p ++ q) v
reading_more R p (Some a) q h = h
reading_more R p None q h = (h.0, h.1, subst (λ (l : List Symbol). R l h.1) (sym (append_assoc p q h.0)) h.2)

module _ (c : Calls) (calls : (m : Rule) (ts : List Symbol) → ReadsAs m ts (c m ts)) where
  sound_call : {A : Type 0} (R : List Symbol → A → Type 0) (m : Rule) (f : Sort m → Prog A) (ts : List Symbol)
      → ReadsAs m ts (c m ts)
      → ((s : List Symbol) (v : Sort m) → Accepts m s v → Goes R s)
      → ((s : List Symbol) (v : Sort m) → Accepts m s v → Reading (λ q a. R (s ++ q) a) (walk c (f v) (c m ts).1) (c m ts).1)
      → (v : Option (Sort m)) → (c m ts).0 ≡ v
      → Reading R (if_some v (λ a. walk c (f a) (c m ts).1) (None, (c m ts).1)) ts
  sound_call R m f ts r goes rest None e =
      let d : Goes (Accepts m) r.front = subst (λ (v : Option (Sort m)). Says (Accepts m) r.front v) e r.says in
      let w = goes (r.front ++ d.0) d.1 d.2 in
      record { front = r.front; is = r.is; says = (d.0 ++ w.0, w.1, subst (λ (l : List Symbol). R l w.1) (append_assoc r.front d.0 w.0) w.2) }
  sound_call R m f ts r goes rest (Some v) e =
      let d : Accepts m r.front v = subst (λ (v : Option (Sort m)). Says (Accepts m) r.front v) e r.says in
      let t = rest r.front v d in
      record {
        front = r.front ++ t.front;
        is = r.is ∙ ap (λ q. r.front ++ q) t.is ∙ sym (append_assoc r.front t.front _);
        says = reading_more R r.front (walk c (f v) (c m ts).1).0 t.front t.says;
      }

  sound_walk : {A : Type 0} (p : Prog A) (R : List Symbol → A → Type 0) (ts : List Symbol) → Sound R (head ts) p → Reading R (walk c p ts) ts
  sound_walk (Ret a) R ts h = record { front = []; is = refl; says = h }
  sound_walk Fail R ts h = record { front = []; is = refl; says = h }
  sound_walk (Peek f) R ts h = sound_walk (f (head ts)) R ts h
  sound_walk (Eat p) R [] h = record { front = []; is = refl; says = h }
  sound_walk (Eat p) R (x ∷ ts) h =
      let t = sound_walk p (λ s a. R (x ∷ s) a) ts (h (head ts)) in
      record { front = x ∷ t.front; is = ap (λ q. x ∷ q) t.is; says = reading_more R (x ∷ []) (walk c p ts).0 t.front t.says }
  sound_walk (Call m f) R ts h =
      sound_call R m f ts (calls m ts) (λ s v d. goes_of (f v) (λ q a. R (s ++ q) a) None (h s v d None)) (λ s v d. sound_walk (f v) (λ q a. R (s ++ q) a) (c m ts).1 (h s v d (head (c m ts).1))) (c m ts).0 refl

pub sound_exec : ((m : Rule) (h : Option Symbol) → Sound (Accepts m) h (body m)) → (n : ℕ) (m : Rule) (ts : List Symbol) → ReadsAs m ts (exec n m ts)
sound_exec b zero m ts = let s = sample m in record { front = []; is = refl; says = s }
sound_exec b (suc n) m ts = sound_walk (exec n) (sound_exec b n) (body m) (Accepts m) ts (b m (head ts))

-- The pieces of a program

sound_last : (m : Rule) (R : List Symbol → Sort m → Type 0) (h : Option Symbol) → ((s : List Symbol) (v : Sort m) → Accepts m s v → R s v) → Sound R h (Call m Ret)
sound_last m R h f = λ s v d h'. bare (λ q. R q v) s (f s v d)

sound_try : {A : Type 0} (R : List Symbol → A → Type 0) (h : Option Symbol) (kind : Kind) (f : Symbol → Prog A) (p : Prog A)
    → ((x : Symbol) → x.kind ≡ kind → (h' : Option Symbol) → Sound (λ s a. R (x ∷ s) a) h' (f x)) → Sound R h p → Sound R h (try kind f p)
sound_try R None kind f p taking else_ = else_
sound_try R (Some x) kind f p taking else_ = go (same kind x.kind) refl
  where
    go : (b : Bool) → same kind x.kind ≡ b → Sound R (Some x) (if_some (if b then Some x else None) (λ x. Eat (f x)) p)
    go true e = taking x (sym (same_true kind x.kind e))
    go false e = else_

sound_expect : {A : Type 0} (R : List Symbol → A → Type 0) (h : Option Symbol) (kind : Kind) (p : Prog A)
    → ((x : Symbol) → x.kind ≡ kind → (h' : Option Symbol) → Sound (λ s a. R (x ∷ s) a) h' p) → Sound R h (expect kind p)
sound_expect R h kind p taking =
    let x = sample_symbol kind in
    let g = goes_of p (λ s a. R (x ∷ s) a) None (taking x refl None) in
    sound_try R h kind (λ x. p) Fail taking (x ∷ g.0, g.1, g.2)

sound_need : {A : Type 0} (R : List Symbol → A → Type 0) (h : Option Symbol) (kind : Kind) (f : Symbol → Prog A)
    → ((x : Symbol) → x.kind ≡ kind → (h' : Option Symbol) → Sound (λ s a. R (x ∷ s) a) h' (f x)) → Sound R h (try kind f Fail)
sound_need R h kind f taking =
    let x = sample_symbol kind in
    let g = goes_of (f x) (λ s a. R (x ∷ s) a) None (taking x refl None) in
    sound_try R h kind f Fail taking (x ∷ g.0, g.1, g.2)

-- Each rule.

stars_snoc : (x : Symbol) → x.kind ≡ k.Star → {a : List Symbol} {n : ℕ} → g.Stars a n → g.Stars (a ++ x ∷ []) (suc n)
stars_snoc x h g.Stars.none = g.Stars.one x h g.Stars.none
stars_snoc x h (g.Stars.one y e s) = g.Stars.one y e (stars_snoc x h s)

abbrev Words : List Symbol → ℕ × BaseKind → Type 0
Words s v = g.BaseWords s v.0 v.1

sound_struct : (h : Option Symbol) → Sound Words h words_from_struct
sound_struct h = sound_need Words h k.KwStruct struct_words (λ x ex h1. sound_need (λ s v. Words (x ∷ s) v) h1 k.Id (λ y. Ret (y.at, base.Struct y.text)) (λ y ey h2. g.struct x y ex ey))

sound_unsigned : (h : Option Symbol) → Sound Words h words_from_unsigned
sound_unsigned h = sound_try Words h k.KwUnsigned unsigned_words words_from_struct
    (λ x ex h1. sound_try (λ s v. Words (x ∷ s) v) h1 k.KwInt _ _ (λ y ey h2. g.unsigned_int x y ex ey)
    (sound_try (λ s v. Words (x ∷ s) v) h1 k.KwChar _ _ (λ y ey h2. g.unsigned_char x y ex ey) (g.unsigned x ex)))
    (sound_struct h)

sound_signed : (h : Option Symbol) → Sound Words h words_from_signed
sound_signed h = sound_try Words h k.KwSigned signed_words words_from_unsigned
    (λ x ex h1. sound_try (λ s v. Words (x ∷ s) v) h1 k.KwInt _ _ (λ y ey h2. g.signed_int x y ex ey)
    (sound_try (λ s v. Words (x ∷ s) v) h1 k.KwChar _ _ (λ y ey h2. g.signed_char x y ex ey) (g.signed x ex)))
    (sound_unsigned h)

sound_words : (h : Option Symbol) → Sound Words h base_words
sound_words h = sound_try Words h k.KwInt _ words_from_char (λ x ex h1. g.int x ex)
    (sound_try Words h k.KwChar _ words_from_void (λ x ex h1. g.char x ex)
    (sound_try Words h k.KwVoid _ words_from_signed (λ x ex h1. g.void x ex) (sound_signed h)))

sound_prefix : (x : Symbol) (o : Option UnaryOp) → prefix_of x.kind ≡ o → Sound g.Uncast (Some x) (if_some o (λ op. Eat (prefixed x op)) (Call PostfixOf Ret))
sound_prefix x None h = sound_last PostfixOf g.Uncast (Some x) (λ s v d. g.postfix d)
sound_prefix x (Some op) h = λ h' s v d h''. bare (λ q. g.Uncast (x ∷ q) (e.Unary x.at op v)) s (g.prefix x op h d)

sound_prefix_by : (h : Option Symbol) → Sound g.Uncast h (prefix_by h)
sound_prefix_by None = sound_last PostfixOf g.Uncast None (λ s v d. g.postfix d)
sound_prefix_by (Some x) = sound_prefix x (prefix_of x.kind) refl

sound_further : (l : Level) (a : Expr) (x : Symbol) (o : Option BinaryOp) → operator_of l x.kind ≡ o → Sound (Accepts (Further l a)) (Some x) (further_at l a x o)
sound_further l a x None h = λ p d. bare (λ q. g.Chain l q a) p d
sound_further l a x (Some op) h = λ h' s v d h''.
    sound_last (Further l (e.Binary x.at op a v)) (λ q w. Accepts (Further l a) (x ∷ (s ++ q)) w) h'' (λ q w d' p dp.
    subst (λ (z : List Symbol). g.Chain l z w) (append_assoc p (x ∷ s) q) (d' (p ++ x ∷ s) (g.binary x op dp h d)))

sound_member : (a b : Expr) (x y : Symbol) (h : Option Symbol) → ((p : List Symbol) → g.Postfix p a → g.Postfix (p ++ x ∷ y ∷ []) b)
    → Sound (λ q w. Accepts (After a) (x ∷ y ∷ q) w) h (Call (After b) Ret)
sound_member a b x y h made = sound_last (After b) (λ q w. Accepts (After a) (x ∷ y ∷ q) w) h (λ q w d p dp.
    subst (λ (z : List Symbol). g.Postfix z w) (append_assoc p (x ∷ y ∷ []) q) (d (p ++ x ∷ y ∷ []) (made p dp)))

sound_after : (a : Expr) (h : Option Symbol) → Sound (Accepts (After a)) h (body (After a))
sound_after a h = sound_try (Accepts (After a)) h k.LBracket (index_open a) (after_dot a)
    (λ x ex h1 s i d h2. sound_expect (λ q w. Accepts (After a) (x ∷ (s ++ q)) w) h2 k.RBracket (index_close a x i)
    (λ y ey h3. sound_last (After (e.Index x.at a i)) (λ q w. Accepts (After a) (x ∷ (s ++ y ∷ q)) w) h3 (λ q w d' p dp.
    let e1 : (p ++ x ∷ (s ++ y ∷ [])) ++ q ≡ p ++ x ∷ (s ++ y ∷ q) = simp append_assoc in
    subst (λ (z : List Symbol). g.Postfix z w) e1 (d' (p ++ x ∷ (s ++ y ∷ [])) (g.index x y dp ex d ey)))))
    (sound_try (Accepts (After a)) h k.Dot _ (after_arrow a)
    (λ x ex h1. sound_need (λ q w. Accepts (After a) (x ∷ q) w) h1 k.Id (member_name a) (λ y ey h2. sound_member a (e.Member y.at a y.text) x y h2 (λ p dp. g.member x y dp ex ey)))
    (sound_try (Accepts (After a)) h k.Arrow _ (Ret a)
    (λ x ex h1. sound_need (λ q w. Accepts (After a) (x ∷ q) w) h1 k.Id (arrow_name a) (λ y ey h2. sound_member a (e.Arrow y.at a y.text) x y h2 (λ p dp. g.arrow x y dp ex ey)))
    (λ p d. bare (λ q. g.Postfix q a) p d)))

sound_open : (x : Symbol) (b : Bool) (h : Option Symbol) → Sound (Accepts (Open x)) h (open_at x b)
sound_open x true h = λ s t d h1. sound_expect (λ q w. Accepts (Open x) (s ++ q) w) h1 k.RParen (cast_operand x t)
    (λ y ey h2 q v d' h3 ex. g.cast x y ex d ey (bare (λ z. g.Unary z v) q d'))
sound_open x false h = sound_last (Inner x) (Accepts (Open x)) h (λ s t d ex. g.uncast (g.postfix (d ex)))

sound_sizeof_open : (x y : Symbol) (b : Bool) (h : Option Symbol) → Sound (Accepts (SizeofOpen x y)) h (sizeof_open_at x y b)
sound_sizeof_open x y true h = λ s t d h1. sound_expect (λ q w. Accepts (SizeofOpen x y) (s ++ q) w) h1 k.RParen (Ret (e.SizeofType x.at t))
    (λ z ez h2 ex ey. g.sizeof_type x y z ex ey d ez)
sound_sizeof_open x y false h = λ s t d h1 ex ey. bare (λ q. g.Uncast (x ∷ y ∷ q) (e.Sizeof x.at t)) s (g.sizeof x ex (g.postfix (d ey)))

resume_more : (l : Level) (n : Symbol) (s : List Symbol) (t : Expr) → g.Operand l (n ∷ s) t → (h : Option Symbol)
    → Sound (λ q w. n.kind ≡ k.Id → g.Chain l (n ∷ (s ++ q)) w) h (resumed l t)
resume_more l n s t d h = sound_last (Further l t) (λ q w. n.kind ≡ k.Id → g.Chain l (n ∷ (s ++ q)) w) h (λ q w d' en. d' (n ∷ s) (g.operand d))

sound_assign : (R : List Symbol → Simple → Type 0) (h : Option Symbol) (t : Expr)
    → ((x : Symbol) (q : List Symbol) (v : AssignedValue) → x.kind ≡ k.Assign → ValueReads q v → R (x ∷ q) (act.Assign x.at t v)) → Sound R h (assign_rest t)
sound_assign R h t make = sound_need R h k.Assign (assigned t) (λ x ex h1 q v d h2. bare (λ z. R (x ∷ z) (act.Assign x.at t v)) q (make x q v ex d))

made_assign : {a : List Symbol} {t : Expr} → g.Unary a t → (x : Symbol) (q : List Symbol) (v : AssignedValue) → x.kind ≡ k.Assign → ValueReads q v → g.SimpleReads (a ++ x ∷ q) (act.Assign x.at t v)
made_assign d x q _ ex (ValueReads.expr d') = g.assign x d ex d'
made_assign d x q _ ex (ValueReads.call d') = g.assign_call x d ex d'

sound_value : (h : Option Symbol) → Sound ValueReads h (body ValueOf)
sound_value h = sound_try ValueReads h k.Id value_named value_plain
    (λ n en h1. sound_try (λ z w. ValueReads (n ∷ z) w) h1 k.LParen (λ x. Call (CallTail n) (λ c. Ret (value.Call c))) (Call (Resume level.Or n) (λ t. Ret (value.Expr t)))
    (λ x ex h2 q c d h3. bare (λ z. ValueReads (n ∷ x ∷ z) (value.Call c)) q (ValueReads.call (d x en ex)))
    (λ q t d h2. bare (λ z. ValueReads (n ∷ z) (value.Expr t)) q (ValueReads.expr (d en))))
    (λ q t d h1. bare (λ z. ValueReads z (value.Expr t)) q (ValueReads.expr d))

sound_simple : (h : Option Symbol) → Sound g.SimpleReads h simple
sound_simple h = sound_try g.SimpleReads h k.Id simple_named (Call UnaryOf assign_rest)
    (λ n en h1. sound_try (λ z w. g.SimpleReads (n ∷ z) w) h1 k.LParen (λ x. Call (CallTail n) (λ c. Ret (act.Call c))) (named_target n)
    (λ x ex h2 q c d h3. bare (λ z. g.SimpleReads (n ∷ x ∷ z) (act.Call c)) q (g.SimpleReads.call (d x en ex)))
    (λ a t d h2. sound_assign (λ z w. g.SimpleReads (n ∷ (a ++ z)) w) h2 t (made_assign (g.uncast (g.postfix (d (n ∷ []) (g.primary (g.name n en))))))))
    (λ a t d h1. sound_assign (λ z w. g.SimpleReads (a ++ z) w) h1 t (made_assign d))

-- the end of a `for`, behind what its head has so far
sound_for_body : (R : List Symbol → Stmt → Type 0) (h : Option Symbol) (x : Symbol) (i : Option Simple) (t : Option Expr) (p : Option Simple)
    → ((f : List Symbol) (c : List Stmt) → g.Body f c → R f (stmt.For x.at i t p c)) → Sound R h (for_body x i t p)
sound_for_body R h x i t p make = λ f c d h1. bare (λ z. R z (stmt.For x.at i t p c)) f (make f c d)

sound_for_step : (R : List Symbol → Stmt → Type 0) (h : Option Symbol) (x : Symbol) (i : Option Simple) (t : Option Expr)
    → ((d : List Symbol) (p : Option Simple) (v : Symbol) (f : List Symbol) (c : List Stmt) → g.MaybeSimple d p → v.kind ≡ k.RParen → g.Body f c → R (d ++ v ∷ f) (stmt.For x.at i t p c))
    → Sound R h (for_step x i t)
sound_for_step R h x i t make = sound_try R h k.RParen (λ y. for_body x i t None) (Call SimpleOf (for_step_some x i t))
    (λ v ev h1. sound_for_body (λ z w. R (v ∷ z) w) h1 x i t None (λ f c d. make [] None v f c g.MaybeSimple.none ev d))
    (λ d p dp h1. sound_expect (λ z w. R (d ++ z) w) h1 k.RParen (for_body x i t (Some p))
    (λ v ev h2. sound_for_body (λ z w. R (d ++ v ∷ z) w) h2 x i t (Some p) (λ f c b. make d (Some p) v f c (g.MaybeSimple.some dp) ev b)))

sound_for_test : (R : List Symbol → Stmt → Type 0) (h : Option Symbol) (x : Symbol) (i : Option Simple)
    → ((c : List Symbol) (t : Option Expr) (w : Symbol) (d : List Symbol) (p : Option Simple) (v : Symbol) (f : List Symbol) (b : List Stmt) → g.MaybeExpr c t → w.kind ≡ k.Semi → g.MaybeSimple d p
    → v.kind ≡ k.RParen → g.Body f b → R (c ++ w ∷ (d ++ v ∷ f)) (stmt.For x.at i t p b))
    → Sound R h (for_test x i)
sound_for_test R h x i make = sound_try R h k.Semi (λ y. for_step x i None) (Call (ChainOf level.Or) (for_test_some x i))
    (λ w ew h1. sound_for_step (λ z y. R (w ∷ z) y) h1 x i None (λ d p v f b dp ev db. make [] None w d p v f b g.MaybeExpr.none ew dp ev db))
    (λ c t dt h1. sound_expect (λ z y. R (c ++ z) y) h1 k.Semi (for_step x i (Some t))
    (λ w ew h2. sound_for_step (λ z y. R (c ++ w ∷ z) y) h2 x i (Some t) (λ d p v f b dp ev db. make c (Some t) w d p v f b (g.MaybeExpr.some dt) ew dp ev db)))

sound_for : (x : Symbol) → x.kind ≡ k.KwFor → (h : Option Symbol) → Sound (λ z w. g.Statement (x ∷ z) w) h (for_rest x)
sound_for x ex h = sound_expect (λ z w. g.Statement (x ∷ z) w) h k.LParen (for_first x)
    (λ y ey h1. sound_try (λ z w. g.Statement (x ∷ y ∷ z) w) h1 k.Semi (λ y. for_test x None) (Call SimpleOf (for_first_some x))
    (λ z ez h2. sound_for_test (λ q w. g.Statement (x ∷ y ∷ z ∷ q) w) h2 x None
    (λ c t w d p v f b dt ew dp ev db. g.for x y z w v ex ey g.MaybeSimple.none ez dt ew dp ev db))
    (λ a i di h2. sound_expect (λ q w. g.Statement (x ∷ y ∷ (a ++ q)) w) h2 k.Semi (for_test x (Some i))
    (λ z ez h3. sound_for_test (λ q w. g.Statement (x ∷ y ∷ (a ++ z ∷ q)) w) h3 x (Some i)
    (λ c t w d p v f b dt ew dp ev db. g.for x y z w v ex ey (g.MaybeSimple.some di) ez dt ew dp ev db))))

sound_do : (x : Symbol) → x.kind ≡ k.KwDo → (h : Option Symbol) → Sound (λ z w. g.Statement (x ∷ z) w) h (do_rest x)
sound_do x ex h = λ a b db h1. sound_expect (λ z w. g.Statement (x ∷ (a ++ z)) w) h1 k.KwWhile (expect k.LParen (Call (ChainOf level.Or) (do_end x b)))
    (λ y ey h2. sound_expect (λ z w. g.Statement (x ∷ (a ++ y ∷ z)) w) h2 k.LParen (Call (ChainOf level.Or) (do_end x b))
    (λ z ez h3 c t dt h4. sound_expect (λ q w. g.Statement (x ∷ (a ++ y ∷ z ∷ (c ++ q))) w) h4 k.RParen (expect k.Semi (Ret (stmt.Do x.at b t)))
    (λ w ew h5. sound_expect (λ q r. g.Statement (x ∷ (a ++ y ∷ z ∷ (c ++ w ∷ q))) r) h5 k.Semi (Ret (stmt.Do x.at b t))
    (λ v ev h6. g.do_while x y z w v ex db ey ez dt ew ev))))

sound_return : (x : Symbol) → x.kind ≡ k.KwReturn → (h : Option Symbol) → Sound (λ z w. g.Statement (x ∷ z) w) h (return_rest x)
sound_return x ex h = sound_try (λ z w. g.Statement (x ∷ z) w) h k.Semi (λ y. Ret (stmt.Return x.at None)) (return_value x)
    (λ y ey h1. g.return x y ex g.MaybeExpr.none ey)
    (λ a t d h1. sound_expect (λ z w. g.Statement (x ∷ (a ++ z)) w) h1 k.Semi (Ret (stmt.Return x.at (Some t))) (λ y ey h2. g.return x y ex (g.MaybeExpr.some d) ey))

sound_statement : (h : Option Symbol) → Sound g.Statement h statement
sound_statement h = sound_try g.Statement h k.Semi _ stmt_block (λ x ex h1. g.empty x ex)
    (sound_try g.Statement h k.LBrace block_rest stmt_return
    (λ x ex h1 a b d h2. bare (λ q. g.Statement (x ∷ q) (stmt.Block x.at b)) a (g.block x ex (d [] g.Statements.none)))
    (sound_try g.Statement h k.KwReturn return_rest stmt_break sound_return
    (sound_try g.Statement h k.KwBreak break_rest stmt_continue
    (λ x ex h1. sound_expect (λ z w. g.Statement (x ∷ z) w) h1 k.Semi (Ret (stmt.Break x.at)) (λ y ey h2. g.break x y ex ey))
    (sound_try g.Statement h k.KwContinue continue_rest stmt_if
    (λ x ex h1. sound_expect (λ z w. g.Statement (x ∷ z) w) h1 k.Semi (Ret (stmt.Continue x.at)) (λ y ey h2. g.continue x y ex ey))
    (sound_try g.Statement h k.KwIf (choice_arm []) stmt_while
    (λ x ex h1 a v d h2. sound_last (Choice (arm x v.0 v.1 ∷ [])) (λ q w. g.Statement (x ∷ (a ++ q)) w) h2 (λ q w d'. d' (x ∷ a) (g.first x ex d)))
    (sound_try g.Statement h k.KwWhile while_rest stmt_do
    (λ x ex h1 a v d h2. bare (λ q. g.Statement (x ∷ q) (stmt.While x.at v.0 v.1)) a (g.while x ex d))
    (sound_try g.Statement h k.KwDo do_rest stmt_for sound_do
    (sound_try g.Statement h k.KwFor for_rest stmt_simple sound_for
    (λ a t d h1. sound_expect (λ q w. g.Statement (a ++ q) w) h1 k.Semi (Ret (stmt.Simple t)) (λ x ex h2. g.simple x d ex))))))))))

-- behind a declarator, the item with or without initialiser
sound_init : (R : List Symbol → ObjectItem → Type 0) (h : Option Symbol) (d : Declarator) → ((s : List Symbol) (o : ObjectItem) → ObjectRest d s o → R s o) → Sound R h (object_init d)
sound_init R h d make = sound_try R h k.Assign (object_value d) (Ret (record { declarator = d; initialised = None }))
    (λ x ex h1 s v dv h2. bare (λ z. R (x ∷ z) (object_done d x v)) s (make (x ∷ s) (object_done d x v) (ObjectRest.given x ex dv)))
    (make [] (record { declarator = d; initialised = None }) ObjectRest.none)

sound_tail : (n : ℕ) (x : Symbol) (h : Option Symbol) → Sound (Accepts (ObjectTail n x)) h (object_tail n x)
sound_tail n x h = sound_try (Accepts (ObjectTail n x)) h k.LBracket (object_bracket n x) (object_init (declarator n x false []))
    (λ y ey h1. sound_try (λ q w. Accepts (ObjectTail n x) (y ∷ q) w) h1 k.RBracket (object_open n x) (try k.Num (object_length n x) Fail)
    (λ z ez h2 s ns dns h3. sound_init (λ q w. Accepts (ObjectTail n x) (y ∷ z ∷ (s ++ q)) w) h3 (declarator n x true ns) (λ q o r p dp ex.
    let e1 : (p ++ x ∷ y ∷ z ∷ s) ++ q ≡ p ++ x ∷ y ∷ z ∷ (s ++ q) = simp append_assoc in
    subst (λ (u : List Symbol). g.ObjectReads u o) e1 (object_made (g.open_array x y z dp ex ey ez (dns [] g.Lengths.none)) r)))
    (sound_need (λ q w. Accepts (ObjectTail n x) (y ∷ q) w) h1 k.Num (object_length n x)
    (λ m em h2. sound_expect (λ q w. Accepts (ObjectTail n x) (y ∷ m ∷ q) w) h2 k.RBracket (Call (LengthsOf (number_at m ∷ [])) (λ ns. object_init (declarator n x false ns)))
    (λ z ez h3 s ns dns h4. sound_init (λ q w. Accepts (ObjectTail n x) (y ∷ m ∷ z ∷ (s ++ q)) w) h4 (declarator n x false ns) (λ q o r p dp ex.
    let e1 : (p ++ x ∷ y ∷ m ∷ z ∷ s) ++ q ≡ p ++ x ∷ y ∷ m ∷ z ∷ (s ++ q) = simp append_assoc in
    let ls : g.Lengths (y ∷ m ∷ z ∷ s) ns = dns (y ∷ m ∷ z ∷ []) (g.Lengths.more y m z g.Lengths.none ey em ez) in
    subst (λ (u : List Symbol). g.ObjectReads u o) e1 (object_made (g.known (g.field x dp ex ls)) r))))))
    (sound_init (Accepts (ObjectTail n x)) h (declarator n x false []) (λ q o r p dp ex.
    let e1 : (p ++ x ∷ []) ++ q ≡ p ++ x ∷ q = append_assoc p (x ∷ []) q in
    subst (λ (u : List Symbol). g.ObjectReads u o) e1 (object_made (g.known (g.field x dp ex g.Lengths.none)) r)))

sound_head : (R : List Symbol → External → Type 0) (o : Option Symbol) (h : Head) (b : Bool)
    → ((z : Symbol) → z.kind ≡ k.Semi → R (z ∷ []) (top.Prototype h))
    → (b ≡ true → (z : Symbol) (c d : List Symbol) (ls : List Locals) (ss : List Stmt) → z.kind ≡ k.LBrace → g.LocalLists c ls → g.Braced d ss → R (z ∷ (c ++ d)) (top.Function h ls ss))
    → Sound R o (head_at h b)
sound_head R o h true f m = sound_try R o k.LBrace (function_locals h) (head_end h)
    (λ z ez h1 c ls dl h2 d ss ds h3. bare (λ q. R (z ∷ (c ++ q)) (top.Function h ls ss)) d (m refl z c d ls ss ez (dl [] g.LocalLists.none) (ds [] g.Statements.none)))
    (sound_expect R o k.Semi (Ret (top.Prototype h)) (λ z ez h1. f z ez))
sound_head R o h false f m = sound_expect R o k.Semi (Ret (top.Prototype h)) (λ z ez h1. f z ez)

sound_declared : (l : Linkage) (t : Base) (h : Option Symbol) → Sound (Accepts (DeclaredOf l t)) h (body (DeclaredOf l t))
sound_declared l t h = λ s n dn h1. sound_need (λ q w. Accepts (DeclaredOf l t) (s ++ q) w) h1 k.Id (declared_named l t n)
    (λ x ex h2. sound_try (λ q w. Accepts (DeclaredOf l t) (s ++ x ∷ q) w) h2 k.LParen (λ y. Call ParameterList (head_closed l t n x)) (Call (ObjectTail n x) (objects_first l t))
    (λ y ey h3 f ps dp h4. sound_head (λ q w. Accepts (DeclaredOf l t) (s ++ x ∷ y ∷ (f ++ q)) w) h4 (head_of l t n x ps) (all_named ps)
    (λ z ez p dl.
    let e1 : (p ++ (s ++ x ∷ y ∷ f)) ++ z ∷ [] ≡ p ++ (s ++ x ∷ y ∷ (f ++ z ∷ [])) = simp append_assoc in
    subst (λ (u : List Symbol). g.ExternalReads u (top.Prototype (head_of l t n x ps))) e1 (g.prototype z (g.head x y dl (dn [] g.Stars.none) ex ey dp) ez))
    (λ an z c d ls ss ez dls dss p dl.
    let e1 : (p ++ (s ++ x ∷ y ∷ f)) ++ z ∷ (c ++ d) ≡ p ++ (s ++ x ∷ y ∷ (f ++ z ∷ (c ++ d))) = simp append_assoc in
    subst (λ (u : List Symbol). g.ExternalReads u (top.Function (head_of l t n x ps) ls ss)) e1 (g.function z (g.head x y dl (dn [] g.Stars.none) ex ey dp) an ez dls dss)))
    (λ q d dd h3 u ds dds h4. sound_expect (λ z w. Accepts (DeclaredOf l t) (s ++ x ∷ (q ++ (u ++ z))) w) h4 k.Semi (Ret (top.Objects l t ds))
    (λ z ez h5 p dl.
    let one : g.Objects (s ++ x ∷ q) (d ∷ []) = g.Objects.one (dd s (dn [] g.Stars.none) ex) in
    let e1 : p ++ (((s ++ x ∷ q) ++ u) ++ z ∷ []) ≡ p ++ (s ++ x ∷ (q ++ (u ++ z ∷ []))) = simp append_assoc in
    subst (λ (v : List Symbol). g.ExternalReads v (top.Objects l t ds)) e1 (g.objects z dl (dds (s ++ x ∷ q) one) ez))))

sound_locals : (found : List Locals) (r : Bool) (a c : List Symbol) (t : Base) → g.RegisterReads a r → g.BaseReads c t → (h : Option Symbol)
    → Sound (λ q w. Accepts (LocalListsOf found) (a ++ (c ++ q)) w) h (locals_from found r t)
sound_locals found r a c t dr dt h = λ s d dd h1 u ds dds h2. sound_expect (λ q w. Accepts (LocalListsOf found) (a ++ (c ++ (s ++ (u ++ q)))) w) h2 k.Semi (locals_next found r t ds)
    (λ x ex h3. sound_last (LocalListsOf (found ++ record { is_register = r; base = t; items = ds } ∷ [])) (λ q w. Accepts (LocalListsOf found) (a ++ (c ++ (s ++ (u ++ x ∷ q)))) w) h3 (λ q w d' p dp.
    let one : g.LocalsRead (a ++ (c ++ ((s ++ u) ++ x ∷ []))) (record { is_register = r; base = t; items = ds }) = g.locals x dr dt (dds s (g.LocalItems.one dd)) ex in
    let e1 : (p ++ (a ++ (c ++ ((s ++ u) ++ x ∷ [])))) ++ q ≡ p ++ (a ++ (c ++ (s ++ (u ++ x ∷ q)))) = simp append_assoc in
    subst (λ (z : List Symbol). g.LocalLists z w) e1 (d' (p ++ (a ++ (c ++ ((s ++ u) ++ x ∷ [])))) (g.LocalLists.more dp one))))

sound_locals_at : (found : List Locals) (b : Bool) (h : Option Symbol) → Sound (Accepts (LocalListsOf found)) h (locals_at found b)
sound_locals_at found true h = λ c t dt h1. sound_locals found false [] c t g.RegisterReads.no dt h1
sound_locals_at found false h = λ p d. bare (λ q. g.LocalLists q found) p d

sound_specified : (R : List Symbol → External → Type 0) (l : Linkage) (h : Option Symbol)
    → ((s : List Symbol) (t : Base) → g.BaseReads s t → (q : List Symbol) (w : External) → Accepts (DeclaredOf l t) q w → R (s ++ q) w) → Sound R h (specified l)
sound_specified R l h make = λ s t dt h1. sound_last (DeclaredOf l t) (λ q w. R (s ++ q) w) h1 (λ q w d. make s t dt q w d)

sound_unit : (found : List External) (h : Option Symbol) → Sound (Accepts (UnitOf found)) h (unit_more found)
sound_unit found h = λ a t d h1. sound_last (UnitOf (found ++ t ∷ [])) (λ q b. Accepts (UnitOf found) (a ++ q) b) h1 (λ q b d' p dp.
    subst (λ (z : List Symbol). g.Reads z b) (append_assoc p a q) (d' (p ++ a) (g.Reads.more dp d)))

pub sound : (m : Rule) (h : Option Symbol) → Sound (Accepts m) h (body m)
sound BaseWord = sound_words
sound BaseType = λ h. sound_try g.BaseReads h k.KwConst (λ x. base_after true) (base_after false)
    (λ x ex h1 s v d h2. bare (λ q. g.BaseReads (x ∷ q) (base_from true v)) s (g.BaseReads.constant x ex d))
    (λ s v d h1. bare (λ q. g.BaseReads q (base_from false v)) s (g.BaseReads.plain d))
sound (StarsOf n) = λ h. sound_try (Accepts (StarsOf n)) h k.Star (λ x. Call (StarsOf (suc n)) Ret) (Ret n)
    (λ x ex h'. sound_last (StarsOf (suc n)) (λ q i. Accepts (StarsOf n) (x ∷ q) i) h' (λ s i d p dp.
    subst (λ (z : List Symbol). g.Stars z i) (append_assoc p (x ∷ []) s) (d (p ++ x ∷ []) (stars_snoc x ex dp))))
    (λ p d. bare (λ q. g.Stars q n) p d)
sound TypeOf = λ h s t d h1 q n d' h2.
    let w : g.TypeReads (s ++ q) (record { base = t; stars = n }) = g.TypeReads.named d (d' [] g.Stars.none) in
    subst (λ (z : List Symbol). g.TypeReads (s ++ z) (record { base = t; stars = n })) (sym (append-nil q)) w
sound PrimaryOf = λ h. sound_try g.Primary h k.Id _ primary_literal (λ x ex h1. g.name x ex)
    (sound_try g.Primary h k.Num _ _ (λ x ex h1. g.number x ex) (sound_need g.Primary h k.Char _ (λ x ex h1. g.character x ex)))
sound PostfixOf = λ h s t d h'. sound_last (After t) (λ q w. g.Postfix (s ++ q) w) h' (λ q w d'. d' s (g.primary d))
sound (After a) = sound_after a
sound (Inner x) = λ h s t d h1. sound_expect (λ q w. Accepts (Inner x) (s ++ q) w) h1 k.RParen (inner_close t)
    (λ y ey h2. sound_last (After t) (λ q w. Accepts (Inner x) (s ++ y ∷ q) w) h2 (λ q w d' ex.
    let e1 : (x ∷ (s ++ y ∷ [])) ++ q ≡ x ∷ (s ++ y ∷ q) = simp append_assoc in
    subst (λ (z : List Symbol). g.Postfix z w) e1 (d' (x ∷ (s ++ y ∷ [])) (g.primary (g.parens x y ex d ey)))))
sound (Open x) = λ h. sound_open x (begins_type h) h
sound Plain = λ h. sound_try g.Uncast h k.KwSizeof (λ x. Call (SizeofOf x) Ret) (Peek prefix_by)
    (λ x ex h1. sound_last (SizeofOf x) (λ q w. g.Uncast (x ∷ q) w) h1 (λ s v d. d ex))
    (sound_prefix_by h)
sound (SizeofOf x) = λ h. sound_try (Accepts (SizeofOf x)) h k.LParen (λ y. Call (SizeofOpen x y) Ret) (sizeof_plain x)
    (λ y ey h1. sound_last (SizeofOpen x y) (λ q w. Accepts (SizeofOf x) (y ∷ q) w) h1 (λ s v d ex. d ex ey))
    (λ s t d h1 ex. bare (λ q. g.Uncast (x ∷ q) (e.Sizeof x.at t)) s (g.sizeof x ex d))
sound (SizeofOpen x y) = λ h. sound_sizeof_open x y (begins_type h) h
sound UnaryOf = λ h. sound_try g.Unary h k.LParen (λ x. Call (Open x) Ret) (Call Plain Ret)
    (λ x ex h'. sound_last (Open x) (λ q w. g.Unary (x ∷ q) w) h' (λ s v d. d ex))
    (sound_last Plain g.Unary h (λ s v d. g.uncast d))
sound (OperandOf level.Or) = λ h. sound_last (ChainOf level.And) (g.Operand level.Or) h (λ s v d. g.of_or d)
sound (OperandOf level.And) = λ h. sound_last (ChainOf level.BitOr) (g.Operand level.And) h (λ s v d. g.of_and d)
sound (OperandOf level.BitOr) = λ h. sound_last (ChainOf level.BitXor) (g.Operand level.BitOr) h (λ s v d. g.of_bit_or d)
sound (OperandOf level.BitXor) = λ h. sound_last (ChainOf level.BitAnd) (g.Operand level.BitXor) h (λ s v d. g.of_bit_xor d)
sound (OperandOf level.BitAnd) = λ h. sound_last (ChainOf level.Equality) (g.Operand level.BitAnd) h (λ s v d. g.of_bit_and d)
sound (OperandOf level.Equality) = λ h. sound_last (ChainOf level.Order) (g.Operand level.Equality) h (λ s v d. g.of_equality d)
sound (OperandOf level.Order) = λ h. sound_last (ChainOf level.Shift) (g.Operand level.Order) h (λ s v d. g.of_order d)
sound (OperandOf level.Shift) = λ h. sound_last (ChainOf level.Sum) (g.Operand level.Shift) h (λ s v d. g.of_shift d)
sound (OperandOf level.Sum) = λ h. sound_last (ChainOf level.Product) (g.Operand level.Sum) h (λ s v d. g.of_sum d)
sound (OperandOf level.Product) = λ h. sound_last UnaryOf (g.Operand level.Product) h (λ s v d. g.of_product d)
sound (ChainOf l) = λ h s t d h'. sound_last (Further l t) (λ q w. g.Chain l (s ++ q) w) h' (λ q w d'. d' s (g.operand d))
sound (Further l a) = elim [ None ↦ (λ p d. bare (λ q. g.Chain l q a) p d) | Some x ↦ sound_further l a x (operator_of l x.kind) refl ]
sound (Resume level.Or n) = λ h s t d h1 q w d2 h2 en. bare (λ z. g.Chain level.Or (n ∷ (s ++ z)) w) q (d2 (n ∷ s) (g.operand (g.of_or (d en))))
sound (Resume level.And n) = λ h s t d h1 q w d2 h2 en. bare (λ z. g.Chain level.And (n ∷ (s ++ z)) w) q (d2 (n ∷ s) (g.operand (g.of_and (d en))))
sound (Resume level.BitOr n) = λ h s t d h1 q w d2 h2 en. bare (λ z. g.Chain level.BitOr (n ∷ (s ++ z)) w) q (d2 (n ∷ s) (g.operand (g.of_bit_or (d en))))
sound (Resume level.BitXor n) = λ h s t d h1 q w d2 h2 en. bare (λ z. g.Chain level.BitXor (n ∷ (s ++ z)) w) q (d2 (n ∷ s) (g.operand (g.of_bit_xor (d en))))
sound (Resume level.BitAnd n) = λ h s t d h1 q w d2 h2 en. bare (λ z. g.Chain level.BitAnd (n ∷ (s ++ z)) w) q (d2 (n ∷ s) (g.operand (g.of_bit_and (d en))))
sound (Resume level.Equality n) = λ h s t d h1 q w d2 h2 en. bare (λ z. g.Chain level.Equality (n ∷ (s ++ z)) w) q (d2 (n ∷ s) (g.operand (g.of_equality (d en))))
sound (Resume level.Order n) = λ h s t d h1 q w d2 h2 en. bare (λ z. g.Chain level.Order (n ∷ (s ++ z)) w) q (d2 (n ∷ s) (g.operand (g.of_order (d en))))
sound (Resume level.Shift n) = λ h s t d h1 q w d2 h2 en. bare (λ z. g.Chain level.Shift (n ∷ (s ++ z)) w) q (d2 (n ∷ s) (g.operand (g.of_shift (d en))))
sound (Resume level.Sum n) = λ h s t d h1 q w d2 h2 en. bare (λ z. g.Chain level.Sum (n ∷ (s ++ z)) w) q (d2 (n ∷ s) (g.operand (g.of_sum (d en))))
sound (Resume level.Product n) = λ h s t d h1 q w d2 h2 en. bare (λ z. g.Chain level.Product (n ∷ (s ++ z)) w) q (d2 (n ∷ s) (g.operand (g.of_product (g.uncast (g.postfix (d (n ∷ []) (g.primary (g.name n en))))))))
sound (ArgumentsOf found) = λ h. sound_try (Accepts (ArgumentsOf found)) h k.Comma (argument found) (Ret found)
    (λ x ex h1 s t d h2. sound_last (ArgumentsOf (found ++ t ∷ [])) (λ q ts. Accepts (ArgumentsOf found) (x ∷ (s ++ q)) ts) h2 (λ q ts d' p dp.
    subst (λ (z : List Symbol). g.Arguments z ts) (append_assoc p (x ∷ s) q) (d' (p ++ x ∷ s) (g.Arguments.more x dp ex d))))
    (λ p d. bare (λ q. g.Arguments q found) p d)
sound (CallTail n) = λ h. sound_try (Accepts (CallTail n)) h k.RParen (λ y. Ret (call_of n [])) (call_first n)
    (λ y ey h1 x en ex. g.CallReads.none n x y en ex ey)
    (λ a t d h1 q ts d' h2. sound_expect (λ z w. Accepts (CallTail n) (a ++ (q ++ z)) w) h2 k.RParen (Ret (call_of n ts))
    (λ y ey h3 x en ex. subst (λ (z : List Symbol). g.CallReads (n ∷ x ∷ z) (call_of n ts)) (append_assoc a q (y ∷ [])) (g.CallReads.some n x y en ex (d' a (g.Arguments.one d)) ey)))
sound ValueOf = sound_value
sound SimpleOf = sound_simple
sound StatementOf = sound_statement
sound GuardedOf = λ h. sound_expect (Accepts GuardedOf) h k.LParen guard_test
    (λ x ex h1 a t d h2. sound_expect (λ q v. Accepts GuardedOf (x ∷ (a ++ q)) v) h2 k.RParen (guard_body t)
    (λ y ey h3 q b db h4. g.guarded x y ex d ey (bare (λ z. g.Body z b) q db)))
sound (Choice arms) = λ h. sound_try (Accepts (Choice arms)) h k.KwElse (choice_more arms) (Ret (stmt.If arms None))
    (λ x ex h1. sound_try (λ q w. Accepts (Choice arms) (x ∷ q) w) h1 k.KwIf (choice_arm arms) (choice_last arms)
    (λ y ey h2 a v d h3. sound_last (Choice (arms ++ arm y v.0 v.1 ∷ [])) (λ q w. Accepts (Choice arms) (x ∷ y ∷ (a ++ q)) w) h3 (λ q w d' p dp.
    subst (λ (z : List Symbol). g.Statement z w) (append_assoc p (x ∷ y ∷ a) q) (d' (p ++ x ∷ y ∷ a) (g.another x y dp ex ey d))))
    (λ a b d h2 p dp. g.choice_else x dp ex (bare (λ z. g.Body z b) a d)))
    (λ p d. bare (λ q. g.Statement q (stmt.If arms None)) p (g.choice d))
sound BodyOf = λ h. sound_expect g.Body h k.LBrace (Call (StatementsOf []) Ret)
    (λ x ex h1. sound_last (StatementsOf []) (λ q b. g.Body (x ∷ q) b) h1 (λ q b d. g.braces x ex (d [] g.Statements.none)))
sound (StatementsOf found) = λ h. sound_try (Accepts (StatementsOf found)) h k.RBrace (λ y. Ret found) (statements_more found)
    (λ y ey h1 p d. g.Braced.closed y d ey)
    (λ a t d h1. sound_last (StatementsOf (found ++ t ∷ [])) (λ q b. Accepts (StatementsOf found) (a ++ q) b) h1 (λ q b d' p dp.
    subst (λ (z : List Symbol). g.Braced z b) (append_assoc p a q) (d' (p ++ a) (g.Statements.more dp d))))
sound (LengthsOf found) = λ h. sound_try (Accepts (LengthsOf found)) h k.LBracket (length_at found) (Ret found)
    (λ x ex h1. sound_need (λ q w. Accepts (LengthsOf found) (x ∷ q) w) h1 k.Num (length_number found)
    (λ m em h2. sound_expect (λ q w. Accepts (LengthsOf found) (x ∷ m ∷ q) w) h2 k.RBracket (Call (LengthsOf (found ++ number_at m ∷ [])) Ret)
    (λ y ey h3. sound_last (LengthsOf (found ++ number_at m ∷ [])) (λ q w. Accepts (LengthsOf found) (x ∷ m ∷ y ∷ q) w) h3 (λ q w d' p dp.
    subst (λ (z : List Symbol). g.Lengths z w) (append_assoc p (x ∷ m ∷ y ∷ []) q) (d' (p ++ x ∷ m ∷ y ∷ []) (g.Lengths.more x m y dp ex em ey))))))
    (λ p d. bare (λ q. g.Lengths q found) p d)
sound FieldOf = λ h s n dn h1. sound_need (λ q w. g.FieldReads (s ++ q) w) h1 k.Id (field_named n)
    (λ x ex h2 q ns d h3. bare (λ z. g.FieldReads (s ++ x ∷ z) (declarator n x false ns)) q (g.field x (dn [] g.Stars.none) ex (d [] g.Lengths.none)))
sound (FieldsOf found) = λ h. sound_try (Accepts (FieldsOf found)) h k.Comma (fields_more found) (Ret found)
    (λ x ex h1 s d dd h2. sound_last (FieldsOf (found ++ d ∷ [])) (λ q ds. Accepts (FieldsOf found) (x ∷ (s ++ q)) ds) h2 (λ q ds d' p dp.
    subst (λ (z : List Symbol). g.Fields z ds) (append_assoc p (x ∷ s) q) (d' (p ++ x ∷ s) (g.Fields.more x dp ex dd))))
    (λ p d. bare (λ q. g.Fields q found) p d)
sound MemberOf = λ h s t dt h1 q d dd h2 u fs df h3. sound_expect (λ z w. g.MemberReads (s ++ (q ++ (u ++ z))) w) h3 k.Semi (Ret (record { base = t; fields = fs }))
    (λ x ex h4. subst (λ (z : List Symbol). g.MemberReads (s ++ z) (record { base = t; fields = fs })) (append_assoc q u (x ∷ [])) (g.member x dt (df q (g.Fields.one dd)) ex))
sound (MembersOf found) = λ h. sound_try (Accepts (MembersOf found)) h k.RBrace (λ y. Ret found) (members_more found)
    (λ y ey h1 p d. g.MembersClosed.closed y d ey)
    (λ a m d h1. sound_last (MembersOf (found ++ m ∷ [])) (λ q b. Accepts (MembersOf found) (a ++ q) b) h1 (λ q b d' p dp.
    subst (λ (z : List Symbol). g.MembersClosed z b) (append_assoc p a q) (d' (p ++ a) (g.MemberLists.more dp d))))
sound InitialiserOf = λ h. sound_try g.InitialiserReads h k.Str (λ x. Ret (string_of x)) init_braces (λ x ex h1. g.InitialiserReads.string x ex)
    (sound_try g.InitialiserReads h k.LBrace list_first init_expr
    (λ x ex h1 s v d h2 q vs d' h3. bare (λ z. g.InitialiserReads (x ∷ (s ++ z)) (init.List x.at vs)) q (g.InitialiserReads.items x ex (d' s (g.InitialiserItems.one d))))
    (λ s t d h1. bare (λ z. g.InitialiserReads z (init.Expr t)) s (g.InitialiserReads.expr d)))
sound (ItemsOf found) = λ h. sound_try (Accepts (ItemsOf found)) h k.Comma (items_comma found) (expect k.RBrace (Ret found))
    (λ x ex h1. sound_try (λ q w. Accepts (ItemsOf found) (x ∷ q) w) h1 k.RBrace (λ y. Ret found) (items_next found)
    (λ y ey h2 p d. g.ItemsClosed.comma x y d ex ey)
    (λ s v d h2. sound_last (ItemsOf (found ++ v ∷ [])) (λ q w. Accepts (ItemsOf found) (x ∷ (s ++ q)) w) h2 (λ q w d' p dp.
    subst (λ (z : List Symbol). g.ItemsClosed z w) (append_assoc p (x ∷ s) q) (d' (p ++ x ∷ s) (g.InitialiserItems.more x dp ex d)))))
    (sound_expect (Accepts (ItemsOf found)) h k.RBrace (Ret found) (λ y ey h1 p d. g.ItemsClosed.closed y d ey))
sound (ObjectTail n x) = sound_tail n x
sound ObjectOf = λ h s n dn h1. sound_need (λ q w. g.ObjectReads (s ++ q) w) h1 k.Id (object_named n)
    (λ x ex h2. sound_last (ObjectTail n x) (λ q w. g.ObjectReads (s ++ x ∷ q) w) h2 (λ q w d. d s (dn [] g.Stars.none) ex))
sound (ObjectsOf found) = λ h. sound_try (Accepts (ObjectsOf found)) h k.Comma (objects_more found) (Ret found)
    (λ x ex h1 s d dd h2. sound_last (ObjectsOf (found ++ d ∷ [])) (λ q ds. Accepts (ObjectsOf found) (x ∷ (s ++ q)) ds) h2 (λ q ds d' p dp.
    subst (λ (z : List Symbol). g.Objects z ds) (append_assoc p (x ∷ s) q) (d' (p ++ x ∷ s) (g.Objects.more x dp ex dd))))
    (λ p d. bare (λ q. g.Objects q found) p d)
sound (ParameterTail t) = λ h s n dn h1. sound_try (λ q w. Accepts (ParameterTail t) (s ++ q) w) h1 k.Id (parameter_named t n) (Ret (parameter_of t n None))
    (λ x ex h2 p dp. g.ParameterReads.named x dp (dn [] g.Stars.none) ex)
    (λ p dp. bare (λ z. g.ParameterReads (p ++ z) (parameter_of t n None)) s (g.ParameterReads.bare dp (dn [] g.Stars.none)))
sound ParameterOf = λ h s t dt h1. sound_last (ParameterTail t) (λ q w. g.ParameterReads (s ++ q) w) h1 (λ q w d. d s dt)
sound (ParametersOf found) = λ h. sound_try (Accepts (ParametersOf found)) h k.Comma (parameters_more found) (Ret found)
    (λ x ex h1 s d dd h2. sound_last (ParametersOf (found ++ d ∷ [])) (λ q ds. Accepts (ParametersOf found) (x ∷ (s ++ q)) ds) h2 (λ q ds d' p dp.
    subst (λ (z : List Symbol). g.Parameters z ds) (append_assoc p (x ∷ s) q) (d' (p ++ x ∷ s) (g.Parameters.more x dp ex dd))))
    (λ p d. bare (λ q. g.Parameters q found) p d)
sound ParameterList = λ h. sound_try g.ParametersClosed h k.RParen (λ y. Ret []) parameters_given (λ y ey h1. g.ParametersClosed.empty y ey)
    (λ s q dq h1 u ps dp h2. sound_expect (λ z w. g.ParametersClosed (s ++ (u ++ z)) w) h2 k.RParen (Ret (proper ps))
    (λ y ey h3. subst (λ (z : List Symbol). g.ParametersClosed z (proper ps)) (append_assoc s u (y ∷ [])) (g.ParametersClosed.closed y (dp s (g.Parameters.one dq)) ey)))
sound (DeclaredOf l t) = sound_declared l t
sound LocalOf = λ h s d dd h1. sound_try (λ q w. g.LocalReads (s ++ q) w) h1 k.Assign (λ x. Call (ChainOf level.Or) (λ v. Ret (local_value d x v))) (Ret (record { declarator = d; value = None }))
    (λ x ex h2 q v dv h3. bare (λ z. g.LocalReads (s ++ x ∷ z) (local_value d x v)) q (g.LocalReads.initialised x dd ex dv))
    (bare (λ z. g.LocalReads z (record { declarator = d; value = None })) s (g.LocalReads.bare dd))
sound (LocalItemsOf found) = λ h. sound_try (Accepts (LocalItemsOf found)) h k.Comma (local_items_more found) (Ret found)
    (λ x ex h1 s d dd h2. sound_last (LocalItemsOf (found ++ d ∷ [])) (λ q ds. Accepts (LocalItemsOf found) (x ∷ (s ++ q)) ds) h2 (λ q ds d' p dp.
    subst (λ (z : List Symbol). g.LocalItems z ds) (append_assoc p (x ∷ s) q) (d' (p ++ x ∷ s) (g.LocalItems.more x dp ex dd))))
    (λ p d. bare (λ q. g.LocalItems q found) p d)
sound (LocalListsOf found) = λ h. sound_try (Accepts (LocalListsOf found)) h k.KwRegister (λ x. Call BaseType (locals_from found true)) (Peek (λ h. locals_at found (begins_type h)))
    (λ x ex h1 c t dt h2. sound_locals found true (x ∷ []) c t (g.RegisterReads.yes x ex) dt h2)
    (sound_locals_at found (begins_type h) h)
sound ExternalOf = λ h. sound_try g.ExternalReads h k.KwStruct struct_start external_static
    (λ x ex h1. sound_need (λ q w. g.ExternalReads (x ∷ q) w) h1 k.Id struct_named
    (λ n en h2. sound_try (λ q w. g.ExternalReads (x ∷ n ∷ q) w) h2 k.LBrace (struct_first n) (Call (DeclaredOf linkage.Plain (struct_base n)) Ret)
    (λ y ey h3 s m dm h4 u ms dms h5. sound_expect (λ q w. g.ExternalReads (x ∷ n ∷ y ∷ (s ++ (u ++ q))) w) h5 k.Semi (Ret (top.Struct (name_at n) ms))
    (λ w ew h6. subst (λ (z : List Symbol). g.ExternalReads (x ∷ n ∷ y ∷ z) (top.Struct (name_at n) ms)) (append_assoc s u (w ∷ [])) (g.ExternalReads.struct x n y w ex en ey (dms s (g.MemberLists.one dm)) ew)))
    (sound_last (DeclaredOf linkage.Plain (struct_base n)) (λ q w. g.ExternalReads (x ∷ n ∷ q) w) h2 (λ q w d. d (x ∷ n ∷ []) (g.specified g.LinkageReads.plain (g.BaseReads.plain (g.BaseWords.struct x n ex en)))))))
    (sound_try g.ExternalReads h k.KwStatic (λ x. specified linkage.Static) external_extern
    (λ x ex h1. sound_specified (λ q w. g.ExternalReads (x ∷ q) w) linkage.Static h1 (λ s t dt q w d. d (x ∷ s) (g.specified (g.LinkageReads.internal x ex) dt)))
    (sound_try g.ExternalReads h k.KwExtern (λ x. specified linkage.Extern) (specified linkage.Plain)
    (λ x ex h1. sound_specified (λ q w. g.ExternalReads (x ∷ q) w) linkage.Extern h1 (λ s t dt q w d. d (x ∷ s) (g.specified (g.LinkageReads.external x ex) dt)))
    (sound_specified g.ExternalReads linkage.Plain h (λ s t dt q w d. d s (g.specified g.LinkageReads.plain dt)))))
sound (UnitOf found) = elim [ None ↦ (λ p d. bare (λ q. g.Reads q found) p d) | Some x ↦ sound_unit found (Some x) ]

-- how many tokens a rule takes at least
abbrev pub eats : Rule → ℕ
eats StatementOf = 1
eats MemberOf = 1
eats ExternalOf = 1
eats _ = 0

statement_some : {a : List Symbol} {t : Stmt} → g.Statement a t → 1 ≤ length a
statement_some (g.empty x h) = omega arith
statement_some (g.block x h d) = omega arith
statement_some (g.simple x {a = a} d h) = omega (arith, length-append a (x ∷ []))
statement_some (g.return x y h d h') = omega arith
statement_some (g.break x y h h') = omega arith
statement_some (g.continue x y h h') = omega arith
statement_some (g.choice (g.first x h d)) = omega arith
statement_some (g.choice (g.another x y {a = a} {c = c} d h h' d')) = omega (arith, length-append a (x ∷ y ∷ c))
statement_some (g.choice_else x {a = a} {c = c} d h d') = omega (arith, length-append a (x ∷ c))
statement_some (g.while x h d) = omega arith
statement_some (g.do_while x y z w v h d h' h'' d' i j) = omega arith
statement_some (g.for x y z w v h h' d i d' j d'' l m) = omega arith

words_some : {a : List Symbol} {at : ℕ} {t : BaseKind} → g.BaseWords a at t → 1 ≤ length a
words_some (g.int x h) = omega arith
words_some (g.char x h) = omega arith
words_some (g.signed x h) = omega arith
words_some (g.signed_int x y h h') = omega arith
words_some (g.signed_char x y h h') = omega arith
words_some (g.unsigned x h) = omega arith
words_some (g.unsigned_int x y h h') = omega arith
words_some (g.unsigned_char x y h h') = omega arith
words_some (g.void x h) = omega arith
words_some (g.BaseWords.struct x y h h') = omega arith

base_some : {a : List Symbol} {t : Base} → g.BaseReads a t → 1 ≤ length a
base_some (g.BaseReads.plain d) = words_some d
base_some (g.BaseReads.constant x h d) = omega arith

member_some : {a : List Symbol} {m : Members} → g.MemberReads a m → 1 ≤ length a
member_some (g.member x {a = a} {c = c} d d' h) = omega (arith, base_some d, length-append a (c ++ x ∷ []))

specifiers_some : {a : List Symbol} {l : Linkage} {t : Base} → g.Specifiers a l t → 1 ≤ length a
specifiers_some (g.specified {a = a} {c = c} d d') = omega (arith, base_some d', length-append a c)

head_some : {a : List Symbol} {h : Head} → g.HeadReads a h → 1 ≤ length a
head_some (g.head x y {a = a} {d = d} {f = f} dl dn ex ey dp) = omega (arith, specifiers_some dl, length-append a (d ++ x ∷ y ∷ f))

pub external_some : {a : List Symbol} {t : External} → g.ExternalReads a t → 1 ≤ length a
external_some (g.ExternalReads.struct x n y w ex en ey d ew) = omega arith
external_some (g.objects x {a = a} {d = d} dl dd ex) = omega (arith, specifiers_some dl, length-append a (d ++ x ∷ []))
external_some (g.prototype x {a = a} dh ex) = omega (arith, head_some dh, length-append a (x ∷ []))
external_some (g.function x {a = a} {c = c} {d = d} dh n ex dl ds) = omega (arith, head_some dh, length-append a (x ∷ (c ++ d)))

eaten : (m : Rule) (a : List Symbol) (v : Sort m) → Accepts m a v → eats m ≤ length a
eaten StatementOf a v d = statement_some d
eaten MemberOf a v d = member_some d
eaten ExternalOf a v d = external_some d
eaten _ a v d = omega arith

pub consumed : (n : ℕ) (m : Rule) (ts : List Symbol) (v : Sort m) → (exec n m ts).0 ≡ Some v → length (exec n m ts).1 + eats m ≤ length ts
consumed n m ts v e =
    let r = sound_exec sound n m ts in
    let d : Accepts m r.front v = subst (λ (v : Option (Sort m)). Says (Accepts m) r.front v) e r.says in
    omega (arith, eaten m r.front v d, ap length r.is, length-append r.front (exec n m ts).1)
