-- Turns of the loops over the parts of declarations.
use Rattle.std.proofs.Common.{◌≡◌, ◌<◌, List, [], ◌∷◌, ◌++◌, length, Some, None, Err, Bool, true, false, sym, ap, ◌∙◌, arith}
use Rattle.text_grammar.specs.declared.kind.Kind.TheVariants as k
use Rattle.text_grammar.specs.declared.tree.Number.{Number}
use Rattle.text_grammar.specs.declared.tree.Base.{Base}
use Rattle.text_grammar.specs.declared.tree.Initialiser.{Initialiser}
use Rattle.text_grammar.specs.declared.tree.Declarator.{Declarator}
use Rattle.text_grammar.specs.declared.tree.ObjectItem.{ObjectItem}
use Rattle.text_grammar.specs.declared.tree.Members.{Members}
use Rattle.text_grammar.specs.declared.tree.Parameter.{Parameter}
use Rattle.text_grammar.specs.declared.tree.LocalItem.{LocalItem}
use Rattle.text_grammar.specs.declared.tree.Locals.{Locals}
use Rattle.text_grammar.specs.declared.tree.External.{External}
use Rattle.text_grammar.specs.declared.tree.Linkage.TheVariants as linkage
use Rattle.text_grammar.specs.Grammar.{Symbol, number_at}
use Rattle.text_grammar.specs.laws.Programs.{head, Out, BaseType, LengthsOf, FieldOf, FieldsOf, MemberOf, MembersOf, InitialiserOf, ItemsOf, ObjectOf, ObjectsOf, ParameterOf, ParametersOf, LocalOf, LocalItemsOf, LocalListsOf, ExternalOf, UnitOf, Prog, Ret, Fail, Call, Peek, expect, length_at, length_number, fields_more, members_more, items_comma, items_next, objects_more, parameters_more, local_items_more, locals_from, locals_at, locals_items, locals_end, locals_next, begins_type, unit_by, struct_start, external_static, external_extern, specified, and_then, walk, runs}
use Rattle.text_grammar.specs.laws.ProgramWalks.{runs_walk, runs_consumed}
use Rattle.text_grammar.specs.laws.ProgramSteps.{call_ok, call_last}
use Rattle.text_parser.specs.declared.stop.Stop.{Stop}
use Rattle.text_parser.specs.declared.stop.Stop.TheVariants as stop
use Rattle.text_parser.specs.Descent.{TakesIf, Gives}
use Rattle.text_parser.specs.LocalLists.{GivesLocals}
use Rattle.text_parser.proofs.Steps.{try_yes, try_pass, expect_yes}

pub lengths_turn : (found : List Number) (x m y : Symbol) (ts r q z : List Symbol) → TakesIf k.LBracket ts (Some x) r → TakesIf k.Num r (Some m) q → TakesIf k.RBracket q (Some y) z
    → runs (LengthsOf found) ts ≡ runs (LengthsOf (found ++ number_at m ∷ [])) z
lengths_turn found x m y ts r q z a b c =
    runs_walk (LengthsOf found) ts
    ∙ try_yes k.LBracket (length_at found) (Ret found) ts x r a
    ∙ try_yes k.Num (length_number found) Fail r m q b
    ∙ expect_yes k.RBracket (Call (LengthsOf (found ++ number_at m ∷ [])) Ret) q y z c
    ∙ call_last (LengthsOf (found ++ number_at m ∷ [])) z

pub fields_turn : (found : List Declarator) (t : Declarator) (x : Symbol) (ts r q : List Symbol) → TakesIf k.Comma ts (Some x) r → runs FieldOf r ≡ (Some t, q) → runs (FieldsOf found) ts ≡ runs (FieldsOf (found ++ t ∷ [])) q
fields_turn found t x ts r q h d =
    runs_walk (FieldsOf found) ts
    ∙ try_yes k.Comma (fields_more found) (Ret found) ts x r h
    ∙ call_ok FieldOf (λ d. Call (FieldsOf (found ++ d ∷ [])) Ret) r t q d
    ∙ call_last (FieldsOf (found ++ t ∷ [])) q

pub members_turn : (found : List Members) (t : Members) (ts r q : List Symbol) → TakesIf k.RBrace ts None r → runs MemberOf r ≡ (Some t, q) → runs (MembersOf found) ts ≡ runs (MembersOf (found ++ t ∷ [])) q
members_turn found t ts r q h d =
    runs_walk (MembersOf found) ts
    ∙ try_pass k.RBrace (λ y. Ret found) (members_more found) ts r h
    ∙ call_ok MemberOf (λ m. Call (MembersOf (found ++ m ∷ [])) Ret) r t q d
    ∙ call_last (MembersOf (found ++ t ∷ [])) q

pub member_shorter : (ts r : List Symbol) (t : Members) → runs MemberOf ts ≡ (Some t, r) → length r < length ts
member_shorter ts r t h =
    let less = runs_consumed MemberOf ts t (ap (λ (o : Out Members). o.0) h) in
    let e : (runs MemberOf ts).1 ≡ r = ap (λ (o : Out Members). o.1) h in
    omega (arith, less, ap length e)

pub items_turn : (found : List Initialiser) (t : Initialiser) (x : Symbol) (ts r s q : List Symbol) → TakesIf k.Comma ts (Some x) r → TakesIf k.RBrace r None s → runs InitialiserOf s ≡ (Some t, q)
    → runs (ItemsOf found) ts ≡ runs (ItemsOf (found ++ t ∷ [])) q
items_turn found t x ts r s q h n d =
    runs_walk (ItemsOf found) ts
    ∙ try_yes k.Comma (items_comma found) (expect k.RBrace (Ret found)) ts x r h
    ∙ try_pass k.RBrace (λ y. Ret found) (items_next found) r s n
    ∙ call_ok InitialiserOf (λ v. Call (ItemsOf (found ++ v ∷ [])) Ret) s t q d
    ∙ call_last (ItemsOf (found ++ t ∷ [])) q

pub objects_turn : (found : List ObjectItem) (t : ObjectItem) (x : Symbol) (ts r q : List Symbol) → TakesIf k.Comma ts (Some x) r → runs ObjectOf r ≡ (Some t, q) → runs (ObjectsOf found) ts ≡ runs (ObjectsOf (found ++ t ∷ [])) q
objects_turn found t x ts r q h d =
    runs_walk (ObjectsOf found) ts
    ∙ try_yes k.Comma (objects_more found) (Ret found) ts x r h
    ∙ call_ok ObjectOf (λ d. Call (ObjectsOf (found ++ d ∷ [])) Ret) r t q d
    ∙ call_last (ObjectsOf (found ++ t ∷ [])) q

pub parameters_turn : (found : List Parameter) (t : Parameter) (x : Symbol) (ts r q : List Symbol) → TakesIf k.Comma ts (Some x) r → runs ParameterOf r ≡ (Some t, q)
    → runs (ParametersOf found) ts ≡ runs (ParametersOf (found ++ t ∷ [])) q
parameters_turn found t x ts r q h d =
    runs_walk (ParametersOf found) ts
    ∙ try_yes k.Comma (parameters_more found) (Ret found) ts x r h
    ∙ call_ok ParameterOf (λ d. Call (ParametersOf (found ++ d ∷ [])) Ret) r t q d
    ∙ call_last (ParametersOf (found ++ t ∷ [])) q

pub local_items_turn : (found : List LocalItem) (t : LocalItem) (x : Symbol) (ts r q : List Symbol) → TakesIf k.Comma ts (Some x) r → runs LocalOf r ≡ (Some t, q)
    → runs (LocalItemsOf found) ts ≡ runs (LocalItemsOf (found ++ t ∷ [])) q
local_items_turn found t x ts r q h d =
    runs_walk (LocalItemsOf found) ts
    ∙ try_yes k.Comma (local_items_more found) (Ret found) ts x r h
    ∙ call_ok LocalOf (λ d. Call (LocalItemsOf (found ++ d ∷ [])) Ret) r t q d
    ∙ call_last (LocalItemsOf (found ++ t ∷ [])) q

-- the rest of a list of locals, behind `register` or not
abbrev pub locals_rest : List Locals → Bool → Prog (List Locals)
locals_rest found r = Call BaseType (locals_from found r)

pub registers : (found : List Locals) (x : Symbol) (ts r : List Symbol) → TakesIf k.KwRegister ts (Some x) r → runs (LocalListsOf found) ts ≡ walk runs (locals_rest found true) r
registers found x ts r h =
    runs_walk (LocalListsOf found) ts
    ∙ try_yes k.KwRegister (λ x. locals_rest found true) (Peek (λ h. locals_at found (begins_type h))) ts x r h

pub others : (found : List Locals) (ts r : List Symbol) → TakesIf k.KwRegister ts None r → begins_type (head r) ≡ true → runs (LocalListsOf found) ts ≡ walk runs (locals_rest found false) r
others found ts r h b =
    runs_walk (LocalListsOf found) ts
    ∙ try_pass k.KwRegister (λ x. locals_rest found true) (Peek (λ h. locals_at found (begins_type h))) ts r h
    ∙ ap (λ b. walk runs (locals_at found b) r) b

pub no_locals : (found : List Locals) (ts r : List Symbol) → TakesIf k.KwRegister ts None r → begins_type (head r) ≡ false → runs (LocalListsOf found) ts ≡ (Some found, r)
no_locals found ts r h b =
    runs_walk (LocalListsOf found) ts
    ∙ try_pass k.KwRegister (λ x. locals_rest found true) (Peek (λ h. locals_at found (begins_type h))) ts r h
    ∙ ap (λ b. walk runs (locals_at found b) r) b

pub no_register : (found : List Locals) (x : Symbol) (at ts r q : List Symbol) → runs (LocalListsOf found) ts ≡ runs (LocalListsOf []) at → TakesIf k.KwRegister ts (Some x) r
    → (s : Stop) → GivesLocals true r (Err s) q → Gives (runs (LocalListsOf []) at) (Err s) q
no_register found x at ts r q e h stop.Memory g = tt
no_register found x at ts r q e h stop.Token g = sym e ∙ registers found x ts r h ∙ g found

pub no_other : (found : List Locals) (at ts r q : List Symbol) → runs (LocalListsOf found) ts ≡ runs (LocalListsOf []) at → TakesIf k.KwRegister ts None r → begins_type (head r) ≡ true
    → (s : Stop) → GivesLocals false r (Err s) q → Gives (runs (LocalListsOf []) at) (Err s) q
no_other found at ts r q e h b stop.Memory g = tt
no_other found at ts r q e h b stop.Token g = sym e ∙ others found ts r h b ∙ g found

pub locals_made : (r : Bool) (t : Base) (d : LocalItem) (ds : List LocalItem) (x : Symbol) (ts a b c q : List Symbol) → runs BaseType ts ≡ (Some t, a) → runs LocalOf a ≡ (Some d, b) → runs (LocalItemsOf (d ∷ [])) b ≡ (Some ds, c) → TakesIf k.Semi c (Some x) q
    → (found : List Locals) → walk runs (locals_rest found r) ts ≡ runs (LocalListsOf (found ++ record { is_register = r; base = t; items = ds } ∷ [])) q
locals_made r t d ds x ts a b c q h i j l found =
    call_ok BaseType (locals_from found r) ts t a h
    ∙ call_ok LocalOf (locals_items found r t) a d b i
    ∙ call_ok (LocalItemsOf (d ∷ [])) (locals_end found r t) b ds c j
    ∙ expect_yes k.Semi (locals_next found r t ds) c x q l
    ∙ call_last (LocalListsOf (found ++ record { is_register = r; base = t; items = ds } ∷ [])) q

pub unit_turn : (found : List External) (x : Symbol) (t : External) (ts r q : List Symbol) → ts ≡ x ∷ r → runs ExternalOf ts ≡ (Some t, q) → runs (UnitOf found) ts ≡ runs (UnitOf (found ++ t ∷ [])) q
unit_turn found x t ts r q e d =
    runs_walk (UnitOf found) ts
    ∙ ap (λ z. walk runs (unit_by found (head z)) ts) e
    ∙ call_ok ExternalOf (λ t. Call (UnitOf (found ++ t ∷ [])) Ret) ts t q d
    ∙ call_last (UnitOf (found ++ t ∷ [])) q

pub unit_fails : (found : List External) (x : Symbol) (ts r q : List Symbol) → ts ≡ x ∷ r → runs ExternalOf ts ≡ (None, q) → runs (UnitOf found) ts ≡ (None, q)
unit_fails found x ts r q e d =
    runs_walk (UnitOf found) ts
    ∙ ap (λ z. walk runs (unit_by found (head z)) ts) e
    ∙ ap (λ (o : Out External). and_then o (λ v r. walk runs (Call (UnitOf (found ++ v ∷ [])) Ret) r)) d

pub external_shorter : (ts r : List Symbol) (t : External) → runs ExternalOf ts ≡ (Some t, r) → length r < length ts
external_shorter ts r t h =
    let less = runs_consumed ExternalOf ts t (ap (λ (o : Out External). o.0) h) in
    let e : (runs ExternalOf ts).1 ≡ r = ap (λ (o : Out External). o.1) h in
    omega (arith, less, ap length e)

pub static_external : (x : Symbol) (ts s r : List Symbol) → TakesIf k.KwStruct ts None s → TakesIf k.KwStatic s (Some x) r → runs ExternalOf ts ≡ walk runs (specified linkage.Static) r
static_external x ts s r a b =
    runs_walk ExternalOf ts ∙ try_pass k.KwStruct struct_start external_static ts s a ∙ try_yes k.KwStatic (λ x. specified linkage.Static) external_extern s x r b

pub extern_external : (x : Symbol) (ts s s' r : List Symbol) → TakesIf k.KwStruct ts None s → TakesIf k.KwStatic s None s' → TakesIf k.KwExtern s' (Some x) r → runs ExternalOf ts ≡ walk runs (specified linkage.Extern) r
extern_external x ts s s' r a b c =
    runs_walk ExternalOf ts
    ∙ try_pass k.KwStruct struct_start external_static ts s a
    ∙ try_pass k.KwStatic (λ x. specified linkage.Static) external_extern s s' b
    ∙ try_yes k.KwExtern (λ x. specified linkage.Extern) (specified linkage.Plain) s' x r c

pub plain_external : (ts s s' r : List Symbol) → TakesIf k.KwStruct ts None s → TakesIf k.KwStatic s None s' → TakesIf k.KwExtern s' None r → runs ExternalOf ts ≡ walk runs (specified linkage.Plain) r
plain_external ts s s' r a b c =
    runs_walk ExternalOf ts
    ∙ try_pass k.KwStruct struct_start external_static ts s a
    ∙ try_pass k.KwStatic (λ x. specified linkage.Static) external_extern s s' b
    ∙ try_pass k.KwExtern (λ x. specified linkage.Extern) (specified linkage.Plain) s' r c
