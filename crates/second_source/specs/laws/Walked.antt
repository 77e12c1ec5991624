-- A unit of the second form from its first declaration to its last: its typed functions are those of its items.
use Rattle.std.proofs.Common.{◌≡◌, ℕ, suc, ◌+◌, ◌*◌, ◌<◌, ◌≤◌, Bool, true, false, ◌&&◌, ◌||◌, cond, min, List, [], ◌∷◌, ◌++◌, length, slice_get, Option, Some, None, refl, sym, ap, ◌∙◌, subst, arith, append-nil, append_assoc}
use Rattle.std.specs.Prelude.{nat_lt, nat_le, codes, All, Contains}
use Rattle.std.specs.Option.{option_map, option_map_or}
use Rattle.std.specs.List.{sum_by, flat_map}
use Rattle.std.proofs.lemmas.Bool.{or_left, or_right, ltb-false, leb-true, leb-false}
use Rattle.std.proofs.lemmas.List.Folds.{list_any-append}
use Rattle.std.proofs.lemmas.Slice.Eq.{bytes_eq-Decides}
use Rattle.std.proofs.Math.Nat.{min-eq_left, le-min}
use Rattle.std.specs.Str.{bytes_eq}
use Rattle.cc_base.specs.declared.face.SymbolName.{SymbolName}
use Rattle.std.proofs.lemmas.Option.{same_Some}
use Rattle.text_grammar.specs.declared.tree.BaseKind.TheVariants as kind
use Rattle.text_grammar.specs.declared.tree.Locals.{Locals}
use Rattle.text_grammar.specs.declared.tree.Stmt.{Stmt}
use Rattle.text_grammar.specs.declared.tree.Head.{Head}
use Rattle.text_grammar.specs.declared.tree.External.{External}
use Rattle.text_grammar.specs.declared.tree.External.TheVariants as top
use Rattle.typing_faults.specs.declared.fault.TypeKind.TheVariants as fault
use Rattle.typing_declarations.specs.Rows.{row_if}
use Rattle.typing_types.specs.Types.{plain}
use Rattle.typing_types.specs.Operators.{int}
use Rattle.typing_symbols.specs.Names.{is_among}
use Rattle.typing_symbols.specs.declared.known.Role.{Role}
use Rattle.typing_symbols.specs.declared.known.Role.TheVariants as role
use Rattle.typing_symbols.specs.Sights.{Seen, external_sights, sights_of}
use Rattle.typing_symbols.specs.Symbols.{plays}
use Rattle.typing_scopes.specs.Visible.{Visible}
use Rattle.typing_scopes.specs.Names.{base_of}
use Rattle.typing_scopes.specs.Growth.{outside}
use Rattle.typing_nodes.specs.Nodes.{told_nodes, stmt_nodes, function_nodes}
use Rattle.clight_unit.specs.declared.unit.ClightUnit.{ClightUnit as TypedUnit}
use Rattle.clight_unit.specs.declared.function.Function.{Function}
use Rattle.clight_unit.specs.declared.statement.Statement.{Statement}
use Rattle.clight_unit.specs.declared.signature.Callee.TheVariants as callee
use Rattle.clight_unit.specs.declared.signature.Signature.{Signature}
use Rattle.clight_sem.specs.Functions.{putbyte_signature}
use Rattle.typing_declarations.specs.declared.whole.Whole.{Whole}
use Rattle.typing_declarations.specs.Whole.{whole_of, symbol_of}
use Rattle.typing_declarations.specs.Functions.{named_by, head_behind, parameters_behind}
use Rattle.typing_statements.specs.Gathering.{with_next}
use Rattle.typing_bodies.specs.Functions as bodies
use Rattle.typing_units.specs.declared.walk.Walk.{Walk}
use Rattle.typing_units.specs.Objects.{most_nodes, nodes_rows}
use Rattle.typing_units.specs.Faces.{symbol_names, callees_of, undeclared}
use Rattle.typing_units.specs.Walk.{nodes_through, external_rows, external_behind, walk_rows, walk_behind}
use Rattle.second_form.specs.declared.second_items.SmallStmt.{SmallStmt}
use Rattle.second_form.specs.declared.second_items.SmallStmt.TheVariants.{Put, Call, Return}
use Rattle.second_form.specs.declared.second_items.Item.{Item}
use Rattle.second_form.specs.SecondForm.{reserved_words, IsBody, IsBodyIfAny, IsItem, CallsName}
use Rattle.second_form.specs.SecondRun.{need_of, nodes_of}
use Rattle.second_runs.specs.Mirrors.{int_void, HasSymbol, IsStatement, AreStatements, IsFunction, Bodied, AreFunctions}
use Rattle.second_symbols.specs.Sources.{IsHead, IsBodyOf, AllDeclare, Each}
use Rattle.second_symbols.specs.laws.Sighted.{sighted, has_symbol}
use Rattle.second_symbols.specs.laws.Symbols.{IsSymbol, symbol_is, local_is_static, symbol_named, names_behind, still_among, declared_as, head_signature, symbol_declared}
use Rattle.second_symbols.specs.laws.ItemSights.{names_in, function_sights, AllUsed, all_used}
use Rattle.second_source.specs.laws.Typed.{Knows, TypedAs, AllTypedAs, body_is, body_nodes}
use Rattle.second_source.specs.laws.Scopes.{knows_behind}

-- an item is as it must be, and is static exactly where the text says so
pub record Fact (tree : List External) (item : Item) : Type 0 where
  pub is : IsItem item
  pub static : sighted role.Static item.name (sights_of tree) ≡ item.local

none_before : {A : Type 0} (xs ys : List A) → xs ++ ys ≡ [] → xs ≡ []
none_before [] ys e = refl
none_before (x ∷ xs) ys e = cc

none_behind : {A : Type 0} (xs ys : List A) → xs ++ ys ≡ [] → ys ≡ []
none_behind [] ys e = e
none_behind (x ∷ xs) ys e = cc

-- the typed unit of this tree has these symbols
module _ (tree : List External) (items : List Item) (all : AllDeclare tree items) (u : TypedUnit)
    (names_are : u.symbol_names ≡ symbol_names (whole_of tree).symbols 0 (whole_of tree).symbols.names) (callees_are : u.callees ≡ callees_of (whole_of tree).symbols tree) where
  abbrev whole : Whole
  whole = whole_of tree

  abbrev last : List (List ℕ)
  last = names_behind [] items

  -- Symbols

  has : (n : List ℕ) (type : Signature) → (sighted role.Definition n (sights_of tree) || sighted role.Use n (sights_of tree)) ≡ true → declared_as n last ≡ callee.Function type
      → HasSymbol u (symbol_of whole n) n type
  has n type stands is =
      let s : IsSymbol whole n = symbol_is whole n (has_symbol (sights_of tree) n stands) in
      record {
        local = _;
        named = ap (λ ns. slice_get ns (symbol_of whole n)) names_are ∙ symbol_named whole n s;
        declared = ap (λ cs. slice_get cs (symbol_of whole n)) callees_are ∙ symbol_declared whole n s tree items all ∙ ap (λ c. Some c) is;
      }

  name_is : (n : List ℕ) (type : Signature) → HasSymbol u (symbol_of whole n) n type → option_map_or (λ (s : SymbolName). s.name) (slice_get u.symbol_names (symbol_of whole n)) [] ≡ n
  name_is n type s = ap (λ o. option_map_or (λ (s : SymbolName). s.name) o []) s.named

  -- Statements

  module _ (no_putbyte : is_among (codes "putbyte") last ≡ false) (done : List (List ℕ)) (rest : List Item) (so : last ≡ names_behind done rest) where
    puts : (n : ℕ) (t : Statement) → TypedAs whole done (Put n) t → sighted role.Use (codes "putbyte") (sights_of tree) ≡ true → IsStatement u (Put n) t
    puts n t is used = (
      symbol_of whole (codes "putbyte"),
      has (codes "putbyte") putbyte_signature (or_right (sighted role.Definition (codes "putbyte") (sights_of tree)) (sighted role.Use (codes "putbyte") (sights_of tree)) used)
          (ap (λ b. cond b (callee.Function int_void) (undeclared (codes "putbyte"))) no_putbyte),
      is,
    )

    calls : (n : List ℕ) (t : Statement) → TypedAs whole done (Call n) t → ¬ Contains reserved_words n → sighted role.Use n (sights_of tree) ≡ true → IsStatement u (Call n) t
    calls n t is free used =
        let among : is_among n last ≡ true = ap (is_among n) so ∙ still_among n done rest is.0 in (
          symbol_of whole n,
          has n int_void (or_right (sighted role.Definition n (sights_of tree)) (sighted role.Use n (sights_of tree)) used) (ap (λ b. cond b (callee.Function int_void) (undeclared n)) among),
          free,
          is.1,
        )

    statements : (ss : List SmallStmt) (ts : List Statement) → AllTypedAs whole done ss ts → All CallsName ss → AllUsed tree ss → AreStatements u ss ts
    statements [] ts are names used = are
    statements (s ∷ ss) [] are names used = absurd are
    statements (Put n ∷ ss) (t ∷ ts) are names used = (puts n t are.0 used.0, statements ss ts are.1 (λ k d h. names (suc k) d (omega arith)) used.1)
    statements (Call n ∷ ss) (t ∷ ts) are names used =
        let named : CallsName (Call n) = names 0 (Call n) (omega arith) in
        (calls n t are.0 named.free used.0, statements ss ts are.1 (λ k d h. names (suc k) d (omega arith)) used.1)
    statements (Return n ∷ ss) (t ∷ ts) are names used = (are.0, statements ss ts are.1 (λ k d h. names (suc k) d (omega arith)) used)

  -- Nodes

  few : (nodes at : ℕ) → nodes_rows nodes at ≡ [] → nodes ≤ most_nodes
  few nodes at e = by (nat_lt most_nodes nodes) refl e
    where
      by : (b : Bool) → nat_lt most_nodes nodes ≡ b → row_if b fault.Nodes at ≡ [] → nodes ≤ most_nodes
      by true less e = cc
      by false less e = ltb-false most_nodes nodes less

  all_told : (a n : ℕ) → told_nodes (a + told_nodes n) ≤ most_nodes → told_nodes n ≡ n
  all_told a n h = by (nat_le n 65537) refl
    where
      by : (b : Bool) → nat_le n 65537 ≡ b → min n 65537 ≡ n
      by true less = min-eq_left (leb-true n 65537 less)
      by false more =
          let above : 65537 < n = leb-false n 65537 more in
          let inner : 65537 ≤ min n 65537 = le-min (omega (arith, above)) (omega arith) in
          let outer : 65537 ≤ min (a + min n 65537) 65537 = le-min (omega (arith, inner)) (omega arith) in
          absurd (omega (arith, outer, h))

  few_parts : (n : ℕ) → bodies.need_of 0 0 n ≡ 64 + 16 * n
  few_parts n = omega arith

  -- Functions

  module _ (no_putbyte : is_among (codes "putbyte") last ≡ false) (done : List (List ℕ)) (rest : List Item) (head : Head) (locals : List Locals) (body : List Stmt) (item : Item)
      (so : last ≡ names_behind (item.name ∷ done) rest) (is : IsHead head item) (none : locals ≡ []) (b : IsBodyOf body item) (fact : Fact tree item)
      (walk : Walk) (knows : Knows whole done walk.scope) (within : (r : Role) (n : List ℕ) → sighted r n (external_sights (top.Function head locals body)) ≡ true → sighted r n (sights_of tree) ≡ true)
      (fits : nodes_through walk head locals body ≤ most_nodes) where
    abbrev behind : Visible
    behind = named_by whole walk.scope true head

    result_is : bodies.result_of walk.scope head ≡ int
    result_is =
        ap (λ k. plain (base_of walk.scope k) head.stars) is.kind
        ∙ ap (λ n. plain (base_of walk.scope kind.Int) n) is.stars

    body_typed : bodies.body_of (head_behind whole walk.scope true head) (bodies.result_of walk.scope head) body ≡ bodies.body_of behind int body
    body_typed =
        ap (λ ps. bodies.body_of (parameters_behind behind 0 ps) (bodies.result_of walk.scope head) body) is.parameters
        ∙ ap (λ r. bodies.body_of behind r body) result_is

    -- what the function is, where its statements are these
    abbrev made : List Statement → Function
    made ts = bodies.defined whole head (bodies.no_locals (length head.parameters)) (bodies.nodes_of head [] body) [] ts

    defined_is : bodies.function_of whole walk.scope head locals body ≡ option_map made (bodies.body_of behind int body)
    defined_is = ap (λ ls. bodies.function_of whole walk.scope head ls body) none ∙ ap (option_map made) body_typed

    is_body : IsBody b.statements
    is_body = subst IsBodyIfAny b.body fact.is.body

    no_parameters : length head.parameters ≡ 0
    no_parameters = ap length is.parameters

    nodes_are : bodies.nodes_of head [] body ≡ nodes_of b.statements
    nodes_are =
        let told : told_nodes (walk.nodes + bodies.nodes_of head [] body) ≤ most_nodes = subst (λ ls. told_nodes (walk.nodes + bodies.nodes_of head ls body) ≤ most_nodes) none fits in
        all_told walk.nodes (function_nodes head.parameters [] body) told
        ∙ ap (λ n. 1 + (n + (0 + sum_by stmt_nodes body))) no_parameters
        ∙ (let e : 1 + (0 + (0 + sum_by stmt_nodes body)) ≡ 1 + sum_by stmt_nodes body = omega arith in e)
        ∙ body_nodes body b.statements b.are

    need_is : (ts : List Statement) → (made ts).need ≡ need_of b.statements
    need_is ts =
        ap (λ n. bodies.need_of n 0 (bodies.nodes_of head [] body)) no_parameters
        ∙ ap (λ n. bodies.need_of 0 0 n) nodes_are
        ∙ few_parts (nodes_of b.statements)

    used : AllUsed tree b.statements
    used = all_used tree b.statements (λ n h. within role.Use n
        (ap (sighted role.Use n) (function_sights head locals body item is none b) ∙ or_right (bytes_eq n item.name && false) (sighted role.Use n (flat_map names_in b.statements)) h))

    defined_here : sighted role.Definition item.name (sights_of tree) ≡ true
    defined_here = within role.Definition item.name
        (ap (sighted role.Definition item.name) (function_sights head locals body item is none b)
        ∙ ap (λ c. (c && true) || sighted role.Definition item.name (flat_map names_in b.statements)) ((bytes_eq-Decides item.name item.name).1 refl))

    symbol_here : HasSymbol u (symbol_of whole item.name) item.name int_void
    symbol_here =
        let among : is_among item.name last ≡ true =
        ap (is_among item.name) so ∙ still_among item.name (item.name ∷ done) rest (ap (λ b. b || is_among item.name done) ((bytes_eq-Decides item.name item.name).1 refl)) in
        has item.name int_void (or_left (sighted role.Definition item.name (sights_of tree)) (sighted role.Use item.name (sights_of tree)) defined_here)
        (ap (λ b. cond b (callee.Function int_void) (undeclared item.name)) among)

    made_is : (ts : List Statement) → bodies.body_of behind int body ≡ Some ts → IsFunction u item b.statements (made ts)
    made_is ts typed =
        record {
          named = ap (λ n. option_map_or (λ (s : SymbolName). s.name) (slice_get u.symbol_names (symbol_of whole n)) []) is.named ∙ name_is item.name int_void symbol_here;
          static = ap (λ n. nat_lt (symbol_of whole n) whole.symbols.locals) is.named ∙ local_is_static tree item.name defined_here ∙ fact.static;
          does = record {
            type = head_signature head item is;
            locals = refl;
            statements = statements no_putbyte (item.name ∷ done) rest so b.statements ts
                (body_is whole (item.name ∷ done) behind (knows_behind whole done walk.scope knows head item is true fact.is.name.free) body b.statements b.are is_body.names ts typed) is_body.names used;
            ends = is_body.ends;
            need = need_is ts;
          };
        }

    function_is : (f : Function) → bodies.function_of whole walk.scope head locals body ≡ Some f → IsFunction u item b.statements f
    function_is f e = by (bodies.body_of behind int body) refl
      where
        by : (o : Option (List Statement)) → bodies.body_of behind int body ≡ o → IsFunction u item b.statements f
        by None typed = let none : None ≡ Some f = sym (defined_is ∙ ap (option_map made) typed) ∙ e in cc
        by (Some ts) typed =
            let same : made ts ≡ f = same_Some (made ts) f (sym (defined_is ∙ ap (option_map made) typed) ∙ e) in
            subst (IsFunction u item b.statements) same (made_is ts typed)

    scope_is : bodies.function_behind whole walk.scope head locals ≡ behind
    scope_is =
        ap (λ ls. bodies.function_behind whole walk.scope head ls) none
        ∙ ap (λ ps. outside (parameters_behind behind 0 ps)) is.parameters

  -- All declarations

  pub record Came (walk end : Walk) (rest : List Item) (fs : List Function) : Type 0 where
    pub before : List Function
    pub later : List Function
    pub began : walk.functions ≡ Some before
    pub functions : fs ≡ before ++ later
    pub are : AreFunctions u rest later
    pub globals : end.globals ≡ walk.globals

  one_prototype : (walk next end : Walk) (item : Item) (rest : List Item) (fs : List Function) → next.functions ≡ walk.functions → next.globals ≡ walk.globals → item.body ≡ None
      → Came next end rest fs → Came walk end (item ∷ rest) fs
  one_prototype walk next end item rest fs same globals none h =
      record {
        before = h.before;
        later = h.later;
        began = sym same ∙ h.began;
        functions = h.functions;
        are = subst (λ b. Bodied u (AreFunctions u rest) item b h.later) (sym none) h.are;
        globals = h.globals ∙ globals;
      }

  one_function : (walk next end : Walk) (item : Item) (rest : List Item) (fs : List Function) (ss : List SmallStmt) (old : Option (List Function)) (o : Option Function)
      → walk.functions ≡ old → next.functions ≡ with_next old o → next.globals ≡ walk.globals → item.body ≡ Some ss → ((f : Function) → o ≡ Some f → IsFunction u item ss f)
      → Came next end rest fs → Came walk end (item ∷ rest) fs
  one_function walk next end item rest fs ss None o was same globals body is h = let e : None ≡ Some h.before = sym same ∙ h.began in cc
  one_function walk next end item rest fs ss (Some before) None was same globals body is h = let e : None ≡ Some h.before = sym same ∙ h.began in cc
  one_function walk next end item rest fs ss (Some before) (Some f) was same globals body is h =
      let seam : before ++ f ∷ [] ≡ h.before = same_Some (before ++ f ∷ []) h.before (sym same ∙ h.began) in
      record {
        before = before;
        later = f ∷ h.later;
        began = was;
        functions = h.functions ∙ ap (λ b. b ++ h.later) (sym seam) ∙ append_assoc before (f ∷ []) h.later;
        are = subst (λ b. Bodied u (AreFunctions u rest) item b (f ∷ h.later)) (sym body) (is f refl, h.are);
        globals = h.globals ∙ globals;
      }

  module _ (no_putbyte : is_among (codes "putbyte") last ≡ false) where
    pub walks : (xs : List External) (rest : List Item) → AllDeclare xs rest → Each (Fact tree) rest → (done : List (List ℕ)) → last ≡ names_behind done rest
        → (walk : Walk) → Knows whole done walk.scope → ((r : Role) (n : List ℕ) → sighted r n (sights_of xs) ≡ true → sighted r n (sights_of tree) ≡ true)
        → walk_rows whole walk xs ≡ [] → (fs : List Function) → (walk_behind whole walk xs).functions ≡ Some fs → Came walk (walk_behind whole walk xs) rest fs
    walks [] rest h facts done so walk knows within rows fs e =
        record { before = fs; later = []; began = e; functions = sym (append-nil fs); are = subst (λ rest. AreFunctions u rest []) (sym h) refl; globals = refl }
    walks (x ∷ xs) [] h facts done so walk knows within rows fs e = absurd h
    walks (top.Struct tag members ∷ xs) (item ∷ rest) h facts done so walk knows within rows fs e = absurd h.0
    walks (top.Objects l b objects ∷ xs) (item ∷ rest) h facts done so walk knows within rows fs e = absurd h.0
    walks (top.Prototype head ∷ xs) (item ∷ rest) h facts done so walk knows within rows fs e =
        let x : External = top.Prototype head in
        let next : Walk = external_behind whole walk x in
        one_prototype walk next (walk_behind whole next xs) item rest fs refl refl h.0.1
        (walks xs rest h.1 facts.1 (item.name ∷ done) so next (knows_behind whole done walk.scope knows head item h.0.0 false facts.0.is.name.free)
        (λ r n s. within r n (list_any-append (λ (s : Seen). bytes_eq n s.name && plays r s.how) (external_sights x) (sights_of xs) ∙ or_right (sighted r n (external_sights x)) (sighted r n (sights_of xs)) s))
        (none_behind (external_rows whole walk x) (walk_rows whole next xs) rows) fs e)
    walks (top.Function head locals body ∷ xs) (item ∷ rest) h facts done so walk knows within rows fs e =
        let x : External = top.Function head locals body in
        let next : Walk = external_behind whole walk x in
        let here : external_rows whole walk x ≡ [] = none_before (external_rows whole walk x) (walk_rows whole next xs) rows in
        let fits : nodes_through walk head locals body ≤ most_nodes =
        few (nodes_through walk head locals body) head.name.at (none_behind (bodies.function_rows whole walk.scope head locals body) (nodes_rows (nodes_through walk head locals body) head.name.at) here) in
        let inner : (r : Role) (n : List ℕ) → sighted r n (external_sights x) ≡ true → sighted r n (sights_of tree) ≡ true = λ r n s.
        within r n (list_any-append (λ (s : Seen). bytes_eq n s.name && plays r s.how) (external_sights x) (sights_of xs) ∙ or_left (sighted r n (external_sights x)) (sighted r n (sights_of xs)) s) in
        let scope : bodies.function_behind whole walk.scope head locals ≡ named_by whole walk.scope true head =
        scope_is no_putbyte done rest head locals body item so h.0.0 h.0.1 h.0.2 facts.0 walk knows inner fits in
        one_function walk next (walk_behind whole next xs) item rest fs h.0.2.statements walk.functions (bodies.function_of whole walk.scope head locals body) refl refl refl h.0.2.body
        (function_is no_putbyte done rest head locals body item so h.0.0 h.0.1 h.0.2 facts.0 walk knows inner fits)
        (walks xs rest h.1 facts.1 (item.name ∷ done) so next (subst (Knows whole (item.name ∷ done)) (sym scope) (knows_behind whole done walk.scope knows head item h.0.0 true facts.0.is.name.free))
        (λ r n s. within r n (list_any-append (λ (s : Seen). bytes_eq n s.name && plays r s.how) (external_sights x) (sights_of xs) ∙ or_right (sighted r n (external_sights x)) (sighted r n (sights_of xs)) s))
        (none_behind (external_rows whole walk x) (walk_rows whole next xs) rows) fs e)
