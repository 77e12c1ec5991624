-- What the symbols of typed units of the second form mean as callees.
use Rattle.std.proofs.Common.{◌≡◌, ℕ, ◌+◌, zero, suc, Bool, true, false, not, ◌&&◌, cond, List, [], ◌∷◌, position, slice_get, get_or, Option, Some, None, refl, sym, ap, ◌∙◌, subst, arith}
use Rattle.std.specs.Prelude.{option_map, unwrap_or, All, Contains, codes, slice_index_or}
use Rattle.std.specs.Option.{option_or, option_and_then}
use Rattle.std.specs.Str.{bytes_eq}
use Rattle.std.proofs.lemmas.Bool.{false_from_ne_true}
use Rattle.std.proofs.lemmas.Slice.Eq.{bytes_eq-Decides}
use Rattle.cc_base.specs.Faces.{first_answer}
use Rattle.cc_base.specs.declared.face.SymbolName.{SymbolName}
use Rattle.cc_base.specs.declared.face.GlobalPart.{GlobalPart}
use Rattle.block_mem.specs.Start.{is_own, is_seen, is_shared, object_in, object_of}
use Rattle.block_mem.specs.declared.value.BlockName.{BlockName}
use Rattle.block_mem.specs.declared.value.BlockName.TheVariants.{Global}
use Rattle.clight_unit.specs.declared.unit.ClightUnit.{ClightUnit as TypedUnit}
use Rattle.clight_unit.specs.declared.function.Function.{Function}
use Rattle.clight_unit.specs.declared.signature.Callee.{Callee}
use Rattle.clight_unit.specs.declared.signature.Callee.TheVariants as callee
use Rattle.clight_unit.specs.declared.signature.Signature.{Signature}
use Rattle.unit_names.specs.declared.meaning.Meaning.{Meaning as Typed}
use Rattle.unit_names.specs.declared.meaning.Meaning.TheVariants as meaning
use Rattle.clight_sem.specs.Functions.{is_function_named, function_in, shown_function, own_callee, shown_callee, built_in, meant_as_callee, signature_of, putbyte_signature, has_type, as_declared, callees_from, callees_of, all_parts, parts_of, of_each, linked, callee_at}
use Rattle.second_form.specs.declared.second_items.Item.{Item}
use Rattle.second_form.specs.declared.second_items.SmallStmt.{SmallStmt}
use Rattle.second_form.specs.SecondForm.{reserved_words}
use Rattle.second_form.specs.SecondRun.{Meaning, body_or, own, shown, meaning_or, shown_by, means}
use Rattle.second_runs.specs.Mirrors.{int_void, HasSymbol, AllMirror, IsFree}
use Rattle.second_runs.specs.laws.Found.{IsMeant, SameMeaning, typed_meaning, meant_same, mirror_at}

-- No unit has objects

abbrev pub NoObjects : TypedUnit → Type 0
NoObjects u = u.globals ≡ []

none_in : (test : GlobalPart → Bool) (unit : ℕ) (u : TypedUnit) → NoObjects u → object_in test unit (parts_of u) ≡ None
none_in test unit u h = ap (λ gs. option_map (λ index. Global unit index) (position test gs)) h

none_of : (test : GlobalPart → Bool) (units : List (List Item)) (us : List TypedUnit) (k : ℕ) → AllMirror units us → first_answer (object_in test) k (all_parts us) ≡ None
none_of test [] us k h = ap (λ us. first_answer (object_in test) k (all_parts us)) h
none_of test (items ∷ units) [] k h = absurd h
none_of test (items ∷ units) (u ∷ us) k h =
    ap (λ o. option_or o (first_answer (object_in test) (k + 1) (all_parts us))) (none_in test k u h.0.globals) ∙ none_of test units us (k + 1) h.1

-- so a name means a function, or what is built in

or_none : {A : Type 0} (a : Option A) → option_or a None ≡ a
or_none None = refl
or_none (Some x) = refl

own_is : (unit : ℕ) (u : TypedUnit) (name : List ℕ) → NoObjects u → own_callee unit u name ≡ function_in (λ v. is_function_named v name) unit u
own_is unit u name h =
    ap (λ o. option_or (function_in (λ v. is_function_named v name) unit u) (option_map (λ (b : BlockName). meaning.Nothing) o)) (none_in (is_own name) unit u h)
    ∙ or_none (function_in (λ v. is_function_named v name) unit u)

shown_is : (units : List (List Item)) (all : List TypedUnit) (name : List ℕ) → AllMirror units all → shown_callee all (all_parts all) name ≡ shown_function all name
shown_is units all name h =
    ap (λ o. option_or (shown_function all name) (option_map (λ (b : BlockName). meaning.Nothing) (option_or o (object_of (is_shared name) (all_parts all))))) (none_of (is_seen name) units all 0 h)
    ∙ ap (λ o. option_or (shown_function all name) (option_map (λ (b : BlockName). meaning.Nothing) o)) (none_of (is_shared name) units all 0 h)
    ∙ or_none (shown_function all name)

meant_is : (units : List (List Item)) (all : List TypedUnit) (unit : ℕ) (u : TypedUnit) (name : List ℕ) → AllMirror units all → slice_get all unit ≡ Some u
    → meant_as_callee all (all_parts all) unit u name ≡ unwrap_or (typed_meaning all unit u name) (built_in name)
meant_is units all unit u name h at =
    ap (λ o. unwrap_or (option_or o (shown_callee all (all_parts all) name)) (built_in name)) (own_is unit u name (mirror_at units all unit u h at).globals)
    ∙ ap (λ o. unwrap_or (option_or (function_in (λ v. is_function_named v name) unit u) o) (built_in name)) (shown_is units all name h)

-- The table of callees

each_at : {A : Type 0} (f : ℕ → TypedUnit → List A) (us : List TypedUnit) (k i : ℕ) (u : TypedUnit) → slice_get us i ≡ Some u → get_or (of_each f k us) i [] ≡ f (k + i) u
each_at f [] k i u at = let x : slice_get [] i ≡ None = refl in let y = sym x ∙ at in cc
each_at f (v ∷ us) k zero u at = let e : v ≡ u = cc in let z : k ≡ k + 0 = omega arith in ap (λ (v : TypedUnit). f k v) e ∙ ap (λ n. f n u) z
each_at f (v ∷ us) k (suc i) u at = each_at f us (k + 1) i u at ∙ ap (λ n. f n u) (let e : k + 1 + i ≡ k + suc i = omega arith in e)

from_at : (what : List ℕ → Typed) (all : List TypedUnit) (names : List SymbolName) (declared : List Callee) (symbol : ℕ) (s : SymbolName) (d : Callee)
    → slice_get names symbol ≡ Some s → slice_get declared symbol ≡ Some d → get_or (callees_from what all names declared) symbol meaning.Nothing ≡ as_declared all d (what s.name)
from_at what all [] declared symbol s d named is = let x : slice_get [] symbol ≡ None = refl in let y = sym x ∙ named in cc
from_at what all (n ∷ names) [] symbol s d named is = let x : slice_get [] symbol ≡ None = refl in let y = sym x ∙ is in cc
from_at what all (n ∷ names) (c ∷ declared) zero s d named is =
    let e : n ≡ s = cc in
    let g : c ≡ d = cc in
    ap (λ (n : SymbolName). as_declared all c (what n.name)) e ∙ ap (λ c. as_declared all c (what s.name)) g
from_at what all (n ∷ names) (c ∷ declared) (suc symbol) s d named is = from_at what all names declared symbol s d named is

callee_is : (units : List (List Item)) (all : List TypedUnit) (room unit : ℕ) (u : TypedUnit) (symbol : ℕ) (name : List ℕ) (type : Signature)
    → AllMirror units all → slice_get all unit ≡ Some u → HasSymbol u symbol name type
    → callee_at (linked all room) unit symbol ≡ as_declared all (callee.Function type) (unwrap_or (typed_meaning all unit u name) (built_in name))
callee_is units all room unit u symbol name type h at s =
    ap (λ ms. get_or ms symbol meaning.Nothing) (each_at (callees_of all (all_parts all)) all 0 unit u at)
    ∙ ap (λ n. get_or (callees_of all (all_parts all) n u) symbol meaning.Nothing) (let e : 0 + unit ≡ unit = omega arith in e)
    ∙ from_at (meant_as_callee all (all_parts all) unit u) all u.symbol_names u.callees symbol (record { name = name; local = s.local }) (callee.Function type) s.named s.declared
    ∙ ap (λ m. as_declared all (callee.Function type) m) (meant_is units all unit u name h at)

-- A name that is not the runtime's

-- a name that is not this word
pub not_named : (name word : List ℕ) → (name ≡ word → ⊥) → bytes_eq name word ≡ false
not_named name word other = false_from_ne_true (bytes_eq name word) (λ e. other ((bytes_eq-Decides name word).0 e))

pub nothing_built_in : (name : List ℕ) → ¬ Contains reserved_words name → built_in name ≡ meaning.Nothing
nothing_built_in name free =
    let get : bytes_eq name (codes "getbyte") ≡ false = not_named name (codes "getbyte") (λ e. free (0, omega arith, sym e)) in
    let put : bytes_eq name (codes "putbyte") ≡ false = not_named name (codes "putbyte") (λ e. free (1, omega arith, sym e)) in
    ap (λ b. cond b meaning.GetByte (cond (bytes_eq name (codes "putbyte")) meaning.PutByte meaning.Nothing)) get
    ∙ ap (λ b. cond b meaning.PutByte meaning.Nothing) put

-- A callee of the second form means the function that it means there

-- where the meaning is a function, its type is that which is declared
type_of : (all : List TypedUnit) (m : Meaning) (r : Option Typed) (h : IsMeant all m r) → signature_of all (meaning.Function m.unit h.index) ≡ Some int_void
type_of all m r h =
    ap (λ (u : Option TypedUnit). option_map (λ (f : Function). f.signature) (option_and_then (λ (u : TypedUnit). slice_get u.functions h.index) u)) h.at
    ∙ ap (λ f. option_map (λ (f : Function). f.signature) f) h.place
    ∙ ap (λ t. Some t) h.does.type

declared_so : (all : List TypedUnit) (m : Option Meaning) (r : Option Typed) → SameMeaning all m r
    → as_declared all (callee.Function int_void) (unwrap_or r meaning.Nothing) ≡ unwrap_or r meaning.Nothing
declared_so all None r h = ap (λ r. as_declared all (callee.Function int_void) (unwrap_or r meaning.Nothing)) h ∙ sym (ap (λ r. unwrap_or r meaning.Nothing) h)
declared_so all (Some m) r h =
    ap (λ r. as_declared all (callee.Function int_void) (unwrap_or r meaning.Nothing)) h.is
    ∙ ap (λ s. cond (has_type int_void s) (meaning.Function m.unit h.index) meaning.Nothing) (type_of all m r h)
    ∙ sym (ap (λ r. unwrap_or r meaning.Nothing) h.is)

pub calls_same : (units : List (List Item)) (all : List TypedUnit) (room unit : ℕ) (u : TypedUnit) (symbol : ℕ) (name : List ℕ)
    → AllMirror units all → slice_get all unit ≡ Some u → HasSymbol u symbol name int_void → ¬ Contains reserved_words name
    → callee_at (linked all room) unit symbol ≡ unwrap_or (typed_meaning all unit u name) meaning.Nothing
calls_same units all room unit u symbol name h at s free =
    callee_is units all room unit u symbol name int_void h at s
    ∙ ap (λ m. as_declared all (callee.Function int_void) (unwrap_or (typed_meaning all unit u name) m)) (nothing_built_in name free)
    ∙ declared_so all (means units unit name) (typed_meaning all unit u name) (meant_same units all unit u name h at)

-- `putbyte` means the runtime's function, for no unit defines it

abbrev putbyte : List ℕ
putbyte = codes "putbyte"

passes_none : (test : Item → Bool) (item : Item) (rest : Option (List SmallStmt)) → test item ≡ false → body_or (test item) item.body rest ≡ rest
passes_none test item rest e = ap (λ b. body_or b item.body rest) e

item_is_other : (item : Item) → IsFree item → bytes_eq item.name putbyte ≡ false
item_is_other item free = not_named item.name putbyte (λ e. free (1, omega arith, sym e))

free_first : (item : Item) (items : List Item) → All IsFree (item ∷ items) → IsFree item
free_first item items free = free 0 item (omega arith)

free_rest : (item : Item) (items : List Item) → All IsFree (item ∷ items) → All IsFree items
free_rest item items free = λ k d h. free (suc k) d (omega arith)

no_own : (items : List Item) → All IsFree items → own items putbyte ≡ None
no_own [] free = refl
no_own (item ∷ items) free = passes_none (λ item. bytes_eq item.name putbyte) item (own items putbyte) (item_is_other item (free_first item items free)) ∙ no_own items (free_rest item items free)

and_false : (a b : Bool) → b ≡ false → (a && b) ≡ false
and_false true b e = e
and_false false b e = refl

no_shown : (items : List Item) → All IsFree items → shown items putbyte ≡ None
no_shown [] free = refl
no_shown (item ∷ items) free =
    passes_none (λ item. not item.local && bytes_eq item.name putbyte) item (shown items putbyte) (and_false (not item.local) (bytes_eq item.name putbyte) (item_is_other item (free_first item items free)))
    ∙ no_shown items (free_rest item items free)

none_shown : (units : List (List Item)) (us : List TypedUnit) (n : ℕ) → AllMirror units us → shown_by n units putbyte ≡ None
none_shown [] us n h = refl
none_shown (items ∷ units) [] n h = absurd h
none_shown (items ∷ units) (u ∷ us) n h =
    ap (λ b. meaning_or n b (shown_by (suc n) units putbyte)) (no_shown items h.0.free) ∙ none_shown units us (suc n) h.1

no_meaning : (units : List (List Item)) (all : List TypedUnit) (unit : ℕ) (u : TypedUnit) → AllMirror units all → slice_get all unit ≡ Some u → means units unit putbyte ≡ None
no_meaning units all unit u h at =
    ap (λ b. meaning_or unit b (shown_by 0 units putbyte)) (no_own (slice_index_or units unit []) (mirror_at units all unit u h at).free) ∙ none_shown units all 0 h

pub puts_same : (units : List (List Item)) (all : List TypedUnit) (room unit : ℕ) (u : TypedUnit) (symbol : ℕ)
    → AllMirror units all → slice_get all unit ≡ Some u → HasSymbol u symbol putbyte putbyte_signature
    → callee_at (linked all room) unit symbol ≡ meaning.PutByte
puts_same units all room unit u symbol h at s =
    let none : typed_meaning all unit u putbyte ≡ None = subst (λ m. SameMeaning all m (typed_meaning all unit u putbyte)) (no_meaning units all unit u h at) (meant_same units all unit u putbyte h at) in
    callee_is units all room unit u symbol putbyte putbyte_signature h at s
    ∙ ap (λ r. as_declared all (callee.Function putbyte_signature) (unwrap_or r (built_in putbyte))) none
