-- Names mean in the source what they mean in every language, read off what naming needs of its units; but that a callee of another
-- type than its unit declares is none in the source alone.
use Rattle.std.specs.Prelude.{◌≡◌, ◌≢◌, ℕ, zero, suc, ◌+◌, ◌||◌, Bool, true, false, not, cond, nat_lt, List, [], ◌∷◌, length, map, position, get_or, Option, Some, None, option_map, unwrap_or}
use Rattle.std.specs.List.{list_any, prefix_len, position_or_len}
use Rattle.std.specs.Option.{option_or}
use Rattle.std.proofs.Common.{refl, sym, ap, ◌∙◌}
use Rattle.cc_base.specs.Faces.{first_answer}
use Rattle.cc_base.specs.declared.face.SymbolName.{SymbolName}
use Rattle.block_mem.specs.Start.{UnitParts, meant}
use Rattle.block_mem.specs.declared.value.BlockName.{BlockName}
use Rattle.unit_names.specs.declared.meaning.Meaning.{Meaning}
use Rattle.unit_names.specs.declared.meaning.Meaning.TheVariants as meaning
use Rattle.unit_names.specs.Names as names
use Rattle.unit_names.specs.Names.{NamedUnit}
use Rattle.clight_unit.specs.declared.unit.ClightUnit.{ClightUnit as TypedUnit}
use Rattle.clight_unit.specs.declared.signature.Callee.{Callee}
use Rattle.clight_unit.specs.declared.signature.Callee.TheVariants as callee
use Rattle.clight_sem.specs.Functions.{Linked, all_parts, object_meant, objects_of, function_in, is_shown, is_function_named, shown_function, own_callee, shown_callee, own_object, shown_object, built_in, meant_as_callee, has_type, signature_of, as_declared, callees_from, callees_of, of_each, linked, callee_at, main_of}
use Rattle.clight_sem.specs.Named.{function_part, named, all_named}

-- Searches of a list's images

prefix_of_map : {A B : Type 0} (p : B → Bool) (f : A → B) (xs : List A) → prefix_len p (map f xs) ≡ prefix_len (λ x. p (f x)) xs
prefix_of_map p f [] = refl
prefix_of_map p f (x ∷ xs) = ap (λ (n : ℕ). cond (p (f x)) (1 + n) 0) (prefix_of_map p f xs)

length_of_map : {A B : Type 0} (f : A → B) (xs : List A) → length (map f xs) ≡ length xs
length_of_map f [] = refl
length_of_map f (x ∷ xs) = ap suc (length_of_map f xs)

position_of_map : {A B : Type 0} (p : B → Bool) (f : A → B) (xs : List A) → position p (map f xs) ≡ position (λ x. p (f x)) xs
position_of_map p f xs =
    ap (λ (n : ℕ). cond (nat_lt n (length (map f xs))) (Some n) None) (prefix_of_map (λ x. not (p x)) f xs)
    ∙ ap (λ (n : ℕ). cond (nat_lt (position_or_len (λ x. p (f x)) xs) n) (Some (position_or_len (λ x. p (f x)) xs)) None) (length_of_map f xs)

any_of_map : {A B : Type 0} (p : B → Bool) (f : A → B) (xs : List A) → list_any p (map f xs) ≡ list_any (λ x. p (f x)) xs
any_of_map p f [] = refl
any_of_map p f (x ∷ xs) = ap (λ (b : Bool). p (f x) || b) (any_of_map p f xs)

first_of_map : {A B R : Type 0} (f : A → B) (h : ℕ → B → Option R) (g : ℕ → A → Option R) → ((k : ℕ) (x : A) → h k (f x) ≡ g k x) → (k : ℕ) (xs : List A) → first_answer h k (map f xs) ≡ first_answer g k xs
first_of_map f h g same k [] = refl
first_of_map {A} {B} {R} f h g same k (x ∷ xs) = ap (λ (o : Option R). option_or o (first_answer h (k + 1) (map f xs))) (same k x) ∙ ap (λ (o : Option R). option_or (g k x) o) (first_of_map f h g same (k + 1) xs)

each_of_map : {R : Type 0} (h : ℕ → NamedUnit → R) (g : ℕ → TypedUnit → R) → ((k : ℕ) (u : TypedUnit) → h k (named u) ≡ g k u) → (k : ℕ) (us : List TypedUnit) → names.of_each h k (map named us) ≡ of_each g k us
each_of_map h g same k [] = refl
each_of_map {R} h g same k (u ∷ us) = ap (λ (r : R). r ∷ names.of_each h (k + 1) (map named us)) (same k u) ∙ ap (λ (rs : List R). g k u ∷ rs) (each_of_map h g same (k + 1) us)

map_alike : {A B : Type 0} (f g : A → B) → ((x : A) → f x ≡ g x) → (xs : List A) → map f xs ≡ map g xs
map_alike f g same [] = refl
map_alike {A} {B} f g same (x ∷ xs) = ap (λ (y : B). y ∷ map f xs) (same x) ∙ ap (λ (ys : List B). g x ∷ ys) (map_alike f g same xs)

-- Objects

pub parts_same : (units : List TypedUnit) → names.all_parts (all_named units) ≡ all_parts units
parts_same [] = refl
parts_same (u ∷ us) = ap (λ (ps : List UnitParts). record { face = u.face; globals = u.globals } ∷ ps) (parts_same us)

object_same : (parts : List UnitParts) (k : ℕ) (u : TypedUnit) (name : List ℕ) → names.object_meant parts k (named u) name ≡ object_meant parts k u name
object_same parts k u name = ap (λ (b : Bool). cond b None (meant parts k (names.parts_of (named u)) name)) (any_of_map (names.is_function_named (named u) name) function_part u.functions)

objects_of_same : (parts : List UnitParts) (k : ℕ) (u : TypedUnit) → names.objects_of parts k (named u) ≡ objects_of parts k u
objects_of_same parts k u = map_alike (λ (s : SymbolName). names.object_meant parts k (named u) s.name) (λ (s : SymbolName). object_meant parts k u s.name) (λ s. object_same parts k u s.name) u.symbol_names

-- each symbol of each unit means the same object
pub objects_same : (units : List TypedUnit) (room : ℕ) → names.all_objects (all_named units) ≡ (linked units room).objects
objects_same units room =
    ap (λ (ps : List UnitParts). names.of_each (names.objects_of ps) 0 (all_named units)) (parts_same units)
    ∙ each_of_map (names.objects_of (all_parts units)) (objects_of (all_parts units)) (objects_of_same (all_parts units)) 0 units

-- Functions

shown_in_same : (name : List ℕ) (k : ℕ) (u : TypedUnit) → names.function_in (λ v. names.is_shown v name) k (named u) ≡ function_in (λ v. is_shown v name) k u
shown_in_same name k u = ap (option_map (λ index. meaning.Function k index)) (position_of_map (names.is_shown (named u) name) function_part u.functions)

own_in_same : (name : List ℕ) (k : ℕ) (u : TypedUnit) → names.function_in (λ v. names.is_function_named v name) k (named u) ≡ function_in (λ v. is_function_named v name) k u
own_in_same name k u = ap (option_map (λ index. meaning.Function k index)) (position_of_map (names.is_function_named (named u) name) function_part u.functions)

shown_same : (units : List TypedUnit) (name : List ℕ) → names.shown_function (all_named units) name ≡ shown_function units name
shown_same units name = first_of_map named (names.function_in (λ v. names.is_shown v name)) (function_in (λ v. is_shown v name)) (shown_in_same name) 0 units

-- the program starts with the same `main`
pub main_same : (units : List TypedUnit) (room : ℕ) → names.main_of (all_named units) ≡ main_of (linked units room)
main_same units room = shown_same units names.main_name

callee_same : (units : List TypedUnit) (parts : List UnitParts) (k : ℕ) (u : TypedUnit) (name : List ℕ) → names.meant_as_callee (all_named units) parts k (named u) name ≡ meant_as_callee units parts k u name
callee_same units parts k u name =
    ap (λ (o : Option Meaning). unwrap_or (option_or (option_or o (names.own_object k (names.parts_of (named u)) name)) (names.shown_callee (all_named units) parts name)) (names.built_in name)) (own_in_same name k u)
    ∙ ap (λ (o : Option Meaning). unwrap_or (option_or (own_callee k u name) (option_or o (names.shown_object parts name))) (built_in name)) (shown_same units name)

-- Callees: what is something in the source is the same in any language

taken : (b : Bool) (m n : Meaning) → cond b m meaning.Nothing ≢ meaning.Nothing → n ≡ m → n ≡ cond b m meaning.Nothing
taken true m n h e = e
taken false m n h e = absurd (h refl)

declared_same : (units : List TypedUnit) (d : Callee) (m n : Meaning) → as_declared units d m ≢ meaning.Nothing → n ≡ m → n ≡ as_declared units d m
declared_same units callee.Object m n h e = absurd (h refl)
declared_same units (callee.Function declared) m n h e = taken (has_type declared (signature_of units m)) m n h e

from_same : (units : List TypedUnit) (means others : List ℕ → Meaning) → ((name : List ℕ) → others name ≡ means name) → (ss : List SymbolName) (ds : List Callee) (k : ℕ) → get_or (callees_from means units ss ds) k meaning.Nothing ≢ meaning.Nothing → get_or (map (λ (s : SymbolName). others s.name) ss) k meaning.Nothing ≡ get_or (callees_from means units ss ds) k meaning.Nothing
from_same units means others same [] ds k h = absurd (h refl)
from_same units means others same (s ∷ ss) [] k h = absurd (h refl)
from_same units means others same (s ∷ ss) (d ∷ ds) zero h = declared_same units d (means s.name) (others s.name) h (same s.name)
from_same units means others same (s ∷ ss) (d ∷ ds) (suc k) h = from_same units means others same ss ds k h

each_same : (f g : ℕ → TypedUnit → List Meaning) → ((k : ℕ) (u : TypedUnit) (symbol : ℕ) → get_or (f k u) symbol meaning.Nothing ≢ meaning.Nothing → get_or (g k u) symbol meaning.Nothing ≡ get_or (f k u) symbol meaning.Nothing) → (k : ℕ) (us : List TypedUnit) (unit symbol : ℕ) → get_or (get_or (of_each f k us) unit []) symbol meaning.Nothing ≢ meaning.Nothing → get_or (get_or (of_each g k us) unit []) symbol meaning.Nothing ≡ get_or (get_or (of_each f k us) unit []) symbol meaning.Nothing
each_same f g same k [] unit symbol h = absurd (h refl)
each_same f g same k (u ∷ us) zero symbol h = same k u symbol h
each_same f g same k (u ∷ us) (suc unit) symbol h = each_same f g same (k + 1) us unit symbol h

-- a name that can be called means the same
pub callees_same : (units : List TypedUnit) (room unit symbol : ℕ) → callee_at (linked units room) unit symbol ≢ meaning.Nothing → get_or (get_or (names.all_callees (all_named units)) unit []) symbol meaning.Nothing ≡ callee_at (linked units room) unit symbol
callees_same units room unit symbol h =
    let parts = all_parts units in
    let plain : ℕ → TypedUnit → List Meaning = λ k u. map (λ (s : SymbolName). names.meant_as_callee (all_named units) parts k (named u) s.name) u.symbol_names in
    let table : names.all_callees (all_named units) ≡ of_each plain 0 units =
    ap (λ (ps : List UnitParts). names.of_each (names.callees_of (all_named units) ps) 0 (all_named units)) (parts_same units)
    ∙ each_of_map (names.callees_of (all_named units) parts) plain (λ k u. refl) 0 units in
    ap (λ (t : List (List Meaning)). get_or (get_or t unit []) symbol meaning.Nothing) table
    ∙ each_same (callees_of units parts) plain (λ k u s some. from_same units (meant_as_callee units parts k u) (names.meant_as_callee (all_named units) parts k (named u)) (callee_same units parts k u) u.symbol_names u.callees s some) 0 units unit symbol h
