-- What the first of all units tells is what names mean.
use Rattle.std.proofs.Common.{◌≡◌, ℕ, ◌+◌, Bool, true, false, cond, List, [], ◌∷◌, Option, Some, None, refl, sym, ap, ◌∙◌}
use Rattle.std.specs.Prelude.{◌||◌, find, position}
use Rattle.std.specs.List.{list_any, position_from}
use Rattle.std.specs.Option.{option_or, option_map, is_some}
use Rattle.std.proofs.lemmas.List.Folds.{list_any-append, find-append}
use Rattle.std.proofs.lemmas.Iterator.Adapters.{position_from-zero}
use Rattle.cc_base.specs.Faces.{first_answer, all_defs, all_uses, has_name, shares, size_of_object, measure_by}
use Rattle.cc_base.specs.declared.face.Def.{Def}
use Rattle.cc_base.specs.declared.face.Wanted.{Wanted}
use Rattle.cc_base.specs.declared.face.GlobalPart.{GlobalPart}
use Rattle.block_mem.specs.Start.{faces_of, object_in, object_of, is_seen, is_shared, is_function}
use Rattle.block_mem.specs.declared.value.BlockName.{BlockName}
use Rattle.block_mem.specs.declared.value.BlockName.TheVariants.{Global}
use Rattle.clight_unit.specs.declared.unit.ClightUnit.{ClightUnit as TypedUnit}
use Rattle.clight_unit.specs.declared.function.Function.{Function}
use Rattle.clight_sem.specs.Functions.{parts_of, all_parts, function_in, shown_function, is_shown}
use Rattle.unit_names.specs.declared.meaning.Meaning.TheVariants.{Function as FunctionOf}
use Rattle.mean_start.specs.Firsts.{first_with}
use Rattle.mean_start.specs.Linkages.{definition_of, function_definition_of, shared_size_of, seen_of, shared_of, shown_of, first_of}

is_some-or : {V : Type 0} (a b : Option V) → is_some (option_or a b) ≡ (is_some a || is_some b)
is_some-or None b = refl
is_some-or (Some x) b = refl

map-or : {A V : Type 0} (f : A → V) (a b : Option A) → option_or (option_map f a) (option_map f b) ≡ option_map f (option_or a b)
map-or f None b = refl
map-or f (Some x) b = refl

-- whether an item passes, the first that does, and its place
pub some_with : {A V : Type 0} (test : A → Bool) (value : ℕ → A → V) (k : ℕ) (xs : List A) → is_some (first_with test value k xs) ≡ list_any test xs
some_with test value k [] = refl
some_with {A} {V} test value k (x ∷ xs) = by (test x) (some_with test value (k + 1) xs)
  where
    by : (b : Bool) → is_some (first_with test value (k + 1) xs) ≡ list_any test xs → is_some (option_or (cond b (Some (value k x)) None) (first_with test value (k + 1) xs)) ≡ (b || list_any test xs)
    by true e = refl
    by false e = e

pub find_with : {A V : Type 0} (test : A → Bool) (f : A → V) (k : ℕ) (xs : List A) → first_with test (λ i x. f x) k xs ≡ option_map f (find test xs)
find_with test f k [] = refl
find_with {A} {V} test f k (x ∷ xs) = by (test x) (find_with test f (k + 1) xs)
  where
    by : (b : Bool) → first_with test (λ i y. f y) (k + 1) xs ≡ option_map f (find test xs) → option_or (cond b (Some (f x)) None) (first_with test (λ i y. f y) (k + 1) xs) ≡ option_map f (cond b (Some x) (find test xs))
    by true e = refl
    by false e = e

place_from : {A V : Type 0} (test : A → Bool) (f : ℕ → V) (k : ℕ) (xs : List A) → first_with test (λ i x. f i) k xs ≡ option_map f (position_from test k xs)
place_from test f k [] = refl
place_from {A} {V} test f k (x ∷ xs) = by (test x) (place_from test f (k + 1) xs)
  where
    by : (b : Bool) → first_with test (λ i y. f i) (k + 1) xs ≡ option_map f (position_from test (k + 1) xs) → option_or (cond b (Some (f k)) None) (first_with test (λ i y. f i) (k + 1) xs) ≡ option_map f (cond b (Some k) (position_from test (k + 1) xs))
    by true e = refl
    by false e = e

pub place_with : {A V : Type 0} (test : A → Bool) (f : ℕ → V) (xs : List A) → first_with test (λ i x. f i) 0 xs ≡ option_map f (position test xs)
place_with test f xs = place_from test f 0 xs ∙ ap (option_map f) (sym (position_from-zero test xs))

-- whether a unit defines or shares a name
defs_some : {V : Type 0} (test : Def → Bool) (value : ℕ → Def → V) (k : ℕ) (us : List TypedUnit) → is_some (first_answer (λ j (u : TypedUnit). first_with test value 0 u.face.defs) k us) ≡ list_any test (all_defs (faces_of (all_parts us)))
defs_some test value k [] = refl
defs_some test value k (u ∷ us) =
    let ask : ℕ → TypedUnit → Option _ = λ j (v : TypedUnit). first_with test value 0 v.face.defs in
    is_some-or (ask k u) (first_answer ask (k + 1) us)
    ∙ ap (λ b. b || is_some (first_answer ask (k + 1) us)) (some_with test value 0 u.face.defs)
    ∙ ap (λ b. list_any test u.face.defs || b) (defs_some test value (k + 1) us)
    ∙ sym (list_any-append test u.face.defs (all_defs (faces_of (all_parts us))))

uses_some : {V : Type 0} (test : Wanted → Bool) (value : ℕ → Wanted → V) (k : ℕ) (us : List TypedUnit) → is_some (first_answer (λ j (u : TypedUnit). first_with test value 0 u.face.uses) k us) ≡ list_any test (all_uses (faces_of (all_parts us)))
uses_some test value k [] = refl
uses_some test value k (u ∷ us) =
    let ask : ℕ → TypedUnit → Option _ = λ j (v : TypedUnit). first_with test value 0 v.face.uses in
    is_some-or (ask k u) (first_answer ask (k + 1) us)
    ∙ ap (λ b. b || is_some (first_answer ask (k + 1) us)) (some_with test value 0 u.face.uses)
    ∙ ap (λ b. list_any test u.face.uses || b) (uses_some test value (k + 1) us)
    ∙ sym (list_any-append test u.face.uses (all_uses (faces_of (all_parts us))))

pub defined_some : (us : List TypedUnit) (name : List ℕ) → is_some (first_of definition_of us name) ≡ list_any (has_name name) (all_defs (faces_of (all_parts us)))
defined_some us name = defs_some (has_name name) (λ i d. size_of_object d) 0 us

pub function_some : (us : List TypedUnit) (name : List ℕ) → is_some (first_of function_definition_of us name) ≡ list_any (is_function name) (all_defs (faces_of (all_parts us)))
function_some us name = defs_some (is_function name) (λ i d. tt) 0 us

pub shared_some : (us : List TypedUnit) (name : List ℕ) → is_some (first_of shared_size_of us name) ≡ list_any (shares name) (all_uses (faces_of (all_parts us)))
shared_some us name = uses_some (shares name) (λ i w. w.stated) 0 us

-- the first definition of a name, and the first use that shares it
defs_find : {V : Type 0} (test : Def → Bool) (f : Def → V) (k : ℕ) (us : List TypedUnit) → first_answer (λ j (u : TypedUnit). first_with test (λ i d. f d) 0 u.face.defs) k us ≡ option_map f (find test (all_defs (faces_of (all_parts us))))
defs_find test f k [] = refl
defs_find {V} test f k (u ∷ us) =
    let ask : ℕ → TypedUnit → Option V = λ j (v : TypedUnit). first_with test (λ i d. f d) 0 v.face.defs in
    ap (λ (o : Option V). option_or o (first_answer ask (k + 1) us)) (find_with test f 0 u.face.defs)
    ∙ ap (λ (o : Option V). option_or (option_map f (find test u.face.defs)) o) (defs_find test f (k + 1) us)
    ∙ map-or f (find test u.face.defs) (find test (all_defs (faces_of (all_parts us))))
    ∙ ap (option_map f) (sym (find-append test u.face.defs (all_defs (faces_of (all_parts us)))))

uses_find : {V : Type 0} (test : Wanted → Bool) (f : Wanted → V) (k : ℕ) (us : List TypedUnit) → first_answer (λ j (u : TypedUnit). first_with test (λ i w. f w) 0 u.face.uses) k us ≡ option_map f (find test (all_uses (faces_of (all_parts us))))
uses_find test f k [] = refl
uses_find {V} test f k (u ∷ us) =
    let ask : ℕ → TypedUnit → Option V = λ j (v : TypedUnit). first_with test (λ i w. f w) 0 v.face.uses in
    ap (λ (o : Option V). option_or o (first_answer ask (k + 1) us)) (find_with test f 0 u.face.uses)
    ∙ ap (λ (o : Option V). option_or (option_map f (find test u.face.uses)) o) (uses_find test f (k + 1) us)
    ∙ map-or f (find test u.face.uses) (find test (all_uses (faces_of (all_parts us))))
    ∙ ap (option_map f) (sym (find-append test u.face.uses (all_uses (faces_of (all_parts us)))))

pub definition_found : (us : List TypedUnit) (name : List ℕ) → first_of definition_of us name ≡ option_map size_of_object (find (has_name name) (all_defs (faces_of (all_parts us))))
definition_found us name = defs_find (has_name name) size_of_object 0 us

pub shared_found : (us : List TypedUnit) (name : List ℕ) → first_of shared_size_of us name ≡ option_map (λ (w : Wanted). w.stated) (find (shares name) (all_uses (faces_of (all_parts us))))
shared_found us name = uses_find (shares name) (λ w. w.stated) 0 us

-- the size by a definition, and without one by a use
pub by_definition : (d : Option Def) (w : Option Wanted) (size : Option ℕ) → option_map size_of_object d ≡ Some size → size ≡ measure_by d w
by_definition None w size e = cc
by_definition (Some d) w size e = cc

pub by_use : (d : Option Def) (w : Option Wanted) → option_map size_of_object d ≡ None → option_map (λ (u : Wanted). u.stated) w ≡ measure_by d w
by_use None w e = refl
by_use (Some d) w e = cc

-- answers that agree at each item
pub same_answers : {A V : Type 0} (f g : ℕ → A → Option V) → ((k : ℕ) (x : A) → f k x ≡ g k x) → (k : ℕ) (xs : List A) → first_answer f k xs ≡ first_answer g k xs
same_answers f g h k [] = refl
same_answers {A} {V} f g h k (x ∷ xs) = ap (λ (o : Option V). option_or o (first_answer f (k + 1) xs)) (h k x) ∙ ap (option_or (g k x)) (same_answers f g h (k + 1) xs)

-- objects and functions of one unit, and of all
pub object_is : (test : GlobalPart → Bool) (k : ℕ) (u : TypedUnit) → first_with test (λ i g. Global k i) 0 u.globals ≡ object_in test k (parts_of u)
object_is test k u = place_with test (Global k) u.globals

objects_are : (test : GlobalPart → Bool) (k : ℕ) (us : List TypedUnit) → first_answer (λ j (u : TypedUnit). first_with test (λ i g. Global j i) 0 u.globals) k us ≡ first_answer (object_in test) k (all_parts us)
objects_are test k [] = refl
objects_are test k (u ∷ us) =
    ap (λ (o : Option BlockName). option_or o (first_answer (λ j (v : TypedUnit). first_with test (λ i g. Global j i) 0 v.globals) (k + 1) us)) (object_is test k u)
    ∙ ap (option_or (object_in test k (parts_of u))) (objects_are test (k + 1) us)

pub seen_is : (us : List TypedUnit) (name : List ℕ) → first_of seen_of us name ≡ object_of (is_seen name) (all_parts us)
seen_is us name = objects_are (is_seen name) 0 us

pub shared_is : (us : List TypedUnit) (name : List ℕ) → first_of shared_of us name ≡ object_of (is_shared name) (all_parts us)
shared_is us name = objects_are (is_shared name) 0 us

pub function_is : (test : TypedUnit → Function → Bool) (k : ℕ) (u : TypedUnit) → first_with (test u) (λ i f. FunctionOf k i) 0 u.functions ≡ function_in test k u
function_is test k u = place_with (test u) (FunctionOf k) u.functions

pub shown_is : (us : List TypedUnit) (name : List ℕ) → first_of shown_of us name ≡ shown_function us name
shown_is us name = same_answers (shown_of name) (function_in (λ u. is_shown u name)) (λ k u. function_is (λ v. is_shown v name) k u) 0 us
