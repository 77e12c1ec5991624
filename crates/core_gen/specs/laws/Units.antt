-- Units of Core that match units of the source, and that they do what these do.
use Rattle.std.specs.Prelude.{◌≡◌, ℕ, false, List, [], ◌∷◌, map, slice_get, get_or, Option, Some, option_map}
use Rattle.std.specs.Option.{option_and_then, option_map_or}
use Rattle.std.proofs.Common.{refl, sym, subst, ap, ◌∙◌}
use Rattle.std.proofs.lemmas.Option.{slice_get-map, option_and_then_some}
use Rattle.cc_base.specs.declared.face.SymbolName.{SymbolName}
use Rattle.pass_core.specs.Lists.{EachMatches, Beside}
use Rattle.pass_core.specs.laws.Lists.{each_at, same_of_each}
use Rattle.pass_core.specs.Refines.{Refines}
use Rattle.pass_core.specs.Semantics.{Simulates, run_of}
use Rattle.block_mem.specs.Blocks.{Blocks}
use Rattle.block_mem.specs.Start.{start}
use Rattle.block_mem.specs.declared.value.BlockName.{BlockName}
use Rattle.unit_names.specs.declared.meaning.Meaning.{Meaning}
use Rattle.unit_names.specs.declared.meaning.Meaning.TheVariants as meaning
use Rattle.unit_names.specs.declared.naming.Naming.{Naming}
use Rattle.unit_names.specs.Names as names
use Rattle.unit_names.specs.Names.{FunctionPart, NamedUnit}
use Rattle.clight_unit.specs.declared.unit.ClightUnit.{ClightUnit as TypedUnit}
use Rattle.clight_unit.specs.declared.function.Function.{Function}
use Rattle.clight_sem.specs.Functions.{Linked, all_parts, linked, main_of, is_main}
use Rattle.clight_sem.specs.Named as clight
use Rattle.clight_sem.specs.laws.Named as clight_laws
use Rattle.clight_sem.specs.Turns.{source, source_after}
use Rattle.core_lang.specs.declared.syntax.Function.{Function as CoreFunction}
use Rattle.core_lang.specs.declared.syntax.CoreUnit.{CoreUnit}
use Rattle.core_lang.specs.Meaning.{Program, begun as core_begun}
use Rattle.core_lang.specs.Units.{core as language, core_after}
use Rattle.core_lang.specs.Units as units
use Rattle.core_gen.specs.Relation.{core_in, program, Related, measure}
use Rattle.core_gen.specs.laws.Calling.{Linking, core_simulates}
use Rattle.core_gen.specs.laws.Refining.{core_refines}
use Rattle.core_gen.specs.Units.{function_code, unit_function, Matches}
use Rattle.core_gen.specs.laws.Functions.{function_is}

parts_same : (symbol_names : List SymbolName) (fs : List Function) → map units.function_part (map (unit_function symbol_names) fs) ≡ map clight.function_part fs
unfolding unit_function
parts_same symbol_names [] = refl
parts_same symbol_names (f ∷ fs) = ap (λ (ps : List FunctionPart). clight.function_part f ∷ ps) (parts_same symbol_names fs)

-- such units have the same names
pub named_same : (u : TypedUnit) (v : CoreUnit) → Matches u v → units.named v ≡ clight.named u
named_same u v m =
    ap (λ (n : Naming). record { face = n.face; globals = n.globals; symbol_names = n.symbol_names; functions = map units.function_part v.functions }) m.naming
    ∙ ap (λ (ps : List FunctionPart). record { face = u.face; globals = u.globals; symbol_names = u.symbol_names; functions = ps })
    (ap (map units.function_part) m.functions ∙ parts_same u.symbol_names u.functions)

pub all_named_same : (us : List TypedUnit) (vs : List CoreUnit) → EachMatches Matches us vs → units.all_named vs ≡ clight.all_named us
all_named_same us vs each = same_of_each clight.named units.named Matches named_same us vs each

-- Linking

function_same : (c : Linked) (unit : ℕ) (u : TypedUnit) (f : Function) → slice_get c.units unit ≡ Some u → unit_function u.symbol_names f ≡ core_in c unit f
unfolding unit_function
function_same c unit u f found =
    ap (λ (o : Option TypedUnit). function_code (option_map_or (λ v. is_main v f) o false) f) (sym found) ∙ function_is c unit f

stands : (us : List TypedUnit) (vs : List CoreUnit) (room : ℕ) → EachMatches Matches us vs → (unit index : ℕ) (f : Function) (u : TypedUnit) → slice_get us unit ≡ Some u → slice_get u.functions index ≡ Some f → option_and_then (λ (fs : List CoreFunction). slice_get fs index) (slice_get (units.all_functions vs) unit) ≡ Some (core_in (linked us room) unit f)
stands us vs room each unit index f u found there =
    let b : Beside Matches vs unit u = each_at Matches us vs unit u each found in
    let listed : slice_get (units.all_functions vs) unit ≡ Some b.there.functions = slice_get-map (λ (v : CoreUnit). v.functions) vs unit ∙ ap (option_map (λ (v : CoreUnit). v.functions)) b.found in
    ap (λ o. option_and_then (λ (fs : List CoreFunction). slice_get fs index) o) listed
    ∙ ap (λ (fs : List CoreFunction). slice_get fs index) b.match.functions
    ∙ slice_get-map (unit_function u.symbol_names) u.functions index
    ∙ ap (option_map (unit_function u.symbol_names)) there
    ∙ ap (λ (g : CoreFunction). Some g) (function_same (linked us room) unit u f found)

-- the premise of the simulation
pub units_link : (us : List TypedUnit) (vs : List CoreUnit) (room : ℕ) → EachMatches Matches us vs → Linking (linked us room) (units.all_functions vs) (names.all_callees (units.all_named vs))
units_link us vs room each = record {
  stand = λ unit index f h. option_and_then_some (λ (u : TypedUnit). slice_get u.functions index) (slice_get us unit) f h (λ u found there. stands us vs room each unit index f u found there);
  mean = λ unit symbol some. ap (λ (ns : List NamedUnit). get_or (get_or (names.all_callees ns) unit []) symbol meaning.Nothing) (all_named_same us vs each) ∙ clight_laws.callees_same us room unit symbol some;
}

-- Whole programs

objects_same : (us : List TypedUnit) (vs : List CoreUnit) (room : ℕ) → EachMatches Matches us vs → names.all_objects (units.all_named vs) ≡ (linked us room).objects
objects_same us vs room each = ap names.all_objects (all_named_same us vs each) ∙ clight_laws.objects_same us room

pub linked_same : (us : List TypedUnit) (vs : List CoreUnit) (room : ℕ) → EachMatches Matches us vs → units.linked vs room ≡ program (linked us room) (units.all_functions vs) (names.all_callees (units.all_named vs))
linked_same us vs room each = ap (λ (os : List (List (Option BlockName))). record { functions = units.all_functions vs; objects = os; callees = names.all_callees (units.all_named vs); room = room }) (objects_same us vs room each)

-- each turn of the source is met
pub units_simulate : (us : List TypedUnit) (vs : List CoreUnit) (room : ℕ) → EachMatches Matches us vs → Simulates (source (linked us room)) (language (units.linked vs room)) (Related (linked us room)) measure
units_simulate us vs room each =
    let c = linked us room in
    subst (λ (p : Program). Simulates (source c) (language p) (Related c) measure) (sym (linked_same us vs room each))
    (core_simulates c (units.all_functions vs) (names.all_callees (units.all_named vs)) (units_link us vs room each))

-- and linked units do what those of the source do
pub units_refine : (us : List TypedUnit) (vs : List CoreUnit) (room : ℕ) (input : List ℕ) → EachMatches Matches us vs → Refines (source_after us room input) (core_after vs room input)
units_refine us vs room input each =
    let c = linked us room in
    let same = all_named_same us vs each in
    let begins : names.start_of (units.all_named vs) ≡ start (all_parts us) = ap names.start_of same ∙ ap start (clight_laws.parts_same us) in
    let enters : names.main_of (units.all_named vs) ≡ main_of c = ap names.main_of same ∙ clight_laws.main_same us room in
    subst (λ (p : Program). Refines (source_after us room input) (run_of (language p) (core_begun p (names.start_of (units.all_named vs)) (names.main_of (units.all_named vs)) input))) (sym (linked_same us vs room each))
    (subst (λ (m : Blocks). Refines (source_after us room input) (run_of (language (program c (units.all_functions vs) (names.all_callees (units.all_named vs)))) (core_begun (program c (units.all_functions vs) (names.all_callees (units.all_named vs))) m (names.main_of (units.all_named vs)) input))) (sym begins)
    (subst (λ (o : Option Meaning). Refines (source_after us room input) (run_of (language (program c (units.all_functions vs) (names.all_callees (units.all_named vs)))) (core_begun (program c (units.all_functions vs) (names.all_callees (units.all_named vs))) (start (all_parts us)) o input))) (sym enters)
    (core_refines c (units.all_functions vs) (names.all_callees (units.all_named vs)) (units_link us vs room each) input)))

-- other units see the same
pub face_same : (u : TypedUnit) (v : CoreUnit) → Matches u v → v.naming.face ≡ u.face
face_same u v m = ap (λ (n : Naming). n.face) m.naming
