-- Units of Rtl that match units of Core, and that they do what these do.
use Rattle.std.specs.Prelude.{◌≡◌, ℕ, List, [], ◌∷◌, map, Option, Some, None}
use Rattle.std.proofs.Common.{refl, sym, subst, ap, ◌∙◌}
use Rattle.cc_base.specs.declared.face.Face.{Face}
use Rattle.pass_core.specs.Alike.{TurnAlike, RunAlike, IsSound, run_measure}
use Rattle.pass_core.specs.Inputs.{AreBytes}
use Rattle.pass_core.specs.Lists.{EachMatches}
use Rattle.pass_core.specs.Refines.{Refines}
use Rattle.pass_core.specs.Semantics.{Simulates, run_of}
use Rattle.pass_core.specs.Turns.{Turned, after_turn}
use Rattle.pass_core.specs.laws.Lists.{same_of_each}
use Rattle.pass_core.specs.laws.Turns.{turns_simulate, turns_refine}
use Rattle.block_mem.specs.Blocks.{Blocks}
use Rattle.unit_names.specs.declared.meaning.Meaning.{Meaning}
use Rattle.unit_names.specs.declared.meaning.Meaning.TheVariants as meaning
use Rattle.unit_names.specs.declared.naming.Naming.{Naming}
use Rattle.unit_names.specs.Names.{FunctionPart, NamedUnit, all_objects, all_callees, main_of, start_of}
use Rattle.unit_passes.specs.declared.units.UnitOf.{UnitOf}
use Rattle.unit_passes.specs.Programs as programs
use Rattle.core_lang.specs.declared.syntax.CoreUnit.{CoreUnit}
use Rattle.core_lang.specs.declared.syntax.Function.{Function}
use Rattle.core_lang.specs.Meaning as core
use Rattle.core_lang.specs.Meaning.{Program, World}
use Rattle.core_lang.specs.Units as units
use Rattle.core_lang.specs.Units.{turns, core_after}
use Rattle.rtl_lang.specs.declared.syntax.RtlParts.{RtlParts}
use Rattle.rtl_lang.specs.Meaning as rtl
use Rattle.rtl_lang.specs.Meaning.{RtlProgram, RtlWorld}
use Rattle.rtl_lang.specs.Units as rtl_units
use Rattle.rtl_lang.specs.Units.{rtl_turns, rtl_after}
use Rattle.rtl_gen.specs.Translation.{rtl_function}
use Rattle.rtl_gen.specs.Units.{Matches}
use Rattle.rtl_gen.specs.Relation.{Related, rtl_program, measure}
use Rattle.rtl_gen.specs.laws.Calling.{main_alike}
use Rattle.rtl_gen.specs.laws.Meeting.{each_turn_met}

-- Names

part_same : (f : Function) → rtl_units.function_part (rtl_function f) ≡ units.function_part f
unfolding rtl_function
part_same f = refl

parts_same : (fs : List Function) → map rtl_units.function_part (map rtl_function fs) ≡ map units.function_part fs
parts_same [] = refl
parts_same (f ∷ fs) = ap (λ (x : FunctionPart). x ∷ map rtl_units.function_part (map rtl_function fs)) (part_same f) ∙ ap (λ (ps : List FunctionPart). units.function_part f ∷ ps) (parts_same fs)

-- units that match have the same names
pub named_same : (u : CoreUnit) (v : UnitOf RtlParts) → Matches u v → rtl_units.named v ≡ units.named u
named_same u v m =
    ap (λ (n : Naming). record { face = n.face; globals = n.globals; symbol_names = n.symbol_names; functions = map rtl_units.function_part v.functions }) m.naming
    ∙ ap (λ (ps : List FunctionPart). record { face = u.naming.face; globals = u.naming.globals; symbol_names = u.naming.symbol_names; functions = ps })
    (ap (map rtl_units.function_part) m.functions ∙ parts_same u.functions)

pub all_named_same : (us : List CoreUnit) (vs : List (UnitOf RtlParts)) → EachMatches Matches us vs → rtl_units.all_named vs ≡ units.all_named us
all_named_same us vs each = same_of_each units.named rtl_units.named Matches named_same us vs each

-- other units see the same
pub face_same : (u : CoreUnit) (v : UnitOf RtlParts) → Matches u v → v.naming.face ≡ u.naming.face
face_same u v m = ap (λ (n : Naming). n.face) m.naming

-- Linked units

functions_same : (us : List CoreUnit) (vs : List (UnitOf RtlParts)) → EachMatches Matches us vs → programs.all_functions vs ≡ map (map rtl_function) (units.all_functions us)
functions_same [] [] each = refl
functions_same [] (v ∷ vs) each = absurd each
functions_same (u ∷ us) [] each = absurd each
functions_same (u ∷ us) (v ∷ vs) each =
    ap (λ (fs : List RtlParts). fs ∷ programs.all_functions vs) each.0.functions
    ∙ ap (λ (fss : List (List RtlParts)). map rtl_function u.functions ∷ fss) (functions_same us vs each.1)

pub linked_same : (us : List CoreUnit) (vs : List (UnitOf RtlParts)) (room : ℕ) → EachMatches Matches us vs → rtl_units.linked vs room ≡ rtl_program (units.linked us room)
linked_same us vs room each =
    ap (λ (fs : List (List RtlParts)). record { functions = fs; objects = all_objects (rtl_units.all_named vs); callees = all_callees (rtl_units.all_named vs); room = room }) (functions_same us vs each)
    ∙ ap (λ (ns : List NamedUnit). record { functions = map (map rtl_function) (units.all_functions us); objects = all_objects ns; callees = all_callees ns; room = room }) (all_named_same us vs each)

-- each turn of Core is met
pub units_simulate : (us : List CoreUnit) (vs : List (UnitOf RtlParts)) (room : ℕ) → EachMatches Matches us vs → Simulates (units.core (units.linked us room)) (rtl_units.rtl (rtl_units.linked vs room)) (RunAlike Related) (run_measure measure)
units_simulate us vs room each =
    let p = units.linked us room in
    subst (λ (q : RtlProgram). Simulates (units.core p) (rtl_units.rtl q) (RunAlike Related) (run_measure measure)) (sym (linked_same us vs room each))
    (turns_simulate Related (turns p) (rtl_turns (rtl_program p)) measure (each_turn_met p))

-- Whole programs

-- the turn that enters `main`
abbrev core_main : Program → Blocks → Option Meaning → Turned World
core_main p m None = core.entered p m 0 0 None [] None []
core_main p m (Some (meaning.Function unit index)) = core.entered p m 0 unit (core.function_at p unit index) [] None []
core_main p m (Some meaning.GetByte) = core.entered p m 0 0 None [] None []
core_main p m (Some meaning.PutByte) = core.entered p m 0 0 None [] None []
core_main p m (Some meaning.Nothing) = core.entered p m 0 0 None [] None []

core_begins : (p : Program) (m : Blocks) (o : Option Meaning) (input : List ℕ) → core.begun p m o input ≡ after_turn (core_main p m o) input []
core_begins p m None input = refl
core_begins p m (Some (meaning.Function unit index)) input = refl
core_begins p m (Some meaning.GetByte) input = refl
core_begins p m (Some meaning.PutByte) input = refl
core_begins p m (Some meaning.Nothing) input = refl

starts_alike : (p : Program) (m : Blocks) (o : Option Meaning) → TurnAlike Related (core_main p m o) (rtl.main_turn (rtl_program p) m o)
starts_alike p m None = refl
starts_alike p m (Some (meaning.Function unit index)) = main_alike p m unit index
starts_alike p m (Some meaning.GetByte) = refl
starts_alike p m (Some meaning.PutByte) = refl
starts_alike p m (Some meaning.Nothing) = refl

program_refines : (p : Program) (m : Blocks) (o : Option Meaning) (input : List ℕ) → AreBytes input → Refines (run_of (units.core p) (core.begun p m o input)) (run_of (rtl_units.rtl (rtl_program p)) (rtl.begun (rtl_program p) m o input))
program_refines p m o input bytes =
    subst (λ (r : core.Run). Refines (run_of (units.core p) r) (run_of (rtl_units.rtl (rtl_program p)) (rtl.begun (rtl_program p) m o input))) (sym (core_begins p m o input))
    (turns_refine Related (turns p) (rtl_turns (rtl_program p)) measure (each_turn_met p) (core_main p m o) (rtl.main_turn (rtl_program p) m o) input (λ sound. starts_alike p m o) bytes)

-- linked units do what those of Core do
pub units_refine : (us : List CoreUnit) (vs : List (UnitOf RtlParts)) (room : ℕ) (input : List ℕ) → EachMatches Matches us vs → AreBytes input → Refines (core_after us room input) (rtl_after vs room input)
units_refine us vs room input each bytes =
    let p = units.linked us room in
    subst (λ (q : RtlProgram). Refines (core_after us room input) (run_of (rtl_units.rtl q) (rtl.begun q (start_of (rtl_units.all_named vs)) (main_of (rtl_units.all_named vs)) input))) (sym (linked_same us vs room each))
    (subst (λ (ns : List NamedUnit). Refines (core_after us room input) (run_of (rtl_units.rtl (rtl_program p)) (rtl.begun (rtl_program p) (start_of ns) (main_of ns) input))) (sym (all_named_same us vs each))
    (program_refines p (start_of (units.all_named us)) (main_of (units.all_named us)) input bytes))
