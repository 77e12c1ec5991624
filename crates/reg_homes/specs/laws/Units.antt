-- Units of Ltl that match units of Rtl do what these do.
use Rattle.std.specs.Prelude.{◌≡◌, ℕ, Bool, List, slice_get, Option, Some, None, option_map}
use Rattle.std.specs.Option.{option_and_then}
use Rattle.std.proofs.Common.{refl, sym, subst, ap, ◌∙◌}
use Rattle.std.proofs.lemmas.Option.{slice_get-map}
use Rattle.pass_core.specs.Alike.{RunAlike, run_measure}
use Rattle.pass_core.specs.Inputs.{AreBytes}
use Rattle.pass_core.specs.Lists.{EachMatches}
use Rattle.pass_core.specs.Refines.{Refines}
use Rattle.pass_core.specs.Semantics.{Simulates, run_of}
use Rattle.pass_core.specs.laws.Turns.{turns_simulate, turns_refine}
use Rattle.block_mem.specs.Blocks.{Blocks}
use Rattle.unit_names.specs.declared.meaning.Meaning.{Meaning}
use Rattle.unit_names.specs.declared.naming.Naming.{Naming}
use Rattle.unit_names.specs.Names.{NamedUnit, all_objects, all_callees, main_of, start_of}
use Rattle.unit_passes.specs.declared.units.UnitOf.{UnitOf}
use Rattle.unit_passes.specs.Programs as programs
use Rattle.unit_passes.specs.Units as passes
use Rattle.unit_passes.specs.Units.{FunctionBeside, function_beside}
use Rattle.rtl_lang.specs.declared.syntax.RtlParts.{RtlParts}
use Rattle.rtl_lang.specs.Meaning as rtl
use Rattle.rtl_lang.specs.Meaning.{RtlProgram}
use Rattle.rtl_lang.specs.Units as rtl_units
use Rattle.rtl_lang.specs.Units.{rtl_turns, rtl_after}
use Rattle.ltl_lang.specs.declared.syntax.LtlParts.{LtlParts}
use Rattle.ltl_lang.specs.Meaning as ltl
use Rattle.ltl_lang.specs.Meaning.{LtlProgram}
use Rattle.ltl_lang.specs.Units as ltl_units
use Rattle.ltl_lang.specs.Units.{ltl_turns, ltl_after}
use Rattle.reg_homes.specs.Homes.{Placed}
use Rattle.reg_homes.specs.Relation.{Related, ProgramAlike}
use Rattle.reg_homes.specs.Units.{Matches}
use Rattle.reg_homes.specs.laws.Calling.{main_alike}
use Rattle.reg_homes.specs.laws.Meeting.{measure, each_turn_met}

-- Names

pub part_same : (f : RtlParts) (h : LtlParts) → Placed f h → ltl_units.function_part h ≡ rtl_units.function_part f
part_same f h made =
    ap (λ (k : ℕ). record { symbol = k; is_static = h.is_static; need = h.need }) made.symbol
    ∙ ap (λ (b : Bool). record { symbol = f.symbol; is_static = b; need = h.need }) made.is_static
    ∙ ap (λ (n : ℕ). record { symbol = f.symbol; is_static = f.is_static; need = n }) made.need

pub named_same : (u : UnitOf RtlParts) (v : UnitOf LtlParts) → Matches u v → ltl_units.named v ≡ rtl_units.named u
named_same u v m = passes.named_same rtl_units.function_part ltl_units.function_part (λ (n : Naming) (f : RtlParts) (h : LtlParts). Placed f h) (λ n f h made. part_same f h made) u v m

pub all_named_same : (us : List (UnitOf RtlParts)) (vs : List (UnitOf LtlParts)) → EachMatches Matches us vs → ltl_units.all_named vs ≡ rtl_units.all_named us
all_named_same us vs each = passes.all_named_same rtl_units.function_part ltl_units.function_part (λ (n : Naming) (f : RtlParts) (h : LtlParts). Placed f h) (λ n f h made. part_same f h made) us vs each

-- other units see the same
pub face_same : (u : UnitOf RtlParts) (v : UnitOf LtlParts) → Matches u v → v.naming.face ≡ u.naming.face
face_same u v m = ap (λ (n : Naming). n.face) m.naming

-- Linked units

listed : {F : Type 0} (o : Option (UnitOf F)) (index : ℕ) → option_and_then (λ (fs : List F). slice_get fs index) (option_map (λ (u : UnitOf F). u.functions) o) ≡ option_and_then (λ (u : UnitOf F). slice_get u.functions index) o
listed None index = refl
listed (Some u) index = refl

-- a function of a linked program is one of its units'
function_same : {F : Type 0} (units : List (UnitOf F)) (unit index : ℕ) → option_and_then (λ (fs : List F). slice_get fs index) (slice_get (programs.all_functions units) unit) ≡ passes.function_at units unit index
function_same {F} units unit index =
    ap (λ (o : Option (List F)). option_and_then (λ (fs : List F). slice_get fs index) o) (slice_get-map (λ (u : UnitOf F). u.functions) units unit)
    ∙ listed (slice_get units unit) index

pub programs_alike : (us : List (UnitOf RtlParts)) (vs : List (UnitOf LtlParts)) (room : ℕ) → EachMatches Matches us vs → ProgramAlike (rtl_units.linked us room) (ltl_units.linked vs room)
programs_alike us vs room each = record {
  objects = ap all_objects (all_named_same us vs each);
  callees = ap all_callees (all_named_same us vs each);
  room = refl;
  functions = λ unit index f found.
      let b : FunctionBeside (λ (n : Naming) (f : RtlParts) (h : LtlParts). Placed f h) vs unit index f = function_beside (λ (n : Naming) (f : RtlParts) (h : LtlParts). Placed f h) us vs unit index f each (sym (function_same us unit index) ∙ found) in
      record { there = b.there; found = function_same vs unit index ∙ b.found; made = b.match };
}

-- each turn of Rtl is met
pub units_simulate : (us : List (UnitOf RtlParts)) (vs : List (UnitOf LtlParts)) (room : ℕ) → EachMatches Matches us vs → Simulates (rtl_units.rtl (rtl_units.linked us room)) (ltl_units.ltl (ltl_units.linked vs room)) (RunAlike Related) (run_measure measure)
units_simulate us vs room each =
    let p = rtl_units.linked us room in
    let q = ltl_units.linked vs room in
    turns_simulate Related (rtl_turns p) (ltl_turns q) measure (each_turn_met p q (programs_alike us vs room each))

program_refines : (p : RtlProgram) (q : LtlProgram) (m : Blocks) (o : Option Meaning) (input : List ℕ) → ProgramAlike p q → AreBytes input → Refines (run_of (rtl_units.rtl p) (rtl.begun p m o input)) (run_of (ltl_units.ltl q) (ltl.begun q m o input))
program_refines p q m o input alike bytes =
    turns_refine Related (rtl_turns p) (ltl_turns q) measure (each_turn_met p q alike) (rtl.main_turn p m o) (ltl.main_turn q m o) input (λ sound. main_alike p q alike m o sound) bytes

-- linked units do what those of Rtl do
pub units_refine : (us : List (UnitOf RtlParts)) (vs : List (UnitOf LtlParts)) (room : ℕ) (input : List ℕ) → EachMatches Matches us vs → AreBytes input → Refines (rtl_after us room input) (ltl_after vs room input)
units_refine us vs room input each bytes =
    let p = rtl_units.linked us room in
    let q = ltl_units.linked vs room in
    subst (λ (ns : List NamedUnit). Refines (rtl_after us room input) (run_of (ltl_units.ltl q) (ltl.begun q (start_of ns) (main_of ns) input))) (sym (all_named_same us vs each))
    (program_refines p q (start_of (rtl_units.all_named us)) (main_of (rtl_units.all_named us)) input (programs_alike us vs room each) bytes)
