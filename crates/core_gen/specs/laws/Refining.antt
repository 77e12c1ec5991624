-- Core refines the source.
use Rattle.std.specs.Prelude.{◌≡◌, ◌≢◌, ℕ, ◌+◌, Bool, true, false, cond, eqb, nat_le, List, [], length, Option, Some, None}
use Rattle.std.proofs.Common.{refl, sym, subst}
use Rattle.std.proofs.lemmas.Bool.{eqb-true}
use Rattle.cc_base.specs.declared.run.Outcome.TheVariants.{Wrong, Deep}
use Rattle.pass_core.specs.Refines.{Refines}
use Rattle.pass_core.specs.Semantics.{run_of}
use Rattle.pass_core.specs.laws.Simulation.{simulation_from}
use Rattle.block_mem.specs.Blocks.{Blocks}
use Rattle.block_mem.specs.Start.{start}
use Rattle.clight_unit.specs.declared.function.Function.{Function}
use Rattle.clight_sem.specs.declared.destination.Destination.TheVariants as to
use Rattle.unit_names.specs.declared.meaning.Meaning.{Meaning}
use Rattle.unit_names.specs.declared.meaning.Meaning.TheVariants as meaning
use Rattle.clight_sem.specs.Functions.{Linked, all_parts, main_of, function_at}
use Rattle.clight_sem.specs.laws.Growth.{source_steady}
use Rattle.clight_sem.specs.States.{World, On, Ends, Going, seen, wrong}
use Rattle.clight_sem.specs.Turns.{source, begun, with_locals, new_frame, if_room, entered, entered_main, after_turn}
use Rattle.core_lang.specs.declared.syntax.Function.{Function as CoreFunction}
use Rattle.core_lang.specs.Meaning.{World as CoreWorld, need_of, to_do, begun as core_begun, entered as core_entered, first_temporaries as core_first}
use Rattle.pass_core.specs.Turns.{On as core_on, Ends as core_ends, Going as Goes, after_turn as after_step, wrong as core_wrong, if_room as core_if_room}
use Rattle.core_lang.specs.Units.{core as language}
use Rattle.core_lang.specs.laws.Growth.{core_steady}
use Rattle.core_gen.specs.Relation.{body_code, program, core_in, core_world, bottom, Related, going, measure}
use Rattle.core_gen.specs.Units.{base_of}
use Rattle.core_gen.specs.laws.Calling.{Linking, first_fits, body_stands, core_simulates}

room_starts : (c : Linked) (u : World) (cu : CoreWorld) (room : Bool) (input : List ℕ) → (seen (after_turn (cond room (On u) (Ends Deep)) input [])).outcome ≢ Deep → Related c (Going u input []) (Goes cu input []) → Related c (after_turn (cond room (On u) (Ends Deep)) input []) (after_step (cond room (core_on cu) (core_ends Deep)) input [])
room_starts c u cu true input h r = r
room_starts c u cu false input h r = absurd (h refl)

count_starts : (c : Linked) (functions : List (List CoreFunction)) (callees : List (List Meaning)) (m : Blocks) (unit : ℕ) (f : Function) (input : List ℕ) (count : Bool) → eqb 0 (length f.signature.parameters) ≡ count → (seen (after_turn (cond count (if_room c (record { memory = with_locals m 0 0 f.locals; calls = 1; top = new_frame unit f 0 [] to.Nowhere; below = [] })) wrong) input [])).outcome ≢ Wrong → (seen (after_turn (cond count (if_room c (record { memory = with_locals m 0 0 f.locals; calls = 1; top = new_frame unit f 0 [] to.Nowhere; below = [] })) wrong) input [])).outcome ≢ Deep → Related c (after_turn (cond count (if_room c (record { memory = with_locals m 0 0 f.locals; calls = 1; top = new_frame unit f 0 [] to.Nowhere; below = [] })) wrong) input []) (after_step (core_entered (program c functions callees) m 0 unit (Some (core_in c unit f)) [] None []) input [])
count_starts c functions callees m unit f input false e right shallow = absurd (right refl)
count_starts c functions callees m unit f input true e right shallow =
    let u : World = record { memory = with_locals m 0 0 f.locals; calls = 1; top = new_frame unit f 0 [] to.Nowhere; below = [] } in
    let cu = core_world c u (core_first []) (to_do (body_code (base_of f) f.body 0)) None [] in
    subst (λ (b : Bool). Related c (after_turn (if_room c u) input []) (after_step (cond b (core_if_room need_of c.room cu) core_wrong) input [])) (sym e)
    (room_starts c u cu (nat_le (f.need + 0) c.room) input shallow
    (going u (core_first []) (to_do (body_code (base_of f) f.body 0)) None [] input [] (first_fits f [] (eqb-true _ _ e)) (body_stands (base_of f) f.body) (bottom None to.Nowhere)))

function_starts : (c : Linked) (functions : List (List CoreFunction)) (callees : List (List Meaning)) → Linking c functions callees → (m : Blocks) (unit index : ℕ) (o : Option Function) (input : List ℕ) → function_at c.units unit index ≡ o → (seen (after_turn (entered c m 0 unit o [] to.Nowhere []) input [])).outcome ≢ Wrong → (seen (after_turn (entered c m 0 unit o [] to.Nowhere []) input [])).outcome ≢ Deep → Related c (after_turn (entered c m 0 unit o [] to.Nowhere []) input []) (core_begun (program c functions callees) m (Some (meaning.Function unit index)) input)
function_starts c functions callees link m unit index None input e right shallow = absurd (right refl)
function_starts c functions callees link m unit index (Some f) input e right shallow =
    subst (λ (o : Option CoreFunction). Related c (after_turn (entered c m 0 unit (Some f) [] to.Nowhere []) input []) (after_step (core_entered (program c functions callees) m 0 unit o [] None []) input [])) (sym (link.stand unit index f e))
    (count_starts c functions callees m unit f input (eqb 0 (length f.signature.parameters)) refl right shallow)

starts : (c : Linked) (functions : List (List CoreFunction)) (callees : List (List Meaning)) → Linking c functions callees → (o : Option Meaning) (input : List ℕ) → (seen (after_turn (entered_main c o) input [])).outcome ≢ Wrong → (seen (after_turn (entered_main c o) input [])).outcome ≢ Deep → Related c (after_turn (entered_main c o) input []) (core_begun (program c functions callees) (start (all_parts c.units)) o input)
starts c functions callees link None input right shallow = absurd (right refl)
starts c functions callees link (Some (meaning.Function unit index)) input right shallow = function_starts c functions callees link (start (all_parts c.units)) unit index (function_at c.units unit index) input refl right shallow
starts c functions callees link (Some meaning.GetByte) input right shallow = absurd (right refl)
starts c functions callees link (Some meaning.PutByte) input right shallow = absurd (right refl)
starts c functions callees link (Some meaning.Nothing) input right shallow = absurd (right refl)

-- the run of Core refines the source's
pub core_refines : (c : Linked) (functions : List (List CoreFunction)) (callees : List (List Meaning)) → Linking c functions callees → (input : List ℕ) → Refines (run_of (source c) (begun c input)) (run_of (language (program c functions callees)) (core_begun (program c functions callees) (start (all_parts c.units)) (main_of c) input))
core_refines c functions callees link input =
    let p = program c functions callees in
    simulation_from (source c) (language p) (Related c) measure (core_simulates c functions callees link) (source_steady c) (core_steady p) (begun c input) (core_begun p (start (all_parts c.units)) (main_of c) input) 0
    (λ sound. starts c functions callees link (main_of c) input (sound.right 0) (sound.shallow 0))
