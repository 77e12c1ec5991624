-- Laws of the step: whatever the bytes are, regions keep their bases, lengths and rights, and a machine that is over stays as it is.
use Rattle.std.specs.Prelude.{◌≡◌, ℕ, ◌*◌, ◌%◌, ◌^◌, List, Option, Some, None, option_map, Result, Ok, Err, IfOk, Bool, true, false, cond, ◌==◌, ◌&&◌, if◌then◌else◌}
use Rattle.std.specs.Int.{w32, cast_unsigned, from_bool}
use Rattle.std.proofs.Common.{refl, sym, ◌∙◌, ap}
use Rattle.std.proofs.lemmas.Bool.{cond_both}
use Rattle.cc_base.specs.Words.{byte_of, sub32}
use Rattle.i386_code.specs.declared.instr.Reg.TheVariants.{Eax, Ecx, Edx, Ebx, Esp}
use Rattle.i386_code.specs.declared.instr.AluOp.{AluOp}
use Rattle.i386_code.specs.declared.instr.Instr.{Instr}
use Rattle.i386_code.specs.declared.instr.Instr.TheVariants as instr
use Rattle.i386_code.specs.declared.instr.Decoded.{Decoded}
use Rattle.i386_code.specs.declared.instr.Decoded.TheVariants.{Is, Short, Unknown}
use Rattle.i386_code.specs.Fields.{sign_extended}
use Rattle.i386_code.specs.Reading.{decoded}
use Rattle.i386_arith.specs.declared.division.Division.{Division}
use Rattle.i386_arith.specs.Words.{complement}
use Rattle.i386_arith.specs.Operations.{operated, shifted}
use Rattle.i386_arith.specs.Division.{divided, signed_divided}
use Rattle.i386_machine.specs.declared.event.Cause.{Cause}
use Rattle.i386_machine.specs.declared.event.Standing.{Standing}
use Rattle.i386_machine.specs.declared.event.Standing.TheVariants as standing
use Rattle.i386_machine.specs.declared.operand.Place.{Place}
use Rattle.i386_machine.specs.declared.operand.Place.TheVariants as places
use Rattle.i386_machine.specs.Regions.{Region, Shape, shapes, writable, fetch, poke, poke_word, byte_at}
use Rattle.i386_machine.specs.laws.Regions.{shapes-poke, shapes-poke_word}
use Rattle.i386_machine.specs.Machine.{State, register, with_register}
use Rattle.i386_machine.specs.Operands.{place_of, accessed, word_in, held_in, byte_in, byte_room, with_regions, with_word, with_byte}
use Rattle.i386_machine.specs.Step.{Doing, Goes, Asks, Gives, Ends, Sticks, given, goes, past, jumped, with_flags, unflagged, pushed, popped, top_word, only_tests, operates, changed, with_division, asked, read_call, write_call, system_call, effect, executed, fetched, doing_at, doing, stepped, step}

-- where an instruction leads, regions have these shapes
abbrev pub LeadsTo : List Shape → Doing → Type 0
LeadsTo ss (Goes after) = shapes after.regions ≡ ss
LeadsTo ss _ = Unit {0}

abbrev HasShapes : List Shape → Result State Cause → Type 0
HasShapes ss r = IfOk r (λ m. shapes m.regions ≡ ss)

given_leads : {A : Type 0} (ss : List Shape) (r : Result A Cause) (go : A → Doing) → ((x : A) → LeadsTo ss (go x)) → LeadsTo ss (given r go)
given_leads ss (Ok x) go h = h x
given_leads ss (Err cause) go h = tt

goes_leads : (ss : List Shape) (r : Result State Cause) → HasShapes ss r → LeadsTo ss (goes r)
goes_leads ss (Ok m) h = h
goes_leads ss (Err cause) h = tt

-- a store keeps shapes
stored_shapes : (m : State) (f : List Region → State) → ((regions : List Region) → (f regions).regions ≡ regions) → (address : ℕ) (b : Bool) (stored : List Region) → shapes stored ≡ shapes m.regions
    → HasShapes (shapes m.regions) (accessed address (option_map f (cond b (Some stored) None)))
stored_shapes m f is address true stored same = ap shapes (is stored) ∙ same
stored_shapes m f is address false stored same = tt

with_word_shapes : (m : State) (place : Place) (word : ℕ) → HasShapes (shapes m.regions) (with_word m place word)
with_word_shapes m (places.Register reg) word = refl
with_word_shapes m (places.Memory address) word = stored_shapes m (λ regions. with_regions m regions) (λ _. refl) address (writable (shapes m.regions) address 4) (poke_word m.regions address word) (shapes-poke_word m.regions address word)

with_byte_shapes : (m : State) (place : Place) (byte : ℕ) → HasShapes (shapes m.regions) (with_byte m place byte)
with_byte_shapes m (places.Register reg) byte = refl
with_byte_shapes m (places.Memory address) byte = stored_shapes m (λ regions. with_regions m regions) (λ _. refl) address (writable (shapes m.regions) address 1) (poke m.regions address (byte_of byte 0)) (shapes-poke m.regions address (byte_of byte 0))

pushed_shapes : (m : State) (word : ℕ) → HasShapes (shapes m.regions) (pushed m word)
pushed_shapes m word =
    let top = sub32 (register m Esp) 4 in
    stored_shapes m (λ regions. with_register (with_regions m regions) Esp top) (λ _. refl) top (writable (shapes m.regions) top 4) (poke_word m.regions top word) (shapes-poke_word m.regions top word)

called_leads : (ss : List Shape) (by : ℕ) (r : Result State Cause) → HasShapes ss r → LeadsTo ss (given r λ after. Goes (jumped by after))
called_leads ss by (Ok m) h = h
called_leads ss by (Err cause) h = tt

changed_leads : (m : State) (place : Place) (f : ℕ → ℕ) → LeadsTo (shapes m.regions) (changed place f m)
changed_leads m place f = given_leads (shapes m.regions) (held_in m place) (λ a. goes (with_word m place (f a))) (λ a. goes_leads (shapes m.regions) (with_word m place (f a)) (with_word_shapes m place (f a)))

operates_leads : (m : State) (b : Bool) (op : AluOp) (place : Place) (word : ℕ) → LeadsTo (shapes m.regions) (operates b op place word m)
operates_leads m true op place word = given_leads (shapes m.regions) (word_in m place) (λ a. Goes (with_flags m (Some (operated op a word).flags))) (λ a. refl)
operates_leads m false op place word =
    given_leads (shapes m.regions) (held_in m place) (λ a. goes (with_word (with_flags m (Some (operated op a word).flags)) place (operated op a word).word))
    (λ a. let n = with_flags m (Some (operated op a word).flags) in goes_leads (shapes m.regions) (with_word n place (operated op a word).word) (with_word_shapes n place (operated op a word).word))

division_leads : (m : State) (d : Option Division) → LeadsTo (shapes m.regions) (with_division d m)
division_leads m None = tt
division_leads m (Some d) = refl

jumped_leads : (m : State) (by : ℕ) (b : Bool) → LeadsTo (shapes m.regions) (Goes (if b then jumped by m else m))
jumped_leads m by true = refl
jumped_leads m by false = refl

read_leads : (ss : List Shape) (address : ℕ) (b : Bool) → LeadsTo ss (read_call address b)
read_leads ss address true = tt
read_leads ss address false = tt

write_leads : (ss : List Shape) (address : ℕ) (o : Option ℕ) → LeadsTo ss (write_call address o)
write_leads ss address None = tt
write_leads ss address (Some byte) = tt

system_leads : (ss : List Shape) (m : State) → LeadsTo ss (system_call m)
system_leads ss m =
    cond_both (register m Eax == 1) _ _ (LeadsTo ss) (λ _. tt) (λ _.
    cond_both (register m Eax == 3 && register m Ebx == 0 && register m Edx == 1) _ _ (LeadsTo ss) (λ _. read_leads ss (register m Ecx) (writable (shapes m.regions) (register m Ecx) 1)) (λ _.
    cond_both (register m Eax == 4 && register m Ebx == 1 && register m Edx == 1) _ _ (LeadsTo ss) (λ _. write_leads ss (register m Ecx) (byte_at m.regions (register m Ecx))) (λ _. tt)))

effect_leads : (i : Instr) (m : State) → LeadsTo (shapes m.regions) (effect i m)
effect_leads (instr.StoreByte to from) m = goes_leads (shapes m.regions) _ (with_byte_shapes m (place_of m to) (register m from % 256))
effect_leads (instr.Store to from) m = goes_leads (shapes m.regions) _ (with_word_shapes m (place_of m to) (register m from))
effect_leads (instr.Load to from) m = given_leads (shapes m.regions) (word_in m (place_of m from)) (λ word. Goes (with_register m to word)) (λ word. refl)
effect_leads (instr.LoadImm to value) m = refl
effect_leads (instr.StoreImm to value) m = goes_leads (shapes m.regions) _ (with_word_shapes m (place_of m to) value)
effect_leads (instr.ZeroByte to from) m = given_leads (shapes m.regions) (byte_in m (place_of m from)) (λ byte. Goes (with_register m to byte)) (λ byte. refl)
effect_leads (instr.SignByte to from) m = given_leads (shapes m.regions) (byte_in m (place_of m from)) (λ byte. Goes (with_register m to (sign_extended byte))) (λ byte. refl)
effect_leads (instr.Lea to from) m = refl
effect_leads (instr.Alu op to from) m = operates_leads m (only_tests op) op (place_of m to) (register m from)
effect_leads (instr.AluImm op to value) m = operates_leads m (only_tests op) op (place_of m to) value
effect_leads (instr.AluShort op to value) m = operates_leads m (only_tests op) op (place_of m to) (cast_unsigned w32 value)
effect_leads (instr.Mul to from) m = given_leads (shapes m.regions) (word_in m (place_of m from)) (λ word. Goes (with_register (unflagged m) to ((register m to * word) % 2 ^ 32))) (λ word. refl)
effect_leads (instr.Not to) m = changed_leads m (place_of m to) complement
effect_leads (instr.Neg to) m = changed_leads (unflagged m) (place_of m to) (sub32 0)
effect_leads (instr.Div to) m = given_leads (shapes m.regions) (word_in m (place_of m to)) (λ word. with_division (divided (register m Edx) (register m Eax) word) m) (λ word. division_leads m (divided (register m Edx) (register m Eax) word))
effect_leads (instr.SignDiv to) m = given_leads (shapes m.regions) (word_in m (place_of m to)) (λ word. with_division (signed_divided (register m Edx) (register m Eax) word) m) (λ word. division_leads m (signed_divided (register m Edx) (register m Eax) word))
effect_leads instr.Cdq m = refl
effect_leads (instr.Shift op to) m = changed_leads (unflagged m) (place_of m to) (λ word. shifted op word (register m Ecx))
effect_leads (instr.Push from) m = goes_leads (shapes m.regions) _ (pushed_shapes m (register m from))
effect_leads (instr.Pop to) m = given_leads (shapes m.regions) (top_word m) (λ word. Goes (with_register (popped m) to word)) (λ word. refl)
effect_leads (instr.Call by) m = called_leads (shapes m.regions) by (pushed m m.eip) (pushed_shapes m m.eip)
effect_leads (instr.Jump by) m = refl
effect_leads (instr.JumpIf cond by) m = given_leads (shapes m.regions) (asked cond m.flags) (λ yes. Goes (if yes then jumped by m else m)) (jumped_leads m by)
effect_leads (instr.JumpShort by) m = refl
effect_leads (instr.JumpIfShort cond by) m = given_leads (shapes m.regions) (asked cond m.flags) (λ yes. Goes (if yes then jumped (cast_unsigned w32 by) m else m)) (jumped_leads m (cast_unsigned w32 by))
effect_leads (instr.SetIf cond to) m =
    given_leads (shapes m.regions) (byte_room m (place_of m to)) (λ _. given (asked cond m.flags) λ yes. goes (with_byte m (place_of m to) (from_bool yes)))
    (λ _. given_leads (shapes m.regions) (asked cond m.flags) (λ yes. goes (with_byte m (place_of m to) (from_bool yes))) (λ yes. goes_leads (shapes m.regions) _ (with_byte_shapes m (place_of m to) (from_bool yes))))
effect_leads instr.Ret m = given_leads (shapes m.regions) (top_word m) (λ word. Goes (record (popped m) { eip = word })) (λ word. refl)
effect_leads (instr.Interrupt number) m = cond_both (number == 128) _ _ (LeadsTo (shapes m.regions)) (λ _. system_leads (shapes m.regions) m) (λ _. tt)

executed_leads : (d : Decoded) (m : State) → LeadsTo (shapes m.regions) (executed d m)
executed_leads (Is i size) m = effect_leads i (past size m)
executed_leads Short m = tt
executed_leads Unknown m = tt

fetched_leads : (o : Option (List ℕ)) (m : State) → LeadsTo (shapes m.regions) (fetched o m)
fetched_leads None m = tt
fetched_leads (Some code) m = executed_leads (decoded code) m

doing_leads : (s : Standing) (m : State) → LeadsTo (shapes m.regions) (doing_at s m)
doing_leads standing.Running m = fetched_leads (fetch m.regions m.eip) m
doing_leads (standing.Ended status) m = tt
doing_leads (standing.Stuck cause) m = tt

pub shapes-stepped : (d : Doing) (m : State) (next : Option ℕ) → LeadsTo (shapes m.regions) d → shapes (stepped d m next).after.regions ≡ shapes m.regions
shapes-stepped (Goes after) m next h = h
shapes-stepped Asks m None h = refl
shapes-stepped Asks m (Some byte) h = shapes-poke m.regions (register m Ecx) byte
shapes-stepped (Gives byte) m next h = refl
shapes-stepped (Ends status) m next h = refl
shapes-stepped (Sticks cause) m next h = refl

-- regions keep their bases, lengths and rights
pub shapes-step : (m : State) (next : Option ℕ) → shapes (step m next).after.regions ≡ shapes m.regions
shapes-step m next = shapes-stepped (doing m) m next (doing_leads m.standing m)

-- a machine that is over
abbrev pub IsOver : Standing → Type 0
IsOver standing.Running = ⊥
IsOver (standing.Ended status) = Unit {0}
IsOver (standing.Stuck cause) = Unit {0}

over_stays : (s : Standing) (m : State) (next : Option ℕ) → m.standing ≡ s → IsOver s → (stepped (doing_at s m) m next).after ≡ m
over_stays standing.Running m next e h = absurd h
over_stays (standing.Ended status) m next e h = ap (λ (x : Standing). record m { standing = x }) (sym e)
over_stays (standing.Stuck cause) m next e h = ap (λ (x : Standing). record m { standing = x }) (sym e)

-- it stays as it is
pub step-over : (m : State) (next : Option ℕ) → IsOver m.standing → (step m next).after ≡ m
step-over m next h = over_stays m.standing m next refl h
