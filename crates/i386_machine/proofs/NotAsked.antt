-- Only a system call asks for a byte.
use Rattle.std.proofs.Common.{◌≡◌, ℕ, ◌*◌, ◌%◌, ◌^◌, Bool, true, false, cond, ◌==◌, List, Option, Some, None, option_map, ap, ◌∙◌, Result, Ok, Err, if◌then◌else◌, subst, sym, w32}
use Rattle.std.proofs.lemmas.Bool.{cond-false}
use Rattle.std.specs.Int.{cast_unsigned, from_bool}
use Rattle.cc_base.specs.Words.{sub32}
use Rattle.i386_code.specs.declared.instr.Reg.TheVariants.{Eax, Ecx, Edx}
use Rattle.i386_code.specs.declared.instr.AluOp.{AluOp}
use Rattle.i386_code.specs.declared.instr.Instr.{Instr}
use Rattle.i386_code.specs.declared.instr.Instr.TheVariants as instr
use Rattle.i386_code.specs.declared.instr.Decoded.{Decoded}
use Rattle.i386_code.specs.declared.instr.Decoded.TheVariants.{Is}
use Rattle.i386_code.specs.Fields.{sign_extended}
use Rattle.i386_code.specs.Reading.{decoded}
use Rattle.i386_arith.specs.declared.division.Division.{Division}
use Rattle.i386_arith.specs.Words.{complement}
use Rattle.i386_arith.specs.Operations.{operated, shifted}
use Rattle.i386_arith.specs.Division.{divided, signed_divided}
use Rattle.i386_machine.specs.declared.event.Cause.{Cause}
use Rattle.i386_machine.specs.declared.event.Cause.TheVariants as cause
use Rattle.i386_machine.specs.declared.event.Standing.{Standing}
use Rattle.i386_machine.specs.declared.event.Standing.TheVariants as standing
use Rattle.i386_machine.specs.declared.operand.Place.{Place}
use Rattle.i386_machine.specs.Regions.{fetch}
use Rattle.i386_machine.specs.Machine.{State, register, with_register}
use Rattle.i386_machine.specs.Operands.{place_of, word_in, held_in, byte_in, byte_room, with_word, with_byte}
use Rattle.i386_machine.specs.Pending.{runs, is_system_call}
use Rattle.i386_machine.specs.Step.{Doing, Goes, Asks, Sticks, given, goes, past, jumped, with_flags, unflagged, pushed, popped, top_word, only_tests, operates, changed, with_division, asked, system_call, effect, executed, fetched, doing_at, doing}

abbrev AsksNothing : Doing → Type 0
AsksNothing Asks = ⊥
AsksNothing _ = Unit {0}

given_none : {A : Type 0} (r : Result A Cause) (go : A → Doing) → ((x : A) → AsksNothing (go x)) → AsksNothing (given r go)
given_none (Ok x) go h = h x
given_none (Err cause) go h = tt

goes_none : (r : Result State Cause) → AsksNothing (goes r)
goes_none (Ok m) = tt
goes_none (Err cause) = tt

operates_none : (b : Bool) (op : AluOp) (place : Place) (word : ℕ) (m : State) → AsksNothing (operates b op place word m)
operates_none true op place word m = given_none (word_in m place) (λ a. Goes (with_flags m (Some (operated op a word).flags))) (λ a. tt)
operates_none false op place word m = given_none (held_in m place) (λ a. goes (with_word (with_flags m (Some (operated op a word).flags)) place (operated op a word).word)) (λ a. goes_none (with_word (with_flags m (Some (operated op a word).flags)) place (operated op a word).word))

changed_none : (place : Place) (f : ℕ → ℕ) (m : State) → AsksNothing (changed place f m)
changed_none place f m = given_none (held_in m place) (λ a. goes (with_word m place (f a))) (λ a. goes_none (with_word m place (f a)))

division_none : (d : Option Division) (m : State) → AsksNothing (with_division d m)
division_none None m = tt
division_none (Some d) m = tt

effect_none : (i : Instr) (m : State) → is_system_call i ≡ false → AsksNothing (effect i m)
effect_none (instr.StoreByte to from) m h = goes_none (with_byte m (place_of m to) (register m from % 256))
effect_none (instr.Store to from) m h = goes_none (with_word m (place_of m to) (register m from))
effect_none (instr.Load to from) m h = given_none (word_in m (place_of m from)) (λ word. Goes (with_register m to word)) (λ word. tt)
effect_none (instr.LoadImm to value) m h = tt
effect_none (instr.StoreImm to value) m h = goes_none (with_word m (place_of m to) value)
effect_none (instr.ZeroByte to from) m h = given_none (byte_in m (place_of m from)) (λ byte. Goes (with_register m to byte)) (λ byte. tt)
effect_none (instr.SignByte to from) m h = given_none (byte_in m (place_of m from)) (λ byte. Goes (with_register m to (sign_extended byte))) (λ byte. tt)
effect_none (instr.Lea to from) m h = tt
effect_none (instr.Alu op to from) m h = operates_none (only_tests op) op (place_of m to) (register m from) m
effect_none (instr.AluImm op to value) m h = operates_none (only_tests op) op (place_of m to) value m
effect_none (instr.AluShort op to value) m h = operates_none (only_tests op) op (place_of m to) (cast_unsigned w32 value) m
effect_none (instr.Mul to from) m h = given_none (word_in m (place_of m from)) (λ word. Goes (with_register (unflagged m) to ((register m to * word) % 2 ^ 32))) (λ word. tt)
effect_none (instr.Not to) m h = changed_none (place_of m to) complement m
effect_none (instr.Neg to) m h = changed_none (place_of m to) (sub32 0) (unflagged m)
effect_none (instr.Div to) m h = given_none (word_in m (place_of m to)) (λ word. with_division (divided (register m Edx) (register m Eax) word) m) (λ word. division_none (divided (register m Edx) (register m Eax) word) m)
effect_none (instr.SignDiv to) m h = given_none (word_in m (place_of m to)) (λ word. with_division (signed_divided (register m Edx) (register m Eax) word) m) (λ word. division_none (signed_divided (register m Edx) (register m Eax) word) m)
effect_none instr.Cdq m h = tt
effect_none (instr.Shift op to) m h = changed_none (place_of m to) (λ word. shifted op word (register m Ecx)) (unflagged m)
effect_none (instr.Push from) m h = goes_none (pushed m (register m from))
effect_none (instr.Pop to) m h = given_none (top_word m) (λ word. Goes (with_register (popped m) to word)) (λ word. tt)
effect_none (instr.Call by) m h = given_none (pushed m m.eip) (λ after. Goes (jumped by after)) (λ after. tt)
effect_none (instr.Jump by) m h = tt
effect_none (instr.JumpIf cond by) m h = given_none (asked cond m.flags) (λ yes. Goes (if yes then jumped by m else m)) (λ yes. tt)
effect_none (instr.JumpShort by) m h = tt
effect_none (instr.JumpIfShort cond by) m h = given_none (asked cond m.flags) (λ yes. Goes (if yes then jumped (cast_unsigned w32 by) m else m)) (λ yes. tt)
effect_none (instr.SetIf cond to) m h =
    given_none (byte_room m (place_of m to)) (λ _. given (asked cond m.flags) λ yes. goes (with_byte m (place_of m to) (from_bool yes)))
    (λ _. given_none (asked cond m.flags) (λ yes. goes (with_byte m (place_of m to) (from_bool yes))) (λ yes. goes_none (with_byte m (place_of m to) (from_bool yes))))
effect_none instr.Ret m h = given_none (top_word m) (λ word. Goes (record (popped m) { eip = word })) (λ word. tt)
effect_none (instr.Interrupt number) m h = subst AsksNothing (sym (cond-false (number == 128) (system_call m) (Sticks cause.System) h)) tt

not_asked : (i : Instr) (m : State) → is_system_call i ≡ false → effect i m ≡ Asks → ⊥
not_asked i m h e = subst AsksNothing e (effect_none i m h)

fetched_is : (o : Option (List ℕ)) (m : State) (d : Decoded) → option_map decoded o ≡ Some d → fetched o m ≡ executed d m
fetched_is None m d e = cc
fetched_is (Some code) m d e = let same : decoded code ≡ d = cc in ap (λ (x : Decoded). executed x m) same

at_standing : (s : Standing) (m : State) (i : Instr) (size : ℕ) → runs s ≡ true → option_map decoded (fetch m.regions m.eip) ≡ Some (Is i size) → is_system_call i ≡ false → doing_at s m ≡ Asks → ⊥
at_standing standing.Running m i size r f h e = not_asked i (past size m) h (sym (fetched_is (fetch m.regions m.eip) m (Is i size) f) ∙ e)
at_standing (standing.Ended status) m i size r f h e = cc
at_standing (standing.Stuck cause) m i size r f h e = cc

pub no_read : (m : State) (i : Instr) (size : ℕ) → runs m.standing ≡ true → option_map decoded (fetch m.regions m.eip) ≡ Some (Is i size) → is_system_call i ≡ false → doing m ≡ Asks → ⊥
no_read m i size r f h e = at_standing m.standing m i size r f h e
