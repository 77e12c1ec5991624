-- The image's bytes do what linked units of the second form mean.
use Rattle.std.specs.Prelude.{◌≡◌, ◌≢◌, ℕ, zero, suc, ◌+◌, ◌-◌, ◌*◌, ◌%◌, ◌<◌, ◌≤◌, ◌^◌, List, [], ◌∷◌, ◌++◌, length, Option, Some, None, nat_le, if◌then◌else◌, Bool, true, false}
use Rattle.std.proofs.Common.{arith, ◌∙◌, ap, sym, refl, subst, lit≤, append_assoc, length-append}
use Rattle.std.proofs.lemmas.Bool.{leb-true}
use Rattle.cc_base.specs.Words.{add32, sub32}
use Rattle.cc_base.specs.declared.run.Act.{Act}
use Rattle.cc_base.specs.declared.run.Act.TheVariants.{Gave}
use Rattle.cc_base.specs.declared.run.Outcome.TheVariants as outcome
use Rattle.cc_base.specs.Runs.{State, IsPrefix}
use Rattle.second_form.specs.declared.second_items.SmallStmt.{SmallStmt}
use Rattle.second_form.specs.declared.second_items.SmallStmt.TheVariants.{Put, Call, Return}
use Rattle.second_form.specs.declared.second_items.Item.{Item}
use Rattle.second_form.specs.SecondForm.{EndsReturning}
use Rattle.second_form.specs.SecondRun as second
use Rattle.i386_machine.specs.declared.event.Standing.{Standing}
use Rattle.i386_machine.specs.Runs.{Run, seen_of, outcome_of}
use Rattle.i386_machine.specs.Runs.{after as machine_after}
use Rattle.pass_core.specs.Refines.{Refines}
use Rattle.pass_core.specs.Semantics.{Semantics, Steady, iterate, Met, Simulates}
use Rattle.pass_core.specs.Semantics as semantics
use Rattle.pass_core.specs.laws.Refines.{IsPrefix-refl}
use Rattle.pass_core.specs.laws.Simulation.{simulation_from, iterate-add, iterate-step}
use Rattle.second_code.specs.Code.{Places, statement_size, statement_code, body_code, call_code, putbyte_code}
use Rattle.i386_steps.specs.laws.StackAndCode.{stack_word, stack_word-other, stack_word-same, with_word, with_word-whole, Whole, InStack, Here, skip}
use Rattle.i386_steps.specs.laws.Hops.{hop, run_of, words, machine_at}
use Rattle.second_code.proofs.PutSteps.{put, Room}
use Rattle.second_code.proofs.CallSteps.{call, return, exit, exit_code}
use Rattle.i386_steps.specs.laws.ImageSemantics.{image_semantics, image_steady, after-iterate}

-- a turn takes twelve instructions at most
abbrev pub turn_price : second.Run → ℕ
turn_price (second.Going frames acts) = 12
turn_price (second.Over how acts) = 0

abbrev pub units_semantics : List (List Item) → Semantics second.Run
units_semantics units = record { step = second.turn units; view = second.seen_of; price = turn_price }

-- numbers that are words
abbrev pub NumbersFit : List SmallStmt → Type 0
NumbersFit [] = Unit {0}
NumbersFit (Put n ∷ body) = (n < 2 ^ 32) × NumbersFit body
NumbersFit (Call name ∷ body) = NumbersFit body
NumbersFit (Return n ∷ body) = (n < 2 ^ 32) × NumbersFit body

-- what is left of a body: it ends with a return, and its numbers are words
pub record Good (body : List SmallStmt) : Type 0 where
  pub ends : EndsReturning body
  pub fits : NumbersFit body

-- the code of what is left stands at an address
pub record CodeAt (code : List ℕ) (places : Places) (unit e : ℕ) (body : List SmallStmt) : Type 0 where
  pub rest : List ℕ
  pub here : Here code e (body_code places (places.function unit) e body ++ rest)

-- an active call: what it has left is good, and it needs what every call does
pub record FrameIs (frame : second.Frame) : Type 0 where
  pub good : Good frame.left
  pub need : 64 ≤ frame.need

-- a call that waits for another's return, which goes to where its own code goes on
pub record Waits (code : List ℕ) (places : Places) (frame : second.Frame) (bytes : List ℕ) (esp : ℕ) : Type 0 where
  pub back : ℕ
  pub slot : stack_word bytes esp ≡ back
  pub at : CodeAt code places frame.unit back frame.left
  pub is : FrameIs frame

-- the return addresses from esp upwards: of the calls that wait, and then of the start code
abbrev pub Returns : List ℕ → Places → ℕ → List second.Frame → List ℕ → ℕ → Type 0
Returns code places back [] bytes esp = (esp ≡ 3221225452) × (stack_word bytes esp ≡ back)
Returns code places back (frame ∷ frames) bytes esp = Waits code places frame bytes esp × Returns code places back frames bytes (esp + 4)

-- how many calls wait
returns-esp : (code : List ℕ) (places : Places) (back : ℕ) (frames : List second.Frame) (bytes : List ℕ) (esp : ℕ) → Returns code places back frames bytes esp → (esp + 4 * length frames ≡ 3221225452) × (64 * length frames ≤ second.needs frames)
returns-esp code places back [] bytes esp h = (omega (arith, h.0), omega arith)
returns-esp code places back (frame ∷ frames) bytes esp h =
    let r = returns-esp code places back frames bytes (esp + 4) h.1 in let n = h.0.is.need in
    (omega (arith, r.0), omega (arith, r.1, n))

-- the return addresses stay where a word below them is written
returns-kept : (code : List ℕ) (places : Places) (back : ℕ) (frames : List second.Frame) (old new : List ℕ) (esp : ℕ) → ((b : ℕ) → esp ≤ b → stack_word new b ≡ stack_word old b) → Returns code places back frames old esp → Returns code places back frames new esp
returns-kept code places back [] old new esp same h = (h.0, same esp (omega arith) ∙ h.1)
returns-kept code places back (frame ∷ frames) old new esp same h = (
  record { back = h.0.back; slot = same esp (omega arith) ∙ h.0.slot; at = h.0.at; is = h.0.is },
  returns-kept code places back frames old new (esp + 4) (λ b l. same b (omega arith)) h.1,
)

-- the machine stands where the code of the newest call goes on
pub record AtTurn (code : List ℕ) (places : Places) (back : ℕ) (frame : second.Frame) (frames : List second.Frame) (acts : List Act) (t : Run) : Type 0 where
  pub e : ℕ
  pub eax : ℕ
  pub ecx : ℕ
  pub edx : ℕ
  pub ebx : ℕ
  pub esp : ℕ
  pub ebp : ℕ
  pub esi : ℕ
  pub edi : ℕ
  pub bytes : List ℕ
  pub input : List ℕ
  pub at : CodeAt code places frame.unit e frame.left
  pub frame_is : FrameIs frame
  pub returns : Returns code places back frames bytes esp
  pub room : second.needs (frame ∷ frames) ≤ second.stack_room
  pub whole : Whole bytes
  pub ebx_fits : ebx < 2 ^ 32
  pub is : t ≡ run_of (machine_at code e (words eax ecx edx ebx esp ebp esi edi) bytes) input acts

-- a turn only adds acts
entered_grows : (b : Bool) (frames : List second.Frame) (acts : List Act) → IsPrefix acts (second.seen_of (if b then second.Going frames acts else second.Over outcome.Deep acts)).acts
entered_grows true frames acts = IsPrefix-refl acts
entered_grows false frames acts = IsPrefix-refl acts

called_grows : (o : Option second.Meaning) (frames : List second.Frame) (acts : List Act) → IsPrefix acts (second.seen_of (second.called o frames acts)).acts
called_grows None frames acts = IsPrefix-refl acts
called_grows (Some m) frames acts = entered_grows (nat_le (second.needs (second.frame_of m ∷ frames)) second.stack_room) (second.frame_of m ∷ frames) acts

returned_grows : (n : ℕ) (frames : List second.Frame) (acts : List Act) → IsPrefix acts (second.seen_of (second.returned n frames acts)).acts
returned_grows n [] acts = IsPrefix-refl acts
returned_grows n (frame ∷ frames) acts = IsPrefix-refl acts

fallen_grows : (frames : List second.Frame) (acts : List Act) → IsPrefix acts (second.seen_of (second.fallen frames acts)).acts
fallen_grows [] acts = IsPrefix-refl acts
fallen_grows (frame ∷ frames) acts = IsPrefix-refl acts

body_grows : (units : List (List Item)) (frame : second.Frame) (frames : List second.Frame) (acts : List Act) (body : List SmallStmt) → IsPrefix acts (second.seen_of (second.turn_of units frame frames acts body)).acts
body_grows units frame frames acts [] = fallen_grows frames acts
body_grows units frame frames acts (Put n ∷ left) = record { rest = Gave (n % 256) ∷ []; whole = refl }
body_grows units frame frames acts (Call name ∷ left) = called_grows (second.means units frame.unit name) (record frame { left = left } ∷ frames) acts
body_grows units frame frames acts (Return n ∷ left) = returned_grows n frames acts

turn_grows : (units : List (List Item)) (s : second.Run) → IsPrefix (second.seen_of s).acts (second.seen_of (second.turn units s)).acts
turn_grows units (second.Going [] acts) = IsPrefix-refl acts
turn_grows units (second.Going (frame ∷ frames) acts) = body_grows units frame frames acts frame.left
turn_grows units (second.Over how acts) = IsPrefix-refl acts

turn_stays : (units : List (List Item)) (s : second.Run) → (second.seen_of s).outcome ≢ outcome.Running → second.seen_of (second.turn units s) ≡ second.seen_of s
turn_stays units (second.Going frames acts) h = absurd (h refl)
turn_stays units (second.Over how acts) h = refl

pub units_steady : (units : List (List Item)) → Steady (units_semantics units)
units_steady units = record { grows = turn_grows units; stays = turn_stays units }

-- turns, counted from the outside
pub run_after-iterate : (units : List (List Item)) (n : ℕ) → second.run_after units n ≡ iterate (second.turn units) n (second.begun units)
run_after-iterate units zero = refl
run_after-iterate units (suc n) = ap (second.turn units) (run_after-iterate units n) ∙ iterate-step (second.turn units) n (second.begun units)

-- two runs that are the same after each number of steps
refines_along : (a b a' b' : ℕ → State) → ((n : ℕ) → a n ≡ a' n) → ((n : ℕ) → b n ≡ b' n) → Refines a b → Refines a' b'
refines_along a b a' b' e f h =
    let p : a ≡ a' = λ i n. e n i in let q : b ≡ b' = λ i n. f n i in
    subst (λ (x : ℕ → State). Refines x b') p (subst (λ (x : ℕ → State). Refines a x) q h)

module _ (units : List (List Item)) (places : Places) (code : List ℕ) (back : ℕ) (after behind : List ℕ) (short : length code < 16777216) (putbyte_near : places.putbyte < 2 ^ 32)
    (runtime : Here code places.putbyte (putbyte_code ++ after)) (exit_at : Here code back (exit_code ++ behind))
    (defined : (unit : ℕ) (name : List ℕ) (m : second.Meaning) → second.means units unit name ≡ Some m → Good m.body × (places.function unit name < 2 ^ 32) × CodeAt code places m.unit (places.function unit name) m.body) where
  abbrev Related : second.Run → Run → Type 0
  Related (second.Going [] acts) t = ⊥
  Related (second.Going (frame ∷ frames) acts) t = AtTurn code places back frame frames acts t
  Related (second.Over how acts) t = (seen_of t ≡ second.seen_of (second.Over how acts)) × (how ≢ outcome.Running)

  alike : (s : second.Run) (t : Run) → Related s t → seen_of t ≡ second.seen_of s
  alike (second.Going [] acts) t r = absurd r
  alike (second.Going (frame ∷ frames) acts) t r = ap seen_of r.is
  alike (second.Over how acts) t r = r.0

  -- an address of code is far below 2^32
  near : (e : ℕ) (xs : List ℕ) → Here code e xs → e < 200000000
  near e xs h = let p = h.place_is in let l = ap length h.whole ∙ length-append h.done xs in omega arith

  -- the newest call has room for three words below esp
  room_of : (frame : second.Frame) (frames : List second.Frame) (bytes : List ℕ) (esp : ℕ) → 64 ≤ frame.need → second.needs (frame ∷ frames) ≤ 1048512 → Returns code places back frames bytes esp → (k : ℕ) × (esp ≡ k + 12) × Room k
  room_of frame frames bytes esp n l h =
      let r = returns-esp code places back frames bytes esp h in
      (esp - 12, omega (arith, r.0, r.1), record { low = omega (arith, r.0, r.1); high = omega (arith, r.0) })

  -- a good body
  good_put : (n : ℕ) (left body : List SmallStmt) → body ≡ Put n ∷ left → Good body → (n < 2 ^ 32) × Good left
  good_put n left body e g = let h = subst Good e g in (h.fits.0, record { ends = h.ends; fits = h.fits.1 })

  good_call : (name : List ℕ) (left body : List SmallStmt) → body ≡ Call name ∷ left → Good body → Good left
  good_call name left body e g = let h = subst Good e g in record { ends = h.ends; fits = h.fits }

  good_return : (n : ℕ) (left body : List SmallStmt) → body ≡ Return n ∷ left → Good body → n < 2 ^ 32
  good_return n left body e g = let h = subst Good e g in h.fits.0

  -- the code of the first statement, and behind it that of the rest
  code_of_first : (unit e : ℕ) (statement : SmallStmt) (left body : List SmallStmt) → body ≡ statement ∷ left → (at : CodeAt code places unit e body)
      → Here code e (statement_code places (places.function unit) e statement ++ (body_code places (places.function unit) (e + statement_size statement) left ++ at.rest))
  code_of_first unit e statement left body is at =
      subst (Here code e) (ap (λ (b : List SmallStmt). body_code places (places.function unit) e b ++ at.rest) is
      ∙ append_assoc (statement_code places (places.function unit) e statement) (body_code places (places.function unit) (e + statement_size statement) left) at.rest) at.here

  put_met : (frame : second.Frame) (frames : List second.Frame) (n : ℕ) (left : List SmallStmt) (acts : List Act) (t : Run) → frame.left ≡ Put n ∷ left → AtTurn code places back frame frames acts t
      → AtTurn code places back (record frame { left = left }) frames (acts ++ Gave (n % 256) ∷ []) (iterate hop 12 t)
  put_met frame frames n left acts t e r =
      let good = good_put n left frame.left e r.frame_is.good in
      let h = code_of_first frame.unit r.e (Put n) left frame.left e r.at in
      let far = near r.e _ h in
      let room = room_of frame frames r.bytes r.esp r.frame_is.need r.room r.returns in
      let k = room.0 in
      let rest = body_code places (places.function frame.unit) (r.e + 12) left ++ r.at.rest in
      let w = put code r.bytes places.putbyte r.e k r.eax r.ecx r.edx r.ebx r.ebp r.esi r.edi n rest after r.input acts short r.whole room.2 good.0 r.ebx_fits putbyte_near h (omega arith) runtime in
      record {
        e = r.e + 12;
        eax = w.eax;
        ecx = w.ecx;
        edx = w.edx;
        ebx = w.ebx;
        esp = k + 12;
        ebp = r.ebp;
        esi = r.esi;
        edi = r.edi;
        bytes = w.stack;
        input = r.input;
        at = record { rest = r.at.rest; here = subst (λ (x : ℕ). Here code x rest) w.next_is w.here };
        frame_is = record { good = good.1; need = r.frame_is.need };
        returns = returns-kept code places back frames r.bytes w.stack (k + 12) w.above (subst (Returns code places back frames r.bytes) room.1 r.returns);
        room = r.room;
        whole = w.whole;
        ebx_fits = w.ebx_fits;
        is = ap (iterate hop 12) (r.is ∙ ap (λ (x : ℕ). run_of (machine_at code r.e (words r.eax r.ecx r.edx r.ebx x r.ebp r.esi r.edi) r.bytes) r.input acts) room.1) ∙ w.runs
            ∙ ap (λ (x : ℕ). run_of (machine_at code x (words w.eax w.ecx w.edx w.ebx (k + 12) r.ebp r.esi r.edi) w.stack) r.input (acts ++ Gave (n % 256) ∷ [])) w.next_is;
      }

  call_met : (frame : second.Frame) (frames : List second.Frame) (name : List ℕ) (left : List SmallStmt) (m : second.Meaning) (acts : List Act) (t : Run) → frame.left ≡ Call name ∷ left → second.means units frame.unit name ≡ Some m
      → second.needs (second.frame_of m ∷ record frame { left = left } ∷ frames) ≤ second.stack_room → AtTurn code places back frame frames acts t
      → AtTurn code places back (second.frame_of m) (record frame { left = left } ∷ frames) acts (iterate hop 1 t)
  call_met frame frames name left m acts t e means fits r =
      let good = good_call name left frame.left e r.frame_is.good in
      let h = code_of_first frame.unit r.e (Call name) left frame.left e r.at in
      let far = near r.e _ h in
      let room = room_of frame frames r.bytes r.esp r.frame_is.need r.room r.returns in
      let k = room.0 in let low = room.2.low in let high = room.2.high in
      let target = places.function frame.unit name in
      let there = defined frame.unit name m means in
      let inside : InStack (k + 8) 4 = record { low = omega arith; high = omega arith } in
      let lower : sub32 (k + 12) 4 ≡ k + 8 = omega arith in
      let rest = body_code places (places.function frame.unit) (r.e + 5) left ++ r.at.rest in
      let stack = with_word r.bytes (k + 8) (r.e + 5) in
      let up : k + 8 + 4 ≡ k + 12 = omega arith in
      let behind : add32 r.e 5 ≡ r.e + 5 = omega arith in
      let old = subst (Returns code places back frames r.bytes) room.1 r.returns in
      let kept : Returns code places back frames stack (k + 12) = returns-kept code places back frames r.bytes stack (k + 12) (λ b l. stack_word-other r.bytes (k + 8) (r.e + 5) b inside (omega arith)) old in
      record {
        e = target;
        eax = r.eax;
        ecx = r.ecx;
        edx = r.edx;
        ebx = r.ebx;
        esp = k + 8;
        ebp = r.ebp;
        esi = r.esi;
        edi = r.edi;
        bytes = stack;
        input = r.input;
        at = there.2;
        frame_is = record { good = there.0; need = omega arith };
        returns = (
          record {
            back = r.e + 5;
            slot = stack_word-same r.bytes (k + 8) (r.e + 5) r.whole inside (omega arith);
            at = record { rest = r.at.rest; here = subst (λ (x : ℕ). Here code x rest) behind (skip code r.e (call_code target (r.e + 5)) rest short h) };
            is = record { good = good; need = r.frame_is.need };
          },
          subst (Returns code places back frames stack) (sym up) kept,
        );
        room = fits;
        whole = with_word-whole r.bytes (k + 8) (r.e + 5) r.whole;
        ebx_fits = r.ebx_fits;
        is = ap (iterate hop 1) (r.is ∙ ap (λ (x : ℕ). run_of (machine_at code r.e (words r.eax r.ecx r.edx r.ebx x r.ebp r.esi r.edi) r.bytes) r.input acts) room.1)
            ∙ call code r.bytes r.e (k + 12) (k + 8) r.eax r.ecx r.edx r.ebx r.ebp r.esi r.edi target rest r.input acts short r.whole inside lower there.1 (omega arith) h;
      }

  return_met : (frame next : second.Frame) (frames : List second.Frame) (n : ℕ) (left : List SmallStmt) (acts : List Act) (t : Run) → frame.left ≡ Return n ∷ left → AtTurn code places back frame (next ∷ frames) acts t
      → AtTurn code places back next frames acts (iterate hop 2 t)
  return_met frame next frames n left acts t e r =
      let small = good_return n left frame.left e r.frame_is.good in
      let h = code_of_first frame.unit r.e (Return n) left frame.left e r.at in
      let room = room_of frame (next ∷ frames) r.bytes r.esp r.frame_is.need r.room r.returns in
      let low = room.2.low in let high = room.2.high in let is = room.1 in
      let inside : InStack r.esp 4 = record { low = omega arith; high = omega arith } in
      let w = r.returns.0 in let fits = r.room in
      record {
        e = w.back;
        eax = n;
        ecx = r.ecx;
        edx = r.edx;
        ebx = r.ebx;
        esp = r.esp + 4;
        ebp = r.ebp;
        esi = r.esi;
        edi = r.edi;
        bytes = r.bytes;
        input = r.input;
        at = w.at;
        frame_is = w.is;
        returns = r.returns.1;
        room = omega arith;
        whole = r.whole;
        ebx_fits = r.ebx_fits;
        is = ap (iterate hop 2) r.is ∙ return code r.bytes r.e r.esp r.eax r.ecx r.edx r.ebx r.ebp r.esi r.edi n w.back (body_code places (places.function frame.unit) (r.e + 6) left ++ r.at.rest) r.input acts short r.whole inside small h w.slot;
      }

  exit_met : (frame : second.Frame) (n : ℕ) (left : List SmallStmt) (acts : List Act) (t : Run) → frame.left ≡ Return n ∷ left → AtTurn code places back frame [] acts t
      → seen_of (iterate hop 5 t) ≡ record { outcome = outcome.Ended (n % 256); acts = acts }
  exit_met frame n left acts t e r =
      let small = good_return n left frame.left e r.frame_is.good in
      let h = code_of_first frame.unit r.e (Return n) left frame.left e r.at in
      let room = room_of frame [] r.bytes r.esp r.frame_is.need r.room r.returns in
      let low = room.2.low in let high = room.2.high in let is = room.1 in
      let inside : InStack r.esp 4 = record { low = omega arith; high = omega arith } in
      let there = return code r.bytes r.e r.esp r.eax r.ecx r.edx r.ebx r.ebp r.esi r.edi n back (body_code places (places.function frame.unit) (r.e + 6) left ++ r.at.rest) r.input acts short r.whole inside small h r.returns.1 in
      let w = exit code r.bytes back (r.esp + 4) r.ecx r.edx r.ebx r.ebp r.esi r.edi n behind r.input acts short exit_at in
      ap seen_of (ap (iterate hop 5) r.is ∙ iterate-add hop 2 3 (run_of (machine_at code r.e (words r.eax r.ecx r.edx r.ebx r.esp r.ebp r.esi r.edi) r.bytes) r.input acts) ∙ ap (iterate hop 3) there ∙ w.runs)
      ∙ ap (λ (x : Standing). record { outcome = outcome_of x; acts = acts }) w.ended

  -- some steps lead to a related state, twelve at most
  record Led (s : second.Run) (t : Run) : Type 0 where
    count : ℕ
    relates : Related s (iterate hop count t)
    few : count ≤ 12
    some : count ≢ 0

  entered_met : (frame : second.Frame) (frames : List second.Frame) (name : List ℕ) (left : List SmallStmt) (m : second.Meaning) (acts : List Act) (t : Run) (b : Bool) → frame.left ≡ Call name ∷ left → second.means units frame.unit name ≡ Some m
      → nat_le (second.needs (second.frame_of m ∷ record frame { left = left } ∷ frames)) second.stack_room ≡ b → AtTurn code places back frame frames acts t
      → let next = if b then second.Going (second.frame_of m ∷ record frame { left = left } ∷ frames) acts else second.Over outcome.Deep acts in (second.seen_of next).outcome ≢ outcome.Deep → Led next t
  entered_met frame frames name left m acts t true e means fits r shallow = record { count = 1; relates = call_met frame frames name left m acts t e means (leb-true _ _ fits) r; few = lit≤ tt; some = λ z. cc }
  entered_met frame frames name left m acts t false e means fits r shallow = absurd (shallow refl)

  called_met : (frame : second.Frame) (frames : List second.Frame) (name : List ℕ) (left : List SmallStmt) (o : Option second.Meaning) (acts : List Act) (t : Run) → frame.left ≡ Call name ∷ left → second.means units frame.unit name ≡ o → AtTurn code places back frame frames acts t
      → let next = second.called o (record frame { left = left } ∷ frames) acts in (second.seen_of next).outcome ≢ outcome.Wrong → (second.seen_of next).outcome ≢ outcome.Deep → Led next t
  called_met frame frames name left None acts t e means r right shallow = absurd (right refl)
  called_met frame frames name left (Some m) acts t e means r right shallow = entered_met frame frames name left m acts t (nat_le (second.needs (second.frame_of m ∷ record frame { left = left } ∷ frames)) second.stack_room) e means refl r shallow

  returned_met : (frame : second.Frame) (frames : List second.Frame) (n : ℕ) (left : List SmallStmt) (acts : List Act) (t : Run) → frame.left ≡ Return n ∷ left → AtTurn code places back frame frames acts t → Led (second.returned n frames acts) t
  returned_met frame [] n left acts t e r = record { count = 5; relates = (exit_met frame n left acts t e r, λ x. cc); few = lit≤ tt; some = λ z. cc }
  returned_met frame (next ∷ frames) n left acts t e r = record { count = 2; relates = return_met frame next frames n left acts t e r; few = lit≤ tt; some = λ z. cc }

  body_met : (frame : second.Frame) (frames : List second.Frame) (acts : List Act) (t : Run) (body : List SmallStmt) → frame.left ≡ body → AtTurn code places back frame frames acts t
      → let next = second.turn_of units frame frames acts body in (second.seen_of next).outcome ≢ outcome.Wrong → (second.seen_of next).outcome ≢ outcome.Deep → Led next t
  body_met frame frames acts t [] e r right shallow = absurd (subst EndsReturning e r.frame_is.good.ends)
  body_met frame frames acts t (Put n ∷ left) e r right shallow = record { count = 12; relates = put_met frame frames n left acts t e r; few = lit≤ tt; some = λ z. cc }
  body_met frame frames acts t (Call name ∷ left) e r right shallow = called_met frame frames name left (second.means units frame.unit name) acts t e refl r right shallow
  body_met frame frames acts t (Return n ∷ left) e r right shallow = returned_met frame frames n left acts t e r

  spent : (n : ℕ) (t : Run) → semantics.spent_of image_semantics t n ≡ n
  spent zero t = refl
  spent (suc n) t = let h = spent n (hop t) in omega arith

  meets : (s : second.Run) (t : Run) → Related s t → (second.seen_of s).outcome ≡ outcome.Running → (second.seen_of (second.turn units s)).outcome ≢ outcome.Wrong → (second.seen_of (second.turn units s)).outcome ≢ outcome.Deep
      → Met (units_semantics units) image_semantics Related (λ _. (0, 0)) s (second.turn units s) t
  meets (second.Going [] acts) t r running right shallow = absurd r
  meets (second.Going (frame ∷ frames) acts) t r running right shallow =
      let w : Led (second.turn units (second.Going (frame ∷ frames) acts)) t = body_met frame frames acts t frame.left refl r right shallow in
      record { count = w.count; relates = w.relates; within = let few = w.few in let s = spent w.count t in omega arith; falls = λ none. absurd (w.some none) }
  meets (second.Over how acts) t r running right shallow = absurd (r.1 running)

  module _ (start main_at : ℕ) (from_start : back ≡ start + 5) (start_small : start + 5 < 2 ^ 32) (calls_main : Here code start (call_code main_at (start + 5) ++ (exit_code ++ behind)))
      (main_defined : (m : second.Meaning) → second.main_of units ≡ Some m → Good m.body × (main_at < 2 ^ 32) × CodeAt code places m.unit main_at m.body) (stack : List ℕ) (stack_whole : Whole stack) (input : List ℕ) where
    abbrev first : Run
    first = run_of (machine_at code start (words 0 0 0 0 3221225456 0 0 0) stack) input []

    main_met : (m : second.Meaning) → second.main_of units ≡ Some m → second.needs (second.frame_of m ∷ []) ≤ second.stack_room → AtTurn code places back (second.frame_of m) [] [] (iterate hop 1 first)
    main_met m means fits =
        let there = main_defined m means in
        let inside : InStack 3221225452 4 = record { low = lit≤ tt; high = lit≤ tt } in
        record {
          e = main_at;
          eax = 0;
          ecx = 0;
          edx = 0;
          ebx = 0;
          esp = 3221225452;
          ebp = 0;
          esi = 0;
          edi = 0;
          bytes = with_word stack 3221225452 (start + 5);
          input = input;
          at = there.2;
          frame_is = record { good = there.0; need = omega arith };
          returns = (refl, stack_word-same stack 3221225452 (start + 5) stack_whole inside start_small ∙ sym from_start);
          room = fits;
          whole = with_word-whole stack 3221225452 (start + 5) stack_whole;
          ebx_fits = omega arith;
          is = call code stack start 3221225456 3221225452 0 0 0 0 0 0 0 main_at (exit_code ++ behind) input [] short stack_whole inside refl there.1 start_small calls_main;
        }

    entered_first : (m : second.Meaning) (b : Bool) → second.main_of units ≡ Some m → nat_le (second.needs (second.frame_of m ∷ [])) second.stack_room ≡ b
        → let s = if b then second.Going (second.frame_of m ∷ []) [] else second.Over outcome.Deep [] in (second.seen_of s).outcome ≢ outcome.Deep → Related s (iterate hop 1 first)
    entered_first m true means fits shallow = main_met m means (leb-true _ _ fits)
    entered_first m false means fits shallow = absurd (shallow refl)

    begun_met : (o : Option second.Meaning) → second.main_of units ≡ o → let s = second.called o [] [] in (second.seen_of s).outcome ≢ outcome.Wrong → (second.seen_of s).outcome ≢ outcome.Deep → Related s (iterate hop 1 first)
    begun_met None means right shallow = absurd (right refl)
    begun_met (Some m) means right shallow = entered_first m (nat_le (second.needs (second.frame_of m ∷ [])) second.stack_room) means refl shallow

    -- the machine at the start code does what the linked units mean
    pub second_refines : Refines (second.second_after units) (λ n. seen_of (machine_after (machine_at code start (words 0 0 0 0 3221225456 0 0 0) stack) input n))
    second_refines =
        refines_along (semantics.run_of (units_semantics units) (second.begun units)) (semantics.run_of image_semantics first) (second.second_after units) (λ n. seen_of (machine_after (machine_at code start (words 0 0 0 0 3221225456 0 0 0) stack) input n))
        (λ n. ap second.seen_of (sym (run_after-iterate units n)))
        (λ n. ap seen_of (sym (after-iterate (machine_at code start (words 0 0 0 0 3221225456 0 0 0) stack) input n)))
        (simulation_from (units_semantics units) image_semantics Related (λ _. (0, 0)) (record { alike = alike; meets = meets }) (units_steady units) image_steady (second.begun units) first 1
        (λ sound. begun_met (second.main_of units) refl (sound.right 0) (sound.shallow 0)))
