-- The steps of a call, of a return, and of the return of `main`, which ends the run.
use Rattle.std.specs.Prelude.{◌≡◌, ℕ, ◌+◌, ◌%◌, ◌<◌, ◌^◌, List, [], ◌∷◌, ◌++◌, length}
use Rattle.std.proofs.Common.{arith, ◌∙◌, ap, refl}
use Rattle.cc_base.specs.Words.{word_bytes, join-word_bytes, add32, sub32}
use Rattle.cc_base.specs.declared.run.Act.{Act}
use Rattle.i386_code.specs.declared.instr.Reg.TheVariants.{Eax, Ebx}
use Rattle.i386_code.specs.declared.instr.Rm.TheVariants as rms
use Rattle.i386_code.specs.declared.instr.Instr.TheVariants as instr
use Rattle.i386_code.specs.declared.instr.Decoded.TheVariants.{Is}
use Rattle.i386_machine.specs.declared.event.Standing.TheVariants.{Ended}
use Rattle.i386_machine.specs.Machine.{State}
use Rattle.i386_machine.specs.Step.{Goes, Ends, doing}
use Rattle.i386_machine.specs.Runs.{Run}
use Rattle.pass_core.specs.Semantics.{iterate}
use Rattle.second_code.specs.Code.{call_code}
use Rattle.i386_steps.specs.laws.StackAndCode.{stack_word, with_word, Whole, InStack, Here, skip}
use Rattle.i386_steps.specs.laws.Spellings.{load_eax, eax_to_ebx, call_by, return_from, interrupt}
use Rattle.i386_steps.specs.laws.Hops.{hop, hop-goes, hop-ends, one_more, run_of, words, machine_at, doing-here, calls, reads}
use Rattle.second_code.proofs.PutSteps.{lands, distance_small}

some : (x : ℕ) (xs : List ℕ) → 0 < length (x ∷ xs)
some x xs = omega arith

-- mov eax, n; ret
abbrev pub return_code : ℕ → List ℕ
return_code n = (0xb8 ∷ word_bytes n) ++ (0xc3 ∷ [])

-- mov ebx, eax; mov eax, 1; int 0x80
abbrev pub exit_code : List ℕ
exit_code = 0x89 ∷ 0xc3 ∷ 0xb8 ∷ 1 ∷ 0 ∷ 0 ∷ 0 ∷ 0xcd ∷ 0x80 ∷ []

-- one step calls the function at the target
pub call : (code bytes : List ℕ) (e esp top a c d b p q r target : ℕ) (rest left : List ℕ) (acts : List Act) → length code < 16777216 → Whole bytes → InStack top 4 → sub32 esp 4 ≡ top → target < 2 ^ 32 → e + 5 < 2 ^ 32
    → Here code e (call_code target (e + 5) ++ rest)
    → iterate hop 1 (run_of (machine_at code e (words a c d b esp p q r) bytes) left acts) ≡ run_of (machine_at code target (words a c d b top p q r) (with_word bytes top (e + 5))) left acts
call code bytes e esp top a c d b p q r target rest left acts short whole inside lower near small h =
    let by = sub32 target (e + 5) in
    let back : add32 e 5 ≡ e + 5 = omega arith in
    let m_0 = machine_at code e (words a c d b esp p q r) bytes in
    let m_1 = machine_at code target (words a c d b top p q r) (with_word bytes top (e + 5)) in
    let d_0 : doing m_0 ≡ Goes m_1 =
    calls code bytes e a c d b esp p q r top by ((0xe8 ∷ word_bytes by) ++ rest) (some 0xe8 (word_bytes by ++ rest)) h (call_by _ _ _ _ rest ∙ ap (λ (v : ℕ). Is (instr.Call v) 5) (join-word_bytes by (distance_small target (e + 5)))) whole inside lower
    ∙ ap (λ (x : ℕ). Goes (machine_at code (add32 x by) (words a c d b top p q r) (with_word bytes top x))) back
    ∙ ap (λ (x : ℕ). Goes (machine_at code x (words a c d b top p q r) (with_word bytes top (e + 5)))) (lands (e + 5) target small near) in
    one_more hop 0 (run_of m_0 left acts) (run_of m_1 left acts) (run_of m_1 left acts) (hop-goes m_0 m_1 left acts d_0) refl

-- two steps return to the caller
pub return : (code bytes : List ℕ) (e esp a c d b p q r n back : ℕ) (rest left : List ℕ) (acts : List Act) → length code < 16777216 → Whole bytes → InStack esp 4 → n < 2 ^ 32
    → Here code e (return_code n ++ rest) → stack_word bytes esp ≡ back
    → iterate hop 2 (run_of (machine_at code e (words a c d b esp p q r) bytes) left acts) ≡ run_of (machine_at code back (words n c d b (esp + 4) p q r) bytes) left acts
return code bytes e esp a c d b p q r n back rest left acts short whole inside small h slot =
    let low = inside.low in let high = inside.high in
    let up : add32 esp 4 ≡ esp + 4 = omega arith in
    let e_1 = add32 e 5 in
    let h_1 : Here code e_1 (0xc3 ∷ rest) = skip code e (0xb8 ∷ word_bytes n) (0xc3 ∷ rest) short h in
    let m_0 = machine_at code e (words a c d b esp p q r) bytes in
    let m_1 = machine_at code e_1 (words n c d b esp p q r) bytes in
    let m_2 = machine_at code back (words n c d b (esp + 4) p q r) bytes in
    let d_0 : doing m_0 ≡ Goes m_1 = doing-here code bytes (words a c d b esp p q r) e (instr.LoadImm Eax n) 5 (return_code n ++ rest) (some 0xb8 (word_bytes n ++ (0xc3 ∷ rest))) h (load_eax _ _ _ _ (0xc3 ∷ rest) ∙ ap (λ (v : ℕ). Is (instr.LoadImm Eax v) 5) (join-word_bytes n small)) in
    let d_1 : doing m_1 ≡ Goes m_2 =
    reads code bytes (words n c d b esp p q r) e_1 instr.Ret 1 (0xc3 ∷ rest) esp (λ w. machine_at code w (words n c d b (add32 esp 4) p q r) bytes) (some 0xc3 rest) h_1 (return_from rest) whole inside refl
    ∙ ap (λ (w : ℕ). Goes (machine_at code w (words n c d b (add32 esp 4) p q r) bytes)) slot
    ∙ ap (λ (x : ℕ). Goes (machine_at code back (words n c d b x p q r) bytes)) up in
    one_more hop 1 (run_of m_0 left acts) (run_of m_1 left acts) (run_of m_2 left acts) (hop-goes m_0 m_1 left acts d_0)
    (one_more hop 0 (run_of m_1 left acts) (run_of m_2 left acts) (run_of m_2 left acts) (hop-goes m_1 m_2 left acts d_1) refl)

-- three steps end the run with the low byte of what `main` returned
pub record Exits (n : ℕ) (left : List ℕ) (acts : List Act) (from : Run) : Type 0 where
  pub machine : State
  pub ended : machine.standing ≡ Ended (n % 256)
  pub runs : iterate hop 3 from ≡ run_of machine left acts

pub exit : (code bytes : List ℕ) (e esp c d b p q r n : ℕ) (rest left : List ℕ) (acts : List Act) → length code < 16777216 → Here code e (exit_code ++ rest)
    → Exits n left acts (run_of (machine_at code e (words n c d b esp p q r) bytes) left acts)
exit code bytes e esp c d b p q r n rest left acts short h =
    let e_1 = add32 e 2 in let e_2 = add32 e_1 5 in
    let h_1 : Here code e_1 (0xb8 ∷ 1 ∷ 0 ∷ 0 ∷ 0 ∷ 0xcd ∷ 0x80 ∷ rest) = skip code e (0x89 ∷ 0xc3 ∷ []) (0xb8 ∷ 1 ∷ 0 ∷ 0 ∷ 0 ∷ 0xcd ∷ 0x80 ∷ rest) short h in
    let h_2 : Here code e_2 (0xcd ∷ 0x80 ∷ rest) = skip code e_1 (0xb8 ∷ 1 ∷ 0 ∷ 0 ∷ 0 ∷ []) (0xcd ∷ 0x80 ∷ rest) short h_1 in
    let m_0 = machine_at code e (words n c d b esp p q r) bytes in
    let m_1 = machine_at code e_1 (words n c d n esp p q r) bytes in
    let m_2 = machine_at code e_2 (words 1 c d n esp p q r) bytes in
    let d_0 : doing m_0 ≡ Goes m_1 = doing-here code bytes (words n c d b esp p q r) e (instr.Store (rms.Reg Ebx) Eax) 2 (exit_code ++ rest) (some 0x89 (0xc3 ∷ 0xb8 ∷ 1 ∷ 0 ∷ 0 ∷ 0 ∷ 0xcd ∷ 0x80 ∷ rest)) h (eax_to_ebx (0xb8 ∷ 1 ∷ 0 ∷ 0 ∷ 0 ∷ 0xcd ∷ 0x80 ∷ rest)) in
    let d_1 : doing m_1 ≡ Goes m_2 = doing-here code bytes (words n c d n esp p q r) e_1 (instr.LoadImm Eax 1) 5 (0xb8 ∷ 1 ∷ 0 ∷ 0 ∷ 0 ∷ 0xcd ∷ 0x80 ∷ rest) (some 0xb8 (1 ∷ 0 ∷ 0 ∷ 0 ∷ 0xcd ∷ 0x80 ∷ rest)) h_1 (load_eax 1 0 0 0 (0xcd ∷ 0x80 ∷ rest)) in
    let d_2 : doing m_2 ≡ Ends (n % 256) = doing-here code bytes (words 1 c d n esp p q r) e_2 (instr.Interrupt 128) 2 (0xcd ∷ 0x80 ∷ rest) (some 0xcd (0x80 ∷ rest)) h_2 (interrupt 128 rest) in
    let end : State = record m_2 { standing = Ended (n % 256) } in
    record {
      machine = end;
      ended = refl;
      runs =
          one_more hop 2 (run_of m_0 left acts) (run_of m_1 left acts) (run_of end left acts) (hop-goes m_0 m_1 left acts d_0)
          (one_more hop 1 (run_of m_1 left acts) (run_of m_2 left acts) (run_of end left acts) (hop-goes m_1 m_2 left acts d_1)
          (one_more hop 0 (run_of m_2 left acts) (run_of end left acts) (run_of end left acts) (hop-ends m_2 (n % 256) left acts d_2) refl));
    }
