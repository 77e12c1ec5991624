-- The twelve steps of one `putbyte`, with the call of the runtime's function.
use Rattle.std.specs.Prelude.{◌≡◌, ℕ, ◌+◌, ◌%◌, ◌<◌, ◌≤◌, ◌^◌, List, [], ◌∷◌, ◌++◌, length, Some, None}
use Rattle.std.proofs.Common.{arith, ◌∙◌, ap, sym, refl, subst}
use Rattle.cc_base.specs.Words.{word_bytes, join-word_bytes, add32, sub32}
use Rattle.cc_base.specs.declared.run.Act.{Act}
use Rattle.cc_base.specs.declared.run.Act.TheVariants.{Gave}
use Rattle.i386_code.specs.declared.instr.Reg.TheVariants.{Eax, Ecx, Edx, Ebx, Esp}
use Rattle.i386_code.specs.declared.instr.Instr.TheVariants as instr
use Rattle.i386_code.specs.declared.instr.Decoded.TheVariants.{Is}
use Rattle.i386_machine.specs.Step.{Goes, Gives, doing, write_call}
use Rattle.i386_machine.specs.Runs.{Run}
use Rattle.pass_core.specs.Semantics.{iterate}
use Rattle.second_code.specs.Code.{call_code, putbyte_code}
use Rattle.i386_steps.specs.laws.StackAndCode.{stack_word, stack_word-other, byte-other, with_word, with_word-whole, Whole, InStack, byte_at-stack, low_byte-with_word, stack_word-same, Here, skip}
use Rattle.i386_steps.specs.laws.Spellings.{load_eax, load_edx, load_ebx, lea_ecx, push_eax, push_ebx, pop_eax, pop_ebx, call_by, return_from, interrupt}
use Rattle.i386_steps.specs.laws.Hops.{hop, hop-goes, hop-gives, one_more, run_of, words, machine_at, doing-here, pushes, calls, reads}

some : (x : ℕ) (xs : List ℕ) → 0 < length (x ∷ xs)
some x xs = omega arith

-- three words of the stack from an address on, with a word above them
pub record Room (k : ℕ) : Type 0 where
  pub low : 3220176896 ≤ k
  pub high : k + 16 ≤ 3221225472

at_0 : (k : ℕ) → Room k → InStack k 4
at_0 k h = record { low = h.low; high = let p = h.high in omega arith }

at_4 : (k : ℕ) → Room k → InStack (k + 4) 4
at_4 k h = record { low = let p = h.low in omega arith; high = let p = h.high in omega arith }

at_8 : (k : ℕ) → Room k → InStack (k + 8) 4
at_8 k h = record { low = let p = h.low in omega arith; high = let p = h.high in omega arith }

byte_8 : (k : ℕ) → Room k → InStack (k + 8) 1
byte_8 k h = record { low = let p = h.low in omega arith; high = let p = h.high in omega arith }

-- where a call lands
pub lands : (end target : ℕ) → end < 2 ^ 32 → target < 2 ^ 32 → add32 end (sub32 target end) ≡ target
lands end target h k = omega arith

pub end_small : (e n : ℕ) → add32 e n < 2 ^ 32
end_small e n = omega arith

pub distance_small : (target end : ℕ) → sub32 target end < 2 ^ 32
distance_small target end = omega arith

-- what comes after each instruction of the runtime's function
abbrev in_7 : List ℕ
in_7 = 0xc3 ∷ []

abbrev in_6 : List ℕ
in_6 = 0x5b ∷ in_7

abbrev in_5 : List ℕ
in_5 = 0xcd ∷ 0x80 ∷ in_6

abbrev in_4 : List ℕ
in_4 = 0xb8 ∷ 4 ∷ 0 ∷ 0 ∷ 0 ∷ in_5

abbrev in_3 : List ℕ
in_3 = 0xba ∷ 1 ∷ 0 ∷ 0 ∷ 0 ∷ in_4

abbrev in_2 : List ℕ
in_2 = 0x8d ∷ 0x4c ∷ 0x24 ∷ 8 ∷ in_3

abbrev in_1 : List ℕ
in_1 = 0xbb ∷ 1 ∷ 0 ∷ 0 ∷ 0 ∷ in_2

-- how a put is called
abbrev pub put_code : ℕ → ℕ → ℕ → List ℕ
put_code putbyte e n = (0xb8 ∷ word_bytes n) ++ ((0x50 ∷ []) ++ (call_code putbyte (e + 11) ++ (0x58 ∷ [])))

-- the byte is emitted, and all but the stack below its top and the registers that a call may change is as before
pub record Put (code bytes : List ℕ) (e k n : ℕ) (p q r : ℕ) (rest left : List ℕ) (acts : List Act) (from : Run) : Type 0 where
  pub next : ℕ
  pub eax : ℕ
  pub ecx : ℕ
  pub edx : ℕ
  pub ebx : ℕ
  pub stack : List ℕ
  pub next_is : next ≡ e + 12
  pub here : Here code next rest
  pub whole : Whole stack
  pub ebx_fits : ebx < 2 ^ 32
  pub above : (b : ℕ) → k + 12 ≤ b → stack_word stack b ≡ stack_word bytes b
  pub runs : iterate hop 12 from ≡ run_of (machine_at code next (words eax ecx edx ebx (k + 12) p q r) stack) left (acts ++ Gave (n % 256) ∷ [])

pub put : (code bytes : List ℕ) (putbyte e k a c d b p q r n : ℕ) (rest after left : List ℕ) (acts : List Act) → length code < 16777216 → Whole bytes → Room k → n < 2 ^ 32 → b < 2 ^ 32 → putbyte < 2 ^ 32
    → Here code e (put_code putbyte e n ++ rest) → e + 12 < 2 ^ 32 → Here code putbyte (putbyte_code ++ after)
    → Put code bytes e k n p q r rest left acts (run_of (machine_at code e (words a c d b (k + 12) p q r) bytes) left acts)
put code bytes putbyte e k a c d b p q r n rest after left acts short whole room small b_small near h e_small there =
    let e_1 = add32 e 5 in let e_2 = add32 e_1 1 in let back = add32 e_2 5 in let by = sub32 putbyte (e + 11) in
    let in_at = add32 putbyte 1 in let in_bt = add32 in_at 5 in let in_ct = add32 in_bt 4 in let in_dt = add32 in_ct 5 in let in_et = add32 in_dt 5 in let in_ft = add32 in_et 2 in let in_gt = add32 in_ft 1 in
    let next = add32 back 1 in
    let low = room.low in let high = room.high in
    let back_is : back ≡ e + 11 = omega arith in
    let s_8 : sub32 (k + 12) 4 ≡ k + 8 = omega arith in
    let s_4 : sub32 (k + 8) 4 ≡ k + 4 = omega arith in
    let s_0 : sub32 (k + 4) 4 ≡ k = omega arith in
    let u_4 : add32 k 4 ≡ k + 4 = omega arith in
    let u_8 : add32 (k + 4) 4 ≡ k + 8 = omega arith in
    let u_12 : add32 (k + 8) 4 ≡ k + 12 = omega arith in
    let v_8 : (k + 0 + 8) % 2 ^ 32 ≡ k + 8 = omega arith in
    let landed : add32 back by ≡ putbyte = ap (λ (x : ℕ). add32 x by) back_is ∙ lands (e + 11) putbyte (omega arith) near in
    let call_rest = 0x58 ∷ rest in
    let h_1 : Here code e_1 (0x50 ∷ ((0xe8 ∷ word_bytes by) ++ call_rest)) = skip code e (0xb8 ∷ word_bytes n) (0x50 ∷ ((0xe8 ∷ word_bytes by) ++ call_rest)) short h in
    let h_2 : Here code e_2 ((0xe8 ∷ word_bytes by) ++ call_rest) = skip code e_1 (0x50 ∷ []) ((0xe8 ∷ word_bytes by) ++ call_rest) short h_1 in
    let h_3 : Here code back call_rest = skip code e_2 (0xe8 ∷ word_bytes by) call_rest short h_2 in
    let h_4 : Here code next rest = skip code back (0x58 ∷ []) rest short h_3 in
    let t_1 : Here code in_at (in_1 ++ after) = skip code putbyte (0x53 ∷ []) (in_1 ++ after) short there in
    let t_2 : Here code in_bt (in_2 ++ after) = skip code in_at (0xbb ∷ 1 ∷ 0 ∷ 0 ∷ 0 ∷ []) (in_2 ++ after) short t_1 in
    let t_3 : Here code in_ct (in_3 ++ after) = skip code in_bt (0x8d ∷ 0x4c ∷ 0x24 ∷ 8 ∷ []) (in_3 ++ after) short t_2 in
    let t_4 : Here code in_dt (in_4 ++ after) = skip code in_ct (0xba ∷ 1 ∷ 0 ∷ 0 ∷ 0 ∷ []) (in_4 ++ after) short t_3 in
    let t_5 : Here code in_et (in_5 ++ after) = skip code in_dt (0xb8 ∷ 4 ∷ 0 ∷ 0 ∷ 0 ∷ []) (in_5 ++ after) short t_4 in
    let t_6 : Here code in_ft (in_6 ++ after) = skip code in_et (0xcd ∷ 0x80 ∷ []) (in_6 ++ after) short t_5 in
    let t_7 : Here code in_gt (in_7 ++ after) = skip code in_ft (0x5b ∷ []) (in_7 ++ after) short t_6 in
    let b_1 = with_word bytes (k + 8) n in let b_2 = with_word b_1 (k + 4) back in let b_3 = with_word b_2 k b in
    let w_1 : Whole b_1 = with_word-whole bytes (k + 8) n whole in
    let w_2 : Whole b_2 = with_word-whole b_1 (k + 4) back w_1 in
    let w_3 : Whole b_3 = with_word-whole b_2 k b w_2 in
    let i_0 = at_0 k room in let i_4 = at_4 k room in let i_8 = at_8 k room in
    let m_0 = machine_at code e (words a c d b (k + 12) p q r) bytes in
    let m_1 = machine_at code e_1 (words n c d b (k + 12) p q r) bytes in
    let m_2 = machine_at code e_2 (words n c d b (k + 8) p q r) b_1 in
    let m_3 = machine_at code putbyte (words n c d b (k + 4) p q r) b_2 in
    let m_4 = machine_at code in_at (words n c d b k p q r) b_3 in
    let m_5 = machine_at code in_bt (words n c d 1 k p q r) b_3 in
    let m_6 = machine_at code in_ct (words n (k + 8) d 1 k p q r) b_3 in
    let m_7 = machine_at code in_dt (words n (k + 8) 1 1 k p q r) b_3 in
    let m_8 = machine_at code in_et (words 4 (k + 8) 1 1 k p q r) b_3 in
    let m_9 = machine_at code in_ft (words 1 (k + 8) 1 1 k p q r) b_3 in
    let saved = stack_word b_3 k in
    let m_10 = machine_at code in_gt (words 1 (k + 8) 1 saved (k + 4) p q r) b_3 in
    let m_11 = machine_at code back (words 1 (k + 8) 1 saved (k + 8) p q r) b_3 in
    let popped = stack_word b_3 (k + 8) in
    let m_12 = machine_at code next (words popped (k + 8) 1 saved (k + 12) p q r) b_3 in
    let d_0 : doing m_0 ≡ Goes m_1 = doing-here code bytes (words a c d b (k + 12) p q r) e (instr.LoadImm Eax n) 5 (put_code putbyte e n ++ rest) (some 0xb8 (word_bytes n ++ (0x50 ∷ ((0xe8 ∷ word_bytes by) ++ call_rest)))) h (load_eax _ _ _ _ (0x50 ∷ ((0xe8 ∷ word_bytes by) ++ call_rest)) ∙ ap (λ (v : ℕ). Is (instr.LoadImm Eax v) 5) (join-word_bytes n small)) in
    let d_1 : doing m_1 ≡ Goes m_2 = pushes code bytes e_1 n c d b (k + 12) p q r (k + 8) n (instr.Push Eax) (0x50 ∷ ((0xe8 ∷ word_bytes by) ++ call_rest)) (some 0x50 ((0xe8 ∷ word_bytes by) ++ call_rest)) h_1 (push_eax ((0xe8 ∷ word_bytes by) ++ call_rest)) whole i_8 s_8 refl in
    let d_2 : doing m_2 ≡ Goes m_3 =
    calls code b_1 e_2 n c d b (k + 8) p q r (k + 4) by ((0xe8 ∷ word_bytes by) ++ call_rest) (some 0xe8 (word_bytes by ++ call_rest)) h_2 (call_by _ _ _ _ call_rest ∙ ap (λ (v : ℕ). Is (instr.Call v) 5) (join-word_bytes by (distance_small putbyte (e + 11)))) w_1 i_4 s_4
    ∙ ap (λ (x : ℕ). Goes (machine_at code x (words n c d b (k + 4) p q r) b_2)) landed in
    let d_3 : doing m_3 ≡ Goes m_4 = pushes code b_2 putbyte n c d b (k + 4) p q r k b (instr.Push Ebx) (putbyte_code ++ after) (some 0x53 (in_1 ++ after)) there (push_ebx (in_1 ++ after)) w_2 i_0 s_0 refl in
    let d_4 : doing m_4 ≡ Goes m_5 = doing-here code b_3 (words n c d b k p q r) in_at (instr.LoadImm Ebx 1) 5 (in_1 ++ after) (some 0xbb (1 ∷ 0 ∷ 0 ∷ 0 ∷ (in_2 ++ after))) t_1 (load_ebx 1 0 0 0 (in_2 ++ after)) in
    let d_5 : doing m_5 ≡ Goes m_6 =
    doing-here code b_3 (words n c d 1 k p q r) in_bt (instr.Lea Ecx (record { base = Some Esp; index = None; disp = 8 })) 4 (in_2 ++ after) (some 0x8d (0x4c ∷ 0x24 ∷ 8 ∷ (in_3 ++ after))) t_2 (lea_ecx (in_3 ++ after))
    ∙ ap (λ (x : ℕ). Goes (machine_at code in_ct (words n x d 1 k p q r) b_3)) v_8 in
    let d_6 : doing m_6 ≡ Goes m_7 = doing-here code b_3 (words n (k + 8) d 1 k p q r) in_ct (instr.LoadImm Edx 1) 5 (in_3 ++ after) (some 0xba (1 ∷ 0 ∷ 0 ∷ 0 ∷ (in_4 ++ after))) t_3 (load_edx 1 0 0 0 (in_4 ++ after)) in
    let d_7 : doing m_7 ≡ Goes m_8 = doing-here code b_3 (words n (k + 8) 1 1 k p q r) in_dt (instr.LoadImm Eax 4) 5 (in_4 ++ after) (some 0xb8 (4 ∷ 0 ∷ 0 ∷ 0 ∷ (in_5 ++ after))) t_4 (load_eax 4 0 0 0 (in_5 ++ after)) in
    let d_8 : doing m_8 ≡ Gives (n % 256) =
    doing-here code b_3 (words 4 (k + 8) 1 1 k p q r) in_et (instr.Interrupt 128) 2 (in_5 ++ after) (some 0xcd (0x80 ∷ (in_6 ++ after))) t_5 (interrupt 128 (in_6 ++ after))
    ∙ ap (write_call (k + 8)) (byte_at-stack b_3 code (k + 8) w_3 (byte_8 k room))
    ∙ ap (λ (x : ℕ). Gives x) (byte-other b_2 k b (k + 8) i_0 (omega arith) ∙ byte-other b_1 (k + 4) back (k + 8) i_4 (omega arith) ∙ low_byte-with_word bytes (k + 8) n whole i_8) in
    let d_9 : doing m_9 ≡ Goes m_10 =
    reads code b_3 (words 1 (k + 8) 1 1 k p q r) in_ft (instr.Pop Ebx) 1 (in_6 ++ after) k (λ w. machine_at code in_gt (words 1 (k + 8) 1 w (add32 k 4) p q r) b_3) (some 0x5b (in_7 ++ after)) t_6 (pop_ebx (in_7 ++ after)) w_3 i_0 refl
    ∙ ap (λ (x : ℕ). Goes (machine_at code in_gt (words 1 (k + 8) 1 saved x p q r) b_3)) u_4 in
    let slot : stack_word b_3 (k + 4) ≡ back = stack_word-other b_2 k b (k + 4) i_0 (omega arith) ∙ stack_word-same b_1 (k + 4) back w_1 i_4 (end_small e_2 5) in
    let d_10 : doing m_10 ≡ Goes m_11 =
    reads code b_3 (words 1 (k + 8) 1 saved (k + 4) p q r) in_gt instr.Ret 1 (in_7 ++ after) (k + 4) (λ w. machine_at code w (words 1 (k + 8) 1 saved (add32 (k + 4) 4) p q r) b_3) (some 0xc3 after) t_7 (return_from after) w_3 i_4 refl
    ∙ ap (λ (x : ℕ). Goes (machine_at code x (words 1 (k + 8) 1 saved (add32 (k + 4) 4) p q r) b_3)) slot
    ∙ ap (λ (x : ℕ). Goes (machine_at code back (words 1 (k + 8) 1 saved x p q r) b_3)) u_8 in
    let d_11 : doing m_11 ≡ Goes m_12 =
    reads code b_3 (words 1 (k + 8) 1 saved (k + 8) p q r) back (instr.Pop Eax) 1 call_rest (k + 8) (λ w. machine_at code next (words w (k + 8) 1 saved (add32 (k + 8) 4) p q r) b_3) (some 0x58 rest) h_3 (pop_eax rest) w_3 i_8 refl
    ∙ ap (λ (x : ℕ). Goes (machine_at code next (words popped (k + 8) 1 saved x p q r) b_3)) u_12 in
    let more = acts ++ Gave (n % 256) ∷ [] in
    let end = run_of m_12 left more in
    record {
      next = next;
      eax = popped;
      ecx = k + 8;
      edx = 1;
      ebx = saved;
      stack = b_3;
      next_is = omega arith;
      here = h_4;
      whole = w_3;
      ebx_fits = let same = stack_word-same b_2 k b w_2 i_0 b_small in subst (λ (x : ℕ). x < 2 ^ 32) (sym same) b_small;
      above = λ b' l. stack_word-other b_2 k b b' i_0 (omega arith) ∙ stack_word-other b_1 (k + 4) back b' i_4 (omega arith) ∙ stack_word-other bytes (k + 8) n b' i_8 (omega arith);
      runs =
          one_more hop 11 (run_of m_0 left acts) (run_of m_1 left acts) end (hop-goes m_0 m_1 left acts d_0)
          (one_more hop 10 (run_of m_1 left acts) (run_of m_2 left acts) end (hop-goes m_1 m_2 left acts d_1)
          (one_more hop 9 (run_of m_2 left acts) (run_of m_3 left acts) end (hop-goes m_2 m_3 left acts d_2)
          (one_more hop 8 (run_of m_3 left acts) (run_of m_4 left acts) end (hop-goes m_3 m_4 left acts d_3)
          (one_more hop 7 (run_of m_4 left acts) (run_of m_5 left acts) end (hop-goes m_4 m_5 left acts d_4)
          (one_more hop 6 (run_of m_5 left acts) (run_of m_6 left acts) end (hop-goes m_5 m_6 left acts d_5)
          (one_more hop 5 (run_of m_6 left acts) (run_of m_7 left acts) end (hop-goes m_6 m_7 left acts d_6)
          (one_more hop 4 (run_of m_7 left acts) (run_of m_8 left acts) end (hop-goes m_7 m_8 left acts d_7)
          (one_more hop 3 (run_of m_8 left acts) (run_of m_9 left more) end (hop-gives m_8 (n % 256) left acts d_8)
          (one_more hop 2 (run_of m_9 left more) (run_of m_10 left more) end (hop-goes m_9 m_10 left more d_9)
          (one_more hop 1 (run_of m_10 left more) (run_of m_11 left more) end (hop-goes m_10 m_11 left more d_10)
          (one_more hop 0 (run_of m_11 left more) end end (hop-goes m_11 m_12 left more d_11) refl)))))))))));
    }
