-- Words, displacements and operands: what their readers give, and what leads through them.
use Rattle.std.proofs.Common.{◌≡◌, ◌≢◌, ℕ, suc, ◌+◌, ◌/◌, ◌%◌, ◌^◌, ◌<◌, Bool, true, false, cond, List, [], ◌∷◌, ◌++◌, length, Option, None, ◌==◌, inl, inr, zero-add, refl, sym, ap, subst, ◌∙◌, arith}
use Rattle.std.proofs.lemmas.Bool.Decides.{nat_tests}
use Rattle.cc_base.specs.Words.{join, word_bytes, join-word_bytes}
use Rattle.i386_code.specs.declared.instr.Reg.{Reg}
use Rattle.i386_code.specs.declared.instr.Scaled.{Scaled}
use Rattle.i386_code.specs.declared.instr.Address.{Address}
use Rattle.i386_code.specs.declared.instr.Rm.{Rm}
use Rattle.i386_code.specs.declared.instr.Rm.TheVariants as rms
use Rattle.i386_code.specs.declared.instr.Instr.{Instr}
use Rattle.i386_code.specs.declared.operand.Width.{Width}
use Rattle.i386_code.specs.declared.operand.Width.TheVariants.{Absent, Byte, Word}
use Rattle.i386_code.specs.Fields.{number_of, reg_at, fields, sign_extended}
use Rattle.i386_code.specs.Proper.{ProperRm}
use Rattle.i386_code.specs.Operands.{IsBase, IsDisplacement, IsPlain, IsWithSib, IsOperand}
use Rattle.i386_code.specs.Reading.{Reader, Next, run, word, displacement, address, operand, base_at, width_at, index_at}
use Rattle.i386_code.proofs.Readers.{Gives, IsLive, IsSure}
use Rattle.i386_code.proofs.Numbers.{word_bytes-join, high_field, middle_field, low_field, fields_of, number_below, reg_at-number_of, number_of-reg_at, based, BaseIs, base_back, indexed, index_back}

pub gives_word : (go : ℕ → Reader) (P : List ℕ → Instr → Type 0) → ((value : ℕ) → value < 2 ^ 32 → Gives (go value) (λ s i. P (word_bytes value ++ s) i)) → Gives (word go) P
unfolding word
gives_word go P h = λ a ha b hb c hc d hd. subst (λ (w : List ℕ). Gives (go (join a b c d)) (λ s i. P (w ++ s) i)) (word_bytes-join a b c d ha hb hc hd) (h (join a b c d) (omega arith))

pub gives_displacement : (width : Width) (go : ℕ → Reader) (P : List ℕ → Instr → Type 0) → ((disp : ℕ) (bytes : List ℕ) → IsDisplacement width disp bytes → Gives (go disp) (λ s i. P (bytes ++ s) i)) → Gives (displacement width go) P
unfolding displacement
gives_displacement Absent go P h = h 0 [] (refl, refl)
gives_displacement Byte go P h = λ b fits. h (sign_extended b) (b ∷ []) (b, fits, refl, refl)
gives_displacement Word go P h = gives_word go P (λ value fits. h value (word_bytes value) (fits, refl))

-- tests of numbers
true_test : (m n : ℕ) → m ≡ n → (m == n) ≡ true
true_test m n h = grind (arith, nat_tests)

false_test : (m n : ℕ) → m ≢ n → (m == n) ≡ false
false_test m n h = grind (arith, nat_tests)

from_true : (m n : ℕ) → (m == n) ≡ true → m ≡ n
from_true m n h = grind (arith, nat_tests)

from_false : (m n : ℕ) → (m == n) ≡ false → m ≢ n
from_false m n h e = let same = true_test m n e in absurd cc

pub gives_operand : (modrm : ℕ) → modrm < 256 → (go : Rm → Reader) (P : List ℕ → Instr → Type 0) → ((rm : Rm) (bytes : List ℕ) → ProperRm rm → IsOperand (modrm / 8 % 8) rm bytes → Gives (go rm) (λ s i. P (bytes ++ s) i)) → Gives (operand modrm go) (λ s i. P (modrm ∷ s) i)
unfolding operand
gives_operand modrm small go P h = by_tests (modrm / 64 == 3) (modrm % 8 == 4) refl refl
  where
    register : modrm / 64 ≡ 3 → IsOperand (modrm / 8 % 8) (rms.Reg (reg_at (modrm % 8))) (modrm ∷ [])
    register e =
        let number : number_of (reg_at (modrm % 8)) ≡ modrm % 8 = number_of-reg_at (modrm % 8) (omega arith) in
        ap (λ (b : ℕ). b ∷ []) (omega arith)

    with_sib : modrm / 64 < 3 → modrm % 8 ≡ 4 → (sib : ℕ) → sib < 256 → Gives (address (index_at (sib / 64) (sib / 8 % 8)) (modrm / 64) (sib % 8) go) (λ s i. P (modrm ∷ sib ∷ s) i)
    with_sib low e sib fits =
        let index = indexed (sib / 64) (sib / 8 % 8) (omega arith) (omega arith) in
        let first : fields (modrm / 64) (modrm / 8 % 8) 4 ≡ modrm = omega arith in
        let second : fields (sib / 64) (sib / 8 % 8) (sib % 8) ≡ sib = fields_of sib in
        let base : IsBase (base_at (modrm / 64) (sib % 8)) (width_at (modrm / 64) (sib % 8)) (modrm / 64) (sib % 8) = based (modrm / 64) (sib % 8) low (omega arith) in
        gives_displacement (width_at (modrm / 64) (sib % 8)) _ (λ s i. P (modrm ∷ sib ∷ s) i) (λ disp bytes d.
        let whole : modrm ∷ sib ∷ bytes ≡ fields (modrm / 64) (modrm / 8 % 8) 4 ∷ fields (sib / 64) (sib / 8 % 8) (sib % 8) ∷ bytes = cc in
        h (rms.Mem (record { base = base_at (modrm / 64) (sib % 8); index = index_at (sib / 64) (sib / 8 % 8); disp = disp })) (modrm ∷ sib ∷ bytes) index.proper
        (inr (record { width = width_at (modrm / 64) (sib % 8); mode = modrm / 64; number = sib % 8; scale = sib / 64; index_number = sib / 8 % 8; tail = bytes; base = base; index = index.is; disp = d; whole = whole })))

    plain : modrm / 64 < 3 → modrm % 8 ≢ 4 → Gives (address None (modrm / 64) (modrm % 8) go) (λ s i. P (modrm ∷ s) i)
    plain low other =
        let first : fields (modrm / 64) (modrm / 8 % 8) (modrm % 8) ≡ modrm = fields_of modrm in
        let base : IsBase (base_at (modrm / 64) (modrm % 8)) (width_at (modrm / 64) (modrm % 8)) (modrm / 64) (modrm % 8) = based (modrm / 64) (modrm % 8) low (omega arith) in
        gives_displacement (width_at (modrm / 64) (modrm % 8)) _ (λ s i. P (modrm ∷ s) i) (λ disp bytes d.
        let whole : modrm ∷ bytes ≡ fields (modrm / 64) (modrm / 8 % 8) (modrm % 8) ∷ bytes = cc in
        h (rms.Mem (record { base = base_at (modrm / 64) (modrm % 8); index = None; disp = disp })) (modrm ∷ bytes) tt
        (inl (record { width = width_at (modrm / 64) (modrm % 8); mode = modrm / 64; number = modrm % 8; tail = bytes; base = base; no_index = refl; no_sib = other; disp = d; whole = whole })))

    below : (modrm / 64 == 3) ≡ false → modrm / 64 < 3
    below e = let other = from_false (modrm / 64) 3 e in omega arith

    by_tests : (a b : Bool) → (modrm / 64 == 3) ≡ a → (modrm % 8 == 4) ≡ b → Gives (cond a (go (rms.Reg (reg_at (modrm % 8)))) (cond b (Next λ sib. address (index_at (sib / 64) (sib / 8 % 8)) (modrm / 64) (sib % 8) go) (address None (modrm / 64) (modrm % 8) go))) (λ s i. P (modrm ∷ s) i)
    by_tests true b e f = h (rms.Reg (reg_at (modrm % 8))) (modrm ∷ []) tt (register (from_true (modrm / 64) 3 e))
    by_tests false true e f = with_sib (below e) (from_true (modrm % 8) 4 f)
    by_tests false false e f = plain (below e) (from_false (modrm % 8) 4 f)

pub word_back : (go : ℕ → Reader) (n : ℕ) (s : List ℕ) (value : ℕ) → value < 2 ^ 32 → run (word go) n (word_bytes value ++ s) ≡ run (go value) (4 + n) s
unfolding word
word_back go n s value fits =
    ap (λ (v : ℕ). run (go v) (suc (suc (suc (suc n)))) s) (join-word_bytes value fits) ∙ ap (λ (k : ℕ). run (go value) k s) (omega arith)

displacement_back : (width : Width) (disp : ℕ) (bytes : List ℕ) → IsDisplacement width disp bytes → (go : ℕ → Reader) (n : ℕ) (s : List ℕ) → run (displacement width go) n (bytes ++ s) ≡ run (go disp) (length bytes + n) s
unfolding displacement
displacement_back Absent disp bytes h go n s = rw (h.1, h.0, zero-add) refl
displacement_back Byte disp bytes h go n s = rw (h.3, h.2) (ap (λ (k : ℕ). run (go (sign_extended h.0)) k s) (omega arith))
displacement_back Word disp bytes h go n s = rw h.1 (word_back go n s disp h.0)

address_back : (index : Option Scaled) (mode number : ℕ) (a : Address) (width : Width) (tail : List ℕ) → BaseIs a.base width mode number → index ≡ a.index → IsDisplacement width a.disp tail → (go : Rm → Reader) (n : ℕ) (s : List ℕ) → run (address index mode number go) n (tail ++ s) ≡ run (go (rms.Mem a)) (length tail + n) s
address_back index mode number a width tail base same d go n s =
    ap (λ (w : Width). run (displacement w (λ disp. go (rms.Mem (record { base = base_at mode number; index = index; disp = disp })))) n (tail ++ s)) base.width_is
    ∙ displacement_back width a.disp tail d (λ disp. go (rms.Mem (record { base = base_at mode number; index = index; disp = disp }))) n s
    ∙ ap (λ (b : Option Reg). run (go (rms.Mem (record { base = b; index = index; disp = a.disp }))) (length tail + n) s) base.base_is
    ∙ ap (λ (i : Option Scaled). run (go (rms.Mem (record { base = a.base; index = i; disp = a.disp }))) (length tail + n) s) same

-- what `operand` is by its ModRM byte
operand_register : (modrm : ℕ) (go : Rm → Reader) → modrm / 64 ≡ 3 → operand modrm go ≡ go (rms.Reg (reg_at (modrm % 8)))
unfolding operand
operand_register modrm go e = rw (true_test (modrm / 64) 3 e) refl

operand_sib : (modrm : ℕ) (go : Rm → Reader) → modrm / 64 < 3 → modrm % 8 ≡ 4 → operand modrm go ≡ Next λ sib. address (index_at (sib / 64) (sib / 8 % 8)) (modrm / 64) (sib % 8) go
unfolding operand
operand_sib modrm go low e =
    let other : modrm / 64 ≢ 3 = omega arith in
    rw (false_test (modrm / 64) 3 other, true_test (modrm % 8) 4 e) refl

operand_plain : (modrm : ℕ) (go : Rm → Reader) → modrm / 64 < 3 → modrm % 8 ≢ 4 → operand modrm go ≡ address None (modrm / 64) (modrm % 8) go
unfolding operand
operand_plain modrm go low e =
    let other : modrm / 64 ≢ 3 = omega arith in
    rw (false_test (modrm / 64) 3 other, false_test (modrm % 8) 4 e) refl

-- the bytes of an operand lead through its reader
pub record Leads (field : ℕ) (rm : Rm) (bytes : List ℕ) : Type 0 where
  pub modrm : ℕ
  pub tail : List ℕ
  pub whole : bytes ≡ modrm ∷ tail
  pub field_is : modrm / 8 % 8 ≡ field
  pub leads : (go : Rm → Reader) (n : ℕ) (s : List ℕ) → run (operand modrm go) n (tail ++ s) ≡ run (go rm) (length tail + n) s

register_leads : (field : ℕ) (reg : Reg) (bytes : List ℕ) → field < 8 → IsOperand field (rms.Reg reg) bytes → Leads field (rms.Reg reg) bytes
register_leads field reg bytes small h =
    let fits = number_below reg in
    let high = high_field 3 field (number_of reg) small fits in
    let low = low_field 3 field (number_of reg) fits in
    record {
      modrm = fields 3 field (number_of reg);
      tail = [];
      whole = h;
      field_is = middle_field 3 field (number_of reg) small fits;
      leads = λ go n s.
          ap (λ (r : Reader). run r n s) (operand_register (fields 3 field (number_of reg)) go high)
          ∙ ap (λ (k : ℕ). run (go (rms.Reg (reg_at k))) n s) low
          ∙ ap (λ (r : Reg). run (go (rms.Reg r)) n s) (reg_at-number_of reg)
          ∙ ap (λ (k : ℕ). run (go (rms.Reg reg)) k s) (sym (zero-add n));
    }

plain_leads : (field : ℕ) (a : Address) (bytes : List ℕ) → field < 8 → IsPlain field a bytes → Leads field (rms.Mem a) bytes
plain_leads field a bytes small h =
    let base = base_back a.base h.width h.mode h.number h.base in
    let modrm = fields h.mode field h.number in
    let high : modrm / 64 ≡ h.mode = high_field h.mode field h.number small base.number_fits in
    let low : modrm % 8 ≡ h.number = low_field h.mode field h.number base.number_fits in
    let below : modrm / 64 < 3 = rw high base.mode_below in
    let other : modrm % 8 ≢ 4 = rw low h.no_sib in
    record {
      modrm = modrm;
      tail = h.tail;
      whole = h.whole;
      field_is = middle_field h.mode field h.number small base.number_fits;
      leads = λ go n s.
          ap (λ (r : Reader). run r n (h.tail ++ s)) (operand_plain modrm go below other)
          ∙ ap (λ (m : ℕ). run (address None m (modrm % 8) go) n (h.tail ++ s)) high
          ∙ ap (λ (k : ℕ). run (address None h.mode k go) n (h.tail ++ s)) low
          ∙ address_back None h.mode h.number a h.width h.tail base (sym h.no_index) h.disp go n s;
    }

sib_leads : (field : ℕ) (a : Address) (bytes : List ℕ) → field < 8 → ProperRm (rms.Mem a) → IsWithSib field a bytes → Leads field (rms.Mem a) bytes
sib_leads field a bytes small proper h =
    let base = base_back a.base h.width h.mode h.number h.base in
    let index = index_back a.index h.scale h.index_number h.index proper in
    let modrm = fields h.mode field 4 in
    let sib = fields h.scale h.index_number h.number in
    let four : 4 < 8 = omega arith in
    let high : modrm / 64 ≡ h.mode = high_field h.mode field 4 small four in
    let low : modrm % 8 ≡ 4 = low_field h.mode field 4 four in
    let below : modrm / 64 < 3 = rw high base.mode_below in
    let sib_high : sib / 64 ≡ h.scale = high_field h.scale h.index_number h.number index.number_fits base.number_fits in
    let sib_middle : sib / 8 % 8 ≡ h.index_number = middle_field h.scale h.index_number h.number index.number_fits base.number_fits in
    let sib_low : sib % 8 ≡ h.number = low_field h.scale h.index_number h.number base.number_fits in
    let index_is : index_at (sib / 64) (sib / 8 % 8) ≡ a.index = ap (λ (k : ℕ). index_at k (sib / 8 % 8)) sib_high ∙ ap (index_at h.scale) sib_middle ∙ index.index_is in
    record {
      modrm = modrm;
      tail = sib ∷ h.tail;
      whole = h.whole;
      field_is = middle_field h.mode field 4 small four;
      leads = λ go n s.
          ap (λ (r : Reader). run r n (sib ∷ (h.tail ++ s))) (operand_sib modrm go below low)
          ∙ ap (λ (m : ℕ). run (address (index_at (sib / 64) (sib / 8 % 8)) m (sib % 8) go) (suc n) (h.tail ++ s)) high
          ∙ ap (λ (k : ℕ). run (address (index_at (sib / 64) (sib / 8 % 8)) h.mode k go) (suc n) (h.tail ++ s)) sib_low
          ∙ address_back (index_at (sib / 64) (sib / 8 % 8)) h.mode h.number a h.width h.tail base index_is h.disp go (suc n) s
          ∙ ap (λ (k : ℕ). run (go (rms.Mem a)) k s) (omega arith);
    }

pub operand_leads : (field : ℕ) (rm : Rm) (bytes : List ℕ) → field < 8 → ProperRm rm → IsOperand field rm bytes → Leads field rm bytes
operand_leads field (rms.Reg reg) bytes small proper h = register_leads field reg bytes small h
operand_leads field (rms.Mem a) bytes small proper (inl h) = plain_leads field a bytes small h
operand_leads field (rms.Mem a) bytes small proper (inr h) = sib_leads field a bytes small proper h

-- where bytes are missing, some lead on
pub zero_fits : 0 < 256
zero_fits = omega arith

pub live_word : (go : ℕ → Reader) → ((value : ℕ) → IsLive (go value)) → IsLive (word go)
unfolding word
live_word go h = (0, zero_fits, (0, zero_fits, (0, zero_fits, (0, zero_fits, h (join 0 0 0 0)))))

pub sure_word : (go : ℕ → Reader) → ((value : ℕ) → IsLive (go value)) → ((value : ℕ) → IsSure (go value)) → IsSure (word go)
unfolding word
sure_word go live sure = (
  (0, zero_fits, (0, zero_fits, (0, zero_fits, (0, zero_fits, live (join 0 0 0 0))))),
  λ a. (
    (0, zero_fits, (0, zero_fits, (0, zero_fits, live (join a 0 0 0)))),
    λ b. (
      (0, zero_fits, (0, zero_fits, live (join a b 0 0))),
      λ c.
          ((0, zero_fits, live (join a b c 0)), λ d. sure (join a b c d)),
    ),
  ),
)

live_displacement : (width : Width) (go : ℕ → Reader) → ((value : ℕ) → IsLive (go value)) → IsLive (displacement width go)
unfolding displacement
live_displacement Absent go h = h 0
live_displacement Byte go h = (0, zero_fits, h (sign_extended 0))
live_displacement Word go h = live_word go h

sure_displacement : (width : Width) (go : ℕ → Reader) → ((value : ℕ) → IsLive (go value)) → ((value : ℕ) → IsSure (go value)) → IsSure (displacement width go)
unfolding displacement
sure_displacement Absent go live sure = sure 0
sure_displacement Byte go live sure = ((0, zero_fits, live (sign_extended 0)), λ b. sure (sign_extended b))
sure_displacement Word go live sure = sure_word go live sure

pub sure_operand : (modrm : ℕ) (go : Rm → Reader) → ((a : Address) → IsLive (go (rms.Mem a))) → ((rm : Rm) → IsSure (go rm)) → IsSure (operand modrm go)
unfolding operand
sure_operand modrm go live sure = by_tests (modrm / 64 == 3) (modrm % 8 == 4)
  where
    by_address : (index : Option Scaled) (mode number : ℕ) → IsSure (address index mode number go)
    by_address index mode number = sure_displacement (width_at mode number) _ (λ disp. live (record { base = base_at mode number; index = index; disp = disp })) (λ disp. sure (rms.Mem (record { base = base_at mode number; index = index; disp = disp })))

    by_tests : (a b : Bool) → IsSure (cond a (go (rms.Reg (reg_at (modrm % 8)))) (cond b (Next λ sib. address (index_at (sib / 64) (sib / 8 % 8)) (modrm / 64) (sib % 8) go) (address None (modrm / 64) (modrm % 8) go)))
    by_tests true b = sure (rms.Reg (reg_at (modrm % 8)))
    by_tests false true = (
      (0, zero_fits, live_displacement (width_at (modrm / 64) 0) _ (λ disp. live (record { base = base_at (modrm / 64) 0; index = index_at 0 0; disp = disp }))),
      λ sib. by_address (index_at (sib / 64) (sib / 8 % 8)) (modrm / 64) (sib % 8),
    )
    by_tests false false = by_address None (modrm / 64) (modrm % 8)
