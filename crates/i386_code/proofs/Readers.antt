-- Laws of readers: what more bytes change, what is given, and where bytes are missing.
use Rattle.std.proofs.Common.{◌≡◌, ◌≢◌, ℕ, zero, suc, ◌+◌, ◌<◌, ◌≤◌, List, [], ◌∷◌, ◌++◌, length, take, get_or, refl, subst, arith}
use Rattle.i386_code.specs.declared.instr.Instr.{Instr}
use Rattle.i386_code.specs.declared.instr.Decoded.TheVariants.{Is, Short}
use Rattle.i386_code.specs.Reading.{Reader, Done, Fail, Next, run}

abbrev pub AreBytes : List ℕ → Type 0
AreBytes bytes = (i : ℕ) → get_or bytes i 0 < 256

-- More bytes change no answer but Short.
pub stable : (r : Reader) (n : ℕ) (bytes more : List ℕ) → run r n bytes ≢ Short → run r n (bytes ++ more) ≡ run r n bytes
stable (Done instr) n bytes more h = refl
stable Fail n bytes more h = refl
stable (Next go) n [] more h = absurd (h refl)
stable (Next go) n (b ∷ bytes) more h = stable (go b) (suc n) bytes more h

-- The count is of bytes that are there.
pub within : (r : Reader) (n : ℕ) (bytes : List ℕ) (instr : Instr) (m : ℕ) → run r n bytes ≡ Is instr m → m ≤ length bytes + n
within (Done i) n bytes instr m e = let same : n ≡ m = cc in omega arith
within Fail n bytes instr m e = absurd cc
within (Next go) n [] instr m e = absurd cc
within (Next go) n (b ∷ bytes) instr m e = let deeper = within (go b) (suc n) bytes instr m e in omega arith

-- Each way through a reader that ends in an instruction has the property.
abbrev pub Gives : Reader → (List ℕ → Instr → Type 0) → Type 0
Gives (Done instr) P = P [] instr
Gives Fail P = Unit {0}
Gives (Next go) P = (b : ℕ) → b < 256 → Gives (go b) (λ bytes instr. P (b ∷ bytes) instr)

pub record Given (P : List ℕ → Instr → Type 0) (n : ℕ) (bytes : List ℕ) (instr : Instr) (m : ℕ) : Type 0 where
  pub count : ℕ
  pub counted : m ≡ n + count
  pub room : count ≤ length bytes
  pub holds : P (take count bytes) instr

pub given : (r : Reader) (P : List ℕ → Instr → Type 0) → Gives r P → (n : ℕ) (bytes : List ℕ) → AreBytes bytes → (instr : Instr) (m : ℕ) → run r n bytes ≡ Is instr m → Given P n bytes instr m
given (Done i) P h n bytes fit instr m e =
    let same : i ≡ instr = cc in
    let counted : n ≡ m = cc in
    record { count = 0; counted = omega arith; room = omega arith; holds = subst (λ (j : Instr). P [] j) same h }
given Fail P h n bytes fit instr m e = absurd cc
given (Next go) P h n [] fit instr m e = absurd cc
given (Next go) P h n (b ∷ bytes) fit instr m e =
    let deeper = given (go b) (λ s i. P (b ∷ s) i) (h b (fit 0)) (suc n) bytes (λ i. fit (suc i)) instr m e in
    record { count = suc deeper.count; counted = omega arith; room = omega arith; holds = deeper.holds }

-- Some bytes lead a reader to an instruction.
abbrev pub IsLive : Reader → Type 0
IsLive (Done instr) = Unit {0}
IsLive Fail = ⊥
IsLive (Next go) = (b : ℕ) × (b < 256) × IsLive (go b)

-- At each place where a reader wants a byte, some bytes lead it to an instruction.
abbrev pub IsSure : Reader → Type 0
IsSure (Done instr) = Unit {0}
IsSure Fail = Unit {0}
IsSure (Next go) = IsLive (Next go) × ((b : ℕ) → IsSure (go b))

pub record Completed (r : Reader) (n : ℕ) (bytes : List ℕ) : Type 0 where
  pub more : List ℕ
  pub fit : AreBytes more
  pub instr : Instr
  pub count : ℕ
  pub done : run r n (bytes ++ more) ≡ Is instr count

no_bytes : AreBytes []
no_bytes i = omega arith

one_more : (b : ℕ) (bytes : List ℕ) → b < 256 → AreBytes bytes → AreBytes (b ∷ bytes)
one_more b bytes h fit zero = h
one_more b bytes h fit (suc i) = fit i

pub lively : (r : Reader) → IsLive r → (n : ℕ) → Completed r n []
lively (Done i) h n = record { more = []; fit = no_bytes; instr = i; count = n; done = refl }
lively Fail h n = absurd h
lively (Next go) h n =
    let deeper = lively (go h.0) h.2 (suc n) in
    record { more = h.0 ∷ deeper.more; fit = one_more h.0 deeper.more h.1 deeper.fit; instr = deeper.instr; count = deeper.count; done = deeper.done }

pub completed : (r : Reader) → IsSure r → (n : ℕ) (bytes : List ℕ) → run r n bytes ≡ Short → Completed r n bytes
completed (Done i) h n bytes e = absurd cc
completed Fail h n bytes e = absurd cc
completed (Next go) h n [] e = lively (Next go) h.0 n
completed (Next go) h n (b ∷ bytes) e =
    let deeper = completed (go b) (h.1 b) (suc n) bytes e in
    record { more = deeper.more; fit = deeper.fit; instr = deeper.instr; count = deeper.count; done = deeper.done }
