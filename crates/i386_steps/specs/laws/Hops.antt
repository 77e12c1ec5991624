-- The machine's steps on the instructions of a unit's code, one equation for each.
use Rattle.std.specs.Prelude.{◌≡◌, ℕ, suc, ◌<◌, List, [], ◌∷◌, ◌++◌, length, Option, None, option_map, slice_get}
use Rattle.std.proofs.Common.{◌∙◌, ap, refl, append-nil}
use Rattle.cc_base.specs.declared.run.Act.{Act}
use Rattle.cc_base.specs.declared.run.Act.TheVariants.{Gave}
use Rattle.i386_code.specs.declared.instr.Instr.{Instr}
use Rattle.i386_code.specs.declared.instr.Instr.TheVariants as instr
use Rattle.i386_code.specs.declared.instr.Decoded.{Decoded}
use Rattle.i386_code.specs.declared.instr.Decoded.TheVariants.{Is}
use Rattle.i386_code.specs.Reading.{decoded}
use Rattle.cc_base.specs.Words.{add32, sub32}
use Rattle.i386_machine.specs.declared.event.Standing.TheVariants as standing
use Rattle.i386_machine.specs.Regions.{Region, word_at, store_word}
use Rattle.i386_machine.specs.Machine.{State}
use Rattle.i386_machine.specs.Operands.{accessed}
use Rattle.i386_machine.specs.Step.{Doing, Goes, Gives, Ends, doing, fetched, executed, effect, given, goes, jumped, answered, stepped}
use Rattle.i386_machine.specs.Runs.{Run, advance, left_after, acts_of}
use Rattle.pass_core.specs.Semantics.{iterate}
use Rattle.i386_steps.specs.laws.StackAndCode.{memory_of, stack_word, with_word, Whole, InStack, word_at-stack, store_word-stack, Here, fetch-here}

-- one step. It is opaque, so that many of them are compared by their equations alone
pub hop : Run → Run
hop run = advance run

pub hop-is : (run : Run) → hop run ≡ advance run
unfolding hop
hop-is run = refl

-- what comes of what there is to do
abbrev came : Doing → State → List ℕ → List Act → Run
came d m left acts = let s = stepped d m (slice_get left 0) in record { machine = s.after; left = left_after s.event left; acts = acts ++ acts_of s.event }

abbrev pub run_of : State → List ℕ → List Act → Run
run_of m left acts = record { machine = m; left = left; acts = acts }

pub hop-goes : (m m' : State) (left : List ℕ) (acts : List Act) → doing m ≡ Goes m' → hop (run_of m left acts) ≡ run_of m' left acts
unfolding hop
hop-goes m m' left acts e = ap (λ (d : Doing). came d m left acts) e ∙ ap (run_of m' left) (append-nil acts)

pub hop-gives : (m : State) (byte : ℕ) (left : List ℕ) (acts : List Act) → doing m ≡ Gives byte → hop (run_of m left acts) ≡ run_of (answered 1 m) left (acts ++ Gave byte ∷ [])
unfolding hop
hop-gives m byte left acts e = ap (λ (d : Doing). came d m left acts) e

pub hop-ends : (m : State) (status : ℕ) (left : List ℕ) (acts : List Act) → doing m ≡ Ends status → hop (run_of m left acts) ≡ run_of (record m { standing = standing.Ended status }) left acts
unfolding hop
hop-ends m status left acts e = ap (λ (d : Doing). came d m left acts) e ∙ ap (run_of (record m { standing = standing.Ended status }) left) (append-nil acts)

-- one step, and then n
pub one_more : {S : Type 0} (f : S → S) (n : ℕ) (s s' t : S) → f s ≡ s' → iterate f n s' ≡ t → iterate f (suc n) s ≡ t
one_more f n s s' t e h = ap (iterate f n) e ∙ h

-- the eight registers
abbrev pub words : ℕ → ℕ → ℕ → ℕ → ℕ → ℕ → ℕ → ℕ → List ℕ
words eax ecx edx ebx esp ebp esi edi = eax ∷ ecx ∷ edx ∷ ebx ∷ esp ∷ ebp ∷ esi ∷ edi ∷ []

-- the machine in code, with this stack, where flags are unknown
abbrev pub machine_at : List ℕ → ℕ → List ℕ → List ℕ → State
machine_at code e registers bytes = record { regions = memory_of bytes code; registers = registers; eip = e; flags = None; standing = standing.Running }

-- it does what the instruction there says, of this size
pub doing-here : (code bytes registers : List ℕ) (e : ℕ) (i : Instr) (size : ℕ) (xs : List ℕ) → 0 < length xs → Here code e xs → decoded xs ≡ Is i size → doing (machine_at code e registers bytes) ≡ effect i (machine_at code (add32 e size) registers bytes)
doing-here code bytes registers e i size xs some h d =
    let m = machine_at code e registers bytes in
    ap (λ (o : Option (List ℕ)). fetched o m) (fetch-here bytes code e xs some h) ∙ ap (λ (o : Decoded). executed o m) d

-- a word is stored in the stack
pub stores : (code bytes registers : List ℕ) (e : ℕ) (i : Instr) (size : ℕ) (xs : List ℕ) (top word : ℕ) (after : List Region → State) → 0 < length xs → Here code e xs → decoded xs ≡ Is i size → Whole bytes → InStack top 4
    → effect i (machine_at code (add32 e size) registers bytes) ≡ goes (accessed top (option_map after (store_word (memory_of bytes code) top word)))
    → doing (machine_at code e registers bytes) ≡ Goes (after (memory_of (with_word bytes top word) code))
stores code bytes registers e i size xs top word after some h dec whole inside eff =
    doing-here code bytes registers e i size xs some h dec ∙ eff
    ∙ ap (λ (o : Option (List Region)). goes (accessed top (option_map after o))) (store_word-stack bytes code top word whole inside)

-- a word of the stack is read
pub reads : (code bytes registers : List ℕ) (e : ℕ) (i : Instr) (size : ℕ) (xs : List ℕ) (top : ℕ) (after : ℕ → State) → 0 < length xs → Here code e xs → decoded xs ≡ Is i size → Whole bytes → InStack top 4
    → effect i (machine_at code (add32 e size) registers bytes) ≡ given (accessed top (word_at (memory_of bytes code) top)) (λ w. Goes (after w))
    → doing (machine_at code e registers bytes) ≡ Goes (after (stack_word bytes top))
reads code bytes registers e i size xs top after some h dec whole inside eff =
    doing-here code bytes registers e i size xs some h dec ∙ eff
    ∙ ap (λ (o : Option ℕ). given (accessed top o) (λ w. Goes (after w))) (word_at-stack bytes code top whole inside)

-- a machine in code, with other regions
abbrev with_regions : List Region → ℕ → List ℕ → State
with_regions regions e registers = record { regions = regions; registers = registers; eip = e; flags = None; standing = standing.Running }

-- a register is pushed
pub pushes : (code bytes : List ℕ) (e a c d b esp p q r top word : ℕ) (i : Instr) (xs : List ℕ) → 0 < length xs → Here code e xs → decoded xs ≡ Is i 1 → Whole bytes → InStack top 4 → sub32 esp 4 ≡ top
    → effect i (machine_at code (add32 e 1) (words a c d b esp p q r) bytes) ≡ goes (accessed (sub32 esp 4) (option_map (λ (regions : List Region). with_regions regions (add32 e 1) (words a c d b (sub32 esp 4) p q r)) (store_word (memory_of bytes code) (sub32 esp 4) word)))
    → doing (machine_at code e (words a c d b esp p q r) bytes) ≡ Goes (machine_at code (add32 e 1) (words a c d b top p q r) (with_word bytes top word))
pushes code bytes e a c d b esp p q r top word i xs some h dec whole inside lower eff =
    stores code bytes (words a c d b esp p q r) e i 1 xs top word (λ regions. with_regions regions (add32 e 1) (words a c d b top p q r)) some h dec whole inside
    (eff ∙ ap (λ (t : ℕ). goes (accessed t (option_map (λ (regions : List Region). with_regions regions (add32 e 1) (words a c d b t p q r)) (store_word (memory_of bytes code) t word)))) lower)

-- a function is called
pub calls : (code bytes : List ℕ) (e a c d b esp p q r top by : ℕ) (xs : List ℕ) → 0 < length xs → Here code e xs → decoded xs ≡ Is (instr.Call by) 5 → Whole bytes → InStack top 4 → sub32 esp 4 ≡ top
    → doing (machine_at code e (words a c d b esp p q r) bytes) ≡ Goes (machine_at code (add32 (add32 e 5) by) (words a c d b top p q r) (with_word bytes top (add32 e 5)))
calls code bytes e a c d b esp p q r top by xs some h dec whole inside lower =
    let back = add32 e 5 in
    let called : ℕ → Option (List Region) → Doing = λ t o. given (accessed t (option_map (λ (regions : List Region). with_regions regions back (words a c d b t p q r)) o)) (λ (s : State). Goes (jumped by s)) in
    doing-here code bytes (words a c d b esp p q r) e (instr.Call by) 5 xs some h dec
    ∙ ap (λ (t : ℕ). called t (store_word (memory_of bytes code) t back)) lower
    ∙ ap (called top) (store_word-stack bytes code top back whole inside)
