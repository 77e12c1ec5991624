-- The operators on values. Where the source's rules give no value there is None.
use Rattle.std.specs.Prelude.{ℕ, ◌*◌, Bool, true, false, cond, ◌&&◌, not, eqb, ltb, leb, Option, Some, None, option_map}
use Rattle.cc_base.specs.Words.{add32}
use Rattle.block_mem.specs.Arithmetic.{bit, minus32, signed_quotient}
use Rattle.block_mem.specs.Integers.{on_word, on_words}
use Rattle.block_mem.specs.Names.{same_name}
use Rattle.block_mem.specs.Blocks.{Blocks, live, within, inside}
use Rattle.block_mem.specs.declared.value.Value.{Value}
use Rattle.block_mem.specs.declared.value.Value.TheVariants.{Int, Ptr}
use Rattle.block_mem.specs.declared.operator.Op.{Op}
use Rattle.block_mem.specs.declared.operator.Op.TheVariants.{Keep, LowSigned, LowUnsigned, Neg, Flip, Not, PtrAdd, PtrSub, PtrDiff, PtrNot, PtrEq, PtrNe, PtrLt, PtrGt, PtrLe, PtrGe}

-- an operator on integers has no value for a pointer
abbrev pub of_word : (ℕ → Option ℕ) → Value → Option Value
of_word f (Int a) = option_map (λ n. Int n) (f a)
of_word f (Ptr b o) = None

abbrev pub of_words : (ℕ → ℕ → Option ℕ) → Value → Value → Option Value
of_words f (Int a) (Int b) = option_map (λ n. Int n) (f a b)
of_words f (Int a) (Ptr c n) = None
of_words f (Ptr b o) y = None

-- a pointer moved by a number of elements: the offset wraps (C11, 6.5.6; the wrapping is this project's own rule)
abbrev pub moved : (ℕ → ℕ → ℕ) → Value → Value → ℕ → Option Value
moved f (Ptr b o) (Int i) size = Some (Ptr b (f o (i * size)))
moved f (Ptr b o) (Ptr c n) size = None
moved f (Int a) y size = None

-- the offsets' difference of two pointers to one live block, divided by the element's size (C11, 6.5.6)
abbrev pub elements_between : Blocks → Value → Value → ℕ → Option Value
elements_between m (Ptr b o) (Ptr c n) size = cond (same_name b c && live m b) (Some (Int (signed_quotient (minus32 o n) size))) None
elements_between m (Ptr b o) (Int a) size = None
elements_between m (Int a) y size = None

-- whether two values of a pointer's type are equal (C11, 6.5.9). Between two live blocks the offsets must lie below the
-- sizes, in one block they may be the size
abbrev pub equal : Blocks → Value → Value → Option Bool
equal m (Int a) (Int c) = cond (eqb a 0 && eqb c 0) (Some true) None
equal m (Int a) (Ptr b o) = cond (eqb a 0 && within m b o) (Some false) None
equal m (Ptr b o) (Int a) = cond (eqb a 0 && within m b o) (Some false) None
equal m (Ptr b o) (Ptr c n) = cond (same_name b c) (cond (within m b o && within m b n) (Some (eqb o n)) None) (cond (inside m b o && inside m c n) (Some false) None)

-- the offsets of two pointers to one live block, both in 0 to its size
abbrev pub in_order : Blocks → Value → Value → Option (ℕ × ℕ)
in_order m (Ptr b o) (Ptr c n) = cond (same_name b c && (within m b o && within m b n)) (Some (o, n)) None
in_order m (Ptr b o) (Int a) = None
in_order m (Int a) y = None

-- how such pointers compare (C11, 6.5.8)
abbrev pub compared : (ℕ → ℕ → Bool) → Blocks → Value → Value → Option Bool
compared test m x y = option_map (λ p. test p.0 p.1) (in_order m x y)

-- a truth value as an `int`
abbrev pub int_of : Option Bool → Option Value
int_of t = option_map (λ b. Int (bit b)) t

-- an operator's value
abbrev pub applied : Blocks → Op → Value → Value → Option Value
applied m Keep x y = Some x
applied m LowSigned x y = of_word (on_word LowSigned) x
applied m LowUnsigned x y = of_word (on_word LowUnsigned) x
applied m Neg x y = of_word (on_word Neg) x
applied m Flip x y = of_word (on_word Flip) x
applied m Not x y = of_word (on_word Not) x
applied m (PtrAdd size) x y = moved add32 x y size
applied m (PtrSub size) x y = moved minus32 x y size
applied m (PtrDiff size) x y = elements_between m x y size
applied m PtrNot x y = int_of (equal m x (Int 0))
applied m PtrEq x y = int_of (equal m x y)
applied m PtrNe x y = int_of (option_map not (equal m x y))
applied m PtrLt x y = int_of (compared ltb m x y)
applied m PtrGt x y = int_of (compared (λ a b. ltb b a) m x y)
applied m PtrLe x y = int_of (compared leb m x y)
applied m PtrGe x y = int_of (compared (λ a b. leb b a) m x y)
applied m op x y = of_words (on_words op) x y
