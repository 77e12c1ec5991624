-- Results and flags of the operators (Intel SDM, volume 1, 3.4.3.1 for the flags, and volume 2 under ADD, SUB, CMP, AND, OR,
-- XOR, TEST, SAL/SAR/SHL/SHR).
use Rattle.std.specs.Prelude.{ℕ, ◌+◌, ◌*◌, ◌/◌, ◌%◌, ◌^◌, ◌+ℤ◌, ◌-ℤ◌, Bool, false, not, ◌==◌, nat_le, nat_lt, bit_and, bit_or, bit_xor}
use Rattle.std.specs.Int.{w32, cast_unsigned, int_shr}
use Rattle.cc_base.specs.Words.{add32, sub32}
use Rattle.i386_code.specs.declared.instr.AluOp.{AluOp}
use Rattle.i386_code.specs.declared.instr.AluOp.TheVariants.{Add, Sub, And, Or, Xor, Cmp, Test}
use Rattle.i386_code.specs.declared.instr.ShiftOp.{ShiftOp}
use Rattle.i386_code.specs.declared.instr.ShiftOp.TheVariants.{Shl, Shr, Sar}
use Rattle.i386_arith.specs.declared.operators.Computed.{Computed}
use Rattle.i386_arith.specs.Words.{signed, is_signed_word}

-- A result with its flags: ZF is set where it is 0, and SF is its highest bit.
abbrev pub computed : ℕ → Bool → Bool → Computed
computed word carry overflow = record { word = word; flags = record { zero = word == 0; sign = nat_le 2147483648 word; carry = carry; overflow = overflow } }

-- CF is set where the sum takes more than 32 bits, and OF where the sum of the signed numbers is no signed word.
abbrev pub sum : ℕ → ℕ → Computed
sum a b = computed (add32 a b) (nat_le 4294967296 (a + b)) (not (is_signed_word (signed a +ℤ signed b)))

-- CF is set where a borrow is needed, and OF where the difference of the signed numbers is no signed word.
abbrev pub difference : ℕ → ℕ → Computed
difference a b = computed (sub32 a b) (nat_lt a b) (not (is_signed_word (signed a -ℤ signed b)))

-- CF and OF are cleared
abbrev pub bitwise : ℕ → Computed
bitwise word = computed word false false

-- what an operation makes of its first and second operand
abbrev pub operated : AluOp → ℕ → ℕ → Computed
operated Add a b = sum a b
operated Sub a b = difference a b
operated Cmp a b = difference a b
operated And a b = bitwise (bit_and a b)
operated Test a b = bitwise (bit_and a b)
operated Or a b = bitwise (bit_or a b)
operated Xor a b = bitwise (bit_xor a b)

-- A word shifted by a count, of which the low five bits are taken. Shl and Shr bring in zeros, Sar the sign.
abbrev pub shifted : ShiftOp → ℕ → ℕ → ℕ
shifted Shl word count = (word * 2 ^ (count % 32)) % 2 ^ 32
shifted Shr word count = word / 2 ^ (count % 32)
shifted Sar word count = cast_unsigned w32 (int_shr (signed word) (count % 32))
