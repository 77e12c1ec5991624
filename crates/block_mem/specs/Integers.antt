-- The operators on integers. Where the source's rules give no value there is None.
use Rattle.std.specs.Prelude.{ℕ, ◌/◌, ◌%◌, Bool, cond, not, eqb, ltb, leb, Option, Some, None, int_lt, bit_and, bit_or, bit_xor}
use Rattle.std.specs.Int.{w32, cast_signed}
use Rattle.cc_base.specs.Words.{byte_of, add32, sub32}
use Rattle.block_mem.specs.Arithmetic.{bit, signed_byte, product32, complement32, signed_quotient, signed_remainder, has_no_quotient, shifted_left, shifted_right, shifted_right_signed}
use Rattle.block_mem.specs.declared.operator.Op.{Op}
use Rattle.block_mem.specs.declared.operator.Op.TheVariants.{LowSigned, LowUnsigned, Neg, Flip, Not, Add, Sub, Mul, DivSigned, DivUnsigned, RemSigned, RemUnsigned, And, Or, Xor, Shl, ShrSigned, ShrUnsigned, Eq, Ne, LtSigned, LtUnsigned, GtSigned, GtUnsigned, LeSigned, LeUnsigned, GeSigned, GeUnsigned}

-- whether a word is below another one, both read as signed
abbrev pub below_signed : ℕ → ℕ → Bool
below_signed a b = int_lt (cast_signed w32 a) (cast_signed w32 b)

-- operators with one operand (C11, 6.3.1.3 for the conversions, 6.5.3.3 for the others)
abbrev pub on_word : Op → ℕ → Option ℕ
on_word LowSigned a = Some (signed_byte (byte_of a 0))
on_word LowUnsigned a = Some (byte_of a 0)
on_word Neg a = Some (sub32 0 a)
on_word Flip a = Some (complement32 a)
on_word Not a = Some (bit (eqb a 0))
on_word _ a = None

-- operators with two (C11, 6.5.5 to 6.5.12). The sum, the difference and the product wrap for `int` too, and the
-- shift of a negative `int` has a value, by this project's own rule
abbrev pub on_words : Op → ℕ → ℕ → Option ℕ
on_words Add a b = Some (add32 a b)
on_words Sub a b = Some (sub32 a b)
on_words Mul a b = Some (product32 a b)
on_words DivSigned a b = cond (has_no_quotient a b) None (Some (signed_quotient a b))
on_words DivUnsigned a b = cond (eqb b 0) None (Some (a / b))
on_words RemSigned a b = cond (has_no_quotient a b) None (Some (signed_remainder a b))
on_words RemUnsigned a b = cond (eqb b 0) None (Some (a % b))
on_words And a b = Some (bit_and a b)
on_words Or a b = Some (bit_or a b)
on_words Xor a b = Some (bit_xor a b)
on_words Shl a b = cond (ltb b 32) (Some (shifted_left a b)) None
on_words ShrSigned a b = cond (ltb b 32) (Some (shifted_right_signed a b)) None
on_words ShrUnsigned a b = cond (ltb b 32) (Some (shifted_right a b)) None
on_words Eq a b = Some (bit (eqb a b))
on_words Ne a b = Some (bit (not (eqb a b)))
on_words LtSigned a b = Some (bit (below_signed a b))
on_words LtUnsigned a b = Some (bit (ltb a b))
on_words GtSigned a b = Some (bit (below_signed b a))
on_words GtUnsigned a b = Some (bit (ltb b a))
on_words LeSigned a b = Some (bit (not (below_signed b a)))
on_words LeUnsigned a b = Some (bit (leb a b))
on_words GeSigned a b = Some (bit (not (below_signed a b)))
on_words GeUnsigned a b = Some (bit (leb b a))
on_words _ a b = None
