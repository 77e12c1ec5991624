-- An operator on two values has the value that the operator of the source has, and costs no more: the address of an object takes a
-- constant number of elements up.
use Rattle.std.specs.Prelude.{◌≡◌, ℕ, ◌+◌, ◌*◌, ◌%◌, ◌≤◌, get_or, Option, Some, None, option_map}
use Rattle.std.proofs.Common.{refl, ap, sym, ◌∙◌, arith}
use Rattle.cc_base.specs.Words.{add32}
use Rattle.block_mem.specs.Operators.{applied}
use Rattle.block_mem.specs.declared.value.BlockName.{BlockName}
use Rattle.block_mem.specs.declared.value.Value.{Value}
use Rattle.block_mem.specs.declared.value.Value.TheVariants.{Int, Ptr}
use Rattle.block_mem.specs.declared.operator.Op.{Op}
use Rattle.block_mem.specs.declared.operator.Op.TheVariants as o
use Rattle.clight_sem.specs.Values.{of_two}
use Rattle.core_lang.specs.declared.syntax.Expression.{Expression as Core, out-Expression}
use Rattle.core_lang.specs.declared.syntax.Expression.TheOpen as parts
use Rattle.core_lang.specs.declared.syntax.Expression.TheFolds.{map-Expression as map-core, fold_out-Expression as fold_out-core}
use Rattle.core_lang.specs.declared.syntax.Expression.TheVariants as core
use Rattle.core_lang.specs.Meaning.{Scene, behind, expression_step, value_of}
use Rattle.core_lang.specs.Prices.{expression_price}
use Rattle.core_lang.specs.laws.Opened.{value_address, value_binary, price_address, price_binary}
use Rattle.core_gen.specs.Translation.{element_of, bytes_by, operated_by, operated}

-- the price

operated_price_by : (bytes : Option ℕ) (z : parts.Expression-F Core) (op : Op) (x y : Core) → expression_price (operated_by bytes z op x y) ≤ 9 + expression_price x + expression_price y
operated_price_by None z op x y = let a = price_binary op x y in omega (arith, a)
operated_price_by (Some bytes) (parts.Expression-F.Address symbol plus) op x y = let a = price_address symbol (add32 plus bytes) in omega (arith, a)
operated_price_by (Some bytes) (parts.Expression-F.Constant m) op x y = let a = price_binary op x y in omega (arith, a)
operated_price_by (Some bytes) (parts.Expression-F.Temporary m) op x y = let a = price_binary op x y in omega (arith, a)
operated_price_by (Some bytes) (parts.Expression-F.Local m) op x y = let a = price_binary op x y in omega (arith, a)
operated_price_by (Some bytes) (parts.Expression-F.Load width inner) op x y = let a = price_binary op x y in omega (arith, a)
operated_price_by (Some bytes) (parts.Expression-F.Unary other inner) op x y = let a = price_binary op x y in omega (arith, a)
operated_price_by (Some bytes) (parts.Expression-F.Binary other inner second) op x y = let a = price_binary op x y in omega (arith, a)

pub operated_price : (op : Op) (x y : Core) → expression_price (operated op x y) ≤ 9 + expression_price x + expression_price y
operated_price op x y = operated_price_by (bytes_by (element_of op) (out-Expression y)) (out-Expression x) op x y

-- the value

element_is : (op : Op) (size : ℕ) → element_of op ≡ Some size → op ≡ o.PtrAdd size
element_is o.Keep size h = cc
element_is o.LowSigned size h = cc
element_is o.LowUnsigned size h = cc
element_is o.Neg size h = cc
element_is o.Flip size h = cc
element_is o.Not size h = cc
element_is o.Add size h = cc
element_is o.Sub size h = cc
element_is o.Mul size h = cc
element_is o.DivSigned size h = cc
element_is o.DivUnsigned size h = cc
element_is o.RemSigned size h = cc
element_is o.RemUnsigned size h = cc
element_is o.And size h = cc
element_is o.Or size h = cc
element_is o.Xor size h = cc
element_is o.Shl size h = cc
element_is o.ShrSigned size h = cc
element_is o.ShrUnsigned size h = cc
element_is o.Eq size h = cc
element_is o.Ne size h = cc
element_is o.LtSigned size h = cc
element_is o.LtUnsigned size h = cc
element_is o.GtSigned size h = cc
element_is o.GtUnsigned size h = cc
element_is o.LeSigned size h = cc
element_is o.LeUnsigned size h = cc
element_is o.GeSigned size h = cc
element_is o.GeUnsigned size h = cc
element_is o.PtrNot size h = cc
element_is o.PtrEq size h = cc
element_is o.PtrNe size h = cc
element_is o.PtrLt size h = cc
element_is o.PtrGt size h = cc
element_is o.PtrLe size h = cc
element_is o.PtrGe size h = cc
element_is (o.PtrAdd z) size h = cc
element_is (o.PtrSub z) size h = cc
element_is (o.PtrDiff z) size h = cc

wraps : (a n : ℕ) → add32 a (n % 4294967296) ≡ add32 a n
wraps a n = omega arith

-- the value of an expression that looks like this
value_out : (s : Scene) (e : Core) (z : parts.Expression-F Core) → out-Expression e ≡ z → value_of s e ≡ expression_step s (map-core Core (Option Value) (value_of s) z)
value_out s e z h = fold_out-core (Option Value) (expression_step s) e ∙ ap (λ (q : parts.Expression-F Core). expression_step s (map-core Core (Option Value) (value_of s) q)) h

-- what is known where elements of a size are added, whose number is this value
record Adds (size : Option ℕ) (b : Value) (bytes : ℕ) : Type 0 where
  number : ℕ
  element : ℕ
  sized : size ≡ Some element
  counted : b ≡ Int number
  is : bytes ≡ (number * element) % 4294967296

module _ (s : Scene) (op : Op) (x y : Core) (a b v : Value) (h : value_of s x ≡ Some a) (i : value_of s y ≡ Some b) (k : applied s.memory op a b ≡ Some v) where
  as_it_is : value_of s (core.Binary op x y) ≡ Some v
  as_it_is =
      value_binary s op x y
      ∙ ap (λ (q : Option Value). of_two s.memory op q (value_of s y)) h
      ∙ ap (of_two s.memory op (Some a)) i
      ∙ k

  adds_by : (size : Option ℕ) (z : parts.Expression-F Core) (bytes : ℕ) → out-Expression y ≡ z → bytes_by size z ≡ Some bytes → Adds size b bytes
  adds_by None z bytes e f = cc
  adds_by (Some size) (parts.Expression-F.Constant number) bytes e f =
      let g : Some (Int number) ≡ Some b = sym (value_out s y (parts.Expression-F.Constant number) e) ∙ i in
      record { number = number; element = size; sized = refl; counted = cc; is = cc }
  adds_by (Some size) (parts.Expression-F.Temporary m) bytes e f = cc
  adds_by (Some size) (parts.Expression-F.Address symbol plus) bytes e f = cc
  adds_by (Some size) (parts.Expression-F.Local m) bytes e f = cc
  adds_by (Some size) (parts.Expression-F.Load width inner) bytes e f = cc
  adds_by (Some size) (parts.Expression-F.Unary other inner) bytes e f = cc
  adds_by (Some size) (parts.Expression-F.Binary other inner second) bytes e f = cc

  address_added : (symbol plus bytes : ℕ) (block : Option BlockName) → option_map (behind plus) block ≡ Some a → Adds (element_of op) b bytes → option_map (behind (add32 plus bytes)) block ≡ Some v
  address_added symbol plus bytes None e f = cc
  address_added symbol plus bytes (Some c) e f =
      let from : Ptr c plus ≡ a = cc in
      ap (λ (q : ℕ). Some (Ptr c (add32 plus q))) f.is
      ∙ ap (λ (q : ℕ). Some (Ptr c q)) (wraps plus (f.number * f.element))
      ∙ ap (λ (q : Value). applied s.memory (o.PtrAdd f.element) q (Int f.number)) from
      ∙ ap (applied s.memory (o.PtrAdd f.element) a) (sym f.counted)
      ∙ ap (λ (q : Op). applied s.memory q a b) (sym (element_is op f.element f.sized))
      ∙ k

  operated_value_by : (bytes : Option ℕ) (z : parts.Expression-F Core) → bytes_by (element_of op) (out-Expression y) ≡ bytes → out-Expression x ≡ z → value_of s (operated_by bytes z op x y) ≡ Some v
  operated_value_by None z e f = as_it_is
  operated_value_by (Some bytes) (parts.Expression-F.Address symbol plus) e f =
      value_address s symbol (add32 plus bytes)
      ∙ address_added symbol plus bytes (get_or s.objects symbol None) (sym (value_out s x (parts.Expression-F.Address symbol plus) f) ∙ h) (adds_by (element_of op) (out-Expression y) bytes refl e)
  operated_value_by (Some bytes) (parts.Expression-F.Constant m) e f = as_it_is
  operated_value_by (Some bytes) (parts.Expression-F.Temporary m) e f = as_it_is
  operated_value_by (Some bytes) (parts.Expression-F.Local m) e f = as_it_is
  operated_value_by (Some bytes) (parts.Expression-F.Load width inner) e f = as_it_is
  operated_value_by (Some bytes) (parts.Expression-F.Unary other inner) e f = as_it_is
  operated_value_by (Some bytes) (parts.Expression-F.Binary other inner second) e f = as_it_is

  pub operated_value : value_of s (operated op x y) ≡ Some v
  operated_value = operated_value_by (bytes_by (element_of op) (out-Expression y)) (out-Expression x) refl refl
