-- The numbers of a fault of linking are those of a symbol.
use Rattle.std.proofs.Common.{◌≡◌, ◌≢◌, ℕ, zero, suc, ◌+◌, ◌<◌, List, [], ◌∷◌, Option, None, Some, Bool, true, false, get_or, length, refl, sym, ap, ◌∙◌, subst, arith}
use Rattle.std.specs.Prelude.{cond, not, ◌&&◌, ◌==◌, nat_lt}
use Rattle.std.specs.Option.{option_or}
use Rattle.std.specs.Prelude.{option_and_then}
use Rattle.std.proofs.lemmas.Option.{none-some, same_Some}
use Rattle.cc_base.specs.Faces.{first_answer}
use Rattle.elf_file.specs.Object.{Object, no_symbol}
use Rattle.elf_file.specs.declared.parts.SymbolPart.{SymbolPart}
use Rattle.elf_linker.specs.Linked.{object_at}
use Rattle.elf_linker.specs.Names.{is_definition, is_use, is_object, is_defined, definition, defined_before, size_differs, doubled, unresolved, sized, link_fault}
use Rattle.elf_linker.specs.declared.fault.LinkFault.{LinkFault}
use Rattle.elf_linker.specs.declared.fault.LinkFault.TheVariants as fault
use Rattle.commands.specs.LinkingSteps.{IsThere}

-- a fault that names a symbol names one that there is
abbrev pub IsPlace : List Object → LinkFault → Type 0
IsPlace objects (fault.Doubled number symbol) = IsThere objects number symbol
IsPlace objects (fault.Unresolved number symbol) = IsThere objects number symbol
IsPlace objects (fault.Sized number symbol stated defined) = IsThere objects number symbol
IsPlace objects (fault.Range end) = Unit {0}
IsPlace objects fault.Memory = Unit {0}

-- the first answer is that of some item
record Answered {A R : Type 0} (ask : ℕ → A → Option R) (k : ℕ) (xs : List A) (d : A) (r : R) : Type 0 where
  place : ℕ
  inside : place < length xs
  is : ask (k + place) (get_or xs place d) ≡ Some r

answered_by : {A R : Type 0} (ask : ℕ → A → Option R) (k : ℕ) (x : A) (xs : List A) (d : A) (r : R) → (first_answer ask (k + 1) xs ≡ Some r → Answered ask (k + 1) xs d r) → (o : Option R) → ask k x ≡ o → option_or o (first_answer ask (k + 1) xs) ≡ Some r → Answered ask k (x ∷ xs) d r
answered_by {A} {R} ask k x xs d r more None e h =
    let a = more h in
    record { place = suc a.place; inside = (let i = a.inside in omega (arith, i)); is = ap (λ (n : ℕ). ask n (get_or xs a.place d)) (let z : k + suc a.place ≡ k + 1 + a.place = omega arith in z) ∙ a.is }
answered_by {A} {R} ask k x xs d r more (Some y) e h = record { place = zero; inside = omega arith; is = ap (λ (n : ℕ). ask n x) (let z : k + zero ≡ k = omega arith in z) ∙ e ∙ h }

answered : {A R : Type 0} (ask : ℕ → A → Option R) (k : ℕ) (xs : List A) (d : A) (r : R) → first_answer ask k xs ≡ Some r → Answered ask k xs d r
answered ask k [] d r h = absurd (none-some r h)
answered ask k (x ∷ xs) d r h = answered_by ask k x xs d r (answered ask (k + 1) xs d r) (ask k x) refl h

-- of two answers one is there
either : {R : Type 0} (P : R → Type 0) (a b : Option R) (r : R) → (a ≡ Some r → P r) → (b ≡ Some r → P r) → option_or a b ≡ Some r → P r
either P None b r f g h = g h
either P (Some x) b r f g h = f h

cond_some : (b : Bool) (x r : LinkFault) → cond b (Some x) None ≡ Some r → x ≡ r
cond_some true x r h = same_Some x r h
cond_some false x r h = absurd (none-some r h)

abbrev no_object : Object
no_object = record { sections = []; symbols = []; relocs = [] }

module _ (objects : List Object) where
  there : (number place : ℕ) (ask : ℕ → SymbolPart → Option LinkFault) → number < length objects → (a : ℕ) → a ≡ 0 + place → place < length (object_at objects number).symbols → IsThere objects number a
  there number place ask l a e m = record { object = l; entry = (let z : a ≡ place = omega (arith, e) in subst (λ (n : ℕ). n < length (object_at objects number).symbols) (sym z) m) }

  -- the answer of one symbol to the second and third checks
  size_place : (number place : ℕ) (symbol : SymbolPart) (u : Bool) (o : Option SymbolPart) (r : LinkFault) → IsThere objects number place → cond u (option_and_then (size_differs number place symbol.size) o) None ≡ Some r → IsPlace objects r
  size_place number place symbol false o r t h = absurd (none-some r h)
  size_place number place symbol true None r t h = absurd (none-some r h)
  size_place number place symbol true (Some found) r t h =
      subst (IsPlace objects) (cond_some (nat_lt 0 symbol.size && (is_object found.kind && (nat_lt 0 found.size && not (symbol.size == found.size)))) (fault.Sized number place symbol.size found.size) r h) t

  module _ (r : LinkFault) where
    by_symbol : (ask : ℕ → SymbolPart → Option LinkFault) (number : ℕ) → number < length objects → ((place : ℕ) (symbol : SymbolPart) → IsThere objects number place → ask place symbol ≡ Some r → IsPlace objects r) → first_answer ask 0 (object_at objects number).symbols ≡ Some r → IsPlace objects r
    by_symbol ask number l each h =
        let a = answered ask 0 (object_at objects number).symbols no_symbol r h in
        each (0 + a.place) (get_or (object_at objects number).symbols a.place no_symbol) (there number a.place ask l (0 + a.place) refl a.inside) a.is

    by_object : (ask : ℕ → Object → Option LinkFault) → ((number : ℕ) → number < length objects → ask number (object_at objects number) ≡ Some r → IsPlace objects r) → first_answer ask 0 objects ≡ Some r → IsPlace objects r
    by_object ask each h =
        let a = answered ask 0 objects no_object r h in
        each a.place a.inside (ap (λ (n : ℕ). ask n (object_at objects a.place)) (let z : a.place ≡ 0 + a.place = omega arith in z) ∙ a.is)

    twice : (number : ℕ) → number < length objects → doubled objects number (object_at objects number) ≡ Some r → IsPlace objects r
    twice number l h =
        by_symbol (λ place (symbol : SymbolPart). cond (is_definition symbol && defined_before objects number (object_at objects number).symbols place symbol.name) (Some (fault.Doubled number place)) None) number l
        (λ place symbol t e. subst (IsPlace objects) (cond_some (is_definition symbol && defined_before objects number (object_at objects number).symbols place symbol.name) (fault.Doubled number place) r e) t) h

    nowhere : (number : ℕ) → number < length objects → unresolved objects number (object_at objects number) ≡ Some r → IsPlace objects r
    nowhere number l h =
        by_symbol (λ place (symbol : SymbolPart). cond (is_use symbol && not (is_defined objects symbol.name)) (Some (fault.Unresolved number place)) None) number l
        (λ place symbol t e. subst (IsPlace objects) (cond_some (is_use symbol && not (is_defined objects symbol.name)) (fault.Unresolved number place) r e) t) h

    other_size : (number : ℕ) → number < length objects → sized objects number (object_at objects number) ≡ Some r → IsPlace objects r
    other_size number l h =
        by_symbol (λ place (symbol : SymbolPart). cond (is_use symbol) (option_and_then (size_differs number place symbol.size) (definition objects symbol.name)) None) number l
        (λ place symbol t e. size_place number place symbol (is_use symbol) (definition objects symbol.name) r t e) h

    out_of_range : (b : Bool) (end : ℕ) → cond b (Some (fault.Range end)) None ≡ Some r → IsPlace objects r
    out_of_range b end h = subst (IsPlace objects) (cond_some b (fault.Range end) r h) tt

    pub fault_place : link_fault objects ≡ Some r → IsPlace objects r
    fault_place h =
        either (IsPlace objects) (first_answer (doubled objects) 0 objects) _ r (by_object (doubled objects) twice)
        (either (IsPlace objects) (first_answer (unresolved objects) 0 objects) _ r (by_object (unresolved objects) nowhere)
        (either (IsPlace objects) (first_answer (sized objects) 0 objects) _ r (by_object (sized objects) other_size) (out_of_range _ _))) h

-- a fault that is not want of memory was found
pub found_fault : (objects : List Object) (given known : LinkFault) → given ≡ known → (known ≡ fault.Memory → ⊥) → (given ≢ fault.Memory → link_fault objects ≡ Some given) → link_fault objects ≡ Some known
found_fault objects given known e apart h = h (λ m. apart (sym e ∙ m)) ∙ ap (λ (f : LinkFault). Some f) e

pub not_memory_doubled : (number symbol : ℕ) → fault.Doubled number symbol ≡ fault.Memory → ⊥
not_memory_doubled number symbol e = let clash : fault.Doubled number symbol ≡ fault.Memory = e in cc

pub not_memory_unresolved : (number symbol : ℕ) → fault.Unresolved number symbol ≡ fault.Memory → ⊥
not_memory_unresolved number symbol e = let clash : fault.Unresolved number symbol ≡ fault.Memory = e in cc

pub not_memory_sized : (number symbol stated defined : ℕ) → fault.Sized number symbol stated defined ≡ fault.Memory → ⊥
not_memory_sized number symbol stated defined e = let clash : fault.Sized number symbol stated defined ≡ fault.Memory = e in cc
