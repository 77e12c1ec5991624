-- Where nothing is wrong with the names of objects, a name that other objects see has one address.
use Rattle.std.specs.Prelude.{◌≡◌, ◌⊎◌, ℕ, zero, suc, ◌+◌, ◌<◌, List, [], length, take, get_or, Option, Some, None, Bool, true, false, not, ◌&&◌, cond}
use Rattle.std.specs.Str.{bytes_eq}
use Rattle.std.proofs.Common.{arith, ◌∙◌, ap, sym, refl, inl, inr}
use Rattle.std.proofs.lemmas.Option.{none-some}
use Rattle.std.proofs.lemmas.List.{length-take, get_or-take}
use Rattle.std.proofs.lemmas.List.Folds.{list_any_at}
use Rattle.std.proofs.lemmas.Slice.Eq.{bytes_eq-Decides}
use Rattle.cc_base.specs.Faces.{first_answer}
use Rattle.elf_file.specs.Object.{Object, no_symbol, symbol_of}
use Rattle.elf_file.specs.declared.parts.SymbolPart.{SymbolPart}
use Rattle.elf_file.specs.declared.parts.SymbolPlace.{SymbolPlace}
use Rattle.elf_file.specs.declared.parts.SymbolPlace.TheVariants.{Undefined, At, Absolute}
use Rattle.elf_linker.specs.declared.fault.LinkFault.{LinkFault}
use Rattle.elf_linker.specs.declared.fault.LinkFault.TheVariants.{Doubled}
use Rattle.elf_linker.specs.Placement.{section_address}
use Rattle.elf_linker.specs.Names.{is_in_section, is_definition, defines, all_symbols, defined_before, doubled, link_fault}
use Rattle.elf_linker.specs.Linked.{object_at, IsDefinedAt}
use Rattle.second_code.proofs.FirstAnswers.{or_none, first_none, any_first, any_second, any_before}

no_object : Object
no_object = record { sections = []; symbols = []; relocs = [] }

abbrev symbol_at : List Object → ℕ → ℕ → SymbolPart
symbol_at objects number symbol = symbol_of (object_at objects number) symbol

-- a definition that is seen
pub defines_when : (name : List ℕ) (s : SymbolPart) (section : ℕ) → s.local ≡ false → s.place ≡ At section → s.name ≡ name → defines name s ≡ true
defines_when name s section l p n =
    ap (λ (b : Bool). (not b && is_in_section s.place) && bytes_eq s.name name) l ∙ ap (λ (at : SymbolPlace). is_in_section at && bytes_eq s.name name) p ∙ (bytes_eq-Decides s.name name).1 n

definition_when : (s : SymbolPart) (section : ℕ) → s.local ≡ false → s.place ≡ At section → is_definition s ≡ true
definition_when s section l p = ap (λ (b : Bool). not b && is_in_section s.place) l ∙ ap is_in_section p

-- tests
pub no_answer : (b : Bool) (fault : LinkFault) → cond b (Some fault) None ≡ None → b ≡ false
no_answer true fault e = absurd (none-some fault (sym e))
no_answer false fault e = refl

second_fails : (a b : Bool) → (a && b) ≡ false → a ≡ true → b ≡ false
second_fails true b e t = e
second_fails false b e t = let clash : false ≡ true = t in cc

never_both : (b : Bool) → b ≡ true → b ≡ false → ⊥
never_both b t f = let clash : true ≡ false = sym t ∙ f in cc

-- one number is below the other, or they are the same
pub order : (a b : ℕ) → (a < b) ⊎ ((a ≡ b) ⊎ (b < a))
order zero zero = inr (inl refl)
order zero (suc b) = inl (omega arith)
order (suc a) zero = inr (inr (omega arith))
order (suc a) (suc b) = more a b (order a b)
  where
    more : (a b : ℕ) → (a < b) ⊎ ((a ≡ b) ⊎ (b < a)) → (suc a < suc b) ⊎ ((suc a ≡ suc b) ⊎ (suc b < suc a))
    more a b (inl l) = inl (omega (arith, l))
    more a b (inr (inl e)) = inr (inl (ap suc e))
    more a b (inr (inr l)) = inr (inr (omega (arith, l)))

abbrev section_in : SymbolPlace → ℕ
section_in Undefined = 0
section_in (At section) = section
section_in Absolute = 0

module _ (objects : List Object) (fine : link_fault objects ≡ None) where
  -- an earlier symbol does not define the name of a definition
  not_before : (number symbol : ℕ) → number < length objects → symbol < length (object_at objects number).symbols → is_definition (symbol_at objects number symbol) ≡ true
      → defined_before objects number (object_at objects number).symbols symbol (symbol_at objects number symbol).name ≡ false
  not_before number symbol h k d =
      let none : first_answer (doubled objects) 0 objects ≡ None = (or_none (first_answer (doubled objects) 0 objects) _ fine).0 in
      let object : doubled objects number (object_at objects number) ≡ None = first_none (doubled objects) 0 objects none number number (record { sections = []; symbols = []; relocs = [] }) (omega arith) h in
      let ask : ℕ → SymbolPart → Option LinkFault = λ place s. cond (is_definition s && defined_before objects number (object_at objects number).symbols place s.name) (Some (Doubled number place)) None in
      let answer : ask symbol (symbol_at objects number symbol) ≡ None = first_none ask 0 (object_at objects number).symbols object symbol symbol no_symbol (omega arith) k in
      second_fails (is_definition (symbol_at objects number symbol)) _ (no_answer _ (Doubled number symbol) answer) d

  -- a definition of the name in an earlier object
  no_earlier : (n m i j : ℕ) → n < length objects → m < length objects → i < length (object_at objects n).symbols → j < length (object_at objects m).symbols → n < m
      → is_definition (symbol_at objects m j) ≡ true → defines (symbol_at objects m j).name (symbol_at objects n i) ≡ true → ⊥
  no_earlier n m i j hn hm hi hj l d t =
      let name = (symbol_at objects m j).name in
      never_both (defined_before objects m (object_at objects m).symbols j name)
      (any_first (defines name) (all_symbols (take m objects)) (take j (object_at objects m).symbols)
      (any_before (λ object. object.symbols) (defines name) objects n m i (record { sections = []; symbols = []; relocs = [] }) no_symbol l hn hi t))
      (not_before m j hm hj d)

  -- and one before it in its own object
  no_sooner : (n m i j : ℕ) → m < length objects → j < length (object_at objects m).symbols → n ≡ m → i < j
      → is_definition (symbol_at objects m j) ≡ true → defines (symbol_at objects m j).name (symbol_at objects n i) ≡ true → ⊥
  no_sooner n m i j hm hj e l d t =
      let name = (symbol_at objects m j).name in
      let symbols = (object_at objects m).symbols in
      let here : defines name (get_or (take j symbols) i no_symbol) ≡ true = ap (defines name) (get_or-take j symbols i no_symbol l ∙ ap (λ (x : ℕ). symbol_at objects x i) (sym e)) ∙ t in
      never_both (defined_before objects m symbols j name)
      (any_second (defines name) (all_symbols (take m objects)) (take j symbols) (list_any_at (defines name) (take j symbols) i no_symbol (omega (arith, l, hj, length-take j symbols)) here))
      (not_before m j hm hj d)

  module _ (name : List ℕ) where
    -- two definitions are the same symbol
    same_symbol : (x y : ℕ) (a : IsDefinedAt objects name x) (b : IsDefinedAt objects name y) → a.number ≡ b.number → a.symbol ≡ b.symbol → x ≡ y
    same_symbol x y a b n s =
        let one = symbol_at objects a.number a.symbol in
        let other = symbol_at objects b.number b.symbol in
        let symbols : one ≡ other = λ i. symbol_at objects (n i) (s i) in
        let sections : a.section ≡ b.section = ap section_in (sym a.at.0 ∙ ap (λ (p : SymbolPart). p.place) symbols ∙ b.at.0) in
        a.at.1 ∙ (λ i. section_address objects (n i) (sections i) + (symbols i).value) ∙ sym b.at.1

    defines_as : (x y : ℕ) (a : IsDefinedAt objects name x) (b : IsDefinedAt objects name y) → defines (symbol_at objects b.number b.symbol).name (symbol_at objects a.number a.symbol) ≡ true
    defines_as x y a b = defines_when (symbol_at objects b.number b.symbol).name (symbol_at objects a.number a.symbol) a.section a.shown a.at.0 (a.named ∙ sym b.named)

    is_one : (x y : ℕ) (a : IsDefinedAt objects name x) → is_definition (symbol_at objects a.number a.symbol) ≡ true
    is_one x y a = definition_when (symbol_at objects a.number a.symbol) a.section a.shown a.at.0

    by_symbol : (x y : ℕ) (a : IsDefinedAt objects name x) (b : IsDefinedAt objects name y) → a.number ≡ b.number → (a.symbol < b.symbol) ⊎ ((a.symbol ≡ b.symbol) ⊎ (b.symbol < a.symbol)) → x ≡ y
    by_symbol x y a b e (inl l) = absurd (no_sooner a.number b.number a.symbol b.symbol b.in_objects b.in_table e l (is_one y x b) (defines_as x y a b))
    by_symbol x y a b e (inr (inl s)) = same_symbol x y a b e s
    by_symbol x y a b e (inr (inr l)) = absurd (no_sooner b.number a.number b.symbol a.symbol a.in_objects a.in_table (sym e) l (is_one x y a) (defines_as y x b a))

    by_object : (x y : ℕ) (a : IsDefinedAt objects name x) (b : IsDefinedAt objects name y) → (a.number < b.number) ⊎ ((a.number ≡ b.number) ⊎ (b.number < a.number)) → x ≡ y
    by_object x y a b (inl l) = absurd (no_earlier a.number b.number a.symbol b.symbol a.in_objects b.in_objects a.in_table b.in_table l (is_one y x b) (defines_as x y a b))
    by_object x y a b (inr (inl e)) = by_symbol x y a b e (order a.symbol b.symbol)
    by_object x y a b (inr (inr l)) = absurd (no_earlier b.number a.number b.symbol a.symbol b.in_objects a.in_objects b.in_table a.in_table l (is_one x y a) (defines_as y x b a))

    by_number : (x y : ℕ) (a : IsDefinedAt objects name x) (b : IsDefinedAt objects name y) → (a.number < b.number) ⊎ ((a.number ≡ b.number) ⊎ (b.number < a.number)) → a.number ≡ b.number
    by_number x y a b (inl l) = absurd (no_earlier a.number b.number a.symbol b.symbol a.in_objects b.in_objects a.in_table b.in_table l (is_one y x b) (defines_as x y a b))
    by_number x y a b (inr (inl e)) = e
    by_number x y a b (inr (inr l)) = absurd (no_earlier b.number a.number b.symbol a.symbol b.in_objects a.in_objects b.in_table a.in_table l (is_one x y a) (defines_as y x b a))

    pub one_object : (x y : ℕ) (a : IsDefinedAt objects name x) (b : IsDefinedAt objects name y) → a.number ≡ b.number
    one_object x y a b = by_number x y a b (order a.number b.number)

    pub one_address : (x y : ℕ) → IsDefinedAt objects name x → IsDefinedAt objects name y → x ≡ y
    one_address x y a b = by_object x y a b (order a.number b.number)
