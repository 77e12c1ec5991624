-- Where objects of units are linked, the start code and `putbyte` stand where the runtime is placed.
use Rattle.std.specs.Prelude.{◌≡◌, ◌⊎◌, ℕ, ◌+◌, ◌-◌, ◌%◌, ◌<◌, ◌≤◌, ◌^◌, List, [], ◌∷◌, ◌++◌, length, get_or, All, None, false, codes}
use Rattle.std.proofs.Common.{arith, ◌∙◌, ap, sym, refl, subst, inl}
use Rattle.std.proofs.lemmas.List.Elements.{All-cons}
use Rattle.cc_base.specs.Words.{word_bytes}
use Rattle.second_form.specs.declared.second_items.Item.{Item}
use Rattle.elf_file.specs.Object.{Object, object_of, symbol_of}
use Rattle.elf_file.specs.declared.parts.RelocPart.{RelocPart}
use Rattle.elf_file.specs.declared.parts.RelocKind.TheVariants.{Rel}
use Rattle.elf_file.specs.declared.parts.SymbolPlace.TheVariants.{At}
use Rattle.elf_file.specs.declared.image.ImageParts.{ImageParts}
use Rattle.elf_linker.specs.Placement.{text_address}
use Rattle.elf_linker.specs.Linked.{Linked, IsDefinedAt, Covers, object_at}
use Rattle.elf_linker.specs.Names.{link_fault}
use Rattle.elf_linker.specs.Runtime.{start_text, getbyte_text, putbyte_text, runtime_text, runtime}
use Rattle.i386_steps.specs.laws.StackAndCode.{Here}
use Rattle.second_code.specs.LinkedObjects.{linked_objects}
use Rattle.second_code.specs.Code.{putbyte_code, start_code, call_code}
use Rattle.second_code.specs.Parts.{Use}
use Rattle.second_code.specs.Placed.{IsRelocated}
use Rattle.second_code.proofs.Placing.{On, on-join, on-here, piece, called}
use Rattle.second_code.proofs.CallSteps.{exit_code}
use Rattle.second_code.proofs.SharedNames.{shared_address, shared_address-is}
use Rattle.second_code.proofs.PlacedUnits.{RelocatedAs, PlacedAs, placed_as, runtime_object_at, objects_counted, origin_of, code_short, inside_code, word_same}

-- the call of `main`, as a call of a text
abbrev main_call : Use
main_call = record { callee = codes "main"; place = 1 }

abbrev main_reloc : RelocPart
main_reloc = record { section = 1; offset = 1; symbol = 2; kind = Rel }

within : (origin long place : ℕ) → origin + 94 ≤ long → place ≤ 94 → origin + place ≤ long
within origin long place a b = omega (arith, a, b)

module _ (units : List (List Item)) (image : ImageParts) (linked : Linked (linked_objects units) image) (fine : link_fault (linked_objects units) ≡ None) where
  abbrev objects : List Object
  objects = linked_objects units

  abbrev last : ℕ
  last = length units

  abbrev origin : ℕ
  origin = origin_of units last

  is_last : last < length objects
  is_last = omega (arith, objects_counted units)

  placed : PlacedAs objects linked.code last (object_of runtime)
  placed = placed_as objects linked.code last (object_of runtime) (runtime_object_at units _) (linked.placed last is_last)

  text_there : (0x08049000 ≤ text_address objects last) × (origin + 94 ≤ length linked.code)
  text_there = inside_code units image linked fine last (object_of runtime) is_last (runtime_object_at units _)

  pub runtime_inside : origin + 94 ≤ length linked.code
  runtime_inside = text_there.1

  runtime_address : text_address objects last ≡ 0x08049000 + origin
  runtime_address = moved (text_address objects last) text_there.0
    where
      moved : (at : ℕ) → 0x08049000 ≤ at → at ≡ 0x08049000 + (at - 0x08049000)
      moved at l = omega (arith, l)

  -- a function of the runtime is the definition of its name
  runtime_defines : (name : List ℕ) (symbol value : ℕ) → symbol < 5 → (symbol_of (object_of runtime) symbol).local ≡ false → (symbol_of (object_of runtime) symbol).name ≡ name
      → (symbol_of (object_of runtime) symbol).place ≡ At 1 → (symbol_of (object_of runtime) symbol).value ≡ value → IsDefinedAt objects name (0x08049000 + origin + value)
  runtime_defines name symbol value inside shown named place is =
      let e : object_at objects last ≡ object_of runtime = runtime_object_at units _ in
      let back = sym e in
      let L : Object → Type 0 = λ o. symbol < length o.symbols in
      let S : Object → Type 0 = λ o. (symbol_of o symbol).local ≡ false in
      let N : Object → Type 0 = λ o. (symbol_of o symbol).name ≡ name in
      let A : Object → Type 0 = λ o. ((symbol_of o symbol).place ≡ At 1) × (0x08049000 + origin + value ≡ text_address objects last + (symbol_of o symbol).value) in
      record {
        number = last;
        symbol = symbol;
        section = 1;
        in_objects = is_last;
        in_table = subst L back inside;
        shown = subst S back shown;
        named = subst N back named;
        at = subst A back (place, ap (λ (n : ℕ). n + value) (sym runtime_address) ∙ ap (λ (n : ℕ). text_address objects last + n) (sym is));
      }

  pub start_defined : IsDefinedAt objects (codes "_start") (0x08049000 + origin + 0)
  start_defined = runtime_defines (codes "_start") 1 0 (omega arith) refl refl refl refl

  pub putbyte_defined : IsDefinedAt objects (codes "putbyte") (0x08049000 + origin + 70)
  putbyte_defined = runtime_defines (codes "putbyte") 4 70 (omega arith) refl refl refl refl

  abbrev main_at : ℕ
  main_at = shared_address objects (codes "main") % 4294967296

  -- the runtime's one call goes to `main`
  main_word : IsRelocated linked.code origin (λ name. main_at) main_call
  main_word =
      let r : RelocatedAs objects linked.code last (object_of runtime) main_reloc = placed.relocated 0 main_reloc (omega arith) in
      let named : main_at ≡ r.address % 4294967296 = ap (λ (n : ℕ). n % 4294967296) (shared_address-is objects (codes "main") fine r.address r.has) in
      let place : text_address objects last + 1 ≡ 0x08049000 + (origin + 1) = moved (text_address objects last) origin runtime_address in
      r.holds ∙ ap word_bytes (word_same r.address main_at 0xfffffffc (text_address objects last + 1) (0x08049000 + (origin + 1)) refl named place)
    where
      moved : (at from : ℕ) → at ≡ 0x08049000 + from → at + 1 ≡ 0x08049000 + (from + 1)
      moved at from e = omega (arith, e)

  none : (P : Use → Type 0) → All P []
  none P k d h = absurd (omega (arith, h))

  calls_there : All (IsRelocated linked.code origin (λ name. main_at)) (main_call ∷ [])
  calls_there = All-cons (IsRelocated linked.code origin (λ name. main_at)) main_call [] main_word (none _)

  other_bytes : (byte : ℕ) → byte < 94 → All (λ call. ¬ ((call.place ≤ byte) × (byte < call.place + 4))) (main_call ∷ []) → get_or linked.code (origin + byte) 0 ≡ get_or runtime_text byte 0
  other_bytes byte h apart =
      placed.others byte h (All-cons (λ (reloc : RelocPart). ¬ Covers byte reloc) main_reloc [] (apart 0 main_call (omega arith)) (λ k d l. absurd (omega (arith, l))))

  bytes_there : (front xs behind : List ℕ) (from : ℕ) → from ≡ length front → runtime_text ≡ front ++ (xs ++ behind) → 5 ≤ from → On linked.code (origin + from) xs
  bytes_there front xs behind from f t l =
      piece linked.code origin (λ name. main_at) runtime_text (main_call ∷ []) text_there.1 calls_there other_bytes front xs behind from f t
      (All-cons (λ (call : Use). (call.place + 4 ≤ from) ⊎ (from + length xs ≤ call.place)) main_call [] (inl (let m : 1 + 4 ≤ from = omega (arith, l) in m)) (none _))

  start_on : On linked.code (origin + 0) (start_code main_at (0x08049000 + (origin + 0) + 5))
  start_on =
      let call : On linked.code (origin + 0) (call_code main_at (0x08049000 + (origin + 0) + 5)) =
      called linked.code origin (λ name. main_at) runtime_text (main_call ∷ []) text_there.1 calls_there other_bytes (record { function = λ unit name. main_at; putbyte = main_at })
      (λ name. small (shared_address objects (codes "main"))) refl (code_short units image linked fine) [] [] main_call 0 (0x08049000 + (origin + 0)) []
      (0xfc ∷ 0xff ∷ 0xff ∷ 0xff ∷ 0x89 ∷ 0xc3 ∷ 0xb8 ∷ 1 ∷ 0 ∷ 0 ∷ 0 ∷ 0xcd ∷ 0x80 ∷ (getbyte_text ++ putbyte_text)) refl refl refl refl (omega arith) refl (none _) (none _) in
      let exit : On linked.code (origin + 5) exit_code = bytes_there (0xe8 ∷ 0xfc ∷ 0xff ∷ 0xff ∷ 0xff ∷ []) exit_code (getbyte_text ++ putbyte_text) 5 refl refl (omega arith) in
      let P : ℕ → Type 0 = λ n. On linked.code n exit_code in
      on-join linked.code (call_code main_at (0x08049000 + (origin + 0) + 5)) exit_code (origin + 0) call (subst P (let n : origin + 5 ≡ origin + 0 + 5 = omega arith in n) exit)
    where
      small : (n : ℕ) → n % 4294967296 < 2 ^ 32
      small n = omega arith

  -- the code from an address on
  pub start_here : (behind : List ℕ) × Here linked.code (0x08049000 + origin) (start_code main_at (0x08049000 + origin + 5) ++ behind)
  start_here =
      let P : ℕ → Type 0 = λ n. (behind : List ℕ) × Here linked.code (0x08049000 + n) (start_code main_at (0x08049000 + n + 5) ++ behind) in
      let room = text_there.1 in
      subst P (let n : origin + 0 ≡ origin = omega arith in n) (on-here linked.code (start_code main_at (0x08049000 + (origin + 0) + 5)) (origin + 0) (within origin (length linked.code) 0 room (omega arith)) start_on)

  pub putbyte_here : (behind : List ℕ) × Here linked.code (0x08049000 + (origin + 70)) (putbyte_code ++ behind)
  putbyte_here =
      let room = text_there.1 in
      on-here linked.code putbyte_code (origin + 70) (within origin (length linked.code) 70 room (omega arith)) (bytes_there (start_text ++ getbyte_text) putbyte_text [] 70 refl refl (omega arith))
