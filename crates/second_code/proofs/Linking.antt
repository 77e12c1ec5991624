-- Linked units of the second form are what their image does.
use Rattle.std.specs.Prelude.{◌≡◌, ℕ, zero, suc, ◌+◌, ◌<◌, ◌≤◌, ◌^◌, List, [], ◌∷◌, ◌++◌, length, All, Option, Some, None, Bool, true, false, not, ◌&&◌, codes}
use Rattle.std.specs.Str.{bytes_eq}
use Rattle.std.proofs.Common.{arith, ◌∙◌, ap, sym, refl, subst, length-append}
use Rattle.std.proofs.lemmas.Option.{none-some, same_Some}
use Rattle.std.proofs.lemmas.Slice.Eq.{bytes_eq-Decides}
use Rattle.std.proofs.lemmas.List.Elements.{All-head, All-tail}
use Rattle.second_form.specs.declared.second_items.SmallStmt.{SmallStmt}
use Rattle.second_form.specs.declared.second_items.SmallStmt.TheVariants.{Put, Call, Return}
use Rattle.second_form.specs.declared.second_items.Item.{Item}
use Rattle.second_form.specs.SecondForm.{Fits, IsBody, IsBodyIfAny, IsItem, StaticAlike, IsAt}
use Rattle.second_code.specs.Parts.{body_of, text_of}
use Rattle.cc_base.specs.Words.{add32}
use Rattle.i386_machine.specs.Runs.{seen_of}
use Rattle.i386_machine.specs.Runs.{after as machine_after}
use Rattle.pass_core.specs.Refines.{Refines}
use Rattle.i386_steps.specs.laws.StackAndCode.{Here, Whole, skip}
use Rattle.i386_steps.specs.laws.Hops.{machine_at, words}
use Rattle.second_code.proofs.CallSteps.{exit_code}
use Rattle.second_code.specs.Code.{Places, body_code, call_code}
use Rattle.second_code.specs.LinkedUnits.{unit_at, IsAddressOf, LinkedUnits}
use Rattle.second_code.proofs.SecondRefines.{NumbersFit, Good, CodeAt, second_refines}
use Rattle.second_code.proofs.Placing.{Stands, placed_there, on-here}
use Rattle.second_form.specs.SecondRun.{Meaning, own, shown, body_or, meaning_or, shown_by, means, second_after}

-- a definition that a unit shows is one of an item that is not static
pub record Shows (items : List Item) (name : List ℕ) : Type 0 where
  pub place : ℕ
  pub item : Item
  pub at : IsAt items place item
  pub global : item.local ≡ false
  pub named : bytes_eq item.name name ≡ true

shows_after : (first : Item) (items : List Item) (name : List ℕ) → Shows items name → Shows (first ∷ items) name
shows_after first items name s = record { place = suc s.place; item = s.item; at = s.at; global = s.global; named = s.named }

first_shown : (item : Item) (items : List Item) (name : List ℕ) (body : List SmallStmt) → (shown items name ≡ Some body → Shows items name) → (local : Bool) → item.local ≡ local → (same : Bool) → bytes_eq item.name name ≡ same
    → (o : Option (List SmallStmt)) → body_or (not local && same) o (shown items name) ≡ Some body → Shows (item ∷ items) name
first_shown item items name body more false l true s (Some b) h = record { place = 0; item = item; at = refl; global = l; named = s }
first_shown item items name body more false l true s None h = shows_after item items name (more h)
first_shown item items name body more false l false s o h = shows_after item items name (more h)
first_shown item items name body more true l same s o h = shows_after item items name (more h)

pub shown_item : (items : List Item) (name : List ℕ) (body : List SmallStmt) → shown items name ≡ Some body → Shows items name
shown_item [] name body e = absurd (none-some body e)
shown_item (item ∷ items) name body e = first_shown item items name body (shown_item items name body) item.local refl (bytes_eq item.name name) refl item.body e

pub alike_tail : (item : Item) (items : List Item) → StaticAlike (item ∷ items) → StaticAlike items
alike_tail item items h i j a b p q n = h (suc i) (suc j) a b p q n

-- what a unit shows is its own definition, where all items of a name are static or none is
first_own : (item : Item) (items : List Item) (name : List ℕ) (body : List SmallStmt) → StaticAlike (item ∷ items) → (shown items name ≡ Some body → own items name ≡ Some body) → (local : Bool) → item.local ≡ local → (same : Bool) → bytes_eq item.name name ≡ same
    → (o : Option (List SmallStmt)) → body_or (not local && same) o (shown items name) ≡ Some body → body_or same o (own items name) ≡ Some body
first_own item items name body alike more false l true s (Some b) h = h
first_own item items name body alike more false l true s None h = more h
first_own item items name body alike more false l false s o h = more h
first_own item items name body alike more true l false s o h = more h
first_own item items name body alike more true l true s o h =
    let w = shown_item items name body h in
    let same_name : item.name ≡ w.item.name = (bytes_eq-Decides item.name name).0 s ∙ sym ((bytes_eq-Decides w.item.name name).0 w.named) in
    let clash : true ≡ false = sym l ∙ alike 0 (suc w.place) item w.item refl w.at same_name ∙ w.global in cc

shown_own : (items : List Item) (name : List ℕ) (body : List SmallStmt) → StaticAlike items → shown items name ≡ Some body → own items name ≡ Some body
shown_own [] name body alike e = absurd (none-some body e)
shown_own (item ∷ items) name body alike e = first_own item items name body alike (shown_own items name body (alike_tail item items alike)) item.local refl (bytes_eq item.name name) refl item.body e

-- an own definition is a body
own_body : (items : List Item) (name : List ℕ) (body : List SmallStmt) → All IsItem items → own items name ≡ Some body → IsBody body
own_body [] name body each e = absurd (none-some body e)
own_body (item ∷ items) name body each e = first_body (bytes_eq item.name name) item.body (All-head IsItem item items each).body (own items name) (own_body items name body (All-tail IsItem item items each)) e where
  first_body : (same : Bool) (o : Option (List SmallStmt)) → IsBodyIfAny o → (others : Option (List SmallStmt)) → (others ≡ Some body → IsBody body) → body_or same o others ≡ Some body → IsBody body
  first_body true (Some b) is others more e = subst IsBody (let P : Option (List SmallStmt) → List SmallStmt = λ o. body_of o in ap P e) is
  first_body true None is others more e = more e
  first_body false o is others more e = more e

-- the unit that shows a name first
pub record ShownBy (number : ℕ) (units : List (List Item)) (name : List ℕ) (meaning : Meaning) : Type 0 where
  pub place : ℕ
  pub unit_is : meaning.unit ≡ number + place
  pub inside : place < length units
  pub is : shown (unit_at units place) name ≡ Some meaning.body

first_shows : (number : ℕ) (unit : List Item) (units : List (List Item)) (name : List ℕ) (meaning : Meaning) → (shown_by (suc number) units name ≡ Some meaning → ShownBy (suc number) units name meaning)
    → (o : Option (List SmallStmt)) → shown unit name ≡ o → meaning_or number o (shown_by (suc number) units name) ≡ Some meaning → ShownBy number (unit ∷ units) name meaning
first_shows number unit units name meaning more None n e =
    let w = more e in record { place = suc w.place; unit_is = (let u = w.unit_is in omega (arith, u)); inside = (let i = w.inside in omega (arith, i)); is = w.is }
first_shows number unit units name meaning more (Some body) n e =
    let same : record { unit = number; body = body } ≡ meaning = same_Some (record { unit = number; body = body }) meaning e in
    record { place = 0; unit_is = sym (ap (λ (m : Meaning). m.unit) same) ∙ (let z : number ≡ number + 0 = omega arith in z); inside = omega arith; is = n ∙ ap (λ (m : Meaning). Some m.body) same }

pub shows_by : (number : ℕ) (units : List (List Item)) (name : List ℕ) (meaning : Meaning) → shown_by number units name ≡ Some meaning → ShownBy number units name meaning
shows_by number [] name meaning e = absurd (none-some meaning e)
shows_by number (unit ∷ units) name meaning e = first_shows number unit units name meaning (shows_by (suc number) units name meaning) (shown unit name) refl e

-- what defines a name is one of the units
pub own_inside : (units : List (List Item)) (unit : ℕ) (name : List ℕ) (body : List SmallStmt) → own (unit_at units unit) name ≡ Some body → unit < length units
own_inside [] unit name body e = absurd (none-some body e)
own_inside (first ∷ units) zero name body e = omega arith
own_inside (first ∷ units) (suc unit) name body e = let h = own_inside units unit name body e in omega (arith, h)

-- the numbers of a body are words
numbers_fit : (body : List SmallStmt) → All Fits body → NumbersFit body
numbers_fit [] fits = tt
numbers_fit (Put n ∷ body) fits = (let h : n ≤ 2147483647 = All-head Fits (Put n) body fits in omega (arith, h), numbers_fit body (All-tail Fits (Put n) body fits))
numbers_fit (Call name ∷ body) fits = numbers_fit body (All-tail Fits (Call name) body fits)
numbers_fit (Return n ∷ body) fits = (let h : n ≤ 2147483647 = All-head Fits (Return n) body fits in omega (arith, h), numbers_fit body (All-tail Fits (Return n) body fits))

module _ (units : List (List Item)) (origin : ℕ → ℕ) (places : Places) (start main_at : ℕ) (code : List ℕ) (linked : LinkedUnits units origin places start main_at code)
    (each : (unit : ℕ) → unit < length units → All IsItem (unit_at units unit) × StaticAlike (unit_at units unit)) where
  -- the code of a definition stands at its address
  definition_there : (unit : ℕ) (name : List ℕ) (body : List SmallStmt) (address : ℕ) → own (unit_at units unit) name ≡ Some body → IsAddressOf units origin unit name address → Good body × (address < 2 ^ 32) × CodeAt code places unit address body
  definition_there unit name body address e a =
      let items = unit_at units unit in
      let inside = own_inside units unit name body e in
      let placed = linked.placed unit inside in
      let is = own_body items name body (each unit inside).0 e in
      let stands : Stands code (origin unit) (places.function unit) places (length (text_of items)) a.definition body = placed_there code (origin unit) (places.function unit) items places (linked.near unit) (linked.puts unit) linked.short placed name a.definition body a.defines e in
      let within = stands.within in let room = placed.inside in let short = linked.short in let at = a.address_is in
      let there = on-here code (body_code places (places.function unit) (134516736 + (origin unit + a.definition.begin)) body) (origin unit + a.definition.begin) (omega (arith, within, room)) stands.there in
      let P : ℕ → Type 0 = λ x. CodeAt code places unit x body in
      (record { ends = is.ends; fits = numbers_fit body is.fits }, omega (arith, at, within, room, short), subst P (sym at) (record { rest = there.0; here = there.1 }))

  shown_there : (name : List ℕ) (meaning : Meaning) → shown_by 0 units name ≡ Some meaning → own (unit_at units meaning.unit) name ≡ Some meaning.body
  shown_there name meaning e =
      let w = shows_by 0 units name meaning e in
      let P : ℕ → Type 0 = λ x. own (unit_at units x) name ≡ Some meaning.body in
      subst P (sym (let u = w.unit_is in let v : meaning.unit ≡ w.place = omega (arith, u) in v)) (shown_own (unit_at units w.place) name meaning.body (each w.place w.inside).1 w.is)

  own_or_shown : (unit : ℕ) (name : List ℕ) (meaning : Meaning) (o : Option (List SmallStmt)) → own (unit_at units unit) name ≡ o → meaning_or unit o (shown_by 0 units name) ≡ Some meaning → own (unit_at units meaning.unit) name ≡ Some meaning.body
  own_or_shown unit name meaning None n e = shown_there name meaning e
  own_or_shown unit name meaning (Some body) n e =
      let same : record { unit = unit; body = body } ≡ meaning = same_Some (record { unit = unit; body = body }) meaning e in
      let P : Meaning → Type 0 = λ m. own (unit_at units m.unit) name ≡ Some m.body in
      subst P same n

  meaning_there : (unit : ℕ) (name : List ℕ) (meaning : Meaning) → means units unit name ≡ Some meaning → own (unit_at units meaning.unit) name ≡ Some meaning.body
  meaning_there unit name meaning e = own_or_shown unit name meaning (own (unit_at units unit) name) refl e

  -- the start code, in parts
  started : Here code start (call_code main_at (start + 5) ++ (exit_code ++ linked.behind_start))
  started = linked.start_there

  behind : Here code (start + 5) (exit_code ++ linked.behind_start)
  behind =
      let h = started in let p = h.place_is in let short = linked.short in let n = ap length h.whole ∙ length-append h.done (call_code main_at (start + 5) ++ (exit_code ++ linked.behind_start)) in
      let after = skip code start (call_code main_at (start + 5)) (exit_code ++ linked.behind_start) linked.short h in
      let P : ℕ → Type 0 = λ x. Here code x (exit_code ++ linked.behind_start) in
      subst P (let same : add32 start 5 ≡ start + 5 = omega (arith, p, n, short) in same) after

  start_near : start + 5 < 2 ^ 32
  start_near = let h = started in let p = h.place_is in let short = linked.short in let n = ap length h.whole ∙ length-append h.done (call_code main_at (start + 5) ++ (exit_code ++ linked.behind_start)) in omega (arith, p, n, short)

  putbyte_near : places.putbyte < 2 ^ 32
  putbyte_near = let h = linked.near 0 (codes "putbyte") in let e = linked.puts 0 in omega (arith, h, e)

  -- the machine at the start code does what the linked units mean
  pub linked_refines : (stack : List ℕ) → Whole stack → (input : List ℕ) → Refines (second_after units) (λ n. seen_of (machine_after (machine_at code start (words 0 0 0 0 3221225456 0 0 0) stack) input n))
  linked_refines stack whole input =
      second_refines units places code (start + 5) linked.behind_runtime linked.behind_start linked.short putbyte_near linked.runtime behind
      (λ unit name meaning e. definition_there meaning.unit name meaning.body (places.function unit name) (meaning_there unit name meaning e) (linked.bound unit name meaning e))
      start main_at refl start_near started
      (λ meaning e. definition_there meaning.unit (codes "main") meaning.body main_at (shown_there (codes "main") meaning e) (linked.main_bound meaning e))
      stack whole input
