-- Where the texts of objects stand, one behind the other.
use Rattle.std.proofs.Common.{◌≡◌, ℕ, zero, suc, ◌+◌, ◌-◌, ◌*◌, ◌/◌, ◌<◌, ◌≤◌, List, [], ◌∷◌, ◌++◌, take, get_or, length, ap, ◌∙◌, sym, refl, subst, arith}
use Rattle.std.specs.Prelude.{Bool, true, false, nat_lt}
use Rattle.std.proofs.lemmas.List.{take_more, take_all, get_or_append_left}
use Rattle.std.proofs.Math.Seq.{get_or-append_seam}
use Rattle.std.proofs.lemmas.Bool.{ltb-true, ltb-false}
use Rattle.elf_file.specs.Image.{first_address, end_address}
use Rattle.elf_file.specs.Object.{Object, section_of, HasBytes}
use Rattle.elf_file.specs.Read.{IsObject}
use Rattle.elf_linker.specs.Placement.{aligned, text_of, begin_from, end_from, text_from, text_address, texts_end_from, texts_end, whole_end}
use Rattle.elf_linker.specs.Linked.{object_at}
use Rattle.elf_linker.specs.LinkSteps.{AreObjects}

-- an object that is read has its text in section 1
pub has_text : (object : Object) → IsObject object → 1 < length object.sections
has_text object i = let e = ap (λ (o : Object). length o.sections) i.is in omega (arith, e)

pub text_align : (object : Object) → IsObject object → (text_of object).align ≡ 16
text_align object i = ap (λ (o : Object). (text_of o).align) i.is

pub text_size : (object : Object) → IsObject object → (text_of object).size ≡ length (text_of object).bytes
text_size object i =
    let P : Object → Type 0 = λ o. (text_of o).size ≡ length (text_of o).bytes in subst P (sym i.is) refl

pub text_kept : (object : Object) → IsObject object → HasBytes (text_of object).kind
text_kept object i = let P : Object → Type 0 = λ o. HasBytes (text_of o).kind in subst P (sym i.is) tt

-- the object with a number is one that is read
pub object_read : (objects : List Object) → AreObjects objects → (number : ℕ) → number < length objects → IsObject (object_at objects number)
object_read objects are number l = are.read number (record { sections = []; symbols = []; relocs = [] }) l

-- where the texts before this object end
abbrev pub ends_at : List Object → ℕ → ℕ
ends_at objects number = texts_end_from first_address (take number objects)

ends_behind : (at : ℕ) (objects : List Object) (object : Object) → texts_end_from at (objects ++ object ∷ []) ≡ end_from (texts_end_from at objects) object
ends_behind at [] object = refl
ends_behind at (first ∷ objects) object = ends_behind (end_from at first) objects object

pub ends_more : (objects : List Object) (number : ℕ) → number < length objects → ends_at objects (number + 1) ≡ end_from (ends_at objects number) (object_at objects number)
ends_more objects number l =
    ap (λ (xs : List Object). texts_end_from first_address xs) (take_more objects number (record { sections = []; symbols = []; relocs = [] }) l) ∙ ends_behind first_address (take number objects) (object_at objects number)

pub ends_all : (objects : List Object) (number : ℕ) → length objects ≤ number → ends_at objects number ≡ texts_end objects
ends_all objects number l = ap (λ (xs : List Object). texts_end_from first_address xs) (take_all number objects l)

-- an object's text stands behind those before it
text_behind : (at : ℕ) (objects : List Object) (number : ℕ) → number < length objects → text_from at objects number ≡ begin_from (texts_end_from at (take number objects)) (object_at objects number)
text_behind at [] number l = let h : ⊥ = omega (arith, l) in absurd h
text_behind at (object ∷ objects) zero l = refl
text_behind at (object ∷ objects) (suc number) l = text_behind (end_from at object) objects number (omega (arith, l))

pub text_begins : (objects : List Object) (number : ℕ) → number < length objects → text_address objects number ≡ begin_from (ends_at objects number) (object_at objects number)
text_begins objects number l = text_behind first_address objects number l

-- from where the texts before an object end to where it begins and ends
pub record Stands (objects : List Object) (number : ℕ) : Type 0 where
  pub from : ends_at objects number ≤ text_address objects number
  pub near : text_address objects number ≤ ends_at objects number + 15
  pub to : text_address objects number + (text_of (object_at objects number)).size ≡ ends_at objects (number + 1)

begin_is : (at : ℕ) (object : Object) → IsObject object → begin_from at object ≡ (at + 15) / 16 * 16
begin_is at object i = ap (λ (n : ℕ). aligned n at) (text_align object i)

pub stands : (objects : List Object) → AreObjects objects → (number : ℕ) → number < length objects → Stands objects number
stands objects are number l =
    let b = text_begins objects number l in
    let i = begin_is (ends_at objects number) (object_at objects number) (object_read objects are number l) in
    let e = ends_more objects number l in
    record { from = omega (arith, b, i); near = omega (arith, b, i); to = (ap (λ (n : ℕ). n + (text_of (object_at objects number)).size) b) ∙ sym e }

-- texts end the later, the more there are
pub ends_rise : (objects : List Object) → AreObjects objects → (number more : ℕ) → number + more ≤ length objects → ends_at objects number ≤ ends_at objects (number + more)
ends_rise objects are number zero l = let e : ends_at objects number ≡ ends_at objects (number + 0) = ap (λ (n : ℕ). ends_at objects n) (let z : number ≡ number + 0 = omega arith in z) in omega (arith, e)
ends_rise objects are number (suc more) l =
    let h = ends_rise objects are number more (omega (arith, l)) in
    let s = stands objects are (number + more) (omega (arith, l)) in let f = s.from in let t = s.to in
    let e : ends_at objects (number + more + 1) ≡ ends_at objects (number + suc more) = ap (λ (n : ℕ). ends_at objects n) (let z : number + more + 1 ≡ number + suc more = omega arith in z) in
    omega (arith, h, f, t, e)

pub ends_before : (objects : List Object) → AreObjects objects → (number later : ℕ) → number ≤ later → later ≤ length objects → ends_at objects number ≤ ends_at objects later
ends_before objects are number later l m =
    let h = ends_rise objects are number (later - number) (omega (arith, l, m)) in
    let e : ends_at objects (number + (later - number)) ≡ ends_at objects later = ap (λ (n : ℕ). ends_at objects n) (let z : number + (later - number) ≡ later = omega (arith, l) in z) in
    omega (arith, h, e)

-- no text passes the end of all
pub ends_inside : (objects : List Object) → AreObjects objects → (number : ℕ) → number ≤ length objects → (first_address ≤ ends_at objects number) × (ends_at objects number ≤ texts_end objects)
ends_inside objects are number l =
    let a = ends_before objects are 0 number (omega arith) l in let b = ends_before objects are number (length objects) l (omega arith) in let e = ends_all objects (length objects) (omega arith) in
    (a, (let z : ends_at objects number ≤ texts_end objects = omega (arith, b, e) in z))

-- all sections end behind the texts, less than a page away
pub whole_is : (objects : List Object) → (texts_end objects ≤ whole_end objects) × (whole_end objects ≤ texts_end objects + 4095)
whole_is objects = (omega arith, omega arith)

-- where all sections are inside, so is each text
pub record IsNear (objects : List Object) (number : ℕ) : Type 0 where
  pub first : first_address ≤ ends_at objects number
  pub ends : ends_at objects number ≤ end_address
  pub begins : text_address objects number ≤ end_address
  pub to : text_address objects number + (text_of (object_at objects number)).size ≤ end_address

pub near : (objects : List Object) → AreObjects objects → whole_end objects ≤ end_address → (number : ℕ) → number < length objects → IsNear objects number
near objects are inside number l =
    let a = ends_inside objects are number (omega (arith, l)) in let b = ends_inside objects are (number + 1) (omega (arith, l)) in let a0 = a.0 in let a1 = a.1 in let b1 = b.1 in
    let w = (whole_is objects).0 in let s = stands objects are number l in let t = s.to in
    record { first = a0; ends = omega (arith, a1, w, inside); begins = omega (arith, b1, w, inside, t); to = omega (arith, b1, w, inside, t) }

-- the address of a text, and the end of it, as they are computed
pub begins_there : (objects : List Object) (view : Object) (number at align result : ℕ) → number < length objects → view ≡ object_at objects number → at ≡ ends_at objects number → align ≡ (section_of view 1).align
    → result ≡ aligned align at → result ≡ text_address objects number
begins_there objects view number at align result l v e a r =
    r ∙ ap (λ (n : ℕ). aligned n at) (a ∙ ap (λ (o : Object). (text_of o).align) v) ∙ ap (λ (n : ℕ). begin_from n (object_at objects number)) e ∙ sym (text_begins objects number l)

pub ends_there : (objects : List Object) → AreObjects objects → (view : Object) (number at size : ℕ) → number < length objects → view ≡ object_at objects number → at ≡ text_address objects number → size ≡ (section_of view 1).size
    → at + size ≡ ends_at objects (number + 1)
ends_there objects are view number at size l v e z =
    ap (λ (n : ℕ). n + size) e ∙ ap (λ (n : ℕ). text_address objects number + n) (z ∙ ap (λ (o : Object). (text_of o).size) v) ∙ (stands objects are number l).to

texts_more_by : (objects : List Object) (texts : List ℕ) (number at : ℕ) → length texts ≡ number → at ≡ text_address objects number → ((k : ℕ) → k < number → get_or texts k 0 ≡ text_address objects k)
    → (k : ℕ) → k < number + 1 → (b : Bool) → nat_lt k number ≡ b → get_or (texts ++ at ∷ []) k 0 ≡ text_address objects k
texts_more_by objects texts number at n e are k l true t =
    let h = ltb-true k number t in get_or_append_left texts (at ∷ []) 0 k (omega (arith, n, h)) ∙ are k h
texts_more_by objects texts number at n e are k l false t =
    let h = ltb-false k number t in let same : k ≡ number = omega (arith, h, l) in
    ap (λ (i : ℕ). get_or (texts ++ at ∷ []) i 0) (same ∙ sym n) ∙ get_or-append_seam texts at [] 0 ∙ e ∙ ap (λ (i : ℕ). text_address objects i) (sym same)

-- the addresses so far, and one more
pub texts_more : (objects : List Object) (texts : List ℕ) (number at : ℕ) → length texts ≡ number → at ≡ text_address objects number → ((k : ℕ) → k < number → get_or texts k 0 ≡ text_address objects k)
    → (k : ℕ) → k < number + 1 → get_or (texts ++ at ∷ []) k 0 ≡ text_address objects k
texts_more objects texts number at n e are k l = texts_more_by objects texts number at n e are k l (nat_lt k number) refl
