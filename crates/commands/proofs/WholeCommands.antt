-- Commands that get objects or make them, link them, and put the image.
use Rattle.std.proofs.Common.{◌≡◌, ℕ, suc, ◌+◌, ◌<◌, ◌≤◌, ◌^◌, ◌⊎◌, List, [], ◌∷◌, length, Result, Ok, Err, refl, sym, ap, ◌∙◌, subst, inl, inr, arith, None, true, get_or}
use Rattle.std.specs.Prelude.{All}
use Rattle.std.proofs.lemmas.List.Elements.{All-cons}
use Rattle.cc_base.specs.Seen.{FilesSeen, SourceSeen, SinkSeen}
use Rattle.std.specs.Prelude.{Bool, false, ◌==◌, if◌then◌else◌}
use Rattle.elf_file.specs.Image.{WellFormedImage, offset_of, image_end}
use Rattle.elf_file.specs.declared.image.ImageParts.{ImageParts}
use Rattle.elf_file.specs.declared.image.SegmentPart.{SegmentPart}
use Rattle.commands.specs.declared.answer.Answer.{Answer}
use Rattle.commands.specs.declared.answer.Answer.TheVariants as answer
use Rattle.commands.specs.Doing.{Outside, outside, Step, Command, Then, Each}
use Rattle.commands.specs.Steps.{IsTextObject, Fetches, Stores, Put, CompilesTo, Links, LinkedFrom}

-- what each step gives has a property
abbrev value_of : {Y : Type 0} → List Y → Result (List Y) Answer → List Y
value_of ys (Ok zs) = zs
value_of ys (Err told) = ys

same_value : {Y : Type 0} (zs ys : List Y) → ◌≡◌ {A = Result (List Y) Answer} (Ok zs) (Ok ys) → zs ≡ ys
same_value {Y} zs ys e = ap (λ (r : Result (List Y) Answer). value_of ys r) e

pub each_has : {X Y : Type 0} (step : X → Step Y) (P : Y → Type 0) → ((x : X) (y : Y) (old new : Outside) → step x old (Ok y) new → P y) → (xs : List X) (old : Outside) (ys : List Y) (new : Outside) → Each step xs old (Ok ys) new → (length xs ≡ length ys) × All P ys
each_has {X} {Y} step P each [] old ys new h =
    let e = same_value ys [] h.0 in
    let Q : List Y → Type 0 = λ zs. (0 ≡ length zs) × All P zs in
    subst Q (sym e) (refl, λ k d l. (let none : ⊥ = omega (arith, l) in absurd none))
each_has {X} {Y} step P each (x ∷ xs) old ys new h =
    let rest = h.goes_on in
    let r = each_has step P each xs h.between rest.value rest.between rest.went in
    let e = same_value ys (h.value ∷ rest.value) rest.goes_on.0 in
    let Q : List Y → Type 0 = λ zs. (suc (length xs) ≡ length zs) × All P zs in
    subst Q (sym e) (ap suc r.0, All-cons P h.value rest.value (each x h.value old h.between h.went) r.1)

abbrev pub IsSmall : List ℕ → Type 0
IsSmall file = length file < 2 ^ 32

-- a file that was got is small
pub got_small : (name file : List ℕ) (old new : Outside) → Fetches name old (Ok file) new → IsSmall file
got_small name file old new h = let s = h.0.short in omega (arith, s)

object_small : (text file : List ℕ) → IsTextObject text file → IsSmall file
object_small text file o = let s = o.written.well_formed.small in let n = o.written.written.length_is in omega (arith, s, n)

abbrev bytes_of : List ℕ → Result (List ℕ) Answer → List ℕ
bytes_of bytes (Ok file) = file
bytes_of bytes (Err told) = bytes

kept_value : (file object : List ℕ) → (◌≡◌ {A = Result (List ℕ) Answer} (Ok file) (Ok object)) ⊎ (◌≡◌ {A = Result (List ℕ) Answer} (Ok file) (Err answer.Memory)) → object ≡ file
kept_value file object (inl e) = sym (ap (λ (r : Result (List ℕ) Answer). bytes_of file r) e)
kept_value file object (inr e) = let clash : ◌≡◌ {A = Result (List ℕ) Answer} (Ok file) (Err answer.Memory) = e in cc

-- an object that was made is small
pub made_small : (unit name file : List ℕ) (old new : Outside) → CompilesTo unit name old (Ok file) new → IsSmall file
made_small unit name file old new h =
    let a = h.goes_on in let b = a.goes_on in
    let same = kept_value file a.value b.goes_on.0 in
    subst IsSmall same (object_small h.value a.value a.went.0)

-- steps that give files, which are linked; the image is put, and the rest goes on with its bytes
abbrev pub Whole : {X : Type 0} → (X → Step (List ℕ)) → List X → List (List ℕ) → List ℕ → (List ℕ → Command) → Command
Whole step xs names image rest = Then (Each step xs) (λ files. Then (Links names files) (λ bytes. Then (Stores image bytes) (λ _. rest bytes)))

module _ {X : Type 0} (step : X → Step (List ℕ)) (xs : List X) (names : List (List ℕ)) (image : List ℕ) (rest : List ℕ → Command) (input : SourceSeen) (output : SinkSeen) (f f₁ : FilesSeen)
    (files shown : List (List ℕ)) (given : Each step xs (outside f input output) (Ok files) (outside f₁ input output)) (same : shown ≡ files) where
  pub not_linked : (told : Answer) → LinkedFrom names shown (Err told) → Whole step xs names image rest (outside f input output) told (outside f₁ input output)
  not_linked told h =
      let P : List (List ℕ) → Type 0 = λ fs. LinkedFrom names fs (Err told) in
      inr (record { value = files; between = outside f₁ input output; went = given; goes_on = inl (subst P same h, refl) })

  module _ (bytes put : List ℕ) (linked : LinkedFrom names shown (Ok bytes)) (is : put ≡ bytes) (f₂ : FilesSeen) where
    links : Links names files (outside f₁ input output) (Ok bytes) (outside f₁ input output)
    links = let P : List (List ℕ) → Type 0 = λ fs. LinkedFrom names fs (Ok bytes) in (subst P same linked, refl)

    pub not_put : (told : Answer) → Put f₁ image put (Err told) f₂ → Whole step xs names image rest (outside f input output) told (outside f₂ input output)
    not_put told h =
        let P : List ℕ → Type 0 = λ b. Put f₁ image b (Err told) f₂ in
        inr (record {
          value = files;
          between = outside f₁ input output;
          went = given;
          goes_on =
              inr (record { value = bytes; between = outside f₁ input output; went = links; goes_on = inl (subst P is h, refl) });
        })

    pub was_put : Put f₁ image put (Ok tt) f₂ → (told : Answer) (new : Outside) → rest bytes (outside f₂ input output) told new → Whole step xs names image rest (outside f input output) told new
    was_put h told new go =
        let P : List ℕ → Type 0 = λ b. Put f₁ image b (Ok tt) f₂ in
        inr (record {
          value = files;
          between = outside f₁ input output;
          went = given;
          goes_on =
              inr (record {
                value = bytes;
                between = outside f₁ input output;
                went = links;
                goes_on =
                    inr (record { value = tt; between = outside f₂ input output; went = (subst P is h, refl); goes_on = go });
              });
        })

-- an input and an output that nothing is known of
abbrev pub some_input : SourceSeen
some_input = record { told = None; faults = 0 }

abbrev pub some_output : SinkSeen
some_output = record { told = None; flushed = true; faults = 0; wants = 0 }

-- where a segment of a well-formed image ends in the file
record EndsNear (segment : SegmentPart) : Type 0 where
  from : 0x08049000 ≤ segment.start
  to : segment.start + length segment.bytes ≤ 0x09048000

segment_end : {image : ImageParts} → (w : WellFormedImage image) → (segment : SegmentPart) → image.segments ≡ segment ∷ [] → EndsNear segment
segment_end {image} w segment e =
    let same = sym (ap (λ (xs : List SegmentPart). get_or xs 0 segment) w.one) ∙ ap (λ (xs : List SegmentPart). get_or xs 0 segment) e in
    let f = w.from in let t = w.to in let s = w.short in
    subst EndsNear same (record { from = f; to = omega (arith, t, s) })

end_by : (segment : SegmentPart) (b : Bool) → EndsNear segment → (if b then 84 else offset_of segment.start + length segment.bytes) < 2 ^ 32
end_by segment true n = omega arith
end_by segment false n = let t = n.to in let f = n.from in omega (arith, t, f)

small_by : (segment : SegmentPart) (bytes : List ℕ) → length bytes ≡ image_end segment → EndsNear segment → IsSmall bytes
small_by segment bytes e n = let h = end_by segment (length segment.bytes == 0) n in omega (arith, e, h)

-- the file of a linked image is small
pub image_small : (names files : List (List ℕ)) (bytes : List ℕ) → LinkedFrom names files (Ok bytes) → IsSmall bytes
image_small names files bytes h =
    let w = h.2.written in
    let n = w.written.2.length_is in
    small_by w.written.0 bytes n (segment_end w.well_formed w.written.0 w.written.1)
