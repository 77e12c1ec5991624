-- A unit that is got, compiled and put.
use Rattle.std.proofs.Common.{◌≡◌, ℕ, ◌<◌, List, [], map, get_or, length, Result, Ok, Err, refl, sym, ap, ◌∙◌, subst, inl, inr, arith, String}
use Rattle.std.specs.Prelude.{string_bytes}
use Rattle.std.specs.declared.alloc.Global.{Global}
use Rattle.std.proofs.lemmas.List.{get_or-map, length-map}
use Rattle.command_words.specs.Commands.{object_name}
use Rattle.command_words.specs.Orders.{texts}
use Rattle.cc_base.specs.Seen.{FilesSeen, SourceSeen, SinkSeen}
use Rattle.commands.specs.declared.answer.Answer.{Answer}
use Rattle.commands.specs.declared.answer.Answer.TheVariants as answer
use Rattle.commands.specs.Doing.{Outside, outside}
use Rattle.commands.specs.Steps.{Fetched, Put, Compiled, Compiles, CompilesTo}

module _ (unit name : List ℕ) (input : SourceSeen) (output : SinkSeen) (f f₁ : FilesSeen) where
  pub not_fetched : (told : Answer) → Fetched f unit (Err told) f₁ → CompilesTo unit name (outside f input output) (Err told) (outside f₁ input output)
  not_fetched told h = inl (h, refl)

  module _ (text shown : List ℕ) (got : Fetched f unit (Ok text) f₁) (same : shown ≡ text) where
    pub not_compiled : (told : Answer) → Compiled unit shown (Err told) → CompilesTo unit name (outside f input output) (Err told) (outside f₁ input output)
    not_compiled told h =
        let P : List ℕ → Type 0 = λ t. Compiled unit t (Err told) in
        inr (record { value = text; between = outside f₁ input output; went = (got, refl); goes_on = inl (subst P same h, refl) })

    module _ (object put : List ℕ) (made : Compiled unit shown (Ok object)) (is : put ≡ object) (f₂ : FilesSeen) where
      compiled : Compiles unit text (outside f₁ input output) (Ok object) (outside f₁ input output)
      compiled = let P : List ℕ → Type 0 = λ t. Compiled unit t (Ok object) in (subst P same made, refl)

      as_put : (r : Result (Unit {0}) Answer) → Put f₁ name put r f₂ → Put f₁ name object r f₂
      as_put r h = let P : List ℕ → Type 0 = λ b. Put f₁ name b r f₂ in subst P is h

      pub not_stored : (told : Answer) → Put f₁ name put (Err told) f₂ → CompilesTo unit name (outside f input output) (Err told) (outside f₂ input output)
      not_stored told h =
          inr (record {
            value = text;
            between = outside f₁ input output;
            went = (got, refl);
            goes_on =
                inr (record { value = object; between = outside f₁ input output; went = compiled; goes_on = inl (as_put (Err told) h, refl) });
          })

      pub all_stored : Put f₁ name put (Ok tt) f₂ → CompilesTo unit name (outside f input output) (Ok object) (outside f₂ input output)
      all_stored h =
          record {
            value = text;
            between = outside f₁ input output;
            went = (got, refl);
            goes_on =
                record {
                  value = object;
                  between = outside f₁ input output;
                  went = compiled;
                  goes_on =
                      record { value = tt; between = outside f₂ input output; went = (as_put (Ok tt) h, refl); goes_on = (inl refl, refl) };
                };
          }

-- where there is no memory to keep the object, want of memory is the answer
pub not_kept : (unit name object : List ℕ) (old new : Outside) → CompilesTo unit name old (Ok object) new → CompilesTo unit name old (Err answer.Memory) new
not_kept unit name object old new h =
    let a = h.goes_on in let b = a.goes_on in
    inr (record {
      value = h.value;
      between = h.between;
      went = h.went;
      goes_on =
          inr (record {
            value = a.value;
            between = a.between;
            went = a.went;
            goes_on =
                inr (record { value = b.value; between = b.between; went = b.went; goes_on = (inr refl, b.goes_on.1) });
          });
    })

-- the name of a unit's object among the others
pub object_there : (units objects : List (String Global)) → texts objects ≡ map object_name (texts units) → (k : ℕ) (unit object : String Global) → k < length units → unit ≡ get_or units k unit → object ≡ get_or objects k object
    → string_bytes object ≡ object_name (string_bytes unit)
object_there units objects same k unit object l u o =
    let a = length-map units string_bytes in let b = length-map objects string_bytes in let c = length-map (texts units) object_name in let d = ap (λ (xs : List (List ℕ)). length xs) same in
    ap string_bytes o ∙ sym (get_or-map string_bytes objects k object [] (omega (arith, l, a, b, c, d))) ∙ ap (λ (xs : List (List ℕ)). get_or xs k []) same
    ∙ get_or-map object_name (texts units) k [] [] (omega (arith, l, a)) ∙ ap object_name (get_or-map string_bytes units k unit [] l ∙ ap string_bytes (sym u))
