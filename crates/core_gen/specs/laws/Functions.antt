-- Functions in Core, and those of all linked units.
use Rattle.std.specs.Prelude.{◌≡◌, ℕ, zero, suc, ◌+◌, List, [], ◌∷◌, map, slice_get, Some, option_map}
use Rattle.std.specs.Option.{option_and_then}
use Rattle.std.proofs.Common.{refl, ap, ◌∙◌, arith}
use Rattle.std.proofs.lemmas.Option.{slice_get-map, option_and_then_some}
use Rattle.clight_unit.specs.declared.unit.ClightUnit.{ClightUnit as TypedUnit}
use Rattle.clight_unit.specs.declared.function.Function.{Function}
use Rattle.clight_sem.specs.Functions.{Linked, of_each, is_main_of}
use Rattle.core_lang.specs.declared.syntax.Function.{Function as CoreFunction}
use Rattle.core_lang.specs.declared.syntax.Statement.{Statement as Code}
use Rattle.core_gen.specs.laws.Following.{coded_body}
use Rattle.core_gen.specs.Units.{base_of, function_code}
use Rattle.core_gen.specs.Relation.{core_in}
use Rattle.core_gen.specs.laws.Calling.{Linking}

pub function_is : (c : Linked) (unit : ℕ) (f : Function) → function_code (is_main_of c unit f) f ≡ core_in c unit f
function_is c unit f = ap (λ (l : List Code). record (function_code (is_main_of c unit f) f) { body = l }) (coded_body (base_of f) f.body 0)

-- the functions of each unit
abbrev pub functions_of : Linked → List (List CoreFunction)
functions_of c = of_each (λ k (u : TypedUnit). map (core_in c k) u.functions) 0 c.units

each_at : {A : Type 0} (f : ℕ → TypedUnit → A) (k : ℕ) (us : List TypedUnit) (i : ℕ) (u : TypedUnit) → slice_get us i ≡ Some u → slice_get (of_each f k us) i ≡ Some (f (k + i) u)
each_at f k [] i u h = cc
each_at {A} f k (v ∷ us) zero u h = let e : k ≡ k + 0 = omega arith in ap (option_map (f k)) h ∙ ap (λ (n : ℕ). Some (f n u)) e
each_at {A} f k (v ∷ us) (suc i) u h = let e : k + 1 + i ≡ k + suc i = omega arith in each_at f (k + 1) us i u h ∙ ap (λ (n : ℕ). Some (f n u)) e

-- so the premise on linking holds where names mean what they mean in the source
pub linking : (c : Linked) → Linking c (functions_of c) c.callees
linking c = record {
  stand = λ unit index f h. option_and_then_some (λ (u : TypedUnit). slice_get u.functions index) (slice_get c.units unit) f h (λ u found there.
      ap (λ o. option_and_then (λ (fs : List CoreFunction). slice_get fs index) o) (each_at (λ k (v : TypedUnit). map (core_in c k) v.functions) 0 c.units unit u found)
      ∙ slice_get-map (core_in c (0 + unit)) u.functions index ∙ ap (option_map (core_in c (0 + unit))) there
      ∙ (let e : 0 + unit ≡ unit = omega arith in ap (λ (n : ℕ). Some (core_in c n f)) e));
  mean = λ unit symbol some. refl;
}
