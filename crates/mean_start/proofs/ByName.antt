-- What is known of names, unit by unit.
use Rattle.std.proofs.Common.{◌≡◌, ℕ, zero, suc, ◌+◌, ◌<◌, ◌≤◌, Bool, true, false, ◌&&◌, cond, List, [], ◌∷◌, Option, Some, None, length, take, drop, get_or, refl, sym, ap, ◌∙◌, arith, append-nil, add-one}
use Rattle.std.proofs.lemmas.Bool.Decides.{nat_tests}
use Rattle.std.specs.Prelude.{◌||◌, nat_eq}
use Rattle.std.specs.List.{list_any}
use Rattle.std.specs.Option.{option_or, is_some}
use Rattle.std.proofs.lemmas.List.Folds.{list_any-append}
use Rattle.cc_base.specs.Faces.{all_defs, earlier, is_defined, has_name, doubled}
use Rattle.cc_base.specs.declared.face.Face.{Face}
use Rattle.cc_base.specs.declared.face.Def.{Def}
use Rattle.cc_base.specs.declared.face.SourceFault.TheVariants.{Doubled}
use Rattle.block_mem.specs.Start.{faces_of}
use Rattle.clight_unit.specs.declared.unit.ClightUnit.{ClightUnit as TypedUnit}
use Rattle.clight_unit.specs.declared.signature.ValueType.{ValueType}
use Rattle.clight_unit.specs.declared.signature.Callee.{Callee}
use Rattle.cc_base.specs.declared.face.SymbolName.{SymbolName}
use Rattle.unit_names.specs.declared.meaning.Meaning.{Meaning}
use Rattle.clight_sem.specs.Functions.{all_parts, callees_from, same_type, same_types}
use Rattle.mean_start.specs.FaultsAt.{doubled_at, doubled_after}
use Rattle.mean_start.proofs.Meanings.{same_answers}

or_more : (a b c : Bool) → ((a || b) || c) ≡ (a || (b || c))
or_more true b c = refl
or_more false b c = refl

-- where the names of the units before are known, a unit's fault is that of all units
pub doubled_same : (known : List ℕ → Bool) (fs : List Face) (unit : ℕ) (f : Face) → ((n : List ℕ) → known n ≡ is_defined (all_defs (take unit fs)) n) → doubled_after known unit f.defs ≡ doubled fs unit f
doubled_same known fs unit f knows = same_answers (doubled_at known unit f.defs) (λ index (d : Def). cond (is_defined (earlier fs unit f.defs index) d.name) (Some (Doubled unit index)) None) each 0 f.defs
  where
    each : (index : ℕ) (d : Def) → doubled_at known unit f.defs index d ≡ cond (is_defined (earlier fs unit f.defs index) d.name) (Some (Doubled unit index)) None
    each index d = ap (λ b. cond b (Some (Doubled unit index)) None) (ap (λ b. b || is_defined (take index f.defs) d.name) (knows d.name) ∙ sym (list_any-append (has_name d.name) (all_defs (take unit fs)) (take index f.defs)))

-- the names of a unit more
defs_more : (p : Def → Bool) (us : List TypedUnit) (i : ℕ) (u : TypedUnit) → i < length us → u ≡ get_or us i u → list_any p (all_defs (take (suc i) (faces_of (all_parts us)))) ≡ (list_any p (all_defs (take i (faces_of (all_parts us)))) || list_any p u.face.defs)
defs_more p [] i u h e = let no : ⊥ = omega arith in absurd no
defs_more p (v ∷ vs) zero u h e = ap (list_any p) (append-nil v.face.defs) ∙ ap (λ (w : TypedUnit). list_any p w.face.defs) (sym e)
defs_more p (v ∷ vs) (suc i) u h e =
    list_any-append p v.face.defs (all_defs (take (suc i) (faces_of (all_parts vs))))
    ∙ ap (λ b. list_any p v.face.defs || b) (defs_more p vs i u (omega arith) e)
    ∙ sym (or_more (list_any p v.face.defs) (list_any p (all_defs (take i (faces_of (all_parts vs))))) (list_any p u.face.defs))
    ∙ ap (λ b. b || list_any p u.face.defs) (sym (list_any-append p v.face.defs (all_defs (take i (faces_of (all_parts vs))))))

pub unit_more : (us : List TypedUnit) (i : ℕ) (u : TypedUnit) (mid new : List ℕ → Bool) → i < length us → u ≡ get_or us i u → ((n : List ℕ) → mid n ≡ is_defined (all_defs (take i (faces_of (all_parts us)))) n) → ((n : List ℕ) → new n ≡ (mid n || is_defined u.face.defs n)) → (n : List ℕ) → new n ≡ is_defined (all_defs (take (i + 1) (faces_of (all_parts us)))) n
unit_more us i u mid new h e knew adds n =
    adds n
    ∙ ap (λ b. b || is_defined u.face.defs n) (knew n)
    ∙ sym (defs_more (has_name n) us i u h e)
    ∙ ap (λ k. is_defined (all_defs (take k (faces_of (all_parts us)))) n) (sym (add-one i))

-- types of parameters
pub same_types-length : (xs ys : List ValueType) → (length xs ≡ length ys → ⊥) → same_types xs ys ≡ false
same_types-length [] [] h = absurd (h refl)
same_types-length [] (y ∷ ys) h = refl
same_types-length (x ∷ xs) [] h = refl
same_types-length (x ∷ xs) (y ∷ ys) h = and_false (same_type x y) (same_types xs ys) (same_types-length xs ys (λ e. h (ap suc e)))
  where
    and_false : (a b : Bool) → b ≡ false → (a && b) ≡ false
    and_false true b e = e
    and_false false b e = refl

pub or_false : (b : Bool) → (b && false) ≡ false
or_false true = refl
or_false false = refl

pub no_types : (xs : List ValueType) → nat_eq (length xs) 0 ≡ same_types xs []
no_types [] = refl
no_types (x ∷ xs) = grind (arith, nat_tests)

pub more_types : (xs : List ValueType) (y : ValueType) → 2 ≤ length xs → same_types xs (y ∷ []) ≡ false
more_types [] y h = let no : ⊥ = omega arith in absurd no
more_types (x ∷ []) y h = let no : ⊥ = omega arith in absurd no
more_types (x ∷ z ∷ xs) y h = or_false (same_type x y)

-- symbols, one by one
pub callees_from-none : (means : List ℕ → Meaning) (us : List TypedUnit) (ss : List SymbolName) → callees_from means us ss [] ≡ []
callees_from-none means us [] = refl
callees_from-none means us (s ∷ ss) = refl

pub callees_from-end : (means : List ℕ → Meaning) (us : List TypedUnit) (ss : List SymbolName) (ds : List Callee) (k : ℕ) → (k < length ss → k < length ds → ⊥) → callees_from means us (drop k ss) (drop k ds) ≡ []
callees_from-end means us [] ds zero h = refl
callees_from-end means us [] ds (suc k) h = refl
callees_from-end means us (s ∷ ss) [] zero h = refl
callees_from-end means us (s ∷ ss) [] (suc k) h = callees_from-none means us (drop k ss)
callees_from-end means us (s ∷ ss) (d ∷ ds) zero h = absurd (h (omega arith) (omega arith))
callees_from-end means us (s ∷ ss) (d ∷ ds) (suc k) h = callees_from-end means us ss ds k (λ a b. h (omega arith) (omega arith))
