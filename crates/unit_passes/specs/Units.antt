-- Units over functions of any language.
use Rattle.std.specs.Prelude.{◌≡◌, ℕ, List, map, slice_get, Option, Some}
use Rattle.std.specs.Option.{option_and_then}
use Rattle.std.proofs.Common.{ap, ◌∙◌}
use Rattle.std.proofs.lemmas.Option.{option_and_then_some}
use Rattle.pass_core.specs.Lists.{EachMatches, Beside}
use Rattle.pass_core.specs.laws.Lists.{each_at, same_of_each}
use Rattle.unit_names.specs.declared.naming.Naming.{Naming}
use Rattle.unit_names.specs.Names.{FunctionPart, NamedUnit}
use Rattle.unit_passes.specs.declared.units.UnitOf.{UnitOf}

-- what naming needs
abbrev pub named_of : {F : Type 0} → (F → FunctionPart) → UnitOf F → NamedUnit
named_of part u = record { face = u.naming.face; globals = u.naming.globals; symbol_names = u.naming.symbol_names; functions = map part u.functions }

-- the names are kept, and the functions match one by one
pub record UnitMatches {F G : Type 0} (matches : Naming → F → G → Type 0) (u : UnitOf F) (v : UnitOf G) : Type 0 where
  pub naming : v.naming ≡ u.naming
  pub functions : EachMatches (matches u.naming) u.functions v.functions

pub named_same : {F G : Type 0} (part : F → FunctionPart) (other : G → FunctionPart) (matches : Naming → F → G → Type 0) → ((n : Naming) (f : F) (g : G) → matches n f g → other g ≡ part f) → (u : UnitOf F) (v : UnitOf G) → UnitMatches matches u v → named_of other v ≡ named_of part u
named_same part other matches same u v m =
    ap (λ (n : Naming). record { face = n.face; globals = n.globals; symbol_names = n.symbol_names; functions = map other v.functions }) m.naming
    ∙ ap (λ (ps : List FunctionPart). record { face = u.naming.face; globals = u.naming.globals; symbol_names = u.naming.symbol_names; functions = ps })
    (same_of_each part other (matches u.naming) (same u.naming) u.functions v.functions m.functions)

-- over lists of units the names are the same too, and so is all that is made of them
pub all_named_same : {F G : Type 0} (part : F → FunctionPart) (other : G → FunctionPart) (matches : Naming → F → G → Type 0) → ((n : Naming) (f : F) (g : G) → matches n f g → other g ≡ part f) → (us : List (UnitOf F)) (vs : List (UnitOf G)) → EachMatches (UnitMatches matches) us vs → map (named_of other) vs ≡ map (named_of part) us
all_named_same part other matches same us vs each = same_of_each (named_of part) (named_of other) (UnitMatches matches) (named_same part other matches same) us vs each

-- the function that stands in the place of another
abbrev pub function_at : {F : Type 0} → List (UnitOf F) → ℕ → ℕ → Option F
function_at {F} units unit index = option_and_then (λ (u : UnitOf F). slice_get u.functions index) (slice_get units unit)

pub record FunctionBeside {F G : Type 0} (matches : Naming → F → G → Type 0) (vs : List (UnitOf G)) (unit index : ℕ) (f : F) : Type 0 where
  pub naming : Naming
  pub there : G
  pub found : function_at vs unit index ≡ Some there
  pub match : matches naming f there

pub function_beside : {F G : Type 0} (matches : Naming → F → G → Type 0) (us : List (UnitOf F)) (vs : List (UnitOf G)) (unit index : ℕ) (f : F) → EachMatches (UnitMatches matches) us vs → function_at us unit index ≡ Some f → FunctionBeside matches vs unit index f
function_beside {F} {G} matches us vs unit index f each e = option_and_then_some (λ (u : UnitOf F). slice_get u.functions index) (slice_get us unit) f e (λ u found there.
    let b : Beside (UnitMatches matches) vs unit u = each_at (UnitMatches matches) us vs unit u each found in
    let h : Beside (matches u.naming) b.there.functions index f = each_at (matches u.naming) u.functions b.there.functions index f b.match.functions there in
    record { naming = u.naming; there = h.there; found = ap (λ o. option_and_then (λ (v : UnitOf G). slice_get v.functions index) o) b.found ∙ h.found; match = h.match })
