-- What is wrong with one definition or one use.
use Rattle.std.specs.Prelude.{ℕ, Bool, ◌&&◌, ◌||◌, not, cond, eqb, take, List, Option, Some, None, is_some, option_and_then}
use Rattle.std.specs.HashMap.{HashMap}
use denote.Ref.{Bor}
use Rattle.cc_base.specs.Faces.{first_answer, is_defined, has_meaning, measure, size_differs}
use Rattle.cc_base.specs.declared.face.Face.{Face}
use Rattle.cc_base.specs.declared.face.Def.{Def}
use Rattle.cc_base.specs.declared.face.Wanted.{Wanted}
use Rattle.cc_base.specs.declared.face.SourceFault.{SourceFault}
use Rattle.cc_base.specs.declared.face.SourceFault.TheVariants.{Doubled, Unresolved}
use Rattle.mean_start.specs.Firsts.{found}

-- whether a map holds a name
abbrev pub knows : {V S : Type 0} → HashMap (Bor (List ℕ)) V S → List ℕ → Bool
knows m name = is_some (found m name)

-- a definition whose name is known, or is that of an earlier one of these
abbrev pub doubled_at : (List ℕ → Bool) → ℕ → List Def → ℕ → Def → Option SourceFault
doubled_at known unit ds index d = cond (known d.name || is_defined (take index ds) d.name) (Some (Doubled unit index)) None

abbrev pub doubled_after : (List ℕ → Bool) → ℕ → List Def → Option SourceFault
doubled_after known unit ds = first_answer (doubled_at known unit ds) 0 ds

abbrev pub unresolved_at : List Face → ℕ → ℕ → Wanted → Option SourceFault
unresolved_at faces unit index w = cond (not w.shared && not (has_meaning faces w.name)) (Some (Unresolved unit index)) None

abbrev pub sized_at : List Face → ℕ → ℕ → Wanted → Option SourceFault
sized_at faces unit index w = cond (eqb w.stated 0) None (option_and_then (size_differs unit index w) (measure faces w.name))
