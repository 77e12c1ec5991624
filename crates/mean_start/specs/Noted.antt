-- The steps in which the maps are made.
use Rattle.std.specs.Prelude.{◌≡◌, ℕ, List, Option}
use Rattle.std.specs.Option.{option_or}
use Rattle.std.specs.HashMap.{HashMap}
use denote.Ref.{Bor}
use Rattle.cc_base.specs.Faces.{first_answer}
use Rattle.clight_unit.specs.declared.unit.ClightUnit.{ClightUnit as TypedUnit}
use Rattle.mean_start.specs.declared.linkage.Linkage.{Linkage}
use Rattle.mean_start.specs.Firsts.{found, Adds}
use Rattle.mean_start.specs.Linkages.{definition_of, function_definition_of, shared_size_of, seen_of, shared_of, shown_of, first_of}

-- the maps with what a unit tells
pub record AddsUnit (old new : Linkage) (k : ℕ) (u : TypedUnit) : Type 0 where
  pub units : new.units ≡ old.units
  pub definitions : Adds old.definitions new.definitions (λ name. definition_of name k u)
  pub function_definitions : Adds old.function_definitions new.function_definitions (λ name. function_definition_of name k u)
  pub shared_sizes : Adds old.shared_sizes new.shared_sizes (λ name. shared_size_of name k u)
  pub seen : Adds old.seen new.seen (λ name. seen_of name k u)
  pub shared : Adds old.shared new.shared (λ name. shared_of name k u)
  pub shown : Adds old.shown new.shown (λ name. shown_of name k u)

-- the map lacks only what the rest of the units tell, which are numbered from k
abbrev pub Lacks : {V S : Type 0} → HashMap (Bor (List ℕ)) V S → (List ℕ → ℕ → TypedUnit → Option V) → ℕ → List TypedUnit → List TypedUnit → Type 0
Lacks m tells k rest units = (name : List ℕ) → option_or (found m name) (first_answer (tells name) k rest) ≡ first_of tells units name

pub record AllLack (l : Linkage) (k : ℕ) (rest units : List TypedUnit) : Type 0 where
  pub definitions : Lacks l.definitions definition_of k rest units
  pub function_definitions : Lacks l.function_definitions function_definition_of k rest units
  pub shared_sizes : Lacks l.shared_sizes shared_size_of k rest units
  pub seen : Lacks l.seen seen_of k rest units
  pub shared : Lacks l.shared shared_of k rest units
  pub shown : Lacks l.shown shown_of k rest units
