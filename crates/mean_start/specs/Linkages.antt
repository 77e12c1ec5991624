-- What units tell of names, and the maps that hold it.
use Rattle.std.specs.Prelude.{ℕ, ◌<◌, ◌^◌, List, length, Option}
use Rattle.cc_base.specs.Faces.{first_answer, has_name, shares, size_of_object}
use Rattle.block_mem.specs.Start.{is_own, is_seen, is_shared, is_function}
use Rattle.block_mem.specs.declared.value.BlockName.{BlockName}
use Rattle.block_mem.specs.declared.value.BlockName.TheVariants.{Global}
use Rattle.clight_unit.specs.declared.unit.ClightUnit.{ClightUnit as TypedUnit}
use Rattle.clight_sem.specs.Functions.{is_function_named, is_shown}
use Rattle.unit_names.specs.declared.meaning.Meaning.{Meaning}
use Rattle.unit_names.specs.declared.meaning.Meaning.TheVariants.{Function as FunctionOf}
use Rattle.mean_start.specs.declared.linkage.Linkage.{Linkage}
use Rattle.mean_start.specs.declared.own.Own.{Own}
use Rattle.mean_start.specs.Firsts.{Tells, first_with}
use Rattle.mean_start.specs.Small.{AreSmall, IsSmall}

-- What one unit of this number tells of a name

-- the size of the object that it defines for others, and none of a function
abbrev pub definition_of : List ℕ → ℕ → TypedUnit → Option (Option ℕ)
definition_of name k u = first_with (has_name name) (λ i d. size_of_object d) 0 u.face.defs

-- whether it defines a function for others
abbrev pub function_definition_of : List ℕ → ℕ → TypedUnit → Option (Unit {0})
function_definition_of name k u = first_with (is_function name) (λ i d. tt) 0 u.face.defs

-- the size that it states of an object that it shares
abbrev pub shared_size_of : List ℕ → ℕ → TypedUnit → Option ℕ
shared_size_of name k u = first_with (shares name) (λ i w. w.stated) 0 u.face.uses

-- its object that others see, and the one that it shares
abbrev pub seen_of : List ℕ → ℕ → TypedUnit → Option BlockName
seen_of name k u = first_with (is_seen name) (λ i g. Global k i) 0 u.globals

abbrev pub shared_of : List ℕ → ℕ → TypedUnit → Option BlockName
shared_of name k u = first_with (is_shared name) (λ i g. Global k i) 0 u.globals

-- its function that others see
abbrev pub shown_of : List ℕ → ℕ → TypedUnit → Option Meaning
shown_of name k u = first_with (is_shown u name) (λ i f. FunctionOf k i) 0 u.functions

-- its own object and its own function
abbrev pub own_object_of : List ℕ → ℕ → TypedUnit → Option BlockName
own_object_of name k u = first_with (is_own name) (λ i g. Global k i) 0 u.globals

abbrev pub own_function_of : List ℕ → ℕ → TypedUnit → Option Meaning
own_function_of name k u = first_with (is_function_named u name) (λ i f. FunctionOf k i) 0 u.functions

-- What the first of all units tells

abbrev pub first_of : {V : Type 0} → (List ℕ → ℕ → TypedUnit → Option V) → List TypedUnit → List ℕ → Option V
first_of tells units name = first_answer (tells name) 0 units

-- the maps of linked units
pub record IsLinkage (l : Linkage) : Type 0 where
  pub few : length l.units.now < 2 ^ 32
  pub small : AreSmall l.units.now
  pub definitions : Tells l.definitions (first_of definition_of l.units.now)
  pub function_definitions : Tells l.function_definitions (first_of function_definition_of l.units.now)
  pub shared_sizes : Tells l.shared_sizes (first_of shared_size_of l.units.now)
  pub seen : Tells l.seen (first_of seen_of l.units.now)
  pub shared : Tells l.shared (first_of shared_of l.units.now)
  pub shown : Tells l.shown (first_of shown_of l.units.now)

-- the maps of a unit's own names
pub record IsOwn (o : Own) : Type 0 where
  pub small : IsSmall o.unit.now
  pub objects : Tells o.objects (λ name. own_object_of name o.number o.unit.now)
  pub functions : Tells o.functions (λ name. own_function_of name o.number o.unit.now)
