-- The steps of mean: each unit is got and its types are checked, and linked units are run as the source means.
use Rattle.std.specs.Prelude.{◌≡◌, ℕ, List, [], codes, slice_get, Result, Ok, Err}
use Rattle.std.specs.Option.{option_map_or}
use Rattle.cc_base.specs.declared.face.Def.{Def}
use Rattle.cc_base.specs.declared.face.Wanted.{Wanted}
use Rattle.text_grammar.specs.declared.tree.External.{External}
use Rattle.text_parser.specs.Parsing.{HasTree}
use Rattle.clight_unit.specs.declared.unit.ClightUnit.{ClightUnit as TypedUnit}
use Rattle.typing_units.specs.Typing.{Typed}
use Rattle.mean_run.specs.declared.running.MeanEnd.{MeanEnd}
use Rattle.mean_run.specs.declared.running.MeanEnd.TheVariants as end
use Rattle.mean_source.specs.Means.{Means}
use Rattle.mean_source.specs.declared.meaning.MeanFault.{MeanFault}
use Rattle.mean_source.specs.declared.meaning.MeanFault.TheVariants as fault
use Rattle.commands.specs.declared.answer.Answer.{Answer}
use Rattle.commands.specs.declared.answer.Answer.TheVariants as answer
use Rattle.commands.specs.Doing.{Outside, Step, Command, AndThen}
use Rattle.commands.specs.Steps.{Fetches, Parsed, BreaksRule, row_at, rule_kind, limit_kind, file_name}

-- the text is a unit's text with this typed unit
pub record HasUnit (text : List ℕ) (unit : TypedUnit) : Type 0 where
  pub tree : List External
  pub parsed : HasTree text tree
  pub typed : Typed tree unit

-- the text has this typed unit; else the answer says why it has none
abbrev pub Checked : List ℕ → List ℕ → Result TypedUnit Answer → Type 0
Checked name text (Ok unit) = HasUnit text unit
Checked name text (Err (answer.Typing which broken at)) = BreaksRule text (row_at (rule_kind broken) at) × (which ≡ name)
Checked name text (Err (answer.LimitUnit which limit at)) = BreaksRule text (row_at (limit_kind limit) at) × (which ≡ name)
Checked name text (Err told) = Parsed name text (Err told)

abbrev pub ChecksText : List ℕ → List ℕ → Step TypedUnit
ChecksText name text old result new = Checked name text result × (new ≡ old)

-- get UNIT, parse it, check its types
abbrev pub Checks : List ℕ → Step TypedUnit
Checks name = AndThen (Fetches name) (λ text. ChecksText name text)

-- the name of a definition, by the numbers of its unit and of itself in the unit's face
abbrev pub def_name : List TypedUnit → ℕ → ℕ → List ℕ
def_name units unit index = option_map_or (λ (u : TypedUnit). option_map_or (λ (d : Def). d.name) (slice_get u.face.defs index) []) (slice_get units unit) []

-- the name of a use; the runtime, which has the number after the last unit, uses `main`
abbrev pub use_name : List TypedUnit → ℕ → ℕ → List ℕ
use_name units unit index = option_map_or (λ (u : TypedUnit). option_map_or (λ (w : Wanted). w.name) (slice_get u.face.uses index) []) (slice_get units unit) (codes "main")

-- the answer that tells an end
abbrev pub end_told : MeanEnd → Answer
end_told (end.Ended status) = answer.Ended status
end_told end.Spent = answer.Spent
end_told (end.Wrong turn) = answer.Wrong turn
end_told (end.Deep turn) = answer.Deep turn

-- and the one that tells a fault. The names are those of the units' files
abbrev pub fault_told : List (List ℕ) → List TypedUnit → MeanFault → Answer
fault_told names units (fault.Doubled unit index) = answer.Doubled (def_name units unit index) (file_name names unit)
fault_told names units (fault.Unresolved unit index) = answer.Unresolved (use_name units unit index) (file_name names unit)
fault_told names units (fault.Sized unit index stated defined) = answer.Sized (use_name units unit index) (file_name names unit) stated defined
fault_told names units fault.Read = answer.ReadFault
fault_told names units fault.Write = answer.WriteFault
fault_told names units fault.Memory = answer.Memory

-- a fault of the names, for which a name is copied
abbrev pub IsOfNames : MeanFault → Type 0
IsOfNames (fault.Doubled unit index) = Unit {0}
IsOfNames (fault.Unresolved unit index) = Unit {0}
IsOfNames (fault.Sized unit index stated defined) = Unit {0}
IsOfNames _ = ⊥

-- how much stack all active calls of a program may need together, in bytes
abbrev pub room : ℕ
room = 1048512

-- the linked units came to this, and the files are as before
abbrev pub CameTo : ℕ → List TypedUnit → Outside → Result MeanEnd MeanFault → Outside → Type 0
CameTo steps units old result new = Means units room steps old.input old.output result new.input new.output × (new.files ≡ old.files)

-- linked units are run for so many turns at most
abbrev pub MeansBy : ℕ → List (List ℕ) → List TypedUnit → Command
MeansBy steps names units old (answer.Doubled name file) new =
    (unit index : ℕ) × CameTo steps units old (Err (fault.Doubled unit index)) new × (name ≡ def_name units unit index) × (file ≡ file_name names unit)
MeansBy steps names units old (answer.Unresolved name file) new =
    (unit index : ℕ) × CameTo steps units old (Err (fault.Unresolved unit index)) new × (name ≡ use_name units unit index) × (file ≡ file_name names unit)
MeansBy steps names units old (answer.Sized name file stated defined) new =
    (unit index : ℕ) × CameTo steps units old (Err (fault.Sized unit index stated defined)) new × (name ≡ use_name units unit index) × (file ≡ file_name names unit)
MeansBy steps names units old (answer.Ended status) new = CameTo steps units old (Ok (end.Ended status)) new
MeansBy steps names units old answer.Spent new = CameTo steps units old (Ok end.Spent) new
MeansBy steps names units old (answer.Wrong turn) new = CameTo steps units old (Ok (end.Wrong turn)) new
MeansBy steps names units old (answer.Deep turn) new = CameTo steps units old (Ok (end.Deep turn)) new
MeansBy steps names units old answer.ReadFault new = CameTo steps units old (Err fault.Read) new
MeansBy steps names units old answer.WriteFault new = CameTo steps units old (Err fault.Write) new
MeansBy steps names units old answer.Memory new = CameTo steps units old (Err fault.Memory) new
MeansBy steps names units old _ new = ⊥
