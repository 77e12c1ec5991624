-- What mean comes to, where the files and the input tell their bytes: one row for each answer.
use Rattle.std.specs.Prelude.{◌≡◌, ◌⊎◌, ℕ, ◌+◌, ◌<◌, List, [], drop, Some}
use Rattle.cc_base.specs.Faces.{source_fault, Linkable}
use Rattle.cc_base.specs.Outside.{grown}
use Rattle.cc_base.specs.Runs.{emitted, taken}
use Rattle.cc_base.specs.declared.face.SourceFault.TheVariants as source
use Rattle.cc_base.specs.declared.run.Act.{Act}
use Rattle.cc_base.specs.declared.run.Outcome.TheVariants as outcome
use Rattle.text_grammar.specs.declared.fault.SyntaxFault.TheVariants as syntax
use Rattle.clight_unit.specs.declared.unit.ClightUnit.{ClightUnit as TypedUnit}
use Rattle.mean_source.specs.Means.{IsLeast, IsAsking, IsEmitting, faces}
use Rattle.commands.specs.declared.answer.Answer.TheVariants as answer
use Rattle.commands.specs.Doing.{Outside, Command}
use Rattle.commands.specs.Steps.{fault_at, rule_kind, limit_kind, row_at, file_name}
use Rattle.commands.specs.Meanings.{def_name, use_name}
use Rattle.ccelf_build.specs.Contents.{Contents, IsAbsent, IsLong, FirstStop, DidPut}
use Rattle.ccelf_build.specs.Sources.{IsTyped, units_after, AllTyped}
use Rattle.ccelf_build.specs.Told.{HasFault, HasBroken}

-- the output has grown by what linked units have emitted after so many turns, and the input lacks what they have taken
pub record TookTurns (units : List TypedUnit) (input : List ℕ) (count : ℕ) (old new : Outside) : Type 0 where
  pub emits : new.output.told ≡ (grown old.output (emitted (units_after units input count).acts)).told
  pub takes : new.input.told ≡ Some (drop (taken (units_after units input count).acts) input)

-- the outside cut the run off, in the turn after so many. The acts before and after that turn are so
pub record CutAfter (units : List TypedUnit) (input : List ℕ) (turns : ℕ) (so : List Act → List Act → Type 0) (old new : Outside) : Type 0 where
  pub count : ℕ
  pub fewer : count < turns
  pub ran : TookTurns units input count old new
  pub runs : (units_after units input count).outcome ≡ outcome.Running
  pub next : so (units_after units input count).acts (units_after units input (count + 1)).acts

-- memory may be wanted in any turn
abbrev pub IsAny : List Act → List Act → Type 0
IsAny before acts = Unit {0}

-- how linked units stand after all their turns
abbrev pub MeansSo : List TypedUnit → List ℕ → ℕ → Command
MeansSo units input turns old (answer.Ended status) new = TookTurns units input turns old new × ((units_after units input turns).outcome ≡ outcome.Ended status)
MeansSo units input turns old answer.Spent new = TookTurns units input turns old new × ((units_after units input turns).outcome ≡ outcome.Running)
MeansSo units input turns old (answer.Wrong turn) new =
    TookTurns units input turns old new × ((units_after units input turns).outcome ≡ outcome.Wrong) × IsLeast (units_after units input) turns turn outcome.Wrong
MeansSo units input turns old (answer.Deep turn) new =
    TookTurns units input turns old new × ((units_after units input turns).outcome ≡ outcome.Deep) × IsLeast (units_after units input) turns turn outcome.Deep
MeansSo units input turns old answer.ReadFault new = CutAfter units input turns IsAsking old new
MeansSo units input turns old answer.WriteFault new = CutAfter units input turns IsEmitting old new
MeansSo units input turns old answer.Memory new = CutAfter units input turns IsAny old new
MeansSo units input turns old _ new = ⊥

-- nothing is wrong with the units' names, they were run, and no file was put
abbrev pub MeansThem : ℕ → List (List ℕ) → Contents → List ℕ → Command
MeansThem turns names files input old told new = (new.files.told ≡ Some files) × AllTyped names files (λ units. Linkable (faces units) × MeansSo units input turns old told new)

abbrev pub mean_told : ℕ → List (List ℕ) → Contents → List ℕ → Command
mean_told turns names files input old (answer.Missing which) new = FirstStop (IsTyped files) names (λ name. (which ≡ name) × IsAbsent files name) × DidPut files [] old new
mean_told turns names files input old (answer.LimitFile which) new = FirstStop (IsTyped files) names (λ name. (which ≡ name) × IsLong files name) × DidPut files [] old new
mean_told turns names files input old (answer.LimitText which) new = FirstStop (IsTyped files) names (λ name. (which ≡ name) × HasFault files name syntax.Long) × DidPut files [] old new
mean_told turns names files input old (answer.LimitDeep which at) new = FirstStop (IsTyped files) names (λ name. (which ≡ name) × HasFault files name (syntax.Deep at)) × DidPut files [] old new
mean_told turns names files input old (answer.Syntax which kind at) new = FirstStop (IsTyped files) names (λ name. (which ≡ name) × HasFault files name (fault_at kind at)) × DidPut files [] old new
mean_told turns names files input old (answer.Typing which broken at) new = FirstStop (IsTyped files) names (λ name. (which ≡ name) × HasBroken files name (row_at (rule_kind broken) at)) × DidPut files [] old new
mean_told turns names files input old (answer.LimitUnit which limit at) new = FirstStop (IsTyped files) names (λ name. (which ≡ name) × HasBroken files name (row_at (limit_kind limit) at)) × DidPut files [] old new
mean_told turns names files input old (answer.Doubled name file) new =
    AllTyped names files (λ units. (unit index : ℕ) × (source_fault (faces units) ≡ Some (source.Doubled unit index)) × (name ≡ def_name units unit index) × (file ≡ file_name names unit)) × DidPut files [] old new
mean_told turns names files input old (answer.Unresolved name file) new =
    AllTyped names files (λ units. (unit index : ℕ) × (source_fault (faces units) ≡ Some (source.Unresolved unit index)) × (name ≡ use_name units unit index) × (file ≡ file_name names unit)) × DidPut files [] old new
mean_told turns names files input old (answer.Sized name file stated defined) new =
    AllTyped names files (λ units. (unit index : ℕ) × (source_fault (faces units) ≡ Some (source.Sized unit index stated defined)) × (name ≡ use_name units unit index) × (file ≡ file_name names unit)) × DidPut files [] old new
mean_told turns names files input old (answer.Ended status) new = MeansThem turns names files input old (answer.Ended status) new
mean_told turns names files input old answer.Spent new = MeansThem turns names files input old answer.Spent new
mean_told turns names files input old (answer.Wrong turn) new = MeansThem turns names files input old (answer.Wrong turn) new
mean_told turns names files input old (answer.Deep turn) new = MeansThem turns names files input old (answer.Deep turn) new
mean_told turns names files input old answer.ReadFault new = DidPut files [] old new ⊎ MeansThem turns names files input old answer.ReadFault new
mean_told turns names files input old answer.WriteFault new = MeansThem turns names files input old answer.WriteFault new
mean_told turns names files input old answer.Memory new = DidPut files [] old new ⊎ MeansThem turns names files input old answer.Memory new
mean_told turns names files input old _ new = ⊥
