-- Why each status comes, where the files and the input tell their bytes: each for its own reason and for no other.
use Rattle.std.specs.Prelude.{◌≡◌, ◌⊎◌, ℕ, List, Some, None}
use Rattle.cc_base.specs.declared.run.Outcome.{Outcome}
use Rattle.cc_base.specs.declared.run.Outcome.TheVariants as outcome
use Rattle.cc_base.specs.Faces.{Linkable, source_fault as name_fault}
use Rattle.cc_base.specs.declared.face.SourceFault.TheVariants as naming
use Rattle.text_grammar.specs.declared.tree.External.{External}
use Rattle.text_grammar.specs.declared.fault.SyntaxFault.TheVariants as syntax
use Rattle.second_form.specs.declared.second_items.Item.{Item}
use Rattle.second_form.specs.SecondFaults.{source_fault}
use Rattle.second_form.specs.SecondFaults as source
use Rattle.pass_core.specs.Refines.{Sound}
use Rattle.mean_source.specs.Means.{faces}
use Rattle.elf_file.specs.Object.{Object}
use Rattle.elf_file.specs.declared.image.ImageParts.{ImageParts}
use Rattle.elf_linker.specs.Names.{link_fault, too_long}
use Rattle.elf_linker.specs.Runtime.{with_runtime}
use Rattle.elf_linker.specs.declared.fault.LinkFault.{LinkFault}
use Rattle.elf_linker.specs.declared.fault.LinkFault.TheVariants as linking
use Rattle.elf_loader.specs.Load.{image_after}
use Rattle.elf_loader.specs.declared.fault.LoadFault.{LoadFault}
use Rattle.second_code.specs.LinkedObjects.{linked_objects}
use Rattle.commands.specs.declared.answer.SyntaxKind.{SyntaxKind}
use Rattle.commands.specs.declared.answer.TypingKind.{TypingKind}
use Rattle.commands.specs.declared.answer.UnitLimit.{UnitLimit}
use Rattle.commands.specs.declared.answer.Status.{Status}
use Rattle.commands.specs.declared.answer.Status.TheVariants as status
use Rattle.commands.specs.Steps.{fault_at, rule_kind, limit_kind, row_at, IsFirstNoObject}
use Rattle.ccelf_build.specs.Contents.{Contents, StandsAt, IsAbsent, IsLong, AreAll, FirstStop}
use Rattle.ccelf_build.specs.Sources.{IsTyped, AllTyped, units_after}
use Rattle.ccelf_build.specs.Told.{Compiled, IsCompiled, HasNoUnit, HasFault, HasBroken, HasTreeAt, AreObjectsAt, IsLoaded, IsNotLoaded, HasNoImage, IsBuilt, items_of}

-- A fault of the outside, which raised its count, or want of memory stands in place of the status.
abbrev pub Yields : Status → Type 0
Yields result = (result ≡ status.ReadFault) ⊎ ((result ≡ status.WriteFault) ⊎ (result ≡ status.Memory))

-- The status comes for its reason. And where a status has its reason it comes, unless the outside or want of memory stands in its place.
pub record ComesFor (reason : Status → Type 0) (result : Status) : Type 0 where
  pub for : reason result ⊎ Yields result
  pub comes : (s : Status) → reason s → (result ≡ s) ⊎ Yields result

-- a text that passes a limit of length or depth
abbrev pub PassesLimit : Contents → List ℕ → Type 0
PassesLimit files unit = IsLong files unit ⊎ (HasFault files unit syntax.Long ⊎ ((at : ℕ) × HasFault files unit (syntax.Deep at)))

-- a text with a fault of syntax
abbrev pub HasSyntaxFault : Contents → List ℕ → Type 0
HasSyntaxFault files unit = (kind : SyntaxKind) × ((at : ℕ) × HasFault files unit (fault_at kind at))

-- a unit that breaks a rule of the types, and one that passes a limit of a unit
abbrev pub HasTypeFault : Contents → List ℕ → Type 0
HasTypeFault files unit = (kind : TypingKind) × ((at : ℕ) × HasBroken files unit (row_at (rule_kind kind) at))

abbrev pub PassesUnitLimit : Contents → List ℕ → Type 0
PassesUnitLimit files unit = (limit : UnitLimit) × ((at : ℕ) × HasBroken files unit (row_at (limit_kind limit) at))

-- a unit that is not compiled for a limit: of the text, of the unit, or of the form
abbrev pub PassesAnyLimit : Contents → List ℕ → Type 0
PassesAnyLimit files unit = PassesLimit files unit ⊎ (PassesUnitLimit files unit ⊎ HasNoUnit files unit)

-- the reasons of compile
abbrev pub compile_reason : List ℕ → Contents → Status → Type 0
compile_reason unit files status.Missing = IsAbsent files unit
compile_reason unit files status.Syntax = HasSyntaxFault files unit
compile_reason unit files status.Typing = HasTypeFault files unit
compile_reason unit files status.Limit = PassesAnyLimit files unit
compile_reason unit files status.Done = (made : Compiled) × IsCompiled files unit made
compile_reason unit files _ = ⊥

-- the reasons of show
abbrev pub show_reason : List ℕ → Contents → Status → Type 0
show_reason unit files status.Missing = IsAbsent files unit
show_reason unit files status.Syntax = HasSyntaxFault files unit
show_reason unit files status.Limit = PassesLimit files unit
show_reason unit files status.Done = (tree : List External) × HasTreeAt files unit tree
show_reason unit files _ = ⊥

-- all files are objects, and this is what is wrong with them
abbrev pub AreFaulty : Contents → List (List ℕ) → LinkFault → Type 0
AreFaulty files names fault = (objects : List Object) × AreObjectsAt files names objects × (link_fault (with_runtime objects) ≡ Some fault)

-- the reasons of link
abbrev pub link_reason : List (List ℕ) → Contents → Status → Type 0
link_reason names files status.Missing = FirstStop (StandsAt files) names (IsAbsent files)
link_reason names files status.Limit = FirstStop (StandsAt files) names (IsLong files)
link_reason names files status.Object = (bytes : List (List ℕ)) × AreAll (StandsAt files) names bytes × ((which : List ℕ) × IsFirstNoObject names bytes which)
link_reason names files status.Doubled = (object symbol : ℕ) × AreFaulty files names (linking.Doubled object symbol)
link_reason names files status.Unresolved = (object symbol : ℕ) × AreFaulty files names (linking.Unresolved object symbol)
link_reason names files status.Sized = (object symbol stated defined : ℕ) × AreFaulty files names (linking.Sized object symbol stated defined)
link_reason names files status.Range = (end : ℕ) × AreFaulty files names (linking.Range end)
link_reason names files status.Done = (objects : List Object) × AreObjectsAt files names objects × (link_fault (with_runtime objects) ≡ None)
link_reason names files _ = ⊥

-- under the name stands an image, whose run has this outcome after its instructions
abbrev pub RunsTo : ℕ → List ℕ → Contents → List ℕ → Outcome → Type 0
RunsTo steps name files input outcome = (image : ImageParts) × IsLoaded files name image × ((image_after image input steps).outcome ≡ outcome)

-- the reasons of run
abbrev pub run_reason : ℕ → List ℕ → Contents → List ℕ → Status → Type 0
run_reason steps name files input status.Missing = IsAbsent files name
run_reason steps name files input status.Limit = IsLong files name
run_reason steps name files input status.Image = HasNoImage files name ⊎ ((fault : LoadFault) × IsNotLoaded files name fault)
run_reason steps name files input status.Done = (code : ℕ) × RunsTo steps name files input (outcome.Ended code)
run_reason steps name files input status.Spent = RunsTo steps name files input outcome.Running
run_reason steps name files input status.Stuck = RunsTo steps name files input outcome.Wrong
run_reason steps name files input _ = ⊥

-- all units are compiled, and this is so of their items
abbrev pub AllCompiled : List (List ℕ) → Contents → (List (List Item) → Type 0) → Type 0
AllCompiled units files so = (all : List Compiled) × AreAll (IsCompiled files) units all × so (items_of all)

-- the reasons for which exec refuses the units
abbrev pub refusal : List (List ℕ) → Contents → Status → Type 0
refusal units files status.Missing = FirstStop (IsCompiled files) units (IsAbsent files)
refusal units files status.Syntax = FirstStop (IsCompiled files) units (HasSyntaxFault files)
refusal units files status.Typing = FirstStop (IsCompiled files) units (HasTypeFault files)
refusal units files status.Limit = FirstStop (IsCompiled files) units (PassesAnyLimit files)
refusal units files status.Doubled = AllCompiled units files (λ items. (unit : ℕ) × (name : List ℕ) × (source_fault items ≡ Some (source.Doubled unit name)))
refusal units files status.Unresolved = AllCompiled units files (λ items. (unit : ℕ) × (name : List ℕ) × (source_fault items ≡ Some (source.Unresolved unit name)))
refusal units files status.Range = AllCompiled units files (λ items. (source_fault items ≡ None) × ((end : ℕ) × (too_long (linked_objects items) ≡ Some (linking.Range end))))
refusal units files _ = ⊥

-- the units are a program whose image is not too long
abbrev pub IsProgram : List (List ℕ) → Contents → Type 0
IsProgram units files = AllCompiled units files (λ items. (source_fault items ≡ None) × (too_long (linked_objects items) ≡ None))

-- the run of the image that is built of the units stands so after its instructions
abbrev pub BuiltRunsTo : ℕ → List (List ℕ) → Contents → List ℕ → Outcome → Type 0
BuiltRunsTo steps units files input outcome = (image : ImageParts) × IsBuilt units files input image × ((image_after image input steps).outcome ≡ outcome)

-- The reasons for which a program's run has its status. It is stuck only where the source goes wrong or needs more than the stack.
abbrev pub run_of_units : ℕ → List (List ℕ) → Contents → List ℕ → Status → Type 0
run_of_units steps units files input status.Done = (code : ℕ) × BuiltRunsTo steps units files input (outcome.Ended code)
run_of_units steps units files input status.Spent = BuiltRunsTo steps units files input outcome.Running
run_of_units steps units files input status.Stuck = BuiltRunsTo steps units files input outcome.Wrong × AllTyped units files (λ sources. ¬ Sound (units_after sources input))
run_of_units steps units files input _ = ⊥

pub record ExecComesFor (steps : ℕ) (units : List (List ℕ)) (files : Contents) (input : List ℕ) (result : Status) : Type 0 where
  -- the status comes for its reason
  pub for : (refusal units files result ⊎ run_of_units steps units files input result) ⊎ Yields result
  -- units that are refused are refused for that reason
  pub refused : (s : Status) → refusal units files s → (result ≡ s) ⊎ Yields result
  -- and a program is run
  pub runs : IsProgram units files → ((result ≡ status.Done) ⊎ ((result ≡ status.Spent) ⊎ (result ≡ status.Stuck))) ⊎ Yields result

-- the linked units have this outcome after their turns
abbrev pub MeansTo : ℕ → List (List ℕ) → Contents → List ℕ → Outcome → Type 0
MeansTo turns names files input outcome = AllTyped names files (λ units. Linkable (faces units) × ((units_after units input turns).outcome ≡ outcome))

-- the reasons of mean
abbrev pub mean_reason : ℕ → List (List ℕ) → Contents → List ℕ → Status → Type 0
mean_reason turns names files input status.Missing = FirstStop (IsTyped files) names (IsAbsent files)
mean_reason turns names files input status.Syntax = FirstStop (IsTyped files) names (HasSyntaxFault files)
mean_reason turns names files input status.Typing = FirstStop (IsTyped files) names (HasTypeFault files)
mean_reason turns names files input status.Limit = FirstStop (IsTyped files) names (λ name. PassesLimit files name ⊎ PassesUnitLimit files name)
mean_reason turns names files input status.Doubled = AllTyped names files (λ units. (unit index : ℕ) × (name_fault (faces units) ≡ Some (naming.Doubled unit index)))
mean_reason turns names files input status.Unresolved = AllTyped names files (λ units. (unit index : ℕ) × (name_fault (faces units) ≡ Some (naming.Unresolved unit index)))
mean_reason turns names files input status.Sized = AllTyped names files (λ units. (unit index stated defined : ℕ) × (name_fault (faces units) ≡ Some (naming.Sized unit index stated defined)))
mean_reason turns names files input status.Done = (code : ℕ) × MeansTo turns names files input (outcome.Ended code)
mean_reason turns names files input status.Spent = MeansTo turns names files input outcome.Running
mean_reason turns names files input status.Wrong = MeansTo turns names files input outcome.Wrong
mean_reason turns names files input status.Deep = MeansTo turns names files input outcome.Deep
mean_reason turns names files input _ = ⊥
