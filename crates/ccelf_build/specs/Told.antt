-- What each command comes to where the files tell their bytes, and for a run the input too: one row for each answer.
use Rattle.std.specs.Prelude.{◌≡◌, ◌⊎◌, ℕ, ◌+◌, ◌<◌, List, [], ◌∷◌, ◌++◌, map, length, drop, Some, None, Err}
use Rattle.cc_base.specs.Seen.{SinkSeen}
use Rattle.cc_base.specs.Outside.{SinkFailed, SinkWanted, grown}
use Rattle.cc_base.specs.Runs.{emitted, taken}
use Rattle.cc_base.specs.declared.run.Act.{Act}
use Rattle.cc_base.specs.declared.run.Outcome.TheVariants as outcome
use Rattle.text_grammar.specs.declared.tree.External.{External}
use Rattle.text_grammar.specs.declared.fault.SyntaxFault.{SyntaxFault}
use Rattle.typing_faults.specs.declared.fault.Row.{Row}
use Rattle.text_grammar.specs.declared.fault.SyntaxFault.TheVariants as syntax
use Rattle.text_parser.specs.Parsing.{HasTree, HasAnswer}
use Rattle.text_print.specs.Canonical.{canonical_text}
use Rattle.clight_unit.specs.declared.unit.ClightUnit.{ClightUnit as TypedUnit}
use Rattle.second_form.specs.declared.second_items.Item.{Item}
use Rattle.second_form.specs.SecondFaults.{source_fault}
use Rattle.second_form.specs.SecondFaults as source
use Rattle.pass_core.specs.Refines.{Refines}
use Rattle.elf_file.specs.Object.{Object}
use Rattle.elf_file.specs.Read.{IsFileOf}
use Rattle.elf_file.specs.Image.{IsImageOf}
use Rattle.elf_file.specs.declared.image.ImageParts.{ImageParts}
use Rattle.elf_linker.specs.Linked.{Linked}
use Rattle.elf_linker.specs.Names.{link_fault, too_long}
use Rattle.elf_linker.specs.declared.fault.LinkFault.TheVariants as linking
use Rattle.i386_machine.specs.declared.event.Cause.{Cause}
use Rattle.i386_machine.specs.declared.event.Standing.TheVariants as standing
use Rattle.i386_machine.specs.Runs.{after}
use Rattle.elf_loader.specs.Load.{load_fault, image_after, loaded}
use Rattle.elf_loader.specs.declared.fault.LoadFault.{LoadFault}
use Rattle.elf_loader.specs.declared.fault.LoadFault.TheVariants as load
use Rattle.second_code.specs.Parts.{parts_of}
use Rattle.second_code.specs.LinkedObjects.{linked_objects}
use Rattle.command_words.specs.Commands.{object_name}
use Rattle.commands.specs.declared.answer.Answer.TheVariants as answer
use Rattle.commands.specs.Doing.{Outside, Command}
use Rattle.commands.specs.Giving.{CutShort}
use Rattle.commands.specs.Steps.{fault_at, rule_kind, limit_kind, row_at, BreaksRule, HasForm, LacksForm, IsTextObject, AreObjectFiles, IsFirstNoObject, IsLinkedImage, LinkedBy, file_name, IsAsked, IsGiven}
use Rattle.ccelf_build.specs.Sources.{IsTyped, units_after}
use Rattle.ccelf_build.specs.Contents.{Contents, StandsAt, IsAbsent, IsLong, AreAll, FirstStop, NamedBytes, put_all, DidPut}

-- a unit that was compiled: its items and the bytes of its object
pub record Compiled : Type 0 where
  pub items : List Item
  pub object : List ℕ

-- Under the name stands a unit's text of these items, and the object is the one file that is written for them. No other text has a part in it.
pub record IsCompiled (files : Contents) (unit : List ℕ) (made : Compiled) : Type 0 where
  pub text : List ℕ
  pub stands : StandsAt files unit text
  pub form : HasForm text made.items
  pub written : IsFileOf (parts_of made.items) made.object

-- under the name stands a unit's text that is not of the form
abbrev pub HasNoUnit : Contents → List ℕ → Type 0
HasNoUnit files unit = (text : List ℕ) × StandsAt files unit text × LacksForm text

-- under the name stands a text with this fault, which is no unit's
abbrev pub HasFault : Contents → List ℕ → SyntaxFault → Type 0
HasFault files unit fault = (text : List ℕ) × StandsAt files unit text × HasAnswer text (Err fault)

-- under the name stands a unit's text that breaks this rule of the types first
abbrev pub HasBroken : Contents → List ℕ → Row → Type 0
HasBroken files unit broken = (text : List ℕ) × StandsAt files unit text × BreaksRule text broken

-- compile: the object of the unit is put under its name
abbrev pub compile_told : List ℕ → List ℕ → Contents → Command
compile_told unit object files old (answer.Missing which) new = (which ≡ unit) × IsAbsent files unit × DidPut files [] old new
compile_told unit object files old (answer.LimitFile which) new = (which ≡ unit) × IsLong files unit × DidPut files [] old new
compile_told unit object files old (answer.LimitText which) new = (which ≡ unit) × HasFault files unit syntax.Long × DidPut files [] old new
compile_told unit object files old (answer.LimitDeep which at) new = (which ≡ unit) × HasFault files unit (syntax.Deep at) × DidPut files [] old new
compile_told unit object files old (answer.Syntax which kind at) new = (which ≡ unit) × HasFault files unit (fault_at kind at) × DidPut files [] old new
compile_told unit object files old (answer.Typing which broken at) new = (which ≡ unit) × HasBroken files unit (row_at (rule_kind broken) at) × DidPut files [] old new
compile_told unit object files old (answer.LimitUnit which limit at) new = (which ≡ unit) × HasBroken files unit (row_at (limit_kind limit) at) × DidPut files [] old new
compile_told unit object files old (answer.LimitForm which) new = (which ≡ unit) × HasNoUnit files unit × DidPut files [] old new
compile_told unit object files old (answer.ObjectStored size) new =
    (made : Compiled) × IsCompiled files unit made × (size ≡ length made.object) × DidPut files (record { name = object; bytes = made.object } ∷ []) old new
compile_told unit object files old answer.ReadFault new = DidPut files [] old new
compile_told unit object files old answer.WriteFault new = DidPut files [] old new
compile_told unit object files old answer.Memory new =
    DidPut files [] old new ⊎ ((made : Compiled) × IsCompiled files unit made × DidPut files (record { name = object; bytes = made.object } ∷ []) old new)
compile_told unit object files old _ new = ⊥

-- under the name stands a unit's text of this tree
pub record HasTreeAt (files : Contents) (unit : List ℕ) (tree : List External) : Type 0 where
  pub text : List ℕ
  pub stands : StandsAt files unit text
  pub parsed : HasTree text tree

-- the output did this with the canonical text of the unit's one tree, and nothing was put or taken
pub record ShowsIt (unit : List ℕ) (files : Contents) (gives : SinkSeen → List ℕ → SinkSeen → Type 0) (old new : Outside) : Type 0 where
  pub tree : List External
  pub is : HasTreeAt files unit tree
  pub given : gives old.output (canonical_text tree) new.output
  pub files_kept : new.files.told ≡ Some files
  pub input_kept : new.input ≡ old.input

-- the output has grown by all of the text
abbrev pub AllGiven : SinkSeen → List ℕ → SinkSeen → Type 0
AllGiven old text new = new ≡ grown old text

-- show: the canonical text of the unit is given
abbrev pub show_told : List ℕ → Contents → Command
show_told unit files old (answer.Missing which) new = (which ≡ unit) × IsAbsent files unit × DidPut files [] old new
show_told unit files old (answer.LimitFile which) new = (which ≡ unit) × IsLong files unit × DidPut files [] old new
show_told unit files old (answer.LimitText which) new = (which ≡ unit) × HasFault files unit syntax.Long × DidPut files [] old new
show_told unit files old (answer.LimitDeep which at) new = (which ≡ unit) × HasFault files unit (syntax.Deep at) × DidPut files [] old new
show_told unit files old (answer.Syntax which kind at) new = (which ≡ unit) × HasFault files unit (fault_at kind at) × DidPut files [] old new
show_told unit files old answer.Shown new = ShowsIt unit files AllGiven old new
show_told unit files old answer.ReadFault new = DidPut files [] old new
show_told unit files old answer.WriteFault new = ShowsIt unit files (CutShort SinkFailed) old new
show_told unit files old answer.Memory new = DidPut files [] old new ⊎ ShowsIt unit files (CutShort SinkWanted) old new
show_told unit files old _ new = ⊥

-- the file is the object of a text with this typed unit
pub record IsMade (source : TypedUnit) (file : List ℕ) : Type 0 where
  pub text : List ℕ
  pub object : IsTextObject text file
  pub typed : object.form.unit ≡ source

-- these are objects of units, one by one, whenever and wherever they were made
abbrev pub AreMade : List TypedUnit → List (List ℕ) → Type 0
AreMade [] [] = Unit {0}
AreMade [] (file ∷ files) = ⊥
AreMade (source ∷ sources) [] = ⊥
AreMade (source ∷ sources) (file ∷ files) = IsMade source file × AreMade sources files

-- the files of these names are objects
pub record AreObjectsAt (contents : Contents) (names : List (List ℕ)) (objects : List Object) : Type 0 where
  pub files : List (List ℕ)
  pub stand : AreAll (StandsAt contents) names files
  pub are : AreObjectFiles files objects

-- the files of these names are objects, and what is wrong with them is told
abbrev pub IsLinkFault : Contents → List (List ℕ) → (List Object → Type 0) → Type 0
IsLinkFault contents names told = (objects : List Object) × AreObjectsAt contents names objects × told objects

-- An image is linked from the objects of these names and put. Where they are objects of units, on any input its bytes do what the
-- linked units mean.
pub record ImageLinked (contents : Contents) (names : List (List ℕ)) (image : List ℕ) (size : ℕ) (old new : Outside) : Type 0 where
  pub objects : List Object
  pub at : AreObjectsAt contents names objects
  pub bytes : List ℕ
  pub linked : IsLinkedImage objects bytes
  pub size_is : size ≡ length bytes
  pub put : DidPut contents (record { name = image; bytes = bytes } ∷ []) old new
  pub refines : (sources : List TypedUnit) → AreMade sources at.files → (input : List ℕ) → Refines (units_after sources input) (image_after linked.image input)

abbrev pub link_told : List ℕ → List (List ℕ) → Contents → Command
link_told image names files old (answer.Missing which) new = FirstStop (StandsAt files) names (λ name. (which ≡ name) × IsAbsent files name) × DidPut files [] old new
link_told image names files old (answer.LimitFile which) new = FirstStop (StandsAt files) names (λ name. (which ≡ name) × IsLong files name) × DidPut files [] old new
link_told image names files old (answer.ObjectForm which) new =
    ((bytes : List (List ℕ)) × AreAll (StandsAt files) names bytes × IsFirstNoObject names bytes which) × DidPut files [] old new
link_told image names files old (answer.Doubled name file) new = IsLinkFault files names (λ objects. LinkedBy names objects (Err (answer.Doubled name file))) × DidPut files [] old new
link_told image names files old (answer.Unresolved name file) new = IsLinkFault files names (λ objects. LinkedBy names objects (Err (answer.Unresolved name file))) × DidPut files [] old new
link_told image names files old (answer.Sized name file stated defined) new =
    IsLinkFault files names (λ objects. LinkedBy names objects (Err (answer.Sized name file stated defined))) × DidPut files [] old new
link_told image names files old (answer.Range end) new = IsLinkFault files names (λ objects. LinkedBy names objects (Err (answer.Range end))) × DidPut files [] old new
link_told image names files old (answer.ImageStored size) new = ImageLinked files names image size old new
link_told image names files old answer.ReadFault new = DidPut files [] old new
link_told image names files old answer.WriteFault new = DidPut files [] old new
link_told image names files old answer.Memory new = DidPut files [] old new
link_told image names files old _ new = ⊥

-- the output has grown by what an image has emitted after so many instructions, and the input lacks what it has taken
pub record RanFor (image : ImageParts) (input : List ℕ) (count : ℕ) (old new : Outside) : Type 0 where
  pub emits : new.output.told ≡ (grown old.output (emitted (image_after image input count).acts)).told
  pub takes : new.input.told ≡ Some (drop (taken (image_after image input count).acts) input)

-- the outside cut the run off, in the instruction after so many
pub record RanUntil (image : ImageParts) (input : List ℕ) (steps : ℕ) (P : Act → Type 0) (old new : Outside) : Type 0 where
  pub count : ℕ
  pub fewer : count < steps
  pub ran : RanFor image input count old new
  pub next : (act : Act) × P act × ((image_after image input (count + 1)).acts ≡ (image_after image input count).acts ++ act ∷ [])

-- the machine is stuck at this address for this cause
abbrev pub IsStuck : ImageParts → List ℕ → ℕ → ℕ → Cause → Type 0
IsStuck image input steps eip cause =
    ((after (loaded image) input steps).machine.eip ≡ eip) × ((after (loaded image) input steps).machine.standing ≡ standing.Stuck cause)

-- how the run stands after all its instructions
abbrev pub Comes : ImageParts → List ℕ → ℕ → Command
Comes image input steps old (answer.Ended status) new = RanFor image input steps old new × ((image_after image input steps).outcome ≡ outcome.Ended status)
Comes image input steps old answer.Spent new = RanFor image input steps old new × ((image_after image input steps).outcome ≡ outcome.Running)
Comes image input steps old (answer.Stuck eip cause) new = RanFor image input steps old new × IsStuck image input steps eip cause
Comes image input steps old answer.ReadFault new = RanUntil image input steps IsAsked old new
Comes image input steps old answer.WriteFault new = RanUntil image input steps IsGiven old new
Comes image input steps old answer.Memory new = RanUntil image input steps IsGiven old new
Comes image input steps old _ new = ⊥

-- the bytes under this name are those of an image, which can be loaded
pub record IsLoaded (files : Contents) (name : List ℕ) (image : ImageParts) : Type 0 where
  pub bytes : List ℕ
  pub stands : StandsAt files name bytes
  pub is : IsImageOf image bytes
  pub loads : load_fault image ≡ None

-- the bytes under this name are those of an image that cannot be loaded
abbrev pub IsNotLoaded : Contents → List ℕ → LoadFault → Type 0
IsNotLoaded files name fault = (bytes : List ℕ) × StandsAt files name bytes × ((image : ImageParts) × IsImageOf image bytes × (load_fault image ≡ Some fault))

-- under this name stand bytes that are no image
abbrev pub HasNoImage : Contents → List ℕ → Type 0
HasNoImage files name = (bytes : List ℕ) × StandsAt files name bytes × ((image : ImageParts) → ¬ IsImageOf image bytes)

-- the image of this name was run, and no file was put
abbrev pub RunsIt : ℕ → List ℕ → Contents → List ℕ → Command
RunsIt steps name files input old told new = (new.files.told ≡ Some files) × ((image : ImageParts) × IsLoaded files name image × Comes image input steps old told new)

abbrev pub run_told : ℕ → List ℕ → Contents → List ℕ → Command
run_told steps name files input old (answer.Missing which) new = (which ≡ name) × IsAbsent files name × DidPut files [] old new
run_told steps name files input old (answer.LimitFile which) new = (which ≡ name) × IsLong files name × DidPut files [] old new
run_told steps name files input old (answer.ImageForm which) new = (which ≡ name) × HasNoImage files name × DidPut files [] old new
run_told steps name files input old (answer.ImageSegment which index) new = (which ≡ name) × IsNotLoaded files name (load.Segment index) × DidPut files [] old new
run_told steps name files input old (answer.ImageEntry which) new = (which ≡ name) × IsNotLoaded files name load.Entry × DidPut files [] old new
run_told steps name files input old (answer.Ended status) new = RunsIt steps name files input old (answer.Ended status) new
run_told steps name files input old answer.Spent new = RunsIt steps name files input old answer.Spent new
run_told steps name files input old (answer.Stuck eip cause) new = RunsIt steps name files input old (answer.Stuck eip cause) new
run_told steps name files input old answer.ReadFault new = DidPut files [] old new ⊎ RunsIt steps name files input old answer.ReadFault new
run_told steps name files input old answer.WriteFault new = RunsIt steps name files input old answer.WriteFault new
run_told steps name files input old answer.Memory new = DidPut files [] old new ⊎ RunsIt steps name files input old answer.Memory new
run_told steps name files input old _ new = ⊥

-- the objects of units, each under the name that is the unit's with .o
abbrev pub objects_of : List (List ℕ) → List Compiled → List NamedBytes
objects_of [] all = []
objects_of (unit ∷ units) [] = []
objects_of (unit ∷ units) (made ∷ all) = record { name = object_name unit; bytes = made.object } ∷ objects_of units all

-- the items of units
abbrev pub items_of : List Compiled → List (List Item)
items_of all = map (λ (made : Compiled). made.items) all

-- a unit stops the command, and the units before it were compiled, each alone, and their objects put
abbrev pub UnitStops : (List ℕ → Type 0) → List (List ℕ) → Contents → Outside → Outside → Type 0
UnitStops stops units files old new = (first : FirstStop (IsCompiled files) units stops) × DidPut files (objects_of first.done first.all) old new

-- some of the units, the first ones, were compiled, each alone, and their objects put
pub record SomePut (units : List (List ℕ)) (files : Contents) (old new : Outside) : Type 0 where
  pub done : List (List ℕ)
  pub left : List (List ℕ)
  pub order : units ≡ done ++ left
  pub all : List Compiled
  pub are : AreAll (IsCompiled files) done all
  pub put : DidPut files (objects_of done all) old new

-- all units were compiled, each alone, and their objects put, and this is so of their items
pub record AllPut (so : List (List Item) → Type 0) (units : List (List ℕ)) (files : Contents) (old new : Outside) : Type 0 where
  pub all : List Compiled
  pub are : AreAll (IsCompiled files) units all
  pub is : so (items_of all)
  pub put : DidPut files (objects_of units all) old new

-- The units are compiled, each alone, and the image is linked from just these objects. On the input its bytes do what the linked units mean.
pub record IsBuilt (units : List (List ℕ)) (files : Contents) (input : List ℕ) (image : ImageParts) : Type 0 where
  pub all : List Compiled
  pub are : AreAll (IsCompiled files) units all
  pub linked : Linked (linked_objects (items_of all)) image
  pub no_fault : link_fault (linked_objects (items_of all)) ≡ None
  pub bytes : List ℕ
  pub written : IsImageOf image bytes
  pub sources : List TypedUnit
  pub typed : AreAll (IsTyped files) units sources
  pub refines : Refines (units_after sources input) (image_after image input)

-- the puts of a command that came so far
abbrev pub built_puts : {files : Contents} {input : List ℕ} {parts : ImageParts} → (units : List (List ℕ)) → List ℕ → IsBuilt units files input parts → List NamedBytes
built_puts units image built = objects_of units built.all ++ record { name = image; bytes = built.bytes } ∷ []

-- objects and image were put, and this is so of the image
abbrev pub Builds : (ImageParts → Outside → Outside → Type 0) → List ℕ → List (List ℕ) → Contents → List ℕ → Outside → Outside → Type 0
Builds so image units files input old new =
    (parts : ImageParts) × ((built : IsBuilt units files input parts) × (new.files.told ≡ Some (put_all (built_puts units image built) files))) × so parts old new

-- they were put, and nothing was taken or emitted
abbrev pub ImagePut : List ℕ → List (List ℕ) → Contents → List ℕ → Outside → Outside → Type 0
ImagePut image units files input old new = Builds (λ parts before behind. (behind.input ≡ before.input) × (behind.output ≡ before.output)) image units files input old new

-- they were put, and the image's bytes were run
abbrev pub BuildsAndRuns : ℕ → List ℕ → List (List ℕ) → Contents → List ℕ → Command
BuildsAndRuns steps image units files input old told new = Builds (λ parts before behind. Comes parts input steps before told behind) image units files input old new

abbrev pub exec_told : ℕ → List ℕ → List (List ℕ) → Contents → List ℕ → Command
exec_told steps image units files input old (answer.Missing which) new = UnitStops (λ unit. (which ≡ unit) × IsAbsent files unit) units files old new
exec_told steps image units files input old (answer.LimitFile which) new = UnitStops (λ unit. (which ≡ unit) × IsLong files unit) units files old new
exec_told steps image units files input old (answer.LimitText which) new = UnitStops (λ unit. (which ≡ unit) × HasFault files unit syntax.Long) units files old new
exec_told steps image units files input old (answer.LimitDeep which at) new = UnitStops (λ unit. (which ≡ unit) × HasFault files unit (syntax.Deep at)) units files old new
exec_told steps image units files input old (answer.Syntax which kind at) new = UnitStops (λ unit. (which ≡ unit) × HasFault files unit (fault_at kind at)) units files old new
exec_told steps image units files input old (answer.Typing which broken at) new = UnitStops (λ unit. (which ≡ unit) × HasBroken files unit (row_at (rule_kind broken) at)) units files old new
exec_told steps image units files input old (answer.LimitUnit which limit at) new = UnitStops (λ unit. (which ≡ unit) × HasBroken files unit (row_at (limit_kind limit) at)) units files old new
exec_told steps image units files input old (answer.LimitForm which) new = UnitStops (λ unit. (which ≡ unit) × HasNoUnit files unit) units files old new
exec_told steps image units files input old (answer.Doubled name file) new =
    AllPut (λ items. (unit : ℕ) × (source_fault items ≡ Some (source.Doubled unit name)) × (file ≡ file_name (map object_name units) unit)) units files old new
exec_told steps image units files input old (answer.Unresolved name file) new =
    AllPut (λ items. (unit : ℕ) × (source_fault items ≡ Some (source.Unresolved unit name)) × (file ≡ file_name (map object_name units) unit)) units files old new
exec_told steps image units files input old (answer.Range end) new =
    AllPut (λ items. (source_fault items ≡ None) × (too_long (linked_objects items) ≡ Some (linking.Range end))) units files old new
exec_told steps image units files input old (answer.Ended status) new = BuildsAndRuns steps image units files input old (answer.Ended status) new
exec_told steps image units files input old answer.Spent new = BuildsAndRuns steps image units files input old answer.Spent new
exec_told steps image units files input old (answer.Stuck eip cause) new = BuildsAndRuns steps image units files input old (answer.Stuck eip cause) new
exec_told steps image units files input old answer.ReadFault new = SomePut units files old new ⊎ BuildsAndRuns steps image units files input old answer.ReadFault new
exec_told steps image units files input old answer.WriteFault new = SomePut units files old new ⊎ BuildsAndRuns steps image units files input old answer.WriteFault new
exec_told steps image units files input old answer.Memory new =
    SomePut units files old new ⊎ (ImagePut image units files input old new ⊎ BuildsAndRuns steps image units files input old answer.Memory new)
exec_told steps image units files input old _ new = ⊥
