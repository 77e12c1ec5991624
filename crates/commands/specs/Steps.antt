-- The steps of commands. Each says which answers it may have, and when.
use Rattle.std.specs.Prelude.{◌≡◌, ◌⊎◌, ℕ, ◌+◌, ◌<◌, List, [], ◌∷◌, ◌++◌, Some, None, option_map, Result, Ok, Err, drop, codes, slice_index_or}
use Rattle.cc_base.specs.Seen.{FilesSeen, SinkSeen}
use Rattle.cc_base.specs.Outside.{Got, NotThere, TooLong, ReadFailed, WriteFailed, stored, SourceFailed, SinkFailed, SinkWanted, grown}
use Rattle.cc_base.specs.Runs.{emitted, taken}
use Rattle.cc_base.specs.declared.run.Act.{Act}
use Rattle.cc_base.specs.declared.run.Act.TheVariants.{Took, AtEnd, Gave}
use Rattle.cc_base.specs.declared.run.Outcome.{Outcome}
use Rattle.cc_base.specs.declared.run.Outcome.TheVariants as outcome
use Rattle.text_grammar.specs.declared.tree.External.{External}
use Rattle.text_grammar.specs.declared.fault.SyntaxFault.{SyntaxFault}
use Rattle.text_grammar.specs.declared.fault.SyntaxFault.TheVariants as syntax
use Rattle.typing_faults.specs.declared.fault.Row.{Row}
use Rattle.typing_faults.specs.declared.fault.TypeKind.{TypeKind}
use Rattle.typing_faults.specs.declared.fault.TypeKind.TheVariants as row
use Rattle.clight_unit.specs.declared.unit.ClightUnit.{ClightUnit as TypedUnit}
use Rattle.typing_units.specs.Typing.{Typed, fault_of}
use Rattle.text_parser.specs.Parsing.{HasTree, HasAnswer}
use Rattle.second_form.specs.SecondForm.{IsSecondForm}
use Rattle.second_form.specs.declared.second_items.Item.{Item}
use Rattle.second_code.specs.Parts.{parts_of}
use Rattle.elf_file.specs.Object.{Object, object_of, symbol_of}
use Rattle.elf_file.specs.Read.{IsFileOf}
use Rattle.elf_file.specs.Image.{IsImageOf}
use Rattle.elf_file.specs.declared.parts.ObjectParts.{ObjectParts}
use Rattle.elf_file.specs.declared.image.ImageParts.{ImageParts}
use Rattle.elf_linker.specs.Linked.{Linked, object_at}
use Rattle.elf_linker.specs.Names.{link_fault}
use Rattle.elf_linker.specs.Runtime.{with_runtime}
use Rattle.elf_linker.specs.declared.fault.LinkFault.TheVariants as fault
use Rattle.elf_loader.specs.Load.{load_fault, image_after, loaded}
use Rattle.elf_loader.specs.declared.fault.LoadFault.TheVariants as load
use Rattle.i386_machine.specs.declared.event.Cause.{Cause}
use Rattle.i386_machine.specs.declared.event.Standing.TheVariants as standing
use Rattle.i386_machine.specs.Runs.{after}
use Rattle.commands.specs.declared.answer.SyntaxKind.{SyntaxKind}
use Rattle.commands.specs.declared.answer.SyntaxKind.TheVariants as kind
use Rattle.commands.specs.declared.answer.TypingKind.{TypingKind}
use Rattle.commands.specs.declared.answer.TypingKind.TheVariants as rule
use Rattle.commands.specs.declared.answer.UnitLimit.{UnitLimit}
use Rattle.commands.specs.declared.answer.UnitLimit.TheVariants as limit
use Rattle.commands.specs.declared.answer.Answer.{Answer}
use Rattle.commands.specs.declared.answer.Answer.TheVariants as answer
use Rattle.commands.specs.Doing.{Outside, Step, Command, AndThen}
use Rattle.commands.specs.Giving.{CutShort}

-- a file is got
abbrev pub Fetched : FilesSeen → List ℕ → Result (List ℕ) Answer → FilesSeen → Type 0
Fetched old name (Ok bytes) new = Got old name bytes new
Fetched old name (Err (answer.Missing which)) new = NotThere old name new × (which ≡ name)
Fetched old name (Err (answer.LimitFile which)) new = TooLong old name new × (which ≡ name)
Fetched old name (Err answer.ReadFault) new = ReadFailed old new
Fetched old name (Err answer.Memory) new = new ≡ old
Fetched old name (Err _) new = ⊥

-- a file is put
abbrev pub Put : FilesSeen → List ℕ → List ℕ → Result (Unit {0}) Answer → FilesSeen → Type 0
Put old name bytes (Ok _) new = new ≡ stored old name bytes
Put old name bytes (Err answer.WriteFault) new = WriteFailed old new
Put old name bytes (Err answer.Memory) new = new ≡ old
Put old name bytes (Err _) new = ⊥

-- a step that reaches the files alone
abbrev pub OnFiles : {A : Type 0} → (FilesSeen → Result A Answer → FilesSeen → Type 0) → Step A
OnFiles does old result new = does old.files result new.files × (new ≡ record old { files = new.files })

-- get NAME
abbrev pub Fetches : List ℕ → Step (List ℕ)
Fetches name = OnFiles (λ old result new. Fetched old name result new)

-- put NAME
abbrev pub Stores : List ℕ → List ℕ → Step (Unit {0})
Stores name bytes = OnFiles (λ old result new. Put old name bytes result new)

-- a fault of syntax
abbrev pub fault_at : SyntaxKind → ℕ → SyntaxFault
fault_at kind.Char at = syntax.Char at
fault_at kind.Literal at = syntax.Literal at
fault_at kind.Token at = syntax.Token at

-- the text is a unit's text of this tree; else the answer says what is wrong with it
abbrev pub Parsed : List ℕ → List ℕ → Result (List External) Answer → Type 0
Parsed name text (Ok tree) = HasTree text tree
Parsed name text (Err (answer.LimitText which)) = HasAnswer text (Err syntax.Long) × (which ≡ name)
Parsed name text (Err (answer.LimitDeep which at)) = HasAnswer text (Err (syntax.Deep at)) × (which ≡ name)
Parsed name text (Err (answer.Syntax which kind at)) = HasAnswer text (Err (fault_at kind at)) × (which ≡ name)
Parsed name text (Err answer.Memory) = Unit {0}
Parsed name text (Err _) = ⊥

abbrev pub Parses : List ℕ → List ℕ → Step (List External)
Parses name text old result new = Parsed name text result × (new ≡ old)

-- a rule of the types, and a limit of a unit
abbrev pub rule_kind : TypingKind → TypeKind
rule_kind rule.Unknown = row.Unknown
rule_kind rule.Twice = row.Twice
rule_kind rule.Kind = row.Kind
rule_kind rule.Count = row.Count
rule_kind rule.NotPlace = row.NotPlace
rule_kind rule.Reserved = row.Reserved
rule_kind rule.MainShape = row.MainShape
rule_kind rule.Initialiser = row.Initialiser

abbrev pub limit_kind : UnitLimit → TypeKind
limit_kind limit.Size = row.Size
limit_kind limit.Params = row.Params
limit_kind limit.Nodes = row.Nodes

abbrev pub row_at : TypeKind → ℕ → Row
row_at kind at = record { kind = kind; at = at }

-- the tree has this typed unit; else the answer says which rule it breaks first
abbrev pub HasTypes : List ℕ → List External → Result TypedUnit Answer → Type 0
HasTypes name tree (Ok unit) = Typed tree unit
HasTypes name tree (Err (answer.Typing which broken at)) = (fault_of tree ≡ Some (row_at (rule_kind broken) at)) × (which ≡ name)
HasTypes name tree (Err (answer.LimitUnit which limit at)) = (fault_of tree ≡ Some (row_at (limit_kind limit) at)) × (which ≡ name)
HasTypes name tree (Err answer.Memory) = Unit {0}
HasTypes name tree (Err _) = ⊥

-- the text is a unit's text within the limits
abbrev pub IsText : List ℕ → Type 0
IsText text = (tree : List External) × HasTree text tree

-- the text is a unit's text, and this is the rule of the types that it breaks first
pub record BreaksRule (text : List ℕ) (broken : Row) : Type 0 where
  pub tree : List External
  pub parsed : HasTree text tree
  pub told : fault_of tree ≡ Some broken

-- the text is a unit's text with a typed unit, and its tree is of the form, with these items
pub record HasForm (text : List ℕ) (items : List Item) : Type 0 where
  pub tree : List External
  pub parsed : HasTree text tree
  pub unit : TypedUnit
  pub typed : Typed tree unit
  pub form : IsSecondForm tree items

-- the text is a unit's text with a typed unit, and its tree is not of the form
pub record LacksForm (text : List ℕ) : Type 0 where
  pub tree : List External
  pub parsed : HasTree text tree
  pub unit : TypedUnit
  pub typed : Typed tree unit
  pub none : (items : List Item) → ¬ IsSecondForm tree items

-- the bytes are the one file that is written for the text's items. No other text has a part in it
pub record IsTextObject (text object : List ℕ) : Type 0 where
  pub items : List Item
  pub form : HasForm text items
  pub written : IsFileOf (parts_of items) object

-- the text is a unit's text with a typed unit, its tree is of the form, and the bytes are its object; else the answer says so
abbrev pub Compiled : List ℕ → List ℕ → Result (List ℕ) Answer → Type 0
Compiled name text (Ok object) = IsTextObject text object
Compiled name text (Err (answer.Typing which broken at)) = BreaksRule text (row_at (rule_kind broken) at) × (which ≡ name)
Compiled name text (Err (answer.LimitUnit which limit at)) = BreaksRule text (row_at (limit_kind limit) at) × (which ≡ name)
Compiled name text (Err (answer.LimitForm which)) = LacksForm text × (which ≡ name)
Compiled name text (Err told) = Parsed name text (Err told)

abbrev pub Compiles : List ℕ → List ℕ → Step (List ℕ)
Compiles name text old result new = Compiled name text result × (new ≡ old)

-- the value is kept, or there is no memory for it
abbrev pub Keeps : {A : Type 0} → A → Step A
Keeps value old result new = ((result ≡ Ok value) ⊎ (result ≡ Err answer.Memory)) × (new ≡ old)

-- get UNIT, compile it, put its object
abbrev pub CompilesTo : List ℕ → List ℕ → Step (List ℕ)
CompilesTo unit name = AndThen (Fetches unit) (λ text. AndThen (Compiles unit text) (λ object. AndThen (Stores name object) (λ _. Keeps object)))

-- a text is given to the output
abbrev pub GivenOut : SinkSeen → List ℕ → Result (Unit {0}) Answer → SinkSeen → Type 0
GivenOut old text (Ok _) new = new ≡ grown old text
GivenOut old text (Err answer.WriteFault) new = CutShort SinkFailed old text new
GivenOut old text (Err answer.Memory) new = CutShort SinkWanted old text new
GivenOut old text (Err _) new = ⊥

-- a step that reaches the output alone
abbrev pub GivesOut : List ℕ → Step (Unit {0})
GivesOut text old result new = GivenOut old.output text result new.output × (new ≡ record old { output = new.output })

-- the file is that of the object
pub record IsObjectFile (file : List ℕ) (object : Object) : Type 0 where
  pub parts : ObjectParts
  pub file_of : IsFileOf parts file
  pub is : object ≡ object_of parts

-- the file is that of no object
abbrev pub IsNoObject : List ℕ → Type 0
IsNoObject file = (parts : ObjectParts) → IsFileOf parts file → ⊥

-- the files are those of the objects, one by one
abbrev pub AreObjectFiles : List (List ℕ) → List Object → Type 0
AreObjectFiles [] [] = Unit {0}
AreObjectFiles (file ∷ files) (object ∷ objects) = IsObjectFile file object × AreObjectFiles files objects
AreObjectFiles _ _ = ⊥

-- the first file that is no object's, and its name
pub data IsFirstNoObject : List (List ℕ) → List (List ℕ) → List ℕ → Type 0 where
  this : (name file : List ℕ) (names files : List (List ℕ)) → IsNoObject file → IsFirstNoObject (name ∷ names) (file ∷ files) name
  later : (name file which : List ℕ) (names files : List (List ℕ)) (object : Object) → IsObjectFile file object → IsFirstNoObject names files which → IsFirstNoObject (name ∷ names) (file ∷ files) which

-- the name of the file of an object, by its number; the runtime has no file
abbrev pub file_name : List (List ℕ) → ℕ → List ℕ
file_name names number = slice_index_or names number (codes "runtime")

-- the name of a symbol, by the numbers of its object and of itself
abbrev pub symbol_name : List Object → ℕ → ℕ → List ℕ
symbol_name objects number symbol = (symbol_of (object_at objects number) symbol).name

-- the bytes are those of an image that is linked from these objects, with which nothing is wrong
pub record IsLinkedImage (objects : List Object) (bytes : List ℕ) : Type 0 where
  pub image : ImageParts
  pub linked : Linked (with_runtime objects) image
  pub no_fault : link_fault (with_runtime objects) ≡ None
  pub written : IsImageOf image bytes

-- what linking these objects comes to
abbrev pub LinkedBy : List (List ℕ) → List Object → Result (List ℕ) Answer → Type 0
LinkedBy names objects (Ok bytes) = IsLinkedImage objects bytes
LinkedBy names objects (Err (answer.Doubled name file)) =
    (number symbol : ℕ) × (link_fault (with_runtime objects) ≡ Some (fault.Doubled number symbol)) × (name ≡ symbol_name (with_runtime objects) number symbol) × (file ≡ file_name names number)
LinkedBy names objects (Err (answer.Unresolved name file)) =
    (number symbol : ℕ) × (link_fault (with_runtime objects) ≡ Some (fault.Unresolved number symbol)) × (name ≡ symbol_name (with_runtime objects) number symbol) × (file ≡ file_name names number)
LinkedBy names objects (Err (answer.Sized name file stated defined)) =
    (number symbol : ℕ) × (link_fault (with_runtime objects) ≡ Some (fault.Sized number symbol stated defined)) × (name ≡ symbol_name (with_runtime objects) number symbol) × (file ≡ file_name names number)
LinkedBy names objects (Err (answer.Range end)) = link_fault (with_runtime objects) ≡ Some (fault.Range end)
LinkedBy names objects (Err answer.Memory) = Unit {0}
LinkedBy names objects (Err _) = ⊥

-- files are read as objects and linked
abbrev pub LinkedFrom : List (List ℕ) → List (List ℕ) → Result (List ℕ) Answer → Type 0
LinkedFrom names files (Err (answer.ObjectForm which)) = IsFirstNoObject names files which
LinkedFrom names files (Err answer.Memory) = Unit {0}
LinkedFrom names files result = (objects : List Object) × AreObjectFiles files objects × LinkedBy names objects result

abbrev pub Links : List (List ℕ) → List (List ℕ) → Step (List ℕ)
Links names files old result new = LinkedFrom names files result × (new ≡ old)

-- the outside after n steps of an image: the output has grown by what was emitted, and the input lacks what was taken
pub record Ran (image : ImageParts) (n : ℕ) (old new : Outside) : Type 0 where
  pub acts : List Act
  pub exact : (input : List ℕ) → old.input.told ≡ Some input → acts ≡ (image_after image input n).acts
  pub output : new.output ≡ grown old.output (emitted acts)
  pub input : new.input ≡ record old.input { told = option_map (λ rest. drop (taken acts) rest) old.input.told }
  pub files : new.files ≡ old.files

-- the run stands so after n steps
abbrev pub Stands : ImageParts → ℕ → Outside → Outcome → Type 0
Stands image n old outcome = (input : List ℕ) → old.input.told ≡ Some input → (image_after image input n).outcome ≡ outcome

-- after n steps the machine is stuck at this address for this cause
abbrev pub Sticks : ImageParts → ℕ → Outside → ℕ → Cause → Type 0
Sticks image n old eip cause = (input : List ℕ) → old.input.told ≡ Some input
    → ((after (loaded image) input n).machine.eip ≡ eip) × ((after (loaded image) input n).machine.standing ≡ standing.Stuck cause)

-- the step after the first n does this to the outside
abbrev pub NextDoes : ImageParts → ℕ → Outside → (Act → Type 0) → Type 0
NextDoes image n old P = (input : List ℕ) → old.input.told ≡ Some input → (act : Act) × P act × ((image_after image input (n + 1)).acts ≡ (image_after image input n).acts ++ act ∷ [])

abbrev pub IsAsked : Act → Type 0
IsAsked Took = Unit {0}
IsAsked AtEnd = Unit {0}
IsAsked (Gave byte) = ⊥

abbrev pub IsGiven : Act → Type 0
IsGiven Took = ⊥
IsGiven AtEnd = ⊥
IsGiven (Gave byte) = Unit {0}

-- a run that was cut off by the outside, after some number of steps
pub record CutOff (image : ImageParts) (steps : ℕ) (old new : Outside) (P : Act → Type 0) (failed : Outside → Outside → Type 0) : Type 0 where
  pub count : ℕ
  pub fewer : count < steps
  pub until : Outside
  pub ran : Ran image count old until
  pub next : NextDoes image count old P
  pub fault : failed until new

-- what running this image comes to, for so many steps at most
abbrev pub RunsBy : ImageParts → ℕ → Command
RunsBy image steps old (answer.Ended status) new = Ran image steps old new × Stands image steps old (outcome.Ended status)
RunsBy image steps old answer.Spent new = Ran image steps old new × Stands image steps old outcome.Running
RunsBy image steps old (answer.Stuck eip cause) new = Ran image steps old new × Sticks image steps old eip cause
RunsBy image steps old answer.ReadFault new = CutOff image steps old new IsAsked (λ until end. SourceFailed until.input end.input × (end ≡ record until { input = end.input }))
RunsBy image steps old answer.WriteFault new = CutOff image steps old new IsGiven (λ until end. SinkFailed until.output end.output × (end ≡ record until { output = end.output }))
RunsBy image steps old answer.Memory new = CutOff image steps old new IsGiven (λ until end. SinkWanted until.output end.output × (end ≡ record until { output = end.output }))
RunsBy image steps old _ new = ⊥

-- the bytes of the image of this name are read, loaded and run
pub data Runs (steps : ℕ) (name bytes : List ℕ) (old : Outside) : Answer → Outside → Type 0 where
  no_image : ((image : ImageParts) → ¬ IsImageOf image bytes) → Runs steps name bytes old (answer.ImageForm name) old
  out_of_place : (image : ImageParts) (index : ℕ) → IsImageOf image bytes → load_fault image ≡ Some (load.Segment index) → Runs steps name bytes old (answer.ImageSegment name index) old
  no_entry : (image : ImageParts) → IsImageOf image bytes → load_fault image ≡ Some load.Entry → Runs steps name bytes old (answer.ImageEntry name) old
  no_memory : Runs steps name bytes old answer.Memory old
  was_run : (image : ImageParts) → IsImageOf image bytes → load_fault image ≡ None → (told : Answer) (new : Outside) → RunsBy image steps old told new → Runs steps name bytes old told new
