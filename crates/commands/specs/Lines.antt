-- The line that an answer is reported by.
use Rattle.std.specs.Prelude.{ℕ, List, [], ◌∷◌, ◌++◌, codes, decimal, map, nat_le, ◌&&◌, if◌then◌else◌}
use Rattle.cc_base.specs.NumberText.{hex_of}
use Rattle.i386_machine.specs.declared.event.Cause.{Cause}
use Rattle.i386_machine.specs.declared.event.Cause.TheVariants as cause
use Rattle.commands.specs.declared.answer.SyntaxKind.{SyntaxKind}
use Rattle.commands.specs.declared.answer.SyntaxKind.TheVariants as kind
use Rattle.commands.specs.declared.answer.TypingKind.{TypingKind}
use Rattle.commands.specs.declared.answer.TypingKind.TheVariants as rule
use Rattle.commands.specs.declared.answer.UnitLimit.{UnitLimit}
use Rattle.commands.specs.declared.answer.UnitLimit.TheVariants as limit
use Rattle.commands.specs.declared.answer.Answer.{Answer}
use Rattle.commands.specs.declared.answer.Answer.TheVariants.{Words, Memory, Missing, ReadFault, WriteFault, LimitFile, LimitText, LimitDeep, Syntax, Typing, LimitUnit, LimitForm, ObjectForm, Doubled, Unresolved, Sized, Range, ImageForm, ImageSegment, ImageEntry, ObjectStored, ImageStored, Shown, Ended, Spent, Stuck, Wrong, Deep}

-- a byte of a symbol's name; one that is no visible character of ASCII shows as a question mark
abbrev pub shown_byte : ℕ → ℕ
shown_byte byte = if nat_le 0x21 byte && nat_le byte 0x7e then byte else 63

abbrev pub shown : List ℕ → List ℕ
shown name = map shown_byte name

-- an address: eight hexadecimal digits or more
abbrev pub address : ℕ → List ℕ
address n = hex_of n 8

-- why there is no step
abbrev pub cause_words : Cause → List ℕ
cause_words cause.Fetch = codes "fetch"
cause_words cause.Decode = codes "decode"
cause_words (cause.Access at) = codes "access " ++ address at
cause_words cause.Divide = codes "divide"
cause_words cause.Flags = codes "flags"
cause_words cause.System = codes "system"

-- what is wrong with a text
abbrev pub kind_words : SyntaxKind → List ℕ
kind_words kind.Char = codes "char"
kind_words kind.Literal = codes "literal"
kind_words kind.Token = codes "token"

-- which rule of the types is broken
abbrev pub rule_words : TypingKind → List ℕ
rule_words rule.Unknown = codes "unknown"
rule_words rule.Twice = codes "twice"
rule_words rule.Kind = codes "kind"
rule_words rule.Count = codes "count"
rule_words rule.NotPlace = codes "notplace"
rule_words rule.Reserved = codes "reserved"
rule_words rule.MainShape = codes "main"
rule_words rule.Initialiser = codes "initialiser"

-- which limit a unit passes
abbrev pub limit_words : UnitLimit → List ℕ
limit_words limit.Size = codes "size"
limit_words limit.Params = codes "params"
limit_words limit.Nodes = codes "nodes"

-- the words of an answer, or nothing where there is no line
abbrev pub words_of : Answer → List ℕ
words_of Words = codes "words"
words_of Memory = []
words_of (Missing name) = codes "missing " ++ name
words_of ReadFault = codes "read"
words_of WriteFault = []
words_of (LimitFile name) = name ++ codes ": limit file"
words_of (LimitText name) = name ++ codes ": limit text"
words_of (LimitDeep file at) = file ++ codes ": limit deep " ++ decimal at
words_of (Syntax file kind at) = file ++ codes ": syntax " ++ kind_words kind ++ codes " " ++ decimal at
words_of (Typing file broken at) = file ++ codes ": typing " ++ rule_words broken ++ codes " " ++ decimal at
words_of (LimitUnit file limit at) = file ++ codes ": limit " ++ limit_words limit ++ codes " " ++ decimal at
words_of (LimitForm name) = name ++ codes ": limit form"
words_of (ObjectForm name) = name ++ codes ": object form"
words_of (Doubled name file) = codes "doubled " ++ shown name ++ codes " " ++ file
words_of (Unresolved name file) = codes "unresolved " ++ shown name ++ codes " " ++ file
words_of (Sized name file stated defined) = codes "sized " ++ shown name ++ codes " " ++ file ++ codes " " ++ decimal stated ++ codes " " ++ decimal defined
words_of (Range end) = codes "range " ++ address end
words_of (ImageForm name) = name ++ codes ": image form"
words_of (ImageSegment file index) = file ++ codes ": image segment " ++ decimal index
words_of (ImageEntry name) = name ++ codes ": image entry"
words_of (ObjectStored length) = codes "object " ++ decimal length
words_of (ImageStored length) = codes "image " ++ decimal length
words_of Shown = []
words_of (Ended code) = codes "exit " ++ decimal code
words_of Spent = codes "spent"
words_of (Stuck eip cause) = codes "stuck " ++ address eip ++ codes " " ++ cause_words cause
words_of (Wrong turn) = codes "wrong " ++ decimal turn
words_of (Deep turn) = codes "deep " ++ decimal turn

-- words end with a newline
abbrev pub ended : List ℕ → List ℕ
ended [] = []
ended (byte ∷ bytes) = (byte ∷ bytes) ++ 10 ∷ []

-- the line, or nothing where there is none
abbrev pub line_of : Answer → List ℕ
line_of answer = ended (words_of answer)
