-- The status of each answer.
use Rattle.std.specs.Prelude.{ℕ}
use Rattle.commands.specs.declared.answer.Answer.{Answer}
use Rattle.commands.specs.declared.answer.Answer.TheVariants.{Words, Memory, Missing, ReadFault, WriteFault, LimitFile, LimitText, LimitDeep, Syntax, Typing, LimitUnit, LimitForm, ObjectForm, Doubled, Unresolved, Sized, Range, ImageForm, ImageSegment, ImageEntry, ObjectStored, ImageStored, Shown, Ended, Spent, Stuck, Wrong, Deep}
use Rattle.commands.specs.declared.answer.Status.{Status}
use Rattle.commands.specs.declared.answer.Status.TheVariants as status

abbrev pub status_of : Answer → Status
status_of Words = status.Words
status_of Memory = status.Memory
status_of (Missing name) = status.Missing
status_of ReadFault = status.ReadFault
status_of WriteFault = status.WriteFault
status_of (LimitFile name) = status.Limit
status_of (LimitText name) = status.Limit
status_of (LimitDeep file at) = status.Limit
status_of (Syntax file kind at) = status.Syntax
status_of (Typing file broken at) = status.Typing
status_of (LimitUnit file limit at) = status.Limit
status_of (LimitForm name) = status.Limit
status_of (ObjectForm name) = status.Object
status_of (Doubled name file) = status.Doubled
status_of (Unresolved name file) = status.Unresolved
status_of (Sized name file stated defined) = status.Sized
status_of (Range end) = status.Range
status_of (ImageForm name) = status.Image
status_of (ImageSegment file index) = status.Image
status_of (ImageEntry name) = status.Image
status_of (ObjectStored length) = status.Done
status_of (ImageStored length) = status.Done
status_of Shown = status.Done
status_of (Ended code) = status.Done
status_of Spent = status.Spent
status_of (Stuck eip cause) = status.Stuck
status_of (Wrong turn) = status.Wrong
status_of (Deep turn) = status.Deep

-- the number that the program ends with
abbrev pub number_of : Status → ℕ
number_of status.Done = 0
number_of status.Words = 2
number_of status.Memory = 3
number_of status.Missing = 4
number_of status.ReadFault = 5
number_of status.WriteFault = 6
number_of status.Syntax = 7
number_of status.Typing = 8
number_of status.Limit = 9
number_of status.Object = 10
number_of status.Doubled = 11
number_of status.Unresolved = 12
number_of status.Sized = 13
number_of status.Range = 14
number_of status.Image = 15
number_of status.Spent = 16
number_of status.Stuck = 17
number_of status.Wrong = 18
number_of status.Deep = 19
