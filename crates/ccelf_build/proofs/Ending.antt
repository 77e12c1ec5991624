-- What the end of a command leaves of its status and its output.
use Rattle.std.proofs.Common.{◌≡◌, ◌⊎◌, inl, inr}
use Rattle.cc_base.specs.Seen.{SinkSeen}
use Rattle.commands.specs.declared.answer.Answer.{Answer}
use Rattle.commands.specs.declared.answer.Status.{Status}
use Rattle.commands.specs.Answers.{status_of}
use Rattle.ccelf_build.specs.Ends.{Ends, all_told, not_flushed, no_line, cut_short, no_room}
use Rattle.ccelf_build.specs.Kept.{OnlyFlushed}
use Rattle.ccelf_build.specs.Causes.{Yields}

-- the status is the answer's, or the end of the command failed
pub ended_so : (told : Answer) (out old after new : SinkSeen) (result : Status) → Ends told out old result after new → (result ≡ status_of told) ⊎ Yields result
ended_so told out old after new result (all_told a b r) = inl r
ended_so told out old after new result (not_flushed a b r) = inr (inr (inl r))
ended_so told out old after new result (no_line n a b r) = inr (inr (inr r))
ended_so told out old after new result (cut_short n m a b r) = inr (inr (inl r))
ended_so told out old after new result (no_room n m a b r) = inr (inr (inr r))

-- the output was flushed, or that failed
pub flushed_so : (told : Answer) (out old after new : SinkSeen) (result : Status) → Ends told out old result after new → OnlyFlushed out after
flushed_so told out old after new result (all_told a b r) = inl a
flushed_so told out old after new result (not_flushed a b r) = inr a
flushed_so told out old after new result (no_line n a b r) = inl a
flushed_so told out old after new result (cut_short n m a b r) = inl a
flushed_so told out old after new result (no_room n m a b r) = inl a
