-- What a command leaves in the files and of the rest, whatever its answer.
use Rattle.std.specs.Prelude.{◌≡◌, ◌⊎◌, List, ℕ, [], ◌∷◌, ◌++◌, map, option_map}
use Rattle.cc_base.specs.Seen.{FilesSeen, SourceSeen, SinkSeen}
use Rattle.cc_base.specs.Outside.{all_out, SinkFailed}
use Rattle.command_words.specs.Commands.{Request, Compile, Link, Run, Show, Exec, Mean, object_name}
use Rattle.ccelf_build.specs.Contents.{NamedBytes, put_all}

-- the names that a command puts, in order
abbrev pub names_put : Request → List (List ℕ)
names_put (Compile unit object) = object ∷ []
names_put (Link image objects) = image ∷ []
names_put (Run steps image) = []
names_put (Show unit) = []
names_put (Exec steps image units) = map object_name units ++ image ∷ []
names_put (Mean steps units) = []

-- The contents are the old ones with some puts, of the first of these names, in their order.
pub record Kept (names : List (List ℕ)) (old new : FilesSeen) : Type 0 where
  pub puts : List NamedBytes
  pub told : new.told ≡ option_map (put_all puts) old.told
  pub others : List (List ℕ)
  pub first : names ≡ map (λ (p : NamedBytes). p.name) puts ++ others

-- nothing was given, and the sink was flushed, or that failed
abbrev pub OnlyFlushed : SinkSeen → SinkSeen → Type 0
OnlyFlushed old new = (new ≡ all_out old) ⊎ SinkFailed old new

-- Nothing is put: the contents and the count of failed writes are as before
pub record PutsNothing (old new : FilesSeen) : Type 0 where
  pub told : new.told ≡ old.told
  pub writes : new.write_faults ≡ old.write_faults

-- What a command does not touch: compile and link ask for no byte and give none, run and mean put nothing, and show puts nothing and asks for no byte.
abbrev pub LeavesAlone : Request → FilesSeen → FilesSeen → SourceSeen → SourceSeen → SinkSeen → SinkSeen → Type 0
LeavesAlone (Compile unit object) files files' input input' output output' = (input' ≡ input) × OnlyFlushed output output'
LeavesAlone (Link image objects) files files' input input' output output' = (input' ≡ input) × OnlyFlushed output output'
LeavesAlone (Run steps image) files files' input input' output output' = PutsNothing files files'
LeavesAlone (Show unit) files files' input input' output output' = (input' ≡ input) × PutsNothing files files'
LeavesAlone (Exec steps image units) files files' input input' output output' = Unit {0}
LeavesAlone (Mean steps units) files files' input input' output output' = PutsNothing files files'
