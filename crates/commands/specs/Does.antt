-- What each command does, in this order.
use Rattle.std.specs.Prelude.{ℕ, List, length, map}
use Rattle.text_print.specs.Canonical.{canonical_text}
use Rattle.command_words.specs.Commands.{Request, Compile, Link, Run, Show, Exec, Mean, object_name}
use Rattle.commands.specs.declared.answer.Answer.TheVariants as answer
use Rattle.commands.specs.Doing.{Command, Says, Then, Each}
use Rattle.commands.specs.Meanings.{Checks, MeansBy}
use Rattle.commands.specs.Steps.{Fetches, Stores, Parses, CompilesTo, Links, Runs, Keeps, GivesOut}

-- compile: get UNIT, compile it, put OBJECT
abbrev pub compile_does : List ℕ → List ℕ → Command
compile_does unit object = Then (CompilesTo unit object) (λ bytes. Says (answer.ObjectStored (length bytes)))

-- link: get all objects, read and link them, put IMAGE
abbrev pub link_does : List ℕ → List (List ℕ) → Command
link_does image objects =
    Then (Each Fetches objects) (λ files.
    Then (Links objects files) (λ bytes.
    Then (Stores image bytes) (λ _.
    Says (answer.ImageStored (length bytes)))))

-- run: get IMAGE, read, load and run it
abbrev pub run_does : ℕ → List ℕ → Command
run_does steps image = Then (Fetches image) (λ bytes. Runs steps image bytes)

-- show: get UNIT, parse it, give its canonical text
abbrev pub show_does : List ℕ → Command
show_does unit =
    Then (Fetches unit) (λ text.
    Then (Parses unit text) (λ tree.
    Then (Keeps (canonical_text tree)) (λ shown.
    Then (GivesOut shown) (λ _.
    Says answer.Shown))))

-- exec: for each unit get it, compile it and put its object; read these bytes and link them, put IMAGE; read, load and run the bytes that were put
abbrev pub exec_does : ℕ → List ℕ → List (List ℕ) → Command
exec_does steps image units =
    Then (Each (λ unit. CompilesTo unit (object_name unit)) units) (λ files.
    Then (Links (map object_name units) files) (λ bytes.
    Then (Stores image bytes) (λ _.
    Runs steps image bytes)))

-- mean: for each unit get it, parse it and check its types; then run the linked units as the source means
abbrev pub mean_does : ℕ → List (List ℕ) → Command
mean_does steps units = Then (Each Checks units) (λ typed. MeansBy steps units typed)

abbrev pub does : Request → Command
does (Compile unit object) = compile_does unit object
does (Link image objects) = link_does image objects
does (Run steps image) = run_does steps image
does (Show unit) = show_does unit
does (Exec steps image units) = exec_does steps image units
does (Mean steps units) = mean_does steps units
