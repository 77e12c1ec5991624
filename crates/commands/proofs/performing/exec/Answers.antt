use Rattle.std.proofs.Common.{List, ℕ, map, ap, sym, subst, arith, length}
use Rattle.std.specs.Prelude.{string_bytes, Ok, Err}
use Rattle.std.proofs.lemmas.List.{length-map}
use Rattle.command_words.specs.Commands.{object_name}
use Rattle.command_words.specs.Orders.{texts}
use Rattle.commands.specs.Doing.{outside}
use Rattle.commands.specs.Steps.{CompilesTo, LinkedFrom, Runs}
use Rattle.commands.specs.LinkingSteps.{AreSmall}
use Rattle.commands.proofs.WholeCommands.{each_has, made_small, IsSmall, not_linked, not_put, was_put, some_input, some_output}
use Rattle.commands.proofs.performing.exec.Goals as goal

pub link_files-requires-clause-same : goal.link_files-requires-clause-same
link_files-requires-clause-same g c =
    let units = c.args.units.now in
    let h = each_has (λ (unit : List ℕ). CompilesTo unit (object_name unit)) IsSmall (λ unit. made_small unit (object_name unit)) (texts units) _ c.in-Ok.made _ (c.in-Ok.ensures some_input some_output) in
    let n = h.0 in let m = length-map units string_bytes in let s = ap (λ (xs : List (List ℕ)). length xs) c.as_slice.ensures in
    let o = length-map c.args.objects.now string_bytes in let d = ap (λ (xs : List (List ℕ)). length xs) c.requires.named in let r = length-map (texts units) object_name in
    omega (arith, n, m, s, o, d, r)

pub link_files-requires-clause-few : goal.link_files-requires-clause-few
link_files-requires-clause-few g c =
    let units = c.args.units.now in
    let h = each_has (λ (unit : List ℕ). CompilesTo unit (object_name unit)) IsSmall (λ unit. made_small unit (object_name unit)) (texts units) _ c.in-Ok.made _ (c.in-Ok.ensures some_input some_output) in
    let n = h.0 in let m = length-map units string_bytes in let s = ap (λ (xs : List (List ℕ)). length xs) c.as_slice.ensures in
    omega (arith, n, m, s, c.requires.few)

pub link_files-requires-clause-small : goal.link_files-requires-clause-small
link_files-requires-clause-small g c =
    let h = each_has (λ (unit : List ℕ). CompilesTo unit (object_name unit)) IsSmall (λ unit. made_small unit (object_name unit)) (texts c.args.units.now) _ c.in-Ok.made _ (c.in-Ok.ensures some_input some_output) in
    subst AreSmall (sym c.as_slice.ensures) h.1

pub returns-in-Err-link_files : goal.returns-in-Err-link_files
returns-in-Err-link_files g c =
    let step = λ (unit : List ℕ). CompilesTo unit (object_name unit) in let units = texts c.args.units.now in
    let input = g.S.Source.seen c.args.input.now in let output = g.O.Sink.seen c.args.output.now in
    let N : List (List ℕ) → Type 0 = λ names. LinkedFrom names c.as_slice.result.now (Err c.in-Err-link_files.told) in
    not_linked step units (map object_name units) c.args.image.now (λ bytes. Runs c.args.steps c.args.image.now bytes) input output _ _ c.in-Ok.made c.as_slice.result.now (c.in-Ok.ensures input output) c.as_slice.ensures _
    (subst N c.requires.named c.in-Err-link_files.ensures)

pub returns-in-Ok-store : goal.returns-in-Ok-store
returns-in-Ok-store g c =
    let step = λ (unit : List ℕ). CompilesTo unit (object_name unit) in let units = texts c.args.units.now in
    let input = g.S.Source.seen c.args.input.now in let output = g.O.Sink.seen c.args.output.now in
    let N : List (List ℕ) → Type 0 = λ names. LinkedFrom names c.as_slice.result.now (Ok c.in-Ok-link_files.bytes) in
    let R : List ℕ → Type 0 = λ bytes. Runs c.args.steps c.args.image.now bytes (outside (g.F.Files.seen c.store.new.files) input output) c.run_image.result (outside (g.F.Files.seen c.store.new.files) (g.S.Source.seen c.run_image.new.input) (g.O.Sink.seen c.run_image.new.output)) in
    was_put step units (map object_name units) c.args.image.now (λ bytes. Runs c.args.steps c.args.image.now bytes) input output _ _ c.in-Ok.made c.as_slice.result.now (c.in-Ok.ensures input output) c.as_slice.ensures
    c.in-Ok-link_files.bytes c.as_slice-2.result.now (subst N c.requires.named c.in-Ok-link_files.ensures) c.as_slice-2.ensures _ c.in-Ok-store.ensures _ _
    (subst R c.as_slice-in-Ok-store.ensures (c.run_image.ensures (g.F.Files.seen c.store.new.files)))

pub returns : goal.returns
returns g c =
    let step = λ (unit : List ℕ). CompilesTo unit (object_name unit) in let units = texts c.args.units.now in
    let input = g.S.Source.seen c.args.input.now in let output = g.O.Sink.seen c.args.output.now in
    let N : List (List ℕ) → Type 0 = λ names. LinkedFrom names c.as_slice.result.now (Ok c.in-Ok-link_files.bytes) in
    not_put step units (map object_name units) c.args.image.now (λ bytes. Runs c.args.steps c.args.image.now bytes) input output _ _ c.in-Ok.made c.as_slice.result.now (c.in-Ok.ensures input output) c.as_slice.ensures
    c.in-Ok-link_files.bytes c.as_slice-2.result.now (subst N c.requires.named c.in-Ok-link_files.ensures) c.as_slice-2.ensures _ _ c.in-Err-store.ensures
