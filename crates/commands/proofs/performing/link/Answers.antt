use Rattle.std.proofs.Common.{List, ℕ, ap, sym, subst, refl, arith, length}
use Rattle.std.specs.Prelude.{string_bytes}
use Rattle.std.proofs.lemmas.List.{length-map}
use Rattle.command_words.specs.Orders.{texts}
use Rattle.commands.specs.declared.answer.Answer.TheVariants as answer
use Rattle.commands.specs.Doing.{Says, Command}
use Rattle.commands.specs.Steps.{Fetches}
use Rattle.commands.specs.LinkingSteps.{AreSmall}
use Rattle.commands.proofs.WholeCommands.{each_has, got_small, IsSmall, not_linked, not_put, was_put, some_input, some_output}
use Rattle.commands.proofs.performing.link.Goals as goal

pub link_files-requires-clause-same : goal.link_files-requires-clause-same
link_files-requires-clause-same g c =
    let names = c.args.objects.now in
    let h = each_has Fetches IsSmall got_small (texts names) _ c.in-Ok.contents _ (c.in-Ok.ensures some_input some_output) in
    let n = h.0 in let m = length-map names string_bytes in let s = ap (λ (xs : List (List ℕ)). length xs) c.as_slice.ensures in
    omega (arith, n, m, s)

pub link_files-requires-clause-few : goal.link_files-requires-clause-few
link_files-requires-clause-few g c =
    let names = c.args.objects.now in
    let h = each_has Fetches IsSmall got_small (texts names) _ c.in-Ok.contents _ (c.in-Ok.ensures some_input some_output) in
    let n = h.0 in let m = length-map names string_bytes in let s = ap (λ (xs : List (List ℕ)). length xs) c.as_slice.ensures in
    omega (arith, n, m, s, c.requires)

pub link_files-requires-clause-small : goal.link_files-requires-clause-small
link_files-requires-clause-small g c =
    let h = each_has Fetches IsSmall got_small (texts c.args.objects.now) _ c.in-Ok.contents _ (c.in-Ok.ensures some_input some_output) in
    subst AreSmall (sym c.as_slice.ensures) h.1

pub returns-in-Err-link_files : goal.returns-in-Err-link_files
returns-in-Err-link_files g c input output =
    let rest : List ℕ → Command = λ bytes. Says (answer.ImageStored (length bytes)) in
    not_linked Fetches (texts c.args.objects.now) (texts c.args.objects.now) c.args.image.now rest input output _ _ c.in-Ok.contents c.as_slice.result.now (c.in-Ok.ensures input output) c.as_slice.ensures _ c.in-Err-link_files.ensures

pub returns-in-Ok-store : goal.returns-in-Ok-store
returns-in-Ok-store g c input output =
    let rest : List ℕ → Command = λ bytes. Says (answer.ImageStored (length bytes)) in
    was_put Fetches (texts c.args.objects.now) (texts c.args.objects.now) c.args.image.now rest input output _ _ c.in-Ok.contents c.as_slice.result.now (c.in-Ok.ensures input output) c.as_slice.ensures
    c.in-Ok-link_files.bytes c.as_slice-2.result.now c.in-Ok-link_files.ensures c.as_slice-2.ensures _ c.in-Ok-store.ensures _ _ (ap (λ (n : ℕ). answer.ImageStored n) c.len.ensures, refl)

pub returns : goal.returns
returns g c input output =
    let rest : List ℕ → Command = λ bytes. Says (answer.ImageStored (length bytes)) in
    not_put Fetches (texts c.args.objects.now) (texts c.args.objects.now) c.args.image.now rest input output _ _ c.in-Ok.contents c.as_slice.result.now (c.in-Ok.ensures input output) c.as_slice.ensures
    c.in-Ok-link_files.bytes c.as_slice-2.result.now c.in-Ok-link_files.ensures c.as_slice-2.ensures _ _ c.in-Err-store.ensures
