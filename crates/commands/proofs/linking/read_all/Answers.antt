use Rattle.std.proofs.Common.{◌≡◌, ◌<◌, ◌+◌, ◌∷◌, [], List, ℕ, drop, sym, ap, subst, arith, length, length-append}
use Rattle.std.specs.Prelude.{Result, Ok, Err, string_bytes}
use Rattle.elf_file.specs.Object.{Object}
use Rattle.command_words.specs.Orders.{texts}
use Rattle.commands.specs.declared.answer.Answer.{Answer}
use Rattle.commands.specs.LinkingSteps.{ReadOne, ReadFrom}
use Rattle.commands.proofs.EachSteps.{opened, none_left, handed_on}
use Rattle.commands.proofs.Readings.{Reading, one_more_read, failed_read, no_room, all_read, opened_file, no_files}
use Rattle.commands.proofs.linking.read_all.Goals as goal

pub returns-in_err-view : goal.returns-in_err-view
returns-in_err-view c =
    let names = c.args.names.now in let files = c.args.files.now in let k = c.loop-index.index in
    let l : k < length names = omega (arith, c.loop-index-test.true, c.requires.same) in
    let N : List (List ℕ) → Type 0 = λ rest. Reading (texts names) files rest (drop k files) c.loop-index.objects in
    let F : List (List ℕ) → Type 0 = λ rest. Reading (texts names) files (string_bytes c.index-names-index.result ∷ drop (k + 1) (texts names)) rest c.loop-index.objects in
    let reading = subst F (opened_file files k c.index-files-index.result c.loop-index-test.true c.index-files-index.is) (subst N (opened names k c.index-names-index.result l c.index-names-index.is) c.loop-index.invariant.reading) in
    let name = string_bytes c.index-names-index.result in let file = c.index-files-index.result in
    let A : List ℕ → Type 0 = λ n. ReadOne n c.as_slice.result.now (Err c.in_err-view.field-0.0) in
    let B : List ℕ → Type 0 = λ f. ReadOne name f (Err c.in_err-view.field-0.0) in
    let read = subst B c.as_slice.ensures (subst A c.as_str.ensures.value c.in_err-view.ensures) in
    let R : Result (List Object) Answer → Type 0 = λ r. ReadFrom (texts names) files r in
    subst R (sym (handed_on c.from_residual.result _ c.from_residual.ensures)) (failed_read (texts names) files name file (drop (k + 1) (texts names)) (drop (k + 1) files) c.loop-index.objects _ reading read)

pub returns-in_err-add : goal.returns-in_err-add
returns-in_err-add c =
    let names = c.args.names.now in let files = c.args.files.now in let k = c.loop-index.index in
    let l : k < length names = omega (arith, c.loop-index-test.true, c.requires.same) in
    let N : List (List ℕ) → Type 0 = λ rest. Reading (texts names) files rest (drop k files) c.loop-index.objects in
    let F : List (List ℕ) → Type 0 = λ rest. Reading (texts names) files (string_bytes c.index-names-index.result ∷ drop (k + 1) (texts names)) rest c.loop-index.objects in
    let reading = subst F (opened_file files k c.index-files-index.result c.loop-index-test.true c.index-files-index.is) (subst N (opened names k c.index-names-index.result l c.index-names-index.is) c.loop-index.invariant.reading) in
    let name = string_bytes c.index-names-index.result in let file = c.index-files-index.result in
    let A : List ℕ → Type 0 = λ n. ReadOne n c.as_slice.result.now (Ok c.in_ok-view.view) in
    let B : List ℕ → Type 0 = λ f. ReadOne name f (Ok c.in_ok-view.view) in
    let read = subst B c.as_slice.ensures (subst A c.as_str.ensures.value c.in_ok-view.ensures) in
    let R : Result (List Object) Answer → Type 0 = λ r. ReadFrom (texts names) files r in
    let M : Answer → Type 0 = λ a. ReadFrom (texts names) files (Err a) in
    subst R (sym (handed_on c.from_residual-in_err-add.result _ c.from_residual-in_err-add.ensures)) (subst M (sym c.in_err-add.ensures.memory) (no_room (texts names) files))

pub loop-index-preserved : goal.loop-index-preserved
loop-index-preserved c =
    let names = c.args.names.now in let files = c.args.files.now in let k = c.loop-index.index in
    let l : k < length names = omega (arith, c.loop-index-test.true, c.requires.same) in
    let N : List (List ℕ) → Type 0 = λ rest. Reading (texts names) files rest (drop k files) c.loop-index.objects in
    let F : List (List ℕ) → Type 0 = λ rest. Reading (texts names) files (string_bytes c.index-names-index.result ∷ drop (k + 1) (texts names)) rest c.loop-index.objects in
    let reading = subst F (opened_file files k c.index-files-index.result c.loop-index-test.true c.index-files-index.is) (subst N (opened names k c.index-names-index.result l c.index-names-index.is) c.loop-index.invariant.reading) in
    let name = string_bytes c.index-names-index.result in let file = c.index-files-index.result in
    let A : List ℕ → Type 0 = λ n. ReadOne n c.as_slice.result.now (Ok c.in_ok-view.view) in
    let B : List ℕ → Type 0 = λ f. ReadOne name f (Ok c.in_ok-view.view) in
    let read = subst B c.as_slice.ensures (subst A c.as_str.ensures.value c.in_ok-view.ensures) in
    let R : Result (List Object) Answer → Type 0 = λ r. ReadFrom (texts names) files r in
    let Q : List Object → Type 0 = λ os. Reading (texts names) files (drop (k + 1) (texts names)) (drop (k + 1) files) os in
    record {
      count = (let n = ap (λ (os : List Object). length os) c.in_ok-add.ensures.added in let m = length-append c.loop-index.objects (c.in_ok-view.view ∷ []) in omega (arith, n, m, c.loop-index.invariant.count));
      reading = subst Q (sym c.in_ok-add.ensures.added) (one_more_read (texts names) files name file (drop (k + 1) (texts names)) (drop (k + 1) files) c.loop-index.objects c.in_ok-view.view reading read);
    }

pub returns : goal.returns
returns c =
    let names = c.args.names.now in let files = c.args.files.now in let k = c.loop-index.index in
    let end : length files ≡ k = omega (arith, c.loop-index-test.false, c.loop-index.auto.index-end) in
    let named : length names ≡ k = omega (arith, end, c.requires.same) in
    let N : List (List ℕ) → Type 0 = λ rest. Reading (texts names) files rest (drop k files) c.loop-index.objects in
    let F : List (List ℕ) → Type 0 = λ rest. Reading (texts names) files [] rest c.loop-index.objects in
    all_read (texts names) files c.loop-index.objects (subst F (no_files files k end) (subst N (none_left names k named) c.loop-index.invariant.reading))
