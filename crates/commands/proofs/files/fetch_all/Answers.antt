use Rattle.std.proofs.Common.{◌≡◌, ◌∙◌, ◌+◌, ◌∷◌, List, ℕ, drop, sym, ap, subst, refl, arith, length}
use Rattle.std.specs.Prelude.{Result, Err}
use Rattle.command_words.specs.Orders.{texts}
use Rattle.commands.specs.declared.answer.Answer.{Answer}
use Rattle.commands.specs.declared.answer.Answer.TheVariants as answer
use Rattle.commands.specs.Doing.{outside, Each}
use Rattle.commands.specs.Steps.{Fetches}
use Rattle.commands.proofs.EachSteps.{Going, begun, one_more, failed, all_done, opened, none_left, handed_on}
use Rattle.commands.proofs.files.fetch_all.Goals as goal

pub loop-name-init : goal.loop-name-init
loop-name-init g c input output =
    let start = outside (g.F.Files.seen c.args.files.now) input output in
    let Q : List (List ℕ) → Type 0 = λ ys. Going Fetches (texts c.args.names.now) start (texts c.args.names.now) ys start in
    subst Q (sym c.new-contents.ensures) (begun Fetches (texts c.args.names.now) start)

pub returns-in_err-bytes : goal.returns-in_err-bytes
returns-in_err-bytes g c input output =
    let names = c.args.names.now in let k = c.loop-name.name-index in
    let unfolded = opened names k c.name-item.result c.loop-name-test.true c.name-item.is ∙ ap (λ (b : List ℕ). b ∷ drop (k + 1) (texts names)) (sym c.as_str.ensures.value) in
    let P : List (List ℕ) → Type 0 = λ rest. Going Fetches (texts names) (outside (g.F.Files.seen c.args.files.now) input output) rest c.loop-name.contents (outside (g.F.Files.seen c.loop-name.files) input output) in
    let R : Result (List (List ℕ)) Answer → Type 0 = λ r. Each Fetches (texts names) (outside (g.F.Files.seen c.args.files.now) input output) r (outside (g.F.Files.seen c.fetch.new.files) input output) in
    subst R (sym (handed_on c.from_residual.result _ c.from_residual.ensures)) (failed Fetches (texts names) _ c.as_str.result.now (drop (k + 1) (texts names)) c.loop-name.contents _ _ _ (subst P unfolded (c.loop-name.invariant input output)) (c.in_err-bytes.ensures, refl))

pub returns-in_err-keep : goal.returns-in_err-keep
returns-in_err-keep g c input output =
    let names = c.args.names.now in let k = c.loop-name.name-index in
    let unfolded = opened names k c.name-item.result c.loop-name-test.true c.name-item.is ∙ ap (λ (b : List ℕ). b ∷ drop (k + 1) (texts names)) (sym c.as_str.ensures.value) in
    let P : List (List ℕ) → Type 0 = λ rest. Going Fetches (texts names) (outside (g.F.Files.seen c.args.files.now) input output) rest c.loop-name.contents (outside (g.F.Files.seen c.loop-name.files) input output) in
    let A : Answer → Type 0 = λ a. Each Fetches (texts names) (outside (g.F.Files.seen c.args.files.now) input output) (Err a) (outside (g.F.Files.seen c.fetch.new.files) input output) in
    let R : Result (List (List ℕ)) Answer → Type 0 = λ r. Each Fetches (texts names) (outside (g.F.Files.seen c.args.files.now) input output) r (outside (g.F.Files.seen c.fetch.new.files) input output) in
    subst R (sym (handed_on c.from_residual-in_err-keep.result _ c.from_residual-in_err-keep.ensures)) (subst A (sym c.in_err-keep.ensures.memory) (failed Fetches (texts names) _ c.as_str.result.now (drop (k + 1) (texts names)) c.loop-name.contents _ _ answer.Memory (subst P unfolded (c.loop-name.invariant input output)) (c.in_ok-bytes.ensures.same, refl)))

pub loop-name-preserved : goal.loop-name-preserved
loop-name-preserved g c input output =
    let names = c.args.names.now in let k = c.loop-name.name-index in
    let unfolded = opened names k c.name-item.result c.loop-name-test.true c.name-item.is ∙ ap (λ (b : List ℕ). b ∷ drop (k + 1) (texts names)) (sym c.as_str.ensures.value) in
    let P : List (List ℕ) → Type 0 = λ rest. Going Fetches (texts names) (outside (g.F.Files.seen c.args.files.now) input output) rest c.loop-name.contents (outside (g.F.Files.seen c.loop-name.files) input output) in
    let Q : List (List ℕ) → Type 0 = λ ys. Going Fetches (texts names) (outside (g.F.Files.seen c.args.files.now) input output) (drop (k + 1) (texts names)) ys (outside (g.F.Files.seen c.fetch.new.files) input output) in
    subst Q (sym c.in_ok-keep.ensures.kept) (one_more Fetches (texts names) _ c.as_str.result.now (drop (k + 1) (texts names)) c.loop-name.contents c.in_ok-bytes.bytes _ _ (subst P unfolded (c.loop-name.invariant input output)) (c.in_ok-bytes.ensures, refl))

pub returns : goal.returns
returns g c input output =
    let names = c.args.names.now in
    let end : length names ≡ c.loop-name.name-index = omega (arith, c.loop-name-test.false, c.loop-name.auto.name-index-end) in
    let P : List (List ℕ) → Type 0 = λ rest. Going Fetches (texts names) (outside (g.F.Files.seen c.args.files.now) input output) rest c.loop-name.contents (outside (g.F.Files.seen c.loop-name.files) input output) in
    all_done Fetches (texts names) _ c.loop-name.contents _ (subst P (none_left names c.loop-name.name-index end) (c.loop-name.invariant input output))
