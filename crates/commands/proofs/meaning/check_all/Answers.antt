use Rattle.std.proofs.Common.{◌≡◌, ◌∙◌, ◌+◌, ◌∷◌, List, ℕ, drop, sym, ap, subst, arith, length}
use Rattle.std.specs.Prelude.{Result, Err}
use Rattle.clight_unit.specs.declared.unit.ClightUnit.{ClightUnit as TypedUnit}
use Rattle.command_words.specs.Orders.{texts}
use Rattle.commands.specs.declared.answer.Answer.{Answer}
use Rattle.commands.specs.declared.answer.Answer.TheVariants as answer
use Rattle.commands.specs.Doing.{outside, Each}
use Rattle.commands.specs.Meanings.{Checks}
use Rattle.commands.proofs.EachSteps.{Going, begun, one_more, failed, all_done, opened, none_left, handed_on}
use Rattle.commands.proofs.Meaningful.{not_kept_unit}
use Rattle.commands.proofs.meaning.check_all.Goals as goal

pub loop-name-init : goal.loop-name-init
loop-name-init g c input output =
    let start = outside (g.F.Files.seen c.args.files.now) input output in
    let Q : List TypedUnit → Type 0 = λ ys. Going Checks (texts c.args.names.now) start (texts c.args.names.now) ys start in
    subst Q (sym c.new-units.ensures) (begun Checks (texts c.args.names.now) start)

pub returns-in_err-unit : goal.returns-in_err-unit
returns-in_err-unit g c input output =
    let names = c.args.names.now in let k = c.loop-name.name-index in
    let unfolded = opened names k c.name-item.result c.loop-name-test.true c.name-item.is ∙ ap (λ (b : List ℕ). b ∷ drop (k + 1) (texts names)) (sym c.as_str.ensures.value) in
    let P : List (List ℕ) → Type 0 = λ rest. Going Checks (texts names) (outside (g.F.Files.seen c.args.files.now) input output) rest c.loop-name.units (outside (g.F.Files.seen c.loop-name.files) input output) in
    let R : Result (List TypedUnit) Answer → Type 0 = λ r. Each Checks (texts names) (outside (g.F.Files.seen c.args.files.now) input output) r (outside (g.F.Files.seen c.check_file.new.files) input output) in
    subst R (sym (handed_on c.from_residual.result _ c.from_residual.ensures)) (failed Checks (texts names) _ c.as_str.result.now (drop (k + 1) (texts names)) c.loop-name.units _ _ _ (subst P unfolded (c.loop-name.invariant input output)) (c.in_err-unit.ensures input output))

pub returns-in_err-keep_unit : goal.returns-in_err-keep_unit
returns-in_err-keep_unit g c input output =
    let names = c.args.names.now in let k = c.loop-name.name-index in
    let unfolded = opened names k c.name-item.result c.loop-name-test.true c.name-item.is ∙ ap (λ (b : List ℕ). b ∷ drop (k + 1) (texts names)) (sym c.as_str.ensures.value) in
    let P : List (List ℕ) → Type 0 = λ rest. Going Checks (texts names) (outside (g.F.Files.seen c.args.files.now) input output) rest c.loop-name.units (outside (g.F.Files.seen c.loop-name.files) input output) in
    let A : Answer → Type 0 = λ a. Each Checks (texts names) (outside (g.F.Files.seen c.args.files.now) input output) (Err a) (outside (g.F.Files.seen c.check_file.new.files) input output) in
    let R : Result (List TypedUnit) Answer → Type 0 = λ r. Each Checks (texts names) (outside (g.F.Files.seen c.args.files.now) input output) r (outside (g.F.Files.seen c.check_file.new.files) input output) in
    subst R (sym (handed_on c.from_residual-in_err-keep_unit.result _ c.from_residual-in_err-keep_unit.ensures)) (subst A (sym c.in_err-keep_unit.ensures.memory) (failed Checks (texts names) _ c.as_str.result.now (drop (k + 1) (texts names)) c.loop-name.units _ _ answer.Memory (subst P unfolded (c.loop-name.invariant input output)) (not_kept_unit c.as_str.result.now c.in_ok-unit.unit _ _ (c.in_ok-unit.ensures input output))))

pub loop-name-preserved : goal.loop-name-preserved
loop-name-preserved g c input output =
    let names = c.args.names.now in let k = c.loop-name.name-index in
    let unfolded = opened names k c.name-item.result c.loop-name-test.true c.name-item.is ∙ ap (λ (b : List ℕ). b ∷ drop (k + 1) (texts names)) (sym c.as_str.ensures.value) in
    let P : List (List ℕ) → Type 0 = λ rest. Going Checks (texts names) (outside (g.F.Files.seen c.args.files.now) input output) rest c.loop-name.units (outside (g.F.Files.seen c.loop-name.files) input output) in
    let Q : List TypedUnit → Type 0 = λ ys. Going Checks (texts names) (outside (g.F.Files.seen c.args.files.now) input output) (drop (k + 1) (texts names)) ys (outside (g.F.Files.seen c.check_file.new.files) input output) in
    subst Q (sym c.in_ok-keep_unit.ensures.kept) (one_more Checks (texts names) _ c.as_str.result.now (drop (k + 1) (texts names)) c.loop-name.units c.in_ok-unit.unit _ _ (subst P unfolded (c.loop-name.invariant input output)) (c.in_ok-unit.ensures input output))

pub returns : goal.returns
returns g c input output =
    let names = c.args.names.now in
    let end : length names ≡ c.loop-name.name-index = omega (arith, c.loop-name-test.false, c.loop-name.auto.name-index-end) in
    let P : List (List ℕ) → Type 0 = λ rest. Going Checks (texts names) (outside (g.F.Files.seen c.args.files.now) input output) rest c.loop-name.units (outside (g.F.Files.seen c.loop-name.files) input output) in
    all_done Checks (texts names) _ c.loop-name.units _ (subst P (none_left names c.loop-name.name-index end) (c.loop-name.invariant input output))
