use Rattle.std.proofs.Common.{◌≡◌, ◌∙◌, ◌+◌, List, ℕ, drop, sym, subst, arith, length}
use Rattle.std.specs.Prelude.{Result, Ok, Err, string_bytes}
use Rattle.command_words.specs.Commands.{object_name}
use Rattle.command_words.specs.Orders.{texts}
use Rattle.commands.specs.declared.answer.Answer.{Answer}
use Rattle.commands.specs.declared.answer.Answer.TheVariants as answer
use Rattle.commands.specs.Doing.{outside, Each}
use Rattle.commands.specs.Steps.{CompilesTo}
use Rattle.commands.proofs.Compilations.{not_kept, object_there}
use Rattle.commands.proofs.EachSteps.{Going, one_more, failed, all_done, opened, none_left, handed_on}
use Rattle.commands.proofs.compiling.compile_all.Goals as goal

pub returns-in_err-bytes : goal.returns-in_err-bytes
returns-in_err-bytes g c input output =
    let units = c.args.units.now in let k = c.loop-index.index in
    let step = λ (unit : List ℕ). CompilesTo unit (object_name unit) in
    let start = outside (g.F.Files.seen c.args.files.now) input output in let now = outside (g.F.Files.seen c.loop-index.files) input output in let next = outside (g.F.Files.seen c.compile_to.new.files) input output in
    let unit = string_bytes c.index-units-index.result in
    let named = c.as_str-in-loop-index.ensures.value ∙ object_there units c.args.objects.now c.requires k c.index-units-index.result c.index-objects-index.result c.loop-index-test.true c.index-units-index.is c.index-objects-index.is in
    let U : List ℕ → Type 0 = λ name. CompilesTo unit name now (Err c.in_err-bytes.field-0.0) next in
    let V : List ℕ → Type 0 = λ name. CompilesTo name c.as_str-in-loop-index.result.now now (Err c.in_err-bytes.field-0.0) next in
    let went = subst U named (subst V c.as_str.ensures.value (c.in_err-bytes.ensures input output)) in
    let P : List (List ℕ) → Type 0 = λ rest. Going step (texts units) start rest c.loop-index.contents now in
    let going = subst P (opened units k c.index-units-index.result c.loop-index-test.true c.index-units-index.is) (c.loop-index.invariant input output) in
    let R : Result (List (List ℕ)) Answer → Type 0 = λ r. Each step (texts units) start r next in
    subst R (sym (handed_on c.from_residual.result _ c.from_residual.ensures)) (failed step (texts units) start unit (drop (k + 1) (texts units)) c.loop-index.contents now next _ going went)

pub returns-in_err-keep : goal.returns-in_err-keep
returns-in_err-keep g c input output =
    let units = c.args.units.now in let k = c.loop-index.index in
    let step = λ (unit : List ℕ). CompilesTo unit (object_name unit) in
    let start = outside (g.F.Files.seen c.args.files.now) input output in let now = outside (g.F.Files.seen c.loop-index.files) input output in let next = outside (g.F.Files.seen c.compile_to.new.files) input output in
    let unit = string_bytes c.index-units-index.result in
    let named = c.as_str-in-loop-index.ensures.value ∙ object_there units c.args.objects.now c.requires k c.index-units-index.result c.index-objects-index.result c.loop-index-test.true c.index-units-index.is c.index-objects-index.is in
    let U : List ℕ → Type 0 = λ name. CompilesTo unit name now (Ok c.in_ok-bytes.bytes) next in
    let V : List ℕ → Type 0 = λ name. CompilesTo name c.as_str-in-loop-index.result.now now (Ok c.in_ok-bytes.bytes) next in
    let went = subst U named (subst V c.as_str.ensures.value (c.in_ok-bytes.ensures input output)) in
    let P : List (List ℕ) → Type 0 = λ rest. Going step (texts units) start rest c.loop-index.contents now in
    let going = subst P (opened units k c.index-units-index.result c.loop-index-test.true c.index-units-index.is) (c.loop-index.invariant input output) in
    let R : Result (List (List ℕ)) Answer → Type 0 = λ r. Each step (texts units) start r next in
    let A : Answer → Type 0 = λ a. Each step (texts units) start (Err a) next in
    subst R (sym (handed_on c.from_residual-in_err-keep.result _ c.from_residual-in_err-keep.ensures))
    (subst A (sym c.in_err-keep.ensures.memory) (failed step (texts units) start unit (drop (k + 1) (texts units)) c.loop-index.contents now next answer.Memory going (not_kept unit (object_name unit) c.in_ok-bytes.bytes now next went)))

pub loop-index-preserved : goal.loop-index-preserved
loop-index-preserved g c input output =
    let units = c.args.units.now in let k = c.loop-index.index in
    let step = λ (unit : List ℕ). CompilesTo unit (object_name unit) in
    let start = outside (g.F.Files.seen c.args.files.now) input output in let now = outside (g.F.Files.seen c.loop-index.files) input output in let next = outside (g.F.Files.seen c.compile_to.new.files) input output in
    let unit = string_bytes c.index-units-index.result in
    let named = c.as_str-in-loop-index.ensures.value ∙ object_there units c.args.objects.now c.requires k c.index-units-index.result c.index-objects-index.result c.loop-index-test.true c.index-units-index.is c.index-objects-index.is in
    let U : List ℕ → Type 0 = λ name. CompilesTo unit name now (Ok c.in_ok-bytes.bytes) next in
    let V : List ℕ → Type 0 = λ name. CompilesTo name c.as_str-in-loop-index.result.now now (Ok c.in_ok-bytes.bytes) next in
    let went = subst U named (subst V c.as_str.ensures.value (c.in_ok-bytes.ensures input output)) in
    let P : List (List ℕ) → Type 0 = λ rest. Going step (texts units) start rest c.loop-index.contents now in
    let going = subst P (opened units k c.index-units-index.result c.loop-index-test.true c.index-units-index.is) (c.loop-index.invariant input output) in
    let Q : List (List ℕ) → Type 0 = λ ys. Going step (texts units) start (drop (k + 1) (texts units)) ys next in
    subst Q (sym c.in_ok-keep.ensures.kept) (one_more step (texts units) start unit (drop (k + 1) (texts units)) c.loop-index.contents c.in_ok-bytes.bytes now next going went)

pub returns : goal.returns
returns g c input output =
    let units = c.args.units.now in
    let step = λ (unit : List ℕ). CompilesTo unit (object_name unit) in
    let start = outside (g.F.Files.seen c.args.files.now) input output in let now = outside (g.F.Files.seen c.loop-index.files) input output in
    let end : length units ≡ c.loop-index.index = omega (arith, c.loop-index-test.false, c.loop-index.auto.index-end) in
    let P : List (List ℕ) → Type 0 = λ rest. Going step (texts units) start rest c.loop-index.contents now in
    all_done step (texts units) start c.loop-index.contents now (subst P (none_left units c.loop-index.index end) (c.loop-index.invariant input output))
