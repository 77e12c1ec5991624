use Rattle.std.proofs.Common.{List, ℕ, sym, subst}
use Rattle.std.specs.Prelude.{Result}
use Rattle.commands.specs.declared.answer.Answer.{Answer}
use Rattle.commands.specs.Doing.{outside}
use Rattle.commands.specs.Steps.{CompilesTo}
use Rattle.commands.proofs.Compilations.{not_compiled, not_stored, all_stored}
use Rattle.commands.proofs.EachSteps.{handed_on}
use Rattle.commands.proofs.compiling.compile_to.Goals as goal

pub returns-in_err-bytes : goal.returns-in_err-bytes
returns-in_err-bytes g c input output =
    let R : Result (List ℕ) Answer → Type 0 = λ r. CompilesTo c.args.unit.now c.args.object.now (outside (g.F.Files.seen c.args.files.now) input output) r (outside (g.F.Files.seen c.fetch.new.files) input output) in
    subst R (sym (handed_on c.from_residual-in_err-bytes.result _ c.from_residual-in_err-bytes.ensures)) (not_compiled _ _ input output _ _ _ _ c.in_ok-text.ensures c.as_slice.ensures _ c.in_err-bytes.ensures)

pub returns-in_err-store : goal.returns-in_err-store
returns-in_err-store g c input output =
    let R : Result (List ℕ) Answer → Type 0 = λ r. CompilesTo c.args.unit.now c.args.object.now (outside (g.F.Files.seen c.args.files.now) input output) r (outside (g.F.Files.seen c.store.new.files) input output) in
    subst R (sym (handed_on c.from_residual-in_err-store.result _ c.from_residual-in_err-store.ensures)) (not_stored _ _ input output _ _ _ _ c.in_ok-text.ensures c.as_slice.ensures _ _ c.in_ok-bytes.ensures c.as_slice-2.ensures _ _ c.in_err-store.ensures)

pub returns : goal.returns
returns g c input output = all_stored _ _ input output _ _ _ _ c.in_ok-text.ensures c.as_slice.ensures _ _ c.in_ok-bytes.ensures c.as_slice-2.ensures _ c.in_ok-store.ensures
