use Rattle.std.proofs.Common.{◌≡◌, ℕ, subst, arith, length}
use Rattle.elf_linker.specs.LinkSteps.{IsMade}
use Rattle.elf_linker.proofs.relocating.code.Goals as goal

pub returns : goal.returns
returns c =
    let all : c.loop-number.number ≡ length c.args.addresses.now = omega (arith, c.loop-number-test.false, c.loop-number.auto.number-end, c.len-number-end.ensures.count) in
    let P : ℕ → Type 0 = λ n. IsMade c.args.addresses.now n c.loop-number.code.items in subst P all c.loop-number.invariant
