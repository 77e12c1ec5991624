use Rattle.std.proofs.Common.{◌≡◌, ◌+◌, ◌-◌, ◌++◌, ◌∙◌, ℕ, List, ap, sym, subst, arith, length, replicate}
use Rattle.elf_file.specs.Object.{Object}
use Rattle.elf_linker.specs.Placement.{text_of}
use Rattle.elf_linker.specs.LinkSteps.{IsMade}
use Rattle.elf_linker.proofs.Placing.{near}
use Rattle.elf_linker.proofs.Making.{text_behind, copied, made_more, written_back, gap}
use Rattle.elf_linker.proofs.relocating.push_text.Goals as goal

pub overflow_sub-gap : goal.overflow_sub-gap
overflow_sub-gap c = let b = text_behind c.args.addresses.now c.requires.fit c.args.number c.requires.object c.args.code.now.items c.requires.made in omega (arith, b, c.section.ensures)

pub overflow_cast-gap : goal.overflow_cast-gap
overflow_cast-gap c =
    let b = text_behind c.args.addresses.now c.requires.fit c.args.number c.requires.object c.args.code.now.items c.requires.made in
    let n = (near c.args.addresses.now c.requires.fit.are c.requires.fit.inside c.args.number c.requires.object).begins in omega (arith, b, n, c.len.ensures)

pub overflow_sub-gap-2 : goal.overflow_sub-gap-2
overflow_sub-gap-2 c = let b = text_behind c.args.addresses.now c.requires.fit c.args.number c.requires.object c.args.code.now.items c.requires.made in omega (arith, b, c.section.ensures, c.len.ensures)

pub relocate_text-requires-clause-copied : goal.relocate_text-requires-clause-copied
relocate_text-requires-clause-copied c =
    let objects = c.args.addresses.now in let number = c.args.number in let old = c.args.code.now.items in
    let bytes = c.section_bytes.result.now in
    let are = c.section_bytes.ensures ∙ ap (λ (o : Object). (text_of o).bytes) c.object.ensures in
    let zeros = ap (λ (n : ℕ). old ++ replicate n 0) (let e : c.section.result - 134516736 - c.len.result ≡ gap objects c.requires.fit number c.requires.object old c.requires.made = omega (arith, c.section.ensures, c.len.ensures) in e) in
    let is = c.as_mut_slice.ensures.value ∙ c.in_ok-extend_from_slice.ensures.items ∙ ap (λ (xs : List ℕ). xs ++ bytes) (c.in_ok-push_zeros.ensures ∙ zeros) in
    copied objects c.requires.fit number c.requires.object old c.requires.made bytes are c.as_mut_slice.result.now is

pub returns : goal.returns
returns c =
    let objects = c.args.addresses.now in let number = c.args.number in let old = c.args.code.now.items in
    let bytes = c.section_bytes.result.now in
    let are = c.section_bytes.ensures ∙ ap (λ (o : Object). (text_of o).bytes) c.object.ensures in
    let zeros = ap (λ (n : ℕ). old ++ replicate n 0) (let e : c.section.result - 134516736 - c.len.result ≡ gap objects c.requires.fit number c.requires.object old c.requires.made = omega (arith, c.section.ensures, c.len.ensures) in e) in
    let is = c.as_mut_slice.ensures.value ∙ c.in_ok-extend_from_slice.ensures.items ∙ ap (λ (xs : List ℕ). xs ++ bytes) (c.in_ok-push_zeros.ensures ∙ zeros) in
    let more = made_more objects c.requires.fit number c.requires.object old c.requires.made bytes are c.as_mut_slice.result.now is c.relocate_text.new.code c.relocate_text.ensures.placed c.relocate_text.ensures.length c.relocate_text.ensures.before in
    let P : List ℕ → Type 0 = λ xs. IsMade objects (number + 1) xs in
    let same = c.relocate_text.ensures.length ∙ ap (λ (xs : List ℕ). length xs) c.as_mut_slice.ensures.value in
    subst P (sym (written_back c.relocate_text.new.code c.extend_from_slice.new.self.items c.extend_from_slice.new.self.len same (sym c.as_mut_slice.ensures.len ∙ ap (λ (xs : List ℕ). length xs) c.as_mut_slice.ensures.value))) more
