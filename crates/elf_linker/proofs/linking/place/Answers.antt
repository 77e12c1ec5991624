use Rattle.std.proofs.Common.{◌∙◌, ℕ, List, sym, ap, subst, arith, length}
use Rattle.std.specs.Prelude.{codes}
use Rattle.elf_file.specs.Object.{Object}
use Rattle.elf_file.specs.declared.image.ImageParts.{ImageParts}
use Rattle.elf_linker.specs.Linked.{IsDefinedAt}
use Rattle.elf_linker.specs.LinkSteps.{AreTexts, IsMade}
use Rattle.elf_linker.proofs.Placing.{ends_all}
use Rattle.elf_linker.proofs.linking.place.Goals as goal

pub new-addresses-requires : goal.new-addresses-requires
new-addresses-requires c =
    let P : List ℕ → Type 0 = λ texts. AreTexts c.args.objects.now texts in
    record {
      are = c.requires.are;
      noted = c.requires.noted;
      places = subst P (sym c.as_slice.ensures.value) c.in_ok-texts.ensures;
      empty = c.whole_end-end.ensures;
      inside = omega (arith, c.whole_end-end.ensures, c.if-end-gt-END_ADDRESS.false);
    }

pub returns-clause-linked : goal.returns-clause-linked
returns-clause-linked c =
    let objects = c.args.objects.now in
    let M : List Object → Type 0 = λ xs. IsMade xs (length xs) c.in_ok-code.code.items in
    let S : List Object → Type 0 = λ xs. IsDefinedAt xs (codes "_start") c.entry.result in
    let made = subst M c.new-addresses.ensures c.in_ok-code.ensures in
    let ends = made.ends ∙ ends_all objects (length objects) (omega arith) in
    let E : ℕ → Type 0 = λ address. IsDefinedAt objects (codes "_start") address in
    record {
      code = c.in_ok-code.code.items;
      segments = ap (λ (i : ImageParts). i.segments) c.in_ok-image.ensures;
      entry = subst E (sym (ap (λ (i : ImageParts). i.entry) c.in_ok-image.ensures)) (subst S c.new-addresses.ensures c.entry.ensures);
      ends = ends;
      inside = omega (arith, c.whole_end-end.ensures, c.if-end-gt-END_ADDRESS.false);
      placed = made.placed;
      gaps = λ address from to none. made.gaps address from (omega (arith, to, ends)) none;
    }
