use Rattle.std.proofs.Common.{◌≡◌, sym, ap, subst, ◌∙◌, List, ℕ, arith}
use Rattle.std.proofs.lemmas.Bool.{false≢true}
use Rattle.elf_file.specs.Image.{IsImageOf}
use Rattle.elf_file.specs.ImageNumbers.{numbers_in, ImageStands, image_at}
use Rattle.elf_file.specs.declared.image.ImageParts.{ImageParts}
use Rattle.elf_file.specs.declared.image_headers.Numbers.{Numbers}
use Rattle.elf_file.specs.ImageBytes.{ImageBytes}
use Rattle.elf_file.proofs.ImageBytesFacts.{ImageBytes-written}
use Rattle.elf_file.proofs.ImageRead.{image_with, found_image, stands_back, image_back, slice_is}
use Rattle.elf_file.proofs.image_view.read_image.Goals as goal

-- a file that fails the checks is the file of no image
refused : (file : List ℕ) (n : Numbers) → n ≡ numbers_in file → (ImageStands file n → ⊥) → (parts : ImageParts) → IsImageOf parts file → ⊥
refused file n e none parts is = let P : Numbers → Type 0 = λ m. ImageStands file m in none (subst P (sym e) (stands_back parts file is))

pub returns-then-not-image_stands-clause-form : goal.returns-then-not-image_stands-clause-form
returns-then-not-image_stands-clause-form c =
    λ e parts is. refused c.args.file.now c.numbers_of-numbers.result c.numbers_of-numbers.ensures (λ s. false≢true (sym c.if-not-image_stands.true ∙ c.image_stands.ensures.1 s)) parts is

pub returns-then-not-image_stands-clause-back : goal.returns-then-not-image_stands-clause-back
returns-then-not-image_stands-clause-back c =
    λ parts is. absurd (refused c.args.file.now c.numbers_of-numbers.result c.numbers_of-numbers.ensures (λ s. false≢true (sym c.if-not-image_stands.true ∙ c.image_stands.ensures.1 s)) parts is)

pub returns-clause-ok : goal.returns-clause-ok
returns-clause-ok c =
    let f = found_image c.args.file.now c.numbers_of-numbers.result (λ i. omega (arith, c.type_inv.file i)) c.numbers_of-numbers.ensures (c.image_stands.ensures.0 c.if-not-image_stands.false) in
    let P : List ℕ → Type 0 = λ xs. IsImageOf (image_with c.numbers_of-numbers.result xs) c.args.file.now in
    subst P (sym (slice_is c.args.file.now c.slice_at.result.now c.numbers_of-numbers.result c.contents_at.result c.slice_at.ensures.bytes c.contents_at.ensures)) f

pub returns-clause-back : goal.returns-clause-back
returns-clause-back c =
    λ parts is. ap (λ (xs : List ℕ). image_with c.numbers_of-numbers.result xs) (slice_is c.args.file.now c.slice_at.result.now c.numbers_of-numbers.result c.contents_at.result c.slice_at.ensures.bytes c.contents_at.ensures)
    ∙ ap (λ (n : Numbers). image_at c.args.file.now n) c.numbers_of-numbers.ensures ∙ image_back parts c.args.file.now is

pub returns-clause-bytes : goal.returns-clause-bytes
returns-clause-bytes c =
    let f = found_image c.args.file.now c.numbers_of-numbers.result (λ i. omega (arith, c.type_inv.file i)) c.numbers_of-numbers.ensures (c.image_stands.ensures.0 c.if-not-image_stands.false) in
    let P : List ℕ → Type 0 = λ xs. ImageBytes (image_with c.numbers_of-numbers.result xs) c.args.file.now in
    subst P (sym (slice_is c.args.file.now c.slice_at.result.now c.numbers_of-numbers.result c.contents_at.result c.slice_at.ensures.bytes c.contents_at.ensures)) (ImageBytes-written (image_at c.args.file.now c.numbers_of-numbers.result) c.args.file.now f)
