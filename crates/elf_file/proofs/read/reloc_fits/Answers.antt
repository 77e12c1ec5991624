use Rattle.std.proofs.Common.{◌+◌, ◌<◌, ◌≤◌, refl, sym, ap, subst, ◌∙◌, ℕ, List, eq-eqb}
use Rattle.std.proofs.lemmas.Bool.{ne_eqb, false≢true, not-true, not_from_false}
use Rattle.elf_file.specs.Places.{half_at}
use Rattle.elf_file.specs.WellFormed.{RelocFits}
use Rattle.elf_file.specs.Object.{reloc_in}
use Rattle.elf_file.specs.Checks.{sections_in, symbols_of}
use Rattle.elf_file.specs.declared.parts.RelocPart.{RelocPart}
use Rattle.elf_file.proofs.RelocsIn.{reloc_fits, reloc_inside, reloc_not_apart}
use Rattle.elf_file.proofs.read.reloc_fits.Goals as goal

pub returns-then-not-is_inside : goal.returns-then-not-is_inside
returns-then-not-is_inside c =
    let P : RelocPart → Type 0 = λ r. (r.offset + 4 ≤ c.args.sizes.text) × (0 < r.symbol) × (r.symbol < c.args.sizes.symbols) in (
      λ h. absurd (false≢true h),
      λ fits. absurd (false≢true (sym c.if-not-is_inside.true ∙ c.is_inside.ensures.1 (subst P (sym c.reloc_of_entry-reloc.ensures) (reloc_inside c.args.file.now c.args.sizes (reloc_in c.args.entry.now) refl fits)))),
    )

pub returns : goal.returns
returns c =
    let F : RelocPart → Type 0 = λ r. RelocFits (sections_in c.args.sizes) (symbols_of c.args.file.now c.args.sizes) r in
    let text = ap (λ (r : RelocPart). r.section) c.reloc_of_entry-reloc.ensures in
    let half = c.half_at.ensures ∙ ap (λ (xs : List ℕ). half_at xs 14) c.entry_at.ensures.bytes in (
      λ h. subst F c.reloc_of_entry-reloc.ensures (reloc_fits c.args.file.now c.args.sizes c.reloc_of_entry-reloc.result c.half_at.result text (c.is_inside.ensures.0 c.if-not-is_inside.false) half (λ e. false≢true (sym (not-true _ h) ∙ eq-eqb _ _ e))),
      λ fits. let other = reloc_not_apart c.args.file.now c.args.sizes c.reloc_of_entry-reloc.result c.half_at.result text (subst F (sym c.reloc_of_entry-reloc.ensures) fits) half in not_from_false _ (ne_eqb _ _ other),
    )
