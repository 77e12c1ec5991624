-- An object of text alone, without symbols, may be written.
use Rattle.std.proofs.Common.{ℕ, ◌≤◌, List, [], length, arith}
use Rattle.elf_file.specs.WellFormed.{WellFormed}

pub text_fits : (text : List ℕ) → length text ≤ 16777216 → WellFormed (record { text = text; fixed = []; held = []; zeros = 0; symbols = []; relocs = [] })
text_fits text short = record {
  symbols = λ k d l. (let no : ⊥ = omega (arith, l) in absurd no);
  locals_first = λ i j d l m local. (let no : ⊥ = omega (arith, m) in absurd no);
  few_symbols = omega arith;
  relocs = λ k d l. (let no : ⊥ = omega (arith, l) in absurd no);
  relocs_rise = λ k d l. (let no : ⊥ = omega (arith, l) in absurd no);
  small = omega (arith, short);
}
