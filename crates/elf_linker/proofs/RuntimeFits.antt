-- The runtime object may be written and is read back.
use Rattle.std.proofs.Common.{◌≡◌, ◌≢◌, ℕ, ◌+◌, ◌<◌, ◌≤◌, ◌^◌, List, length, refl, sym, ◌∙◌, subst, arith, true, false}
use Rattle.std.specs.Prelude.{All, codes}
use Rattle.std.proofs.lemmas.List.Elements.{All-from_recursion}
use Rattle.elf_file.specs.Written.{Written}
use Rattle.elf_file.specs.WellFormed.{WellFormed, SymbolFits, RelocFits, section_sizes}
use Rattle.elf_file.specs.Read.{InRange, IsFileOf}
use Rattle.elf_file.specs.declared.parts.ObjectParts.{ObjectParts}
use Rattle.elf_file.specs.declared.parts.SymbolPart.{SymbolPart}
use Rattle.elf_linker.specs.Runtime.{runtime, runtime_symbols, runtime_relocs, runtime_function, main_symbol}

abbrev NoZero : List ℕ → Type 0
NoZero name = All (λ byte. byte ≢ 0) name

function_fits : (name : List ℕ) (value size : ℕ) → 0 < length name → NoZero name → value + size ≤ 94 → SymbolFits (section_sizes runtime) (runtime_function name value size)
function_fits name value size some zeros within = record { placed = (omega arith, omega arith, within); named = λ global. record { some = some; no_section = λ e. cc; no_file = λ e. cc }; no_zero = zeros }

start_name : NoZero (codes "_start")
start_name = All-from_recursion (λ byte. byte ≢ 0) (codes "_start") (omega arith, (omega arith, (omega arith, (omega arith, (omega arith, (omega arith, tt))))))

main_name : NoZero (codes "main")
main_name = All-from_recursion (λ byte. byte ≢ 0) (codes "main") (omega arith, (omega arith, (omega arith, (omega arith, tt))))

get_name : NoZero (codes "getbyte")
get_name = All-from_recursion (λ byte. byte ≢ 0) (codes "getbyte") (omega arith, (omega arith, (omega arith, (omega arith, (omega arith, (omega arith, (omega arith, tt)))))))

put_name : NoZero (codes "putbyte")
put_name = All-from_recursion (λ byte. byte ≢ 0) (codes "putbyte") (omega arith, (omega arith, (omega arith, (omega arith, (omega arith, (omega arith, (omega arith, tt)))))))

main_fits : SymbolFits (section_sizes runtime) main_symbol
main_fits = record { placed = refl; named = λ global. record { some = omega arith; no_section = λ e. cc; no_file = λ e. cc }; no_zero = main_name }

symbols_fit : All (SymbolFits (section_sizes runtime)) runtime_symbols
symbols_fit = All-from_recursion (SymbolFits (section_sizes runtime)) runtime_symbols (
  function_fits (codes "_start") 0 14 (omega arith) start_name (omega arith),
  (
    main_fits,
    (function_fits (codes "getbyte") 14 56 (omega arith) get_name (omega arith), (function_fits (codes "putbyte") 70 24 (omega arith) put_name (omega arith), tt)),
  ),
)

all_shown : All (λ (s : SymbolPart). s.local ≡ false) runtime_symbols
all_shown = All-from_recursion (λ (s : SymbolPart). s.local ≡ false) runtime_symbols (refl, (refl, (refl, (refl, tt))))

relocs_fit : All (RelocFits (section_sizes runtime) runtime_symbols) runtime_relocs
relocs_fit = All-from_recursion (RelocFits (section_sizes runtime) runtime_symbols) runtime_relocs (record { from_text = omega arith; to_writable = omega arith; inside = omega arith; after_zero = omega arith; in_table = omega arith; against = λ d e. cc }, tt)

pub runtime_well_formed : WellFormed runtime
runtime_well_formed = record {
  symbols = symbols_fit;
  locals_first = λ i j d l m local. (let shown = all_shown j d m in let clash : true ≡ false = sym local ∙ shown in cc);
  few_symbols = omega arith;
  relocs = relocs_fit;
  relocs_rise = λ k d l. (let no : ⊥ = omega (arith, l) in absurd no);
  small = omega arith;
}

runtime_in_range : InRange runtime
runtime_in_range = All-from_recursion (λ (s : SymbolPart). (s.value < 2 ^ 32) × (s.size < 2 ^ 32)) runtime_symbols ((omega arith, omega arith), ((omega arith, omega arith), ((omega arith, omega arith), ((omega arith, omega arith), tt))))

pub runtime_file : (parts : ObjectParts) (file : List ℕ) → parts ≡ runtime → Written parts file → IsFileOf runtime file
runtime_file parts file e written =
    let P : ObjectParts → Type 0 = λ p. Written p file in
    record { well_formed = runtime_well_formed; in_range = runtime_in_range; only_text = record { fixed = refl; held = refl; zeros = refl }; written = subst P e written }
