-- Entries of the symbol table and the relocation table that are as written.
use Rattle.std.proofs.Common.{◌≡◌, refl, sym, ℕ, zero, suc, ◌+◌, ◌*◌, ◌/◌, ◌%◌, ◌<◌, ◌≤◌, Bool, true, false, cond, List, [], length, get_or, arith}
use Rattle.std.proofs.lemmas.Bool.{eqb-true}
use Rattle.std.proofs.lemmas.Slice.Eq.{text_from_reads}
use Rattle.std.specs.Prelude.{nat_eq}
use Rattle.elf_file.specs.Places.{word_at, half_at}
use Rattle.elf_file.specs.Written.{kind_number, place_number, bind_number, symbol_entry}
use Rattle.elf_file.specs.Object.{kind_of, place_of, symbol_in}
use Rattle.elf_file.specs.declared.parts.SymbolPlace.TheVariants.{Undefined, At, Absolute}

pub kind_again : (n : ℕ) → n ≤ 4 → kind_number (kind_of n) ≡ n
kind_again zero h = refl
kind_again (suc zero) h = refl
kind_again (suc (suc zero)) h = refl
kind_again (suc (suc (suc zero))) h = refl
kind_again (suc (suc (suc (suc zero)))) h = refl
kind_again (suc (suc (suc (suc (suc n))))) h = absurd (omega arith)

bind_again : (n : ℕ) → n ≤ 1 → bind_number (nat_eq n 0) ≡ n
bind_again zero h = refl
bind_again (suc zero) h = refl
bind_again (suc (suc n)) h = absurd (omega arith)

apart : (b : Bool) (n : ℕ) → (b ≡ true → n ≡ 0xfff1) → place_number (cond b Absolute (At n)) ≡ n
apart true n h = sym (h refl)
apart false n h = refl

somewhere : (b c : Bool) (n : ℕ) → (b ≡ true → n ≡ 0) → (c ≡ true → n ≡ 0xfff1) → place_number (cond b Undefined (cond c Absolute (At n))) ≡ n
somewhere true c n h k = sym (h refl)
somewhere false c n h k = apart c n k

pub place_again : (n : ℕ) → place_number (place_of n) ≡ n
place_again n = somewhere (nat_eq n 0) (nat_eq n 0xfff1) n (eqb-true n 0) (eqb-true n 0xfff1)

pub info_again : (info : ℕ) → info / 16 ≤ 1 → info % 16 ≤ 4 → bind_number (nat_eq (info / 16) 0) * 16 + kind_number (kind_of (info % 16)) ≡ info
info_again info b k = let p = bind_again (info / 16) b in let q = kind_again (info % 16) k in omega arith

-- each item is a byte
abbrev pub AreBytes : List ℕ → Type 0
AreBytes xs = (i : ℕ) → get_or xs i 0 < 256

pub entry_written : (entry : List ℕ) → AreBytes entry → length entry ≡ 16 → get_or entry 12 0 / 16 ≤ 1 → get_or entry 12 0 % 16 ≤ 4 → get_or entry 13 0 ≡ 0
    → entry ≡ symbol_entry (word_at entry 0) (symbol_in [] entry)
entry_written entry bytes long bind kind other =
    let b0 = bytes 0 in let b1 = bytes 1 in let b2 = bytes 2 in let b3 = bytes 3 in
    let b4 = bytes 4 in let b5 = bytes 5 in let b6 = bytes 6 in let b7 = bytes 7 in
    let b8 = bytes 8 in let b9 = bytes 9 in let b10 = bytes 10 in let b11 = bytes 11 in
    let b14 = bytes 14 in let b15 = bytes 15 in
    let info = info_again (get_or entry 12 0) bind kind in
    let place = place_again (half_at entry 14) in
    text_from_reads entry (symbol_entry (word_at entry 0) (symbol_in [] entry)) long (
      omega arith,
      (
        omega arith,
        (
          omega arith,
          (
            omega arith,
            (
              omega arith,
              (
                omega arith,
                (
                  omega arith,
                  (
                    omega arith,
                    (
                      omega arith,
                      (
                        omega arith,
                        (
                          omega arith,
                          (
                            omega arith,
                            (
                              sym info,
                              (
                                other,
                                (omega arith, (omega arith, tt)),
                              ),
                            ),
                          ),
                        ),
                      ),
                    ),
                  ),
                ),
              ),
            ),
          ),
        ),
      ),
    )
