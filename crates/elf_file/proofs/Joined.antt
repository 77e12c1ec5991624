-- Lists that are pieces, one after the other.
use Rattle.std.proofs.Common.{◌≡◌, refl, sym, ap, subst, ◌∙◌, ℕ, ◌+◌, List, [], ◌∷◌, ◌++◌, length}
use Rattle.elf_file.specs.Pieces.{joined}
use Rattle.std.proofs.lemmas.List.{append_assoc, append-nil, length-append, take_at, drop_at}
use Rattle.elf_file.specs.Places.{Stands}

pub joined-append : (xs ys : List (List ℕ)) → joined (xs ++ ys) ≡ joined xs ++ joined ys
unfolding joined
joined-append [] ys = refl
joined-append (x ∷ xs) ys = ap (λ (rest : List ℕ). x ++ rest) (joined-append xs ys) ∙ sym (append_assoc x (joined xs) (joined ys))

-- what was made by appending one group of pieces after the other
pub two_more : (old one two : List ℕ) (a b : List (List ℕ)) → one ≡ old ++ joined a → two ≡ one ++ joined b → two ≡ old ++ joined (a ++ b)
two_more old one two a b p q =
    q ∙ ap (λ (xs : List ℕ). xs ++ joined b) p ∙ append_assoc old (joined a) (joined b) ∙ ap (λ (xs : List ℕ). old ++ xs) (sym (joined-append a b))

pub three_more : (old one two three : List ℕ) (a b c : List (List ℕ)) → one ≡ old ++ joined a → two ≡ one ++ joined b → three ≡ two ++ joined c → three ≡ old ++ joined (a ++ (b ++ c))
three_more old one two three a b c p q r = two_more old one three a (b ++ c) p (two_more one two three b c q r)

pub four_more : (old one two three four : List ℕ) (a b c d : List (List ℕ)) → one ≡ old ++ joined a → two ≡ one ++ joined b → three ≡ two ++ joined c → four ≡ three ++ joined d → four ≡ old ++ joined (a ++ (b ++ (c ++ d)))
four_more old one two three four a b c d p q r s = two_more old one four a (b ++ (c ++ d)) p (three_more one two three four b c d q r s)

-- how many bytes the pieces have
abbrev pub total : List (List ℕ) → ℕ
total [] = 0
total (x ∷ xs) = length x + total xs

pub length-joined : (xs : List (List ℕ)) → length (joined xs) ≡ total xs
unfolding joined
length-joined [] = refl
length-joined (x ∷ xs) = length-append x (joined xs) ∙ ap (λ (n : ℕ). length x + n) (length-joined xs)

-- the same for single pieces
single : (old a new : List ℕ) → new ≡ old ++ a → new ≡ old ++ joined (a ∷ [])
unfolding joined
single old a new p = p ∙ ap (λ (xs : List ℕ). old ++ xs) (sym (append-nil a))

pub two_pieces : (old one two a b : List ℕ) → one ≡ old ++ a → two ≡ one ++ b → two ≡ old ++ joined (a ∷ b ∷ [])
two_pieces old one two a b p q = two_more old one two (a ∷ []) (b ∷ []) (single old a one p) (single one b two q)

pub four_pieces : (old one two three four a b c d : List ℕ) → one ≡ old ++ a → two ≡ one ++ b → three ≡ two ++ c → four ≡ three ++ d → four ≡ old ++ joined (a ∷ b ∷ c ∷ d ∷ [])
four_pieces old one two three four a b c d p q r s =
    four_more old one two three four (a ∷ []) (b ∷ []) (c ∷ []) (d ∷ []) (single old a one p) (single one b two q) (single two c three r) (single three d four s)

-- the pieces stand one behind the other from this place on
abbrev pub AllStand : List ℕ → ℕ → List (List ℕ) → Type 0
AllStand file at [] = Unit {0}
AllStand file at (piece ∷ pieces) = Stands file at piece × AllStand file (at + length piece) pieces

all_stand : (front : List ℕ) (pieces : List (List ℕ)) (at : ℕ) → length front ≡ at → AllStand (front ++ joined pieces) at pieces
unfolding joined
all_stand front [] at e = tt
all_stand front (piece ∷ pieces) at e =
    let here : Stands (front ++ (piece ++ joined pieces)) at piece = record { are = rw (drop_at front (piece ++ joined pieces) at e) (take_at piece (joined pieces) (length piece) refl) } in
    let P : List ℕ → Type 0 = λ xs. AllStand xs (at + length piece) pieces in
    (here, subst P (append_assoc front piece (joined pieces)) (all_stand (front ++ piece) pieces (at + length piece) (length-append front piece ∙ ap (λ (n : ℕ). n + length piece) e)))

pub joined_stand : (pieces : List (List ℕ)) → AllStand (joined pieces) 0 pieces
joined_stand pieces = all_stand [] pieces 0 refl
