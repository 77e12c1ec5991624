-- Each call's word in a unit's text is -4 until it is relocated.
use Rattle.std.specs.Prelude.{◌≡◌, ℕ, ◌+◌, List, [], ◌∷◌, ◌++◌, length, get_or, All}
use Rattle.std.proofs.Common.{arith, ◌∙◌, ap, sym, refl, subst, append_assoc, append-nil, length-append}
use Rattle.std.proofs.lemmas.List.{get_or-append-add}
use Rattle.std.proofs.lemmas.List.Elements.{All-append, All-cons}
use Rattle.cc_base.specs.Words.{join}
use Rattle.second_form.specs.declared.second_items.SmallStmt.{SmallStmt}
use Rattle.second_form.specs.declared.second_items.SmallStmt.TheVariants.{Put, Call, Return}
use Rattle.second_form.specs.declared.second_items.Item.{Item}
use Rattle.elf_file.specs.Places.{word_at}
use Rattle.second_code.specs.Parts.{Use, open_statement, open_body, body_size, body_of, text_of, uses_from, unit_uses_from}
use Rattle.second_code.proofs.PartLemmas.{body_len}

-- a word behind other bytes
byte_behind : (front xs : List ℕ) (place k : ℕ) → place ≡ length front + k → get_or (front ++ xs) place 0 ≡ get_or xs k 0
byte_behind front xs place k e = ap (λ (n : ℕ). get_or (front ++ xs) n 0) e ∙ get_or-append-add front xs k 0

word_behind : (front xs : List ℕ) (place k : ℕ) → place ≡ length front + k → word_at (front ++ xs) place ≡ word_at xs k
word_behind front xs place k e =
    let a = byte_behind front xs place k e in
    let b = byte_behind front xs (place + 1) (k + 1) (omega (arith, e)) in
    let c = byte_behind front xs (place + 2) (k + 2) (omega (arith, e)) in
    let d = byte_behind front xs (place + 3) (k + 3) (omega (arith, e)) in
    λ i. join (a i) (b i) (c i) (d i)

abbrev pub IsOpen : List ℕ → Use → Type 0
IsOpen text call = word_at text call.place ≡ 0xfffffffc

none : (text : List ℕ) → All (IsOpen text) []
none text k d h = absurd (omega (arith, h))

moved : (front one more behind : List ℕ) (calls : List Use) → All (IsOpen ((front ++ one) ++ (more ++ behind))) calls → All (IsOpen (front ++ ((one ++ more) ++ behind))) calls
moved front one more behind calls a =
    let P : List ℕ → Type 0 = λ text. All (IsOpen text) calls in
    subst P (append_assoc front one (more ++ behind) ∙ ap (λ (xs : List ℕ). front ++ xs) (sym (append_assoc one more behind))) a

body_open : (body : List SmallStmt) (at : ℕ) (front behind : List ℕ) → at ≡ length front → All (IsOpen (front ++ (open_body body ++ behind))) (uses_from at body)
body_open [] at front behind e = none _
body_open (Put n ∷ body) at front behind e =
    let one = open_statement (Put n) in let size = length-append front one in
    All-cons (IsOpen (front ++ ((one ++ open_body body) ++ behind))) _ _ (word_behind front ((one ++ open_body body) ++ behind) (at + 7) 7 (omega (arith, e)) ∙ refl)
    (moved front one (open_body body) behind (uses_from (at + 12) body) (body_open body (at + 12) (front ++ one) behind (omega (arith, e, size))))
body_open (Call name ∷ body) at front behind e =
    let one = open_statement (Call name) in let size = length-append front one in
    All-cons (IsOpen (front ++ ((one ++ open_body body) ++ behind))) _ _ (word_behind front ((one ++ open_body body) ++ behind) (at + 1) 1 (omega (arith, e)) ∙ refl)
    (moved front one (open_body body) behind (uses_from (at + 5) body) (body_open body (at + 5) (front ++ one) behind (omega (arith, e, size))))
body_open (Return n ∷ body) at front behind e =
    let one = open_statement (Return n) in let size = length-append front one in
    moved front one (open_body body) behind (uses_from (at + 6) body) (body_open body (at + 6) (front ++ one) behind (omega (arith, e, size)))

unit_open : (items : List Item) (at : ℕ) (front behind : List ℕ) → at ≡ length front → All (IsOpen (front ++ (text_of items ++ behind))) (unit_uses_from at items)
unit_open [] at front behind e = none _
unit_open (item ∷ items) at front behind e =
    let body = body_of item.body in
    let own = open_body body in let size = length-append front own in let long = body_len body in
    let P : List ℕ → Type 0 = λ text. All (IsOpen text) (uses_from at body) in
    All-append (IsOpen (front ++ ((own ++ text_of items) ++ behind))) (uses_from at body) (unit_uses_from (at + body_size body) items)
    (subst P (ap (λ (xs : List ℕ). front ++ xs) (sym (append_assoc own (text_of items) behind))) (body_open body at front (text_of items ++ behind) e))
    (moved front own (text_of items) behind (unit_uses_from (at + body_size body) items) (unit_open items (at + body_size body) (front ++ own) behind (omega (arith, e, size, long))))

pub calls_open : (items : List Item) → All (IsOpen (text_of items)) (unit_uses_from 0 items)
calls_open items =
    let P : List ℕ → Type 0 = λ text. All (IsOpen text) (unit_uses_from 0 items) in
    subst P (append-nil (text_of items)) (unit_open items 0 [] [] refl)
