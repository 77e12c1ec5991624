-- A text has one answer.
use Rattle.std.proofs.Common.{◌≡◌, ℕ, ◌+◌, ◌<◌, ◌≤◌, ◌⊎◌, inl, inr, List, [], ◌∷◌, ◌++◌, length, take, Result, Ok, Err, refl, sym, ap, ◌∙◌, subst, arith, append_assoc, append-nil, length-append}
use Rattle.std.proofs.lemmas.Bool.{cases_lt}
use Rattle.std.proofs.Math.Seq.{take-append_seam}
use Rattle.text_grammar.specs.declared.tree.External.{External}
use Rattle.text_grammar.specs.declared.token_list.Token.{Token}
use Rattle.text_grammar.specs.declared.fault.SyntaxFault.{SyntaxFault}
use Rattle.text_grammar.specs.declared.fault.SyntaxFault.TheVariants as fault
use Rattle.text_grammar.specs.Scanning.{Ending, IsCut, Whole, NoTokenAt, BadLiteralAt, EndsAt, text_max}
use Rattle.text_grammar.specs.laws.Cuts.{one_way}
use Rattle.text_grammar.specs.Grammar.{Symbol, Reads}
use Rattle.text_grammar.specs.laws.DeclarationsRead.{one_unit}
use Rattle.text_parser.specs.Symbols.{symbols_of}
use Rattle.text_parser.specs.Depth.{open_with, row_with, IsDeep, IsShallow, IsFirstDeep}
use Rattle.text_parser.specs.Answer.{Begins, Stops, IsFirstFault, place_of}
use Rattle.text_parser.specs.Parsing.{HasTree, GetsDeep, Breaks, HasAnswer, OneAnswer}

-- of two fronts of a list, what the longer one has behind the shorter
record Behind {A : Type 0} (a b r s : List A) : Type 0 where
  more : List A
  front : b ≡ a ++ more
  rest : r ≡ more ++ s

behind_next : {A : Type 0} (x y : A) (a b r s : List A) → x ≡ y → Behind a b r s → Behind (x ∷ a) (y ∷ b) r s
behind_next x y a b r s e h = record { more = h.more; front = ap (λ z. z ∷ b) (sym e) ∙ ap (λ z. x ∷ z) h.front; rest = h.rest }

behind : {A : Type 0} (a b r s : List A) → a ++ r ≡ b ++ s → length a ≤ length b → Behind a b r s
behind [] b r s e l = record { more = b; front = refl; rest = e }
behind (x ∷ a) [] r s e l = absurd (omega (arith, l))
behind (x ∷ a) (y ∷ b) r s e l =
    let h : x ≡ y = cc in let t : a ++ r ≡ b ++ s = cc in
    behind_next x y a b r s h (behind a b r s t (omega (arith, l)))

-- Token faults

fault_earlier : (end at at' : ℕ) (ts : List Symbol) (f : IsFirstFault Reads end ts at) (g : IsFirstFault Reads end ts at') → length f.before < length g.before → ⊥
fault_earlier end at at' ts f g l =
    let h = behind f.before g.before f.rest g.rest (sym f.split ∙ g.split) (omega (arith, l)) in
    go h.more h.front h.rest
  where
    go : (m : List Symbol) → g.before ≡ f.before ++ m → f.rest ≡ m ++ g.rest → ⊥
    go [] e r = let none : List Symbol = [] in omega (arith, l, ap length e, length-append f.before none)
    go (x ∷ m) e r =
        let stop : Begins Reads (f.before ++ x ∷ []) → ⊥ = subst (λ (z : List Symbol). Stops Reads f.before z) r f.stops in
        let same : g.before ++ g.begins.0 ≡ (f.before ++ x ∷ []) ++ (m ++ g.begins.0) = ap (λ z. z ++ g.begins.0) (e ∙ sym (append_assoc f.before (x ∷ []) m)) ∙ append_assoc (f.before ++ x ∷ []) m g.begins.0 in
        stop (m ++ g.begins.0, g.begins.1, subst (λ (z : List Symbol). Reads z g.begins.1) same g.begins.2)

fault_once : (end at at' : ℕ) (ts : List Symbol) → IsFirstFault Reads end ts at → IsFirstFault Reads end ts at' → at ≡ at'
fault_once end at at' ts f g = go (cases_lt (length f.before) (length g.before)) (cases_lt (length g.before) (length f.before))
  where
    same : (m : List Symbol) → length m ≡ 0 → f.rest ≡ m ++ g.rest → at ≡ at'
    same [] z r = f.place ∙ ap (place_of end) r ∙ sym g.place
    same (x ∷ m) z r = absurd (omega (arith, z))

    go : (length f.before < length g.before) ⊎ (length g.before ≤ length f.before) → (length g.before < length f.before) ⊎ (length f.before ≤ length g.before) → at ≡ at'
    go (inl l) k = absurd (fault_earlier end at at' ts f g l)
    go (inr l) (inl k) = absurd (fault_earlier end at' at ts g f k)
    go (inr l) (inr k) =
        let h = behind f.before g.before f.rest g.rest (sym f.split ∙ g.split) k in
        same h.more (omega (arith, l, k, ap length h.front, length-append f.before h.more)) h.rest

fault_no_tree : (end at : ℕ) (ts : List Symbol) (t : List External) → IsFirstFault Reads end ts at → Reads ts t → ⊥
fault_no_tree end at ts t f d = go f.rest f.split f.stops
  where
    go : (r : List Symbol) → ts ≡ f.before ++ r → Stops Reads f.before r → ⊥
    go [] e stop = stop t (subst (λ (z : List Symbol). Reads z t) (e ∙ append-nil f.before) d)
    go (x ∷ r) e stop = stop (r, t, subst (λ (z : List Symbol). Reads z t) (e ∙ sym (append_assoc f.before (x ∷ []) r)) d)

-- Depth

deep_no_shallow : (front rest : List Symbol) → IsDeep front → IsShallow (front ++ rest) → ⊥
deep_no_shallow front rest (inl d) s = let h = s.brackets (length front) in omega (arith, d, subst (λ (z : List Symbol). open_with z ≤ 200) (take-append_seam front rest) h)
deep_no_shallow front rest (inr d) s = let h = s.rows (length front) in omega (arith, d, subst (λ (z : List Symbol). row_with z ≤ 1000) (take-append_seam front rest) h)

shallow_no_deep : (at : ℕ) (ts : List Symbol) → IsShallow ts → IsFirstDeep ts at → ⊥
shallow_no_deep at ts s f = deep_no_shallow (f.before ++ f.x ∷ []) f.rest f.deep (subst IsShallow (f.split ∙ sym (append_assoc f.before (f.x ∷ []) f.rest)) s)

deep_earlier : (at at' : ℕ) (ts : List Symbol) (f : IsFirstDeep ts at) (g : IsFirstDeep ts at') → length f.before < length g.before → ⊥
deep_earlier at at' ts f g l =
    let h = behind f.before g.before (f.x ∷ f.rest) (g.x ∷ g.rest) (sym f.split ∙ g.split) (omega (arith, l)) in
    go h.more h.front h.rest
  where
    go : (m : List Symbol) → g.before ≡ f.before ++ m → f.x ∷ f.rest ≡ m ++ g.x ∷ g.rest → ⊥
    go [] e r = let none : List Symbol = [] in omega (arith, l, ap length e, length-append f.before none)
    go (x ∷ m) e r =
        let same : f.x ≡ x = cc in
        deep_no_shallow (f.before ++ f.x ∷ []) m f.deep
        (subst IsShallow (e ∙ ap (λ z. f.before ++ z ∷ m) (sym same) ∙ sym (append_assoc f.before (f.x ∷ []) m)) g.shallow)

deep_once : (at at' : ℕ) (ts : List Symbol) → IsFirstDeep ts at → IsFirstDeep ts at' → at ≡ at'
deep_once at at' ts f g = go (cases_lt (length f.before) (length g.before)) (cases_lt (length g.before) (length f.before))
  where
    same : (m : List Symbol) → length m ≡ 0 → f.x ∷ f.rest ≡ m ++ g.x ∷ g.rest → at ≡ at'
    same [] z r = let e : f.x ≡ g.x = cc in f.place ∙ ap (λ (y : Symbol). y.at) e ∙ sym g.place
    same (x ∷ m) z r = absurd (omega (arith, z))

    go : (length f.before < length g.before) ⊎ (length g.before ≤ length f.before) → (length g.before < length f.before) ⊎ (length f.before ≤ length g.before) → at ≡ at'
    go (inl l) k = absurd (deep_earlier at at' ts f g l)
    go (inr l) (inl k) = absurd (deep_earlier at' at ts g f k)
    go (inr l) (inr k) =
        let h = behind f.before g.before (f.x ∷ f.rest) (g.x ∷ g.rest) (sym f.split ∙ g.split) k in
        same h.more (omega (arith, l, k, ap length h.front, length-append f.before h.more)) h.rest

-- Answers

same_tokens : (text : List ℕ) (ts us : List Token) → IsCut 0 text ts Whole → IsCut 0 text us Whole → symbols_of text ts ≡ symbols_of text us
same_tokens text ts us c d = ap (symbols_of text) (one_way 0 text ts us Whole Whole c d).0

other_ending : (text : List ℕ) (ts us : List Token) (e f : Ending) → IsCut 0 text ts e → IsCut 0 text us f → e ≡ f
other_ending text ts us e f c d = (one_way 0 text ts us e f c d).1

too_long : (n : ℕ) → text_max < n → n ≤ text_max → ⊥
too_long n h l = omega (arith, h, l)

same_place : (at at' : ℕ) → NoTokenAt at ≡ NoTokenAt at' → at ≡ at'
same_place at at' h = cc

same_literal : (at at' : ℕ) → BadLiteralAt at ≡ BadLiteralAt at' → at ≡ at'
same_literal at at' h = cc

whole_no_token : (at : ℕ) → Whole ≡ NoTokenAt at → ⊥
whole_no_token at h = cc

whole_bad_literal : (at : ℕ) → Whole ≡ BadLiteralAt at → ⊥
whole_bad_literal at h = cc

token_literal : (at at' : ℕ) → NoTokenAt at ≡ BadLiteralAt at' → ⊥
token_literal at at' h = cc

pub one_answer : (text : List ℕ) (a b : Result (List External) SyntaxFault) → HasAnswer text a → HasAnswer text b → OneAnswer a b
one_answer text (Err fault.Memory) b h g = inl refl
one_answer text (Ok t) (Err fault.Memory) h g = inr (inl refl)
one_answer text (Ok t) (Ok v) h g = inr (inr (ap Ok (one_unit (symbols_of text g.tokens) v t g.reads (subst (λ (z : List Symbol). Reads z t) (same_tokens text h.tokens g.tokens h.cut.cut g.cut.cut) h.reads))))
one_answer text (Ok t) (Err fault.Long) h g = absurd (too_long (length text) g h.cut.short)
one_answer text (Ok t) (Err (fault.Char j)) h g = absurd (whole_no_token j (other_ending text h.tokens g.tokens Whole (NoTokenAt j) h.cut.cut g.cut))
one_answer text (Ok t) (Err (fault.Literal j)) h g = absurd (whole_bad_literal j (other_ending text h.tokens g.tokens Whole (BadLiteralAt j) h.cut.cut g.cut))
one_answer text (Ok t) (Err (fault.Deep j)) h g = absurd (shallow_no_deep j (symbols_of text g.tokens) (subst IsShallow (same_tokens text h.tokens g.tokens h.cut.cut g.cut.cut) h.shallow) g.first)
one_answer text (Ok t) (Err (fault.Token j)) h g = absurd (fault_no_tree (length text) j (symbols_of text g.tokens) t g.first (subst (λ (z : List Symbol). Reads z t) (same_tokens text h.tokens g.tokens h.cut.cut g.cut.cut) h.reads))
one_answer text (Err fault.Long) (Err fault.Memory) h g = inr (inl refl)
one_answer text (Err fault.Long) (Ok v) h g = absurd (too_long (length text) h g.cut.short)
one_answer text (Err fault.Long) (Err fault.Long) h g = inr (inr refl)
one_answer text (Err fault.Long) (Err (fault.Char j)) h g = absurd (too_long (length text) h g.short)
one_answer text (Err fault.Long) (Err (fault.Literal j)) h g = absurd (too_long (length text) h g.short)
one_answer text (Err fault.Long) (Err (fault.Deep j)) h g = absurd (too_long (length text) h g.cut.short)
one_answer text (Err fault.Long) (Err (fault.Token j)) h g = absurd (too_long (length text) h g.cut.short)
one_answer text (Err (fault.Char i)) (Err fault.Memory) h g = inr (inl refl)
one_answer text (Err (fault.Char i)) (Ok v) h g = absurd (whole_no_token i (sym (other_ending text h.tokens g.tokens (NoTokenAt i) Whole h.cut g.cut.cut)))
one_answer text (Err (fault.Char i)) (Err fault.Long) h g = absurd (too_long (length text) g h.short)
one_answer text (Err (fault.Char i)) (Err (fault.Char j)) h g = inr (inr (ap (λ n. Err (fault.Char n)) (same_place i j (other_ending text h.tokens g.tokens (NoTokenAt i) (NoTokenAt j) h.cut g.cut))))
one_answer text (Err (fault.Char i)) (Err (fault.Literal j)) h g = absurd (token_literal i j (other_ending text h.tokens g.tokens (NoTokenAt i) (BadLiteralAt j) h.cut g.cut))
one_answer text (Err (fault.Char i)) (Err (fault.Deep j)) h g = absurd (whole_no_token i (sym (other_ending text h.tokens g.tokens (NoTokenAt i) Whole h.cut g.cut.cut)))
one_answer text (Err (fault.Char i)) (Err (fault.Token j)) h g = absurd (whole_no_token i (sym (other_ending text h.tokens g.tokens (NoTokenAt i) Whole h.cut g.cut.cut)))
one_answer text (Err (fault.Literal i)) (Err fault.Memory) h g = inr (inl refl)
one_answer text (Err (fault.Literal i)) (Ok v) h g = absurd (whole_bad_literal i (sym (other_ending text h.tokens g.tokens (BadLiteralAt i) Whole h.cut g.cut.cut)))
one_answer text (Err (fault.Literal i)) (Err fault.Long) h g = absurd (too_long (length text) g h.short)
one_answer text (Err (fault.Literal i)) (Err (fault.Char j)) h g = absurd (token_literal j i (sym (other_ending text h.tokens g.tokens (BadLiteralAt i) (NoTokenAt j) h.cut g.cut)))
one_answer text (Err (fault.Literal i)) (Err (fault.Literal j)) h g = inr (inr (ap (λ n. Err (fault.Literal n)) (same_literal i j (other_ending text h.tokens g.tokens (BadLiteralAt i) (BadLiteralAt j) h.cut g.cut))))
one_answer text (Err (fault.Literal i)) (Err (fault.Deep j)) h g = absurd (whole_bad_literal i (sym (other_ending text h.tokens g.tokens (BadLiteralAt i) Whole h.cut g.cut.cut)))
one_answer text (Err (fault.Literal i)) (Err (fault.Token j)) h g = absurd (whole_bad_literal i (sym (other_ending text h.tokens g.tokens (BadLiteralAt i) Whole h.cut g.cut.cut)))
one_answer text (Err (fault.Deep i)) (Err fault.Memory) h g = inr (inl refl)
one_answer text (Err (fault.Deep i)) (Ok v) h g = absurd (shallow_no_deep i (symbols_of text h.tokens) (subst IsShallow (sym (same_tokens text h.tokens g.tokens h.cut.cut g.cut.cut)) g.shallow) h.first)
one_answer text (Err (fault.Deep i)) (Err fault.Long) h g = absurd (too_long (length text) g h.cut.short)
one_answer text (Err (fault.Deep i)) (Err (fault.Char j)) h g = absurd (whole_no_token j (other_ending text h.tokens g.tokens Whole (NoTokenAt j) h.cut.cut g.cut))
one_answer text (Err (fault.Deep i)) (Err (fault.Literal j)) h g = absurd (whole_bad_literal j (other_ending text h.tokens g.tokens Whole (BadLiteralAt j) h.cut.cut g.cut))
one_answer text (Err (fault.Deep i)) (Err (fault.Deep j)) h g = inr (inr (ap (λ n. Err (fault.Deep n)) (deep_once i j (symbols_of text g.tokens) (subst (λ (z : List Symbol). IsFirstDeep z i) (same_tokens text h.tokens g.tokens h.cut.cut g.cut.cut) h.first) g.first)))
one_answer text (Err (fault.Deep i)) (Err (fault.Token j)) h g = absurd (shallow_no_deep i (symbols_of text h.tokens) (subst IsShallow (sym (same_tokens text h.tokens g.tokens h.cut.cut g.cut.cut)) g.shallow) h.first)
one_answer text (Err (fault.Token i)) (Err fault.Memory) h g = inr (inl refl)
one_answer text (Err (fault.Token i)) (Ok v) h g = absurd (fault_no_tree (length text) i (symbols_of text h.tokens) v h.first (subst (λ (z : List Symbol). Reads z v) (sym (same_tokens text h.tokens g.tokens h.cut.cut g.cut.cut)) g.reads))
one_answer text (Err (fault.Token i)) (Err fault.Long) h g = absurd (too_long (length text) g h.cut.short)
one_answer text (Err (fault.Token i)) (Err (fault.Char j)) h g = absurd (whole_no_token j (other_ending text h.tokens g.tokens Whole (NoTokenAt j) h.cut.cut g.cut))
one_answer text (Err (fault.Token i)) (Err (fault.Literal j)) h g = absurd (whole_bad_literal j (other_ending text h.tokens g.tokens Whole (BadLiteralAt j) h.cut.cut g.cut))
one_answer text (Err (fault.Token i)) (Err (fault.Deep j)) h g = absurd (shallow_no_deep j (symbols_of text g.tokens) (subst IsShallow (same_tokens text h.tokens g.tokens h.cut.cut g.cut.cut) h.shallow) g.first)
one_answer text (Err (fault.Token i)) (Err (fault.Token j)) h g = inr (inr (ap (λ n. Err (fault.Token n)) (fault_once (length text) i j (symbols_of text g.tokens) (subst (λ (z : List Symbol). IsFirstFault Reads (length text) z i) (same_tokens text h.tokens g.tokens h.cut.cut g.cut.cut) h.first) g.first)))
