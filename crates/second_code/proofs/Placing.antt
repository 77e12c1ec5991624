-- Where a unit's text is placed, the code of each of its functions stands with its calls going to what they name.
use Rattle.std.specs.Prelude.{◌≡◌, ◌⊎◌, ℕ, ◌+◌, ◌<◌, ◌≤◌, ◌^◌, List, [], ◌∷◌, ◌++◌, length, take, drop, get_or, All, Option, Some, None, Bool, true, false, codes}
use Rattle.std.specs.Str.{bytes_eq}
use Rattle.std.proofs.Common.{arith, ◌∙◌, ap, sym, refl, subst, append_assoc, append-nil, length-append, inl, inr}
use Rattle.std.proofs.Math.Seq.{take-add, get_or-append_seam}
use Rattle.std.proofs.Math.ListN.{get_or-append}
use Rattle.std.proofs.lemmas.List.{length-drop, length-take, drop-drop, get_or-take, get_or-drop, get_or-append-add, take-append-drop}
use Rattle.std.proofs.lemmas.List.Elements.{All-append, All-cons}
use Rattle.std.proofs.lemmas.Grind.{same_number_lists}
use Rattle.cc_base.specs.Words.{word_bytes, sub32}
use Rattle.second_form.specs.declared.second_items.SmallStmt.{SmallStmt}
use Rattle.second_form.specs.declared.second_items.SmallStmt.TheVariants.{Put, Call, Return}
use Rattle.second_form.specs.declared.second_items.Item.{Item}
use Rattle.second_form.specs.SecondRun.{own, body_or}
use Rattle.i386_steps.specs.laws.StackAndCode.{Here}
use Rattle.second_code.specs.Code.{Places, statement_size, statement_code, body_code, call_code}
use Rattle.second_code.specs.Parts.{Use, open_call, open_statement, open_body, body_size, body_of, text_of, uses_from, unit_uses_from, definition_or, definition_from}
use Rattle.second_code.specs.declared.definitions.Definition.{Definition}
use Rattle.second_code.proofs.PartLemmas.{body_len}
use Rattle.second_code.specs.Placed.{relocated, Covers, IsRelocated, Placed}

-- S + A - P counts from the end of the word
relocated-is : (target place : ℕ) → target < 2 ^ 32 → place + 4 < 2 ^ 32 → relocated target place ≡ sub32 target (place + 4)
relocated-is target place t p = omega (arith, t, p)

pub All-to : {X : Type 0} (P Q : X → Type 0) → ((x : X) → P x → Q x) → (xs : List X) → All P xs → All Q xs
All-to P Q f xs a = λ k d h. f (get_or xs k d) (a k d h)

All-middle : {X : Type 0} (P : X → Type 0) (before : List X) (x : X) (after : List X) → All P (before ++ x ∷ after) → P x
All-middle P before x after a = subst P (get_or-append_seam before x after x) (a (length before) x (omega (arith, length-append before (x ∷ after))))

-- a byte outside the calls' words
apart : (call : Use) (from size k : ℕ) → k < size → (call.place + 4 ≤ from) ⊎ (from + size ≤ call.place) → ¬ Covers (from + k) call
apart call from size k h (inl a) c = let l = c.0 in let m = c.1 in absurd (omega arith)
apart call from size k h (inr a) c = let l = c.0 in let m = c.1 in absurd (omega arith)

-- these bytes stand at a place of the code
abbrev pub On : List ℕ → ℕ → List ℕ → Type 0
On code at xs = take (length xs) (drop at code) ≡ xs

pub on-join : (code xs ys : List ℕ) (at : ℕ) → On code at xs → On code (at + length xs) ys → On code at (xs ++ ys)
on-join code xs ys at s t =
    ap (λ (n : ℕ). take n (drop at code)) (length-append xs ys) ∙ take-add (length xs) (length ys) (drop at code)
    ∙ ap (λ (zs : List ℕ). zs ++ take (length ys) (drop (length xs) (drop at code))) s
    ∙ ap (λ (zs : List ℕ). xs ++ zs) (ap (λ (zs : List ℕ). take (length ys) zs) (drop-drop (length xs) at code) ∙ t)

pub on-here : (code xs : List ℕ) (at : ℕ) → at ≤ length code → On code at xs → (rest : List ℕ) × Here code (134516736 + at) (xs ++ rest)
on-here code xs at inside s =
    let split : take (length xs) (drop at code) ++ drop (length xs) (drop at code) ≡ drop at code = take-append-drop (length xs) (drop at code) in
    let long = length-take at code in (
      drop (length xs) (drop at code),
      record {
        done = take at code;
        whole = sym (take-append-drop at code) ∙ ap (λ (zs : List ℕ). take at code ++ zs) (sym split) ∙ ap (λ (zs : List ℕ). take at code ++ (zs ++ drop (length xs) (drop at code))) s;
        place_is = let same : length (take at code) ≡ at = omega (arith, long, inside) in ap (λ (n : ℕ). 134516736 + n) (sym same);
      },
    )

-- the call is behind the bytes from this place on, so many of them, or before them
abbrev IsClear : ℕ → ℕ → Use → Type 0
IsClear from size call = (call.place + 4 ≤ from) ⊎ (from + size ≤ call.place)

abbrev pub EndsBy : ℕ → Use → Type 0
EndsBy from call = call.place + 4 ≤ from

abbrev pub BeginsFrom : ℕ → Use → Type 0
BeginsFrom from call = from ≤ call.place

clear-before : (from size end : ℕ) → end ≤ from → (calls : List Use) → All (EndsBy end) calls → All (IsClear from size) calls
clear-before from size end l calls a = All-to (EndsBy end) (IsClear from size) (λ call h. inl (let m = h in omega (arith, m, l))) calls a

clear-after : (from size end : ℕ) → from + size ≤ end → (calls : List Use) → All (BeginsFrom end) calls → All (IsClear from size) calls
clear-after from size end l calls a = All-to (BeginsFrom end) (IsClear from size) (λ call h. inr (let m = h in omega (arith, m, l))) calls a

-- the calls of statements whose code begins at a place are behind it, and before their end
pub uses_begin : (at from : ℕ) (body : List SmallStmt) → from ≤ at → All (BeginsFrom from) (uses_from at body)
uses_begin at from [] l = λ k d h. absurd (omega (arith, h))
uses_begin at from (Put n ∷ body) l = All-cons (BeginsFrom from) _ _ (omega (arith, l)) (uses_begin (at + 12) from body (omega (arith, l)))
uses_begin at from (Call name ∷ body) l = All-cons (BeginsFrom from) _ _ (omega (arith, l)) (uses_begin (at + 5) from body (omega (arith, l)))
uses_begin at from (Return n ∷ body) l = uses_begin (at + 6) from body (omega (arith, l))

pub uses_end : (at to : ℕ) (body : List SmallStmt) → at + body_size body ≤ to → All (EndsBy to) (uses_from at body)
uses_end at to [] l = λ k d h. absurd (omega (arith, h))
uses_end at to (Put n ∷ body) l = All-cons (EndsBy to) _ _ (omega (arith, l)) (uses_end (at + 12) to body (omega (arith, l)))
uses_end at to (Call name ∷ body) l = All-cons (EndsBy to) _ _ (omega (arith, l)) (uses_end (at + 5) to body (omega (arith, l)))
uses_end at to (Return n ∷ body) l = uses_end (at + 6) to body (omega (arith, l))

pub unit_uses_begin : (at from : ℕ) (items : List Item) → from ≤ at → All (BeginsFrom from) (unit_uses_from at items)
unit_uses_begin at from [] l = λ k d h. absurd (omega (arith, h))
unit_uses_begin at from (item ∷ items) l =
    All-append (BeginsFrom from) (uses_from at (body_of item.body)) (unit_uses_from (at + body_size (body_of item.body)) items)
    (uses_begin at from (body_of item.body) l) (unit_uses_begin (at + body_size (body_of item.body)) from items (omega (arith, l)))

length-statement_code : (places : Places) (to : List ℕ → ℕ) (e : ℕ) (statement : SmallStmt) → length (statement_code places to e statement) ≡ statement_size statement
length-statement_code places to e (Put n) = refl
length-statement_code places to e (Call name) = refl
length-statement_code places to e (Return n) = refl

pub later : (to more : ℕ) → to ≤ more → (calls : List Use) → All (EndsBy to) calls → All (EndsBy more) calls
later to more l calls a = All-to (EndsBy to) (EndsBy more) (λ call h. let m = h in omega (arith, m, l)) calls a

pub earlier : (from less : ℕ) → less ≤ from → (calls : List Use) → All (BeginsFrom from) calls → All (BeginsFrom less) calls
earlier from less l calls a = All-to (BeginsFrom from) (BeginsFrom less) (λ call h. let m = h in omega (arith, m, l)) calls a

-- where a function stands in a text of this size, and its code
pub record Stands (code : List ℕ) (origin : ℕ) (target : List ℕ → ℕ) (places : Places) (size : ℕ) (definition : Definition) (body : List SmallStmt) : Type 0 where
  pub within : definition.begin ≤ size
  pub there : On code (origin + definition.begin) (body_code places target (134516736 + (origin + definition.begin)) body)

module _ (code : List ℕ) (origin : ℕ) (target : List ℕ → ℕ) (places : Places) (size : ℕ) where
  abbrev Found : Option Definition → Option (List SmallStmt) → Type 0
  Found None None = Unit {0}
  Found None (Some body) = ⊥
  Found (Some definition) None = ⊥
  Found (Some definition) (Some body) = Stands code origin target places size definition body

  found_at : (named local : Bool) (from : ℕ) (body : Option (List SmallStmt)) (definition : Option Definition) (others : Option (List SmallStmt)) → ((statements : List SmallStmt) → body ≡ Some statements → Stands code origin target places size (record { local = local; begin = from; extent = body_size statements }) statements)
      → Found definition others → Found (definition_or named local from body definition) (body_or named body others)
  found_at false local from body definition others here h = h
  found_at true local from None definition others here h = h
  found_at true local from (Some body) definition others here h = here body refl

  found_of : (o : Option Definition) (p : Option (List SmallStmt)) (definition : Definition) (body : List SmallStmt) → Found o p → o ≡ Some definition → p ≡ Some body → Stands code origin target places size definition body
  found_of o p definition body h e f =
      let P : Option Definition → Type 0 = λ x. Found x p in
      let Q : Option (List SmallStmt) → Type 0 = λ x. Found (Some definition) x in
      subst Q f (subst P e h)

module _ (code : List ℕ) (origin : ℕ) (target : List ℕ → ℕ) (text : List ℕ) (calls : List Use) (inside : origin + length text ≤ length code) (words : All (IsRelocated code origin target) calls)
    (others : (k : ℕ) → k < length text → All (λ call. ¬ Covers k call) calls → get_or code (origin + k) 0 ≡ get_or text k 0) where
  -- bytes of the text that no call changes
  pub piece : (pre xs post : List ℕ) (from : ℕ) → from ≡ length pre → text ≡ pre ++ (xs ++ post) → All (IsClear from (length xs)) calls → On code (origin + from) xs
  piece pre xs post from f e clear =
      let size = ap length e ∙ length-append pre (xs ++ post) in let more = length-append xs post in
      let long : length (take (length xs) (drop (origin + from) code)) ≡ length xs = omega (arith, length-take (length xs) (drop (origin + from) code), length-drop (origin + from) code, inside, size, more, f) in
      same_number_lists (take (length xs) (drop (origin + from) code)) xs long
      (λ k h. let l : k < length xs = omega (arith, h, long) in
      get_or-take (length xs) (drop (origin + from) code) k 0 l ∙ get_or-drop (origin + from) code k 0
      ∙ ap (λ (n : ℕ). get_or code n 0) (let n : origin + from + k ≡ origin + (from + k) = omega arith in n)
      ∙ others (from + k) (omega (arith, size, more, f, l)) (All-to (IsClear from (length xs)) (λ call. ¬ Covers (from + k) call) (λ call c. apart call from (length xs) k l c) calls clear)
      ∙ ap (λ (t : List ℕ). get_or t (from + k) 0) e ∙ ap (λ (n : ℕ). get_or (pre ++ (xs ++ post)) (n + k) 0) f
      ∙ get_or-append-add pre (xs ++ post) k 0 ∙ get_or-append xs post 0 k l)

  -- the word of a call
  word : (before after : List Use) (call : Use) (from : ℕ) → call.place ≡ from → calls ≡ before ++ call ∷ after → On code (origin + from) (word_bytes (relocated (target call.callee) (134516736 + (origin + from))))
  word before after call from f e =
      let P : ℕ → Type 0 = λ place. take 4 (drop (origin + place) code) ≡ word_bytes (relocated (target call.callee) (134516736 + (origin + place))) in
      let h : IsRelocated code origin target call = All-middle (IsRelocated code origin target) before call after (let Q : List Use → Type 0 = All (IsRelocated code origin target) in subst Q e words) in
      subst P f h

  around : (before after : List Use) (call : Use) (from size : ℕ) → calls ≡ before ++ call ∷ after → All (IsClear from size) before → IsClear from size call → All (IsClear from size) after → All (IsClear from size) calls
  around before after call from size e b own a =
      let P : List Use → Type 0 = All (IsClear from size) in
      subst P (sym e) (All-append (IsClear from size) before (call ∷ after) b (All-cons (IsClear from size) call after own a))

  module _ (places : Places) (small : (name : List ℕ) → target name < 2 ^ 32) (puts : target (codes "putbyte") ≡ places.putbyte) (short : length code < 16777216) where
    -- a call as it stands in the code
    pub called : (before after : List Use) (call : Use) (from e : ℕ) (pre post : List ℕ) → call.place ≡ from + 1 → e ≡ 134516736 + (origin + from) → from ≡ length pre → text ≡ pre ++ (0xe8 ∷ post) → 4 ≤ length post
        → calls ≡ before ++ call ∷ after → All (EndsBy from) before → All (BeginsFrom (from + 5)) after → On code (origin + from) (call_code (target call.callee) (e + 5))
    called before after call from e pre post p at f t long c b a =
        let n = ap length t ∙ length-append pre (0xe8 ∷ post) in
        let opcode : On code (origin + from) (0xe8 ∷ []) =
        piece pre (0xe8 ∷ []) post from f t (around before after call from 1 c (clear-before from 1 from (omega arith) before b) (inr (omega (arith, p))) (clear-after from 1 (from + 5) (omega arith) after a)) in
        let w : On code (origin + (from + 1)) (word_bytes (relocated (target call.callee) (134516736 + (origin + (from + 1))))) = word before after call (from + 1) p c in
        let word_is : relocated (target call.callee) (134516736 + (origin + (from + 1))) ≡ sub32 (target call.callee) (e + 5) =
        relocated-is (target call.callee) (134516736 + (origin + (from + 1))) (small call.callee) (omega (arith, inside, short, n, f, long))
        ∙ ap (λ (x : ℕ). sub32 (target call.callee) x) (let m : 134516736 + (origin + (from + 1)) + 4 ≡ e + 5 = omega (arith, at) in m) in
        let P : ℕ → Type 0 = λ x. On code (origin + from) ((0xe8 ∷ []) ++ word_bytes x) in
        let moved : origin + (from + 1) ≡ origin + from + 1 = omega arith in
        let Q : ℕ → Type 0 = λ x. On code x (word_bytes (relocated (target call.callee) (134516736 + (origin + (from + 1))))) in
        subst P word_is (on-join code (0xe8 ∷ []) (word_bytes (relocated (target call.callee) (134516736 + (origin + (from + 1))))) (origin + from) opcode (subst Q moved w))

    -- bytes at an equal place
    on_at : (xs : List ℕ) (a b : ℕ) → a ≡ b → On code a xs → On code b xs
    on_at xs a b e s = let P : ℕ → Type 0 = λ x. On code x xs in subst P e s

    -- the text, past some more of it
    more_text : (pre st ob post : List ℕ) → text ≡ pre ++ (st ++ (ob ++ post)) → text ≡ (pre ++ st) ++ (ob ++ post)
    more_text pre st ob post e = e ∙ sym (append_assoc pre st (ob ++ post))

    -- an abbreviated name of what is there of a put
    put_there : (n from e : ℕ) (before after : List Use) (pre post : List ℕ) → e ≡ 134516736 + (origin + from) → from ≡ length pre → text ≡ pre ++ (open_statement (Put n) ++ post)
        → calls ≡ before ++ record { callee = codes "putbyte"; place = from + 7 } ∷ after → All (EndsBy from) before → All (BeginsFrom (from + 12)) after → On code (origin + from) (statement_code places target e (Put n))
    put_there n from e before after pre post at f t c b a =
        let own : Use = record { callee = codes "putbyte"; place = from + 7 } in
        let load : List ℕ = (0xb8 ∷ word_bytes n) ++ (0x50 ∷ []) in
        let pop : List ℕ = 0x58 ∷ [] in
        let first : On code (origin + from) load =
        piece pre load (open_call ++ (0x58 ∷ post)) from f t (around before after own from 6 c (clear-before from 6 from (omega arith) before b) (inr (omega arith)) (clear-after from 6 (from + 12) (omega arith) after a)) in
        let loaded = length-append pre load in
        let call : On code (origin + (from + 6)) (call_code (target (codes "putbyte")) (e + 6 + 5)) =
        called before after own (from + 6) (e + 6) (pre ++ load) (0xfc ∷ 0xff ∷ 0xff ∷ 0xff ∷ 0x58 ∷ post) (omega arith) (omega (arith, at)) (omega (arith, f, loaded))
        (t ∙ sym (append_assoc pre load (open_call ++ (0x58 ∷ post)))) (omega arith) c (All-to (EndsBy from) (EndsBy (from + 6)) (λ x h. let m = h in omega (arith, m)) before b) (All-to (BeginsFrom (from + 12)) (BeginsFrom (from + 6 + 5)) (λ x h. let m = h in omega (arith, m)) after a) in
        let front : List ℕ = load ++ open_call in
        let fronted = length-append pre front in
        let last : On code (origin + (from + 11)) pop =
        piece (pre ++ front) pop post (from + 11) (omega (arith, f, fronted)) (t ∙ sym (append_assoc pre front (0x58 ∷ post)))
        (around before after own (from + 11) 1 c (clear-before (from + 11) 1 from (omega arith) before b) (inl (omega arith)) (clear-after (from + 11) 1 (from + 12) (omega arith) after a)) in
        let whole : On code (origin + from) (load ++ (call_code (target (codes "putbyte")) (e + 6 + 5) ++ pop)) =
        on-join code load (call_code (target (codes "putbyte")) (e + 6 + 5) ++ pop) (origin + from) first
        (on-join code (call_code (target (codes "putbyte")) (e + 6 + 5)) pop (origin + from + 6) (on_at (call_code (target (codes "putbyte")) (e + 6 + 5)) (origin + (from + 6)) (origin + from + 6) (omega arith) call)
        (on_at pop (origin + (from + 11)) (origin + from + 6 + 5) (omega arith) last)) in
        let P : ℕ → Type 0 = λ x. On code (origin + from) (load ++ (call_code x (e + 6 + 5) ++ pop)) in
        let Q : ℕ → Type 0 = λ x. On code (origin + from) (load ++ (call_code places.putbyte x ++ pop)) in
        subst Q (let m : e + 6 + 5 ≡ e + 11 = omega arith in m) (subst P puts whole)

    -- a statement's bytes, and then those of the others
    statement_join : (statement : SmallStmt) (body : List SmallStmt) (from e : ℕ) → On code (origin + from) (statement_code places target e statement)
        → On code (origin + (from + statement_size statement)) (body_code places target (e + statement_size statement) body) → On code (origin + from) (body_code places target e (statement ∷ body))
    statement_join statement body from e s t =
        let n = length-statement_code places target e statement in
        on-join code (statement_code places target e statement) (body_code places target (e + statement_size statement) body) (origin + from) s
        (on_at (body_code places target (e + statement_size statement) body) (origin + (from + statement_size statement)) (origin + from + length (statement_code places target e statement)) (omega (arith, n)) t)

    body_there : (body : List SmallStmt) (from e : ℕ) (before after : List Use) (pre post : List ℕ) → e ≡ 134516736 + (origin + from) → from ≡ length pre → text ≡ pre ++ (open_body body ++ post)
        → calls ≡ before ++ (uses_from from body ++ after) → All (EndsBy from) before → All (BeginsFrom (from + body_size body)) after → On code (origin + from) (body_code places target e body)
    body_there [] from e before after pre post at f t c b a = refl
    body_there (Put n ∷ body) from e before after pre post at f t c b a =
        let own : Use = record { callee = codes "putbyte"; place = from + 7 } in
        let rest : List Use = uses_from (from + 12) body ++ after in
        let tail : All (BeginsFrom (from + 12)) rest = All-append (BeginsFrom (from + 12)) (uses_from (from + 12) body) after (uses_begin (from + 12) (from + 12) body (omega arith)) (earlier (from + (12 + body_size body)) (from + 12) (omega arith) after a) in
        let n1 = length-append pre (open_statement (Put n)) in
        statement_join (Put n) body from e (put_there n from e before rest pre (open_body body ++ post) at f t c b tail)
        (body_there body (from + 12) (e + 12) (before ++ own ∷ []) after (pre ++ open_statement (Put n)) post (omega (arith, at)) (omega (arith, f, n1)) (more_text pre (open_statement (Put n)) (open_body body) post t)
        (c ∙ sym (append_assoc before (own ∷ []) rest)) (All-append (EndsBy (from + 12)) before (own ∷ []) (later from (from + 12) (omega arith) before b) (All-cons (EndsBy (from + 12)) own [] (omega arith) (λ k d h. absurd (omega (arith, h)))))
        (earlier (from + (12 + body_size body)) (from + 12 + body_size body) (omega arith) after a))
    body_there (Call name ∷ body) from e before after pre post at f t c b a =
        let own : Use = record { callee = name; place = from + 1 } in
        let rest : List Use = uses_from (from + 5) body ++ after in
        let tail : All (BeginsFrom (from + 5)) rest = All-append (BeginsFrom (from + 5)) (uses_from (from + 5) body) after (uses_begin (from + 5) (from + 5) body (omega arith)) (earlier (from + (5 + body_size body)) (from + 5) (omega arith) after a) in
        let n1 = length-append pre open_call in
        statement_join (Call name) body from e (called before rest own from e pre (0xfc ∷ 0xff ∷ 0xff ∷ 0xff ∷ (open_body body ++ post)) refl at f t (omega arith) c b tail)
        (body_there body (from + 5) (e + 5) (before ++ own ∷ []) after (pre ++ open_call) post (omega (arith, at)) (omega (arith, f, n1)) (more_text pre open_call (open_body body) post t)
        (c ∙ sym (append_assoc before (own ∷ []) rest)) (All-append (EndsBy (from + 5)) before (own ∷ []) (later from (from + 5) (omega arith) before b) (All-cons (EndsBy (from + 5)) own [] (omega arith) (λ k d h. absurd (omega (arith, h)))))
        (earlier (from + (5 + body_size body)) (from + 5 + body_size body) (omega arith) after a))
    body_there (Return n ∷ body) from e before after pre post at f t c b a =
        let rest : List Use = uses_from (from + 6) body ++ after in
        let tail : All (BeginsFrom (from + 6)) rest = All-append (BeginsFrom (from + 6)) (uses_from (from + 6) body) after (uses_begin (from + 6) (from + 6) body (omega arith)) (earlier (from + (6 + body_size body)) (from + 6) (omega arith) after a) in
        let st : List ℕ = open_statement (Return n) in
        let n1 = length-append pre st in
        let P : List Use → Type 0 = All (IsClear from 6) in
        statement_join (Return n) body from e
        (piece pre st (open_body body ++ post) from f t (subst P (sym c) (All-append (IsClear from 6) before rest (clear-before from 6 from (omega arith) before b) (clear-after from 6 (from + 6) (omega arith) rest tail))))
        (body_there body (from + 6) (e + 6) before after (pre ++ st) post (omega (arith, at)) (omega (arith, f, n1)) (more_text pre st (open_body body) post t)
        c (later from (from + 6) (omega arith) before b) (earlier (from + (6 + body_size body)) (from + 6 + body_size body) (omega arith) after a))

    unit_there : (items : List Item) (from : ℕ) (before after : List Use) (pre post : List ℕ) (name : List ℕ) → from ≡ length pre → text ≡ pre ++ (text_of items ++ post)
        → calls ≡ before ++ (unit_uses_from from items ++ after) → All (EndsBy from) before → All (BeginsFrom (from + length (text_of items))) after → Found code origin target places (length text) (definition_from from items name) (own items name)
    unit_there [] from before after pre post name f t c b a = tt
    unit_there (item ∷ items) from before after pre post name f t c b a =
        let body : List SmallStmt = body_of item.body in
        let size = body_len body in
        let n = ap length t ∙ length-append pre ((open_body body ++ text_of items) ++ post) in
        let n1 = length-append pre (open_body body) in
        let n2 = length-append (open_body body) (text_of items) in
        let uses : List Use = uses_from from body in
        let rest : List Use = unit_uses_from (from + body_size body) items ++ after in
        let split : calls ≡ before ++ (uses ++ rest) = c ∙ ap (λ (us : List Use). before ++ us) (append_assoc uses (unit_uses_from (from + body_size body) items) after) in
        let parts : text ≡ pre ++ (open_body body ++ (text_of items ++ post)) = t ∙ ap (λ (ts : List ℕ). pre ++ ts) (append_assoc (open_body body) (text_of items) post) in
        let tail : All (BeginsFrom (from + body_size body)) rest =
        All-append (BeginsFrom (from + body_size body)) (unit_uses_from (from + body_size body) items) after (unit_uses_begin (from + body_size body) (from + body_size body) items (omega arith))
        (earlier (from + length (open_body body ++ text_of items)) (from + body_size body) (omega (arith, n2, size)) after a) in
        let code_there : On code (origin + from) (body_code places target (134516736 + (origin + from)) body) =
        body_there body from (134516736 + (origin + from)) before rest pre (text_of items ++ post) refl f parts split b tail in
        found_at code origin target places (length text) (bytes_eq item.name name) item.local from item.body (definition_from (from + body_size body) items name) (own items name)
        (λ statements e. record {
          within = omega (arith, n, f);
          there = let P : Option (List SmallStmt) → Type 0 = λ o. On code (origin + from) (body_code places target (134516736 + (origin + from)) (body_of o)) in subst P e code_there;
        })
        (unit_there items (from + body_size body) (before ++ uses) after (pre ++ open_body body) post name (omega (arith, f, n1, size)) (parts ∙ sym (append_assoc pre (open_body body) (text_of items ++ post)))
        (split ∙ sym (append_assoc before uses rest))
        (All-append (EndsBy (from + body_size body)) before uses (later from (from + body_size body) (omega arith) before b) (uses_end from (from + body_size body) body (omega arith)))
        (earlier (from + length (open_body body ++ text_of items)) (from + body_size body + length (text_of items)) (omega (arith, n2, size)) after a))

-- the code of a name's definition, where the unit is placed
pub placed_there : (code : List ℕ) (origin : ℕ) (target : List ℕ → ℕ) (items : List Item) (places : Places) → ((name : List ℕ) → target name < 2 ^ 32) → target (codes "putbyte") ≡ places.putbyte → length code < 16777216 → Placed code origin target items
    → (name : List ℕ) (definition : Definition) (body : List SmallStmt) → definition_from 0 items name ≡ Some definition → own items name ≡ Some body → Stands code origin target places (length (text_of items)) definition body
placed_there code origin target items places small puts short placed name definition body d o =
    let text = text_of items in let calls = unit_uses_from 0 items in
    found_of code origin target places (length text) (definition_from 0 items name) (own items name) definition body
    (unit_there code origin target text calls placed.inside placed.words placed.others places small puts short items 0 [] [] [] [] name refl (sym (append-nil text)) (sym (append-nil calls)) (λ k d h. absurd (omega (arith, h))) (λ k d h. absurd (omega (arith, h))))
    d o
