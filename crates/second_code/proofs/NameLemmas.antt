-- Names in sets, lists and indexes, one step of a loop after the other.
use Rattle.std.proofs.Common.{◌≡◌, ℕ, ◌+◌, ◌<◌, List, [], ◌∷◌, ◌++◌, map, length, drop, get_or, refl, sym, ◌∙◌, ap, Bool, true, false, cond, ◌||◌}
use Rattle.std.specs.Prelude.{codes}
use Rattle.std.specs.Str.{bytes_eq}
use Rattle.std.specs.List.{list_any}
use Rattle.std.proofs.Math.Bool.{or_comm}
use Rattle.std.proofs.lemmas.List.{map-append}
use Rattle.std.proofs.lemmas.List.Folds.{list_any-append}
use Rattle.std.proofs.lemmas.List.Sums.{fold-append}
use Rattle.std.proofs.lemmas.Slice.Eq.{bytes_eq-Decides}
use denote.Ref.{Bor}
use Rattle.indexmap.specs.IndexSet.{insert_key, insert_all}
use Rattle.second_form.specs.declared.second_items.SmallStmt.{SmallStmt}
use Rattle.second_form.specs.declared.second_items.SmallStmt.TheVariants.{Put, Call, Return}
use Rattle.second_code.specs.Parts.{uses_from}
use Rattle.second_code.specs.PartSteps.{bytes_of}
use Rattle.second_code.proofs.PartLemmas.{dropped}
use Rattle.second_code.proofs.Tests.{same_tests}

pub bytes_sym : (xs ys : List ℕ) → bytes_eq xs ys ≡ bytes_eq ys xs
bytes_sym xs ys =
    same_tests (bytes_eq xs ys) (bytes_eq ys xs)
    (λ t. (bytes_eq-Decides ys xs).1 (sym ((bytes_eq-Decides xs ys).0 t))) (λ t. (bytes_eq-Decides xs ys).1 (sym ((bytes_eq-Decides ys xs).0 t)))

or_in : (b x : Bool) → (b ≡ true → x ≡ true) → x ≡ (b || x)
or_in true x h = h refl
or_in false x h = refl

or_false : (b : Bool) → (b || false) ≡ b
or_false true = refl
or_false false = refl

-- sets of borrowed names
any_bytes : (name : List ℕ) (keys : List (Bor (List ℕ))) → list_any (λ key. bytes_eq name key.now) keys ≡ list_any (bytes_eq name) (bytes_of keys)
any_bytes name [] = refl
any_bytes name (key ∷ keys) = ap (λ (b : Bool). bytes_eq name key.now || b) (any_bytes name keys)

bytes_insert : (keys : List (Bor (List ℕ))) (k : Bor (List ℕ)) → bytes_of (insert_key (λ x y. bytes_eq x.now y.now) keys k) ≡ insert_key bytes_eq (bytes_of keys) k.now
bytes_insert keys k = by (list_any (λ key. bytes_eq k.now key.now) keys) (list_any (bytes_eq k.now) (bytes_of keys)) (any_bytes k.now keys)
  where
    by : (a b : Bool) → a ≡ b → bytes_of (cond a keys (keys ++ k ∷ [])) ≡ cond b (bytes_of keys) (bytes_of keys ++ k.now ∷ [])
    by true b e = ap (λ (x : Bool). cond x (bytes_of keys) (bytes_of keys ++ k.now ∷ [])) e
    by false b e = map-append (λ (key : Bor (List ℕ)). key.now) keys (k ∷ []) ∙ ap (λ (x : Bool). cond x (bytes_of keys) (bytes_of keys ++ k.now ∷ [])) e

any_insert : (keys : List (List ℕ)) (k other : List ℕ) → list_any (bytes_eq other) (insert_key bytes_eq keys k) ≡ (bytes_eq k other || list_any (bytes_eq other) keys)
any_insert keys k other = by (list_any (bytes_eq k) keys) refl
  where
    by : (b : Bool) → list_any (bytes_eq k) keys ≡ b → list_any (bytes_eq other) (cond b keys (keys ++ k ∷ [])) ≡ (bytes_eq k other || list_any (bytes_eq other) keys)
    by true e =
        or_in (bytes_eq k other) (list_any (bytes_eq other) keys)
        (λ t. ap (λ (n : List ℕ). list_any (bytes_eq n) keys) (sym ((bytes_eq-Decides k other).0 t)) ∙ e)
    by false e =
        list_any-append (bytes_eq other) keys (k ∷ [])
        ∙ ap (λ (b : Bool). list_any (bytes_eq other) keys || b) (or_false (bytes_eq other k) ∙ bytes_sym other k)
        ∙ or_comm (list_any (bytes_eq other) keys) (bytes_eq k other)

pub noted_keys : (keys new : List (Bor (List ℕ))) (k : Bor (List ℕ)) → new ≡ insert_key (λ x y. bytes_eq x.now y.now) keys k → bytes_of new ≡ insert_key bytes_eq (bytes_of keys) k.now
noted_keys keys new k e = ap bytes_of e ∙ bytes_insert keys k

pub noted_has : (keys new : List (Bor (List ℕ))) (k : Bor (List ℕ)) (other : List ℕ) → new ≡ insert_key (λ x y. bytes_eq x.now y.now) keys k
    → list_any (λ key. bytes_eq other key.now) new ≡ (bytes_eq k.now other || list_any (λ key. bytes_eq other key.now) keys)
noted_has keys new k other e =
    any_bytes other new ∙ ap (list_any (bytes_eq other)) (noted_keys keys new k e) ∙ any_insert (bytes_of keys) k.now other
    ∙ ap (λ (b : Bool). bytes_eq k.now other || b) (sym (any_bytes other keys))

-- what statements call
callees : ℕ → List SmallStmt → List (List ℕ)
callees at body = map (λ call. call.callee) (uses_from at body)

callees_at : (p q : ℕ) (body : List SmallStmt) → callees p body ≡ callees q body
unfolding callees
callees_at p q [] = refl
callees_at p q (Put n ∷ body) = ap (λ (xs : List (List ℕ)). codes "putbyte" ∷ xs) (callees_at (p + 12) (q + 12) body)
callees_at p q (Call name ∷ body) = ap (λ (xs : List (List ℕ)). name ∷ xs) (callees_at (p + 5) (q + 5) body)
callees_at p q (Return n ∷ body) = callees_at (p + 6) (q + 6) body

callees_split : (s : SmallStmt) (rest : List SmallStmt) → callees 0 (s ∷ rest) ≡ callees 0 (s ∷ []) ++ callees 0 rest
unfolding callees
callees_split (Put n) rest = ap (λ (xs : List (List ℕ)). codes "putbyte" ∷ xs) (callees_at 12 0 rest)
callees_split (Call name) rest = ap (λ (xs : List (List ℕ)). name ∷ xs) (callees_at 5 0 rest)
callees_split (Return n) rest = callees_at 6 0 rest

pub callees_more : (old new whole : List (List ℕ)) (body : List SmallStmt) (i : ℕ) (s : SmallStmt) → i < length body → s ≡ get_or body i s
    → insert_all bytes_eq old (map (λ call. call.callee) (uses_from 0 (drop i body))) ≡ whole → new ≡ insert_all bytes_eq old (map (λ call. call.callee) (uses_from 0 (s ∷ [])))
    → insert_all bytes_eq new (map (λ call. call.callee) (uses_from 0 (drop (i + 1) body))) ≡ whole
unfolding callees
callees_more old new whole body i s l is h e =
    let rest = drop (i + 1) body in
    ap (λ (xs : List (List ℕ)). insert_all bytes_eq xs (callees 0 rest)) e ∙ sym (fold-append (insert_key bytes_eq) old (callees 0 (s ∷ [])) (callees 0 rest))
    ∙ ap (λ (xs : List (List ℕ)). insert_all bytes_eq old xs) (sym (callees_split s rest))
    ∙ ap (λ (xs : List SmallStmt). insert_all bytes_eq old (callees 0 xs)) (sym (dropped body i s l is)) ∙ h
