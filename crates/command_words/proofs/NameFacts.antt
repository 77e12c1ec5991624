-- Names that are noted one after the other.
use Rattle.std.proofs.Common.{◌≡◌, ◌≢◌, ℕ, ◌+◌, ◌<◌, ◌≤◌, List, [], ◌∷◌, ◌++◌, map, length, drop, get_or, refl, sym, ◌∙◌, ap, subst, arith, Bool, true, false, ◌||◌, length-append, append_assoc, take}
use Rattle.std.specs.Prelude.{All, not, IsTrue}
use Rattle.std.specs.Bool.{OnTrue}
use Rattle.std.specs.Str.{bytes_eq}
use Rattle.std.specs.List.{list_any}
use Rattle.std.proofs.Math.ListN.{get_or-append}
use Rattle.std.proofs.Math.Seq.{get_or-append_seam}
use Rattle.std.proofs.lemmas.List.{drop_more, get_or-map, length-map, map_more, take_all}
use Rattle.std.proofs.lemmas.List.Elements.{All-push, All-nil}
use Rattle.std.proofs.lemmas.List.Folds.{list_any_at, Any-from_list_any}
use Rattle.std.proofs.lemmas.List.Quantifiers.{all_pairs_push}
use Rattle.std.proofs.lemmas.Slice.Eq.{bytes_eq-Decides}
use denote.Ref.{Bor}
use Rattle.command_words.specs.Commands.{AreNames}
use Rattle.command_words.specs.Orders.{bytes_of}

-- a test of borrowed names is one of their bytes
any_bytes : (name : List ℕ) (keys : List (Bor (List ℕ))) → list_any (λ key. bytes_eq name key.now) keys ≡ list_any (bytes_eq name) (bytes_of keys)
any_bytes name [] = refl
any_bytes name (key ∷ keys) = ap (λ (b : Bool). bytes_eq name key.now || b) (any_bytes name keys)

-- one more name that is not there
more_names : (seen : List (List ℕ)) (name : List ℕ) → AreNames seen → name ≢ [] → list_any (bytes_eq name) seen ≡ false → AreNames (seen ++ name ∷ [])
more_names seen name are some new = record {
  some = All-push (λ n. n ≢ []) seen name are.some some;
  differ = all_pairs_push (λ a b. a ≢ b) seen name are.differ (λ k d l e.
      let found : list_any (bytes_eq name) seen ≡ true = list_any_at (bytes_eq name) seen k d l ((bytes_eq-Decides name (get_or seen k d)).1 (sym e)) in
      let clash : true ≡ false = sym found ∙ new in absurd (cc (clash)));
}

-- the last of some names differs from the others
last_new : (seen : List (List ℕ)) (name : List ℕ) (b : Bool) → list_any (bytes_eq name) seen ≡ b → AreNames (seen ++ name ∷ []) → b ≡ false
last_new seen name false e are = refl
last_new seen name true e are =
    let at = Any-from_list_any (bytes_eq name) seen e in
    let long = length-append seen (name ∷ []) in
    absurd (are.differ at.0 (length seen) at.1 (at.2) (omega (arith, long))
    (get_or-append seen (name ∷ []) at.1 at.0 at.2 ∙ at.3 ∙ sym ((bytes_eq-Decides name at.1).0 at.4) ∙ sym (get_or-append_seam seen name [] at.1)))

-- whether a name is new in a set is whether it may stand beside the names there
pub new_fits : (keys : List (Bor (List ℕ))) (name : List ℕ) (new : Bool) → AreNames (bytes_of keys) → name ≢ [] → new ≡ not (list_any (λ key. bytes_eq name key.now) keys)
    → (IsTrue new → AreNames (bytes_of keys ++ name ∷ [])) × (AreNames (bytes_of keys ++ name ∷ []) → IsTrue new)
new_fits keys name new are some e = by (list_any (bytes_eq name) (bytes_of keys)) refl (e ∙ ap not (any_bytes name keys))
  where
    by : (b : Bool) → list_any (bytes_eq name) (bytes_of keys) ≡ b → new ≡ not (list_any (bytes_eq name) (bytes_of keys)) → (IsTrue new → AreNames (bytes_of keys ++ name ∷ [])) × (AreNames (bytes_of keys ++ name ∷ []) → IsTrue new)
    by true h f = (let n : new ≡ false = f ∙ ap not h in
        ((λ t. absurd (let clash : true ≡ false = sym t ∙ n in cc clash)), (λ names. let clash : true ≡ false = sym h ∙ last_new (bytes_of keys) name _ refl names in absurd (cc clash))))
    by false h f = (let n : new ≡ true = f ∙ ap not h in
        ((λ t. more_names (bytes_of keys) name are some h), (λ names. n)))

-- the first of some names
pub names_front : (xs ys : List (List ℕ)) → AreNames (xs ++ ys) → AreNames xs
names_front xs ys are = record {
  some = λ k d l e. are.some k d (omega (arith, l, length-append xs ys)) (get_or-append xs ys d k l ∙ e);
  differ = λ i j d l m e. are.differ i j d l (omega (arith, m, length-append xs ys)) (get_or-append xs ys d i (omega (arith, l, m)) ∙ e ∙ sym (get_or-append xs ys d j m));
}

-- the rest of some texts from an item on
pub texts_left : {X : Type 0} (f : X → List ℕ) (xs : List X) (i : ℕ) (x : X) (name : List ℕ) → i < length xs → x ≡ get_or xs i x → name ≡ f x → map f (drop i xs) ≡ name ∷ map f (drop (i + 1) xs)
texts_left {X} f xs i x name l at e = ap (map f) (drop_more xs i x l) ∙ ap (λ (y : X). f y ∷ map f (drop (i + 1) xs)) (sym at) ∙ ap (λ (n : List ℕ). n ∷ map f (drop (i + 1) xs)) (sym e)

-- what holds of all texts holds of one
pub text_at : {X : Type 0} (P : List ℕ → Type 0) (f : X → List ℕ) (xs : List X) (i : ℕ) (x : X) (name : List ℕ) → i < length xs → x ≡ get_or xs i x → name ≡ f x → All P (map f xs) → P name
text_at P f xs i x name l at e all = subst P (get_or-map f xs i x name l ∙ ap f (sym at) ∙ sym e) (all i name (omega (arith, l, length-map xs f)))

-- and one more
pub one_more : {X : Type 0} (P : List ℕ → Type 0) (f : X → List ℕ) (xs : List X) (i : ℕ) (x : X) (name : List ℕ) → i < length xs → x ≡ get_or xs i x → name ≡ f x → All P (map f (take i xs)) → P name → All P (map f (take (i + 1) xs))
one_more P f xs i x name l at e all p =
    subst (All P) (sym (map_more f xs i x l)) (All-push P (map f (take i xs)) (f (get_or xs i x)) all (subst P (e ∙ ap f at) p))

-- where all names that are left may stand there, the next one may
pub next_fits : {X : Type 0} (f : X → List ℕ) (whole seen : List (List ℕ)) (xs : List X) (i : ℕ) (x : X) (name : List ℕ) → i < length xs → x ≡ get_or xs i x → name ≡ f x → seen ++ map f (drop i xs) ≡ whole → AreNames whole → AreNames (seen ++ name ∷ [])
next_fits f whole seen xs i x name l at e left are =
    names_front (seen ++ name ∷ []) (map f (drop (i + 1) xs))
    (subst AreNames (sym left ∙ ap (λ (ns : List (List ℕ)). seen ++ ns) (texts_left f xs i x name l at e) ∙ sym (append_assoc seen (name ∷ []) (map f (drop (i + 1) xs)))) are)

-- two names
pub two_names : (a b : List ℕ) → a ≢ [] → b ≢ [] → a ≢ b → AreNames (a ∷ b ∷ [])
two_names a b p q r = more_names (a ∷ []) b (more_names [] a (record { some = All-nil (λ n. n ≢ []); differ = λ i j d l m. absurd (omega (arith, m)) }) p refl) q (unlike (bytes_eq b a) refl)
  where
    unlike : (t : Bool) → bytes_eq b a ≡ t → (bytes_eq b a || false) ≡ false
    unlike false e = ap (λ (x : Bool). x || false) e
    unlike true e = absurd (r (sym ((bytes_eq-Decides b a).0 e)))

-- what holds of the texts up to the last holds of all
pub all_texts : {X : Type 0} (P : List ℕ → Type 0) (f : X → List ℕ) (xs : List X) (i : ℕ) → length xs ≤ i → All P (map f (take i xs)) → All P (map f xs)
all_texts {X} P f xs i l all = subst (λ ys. All P (map f ys)) (take_all i xs l) all

-- the first of the names in a new set
pub first_fits : (keys : List (Bor (List ℕ))) (text image : List ℕ) (rest : List (List ℕ)) → keys ≡ [] → text ≡ image → AreNames (image ∷ rest) → AreNames (bytes_of keys ++ text ∷ [])
first_fits keys text image rest e is are =
    subst (λ ks. AreNames (bytes_of ks ++ text ∷ [])) (sym e) (subst (λ name. AreNames (name ∷ [])) (sym is) (names_front (image ∷ []) rest are))

-- and those that follow
pub second_fit : (empty keys : List (Bor (List ℕ))) (text image : List ℕ) (names more : List (List ℕ)) (new : Bool) → empty ≡ [] → text ≡ image → new ≡ true
    → OnTrue new (bytes_of keys ≡ bytes_of empty ++ text ∷ []) → AreNames (image ∷ (names ++ more)) → AreNames (bytes_of keys ++ names)
second_fit empty keys text image names more new e is t noted are =
    let one : bytes_of keys ≡ bytes_of empty ++ text ∷ [] = subst (λ b. OnTrue b (bytes_of keys ≡ bytes_of empty ++ text ∷ [])) t noted in
    let alone : bytes_of keys ≡ image ∷ [] = one ∙ ap (λ (ks : List (Bor (List ℕ))). bytes_of ks ++ text ∷ []) e ∙ ap (λ (name : List ℕ). name ∷ []) is in
    subst (λ ks. AreNames (ks ++ names)) (sym alone) (names_front (image ∷ names) more are)
