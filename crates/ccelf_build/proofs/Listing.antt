-- Names that are one of some things, in their order, and the first that stops.
use Rattle.std.proofs.Common.{◌≡◌, ◌∷◌, ◌++◌, [], ℕ, List, refl, sym, ap, ◌∙◌, subst}
use Rattle.ccelf_build.specs.Contents.{AreAll, FirstStop}

-- a name is one of those things only
abbrev pub IsOne : {A : Type 0} → (List ℕ → A → Type 0) → Type 0
IsOne {A} is = (name : List ℕ) (a b : A) → is name a → is name b → a ≡ b

-- a name that is one of those things does not stop
abbrev pub Goes : {A : Type 0} → (List ℕ → A → Type 0) → (List ℕ → Type 0) → Type 0
Goes {A} is stops = (name : List ℕ) (a : A) → is name a → stops name → ⊥

pub one_all : {A : Type 0} (is : List ℕ → A → Type 0) → IsOne is → (names : List (List ℕ)) (a b : List A) → AreAll is names a → AreAll is names b → a ≡ b
one_all is one [] [] [] h k = refl
one_all is one [] [] (y ∷ b) h k = absurd k
one_all is one [] (x ∷ a) b h k = absurd h
one_all is one (name ∷ names) [] b h k = absurd h
one_all is one (name ∷ names) (x ∷ a) [] h k = absurd k
one_all is one (name ∷ names) (x ∷ a) (y ∷ b) h k =
    let e : x ≡ y = one name x y h.0 k.0 in let f : a ≡ b = one_all is one names a b h.1 k.1 in cc

-- a name at a place among names that are all something
all_at : {A : Type 0} (is : List ℕ → A → Type 0) (done : List (List ℕ)) (name : List ℕ) (left : List (List ℕ)) (all : List A) → AreAll is (done ++ name ∷ left) all → (a : A) × is name a
all_at is [] name left [] h = absurd h
all_at is [] name left (a ∷ all) h = (a, h.0)
all_at is (x ∷ done) name left [] h = absurd h
all_at is (x ∷ done) name left (a ∷ all) h = all_at is done name left all h.1

pub none_stops : {A : Type 0} (is : List ℕ → A → Type 0) (stops : List ℕ → Type 0) → Goes is stops → (names : List (List ℕ)) (all : List A) → AreAll is names all → FirstStop is names stops → ⊥
none_stops {A} is stops goes names all h f =
    let P : List (List ℕ) → Type 0 = λ ns. AreAll is ns all in
    let there = all_at is f.done f.name f.left all (subst P f.order h) in
    goes f.name there.0 there.1 f.so

head_same : (x y : List ℕ) (xs ys : List (List ℕ)) → x ∷ xs ≡ y ∷ ys → x ≡ y
head_same x y xs ys e = cc

tail_same : (x y : List ℕ) (xs ys : List (List ℕ)) → x ∷ xs ≡ y ∷ ys → xs ≡ ys
tail_same x y xs ys e = cc

-- two first stops are at one name
one_stop : {A : Type 0} (is : List ℕ → A → Type 0) (p q : List ℕ → Type 0) → Goes is p → Goes is q → (d e : List (List ℕ)) (a b : List A) (x y : List ℕ) (l m : List (List ℕ))
    → AreAll is d a → AreAll is e b → p x → q y → d ++ x ∷ l ≡ e ++ y ∷ m → (name : List ℕ) × p name × q name
one_stop is p q gp gq [] [] a b x y l m h k px qy s = (x, px, subst q (sym (head_same x y l m s)) qy)
one_stop is p q gp gq [] (z ∷ e) a [] x y l m h k px qy s = absurd k
one_stop is p q gp gq [] (z ∷ e) a (c ∷ b) x y l m h k px qy s = absurd (gp z c k.0 (subst p (head_same x z l (e ++ y ∷ m) s) px))
one_stop is p q gp gq (w ∷ d) e [] b x y l m h k px qy s = absurd h
one_stop is p q gp gq (w ∷ d) [] (c ∷ a) b x y l m h k px qy s = absurd (gq w c h.0 (subst q (sym (head_same w y (d ++ x ∷ l) m s)) qy))
one_stop is p q gp gq (w ∷ d) (z ∷ e) (c ∷ a) [] x y l m h k px qy s = absurd k
one_stop is p q gp gq (w ∷ d) (z ∷ e) (c ∷ a) (c' ∷ b) x y l m h k px qy s =
    one_stop is p q gp gq d e a b x y l m h.1 k.1 px qy (tail_same w z (d ++ x ∷ l) (e ++ y ∷ m) s)

pub same_stop : {A : Type 0} (is : List ℕ → A → Type 0) (p q : List ℕ → Type 0) → Goes is p → Goes is q → (names : List (List ℕ)) → FirstStop is names p → FirstStop is names q → (name : List ℕ) × p name × q name
same_stop is p q gp gq names f g = one_stop is p q gp gq f.done g.done f.all g.all f.name g.name f.left g.left f.are g.are f.so g.so (sym f.order ∙ g.order)

-- the first stop of names behind one that is something
abbrev pub stop_later : {A : Type 0} (is : List ℕ → A → Type 0) (stops : List ℕ → Type 0) (name : List ℕ) (names : List (List ℕ)) (a : A) → is name a → FirstStop is names stops → FirstStop is (name ∷ names) stops
stop_later is stops name names a h f = record {
  done = name ∷ f.done;
  all = a ∷ f.all;
  are = (h, f.are);
  name = f.name;
  left = f.left;
  order = ap (λ (ns : List (List ℕ)). name ∷ ns) f.order;
  so = f.so;
}

abbrev pub stop_here : {A : Type 0} (is : List ℕ → A → Type 0) (stops : List ℕ → Type 0) (name : List ℕ) (names : List (List ℕ)) → stops name → FirstStop is (name ∷ names) stops
stop_here is stops name names h = record { done = []; all = []; are = tt; name = name; left = names; order = refl; so = h }

-- and what a stop is for
pub stop_for : {A : Type 0} (is : List ℕ → A → Type 0) (p q : List ℕ → Type 0) (names : List (List ℕ)) → ((name : List ℕ) → p name → q name) → FirstStop is names p → FirstStop is names q
stop_for is p q names each f = record { done = f.done; all = f.all; are = f.are; name = f.name; left = f.left; order = f.order; so = each f.name f.so }
