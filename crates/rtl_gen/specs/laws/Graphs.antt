-- Graphs as they grow: nodes are laid behind those that are there.
use Rattle.std.specs.Prelude.{◌≡◌, ℕ, ◌<◌, ◌≤◌, leb, cond, true, false, Bool, List, [], ◌∷◌, ◌++◌, length, set, get_or, Option, Some, None, slice_get}
use Rattle.std.proofs.Common.{zero, suc, ◌∙◌, ap, refl, arith}
use Rattle.std.proofs.lemmas.Bool.{leb-true, le-leb}
use Rattle.rtl_lang.specs.declared.syntax.RtlNode.{RtlNode}
use Rattle.rtl_gen.specs.Trees.{Tree, Constant, Temporary, Address, Local, Load, Unary, Binary, Code, Skip, Then, Set, Store, Call, If, Loop, Block, Exit, Return}
use Rattle.rtl_gen.specs.Translation.{takes_one}
use Rattle.rtl_gen.specs.Relation.{Graph, operand, Zero, Into, Operand, Operands, Returns, Stands}

-- What stands in a graph stands in one that has more

abbrev pub Within : Graph → Graph → Type 0
Within f g = (i : ℕ) (x : RtlNode) → f i ≡ Some x → g i ≡ Some x

operand_more : (base : ℕ) (e : Tree) (p q : ℕ) (P Q : Type 0) → (P → Q) → operand base e p q P → operand base e p q Q
operand_more base (Constant n) p q P Q f h = f h
operand_more base (Temporary j) p q P Q f h = h
operand_more base (Address symbol offset) p q P Q f h = f h
operand_more base (Local index) p q P Q f h = f h
operand_more base (Load w x) p q P Q f h = f h
operand_more base (Unary op x) p q P Q f h = f h
operand_more base (Binary op x y) p q P Q f h = f h

module _ (f g : Graph) (within : Within f g) (base : ℕ) where
  zero_more : (one : Bool) (k p q : ℕ) → Zero f one k p q → Zero g one k p q
  zero_more true k p q h = h
  zero_more false k p q h = within p _ h

  pub into_more : (e : Tree) (k d p q : ℕ) → Into f base e k d p q → Into g base e k d p q
  into_more (Constant n) k d p q h = within p _ h
  into_more (Temporary j) k d p q h = (h.0, within p _ h.1)
  into_more (Address symbol offset) k d p q h = within p _ h
  into_more (Local index) k d p q h = within p _ h
  into_more (Load w x) k d p q h = (h.0, operand_more base x p h.0 _ _ (into_more x k k p h.0) h.1, within h.0 _ h.2)
  into_more (Unary op x) k d p q h = (h.0, operand_more base x p h.0 _ _ (into_more x k k p h.0) h.1, (h.2.0, zero_more (takes_one op) (suc k) h.0 h.2.0 h.2.1, within h.2.0 _ h.2.2))
  into_more (Binary op x y) k d p q h = (h.0, operand_more base x p h.0 _ _ (into_more x k k p h.0) h.1, (h.2.0, operand_more base y h.0 h.2.0 _ _ (into_more y (suc k) (suc k) h.0 h.2.0) h.2.1, within h.2.0 _ h.2.2))

  pub one_more : (e : Tree) (k p q : ℕ) → Operand f base e k p q → Operand g base e k p q
  one_more e k p q h = operand_more base e p q (Into f base e k k p q) (Into g base e k k p q) (into_more e k k p q) h

  pub all_more : (xs : List Tree) (k p q : ℕ) → Operands f base xs k p q → Operands g base xs k p q
  all_more [] k p q h = h
  all_more (x ∷ xs) k p q h = (h.0, one_more x k p h.0 h.1, all_more xs (suc k) h.0 q h.2)

  pub returns_more : (e : Option Tree) (p : ℕ) → Returns f base e p → Returns g base e p
  returns_more None p h = within p _ h
  returns_more (Some e) p h = (h.0, one_more e base p h.0 h.1, within h.0 _ h.2)

  pub stands_more : (end : ℕ) (c : Code) (p q : ℕ) (es : List ℕ) → Stands f base end c p q es → Stands g base end c p q es
  stands_more end Skip p q es h = h
  stands_more end (Then a b) p q es h = (h.0, stands_more end a p h.0 es h.1, stands_more end b h.0 q es h.2)
  stands_more end (Set j e) p q es h = into_more e base j p q h
  stands_more end (Store w a b) p q es h = (h.0, one_more a base p h.0 h.1, (h.2.0, one_more b (suc base) h.0 h.2.0 h.2.1, within h.2.0 _ h.2.2))
  stands_more end (Call to callee xs) p q es h = (h.0, all_more xs base p h.0 h.1, within h.0 _ h.2)
  stands_more end (If e a b) p q es h = (h.0, one_more e base p h.0 h.1, (h.2.0, h.2.1, within h.0 _ h.2.2, stands_more end a h.2.0 q es h.2.3, stands_more end b h.2.1 q es h.2.4))
  stands_more end (Loop a) p q es h = (h.0, within p _ h.1, stands_more end a h.0 p es h.2)
  stands_more end (Block a) p q es h = stands_more end a p q (q ∷ es) h
  stands_more end (Exit n) p q es h = h
  stands_more end (Return e) p q es h = returns_more e p h

-- The nodes from a number on

abbrev pub later : ℕ → List RtlNode → Graph
later b g i = cond (leb b i) (slice_get g i) None

by_bool : (b : ℕ) (g : List RtlNode) (i : ℕ) (x : RtlNode) (t : Bool) → leb b i ≡ t → cond t (slice_get g i) None ≡ Some x → (b ≤ i) × (slice_get g i ≡ Some x)
by_bool b g i x true e k = (leb-true b i e, k)
by_bool b g i x false e k = cc

pub later_in : (b : ℕ) (g : List RtlNode) (i : ℕ) (x : RtlNode) → later b g i ≡ Some x → (b ≤ i) × (slice_get g i ≡ Some x)
later_in b g i x h = by_bool b g i x (leb b i) refl h

pub in_later : (b : ℕ) (g : List RtlNode) (i : ℕ) (x : RtlNode) → b ≤ i → slice_get g i ≡ Some x → later b g i ≡ Some x
in_later b g i x le h = ap (λ t. cond t (slice_get g i) None) (le-leb b i le) ∙ h

-- Lists of nodes

pub get_push : (g : List RtlNode) (x : RtlNode) → slice_get (g ++ x ∷ []) (length g) ≡ Some x
get_push [] x = refl
get_push (y ∷ g) x = get_push g x

pub get_kept : (g : List RtlNode) (y : RtlNode) (i : ℕ) (x : RtlNode) → slice_get g i ≡ Some x → slice_get (g ++ y ∷ []) i ≡ Some x
get_kept [] y i x h = cc
get_kept (z ∷ g) y zero x h = h
get_kept (z ∷ g) y (suc i) x h = get_kept g y i x h

pub length_push : (g : List RtlNode) (y : RtlNode) → length (g ++ y ∷ []) ≡ suc (length g)
length_push [] y = refl
length_push (z ∷ g) y = ap suc (length_push g y)

pub get_below : (g : List RtlNode) (i : ℕ) (x : RtlNode) → slice_get g i ≡ Some x → i < length g
get_below [] i x h = cc
get_below (y ∷ g) zero x h = omega arith
get_below (y ∷ g) (suc i) x h = let r : i < length g = get_below g i x h in omega (arith, r)

pub set_get : (g : List RtlNode) (i : ℕ) (x : RtlNode) → i < length g → slice_get (set g i x) i ≡ Some x
set_get [] i x h = absurd (omega (arith, h))
set_get (y ∷ g) zero x h = refl
set_get (y ∷ g) (suc i) x h = set_get g i x (omega (arith, h))

pub set_others : (g : List RtlNode) (i j : ℕ) (x : RtlNode) → (j ≡ i → ⊥) → slice_get (set g i x) j ≡ slice_get g j
set_others [] i j x ne = refl
set_others (y ∷ g) zero zero x ne = absurd (ne refl)
set_others (y ∷ g) zero (suc j) x ne = refl
set_others (y ∷ g) (suc i) zero x ne = refl
set_others (y ∷ g) (suc i) (suc j) x ne = set_others g i j x (λ e. ne (ap suc e))

pub set_length : (g : List RtlNode) (i : ℕ) (x : RtlNode) → length (set g i x) ≡ length g
set_length [] i x = refl
set_length (y ∷ g) zero x = refl
set_length (y ∷ g) (suc i) x = ap suc (set_length g i x)

-- Nodes are only added

pub record Added (old new : List RtlNode) : Type 0 where
  pub keeps : (i : ℕ) (x : RtlNode) → slice_get old i ≡ Some x → slice_get new i ≡ Some x
  pub longer : length old ≤ length new

pub added_none : (g : List RtlNode) → Added g g
added_none g = record { keeps = λ i x h. h; longer = omega arith }

pub added_then : (f g h : List RtlNode) → Added f g → Added g h → Added f h
added_then f g h a b = record { keeps = λ i x e. b.keeps i x (a.keeps i x e); longer = let p = a.longer in let r = b.longer in omega (arith, p, r) }

pub added_push : (g : List RtlNode) (x : RtlNode) → Added g (g ++ x ∷ [])
added_push g x = record { keeps = get_kept g x; longer = let e = length_push g x in omega (arith, e) }

-- what stands among the nodes that were added stands among all that were added since
pub within_later : (b c : ℕ) (f g : List RtlNode) → c ≤ b → Added f g → Within (later b f) (later c g)
within_later b c f g le a i x h =
    let k = later_in b f i x h in
    let l : b ≤ i = k.0 in
    in_later c g i x (omega (arith, l, le)) (a.keeps i x k.1)

pub pushed : (g h : List RtlNode) (x : RtlNode) → Added (g ++ x ∷ []) h → later (length g) h (length g) ≡ Some x
pushed g h x a = in_later (length g) h (length g) x (omega arith) (a.keeps (length g) x (get_push g x))

pub widen : (g : List RtlNode) (b c i : ℕ) (x : RtlNode) → c ≤ b → later b g i ≡ Some x → later c g i ≡ Some x
widen g b c i x le h = within_later b c g g le (added_none g) i x h
