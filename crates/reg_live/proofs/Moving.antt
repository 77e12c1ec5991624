-- From what is added to rows that stay sound.
use Rattle.std.specs.Prelude.{◌≡◌, ℕ, suc, ◌+◌, ◌<◌, ◌⊎◌, ◌||◌, Bool, true, false, List, ◌++◌}
use Rattle.std.specs.List.{Contains}
use Rattle.std.proofs.Common.{refl, sym, ◌∙◌, subst, arith, inl, inr}
use Rattle.flow_walks.specs.Flows.{Flow, Routine}
use Rattle.flow_walks.specs.Liveness.{IsLive}
use Rattle.flow_walks.specs.Lists.{IsPlace}
use Rattle.flow_walks.specs.laws.Cover.{node_is_place}
use Rattle.bit_rows.specs.Rows.{Rows, height}
use Rattle.reg_live.specs.Sweeps.{Fits, IsSound, IsAsked, IsSettled, Adds, AskedOfAny, Moves}
use Rattle.reg_live.proofs.Clear.{same_or_not}
use Rattle.reg_live.proofs.Adding.{changes_then}

-- rows that fit still do
pub fits_still : (r : Routine ℕ) (old new : Rows) → height new ≡ height old → new.width ≡ old.width → Fits r old → Fits r new
fits_still r old new high wide f = record {
  high = high ∙ f.high;
  wide = λ n flow k here read. let h : k < old.width = f.wide n flow k here read in omega arith;
}

-- what is asked at a node that follows a sound place is live there
asked_is_live : (r : Routine ℕ) (rows : Rows) (place : Flow ℕ) (m k : ℕ) → IsSound r rows → Contains place.next m → IsAsked r rows m k → IsLive r place k
asked_is_live r rows place m k sound next (flow, here, inl read) = (m, next, (0, (flow, here, read)))
asked_is_live r rows place m k sound next (flow, here, inr (listed, unwritten)) =
    let live = sound m flow k (node_is_place r m flow here) listed in
    (m, next, (suc live.2.0, (flow, here, unwritten, (live.0, live.1, live.2.1))))

same_place : (r : Routine ℕ) (n : ℕ) (place other : Flow ℕ) → IsPlace r n place → IsPlace r n other → place ≡ other
same_place r n place other e f = cc

-- what is asked at nodes that follow a place comes into its row
pub asked_sound : (r : Routine ℕ) (old new : Rows) (row : ℕ) (nodes : List ℕ) (changed : Bool) → ((place : Flow ℕ) (m : ℕ) → IsPlace r row place → Contains nodes m → Contains place.next m) → Adds (AskedOfAny r old row nodes) old new changed → IsSound r old → IsSound r new
asked_sound r old new row nodes changed follow a sound n place k here set = elim (a.only n k set) [
  | inl was ↦ sound n place k here was
  | inr (m, member, (same, asked)) ↦
      let at_row : IsPlace r row place = let P : ℕ → Type 0 = λ j. IsPlace r j place in subst P same here in
      asked_is_live r old place m k sound (follow place m at_row member) asked
]

-- two parts of the nodes that follow
pub gather_moves : (r : Routine ℕ) (old mid new : Rows) (row : ℕ) (xs ys : List ℕ) (a b : Bool) → ((place : Flow ℕ) → IsPlace r row place → xs ++ ys ≡ place.next) → ((m : ℕ) → Contains xs m → Contains (xs ++ ys) m) → ((m : ℕ) → Contains ys m → Contains (xs ++ ys) m) → Adds (AskedOfAny r old row xs) old mid a → Adds (AskedOfAny r mid row ys) mid new b → Moves r old new (a || b)
gather_moves r old mid new row xs ys a b is left right x y =
    let follow_x : (place : Flow ℕ) (m : ℕ) → IsPlace r row place → Contains xs m → Contains place.next m = λ place m here member. let P : List ℕ → Type 0 = λ list. Contains list m in subst P (is place here) (left m member) in
    let follow_y : (place : Flow ℕ) (m : ℕ) → IsPlace r row place → Contains ys m → Contains place.next m = λ place m here member. let P : List ℕ → Type 0 = λ list. Contains list m in subst P (is place here) (right m member) in
    let c = changes_then old mid new a b x.still y.still x.falls y.falls in
    record {
      high = y.high ∙ x.high;
      wide = y.wide ∙ x.wide;
      sound = λ sound. asked_sound r mid new row ys b follow_y y (asked_sound r old mid row xs a follow_x x sound);
      still = c.0;
      falls = c.1;
    }

or_false : (a b : Bool) → (a || b) ≡ false → (a ≡ false) × (b ≡ false)
or_false false b e = (refl, e)
or_false true b e = cc

-- where nothing changed, all that is asked was there
pub gather_settled : (r : Routine ℕ) (old mid new : Rows) (row : ℕ) (xs ys : List ℕ) (a b : Bool) → ((place : Flow ℕ) → IsPlace r row place → xs ++ ys ≡ place.next) → ((m : ℕ) → Contains (xs ++ ys) m → Contains xs m ⊎ Contains ys m) → Adds (AskedOfAny r old row xs) old mid a → Adds (AskedOfAny r mid row ys) mid new b → (a || b) ≡ false → IsSettled r new row
gather_settled r old mid new row xs ys a b is split x y e place m here next k asked =
    let none = or_false a b e in
    let em : new ≡ mid = y.still none.1 in
    let eo : new ≡ old = em ∙ x.still none.0 in
    let asked_in : (rows : Rows) → new ≡ rows → IsAsked r rows m k = λ rows same. let P : Rows → Type 0 = λ v. IsAsked r v m k in subst P same asked in
    let member : Contains (xs ++ ys) m = let P : List ℕ → Type 0 = λ list. Contains list m in subst P (sym (is place here)) next in
    elim (split m member) [
      | inl first ↦ y.kept row k (x.there row k (m, first, (refl, asked_in old eo)))
      | inr second ↦ y.there row k (m, second, (refl, asked_in mid em))
    ]

-- one after another
pub moves_then : (r : Routine ℕ) (old mid new : Rows) (a b : Bool) → Moves r old mid a → Moves r mid new b → Moves r old new (a || b)
moves_then r old mid new a b x y =
    let c = changes_then old mid new a b x.still y.still x.falls y.falls in
    record {
      high = y.high ∙ x.high;
      wide = y.wide ∙ x.wide;
      sound = λ s. y.sound (x.sound s);
      still = c.0;
      falls = c.1;
    }

pub moves_none : (r : Routine ℕ) (rows : Rows) → Moves r rows rows false
moves_none r rows = record { high = refl; wide = refl; sound = λ s. s; still = λ _. refl; falls = λ e. let bad : false ≡ true = e in cc }

-- places that were settled are so where nothing changed, and one more is
pub settled_more : (r : Routine ℕ) (mid new : Rows) (at : ℕ) (a b : Bool) → (a ≡ false → (n : ℕ) → n < at → IsSettled r mid n) → Moves r mid new b → (b ≡ false → IsSettled r new at) → (a || b) ≡ false → (n : ℕ) → n < at + 1 → IsSettled r new n
settled_more r mid new at a b before y here e n h =
    let none = or_false a b e in
    elim (same_or_not n at) [
      | inl same ↦ (let P : ℕ → Type 0 = λ j. IsSettled r new j in subst P (sym same) (here none.1))
      | inr other ↦ (let P : Rows → Type 0 = λ v. IsSettled r v n in subst P (sym (y.still none.1)) (before none.0 n (omega arith)))
    ]
