-- Closed lists hold all that is live, and lists that are closed and apart separate what is live together.
use Rattle.std.specs.Prelude.{◌≡◌, ◌≢◌, ℕ, zero, suc, ◌<◌, ◌⊎◌, List, [], ◌∷◌, ◌++◌, length, slice_get, Option, Some, None, IsSome}
use Rattle.std.specs.List.{Contains}
use Rattle.std.proofs.Common.{refl, sym, ◌∙◌, ap, inl, inr, arith}
use Rattle.flow_walks.specs.Flows.{Flow, Routine, entry_flow, places}
use Rattle.flow_walks.specs.Liveness.{IsNode, IsRead, IsWanted, IsLive, Meet, AreLiveTogether, Separates}
use Rattle.flow_walks.specs.Lists.{list_of, IsPlace, HasLive, Asks, Closed, Stands, Apart}

-- what stands in a list stands in a longer one
pub get_append : {X : Type 0} (xs ys : List X) (n : ℕ) (x : X) → slice_get xs n ≡ Some x → slice_get (xs ++ ys) n ≡ Some x
get_append [] ys n x e = cc
get_append (y ∷ xs) ys zero x e = e
get_append (y ∷ xs) ys (suc n) x e = get_append xs ys n x e

-- each element of a list has a number
pub numbered : {X : Type 0} (xs : List X) (x : X) → Contains xs x → (n : ℕ) × (slice_get xs n ≡ Some x)
numbered [] x c = absurd (let h : c.0 < 0 = c.1 in omega arith)
numbered (y ∷ xs) x (zero, h, e) = (0, ap Some e)
numbered (y ∷ xs) x (suc k, h, e) = let r = numbered xs x (k, (let l : k < length xs = omega arith in l), e) in (suc r.0, r.1)

-- each node is a place
pub node_is_place : {L : Type 0} (r : Routine L) (n : ℕ) (flow : Flow L) → IsNode r n flow → IsPlace r n flow
node_is_place r n flow e = get_append r.flows (entry_flow r ∷ []) n flow e

module _ {L : Type 0} (r : Routine L) (lists : List (List L)) (closed : Closed r lists) where
  -- where a walk from a node that follows a place reads k, the place's list has k
  read_is_listed : (moves m n : ℕ) (k : L) (place : Flow L) → IsPlace r n place → Contains place.next m → IsRead r k moves m → Contains (list_of lists n) k
  read_is_listed zero m n k place here next walk = closed.asked n m place walk.0 k here next walk.1 (inl walk.2)
  read_is_listed (suc moves) m n k place here next walk =
      closed.asked n m place walk.0 k here next walk.1 (inr (read_is_listed moves walk.3.0 m k walk.0 (node_is_place r m walk.0 walk.1) walk.3.1 walk.3.2, walk.2))

  pub covers : (n : ℕ) (k : L) (place : Flow L) → IsPlace r n place → IsLive r place k → Contains (list_of lists n) k
  covers n k place here live = read_is_listed live.2.0 live.0 n k place here live.1 live.2.1

-- where closed lists have nothing but what is live, they have just what is live
pub closed_has_live : {L : Type 0} (r : Routine L) (lists : List (List L)) → Closed r lists → ((n : ℕ) (place : Flow L) (k : L) → IsPlace r n place → Contains (list_of lists n) k → IsLive r place k) → HasLive r lists
closed_has_live r lists closed sound = record { whole = closed.whole; live = λ n place k here. (sound n place k here, covers r lists closed n k place here) }

-- what a node asks for is wanted at it, where its list has nothing but what is live
pub asked_is_wanted : {L : Type 0} (r : Routine L) (list : List L) (m : ℕ) (flow : Flow L) (k : L) → IsNode r m flow → ((j : L) → Contains list j → IsLive r flow j) → Asks flow list k → IsWanted r m k
asked_is_wanted r list m flow k here sound (inl read) = (0, (flow, here, read))
asked_is_wanted r list m flow k here sound (inr (listed, unwritten)) =
    let live = sound k listed in
    (suc live.2.0, (flow, here, unwritten, (live.0, live.1, live.2.1)))

-- lists that have just what is live are closed
pub has_live_closed : {L : Type 0} (r : Routine L) (lists : List (List L)) → HasLive r lists → Closed r lists
has_live_closed r lists exact = record {
  whole = exact.whole;
  asked = λ n m place flow k here next there asks.
      (exact.live n place k here).1 (m, next, asked_is_wanted r (list_of lists m) m flow k there (λ j c. (exact.live m flow j (node_is_place r m flow there)).0 c) asks);
}

module _ {L H : Type 0} (r : Routine L) (home : L → Option H) (lists : List (List L)) (closed : Closed r lists) (apart : Apart r home lists) where
  stands : (n : ℕ) (place : Flow L) (k : L) → IsPlace r n place → IsLive r place k ⊎ Contains place.writes k → Stands place (list_of lists n) k
  stands n place k here (inl live) = inl (covers r lists closed n k place here live)
  stands n place k here (inr written) = inr written

  -- two that meet have homes, and different ones
  met : (place : Flow L) (a b : L) → Contains (places r) place → Meet r place a b → a ≢ b → (home a ≢ home b) × IsSome (home a) × IsSome (home b)
  met place a b there meet ne =
      let at = numbered (places r) place there in
      let first = stands at.0 place a at.1 meet.0 in
      let second = covers r lists closed at.0 b place at.1 meet.1 in
      (apart.different at.0 place a b at.1 first second ne, apart.housed at.0 place a at.1 first, apart.housed at.0 place b at.1 (inl second))

  pub homes_differ : (a b : L) → a ≢ b → AreLiveTogether r a b → (home a ≢ home b) × IsSome (home a) × IsSome (home b)
  homes_differ a b ne (place, there, inl meet) = met place a b there meet ne
  homes_differ a b ne (place, there, inr meet) =
      let other = met place b a there meet (λ e. ne (sym e)) in
      ((λ e. other.0 (sym e)), other.2, other.1)

  pub separates : Separates r home
  separates a b ne together = (homes_differ a b ne together).0

  some_home : (h : Option H) → IsSome h → (x : H) × (h ≡ Some x)
  some_home None s = cc
  some_home (Some x) s = (x, refl)

  -- the same of homes that are told of every location
  pub separates_all : (all : L → H) → ((k : L) (x : H) → home k ≡ Some x → all k ≡ x) → Separates r all
  separates_all all same a b ne together e =
      let d = homes_differ a b ne together in
      let x = some_home (home a) d.1 in
      let y = some_home (home b) d.2 in
      d.0 (x.1 ∙ ap Some (sym (same a x.0 x.1) ∙ e ∙ same b y.0 y.1) ∙ sym y.1)
