-- What was decoded stays so where no writable region has it: stores and further regions change nothing there.
use Rattle.std.proofs.Common.{cond, ◌++◌, ◌≡◌, ℕ, ◌-◌, List, [], ◌∷◌, length, get_or, set, drop, map, Bool, true, false, ◌&&◌, ◌||◌, Option, Some, None, slice_get, arith, refl, ap, sym, subst, ◌∙◌, zero, suc}
use Rattle.std.specs.Prelude.{option_map, IfSome}
use Rattle.std.proofs.lemmas.List.{map-set}
use Rattle.std.proofs.lemmas.List.Elements.{All-weaker}
use Rattle.std.proofs.lemmas.Bool.{cond-false, and_right, and_parts, or_from}
use Rattle.i386_code.specs.Reading.{decoded}
use Rattle.i386_code.specs.declared.instr.Decoded.{Decoded}
use Rattle.i386_machine.specs.declared.known.Known.{Known}
use Rattle.i386_machine.specs.declared.memory.Piece.{Piece}
use Rattle.i386_machine.specs.Known.{IsKnown, AllKnown}
use Rattle.i386_machine.specs.Pieces.{region_of, HasAt}
use Rattle.i386_machine.specs.Regions.{fetch, Shape, Region, shape_of, shapes, spans, writable, ApartFrom}
use Rattle.i386_machine.specs.laws.At.{shapes-set, not_both}
use Rattle.i386_machine.proofs.Accesses.{region_at}

left_off : (w b c : Bool) → w ≡ true → ((w && b) || c) ≡ false → b ≡ false
left_off true true c e h = h
left_off true false c e h = refl
left_off false b c e h = cc

right_off : (b c : Bool) → (b || c) ≡ false → c ≡ false
right_off true c h = cc
right_off false c h = h

-- a store is to a writable region
fetch_stored : (m : List Region) (i : ℕ) (r q : Region) (a : ℕ) → slice_get m i ≡ Some r → shape_of q ≡ shape_of r → r.writable ≡ true → writable (shapes m) a 1 ≡ false → fetch (set m i q) a ≡ fetch m a
fetch_stored [] i r q a e h can off = refl
fetch_stored (z ∷ m) zero r q a e h can off =
    let same : z ≡ r = cc in
    let old : spans (shape_of z) a 1 ≡ false = left_off z.writable (spans (shape_of z) a 1) (writable (shapes m) a 1) (ap (λ (x : Region). x.writable) same ∙ can) off in
    let new : spans (shape_of q) a 1 ≡ false = ap (λ (s : Shape). spans s a 1) (h ∙ ap shape_of (sym same)) ∙ old in
    cond-false (q.executable && spans (shape_of q) a 1) (Some (drop (a - q.base) q.bytes)) (fetch m a) (and_right q.executable (spans (shape_of q) a 1) new)
    ∙ sym (cond-false (z.executable && spans (shape_of z) a 1) (Some (drop (a - z.base) z.bytes)) (fetch m a) (and_right z.executable (spans (shape_of z) a 1) old))
fetch_stored (z ∷ m) (suc i) r q a e h can off =
    ap (cond (z.executable && spans (shape_of z) a 1) (Some (drop (a - z.base) z.bytes))) (fetch_stored m i r q a e h can (right_off (z.writable && spans (shape_of z) a 1) (writable (shapes m) a 1) off))

IsKnown_stored : (m : List Region) (i : ℕ) (r q : Region) → slice_get m i ≡ Some r → shape_of q ≡ shape_of r → r.writable ≡ true → (known : Known) → IsKnown m known → IsKnown (set m i q) known
IsKnown_stored m i r q e h can known k = record {
  spells = ap (option_map decoded) (fetch_stored m i r q known.at e h can k.fixed) ∙ k.spells;
  fixed = ap (λ (ss : List Shape). writable ss known.at 1) (shapes-set m i r q e h) ∙ k.fixed;
}

if_some : {A : Type 0} (P Q : A → Type 0) → ((x : A) → P x → Q x) → (o : Option A) → IfSome o P → IfSome o Q
if_some P Q f None h = h
if_some P Q f (Some x) h = f x h

-- a store to a writable piece: q is p with other bytes
pub AllKnown_stored : (ps : List Piece) (a n i : ℕ) (p q : Piece) (xs : List ℕ) (slots : List (Option Known)) → p ≡ get_or ps i p → HasAt ps a n i → p.writable ≡ true
    → region_of q ≡ record (region_of p) { bytes = xs } → length xs ≡ length p.bytes.items → AllKnown (map region_of ps) slots → AllKnown (map region_of (set ps i q)) slots
AllKnown_stored ps a n i p q xs slots e h can is long known =
    let shape : shape_of (region_of q) ≡ shape_of (region_of p) = ap shape_of is ∙ ap (λ (k : ℕ). record { base = p.base; size = k; writable = p.writable; executable = p.executable }) long in
    let stored = IsKnown_stored (map region_of ps) i (region_of p) (region_of q) (region_at ps i p h.within e) shape can in
    let new : AllKnown (set (map region_of ps) i (region_of q)) slots = All-weaker _ _ (if_some (IsKnown (map region_of ps)) (IsKnown (set (map region_of ps) i (region_of q))) stored) slots known in
    subst (λ (m : List Region). AllKnown m slots) (sym (map-set region_of ps i q)) new

-- a further region has no address of the others
module _ (r : Region) (a : ℕ) (d : Decoded) where
  fetch_pushed : (m : List Region) → option_map decoded (fetch m a) ≡ Some d → option_map decoded (fetch (m ++ r ∷ []) a) ≡ Some d
  fetch_pushed [] e = cc
  fetch_pushed (z ∷ m) e =
      go (z.executable && spans (shape_of z) a 1) (Some (drop (a - z.base) z.bytes)) (fetch m a) (fetch (m ++ r ∷ []) a) (fetch_pushed m) e
    where
      go : (b : Bool) (x y w : Option (List ℕ)) → (option_map decoded y ≡ Some d → option_map decoded w ≡ Some d) → option_map decoded (cond b x y) ≡ Some d → option_map decoded (cond b x w) ≡ Some d
      go true x y w f h = h
      go false x y w f h = f h

  not_pushed : (m : List Region) → ApartFrom (shape_of r) (shapes m) → option_map decoded (fetch m a) ≡ Some d → spans (shape_of r) a 1 ≡ false
  not_pushed [] apart e = cc
  not_pushed (z ∷ m) apart e =
      go (z.executable && spans (shape_of z) a 1) (Some (drop (a - z.base) z.bytes)) (fetch m a) (λ h. not_both (shape_of r) (shape_of z) a 1 apart.0 (and_parts _ _ h).1 (omega arith)) (not_pushed m apart.1) e
    where
      go : (b : Bool) (x y : Option (List ℕ)) → (b ≡ true → spans (shape_of r) a 1 ≡ false) → (option_map decoded y ≡ Some d → spans (shape_of r) a 1 ≡ false) → option_map decoded (cond b x y) ≡ Some d → spans (shape_of r) a 1 ≡ false
      go true x y f g h = f refl
      go false x y f g h = g h

writable_pushed : (m : List Region) (r : Region) (a : ℕ) → spans (shape_of r) a 1 ≡ false → writable (shapes m) a 1 ≡ false → writable (shapes (m ++ r ∷ [])) a 1 ≡ false
writable_pushed [] r a off h = or_from (r.writable && spans (shape_of r) a 1) false (and_right r.writable (spans (shape_of r) a 1) off) refl
writable_pushed (z ∷ m) r a off h =
    go (z.writable && spans (shape_of z) a 1) (writable (shapes m) a 1) (writable (shapes (m ++ r ∷ [])) a 1) (writable_pushed m r a off) h
  where
    go : (b c d : Bool) → (c ≡ false → d ≡ false) → (b || c) ≡ false → (b || d) ≡ false
    go true c d f h = h
    go false c d f h = f h

IsKnown_pushed : (m : List Region) (r : Region) → ApartFrom (shape_of r) (shapes m) → (known : Known) → IsKnown m known → IsKnown (m ++ r ∷ []) known
IsKnown_pushed m r apart known k = record {
  spells = fetch_pushed r known.at _ m k.spells;
  fixed = writable_pushed m r known.at (not_pushed r known.at _ m apart k.spells) k.fixed;
}

pub AllKnown_pushed : (ps : List Piece) (p : Piece) (slots : List (Option Known)) → ApartFrom (shape_of (region_of p)) (shapes (map region_of ps)) → AllKnown (map region_of ps) slots → AllKnown (map region_of (ps ++ p ∷ [])) slots
AllKnown_pushed ps p slots apart known =
    let new : AllKnown (map region_of ps ++ region_of p ∷ []) slots = All-weaker _ _ (if_some (IsKnown (map region_of ps)) (IsKnown (map region_of ps ++ region_of p ∷ [])) (IsKnown_pushed (map region_of ps) (region_of p) apart)) slots known in
    subst (λ (m : List Region). AllKnown m slots) (sym (map_push ps)) new
  where
    map_push : (ps : List Piece) → map region_of (ps ++ p ∷ []) ≡ map region_of ps ++ region_of p ∷ []
    map_push [] = refl
    map_push (q ∷ ps) = ap (λ (m : List Region). region_of q ∷ m) (map_push ps)
