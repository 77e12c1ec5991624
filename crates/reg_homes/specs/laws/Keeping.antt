-- Where a temporary is wanted, its value is in its home.
use Rattle.std.specs.Prelude.{◌≡◌, ◌≢◌, ℕ, [], ◌∷◌, Option, Some, None}
use Rattle.std.proofs.Common.{suc, ◌∙◌, ap, sym, inl, inr}
use Rattle.std.proofs.lemmas.Bool.Decides.{eqb_tells}
use Rattle.block_mem.specs.declared.value.Value.{Value}
use Rattle.rtl_lang.specs.Meaning as rtl
use Rattle.rtl_lang.specs.Meaning.{Temporaries}
use Rattle.rtl_lang.specs.laws.Temporaries.{put_same, put_other}
use Rattle.ltl_lang.specs.declared.location.Loc.{Loc}
use Rattle.ltl_lang.specs.Meaning as ltl
use Rattle.ltl_lang.specs.Meaning.{Contents}
use Rattle.ltl_lang.specs.laws.Locations as locations
use Rattle.std.specs.List.{Contains}
use Rattle.flow_walks.specs.Flows.{Flow, Routine}
use Rattle.flow_walks.specs.Liveness.{IsNode, IsWanted, Separates}
use Rattle.reg_homes.specs.laws.Walking.{writes_nothing, writes_other, written_apart}
use Rattle.reg_homes.specs.Relation.{Kept, KeptBut}

pub kept_of : (g : Routine ℕ) (home : ℕ → Loc) (n : ℕ) (t : Temporaries) (u : Contents) → KeptBut None g home n t u → Kept g home n t u
kept_of g home n t u k j v w e = k j v w (λ bad. cc) e

pub but_of : (await : Option ℕ) (g : Routine ℕ) (home : ℕ → Loc) (n : ℕ) (t : Temporaries) (u : Contents) → Kept g home n t u → KeptBut await g home n t u
but_of await g home n t u k j v w ne e = k j v w e

module _ (g : Routine ℕ) (home : ℕ → Loc) (apart : Separates g home) where
  -- what a node reads is in its home
  pub read : (n : ℕ) (x : Flow ℕ) (t : Temporaries) (u : Contents) (j : ℕ) (v : Value) → Kept g home n t u → IsNode g n x → Contains x.reads j → t j ≡ Some v → u (home j) ≡ Some v
  read n x t u j v kept here in_reads e = kept j v (0, (x, here, in_reads)) e

  -- a node that writes nothing
  pub passed : (n m : ℕ) (x : Flow ℕ) (t : Temporaries) (u : Contents) → Kept g home n t u → IsNode g n x → Contains x.next m → x.writes ≡ [] → Kept g home m t u
  passed n m x t u kept here next none j v w e = kept j v (suc w.0, (x, here, writes_nothing j x.writes none, (m, next, w.1))) e

  -- a node that writes, when the value has not come yet
  pub waits : (n m to : ℕ) (x : Flow ℕ) (t : Temporaries) (u : Contents) → Kept g home n t u → IsNode g n x → Contains x.next m → x.writes ≡ to ∷ [] → KeptBut (Some to) g home m t u
  waits n m to x t u kept here next some j v w ne e = kept j v (suc w.0, (x, here, writes_other to j x.writes some (λ s. ne (ap Some s)), (m, next, w.1))) e

  -- the value comes
  pub filled : (m to : ℕ) (t : Temporaries) (u : Contents) (v : Value) → KeptBut (Some to) g home m t u → ((j : ℕ) → IsWanted g m j → j ≢ to → home j ≢ home to) → Kept g home m (rtl.put t to v) (ltl.put u (home to) v)
  filled m to t u v kept ne j x w e = elim (eqb_tells j to) [
    | inl same ↦
        let f : Some v ≡ Some x = sym (ap (λ (k : ℕ). rtl.put t to v k) same.1 ∙ put_same t to v) ∙ e in
        ap (λ (k : ℕ). ltl.put u (home to) v (home k)) same.1 ∙ locations.put_same u (home to) v ∙ f
    | inr other ↦
        locations.put_other u (home to) (home j) v (ne j w other.1) ∙ kept j x w (λ k. let s : to ≡ j = cc in other.1 (sym s)) (sym (put_other t to j v other.1) ∙ e)
  ]

  -- a node that writes
  pub written : (n m to : ℕ) (x : Flow ℕ) (t : Temporaries) (u : Contents) (v : Value) → Kept g home n t u → IsNode g n x → Contains x.next m → x.writes ≡ to ∷ [] → Kept g home m (rtl.put t to v) (ltl.put u (home to) v)
  written n m to x t u v kept here next some =
      filled m to t u v (waits n m to x t u kept here next some) (λ j w ne k. written_apart g home apart n to j x here some (m, next, w) (λ s. ne (sym s)) (sym k))
