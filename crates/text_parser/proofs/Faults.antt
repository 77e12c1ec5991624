-- The answer from what the parser's function for a rule did.
use Rattle.std.proofs.Common.{◌≡◌, ℕ, List, [], ◌∷◌, ◌++◌, Option, Some, None, refl, sym, ap, ◌∙◌, subst, append_assoc}
use Rattle.std.proofs.lemmas.List.{append-nil, append_cancel_right}
use Rattle.text_grammar.specs.Grammar.{Symbol, Reads}
use Rattle.text_grammar.specs.Grammar as g
use Rattle.text_grammar.specs.declared.tree.External.{External}
use Rattle.text_grammar.specs.laws.Programs.{head, Out, Rule, Sort, UnitOf, fuel, runs}
use Rattle.text_parser.specs.Answer.{Begins, Stops, IsFirstFault, place_of}
use Rattle.text_grammar.specs.laws.ProgramWalks.{local}
use Rattle.text_grammar.specs.laws.DeclarationsRead.{whole_unit}
use Rattle.text_grammar.specs.laws.Sound.{Accepts, Says, Reading, sound, sound_exec}

value_of_pair : {A : Type 0} {a b : Option A} {r s : List Symbol} → ◌≡◌ {A = Out A} (a, r) (b, s) → a ≡ b
value_of_pair h = ap (λ o. o.0) h

rest_of_pair : {A : Type 0} {a b : Option A} {r s : List Symbol} → ◌≡◌ {A = Out A} (a, r) (b, s) → r ≡ s
rest_of_pair h = ap (λ o. o.1) h

same_some : {A : Type 0} {a b : A} → Some a ≡ Some b → a ≡ b
same_some h = cc

none_some : {A : Type 0} {a : A} → None ≡ Some a → ⊥
none_some h = cc

cons_nil : {x : Symbol} {r : List Symbol} → x ∷ r ≡ [] → ⊥
cons_nil h = cc

reading : (m : Rule) (ts : List Symbol) → Reading (Accepts m) (runs m ts) ts
unfolding runs
reading m ts = sound_exec sound (fuel m ts) m ts

-- A rule that reads its whole language.
module _ (m : Rule) (all_read : (ts : List Symbol) (t : Sort m) → Accepts m ts t → runs m ts ≡ (Some t, [])) where
  pub unique : (ts : List Symbol) (t u : Sort m) → Accepts m ts t → Accepts m ts u → u ≡ t
  unique ts t u d d' = same_some (value_of_pair (sym (all_read ts u d') ∙ all_read ts t d))

  pub tree_read : (ts : List Symbol) (t : Sort m) → runs m ts ≡ (Some t, []) → Accepts m ts t
  tree_read ts t h =
      let r = reading m ts in
      let e : ts ≡ r.front = r.is ∙ ap (λ (o : Out (Sort m)). r.front ++ o.1) h ∙ append-nil r.front in
      let d : Says (Accepts m) r.front (Some t) = subst (λ (o : Out (Sort m)). Says (Accepts m) r.front o.0) h r.says in
      subst (λ (q : List Symbol). Accepts m q t) (sym e) d

  -- what the function read can go on
  begins_of : (p : List Symbol) (v : Option (Sort m)) → Says (Accepts m) p v → Begins (Accepts m) p
  begins_of p (Some t) d = ([], t, subst (λ (q : List Symbol). Accepts m q t) (sym (append-nil p)) d)
  begins_of p None d = d

  -- It read all that it could, where it did not read the whole text.
  stops_of : (ts p : List Symbol) (v : Option (Sort m)) (again : (r q : List Symbol) → ts ≡ p ++ r → head q ≡ head r → runs m ts ≡ (v, r) → runs m (p ++ q) ≡ (v, q))
      (r : List Symbol) → runs m ts ≡ (v, r) → ts ≡ p ++ r → ((u : Sort m) → v ≡ Some u → r ≡ [] → ⊥) → Stops (Accepts m) p r
  stops_of ts p v again [] h e bad = λ t d.
      bad t (value_of_pair (sym h ∙ ap (runs m) (e ∙ append-nil p) ∙ all_read p t d)) refl
  stops_of ts p v again (x ∷ r) h e bad = λ b.
      let e1 : (p ++ x ∷ []) ++ b.0 ≡ p ++ x ∷ b.0 = append_assoc p (x ∷ []) b.0 in
      let e2 : runs m (p ++ x ∷ b.0) ≡ (Some b.1, []) = ap (runs m) (sym e1) ∙ all_read ((p ++ x ∷ []) ++ b.0) b.1 b.2 in
      cons_nil (rest_of_pair (sym (again (x ∷ r) (x ∷ b.0) e refl h) ∙ e2))

  first_fault : (ts : List Symbol) (v : Option (Sort m)) (r : List Symbol) → runs m ts ≡ (v, r) → ((u : Sort m) → v ≡ Some u → r ≡ [] → ⊥)
      → (end : ℕ) → IsFirstFault (Accepts m) end ts (place_of end r)
  first_fault ts v r h bad end =
      let s = reading m ts in
      let l = local m ts in
      let e1 : ts ≡ s.front ++ r = s.is ∙ ap (λ (o : Out (Sort m)). s.front ++ o.1) h in
      let e2 : s.front ≡ l.front = append_cancel_right s.front l.front (runs m ts).1 (sym s.is ∙ l.is) in
      record {
        before = s.front;
        rest = r;
        split = e1;
        begins = begins_of s.front v (subst (λ (o : Out (Sort m)). Says (Accepts m) s.front o.0) h s.says);
        stops = stops_of ts s.front v
            (λ r' q e hd h'. ap (λ z. runs m (z ++ q)) e2 ∙ l.again q (hd ∙ sym (ap (λ (o : Out (Sort m)). head o.1) h')) ∙ ap (λ (o : Out (Sort m)). (o.0, q)) h')
            r h e1 bad;
        place = refl;
      }

  pub faulted : (ts r : List Symbol) → runs m ts ≡ (None, r) → (end : ℕ) → IsFirstFault (Accepts m) end ts (place_of end r)
  faulted ts r h = let bad : (u : Sort m) → None ≡ Some u → r ≡ [] → ⊥ = λ u e n. none_some e in first_fault ts None r h bad

  pub left_over : (ts : List Symbol) (t : Sort m) (r : List Symbol) → runs m ts ≡ (Some t, r) → (r ≡ [] → ⊥) → (end : ℕ) → IsFirstFault (Accepts m) end ts (place_of end r)
  left_over ts t r h ne = let bad : (u : Sort m) → Some t ≡ Some u → r ≡ [] → ⊥ = λ u e n. ne n in first_fault ts (Some t) r h bad

-- The rule for units, from no declaration on, reads units.

cons_end : {A : Type 0} (xs : List A) (x : A) → xs ++ x ∷ [] ≡ [] → ⊥
cons_end [] x h = cc
cons_end (y ∷ xs) x h = cc

no_tokens : {p : List Symbol} {ts : List External} → Reads p ts → ts ≡ [] → p ≡ []
no_tokens g.Reads.none e = refl
no_tokens (g.Reads.more {ts = ts} {t = t} d x) e = absurd (cons_end ts t e)

accepted : (s : List Symbol) (ts : List External) → Reads s ts → Accepts (UnitOf []) s ts
accepted s ts d p n = subst (λ (q : List Symbol). Reads (q ++ s) ts) (sym (no_tokens n refl)) d

read : (s : List Symbol) (ts : List External) → Accepts (UnitOf []) s ts → Reads s ts
read s ts d = d [] g.Reads.none

all_read : (ts : List Symbol) (t : List External) → Accepts (UnitOf []) ts t → runs (UnitOf []) ts ≡ (Some t, [])
all_read ts t d = whole_unit ts t (read ts t d)

stops_reads : (before rest : List Symbol) → Stops (Accepts (UnitOf [])) before rest → Stops Reads before rest
stops_reads before [] h = λ t d. h t (accepted before t d)
stops_reads before (x ∷ rest) h = λ b. h (b.0, b.1, accepted ((before ++ x ∷ []) ++ b.0) b.1 b.2)

unit_fault : (end at : ℕ) (ts : List Symbol) → IsFirstFault (Accepts (UnitOf [])) end ts at → IsFirstFault Reads end ts at
unit_fault end at ts f = record {
  before = f.before;
  rest = f.rest;
  split = f.split;
  begins = (f.begins.0, f.begins.1, read (f.before ++ f.begins.0) f.begins.1 f.begins.2);
  stops = stops_reads f.before f.rest f.stops;
  place = f.place;
}

pub unit_read : (ts : List Symbol) (t : List External) → runs (UnitOf []) ts ≡ (Some t, []) → Reads ts t
unit_read ts t h = read ts t (tree_read (UnitOf []) all_read ts t h)

pub unit_faulted : (end : ℕ) (ts r : List Symbol) → runs (UnitOf []) ts ≡ (None, r) → IsFirstFault Reads end ts (place_of end r)
unit_faulted end ts r h = unit_fault end (place_of end r) ts (faulted (UnitOf []) all_read ts r h end)

pub unit_left_over : (end : ℕ) (ts : List Symbol) (t : List External) (r : List Symbol) → runs (UnitOf []) ts ≡ (Some t, r) → (r ≡ [] → ⊥) → IsFirstFault Reads end ts (place_of end r)
unit_left_over end ts t r h n = unit_fault end (place_of end r) ts (left_over (UnitOf []) all_read ts t r h n end)
