-- Each turn of Rtl is met by one turn of Ltl.
use Rattle.std.specs.Prelude.{◌≡◌, ℕ, Bool, true, false, List, [], ◌∷◌, map, Option, Some, None, option_map, slice_get, get_or}
use Rattle.std.specs.Option.{option_to_list}
use Rattle.std.proofs.Common.{◌∙◌, ap, sym, refl, subst, inr, arith}
use Rattle.std.proofs.lemmas.Option.{slice_get-map}
use Rattle.std.proofs.lemmas.List.{length-map}
use Rattle.pass_core.specs.Alike.{TurnAlike, IsSound, EachTurnMet}
use Rattle.pass_core.specs.Turns.{On}
use Rattle.block_mem.specs.Blocks.{Blocks}
use Rattle.block_mem.specs.Access.{store}
use Rattle.block_mem.specs.declared.operator.Op.{Op}
use Rattle.block_mem.specs.declared.value.BlockName.{BlockName}
use Rattle.block_mem.specs.declared.value.BlockName.TheVariants.{Local}
use Rattle.block_mem.specs.declared.value.Value.{Value}
use Rattle.block_mem.specs.declared.value.Value.TheVariants.{Int}
use Rattle.block_mem.specs.declared.value.Width.{Width}
use Rattle.unit_names.specs.declared.meaning.Meaning.{Meaning}
use Rattle.unit_names.specs.declared.meaning.Meaning.TheVariants as meaning
use Rattle.unit_passes.specs.Programs.{objects_at, callee_at}
use Rattle.clight_sem.specs.Values.{start_of, of_two, held, with_value, truth_of}
use Rattle.rtl_lang.specs.declared.syntax.RtlNode.{RtlNode}
use Rattle.rtl_lang.specs.declared.syntax.RtlNode.TheVariants as node
use Rattle.rtl_lang.specs.Meaning as rtl
use Rattle.rtl_lang.specs.Meaning.{Temporaries, RtlWorld, RtlProgram}
use Rattle.rtl_lang.specs.Prices as rtl_prices
use Rattle.rtl_lang.specs.Units.{rtl_turns}
use Rattle.ltl_lang.specs.declared.location.Loc.{Loc}
use Rattle.ltl_lang.specs.declared.syntax.LtlNode.{LtlNode}
use Rattle.ltl_lang.specs.declared.syntax.LtlParts.{LtlParts}
use Rattle.ltl_lang.specs.Meaning as ltl
use Rattle.ltl_lang.specs.Meaning.{Contents, LtlFrame, LtlWorld, LtlProgram}
use Rattle.ltl_lang.specs.Prices as ltl_prices
use Rattle.ltl_lang.specs.Units.{ltl_turns}
use Rattle.std.specs.List.{Contains}
use Rattle.flow_walks.specs.Flows.{Flow, Routine}
use Rattle.flow_walks.specs.Liveness.{IsNode, Separates}
use Rattle.reg_homes.specs.laws.Walking.{first_in, later_in, written_apart}
use Rattle.rtl_lang.specs.Routines.{flow_of, routine}
use Rattle.reg_homes.specs.Homes.{home_of, placed}
use Rattle.reg_homes.specs.Relation.{Kept, Waits, Stack, ltl_world, Related, ProgramAlike}
use Rattle.reg_homes.specs.laws.Keeping.{kept_of, read, passed, waits, written}
use Rattle.reg_homes.specs.laws.Calling.{running, still_related, left_alike, called_alike}

-- What has a value has operands

operands_set : (m : Blocks) (o : Op) (x y : Option Value) (v : Value) → of_two m o x y ≡ Some v → (a : Value) × (b : Value) × (x ≡ Some a) × (y ≡ Some b)
operands_set m o None y v e = cc
operands_set m o (Some a) None v e = cc
operands_set m o (Some a) (Some b) v e = (a, b, refl, refl)

held_set : (m : Blocks) (w : Width) (x : Option Value) (v : Value) → held m w x ≡ Some v → (a : Value) × (x ≡ Some a)
held_set m w None v h = cc
held_set m w (Some a) v h = (a, refl)

test_set : (o : Option Value) (b : Bool) → truth_of o ≡ Some b → (x : Value) × (o ≡ Some x)
test_set None b e = cc
test_set (Some x) b e = (x, refl)

both_set : (o : Option Value) (os : Option (List Value)) (vs : List Value) → with_value o os ≡ Some vs → (a : Value) × (bs : List Value) × (o ≡ Some a) × (os ≡ Some bs) × (Some vs ≡ Some (a ∷ bs))
both_set None os vs h = cc
both_set (Some a) None vs h = cc
both_set (Some a) (Some bs) vs h = (a, bs, refl, refl, sym h)

module _ (p : RtlProgram) (q : LtlProgram) (alike : ProgramAlike p q) (w : RtlWorld) (h : LtlParts) (u : Contents) (to : Option Loc) (rs : List LtlFrame) (top : Waits None w.top h u) (below : Stack w.top.result to w.below rs) where
  abbrev v : LtlWorld
  v = ltl_world w h u to rs

  abbrev g : Routine ℕ
  g = routine w.top.function

  abbrev home : ℕ → Loc
  home = home_of h.homes

  kept : Kept g home w.top.node w.top.temporaries u
  kept = kept_of g home w.top.node w.top.temporaries u top.kept

  abbrev apart : Separates g home
  apart = top.made.apart

  -- a node that writes nothing
  goes_on : (x : Flow ℕ) (next : ℕ) → IsNode g w.top.node x → Contains x.next next → x.writes ≡ [] → Related (rtl.goes w next) (ltl.goes v next)
  goes_on x next here in_nexts none =
      still_related (rtl.goes w next) h u to rs (running (rtl.goes w next).top h u top.made (passed g home apart w.top.node next x w.top.temporaries u kept here in_nexts none)) below

  -- a node that writes
  puts_alike : (x : Flow ℕ) (j next : ℕ) (o s : Option Value) → ((a : Value) → o ≡ Some a → s ≡ Some a) → IsNode g w.top.node x → Contains x.next next → x.writes ≡ j ∷ [] → IsSound (rtl.puts w j o next) → TurnAlike Related (rtl.puts w j o next) (ltl.puts v (home j) s next)
  puts_alike x j next None s f here in_nexts some sound = absurd (sound.0 refl)
  puts_alike x j next (Some a) s f here in_nexts some sound =
      let new : RtlWorld = rtl.at w next (rtl.put w.top.temporaries j a) in
      let r : Related new (ltl.at v next (ltl.put u (home j) a)) = still_related new h (ltl.put u (home j) a) to rs (running new.top h (ltl.put u (home j) a) top.made (written g home apart w.top.node next j x w.top.temporaries u a kept here in_nexts some)) below in
      subst (λ (z : Option Value). TurnAlike Related (On new) (ltl.puts v (home j) z next)) (sym (f a refl)) r

  found : (x : Flow ℕ) (j : ℕ) (a : Value) → IsNode g w.top.node x → Contains x.reads j → w.top.temporaries j ≡ Some a → u (home j) ≡ Some a
  found x j a here in_reads e = read g home apart w.top.node x w.top.temporaries u j a kept here in_reads e

  memory_related : (m : Option Blocks) (w2 : RtlWorld) (h2 : LtlParts) (u2 : Contents) (to2 : Option Loc) (rs2 : List LtlFrame) → Waits None w2.top h2 u2 → Stack w2.top.result to2 w2.below rs2 → TurnAlike Related (rtl.with_memory w2 m) (ltl.with_memory (ltl_world w2 h2 u2 to2 rs2) m)
  memory_related None w2 h2 u2 to2 rs2 x b = refl
  memory_related (Some m) w2 h2 u2 to2 rs2 x b = still_related (record w2 { memory = m }) h2 u2 to2 rs2 x b

  store_alike : (x : Flow ℕ) (next : ℕ) (width : Width) (o s k z : Option Value) → ((a : Value) → o ≡ Some a → s ≡ Some a) → ((a : Value) → k ≡ Some a → z ≡ Some a) → IsNode g w.top.node x → Contains x.next next → x.writes ≡ [] → IsSound (rtl.store_if (rtl.goes w next) width o k) → TurnAlike Related (rtl.store_if (rtl.goes w next) width o k) (ltl.store_if (ltl.goes v next) width s z)
  store_alike x next width None s k z f e here in_nexts none sound = absurd (sound.0 refl)
  store_alike x next width (Some a) s None z f e here in_nexts none sound = absurd (sound.0 refl)
  store_alike x next width (Some a) s (Some b) z f e here in_nexts none sound =
      subst (λ (i : Option Value). TurnAlike Related (rtl.store_if (rtl.goes w next) width (Some a) (Some b)) (ltl.store_if (ltl.goes v next) width i z)) (sym (f a refl))
      (subst (λ (i : Option Value). TurnAlike Related (rtl.store_if (rtl.goes w next) width (Some a) (Some b)) (ltl.store_if (ltl.goes v next) width (Some a) i)) (sym (e b refl))
      (memory_related (store w.memory a width b) (rtl.goes w next) h u to rs (running (rtl.goes w next).top h u top.made (passed g home apart w.top.node next x w.top.temporaries u kept here in_nexts none)) below))

  branch_alike : (x : Flow ℕ) (y z : ℕ) (o s : Option Value) → ((a : Value) → o ≡ Some a → s ≡ Some a) → IsNode g w.top.node x → Contains x.next y → Contains x.next z → x.writes ≡ [] → IsSound (rtl.branched w (truth_of o) y z) → TurnAlike Related (rtl.branched w (truth_of o) y z) (ltl.branched v (truth_of s) y z)
  branch_alike x y z o s f here iy iz none sound = chosen (truth_of o) refl sound
    where
      chosen : (b : Option Bool) → truth_of o ≡ b → IsSound (rtl.branched w b y z) → TurnAlike Related (rtl.branched w b y z) (ltl.branched v (truth_of s) y z)
      chosen None e sane = absurd (sane.0 refl)
      chosen (Some true) e sane =
          let t = test_set o true e in
          subst (λ (b : Option Bool). TurnAlike Related (On (rtl.goes w y)) (ltl.branched v b y z)) (sym (ap truth_of (f t.0 t.1 ∙ sym t.1) ∙ e)) (goes_on x y here iy none)
      chosen (Some false) e sane =
          let t = test_set o false e in
          subst (λ (b : Option Bool). TurnAlike Related (On (rtl.goes w z)) (ltl.branched v b y z)) (sym (ap truth_of (f t.0 t.1 ∙ sym t.1) ∙ e)) (goes_on x z here iz none)

  return_alike : (o s : Option Value) → ((a : Value) → o ≡ Some a → s ≡ Some a) → IsSound (rtl.left_if w o) → TurnAlike Related (rtl.left_if w o) (ltl.left_if v s)
  return_alike None s f sound = absurd (sound.0 refl)
  return_alike (Some a) s f sound =
      subst (λ (z : Option Value). TurnAlike Related (rtl.left_with w (Some a) w.below) (ltl.left_if v z)) (sym (f a refl)) (left_alike w h u to rs top.made.locals (Some a) w.below below)

  -- calls
  all_found : (x : Flow ℕ) → IsNode g w.top.node x → (js : List ℕ) (vs : List Value) → ((j : ℕ) → Contains js j → Contains x.reads j) → rtl.all_values w.top.temporaries js ≡ Some vs → ltl.all_values u (map home js) ≡ Some vs
  all_found x here [] vs i e = e
  all_found x here (j ∷ js) vs i e =
      let y = both_set (w.top.temporaries j) (rtl.all_values w.top.temporaries js) vs e in
      ap (λ (o : Option Value). with_value o (ltl.all_values u (map home js))) (found x j y.0 here (i j (first_in j js)) y.2)
      ∙ ap (with_value (Some y.0)) (all_found x here js y.1 (λ k m. i k (later_in k j js m)) y.3)
      ∙ sym y.4

  waiting : (await : Option ℕ) (x : Flow ℕ) (next : ℕ) → IsNode g w.top.node x → Contains x.next next → x.writes ≡ option_to_list await → Waits await (rtl.goes w next).top h u
  waiting None x next here in_nexts some = running (rtl.goes w next).top h u top.made (passed g home apart w.top.node next x w.top.temporaries u kept here in_nexts some)
  waiting (Some j) x next here in_nexts some = record {
    made = top.made;
    kept = waits g home apart w.top.node next j x w.top.temporaries u kept here in_nexts some;
    clear = λ a is k wanted ne same.
        let s : j ≡ a = cc in
        written_apart g home apart w.top.node j k x here some (next, in_nexts, wanted) (λ d. ne (sym d ∙ s)) (ap home s ∙ sym same);
  }

  call_alike : (x : Flow ℕ) (callee next : ℕ) (await : Option ℕ) (o s : Option (List Value)) → ((vs : List Value) → o ≡ Some vs → s ≡ Some vs) → IsNode g w.top.node x → Contains x.next next → x.writes ≡ option_to_list await → IsSound (rtl.called_if p (rtl.goes w next) (callee_at p w.top.unit callee) await o) → TurnAlike Related (rtl.called_if p (rtl.goes w next) (callee_at p w.top.unit callee) await o) (ltl.called_if q (ltl.goes v next) (callee_at p w.top.unit callee) (option_map home await) s)
  call_alike x callee next await None s f here in_nexts some sound = absurd (sound.0 refl)
  call_alike x callee next await (Some vs) s f here in_nexts some sound =
      subst (λ (z : Option (List Value)). TurnAlike Related (rtl.called_with p (rtl.goes w next) (callee_at p w.top.unit callee) await vs) (ltl.called_if q (ltl.goes v next) (callee_at p w.top.unit callee) (option_map home await) z)) (sym (f vs refl))
      (called_alike p q alike (rtl.goes w next) h u to rs await vs (callee_at p w.top.unit callee) (waiting await x next here in_nexts some) below sound)

  callee_same : (callee : ℕ) → callee_at q w.top.unit callee ≡ callee_at p w.top.unit callee
  callee_same callee = ap (λ (cs : List (List Meaning)). get_or (get_or cs w.top.unit []) callee meaning.Nothing) alike.callees

  objects_same : objects_at q w.top.unit ≡ objects_at p w.top.unit
  objects_same = ap (λ (os : List (List (Option BlockName))). get_or os w.top.unit []) alike.objects

  -- a turn for each node
  node_alike : (x : RtlNode) → IsNode g w.top.node (flow_of x) → IsSound (rtl.node_turn p w (Some x)) → TurnAlike Related (rtl.node_turn p w (Some x)) (ltl.node_turn q v (Some (placed home x)))
  node_alike (node.Nop next) here sound = goes_on _ next here (first_in next []) refl
  node_alike (node.Const n j next) here sound = puts_alike _ j next (Some (Int n)) (Some (Int n)) (λ a e. e) here (first_in next []) refl sound
  node_alike (node.Address s plus j next) here sound =
      puts_alike _ j next _ _ (λ a e. ap (λ (os : List (Option BlockName)). option_map (ltl.behind plus) (get_or os s None)) objects_same ∙ e) here (first_in next []) refl sound
  node_alike (node.Local index j next) here sound = puts_alike _ j next (Some (start_of (Local w.top.activation index))) (Some (start_of (Local w.top.activation index))) (λ a e. e) here (first_in next []) refl sound
  node_alike (node.Apply o l r j next) here sound =
      puts_alike _ j next _ _ (λ a e.
      let y = operands_set w.memory o (w.top.temporaries l) (w.top.temporaries r) a e in
      ap (λ (i : Option Value). of_two w.memory o i (u (home r))) (found _ l y.0 here (first_in l (r ∷ [])) y.2 ∙ sym y.2)
      ∙ ap (of_two w.memory o (w.top.temporaries l)) (found _ r y.1 here (later_in r l (r ∷ []) (first_in r [])) y.3 ∙ sym y.3) ∙ e) here (first_in next []) refl sound
  node_alike (node.Load width place j next) here sound =
      puts_alike _ j next _ _ (λ a e.
      let y = held_set w.memory width (w.top.temporaries place) a e in
      ap (held w.memory width) (found _ place y.0 here (first_in place []) y.1 ∙ sym y.1) ∙ e) here (first_in next []) refl sound
  node_alike (node.Store width place value next) here sound =
      store_alike _ next width _ _ _ _ (λ a e. found _ place a here (first_in place (value ∷ [])) e) (λ a e. found _ value a here (later_in value place (value ∷ []) (first_in value [])) e) here (first_in next []) refl sound
  node_alike (node.Call s args await next) here sound =
      subst (λ (m : Meaning). TurnAlike Related (rtl.node_turn p w (Some (node.Call s args await next))) (ltl.called_if q (ltl.goes v next) m (option_map home await) (ltl.all_values u (map home args)))) (sym (callee_same s))
      (call_alike _ s next await _ _ (λ vs e. all_found _ here args vs (λ j i. i) e) here (first_in next []) refl sound)
  node_alike (node.Branch j y z) here sound = branch_alike _ y z _ _ (λ a e. found _ j a here (first_in j []) e) here (first_in y (z ∷ [])) (later_in z y (z ∷ []) (first_in z [])) refl sound
  node_alike (node.Return None) here sound = left_alike w h u to rs top.made.locals None w.below below
  node_alike (node.Return (Some j)) here sound = return_alike _ _ (λ a e. found _ j a here (first_in j []) e) sound

  node_there : (o : Option RtlNode) → slice_get w.top.function.graph w.top.node ≡ o → slice_get h.graph w.top.node ≡ option_map (placed home) o
  node_there o here = ap (λ (ns : List LtlNode). slice_get ns w.top.node) top.made.graph ∙ slice_get-map (placed home) w.top.function.graph w.top.node ∙ ap (option_map (placed home)) here

  -- the turn at a place, whatever is there
  at_alike : (o : Option RtlNode) → slice_get w.top.function.graph w.top.node ≡ o → IsSound (rtl.node_turn p w o) → TurnAlike Related (rtl.node_turn p w o) (ltl.ltl_turn q v)
  at_alike None here sound = absurd (sound.0 refl)
  at_alike (Some x) here sound =
      subst (λ (z : Option LtlNode). TurnAlike Related (rtl.node_turn p w (Some x)) (ltl.node_turn q v z)) (sym (node_there (Some x) here)) (node_alike x (slice_get-map flow_of w.top.function.graph w.top.node ∙ ap (option_map flow_of) here) sound)

-- and the turn costs the same
same_price : (home : ℕ → Loc) (x : RtlNode) → ltl_prices.node_price (Some (placed home x)) ≡ rtl_prices.node_price (Some x)
same_price home (node.Nop next) = refl
same_price home (node.Const n j next) = refl
same_price home (node.Address s plus j next) = refl
same_price home (node.Local index j next) = refl
same_price home (node.Apply o l r j next) = refl
same_price home (node.Load width place j next) = refl
same_price home (node.Store width place value next) = refl
same_price home (node.Call s args await next) = let e = length-map args home in omega (arith, e)
same_price home (node.Branch j y z) = refl
same_price home (node.Return k) = refl

price_of : (home : ℕ → Loc) (o : Option RtlNode) → ltl_prices.node_price (option_map (placed home) o) ≡ rtl_prices.node_price o
price_of home None = refl
price_of home (Some x) = same_price home x

price_same : (w : RtlWorld) (v : LtlWorld) → Related w v → ltl_prices.price v ≡ rtl_prices.price w
price_same w v r =
    ap ltl_prices.price r.same
    ∙ ap (λ (ns : List LtlNode). ltl_prices.node_price (slice_get ns w.top.node)) r.top.made.graph
    ∙ ap ltl_prices.node_price (slice_get-map (placed (home_of r.function.homes)) w.top.function.graph w.top.node)
    ∙ price_of (home_of r.function.homes) (rtl.node_of w)

turn_alike : (p : RtlProgram) (q : LtlProgram) → ProgramAlike p q → (w : RtlWorld) (v : LtlWorld) → Related w v → IsSound (rtl.rtl_turn p w) → TurnAlike Related (rtl.rtl_turn p w) (ltl.ltl_turn q v)
turn_alike p q alike w v r sound =
    subst (λ (z : LtlWorld). TurnAlike Related (rtl.rtl_turn p w) (ltl.ltl_turn q z)) (sym r.same)
    (at_alike p q alike w r.function r.contents r.result r.frames r.top r.below (rtl.node_of w) refl sound)

-- nothing falls, since each turn is met by one
abbrev pub measure : RtlWorld → ℕ × ℕ
measure w = (0, 0)

pub each_turn_met : (p : RtlProgram) (q : LtlProgram) → ProgramAlike p q → EachTurnMet (rtl_turns p) (ltl_turns q) Related measure
each_turn_met p q alike w v r sound = inr (record {
  last = v;
  before = 0;
  goes = λ input acts. record { count = 0; there = refl; within = omega arith; more = omega arith };
  ends = turn_alike p q alike w v r sound;
  within = let e = price_same w v r in omega (arith, e);
})
