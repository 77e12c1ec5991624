-- Each turn of Core is met.
use Rattle.std.specs.Prelude.{◌≡◌, ℕ, ◌+◌, ◌*◌, ◌<◌, ◌≤◌, Bool, true, false, List, [], ◌∷◌, ◌++◌, length, map, get_or, Option, Some, None, slice_get}
use Rattle.std.proofs.Common.{zero, suc, ◌∙◌, ap, sym, refl, subst, inl, inr, arith, append_assoc}
use Rattle.pass_core.specs.Alike.{TurnAlike, IsSound, Goes, Arrives, Moves, TurnMet, EachTurnMet}
use Rattle.pass_core.specs.Lists.{EachMatches}
use Rattle.pass_core.specs.Turns.{Turned, On}
use Rattle.pass_core.specs.laws.Turns.{goes_none, goes_then, goes_costing}
use Rattle.block_mem.specs.Blocks.{Blocks}
use Rattle.block_mem.specs.Access.{store}
use Rattle.block_mem.specs.declared.value.Value.{Value}
use Rattle.block_mem.specs.declared.value.Value.TheVariants.{Int}
use Rattle.block_mem.specs.declared.value.Width.{Width}
use Rattle.clight_sem.specs.Values.{truth_of}
use Rattle.core_lang.specs.declared.syntax.Ending.{Ending}
use Rattle.core_lang.specs.declared.syntax.Ending.TheVariants as ending
use Rattle.core_lang.specs.declared.syntax.Expression.{Expression}
use Rattle.core_lang.specs.declared.syntax.Function.{Function}
use Rattle.core_lang.specs.declared.syntax.Statement.{Statement, out-Statement}
use Rattle.core_lang.specs.declared.syntax.Statement.TheOpen.{Statement-F}
use Rattle.core_lang.specs.declared.syntax.Statement.TheFolds.{map-Statement, fold_out-Statement}
use Rattle.core_lang.specs.Meaning as core
use Rattle.core_lang.specs.Meaning.{Program, Item, Do, End, to_do, leave, Frame, World, Temporaries, value_of, scene_of, with_left, statement_step, step_of}
use Rattle.core_lang.specs.Prices.{expression_price, all_prices, statement_price, first_price}
use Rattle.core_lang.specs.Units.{turns}
use Rattle.rtl_lang.specs.declared.syntax.RtlNode.TheVariants as node
use Rattle.rtl_lang.specs.Meaning as rtl
use Rattle.rtl_lang.specs.Meaning.{RtlFrame, RtlWorld, RtlProgram, put, at, rtl_turn, node_turn, node_of}
use Rattle.rtl_lang.specs.Prices.{node_price}
use Rattle.rtl_lang.specs.Units.{rtl_turns}
use Rattle.rtl_gen.specs.Trees.{Tree, Constant, tree, Code, code_step, code, body_code}
use Rattle.rtl_gen.specs.Translation.{home, homes, end_value, base_of, lay_end, rtl_function}
use Rattle.rtl_gen.specs.Relation.{Graph, Into, Operand, Operands, Returns, Stands, Todo, graph_of, Low, Stood, FrameAlike, rtl_world, Related, rtl_program, code_count, left_count, measure}
use Rattle.rtl_gen.specs.laws.Trees.{tree_value, tree_price, tree_prices, value_is, values_are, price_is, prices_are}
use Rattle.rtl_gen.specs.laws.Laying.{end_stands}
use Rattle.rtl_gen.specs.laws.Expressions.{low_kept, goes_node, Evaluated, Ready, into, ready, AllReady, all_ready}
use Rattle.rtl_gen.specs.laws.Calling.{body_todo, low_put, related, left_alike, called_alike}

truth_has : (o : Option Value) (b : Bool) → truth_of o ≡ Some b → (x : Value) × (o ≡ Some x)
truth_has None b h = cc
truth_has (Some x) b h = (x, refl)

homes_length : (k : ℕ) (es : List Expression) → length (homes k (map tree es)) ≡ length es
homes_length k [] = refl
homes_length k (e ∷ es) = ap suc (homes_length (suc k) es)

body_count : (ss : List Statement) (left : List Item) → left_count (to_do ss ++ left) ≡ code_count (body_code ss) + left_count left
body_count [] left = omega arith
body_count (s ∷ ss) left = let e = body_count ss left in omega (arith, e)

-- an exit leads where the list of exits says
left_by : (g : Graph) (base end n : ℕ) (left : List Item) (q p : ℕ) (es : List ℕ) → Todo g base end left q es → get_or es n end ≡ p → (fs : List ℕ) × Todo g base end (leave n left) p fs × (left_count (leave n left) ≤ left_count left)
left_by g base end n [] q p es todo exit = ([], (refl, sym exit ∙ ap (λ (xs : List ℕ). get_or xs n end) todo.0), omega arith)
left_by g base end n (Do s ∷ left) q p es todo exit =
    let r = left_by g base end n left todo.0 p es todo.2 exit in
    let le : left_count (leave n left) ≤ left_count left = r.2 in
    (r.0, r.1, omega (arith, le))
left_by g base end zero (End ∷ left) q p es todo exit =
    let same : q ≡ p = sym (ap (λ (xs : List ℕ). get_or xs zero end) todo.1) ∙ exit in
    (todo.0, subst (λ (m : ℕ). Todo g base end left m todo.0) same todo.2, omega arith)
left_by g base end (suc n) (End ∷ left) q p es todo exit =
    let r = left_by g base end n left q p todo.0 todo.2 (sym (ap (λ (xs : List ℕ). get_or xs (suc n) end) todo.1) ∙ exit) in
    let le : left_count (leave n left) ≤ left_count left = r.2 in
    (r.0, r.1, omega (arith, le))

module _ (p : Program) where
  abbrev q : RtlProgram
  q = rtl_program p

  abbrev Answer : Turned World → ℕ → ℕ → RtlWorld → Type 0
  Answer turned cost size v = TurnMet (rtl_turns q) Related measure (0, size) turned v cost

  -- by some turns
  walked : (next : World) (v target : RtlWorld) (cost size : ℕ) → Goes (rtl_turns q) v target 1 cost → Related next target → Answer (On next) cost size v
  walked next v target cost size goes r = inl (record {
    next = next;
    is = refl;
    target = target;
    least = 1;
    goes = goes;
    relates = r;
    falls = λ none. absurd (omega (arith, none));
  })

  -- by none
  silent : (w : World) (left : List Item) (n : ℕ) (u : Temporaries) (rs : List RtlFrame) (cost size : ℕ) → Stood w.top.function left w.top.temporaries n u → EachMatches FrameAlike w.below rs → left_count left < size → Answer (On (with_left w left)) cost size (rtl_world w n u rs)
  silent w left n u rs cost size x below lt = inl (record {
    next = with_left w left;
    is = refl;
    target = rtl_world w n u rs;
    least = 0;
    goes = goes_costing (rtl_turns q) (omega arith) (goes_none (rtl_turns q) (rtl_world w n u rs));
    relates = related w left n u rs x below;
    falls = λ none. inr (refl, lt);
  })

  -- A call that has taken its first item, has what is behind it to do, and stands at n. What is behind stands at `behind`

  module _ (w : World) (n : ℕ) (u : Temporaries) (rs : List RtlFrame) (below : EachMatches FrameAlike w.below rs) (low : Low (base_of w.top.function) w.top.temporaries u) where
    abbrev g : Graph
    g = graph_of w.top.function

    abbrev base : ℕ
    base = base_of w.top.function

    abbrev end : ℕ
    end = (lay_end w.top.function).0

    abbrev ts : Temporaries
    ts = w.top.temporaries

    abbrev v : RtlWorld
    v = rtl_world w n u rs

    abbrev size : ℕ
    size = left_count w.top.left

    -- Returns

    return_none : (cost s : ℕ) → 12 ≤ cost → g n ≡ Some (node.Return None) → Answer (core.left_with w None w.below) cost s v
    return_none cost s few here = inr (record {
      last = v;
      before = 0;
      goes = goes_none (rtl_turns q) v;
      ends = subst (TurnAlike Related (core.left_with w None w.below)) (sym (ap (node_turn q v) here)) (left_alike p w n u rs None w.below rs below);
      within = let e : node_price (node_of v) ≡ 12 = ap node_price here in omega (arith, e, few);
    })

    return_some : (e : Tree) (a : Value) (cost s : ℕ) → tree_value (scene_of p w) e ≡ Some a → 12 + tree_price e ≤ cost → Returns g base (Some e) n → Answer (core.left_with w (Some a) w.below) cost s v
    return_some e a cost s is few h =
        let r = ready q v base ts e base n h.0 u a (omega arith) low is h.1 in
        let last : RtlWorld = at v h.0 r.after in
        let turn : rtl_turn q last ≡ rtl.left_with last (Some a) rs = ap (node_turn q last) h.2 ∙ ap (rtl.left_if last) r.here in
        inr (record {
          last = last;
          before = tree_price e;
          goes = r.goes;
          ends = subst (TurnAlike Related (core.left_with w (Some a) w.below)) (sym turn) (left_alike p w h.0 r.after rs (Some a) w.below rs below);
          within = let e : node_price (node_of last) ≡ 12 = ap node_price h.2 in omega (arith, e, few);
        })

    return_meets : (e : Expression) (o : Option Value) (s : ℕ) → value_of (scene_of p w) e ≡ o → Returns g base (Some (tree e)) n → IsSound (core.left_if w o) → Answer (core.left_if w o) (12 + expression_price e) s v
    return_meets e None s is h sound = absurd (sound.0 refl)
    return_meets e (Some a) s is h sound = return_some (tree e) a (12 + expression_price e) s (sym (value_is (scene_of p w) e) ∙ is) (let c = price_is e in omega (arith, c)) h

    ended_meets : (e : Ending) (s : ℕ) → Returns g base (end_value e) n → IsSound (core.ended_by w e) → Answer (core.ended_by w e) 15 s v
    ended_meets ending.Bare s h sound = return_none 15 s (omega arith) h
    ended_meets ending.Zero s h sound = return_some (Constant 0) (Int 0) 15 s refl (omega arith) h
    ended_meets ending.Stuck s h sound = absurd (sound.0 refl)

    module _ (behind : ℕ) (es : List ℕ) (rest : Todo (graph_of w.top.function) (base_of w.top.function) (lay_end w.top.function).0 w.top.left behind es) where
      set_meets : (j : ℕ) (e : Expression) (o : Option Value) → value_of (scene_of p w) e ≡ o → Into g base (tree e) base j n behind → IsSound (core.set_if w j o) → Answer (core.set_if w j o) (expression_price e) (1 + size) v
      set_meets j e None is h sound = absurd (sound.0 refl)
      set_meets j e (Some a) is h sound =
          let r = into q v base ts (tree e) base j n behind u a (omega arith) low (sym (value_is (scene_of p w) e) ∙ is) h in
          walked (core.with_temporary w j a) v (at v behind (put r.before j a)) (expression_price e) (1 + size) (goes_costing (rtl_turns q) (let c = price_is e in omega (arith, c)) r.goes)
          (record {
            node = behind;
            temporaries = put r.before j a;
            frames = rs;
            same = refl;
            stood = record { exits = es; todo = rest; low = low_put base ts r.before j a (low_kept (omega arith) low r.keeps) };
            below = below;
          })

      stored_meets : (width : Width) (a b : Expression) (x y : Value) (o : Option Blocks) → store w.memory x width y ≡ o → value_of (scene_of p w) a ≡ Some x → value_of (scene_of p w) b ≡ Some y → (m : ℕ) × Operand g base (tree a) base n m × ((i : ℕ) × Operand g base (tree b) (suc base) m i × (g i ≡ Some (node.Store width (home base (tree a)) (home (suc base) (tree b)) behind))) → IsSound (core.with_memory w o) → Answer (core.with_memory w o) (4 + expression_price a + expression_price b) (1 + size) v
      stored_meets width a b x y None is ia ib h sound = absurd (sound.0 refl)
      stored_meets width a b x y (Some m) is ia ib h sound =
          let r = ready q v base ts (tree a) base n h.0 u x (omega arith) low (sym (value_is (scene_of p w) a) ∙ ia) h.1 in
          let low2 = low_kept (omega arith) low r.keeps in
          let s = ready q v base ts (tree b) (suc base) h.0 h.2.0 r.after y (omega arith) low2 (sym (value_is (scene_of p w) b) ∙ ib) h.2.1 in
          let low3 : Low base ts s.after = low_kept {k = suc base} (omega arith) low2 s.keeps in
          let left : s.after (home base (tree a)) ≡ Some x = s.keeps (home base (tree a)) (omega (arith, r.low)) ∙ r.here in
          let target : RtlWorld = record (at v behind s.after) { memory = m } in
          let turn : node_turn q (at v h.2.0 s.after) (Some (node.Store width (home base (tree a)) (home (suc base) (tree b)) behind)) ≡ On target =
          ap (λ o. rtl.store_if (at v behind s.after) width o (s.after (home (suc base) (tree b)))) left
          ∙ ap (rtl.store_if (at v behind s.after) width (Some x)) s.here
          ∙ ap (rtl.with_memory (at v behind s.after)) is in
          let goes : Goes (rtl_turns q) v target 1 (tree_price (tree a) + tree_price (tree b) + 4) =
          goes_then (rtl_turns q) (goes_then (rtl_turns q) r.goes s.goes) (goes_node q (at v h.2.0 s.after) target _ 4 h.2.2 turn (omega arith)) in
          walked (record w { memory = m }) v target (4 + expression_price a + expression_price b) (1 + size)
          (goes_costing (rtl_turns q) (let c = price_is a in let d = price_is b in omega (arith, c, d)) goes)
          (record { node = behind; temporaries = s.after; frames = rs; same = refl; stood = record { exits = es; todo = rest; low = low3 }; below = below })

      store_meets : (width : Width) (a b : Expression) (o o' : Option Value) → value_of (scene_of p w) a ≡ o → value_of (scene_of p w) b ≡ o' → (m : ℕ) × Operand g base (tree a) base n m × ((i : ℕ) × Operand g base (tree b) (suc base) m i × (g i ≡ Some (node.Store width (home base (tree a)) (home (suc base) (tree b)) behind))) → IsSound (core.store_if w width o o') → Answer (core.store_if w width o o') (4 + expression_price a + expression_price b) (1 + size) v
      store_meets width a b None o' ia ib h sound = absurd (sound.0 refl)
      store_meets width a b (Some x) None ia ib h sound = absurd (sound.0 refl)
      store_meets width a b (Some x) (Some y) ia ib h sound = stored_meets width a b x y _ refl ia ib h sound

      -- an arm of a choice
      arm_meets : (e : Expression) (arm : List Statement) (m i y z : ℕ) (t : Temporaries) → Low base ts t → Goes (rtl_turns q) v (at v m t) 0 (tree_price (tree e)) → g m ≡ Some (node.Branch (home base (tree e)) y z) → node_turn q (at v m t) (Some (node.Branch (home base (tree e)) y z)) ≡ On (at v i t) → Stands g base end (body_code arm) i behind es → Answer (On (core.before (to_do arm) w)) (5 + expression_price e) (1 + size) v
      arm_meets e arm m i y z t low2 goes here turn stands =
          walked (core.before (to_do arm) w) v (at v i t) (5 + expression_price e) (1 + size)
          (goes_costing (rtl_turns q) (let c = price_is e in omega (arith, c)) (goes_then (rtl_turns q) goes (goes_node q (at v m t) (at v i t) _ 5 here turn (omega arith))))
          (related w (to_do arm ++ w.top.left) i t rs (record { exits = es; todo = body_todo g base end arm w.top.left i behind es stands rest; low = low2 }) below)

      if_meets : (e : Expression) (this that : List Statement) (o : Option Bool) → truth_of (value_of (scene_of p w) e) ≡ o → (m : ℕ) × Operand g base (tree e) base n m × ((y : ℕ) × (z : ℕ) × (g m ≡ Some (node.Branch (home base (tree e)) y z)) × Stands g base end (body_code this) y behind es × Stands g base end (body_code that) z behind es) → IsSound (core.branched w o this that) → Answer (core.branched w o this that) (5 + expression_price e) (1 + size) v
      if_meets e this that None is h sound = absurd (sound.0 refl)
      if_meets e this that (Some true) is h sound =
          let x = truth_has (value_of (scene_of p w) e) true is in
          let r = ready q v base ts (tree e) base n h.0 u x.0 (omega arith) low (sym (value_is (scene_of p w) e) ∙ x.1) h.1 in
          let so : truth_of (r.after (home base (tree e))) ≡ Some true = ap truth_of r.here ∙ sym (ap truth_of x.1) ∙ is in
          arm_meets e this h.0 h.2.0 h.2.0 h.2.1 r.after (low_kept (omega arith) low r.keeps) r.goes h.2.2 (ap (λ o. rtl.branched (at v h.0 r.after) o h.2.0 h.2.1) so) h.2.3
      if_meets e this that (Some false) is h sound =
          let x = truth_has (value_of (scene_of p w) e) false is in
          let r = ready q v base ts (tree e) base n h.0 u x.0 (omega arith) low (sym (value_is (scene_of p w) e) ∙ x.1) h.1 in
          let so : truth_of (r.after (home base (tree e))) ≡ Some false = ap truth_of r.here ∙ sym (ap truth_of x.1) ∙ is in
          arm_meets e that h.0 h.2.1 h.2.0 h.2.1 r.after (low_kept (omega arith) low r.keeps) r.goes h.2.2 (ap (λ o. rtl.branched (at v h.0 r.after) o h.2.0 h.2.1) so) h.2.4

      call_meets : (to : Option ℕ) (callee : ℕ) (xs : List Expression) (o : Option (List Value)) → core.all_values (scene_of p w) xs ≡ o → (m : ℕ) × Operands g base (map tree xs) base n m × (g m ≡ Some (node.Call callee (homes base (map tree xs)) to behind)) → IsSound (core.called_if p w (core.callee_at p w.top.unit callee) to o) → Answer (core.called_if p w (core.callee_at p w.top.unit callee) to o) (24 + 5 * length xs + all_prices xs) (1 + size) v
      call_meets to callee xs None is h sound = absurd (sound.0 refl)
      call_meets to callee xs (Some vs) is h sound =
          let m = core.callee_at p w.top.unit callee in
          let r = all_ready q v base ts (map tree xs) base n h.0 u vs (omega arith) low (sym (values_are (scene_of p w) xs) ∙ is) h.1 in
          let last : RtlWorld = at v h.0 r.after in
          let turn : rtl_turn q last ≡ rtl.called_with q (at v behind r.after) m to vs =
          ap (node_turn q last) h.2 ∙ ap (rtl.called_if q (at v behind r.after) m to) r.here in
          inr (record {
            last = last;
            before = tree_prices (map tree xs);
            goes = r.goes;
            ends = subst (TurnAlike Related (core.called_with p w m to vs)) (sym turn)
                (called_alike p w behind r.after rs m to vs (record { exits = es; todo = rest; low = low_kept (omega arith) low r.keeps }) below);
            within =
                let price : node_price (node_of last) ≡ 24 + 5 * length (homes base (map tree xs)) = ap node_price h.2 in
                let few = homes_length base xs in
                let c = prices_are xs in
                omega (arith, price, few, c);
          })

      -- the statement counts one
      sized : (s : Statement) {c : Code} {turned : Turned World} {cost : ℕ} → code s ≡ c → code_count c ≡ 1 → Answer turned cost (1 + size) v → Answer turned cost (left_count (Do s ∷ w.top.left)) v
      sized s {c} {turned} {cost} is one x = let e : 1 + size ≡ left_count (Do s ∷ w.top.left) = let d : code_count (code s) ≡ code_count c = ap code_count is in omega (arith, d, one) in subst (λ (k : ℕ). Answer turned cost k v) e x

      -- a row for each statement
      pub row_meets : (s : Statement) (x : Statement-F Statement) → Stands g base end (code s) n behind es → Stands g base end (code_step (map-Statement Statement Code code x)) n behind es → code s ≡ code_step (map-Statement Statement Code code x) → IsSound (statement_step p w s x) → Answer (statement_step p w s x) (statement_price x) (left_count (Do s ∷ w.top.left)) v
      row_meets s (Statement-F.Set j e) whole h is sound = sized s is refl (set_meets j e _ refl h sound)
      row_meets s (Statement-F.Store width a b) whole h is sound = sized s is refl (store_meets width a b _ _ refl refl h sound)
      row_meets s (Statement-F.Call to callee xs) whole h is sound = sized s is refl (call_meets to callee xs _ refl h sound)
      row_meets s (Statement-F.If e this that) whole h is sound = sized s is refl (if_meets e this that _ refl h sound)
      row_meets s (Statement-F.Loop body) whole h is sound =
          let left = (to_do body ++ Do s ∷ []) ++ w.top.left in
          let todo : Todo g base end (to_do body ++ Do s ∷ w.top.left) h.0 es = body_todo g base end body (Do s ∷ w.top.left) h.0 n es h.2 (behind, whole, rest) in
          walked (with_left w left) v (at v h.0 u) 1 _ (goes_node q v (at v h.0 u) (node.Nop h.0) 1 h.1 refl (omega arith))
          (related w left h.0 u rs (record { exits = es; todo = subst (λ (l : List Item). Todo g base end l h.0 es) (sym (append_assoc (to_do body) (Do s ∷ []) w.top.left)) todo; low = low }) below)
      row_meets s (Statement-F.Block body) whole h is sound =
          let left = (to_do body ++ End ∷ []) ++ w.top.left in
          let joined = append_assoc (to_do body) (End ∷ []) w.top.left in
          let todo : Todo g base end (to_do body ++ End ∷ w.top.left) n (behind ∷ es) = body_todo g base end body (End ∷ w.top.left) n behind (behind ∷ es) h (es, refl, rest) in
          silent w left n u rs 0 _ (record { exits = behind ∷ es; todo = subst (λ (l : List Item). Todo g base end l n (behind ∷ es)) (sym joined) todo; low = low }) below
          (let a = ap left_count joined in let b = body_count body (End ∷ w.top.left) in let c : code_count (code s) ≡ 2 + code_count (body_code body) = ap code_count is in omega (arith, a, b, c))
      row_meets s (Statement-F.Exit k) whole h is sound =
          let r = left_by g base end k w.top.left behind n es rest h in
          let le : left_count (leave k w.top.left) ≤ left_count w.top.left = r.2 in
          silent w (leave k w.top.left) n u rs 0 _ (record { exits = r.0; todo = r.1; low = low }) below (let c : code_count (code s) ≡ 1 = ap code_count is in omega (arith, le, c))
      row_meets s (Statement-F.Return None) whole h is sound = return_none 12 _ (omega arith) h
      row_meets s (Statement-F.Return (Some e)) whole h is sound = return_meets e _ _ refl h sound

  pub turn_meets : (w : World) (left : List Item) (n : ℕ) (u : Temporaries) (rs : List RtlFrame) → EachMatches FrameAlike w.below rs → Stood w.top.function left w.top.temporaries n u → IsSound (step_of p w left) → Answer (step_of p w left) (first_price left) (left_count left) (rtl_world w n u rs)
  turn_meets w [] n u rs below x sound =
      ended_meets w n u rs below x.low w.top.function.ending _ (subst (λ (m : ℕ). Returns (graph_of w.top.function) (base_of w.top.function) (end_value w.top.function.ending) m) (sym x.todo.1) (end_stands w.top.function)) sound
  turn_meets w (Do s ∷ left) n u rs below x sound =
      let is = fold_out-Statement Code code_step s in
      row_meets (with_left w left) n u rs below x.low x.todo.0 x.exits x.todo.2 s (out-Statement s) x.todo.1
      (subst (λ (c : Code). Stands (graph_of w.top.function) (base_of w.top.function) (lay_end w.top.function).0 c n x.todo.0 x.exits) is x.todo.1) is sound
  turn_meets w (End ∷ left) n u rs below x sound = silent w left n u rs 0 _ (record { exits = x.todo.0; todo = x.todo.2; low = x.low }) below (omega arith)

  pub each_turn_met : EachTurnMet (turns p) (rtl_turns q) Related measure
  each_turn_met w v r sound =
      subst (λ (x : RtlWorld). Answer (step_of p w w.top.left) (first_price w.top.left) (left_count w.top.left) x) (sym r.same)
      (turn_meets w w.top.left r.node r.temporaries r.frames r.below r.stood sound)
