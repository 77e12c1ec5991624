-- Turns that enter a call or leave one are met by like turns.
use Rattle.std.specs.Prelude.{◌≡◌, ℕ, ◌+◌, ◌<◌, Bool, true, false, cond, eqb, nat_le, List, [], ◌∷◌, ◌++◌, length, map, slice_get, Option, Some, None, option_map}
use Rattle.std.specs.Option.{option_and_then}
use Rattle.std.proofs.Common.{◌∙◌, ap, sym, refl, subst, inl, inr, arith, append-nil}
use Rattle.std.proofs.lemmas.Bool.Decides.{eqb_tells}
use Rattle.std.proofs.lemmas.Option.{slice_get-map}
use Rattle.cc_base.specs.declared.run.Outcome.TheVariants as outcome
use Rattle.pass_core.specs.Alike.{TurnAlike, IsSound}
use Rattle.pass_core.specs.Inputs.{IsAnswer}
use Rattle.pass_core.specs.Lists.{EachMatches}
use Rattle.pass_core.specs.Turns.{Turned, On, Ends, needs}
use Rattle.block_mem.specs.Blocks.{Blocks}
use Rattle.block_mem.specs.declared.value.Value.{Value}
use Rattle.block_mem.specs.declared.value.Value.TheVariants.{Int, Ptr}
use Rattle.unit_names.specs.declared.meaning.Meaning.{Meaning}
use Rattle.unit_names.specs.declared.meaning.Meaning.TheVariants as meaning
use Rattle.clight_sem.specs.Turns.{with_locals, without_locals}
use Rattle.core_lang.specs.declared.syntax.Function.{Function}
use Rattle.core_lang.specs.declared.syntax.Statement.{Statement}
use Rattle.core_lang.specs.Meaning as core
use Rattle.core_lang.specs.Meaning.{Program, Item, Do, End, to_do, Frame, World, Temporaries}
use Rattle.unit_passes.specs.Programs as programs
use Rattle.rtl_lang.specs.declared.syntax.RtlParts.{RtlParts}
use Rattle.rtl_lang.specs.Meaning as rtl
use Rattle.rtl_lang.specs.Meaning.{RtlFrame, RtlWorld, RtlProgram}
use Rattle.rtl_lang.specs.laws.Temporaries.{put_same, put_other}
use Rattle.rtl_gen.specs.Trees.{body_code}
use Rattle.rtl_gen.specs.Translation.{base_of, lay_end, rtl_function}
use Rattle.rtl_gen.specs.Relation.{Graph, Stands, Todo, graph_of, Low, Stood, rtl_frame, FrameAlike, rtl_world, Related, rtl_program}
use Rattle.rtl_gen.specs.laws.Laying.{body_stands}

-- Functions in Rtl

locals_same : (f : Function) → (rtl_function f).locals ≡ f.locals
unfolding rtl_function
locals_same f = refl

parameters_same : (f : Function) → (rtl_function f).parameters ≡ f.parameters
unfolding rtl_function
parameters_same f = refl

need_same : (f : Function) → (rtl_function f).need ≡ f.need
unfolding rtl_function
need_same f = refl

-- What is to do

-- the statements of a list stand one behind another
pub body_todo : (g : Graph) (base end : ℕ) (ss : List Statement) (left : List Item) (p q : ℕ) (es : List ℕ) → Stands g base end (body_code ss) p q es → Todo g base end left q es → Todo g base end (to_do ss ++ left) p es
body_todo g base end [] left p q es stands todo = subst (λ (m : ℕ). Todo g base end left m es) (sym stands) todo
body_todo g base end (s ∷ ss) left p q es stands todo = (stands.0, stands.1, body_todo g base end ss left stands.0 q es stands.2 todo)

pub low_put : (base : ℕ) (t u : Temporaries) (k : ℕ) (v : Value) → Low base t u → Low base (core.put t k v) (rtl.put u k v)
low_put base t u k v low j x lt h = elim (eqb_tells j k) [
  | inl e ↦ ap (λ (i : ℕ). rtl.put u k v i) e.1 ∙ put_same u k v ∙ sym (put_same t k v) ∙ ap (λ (i : ℕ). core.put t k v i) (sym e.1) ∙ h
  | inr e ↦ put_other u k j v e.1 ∙ low j x lt (sym (put_other t k j v e.1) ∙ h)
]

-- the body at the start of a call
entry_todo : (f : Function) → Todo (graph_of f) (base_of f) (lay_end f).0 (to_do f.body) (rtl_function f).entry []
entry_todo f =
    let e = append-nil (to_do f.body) in
    subst (λ (left : List Item). Todo (graph_of f) (base_of f) (lay_end f).0 left (rtl_function f).entry []) e
    (body_todo (graph_of f) (base_of f) (lay_end f).0 f.body [] (rtl_function f).entry (lay_end f).0 [] (body_stands f) (refl, refl))

mapped : (o : Option (List Function)) (index : ℕ) → option_and_then (λ (fs : List RtlParts). slice_get fs index) (option_map (map rtl_function) o) ≡ option_map rtl_function (option_and_then (λ (fs : List Function). slice_get fs index) o)
mapped None index = refl
mapped (Some fs) index = slice_get-map rtl_function fs index

-- Related worlds

abbrev rtl_at : Blocks → ℕ → RtlFrame → List RtlFrame → RtlWorld
rtl_at m calls top below = record { memory = m; calls = calls; top = top; below = below }

pub related : (w : World) (left : List Item) (n : ℕ) (u : Temporaries) (rs : List RtlFrame) → Stood w.top.function left w.top.temporaries n u → EachMatches FrameAlike w.below rs → Related (core.with_left w left) (rtl_world w n u rs)
related w left n u rs x below = record { node = n; temporaries = u; frames = rs; same = refl; stood = x; below = below }

pub put_related : (w : World) (v : RtlWorld) (k : ℕ) (x : Value) → Related w v → Related (core.with_temporary w k x) (rtl.with_temporary v k x)
put_related w v k x r = record {
  node = r.node;
  temporaries = rtl.put r.temporaries k x;
  frames = r.frames;
  same = ap (λ u. rtl.with_temporary u k x) r.same;
  stood = record { exits = r.stood.exits; todo = r.stood.todo; low = low_put _ w.top.temporaries r.temporaries k x r.stood.low };
  below = r.below;
}

needs_same : (fs : List Frame) (rs : List RtlFrame) → EachMatches FrameAlike fs rs → needs rtl.frame_need rs ≡ needs core.need_of fs
needs_same [] [] a = refl
needs_same [] (r ∷ rs) a = absurd a
needs_same (f ∷ fs) [] a = absurd a
needs_same (f ∷ fs) (r ∷ rs) a =
    let e = needs_same fs rs a.1 in
    let n : r.function.need ≡ f.function.need = ap (λ (x : RtlFrame). x.function.need) a.0.same ∙ need_same f.function in
    omega (arith, e, n)

module _ (p : Program) where
  -- Returns

  back_related : (w : World) (n : ℕ) (u : Temporaries) (ss : List RtlFrame) (f : Frame) (fs : List Frame) (r : RtlFrame) (rs : List RtlFrame) → FrameAlike f r → EachMatches FrameAlike fs rs → Related (core.back_in w f fs) (rtl.back_in (rtl_world w n u ss) r rs)
  back_related w n u ss f fs r rs a below = record {
    node = a.node;
    temporaries = a.temporaries;
    frames = rs;
    same =
        ap (λ (ls : List ℕ). rtl_at (without_locals w.memory w.top.activation 0 ls) w.calls r rs) (locals_same w.top.function)
        ∙ ap (λ (x : RtlFrame). rtl_at (without_locals w.memory w.top.activation 0 w.top.function.locals) w.calls x rs) a.same;
    stood = a.stood;
    below = below;
  }

  given_alike : (to : Option ℕ) (x : Option Value) (w : World) (v : RtlWorld) → Related w v → TurnAlike Related (core.given to x w) (rtl.given to x v)
  given_alike None x w v r = r
  given_alike (Some k) None w v r = refl
  given_alike (Some k) (Some x) w v r = put_related w v k x r

  pub left_alike : (w : World) (n : ℕ) (u : Temporaries) (ss : List RtlFrame) (x : Option Value) (fs : List Frame) (rs : List RtlFrame) → EachMatches FrameAlike fs rs → TurnAlike Related (core.left_with w x fs) (rtl.left_with (rtl_world w n u ss) x rs)
  left_alike w n u ss x [] (r ∷ rs) a = absurd a
  left_alike w n u ss x (f ∷ fs) [] a = absurd a
  left_alike w n u ss None [] [] a = refl
  left_alike w n u ss (Some (Int k)) [] [] a = refl
  left_alike w n u ss (Some (Ptr b o)) [] [] a = refl
  left_alike w n u ss None (f ∷ fs) (r ∷ rs) a = given_alike w.top.result None (core.back_in w f fs) (rtl.back_in (rtl_world w n u ss) r rs) (back_related w n u ss f fs r rs a.0 a.1)
  left_alike w n u ss (Some v) (f ∷ fs) (r ∷ rs) a = given_alike w.top.result (Some v) (core.back_in w f fs) (rtl.back_in (rtl_world w n u ss) r rs) (back_related w n u ss f fs r rs a.0 a.1)

  -- Calls

  room_alike : (w : World) (v : RtlWorld) (a b : Bool) → b ≡ a → Related w v → TurnAlike Related (cond a (On w) (Ends outcome.Deep)) (cond b (On v) (Ends outcome.Deep))
  room_alike w v true true e r = r
  room_alike w v true false e r = cc
  room_alike w v false true e r = cc
  room_alike w v false false e r = refl

  -- a call goes wrong in both where the number of its arguments is another one
  count_alike : (a b : Bool) (x : Turned World) (y : Turned RtlWorld) → b ≡ a → TurnAlike Related x y → TurnAlike Related (cond a x (Ends outcome.Wrong)) (cond b y (Ends outcome.Wrong))
  count_alike true true x y e r = r
  count_alike true false x y e r = cc
  count_alike false true x y e r = cc
  count_alike false false x y e r = refl

  pub function_alike : (unit index : ℕ) → programs.function_at (rtl_program p) unit index ≡ option_map rtl_function (core.function_at p unit index)
  function_alike unit index = ap (λ o. option_and_then (λ (fs : List RtlParts). slice_get fs index) o) (slice_get-map (map rtl_function) p.functions unit) ∙ mapped (slice_get p.functions unit) index

  -- the start of a call, with the calls below
  entered_alike : (m : Blocks) (calls unit : ℕ) (o : Option Function) (vs : List Value) (to : Option ℕ) (fs : List Frame) (rs : List RtlFrame) → EachMatches FrameAlike fs rs → TurnAlike Related (core.entered p m calls unit o vs to fs) (rtl.entered (rtl_program p) m calls unit (option_map rtl_function o) vs to rs)
  entered_alike m calls unit None vs to fs rs below = refl
  entered_alike m calls unit (Some f) vs to fs rs below =
      let g = rtl_function f in
      let new : World = record { memory = with_locals m calls 0 f.locals; calls = calls + 1; top = core.new_frame unit f calls vs to; below = fs } in
      let there : RtlWorld = record { memory = with_locals m calls 0 g.locals; calls = calls + 1; top = rtl.new_frame unit g calls vs to; below = rs } in
      let r : Related new there = record {
        node = g.entry;
        temporaries = rtl.first_temporaries vs;
        frames = rs;
        same = ap (λ (ls : List ℕ). rtl_at (with_locals m calls 0 ls) (calls + 1) (rtl.new_frame unit g calls vs to) rs) (locals_same f);
        stood = record {
          exits = [];
          todo = entry_todo f;
          low = λ j v lt h. h;
        };
        below = below;
      } in
      let room : needs rtl.frame_need (there.top ∷ there.below) ≡ needs core.need_of (new.top ∷ new.below) =
      let a = needs_same fs rs below in let b = need_same f in omega (arith, a, b) in
      count_alike _ _ _ _ (ap (λ (k : ℕ). eqb (length vs) k) (parameters_same f))
      (room_alike new there _ _ (ap (λ (k : ℕ). nat_le k p.room) room) r)

  gave_alike : (w : World) (v : RtlWorld) (to : Option ℕ) (vs : List Value) → Related w v → TurnAlike Related (core.gave w to vs) (rtl.gave v to vs)
  gave_alike w v None [] r = refl
  gave_alike w v None (Int k ∷ []) r = (refl, r)
  gave_alike w v None (Ptr b o ∷ []) r = refl
  gave_alike w v None (x ∷ y ∷ vs) r = refl
  gave_alike w v (Some k) vs r = refl

  got_alike : (w : World) (v : RtlWorld) (to : Option ℕ) (word : ℕ) → Related w v → Related (core.got to w word) (rtl.with_result v to (Int word))
  got_alike w v None word r = r
  got_alike w v (Some k) word r = put_related w v k (Int word) r

  pub called_alike : (w : World) (n : ℕ) (u : Temporaries) (rs : List RtlFrame) (m : Meaning) (to : Option ℕ) (vs : List Value) → Stood w.top.function w.top.left w.top.temporaries n u → EachMatches FrameAlike w.below rs → TurnAlike Related (core.called_with p w m to vs) (rtl.called_with (rtl_program p) (rtl_world w n u rs) m to vs)
  called_alike w n u rs (meaning.Function unit index) to vs x below =
      let a : FrameAlike w.top (rtl_frame w.top n u) = record { node = n; temporaries = u; same = refl; stood = x } in
      subst (λ (o : Option RtlParts). TurnAlike Related (core.entered p w.memory w.calls unit (core.function_at p unit index) vs to (w.top ∷ w.below)) (rtl.entered (rtl_program p) w.memory w.calls unit o vs to (rtl_frame w.top n u ∷ rs))) (sym (function_alike unit index))
      (entered_alike w.memory w.calls unit (core.function_at p unit index) vs to (w.top ∷ w.below) (rtl_frame w.top n u ∷ rs) (a, below))
  called_alike w n u rs meaning.GetByte to vs x below = λ word answer. got_alike w (rtl_world w n u rs) to word (related w w.top.left n u rs x below)
  called_alike w n u rs meaning.PutByte to vs x below = gave_alike w (rtl_world w n u rs) to vs (related w w.top.left n u rs x below)
  called_alike w n u rs meaning.Nothing to vs x below = refl

  pub main_alike : (m : Blocks) (unit index : ℕ) → TurnAlike Related (core.entered p m 0 unit (core.function_at p unit index) [] None []) (rtl.entered (rtl_program p) m 0 unit (programs.function_at (rtl_program p) unit index) [] None [])
  main_alike m unit index =
      subst (λ (o : Option RtlParts). TurnAlike Related (core.entered p m 0 unit (core.function_at p unit index) [] None []) (rtl.entered (rtl_program p) m 0 unit o [] None [])) (sym (function_alike unit index))
      (entered_alike m 0 unit (core.function_at p unit index) [] None [] [] tt)
