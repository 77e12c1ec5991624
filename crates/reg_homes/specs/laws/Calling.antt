-- Turns that enter a call or leave one are met by like turns.
use Rattle.std.specs.Prelude.{◌≡◌, ℕ, ◌+◌, Bool, true, false, cond, eqb, nat_le, List, [], ◌∷◌, length, Option, Some, None, option_map}
use Rattle.std.proofs.Common.{◌∙◌, ap, sym, refl, subst, arith}
use Rattle.std.proofs.lemmas.Bool.{eqb-true}
use Rattle.cc_base.specs.declared.run.Outcome.TheVariants as outcome
use Rattle.pass_core.specs.Alike.{TurnAlike, IsSound}
use Rattle.pass_core.specs.Turns.{Turned, On, Ends, needs}
use Rattle.block_mem.specs.Blocks.{Blocks}
use Rattle.block_mem.specs.declared.value.Value.{Value}
use Rattle.block_mem.specs.declared.value.Value.TheVariants.{Int, Ptr}
use Rattle.unit_names.specs.declared.meaning.Meaning.{Meaning}
use Rattle.unit_names.specs.declared.meaning.Meaning.TheVariants as meaning
use Rattle.unit_passes.specs.Programs.{function_at}
use Rattle.clight_sem.specs.Turns.{with_locals, without_locals}
use Rattle.rtl_lang.specs.declared.syntax.RtlParts.{RtlParts}
use Rattle.rtl_lang.specs.Meaning as rtl
use Rattle.rtl_lang.specs.Meaning.{Temporaries, RtlFrame, RtlWorld, RtlProgram}
use Rattle.ltl_lang.specs.declared.location.Loc.{Loc}
use Rattle.ltl_lang.specs.declared.syntax.LtlParts.{LtlParts}
use Rattle.ltl_lang.specs.Meaning as ltl
use Rattle.ltl_lang.specs.Meaning.{Contents, LtlFrame, LtlWorld, LtlProgram}
use Rattle.rtl_lang.specs.Routines.{routine}
use Rattle.reg_homes.specs.Homes.{Placed, home_of}
use Rattle.reg_homes.specs.Relation.{Kept, Waits, ltl_frame, Below, Stack, ltl_world, Related, FunctionPlaced, ProgramAlike}
use Rattle.reg_homes.specs.laws.Walking.{parameter_apart}
use Rattle.reg_homes.specs.laws.Keeping.{but_of, filled}
use Rattle.reg_homes.specs.laws.Entering.{placed_first}

-- Related worlds

-- a call that waits no more
pub running : (f : RtlFrame) (h : LtlParts) (u : Contents) → Placed f.function h → Kept (routine f.function) (home_of h.homes) f.node f.temporaries u → Waits None f h u
running f h u made kept = record { made = made; kept = but_of None (routine f.function) (home_of h.homes) f.node f.temporaries u kept; clear = λ a bad. cc }

-- a value comes into a temporary, and into its home
pub put_related : (w : RtlWorld) (h : LtlParts) (u : Contents) (to : Option Loc) (rs : List LtlFrame) (j : ℕ) (v : Value) → Waits (Some j) w.top h u → Stack w.top.result to w.below rs → Related (rtl.with_temporary w j v) (ltl.with_location (ltl_world w h u to rs) (home_of h.homes j) v)
put_related w h u to rs j v x below = record {
  function = h;
  contents = ltl.put u (home_of h.homes j) v;
  result = to;
  frames = rs;
  same = refl;
  top = running (rtl.with_temporary w j v).top h (ltl.put u (home_of h.homes j) v) x.made (filled (routine w.top.function) (home_of h.homes) x.made.apart w.top.node j w.top.temporaries u v x.kept (x.clear j refl));
  below = below;
}

pub still_related : (w : RtlWorld) (h : LtlParts) (u : Contents) (to : Option Loc) (rs : List LtlFrame) → Waits None w.top h u → Stack w.top.result to w.below rs → Related w (ltl_world w h u to rs)
still_related w h u to rs x below = record { function = h; contents = u; result = to; frames = rs; same = refl; top = x; below = below }

-- a result comes
result_related : (await : Option ℕ) (w : RtlWorld) (h : LtlParts) (u : Contents) (to : Option Loc) (rs : List LtlFrame) (v : Value) → Waits await w.top h u → Stack w.top.result to w.below rs → Related (rtl.with_result w await v) (ltl.with_result (ltl_world w h u to rs) (option_map (home_of h.homes) await) v)
result_related None w h u to rs v x below = still_related w h u to rs x below
result_related (Some j) w h u to rs v x below = put_related w h u to rs j v x below

given_alike : (await : Option ℕ) (o : Option Value) (w : RtlWorld) (h : LtlParts) (u : Contents) (to : Option Loc) (rs : List LtlFrame) → Waits await w.top h u → Stack w.top.result to w.below rs → TurnAlike Related (rtl.given await o w) (ltl.given (option_map (home_of h.homes) await) o (ltl_world w h u to rs))
given_alike None o w h u to rs x below = still_related w h u to rs x below
given_alike (Some j) None w h u to rs x below = refl
given_alike (Some j) (Some v) w h u to rs x below = put_related w h u to rs j v x below

-- Returns

abbrev world : Blocks → ℕ → LtlFrame → List LtlFrame → LtlWorld
world m calls top below = record { memory = m; calls = calls; top = top; below = below }

pub left_alike : (w : RtlWorld) (h : LtlParts) (u : Contents) (to : Option Loc) (rs : List LtlFrame) → h.locals ≡ w.top.function.locals → (o : Option Value) (fs : List RtlFrame) → Stack w.top.result to fs rs → TurnAlike Related (rtl.left_with w o fs) (ltl.left_with (ltl_world w h u to rs) o rs)
left_alike w h u to [] locals None [] s = refl
left_alike w h u to [] locals (Some (Int k)) [] s = refl
left_alike w h u to [] locals (Some (Ptr b o)) [] s = refl
left_alike w h u to (r ∷ rs) locals o [] s = absurd s
left_alike w h u to [] locals o (f ∷ fs) s = absurd s
left_alike w h u to (r ∷ rs) locals None (f ∷ fs) s =
    let b : Below w.top.result to f r = s.0 in
    let old : RtlWorld = rtl.back_in w f fs in
    let e : ltl.back_in (ltl_world w h u to (r ∷ rs)) r rs ≡ ltl_world old r.function r.contents r.result rs =
    ap (λ (ls : List ℕ). world (without_locals w.memory w.top.activation 0 ls) w.calls r rs) locals
    ∙ ap (λ (x : LtlFrame). world (without_locals w.memory w.top.activation 0 w.top.function.locals) w.calls x rs) b.same in
    subst (λ (x : LtlWorld). TurnAlike Related (rtl.given w.top.result None old) (ltl.given to None x)) (sym e)
    (subst (λ (l : Option Loc). TurnAlike Related (rtl.given w.top.result None old) (ltl.given l None (ltl_world old r.function r.contents r.result rs))) (sym b.goes_to)
    (given_alike w.top.result None old r.function r.contents r.result rs b.waits s.1))
left_alike w h u to (r ∷ rs) locals (Some v) (f ∷ fs) s =
    let b : Below w.top.result to f r = s.0 in
    let old : RtlWorld = rtl.back_in w f fs in
    let e : ltl.back_in (ltl_world w h u to (r ∷ rs)) r rs ≡ ltl_world old r.function r.contents r.result rs =
    ap (λ (ls : List ℕ). world (without_locals w.memory w.top.activation 0 ls) w.calls r rs) locals
    ∙ ap (λ (x : LtlFrame). world (without_locals w.memory w.top.activation 0 w.top.function.locals) w.calls x rs) b.same in
    subst (λ (x : LtlWorld). TurnAlike Related (rtl.given w.top.result (Some v) old) (ltl.given to (Some v) x)) (sym e)
    (subst (λ (l : Option Loc). TurnAlike Related (rtl.given w.top.result (Some v) old) (ltl.given l (Some v) (ltl_world old r.function r.contents r.result rs))) (sym b.goes_to)
    (given_alike w.top.result (Some v) old r.function r.contents r.result rs b.waits s.1))

-- Calls

needs_same : (a : Option ℕ) (l : Option Loc) (fs : List RtlFrame) (rs : List LtlFrame) → Stack a l fs rs → needs ltl.frame_need rs ≡ needs rtl.frame_need fs
needs_same a l [] [] s = refl
needs_same a l [] (r ∷ rs) s = absurd s
needs_same a l (f ∷ fs) [] s = absurd s
needs_same a l (f ∷ fs) (r ∷ rs) s =
    let e = needs_same f.result r.result fs rs s.1 in
    let n = s.0.waits.made.need in
    omega (arith, e, n)

room_alike : (w : RtlWorld) (v : LtlWorld) (a b : Bool) → b ≡ a → Related w v → TurnAlike Related (cond a (On w) (Ends outcome.Deep)) (cond b (On v) (Ends outcome.Deep))
room_alike w v true true e r = r
room_alike w v true false e r = cc
room_alike w v false true e r = cc
room_alike w v false false e r = refl

fit_alike : (x : Turned RtlWorld) (y : Turned LtlWorld) (a b : Bool) → b ≡ a → (a ≡ true → TurnAlike Related x y) → TurnAlike Related (cond a x (Ends outcome.Wrong)) (cond b y (Ends outcome.Wrong))
fit_alike x y true true e r = r refl
fit_alike x y true false e r = cc
fit_alike x y false true e r = cc
fit_alike x y false false e r = refl

-- the worlds at the start of a call, where the number of arguments fits
entry_related : (m : Blocks) (calls unit : ℕ) (f : RtlParts) (h : LtlParts) (vs : List Value) (await : Option ℕ) (to : Option Loc) (fs : List RtlFrame) (rs : List LtlFrame) → length vs ≡ f.parameters → Placed f h → Stack await to fs rs → Related (rtl.entry_of m calls unit f vs await fs) (ltl.entry_of m calls unit h vs to rs)
entry_related m calls unit f h vs await to fs rs many made below =
    let held : Contents = ltl.first_contents (ltl.parameter_homes h) vs in
    let frame : ℕ → LtlFrame = λ n. record { unit = unit; function = h; activation = calls; contents = held; node = n; result = to } in
    record {
      function = h;
      contents = held;
      result = to;
      frames = rs;
      same =
          ap (λ (ls : List ℕ). world (with_locals m calls 0 ls) (calls + 1) (frame h.entry) rs) made.locals
          ∙ ap (λ (n : ℕ). world (with_locals m calls 0 f.locals) (calls + 1) (frame n) rs) made.entry;
      top = running (rtl.new_frame unit f calls vs await) h held made (λ j v wanted e.
          let e1 = made.parameters in
          let e2 = made.homes in
          let e3 = made.enough in
          placed_first h.homes h.parameters vs j v (e1 ∙ sym many) (omega (arith, e1, e2, e3)) e
          (λ a lt ne same. parameter_apart f (home_of h.homes) made.apart a j (omega (arith, lt, e1)) wanted ne (sym same)));
      below = below;
    }

entered_alike : (p : RtlProgram) (q : LtlProgram) → q.room ≡ p.room → (m : Blocks) (calls unit : ℕ) (f : RtlParts) (h : LtlParts) (vs : List Value) (await : Option ℕ) (to : Option Loc) (fs : List RtlFrame) (rs : List LtlFrame) → Placed f h → Stack await to fs rs → TurnAlike Related (rtl.entered p m calls unit (Some f) vs await fs) (ltl.entered q m calls unit (Some h) vs to rs)
entered_alike p q room m calls unit f h vs await to fs rs made below =
    let n1 = made.need in
    let n2 = needs_same await to fs rs below in
    let n : h.need + needs ltl.frame_need rs ≡ f.need + needs rtl.frame_need fs = omega (arith, n1, n2) in
    fit_alike _ _ (eqb (length vs) f.parameters) (eqb (length vs) h.parameters) (ap (λ (k : ℕ). eqb (length vs) k) made.parameters) (λ few.
    room_alike (rtl.entry_of m calls unit f vs await fs) (ltl.entry_of m calls unit h vs to rs) (nat_le (f.need + needs rtl.frame_need fs) p.room) (nat_le (h.need + needs ltl.frame_need rs) q.room)
    (ap (λ (k : ℕ). nat_le k q.room) n ∙ ap (λ (k : ℕ). nat_le (f.need + needs rtl.frame_need fs) k) room)
    (entry_related m calls unit f h vs await to fs rs (eqb-true (length vs) f.parameters few) made below))

main_function : (p : RtlProgram) (q : LtlProgram) → ProgramAlike p q → (m : Blocks) (unit index : ℕ) (o : Option RtlParts) → function_at p unit index ≡ o → IsSound (rtl.entered p m 0 unit o [] None []) → TurnAlike Related (rtl.entered p m 0 unit o [] None []) (ltl.entered q m 0 unit (function_at q unit index) [] None [])
main_function p q alike m unit index None found sound = absurd (sound.0 refl)
main_function p q alike m unit index (Some f) found sound =
    let there : FunctionPlaced q unit index f = alike.functions unit index f found in
    subst (λ (o : Option LtlParts). TurnAlike Related (rtl.entered p m 0 unit (Some f) [] None []) (ltl.entered q m 0 unit o [] None [])) (sym there.found)
    (entered_alike p q alike.room m 0 unit f there.there [] None None [] [] there.made tt)

-- the turn that enters what `main` means
pub main_alike : (p : RtlProgram) (q : LtlProgram) → ProgramAlike p q → (m : Blocks) (o : Option Meaning) → IsSound (rtl.main_turn p m o) → TurnAlike Related (rtl.main_turn p m o) (ltl.main_turn q m o)
main_alike p q alike m None sound = refl
main_alike p q alike m (Some (meaning.Function unit index)) sound = main_function p q alike m unit index (function_at p unit index) refl sound
main_alike p q alike m (Some meaning.GetByte) sound = refl
main_alike p q alike m (Some meaning.PutByte) sound = refl
main_alike p q alike m (Some meaning.Nothing) sound = refl

module _ (p : RtlProgram) (q : LtlProgram) (alike : ProgramAlike p q) where
  gave_alike : (await : Option ℕ) (home : ℕ → Loc) (w : RtlWorld) (v : LtlWorld) (vs : List Value) → Related w v → TurnAlike Related (rtl.gave w await vs) (ltl.gave v (option_map home await) vs)
  gave_alike None home w v [] r = refl
  gave_alike None home w v (Int k ∷ []) r = (refl, r)
  gave_alike None home w v (Ptr b o ∷ []) r = refl
  gave_alike None home w v (x ∷ y ∷ vs) r = refl
  gave_alike (Some k) home w v vs r = refl

  -- a call of the function that is found, from a caller that waits
  function_alike : (w : RtlWorld) (h : LtlParts) (u : Contents) (to : Option Loc) (rs : List LtlFrame) (await : Option ℕ) (unit index : ℕ) (vs : List Value) → Waits await w.top h u → Stack w.top.result to w.below rs → (o : Option RtlParts) → function_at p unit index ≡ o → IsSound (rtl.entered p w.memory w.calls unit o vs await (w.top ∷ w.below)) → TurnAlike Related (rtl.entered p w.memory w.calls unit o vs await (w.top ∷ w.below)) (ltl.entered q w.memory w.calls unit (function_at q unit index) vs (option_map (home_of h.homes) await) (ltl_frame w.top h u to ∷ rs))
  function_alike w h u to rs await unit index vs x below None found sound = absurd (sound.0 refl)
  function_alike w h u to rs await unit index vs x below (Some f) found sound =
      let there : FunctionPlaced q unit index f = alike.functions unit index f found in
      subst (λ (o : Option LtlParts). TurnAlike Related (rtl.entered p w.memory w.calls unit (Some f) vs await (w.top ∷ w.below)) (ltl.entered q w.memory w.calls unit o vs (option_map (home_of h.homes) await) (ltl_frame w.top h u to ∷ rs))) (sym there.found)
      (entered_alike p q alike.room w.memory w.calls unit f there.there vs await (option_map (home_of h.homes) await) (w.top ∷ w.below) (ltl_frame w.top h u to ∷ rs) there.made (record { waits = x; goes_to = refl; same = refl }, below))

  -- a call of what a name means
  pub called_alike : (w : RtlWorld) (h : LtlParts) (u : Contents) (to : Option Loc) (rs : List LtlFrame) (await : Option ℕ) (vs : List Value) (m : Meaning) → Waits await w.top h u → Stack w.top.result to w.below rs → IsSound (rtl.called_with p w m await vs) → TurnAlike Related (rtl.called_with p w m await vs) (ltl.called_with q (ltl_world w h u to rs) m (option_map (home_of h.homes) await) vs)
  called_alike w h u to rs await vs (meaning.Function unit index) x below sound = function_alike w h u to rs await unit index vs x below (function_at p unit index) refl sound
  called_alike w h u to rs await vs meaning.GetByte x below sound = λ word answer. result_related await w h u to rs (Int word) x below
  called_alike w h u to rs None vs meaning.PutByte x below sound = gave_alike None (home_of h.homes) w (ltl_world w h u to rs) vs (still_related w h u to rs x below)
  called_alike w h u to rs (Some k) vs meaning.PutByte x below sound = refl
  called_alike w h u to rs await vs meaning.Nothing x below sound = absurd (sound.0 refl)
