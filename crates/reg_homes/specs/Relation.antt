-- When a run of Ltl stands as one of Rtl does: each value that is still wanted is in its home.
use Rattle.std.specs.Prelude.{◌≡◌, ◌≢◌, ℕ, List, [], ◌∷◌, Option, Some, None, option_map}
use Rattle.block_mem.specs.declared.value.Value.{Value}
use Rattle.unit_passes.specs.Programs.{function_at}
use Rattle.rtl_lang.specs.declared.syntax.RtlParts.{RtlParts}
use Rattle.rtl_lang.specs.Meaning.{Temporaries, RtlFrame, RtlWorld, RtlProgram}
use Rattle.ltl_lang.specs.declared.location.Loc.{Loc}
use Rattle.ltl_lang.specs.declared.syntax.LtlParts.{LtlParts}
use Rattle.ltl_lang.specs.Meaning.{Contents, LtlFrame, LtlWorld, LtlProgram}
use Rattle.flow_walks.specs.Flows.{Routine}
use Rattle.flow_walks.specs.Liveness.{IsWanted}
use Rattle.rtl_lang.specs.Routines.{routine}
use Rattle.reg_homes.specs.Homes.{Placed, home_of}

-- at a node that is to be taken
abbrev pub Kept : Routine ℕ → (ℕ → Loc) → ℕ → Temporaries → Contents → Type 0
Kept g home n t u = (j : ℕ) (v : Value) → IsWanted g n j → t j ≡ Some v → u (home j) ≡ Some v

-- of a call that waits at a node for a result
abbrev pub KeptBut : Option ℕ → Routine ℕ → (ℕ → Loc) → ℕ → Temporaries → Contents → Type 0
KeptBut to g home n t u = (j : ℕ) (v : Value) → IsWanted g n j → to ≢ Some j → t j ≡ Some v → u (home j) ≡ Some v

-- a call that waits for a result in a temporary, or for none. No other temporary that is wanted shares its home
pub record Waits (await : Option ℕ) (f : RtlFrame) (h : LtlParts) (u : Contents) : Type 0 where
  pub made : Placed f.function h
  pub kept : KeptBut await (routine f.function) (home_of h.homes) f.node f.temporaries u
  pub clear : (a : ℕ) → await ≡ Some a → (j : ℕ) → IsWanted (routine f.function) f.node j → j ≢ a → home_of h.homes j ≢ home_of h.homes a

abbrev pub ltl_frame : RtlFrame → LtlParts → Contents → Option Loc → LtlFrame
ltl_frame f h u to = record { unit = f.unit; function = h; activation = f.activation; contents = u; node = f.node; result = to }

-- a call below the newest one, where the call above it gives its result to `await`, and in Ltl to `result`
pub record Below (await : Option ℕ) (result : Option Loc) (f : RtlFrame) (r : LtlFrame) : Type 0 where
  pub waits : Waits await f r.function r.contents
  pub goes_to : result ≡ option_map (home_of r.function.homes) await
  pub same : r ≡ ltl_frame f r.function r.contents r.result

abbrev pub Stack : Option ℕ → Option Loc → List RtlFrame → List LtlFrame → Type 0
Stack a l [] [] = Unit {0}
Stack a l [] (r ∷ rs) = ⊥
Stack a l (f ∷ fs) [] = ⊥
Stack a l (f ∷ fs) (r ∷ rs) = Below a l f r × Stack f.result r.result fs rs

abbrev pub ltl_world : RtlWorld → LtlParts → Contents → Option Loc → List LtlFrame → LtlWorld
ltl_world w h u to rs = record { memory = w.memory; calls = w.calls; top = ltl_frame w.top h u to; below = rs }

pub record Related (w : RtlWorld) (v : LtlWorld) : Type 0 where
  pub function : LtlParts
  pub contents : Contents
  pub result : Option Loc
  pub frames : List LtlFrame
  pub same : v ≡ ltl_world w function contents result frames
  pub top : Waits None w.top function contents
  pub below : Stack w.top.result result w.below frames

-- linked programs that differ in that the functions of one are placed in homes
pub record FunctionPlaced (q : LtlProgram) (unit index : ℕ) (f : RtlParts) : Type 0 where
  pub there : LtlParts
  pub found : function_at q unit index ≡ Some there
  pub made : Placed f there

pub record ProgramAlike (p : RtlProgram) (q : LtlProgram) : Type 0 where
  pub objects : q.objects ≡ p.objects
  pub callees : q.callees ≡ p.callees
  pub room : q.room ≡ p.room
  pub functions : (unit index : ℕ) (f : RtlParts) → function_at p unit index ≡ Some f → FunctionPlaced q unit index f
