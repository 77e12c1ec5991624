-- Laws of the active calls.
use Rattle.std.proofs.Common.{◌≡◌, ℕ, ◌+◌, ◌-◌, ◌≤◌, List, [], ◌∷◌, ◌++◌, Option, Some, None, option_map, refl, sym, ap, ◌∙◌, zero, suc, length, set, arith}
use Rattle.block_mem.specs.Blocks.{Blocks}
use Rattle.block_mem.specs.declared.value.Value.{Value}
use Rattle.clight_sem.specs.declared.destination.Destination.{Destination}
use Rattle.unit_names.specs.declared.meaning.Meaning.{Meaning}
use Rattle.clight_sem.specs.Functions.{Linked}
use Rattle.clight_sem.specs.States.{Frame as Seen, World, wrong, needs}
use Rattle.clight_sem.specs.Turns.{called_if, called_with}
use Rattle.mean_run.specs.declared.frame.Frame.{Frame}
use Rattle.mean_run.specs.Frames.{frame_of, frames_of}
use Rattle.mean_run.specs.Processes.{both_found, on_top}

-- the call that was added last is the newest
pub frames_of-push : (fs : List Frame) (f : Frame) → frames_of (fs ++ f ∷ []) ≡ frame_of f ∷ frames_of fs
frames_of-push [] f = refl
frames_of-push (x ∷ xs) f = ap (λ (v : List Seen). v ++ frame_of x ∷ []) (frames_of-push xs f)

-- a run in this state
abbrev pub world : Blocks → ℕ → Seen → List Seen → World
world m calls top below = record { memory = m; calls = calls; top = top; below = below }

need_of : (f g : Frame) → f ≡ g → f.function.now.need ≡ g.function.now.need
need_of f g e = ap (λ (x : Frame). x.function.now.need) e

needs_pushed : (fs new : List Frame) (f : Frame) → new ≡ fs ++ f ∷ [] → needs (frames_of new) ≡ f.function.now.need + needs (frames_of fs)
needs_pushed fs new f h = ap (λ (l : List Frame). needs (frames_of l)) h ∙ ap needs (frames_of-push fs f)

below_pushed : (fs new : List Frame) (f g : Frame) → new ≡ fs ++ f ∷ [] → f ≡ g → frames_of new ≡ frame_of g ∷ frames_of fs
below_pushed fs new f g h e = ap frames_of h ∙ frames_of-push fs f ∙ ap (λ (x : Frame). frame_of x ∷ frames_of fs) e

-- the newest call is taken off
pub popped_needs : (needed : ℕ) (top callee caller dest : Frame) (below new : List Frame) → needed ≡ needs (frame_of top ∷ frames_of below) → callee ≡ top → dest ≡ caller → below ≡ new ++ caller ∷ [] → needed - callee.function.now.need ≡ dest.function.now.need + needs (frames_of new)
popped_needs needed top callee caller dest below new n t d h =
    let a : callee.function.now.need ≡ top.function.now.need = need_of callee top t in
    let b : dest.function.now.need ≡ caller.function.now.need = need_of dest caller d in
    let e : needs (frames_of below) ≡ caller.function.now.need + needs (frames_of new) = needs_pushed new below caller h in
    omega arith

pub popped_world : (m : Blocks) (calls : ℕ) (top callee caller dest : Frame) (below new : List Frame) → callee ≡ top → dest ≡ caller → below ≡ new ++ caller ∷ [] → world m calls (frame_of top) (frames_of below) ≡ on_top (world m calls (frame_of dest) (frames_of new)) (frame_of callee)
popped_world m calls top callee caller dest below new t d h =
    ap (world m calls (frame_of top)) (below_pushed new below caller dest h (sym d))
    ∙ ap (λ (f : Frame). on_top (world m calls (frame_of dest) (frames_of new)) (frame_of f)) (sym t)

-- a new call is the newest
pub pushed_needs : (needed : ℕ) (top frame caller dest : Frame) (below new : List Frame) → needed ≡ needs (frame_of top ∷ frames_of below) → caller ≡ top → dest ≡ frame → new ≡ below ++ caller ∷ [] → needed - top.function.now.need + frame.function.now.need + top.function.now.need ≡ dest.function.now.need + needs (frames_of new)
pushed_needs needed top frame caller dest below new n t d h =
    let a : caller.function.now.need ≡ top.function.now.need = need_of caller top t in
    let b : dest.function.now.need ≡ frame.function.now.need = need_of dest frame d in
    let e : needs (frames_of new) ≡ caller.function.now.need + needs (frames_of below) = needs_pushed below new caller h in
    omega arith

pub pushed_world : (m : Blocks) (calls : ℕ) (top frame caller dest : Frame) (below new : List Frame) → caller ≡ top → dest ≡ frame → new ≡ below ++ caller ∷ [] → world m calls (frame_of dest) (frames_of new) ≡ on_top (world m calls (frame_of top) (frames_of below)) (frame_of frame)
pushed_world m calls top frame caller dest below new t d h =
    ap (world m calls (frame_of dest)) (below_pushed below new caller top h t)
    ∙ ap (λ (f : Frame). world m calls (frame_of f) (frame_of top ∷ frames_of below)) d

-- a place behind the end is set to nothing
pub set_past : {A : Type 0} (xs : List A) (k : ℕ) (x : A) → length xs ≤ k → set xs k x ≡ xs
set_past [] k x h = refl
set_past (y ∷ ys) zero x h = let wrong : ⊥ = omega arith in absurd wrong
set_past (y ∷ ys) (suc k) x h = ap (λ zs. y ∷ zs) (set_past ys k x (omega arith))

-- a call whose parts were found, or were not
pub not_called : (p : Linked) (w : World) (m : Meaning) (d : Option Destination) (vs : Option (List Value)) → both_found d vs ≡ None → called_if p w m d vs ≡ wrong
not_called p w m None vs h = refl
not_called p w m (Some d) None h = refl
not_called p w m (Some d) (Some vs) h = let no : ⊥ = cc in absurd no

pub is_called : (p : Linked) (w : World) (m : Meaning) (d : Option Destination) (vs : Option (List Value)) (x : Destination) (ys : List Value) → both_found d vs ≡ Some (x, ys) → called_if p w m d vs ≡ called_with p w m x ys
is_called p w m None vs x ys h = let no : ⊥ = cc in absurd no
is_called p w m (Some d) None x ys h = let no : ⊥ = cc in absurd no
is_called p w m (Some d) (Some vs) x ys h =
    let first : Some d ≡ Some x = ap (option_map (λ (q : Destination × List Value). q.0)) h in
    let second : Some vs ≡ Some ys = ap (option_map (λ (q : Destination × List Value). q.1)) h in
    let a : d ≡ x = cc in
    let b : vs ≡ ys = cc in
    ap (λ (e : Destination). called_with p w m e vs) a ∙ ap (called_with p w m x) b
