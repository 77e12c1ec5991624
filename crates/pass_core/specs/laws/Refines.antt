-- Refinement goes through a run in the middle.
use Rattle.std.specs.Prelude.{ℕ, ◌++◌, List, []}
use Rattle.std.proofs.Common.{◌∙◌, ap, sym, append_assoc, append-nil}
use Rattle.cc_base.specs.declared.run.Act.{Act}
use Rattle.cc_base.specs.Runs.{State, IsPrefix}
use Rattle.pass_core.specs.Refines.{Agrees, Refines}

pub IsPrefix-refl : (xs : List Act) → IsPrefix xs xs
IsPrefix-refl xs = record { rest = []; whole = sym (append-nil xs) }

pub IsPrefix-trans : {xs ys zs : List Act} → IsPrefix xs ys → IsPrefix ys zs → IsPrefix xs zs
IsPrefix-trans {xs} {ys} {zs} p q = record {
  rest = p.rest ++ q.rest;
  whole = q.whole ∙ ap (λ (v : List Act). v ++ q.rest) p.whole ∙ append_assoc xs p.rest q.rest;
}

pub refines_both : (a b c : ℕ → State) → Refines a b → Refines b c → Refines a c
refines_both a b c f g s =
    let ab : Agrees a b = f s in
    let bc : Agrees b c = g ab.sound in
    record {
      sound = bc.sound;
      only = λ n. let h = bc.only n in let k = ab.only h.0 in (k.0, IsPrefix-trans h.1 k.1);
      reached = λ m. let h = ab.reached m in let k = bc.reached h.0 in (k.0, IsPrefix-trans h.1 k.1);
      ends = λ m status e.
          let h = ab.ends m status e in
          let k = bc.ends h.0 status (ap (λ (x : State). x.outcome) h.1 ∙ e) in
          (k.0, k.1 ∙ h.1);
      ends_only = λ n status e.
          let h = bc.ends_only n status e in
          let k = ab.ends_only h.0 status (ap (λ (x : State). x.outcome) h.1 ∙ e) in
          (k.0, k.1 ∙ h.1);
    }
