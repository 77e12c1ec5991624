use Rattle.std.proofs.Common.{◌≡◌, ℕ, List, [], ◌∷◌, ◌++◌, ◌+◌, sym, ◌∙◌, ap, subst}
use Rattle.reg_live.specs.Sweeps.{Listed}
use Rattle.reg_live.proofs.Listing.{listed_more}
use Rattle.reg_live.proofs.lives.list_rows.Goals as goal

pub loop-place-preserved : goal.loop-place-preserved
loop-place-preserved c =
    let e = c.in_ok-members.ensures in
    let more = listed_more c.args.rows.now c.loop-place.place c.loop-place.lists c.in_ok-members.members.items c.loop-place.invariant e.members e.rising in
    let P : List (List ℕ) → Type 0 = λ lists. Listed c.args.rows.now (c.loop-place.place + 1) lists in
    let pushed : c.push.new.self ≡ c.loop-place.lists ++ c.in_ok-members.members.items ∷ [] = c.in_ok-push.ensures.ok ∙ ap (λ (x : List ℕ). c.loop-place.lists ++ x ∷ []) c.from_vec.ensures in
    subst P (sym pushed) more
