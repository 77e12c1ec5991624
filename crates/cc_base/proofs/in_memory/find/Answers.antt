use Rattle.std.proofs.Common.{◌≡◌, ap, sym, ◌∙◌, ℕ, List, ◌∷◌, Some, Bool, true, false, cond}
use Rattle.std.specs.Ordering.{nat_cmp}
use Rattle.std.specs.Str.{bytes_eq}
use Rattle.std.specs.Cmp.Lexicographic.{slice_cmp, nat_list_cmp_total}
use Rattle.std.specs.FinMap.{find, get-from_entries}
use Rattle.std.proofs.lemmas.Map.Text.{is_eq-slice_cmp}
use Rattle.cc_base.proofs.in_memory.find.Goals as goal

-- the first entry is looked at first
one_more : (q : List ℕ) (e : List ℕ × List ℕ) (es : List (List ℕ × List ℕ)) (b : Bool) → bytes_eq q e.0 ≡ b → find (slice_cmp nat_cmp) q (e ∷ es) ≡ cond b (Some e.1) (find (slice_cmp nat_cmp) q es)
one_more q e es b h = ap (λ t. cond t (Some e.1) (find (slice_cmp nat_cmp) q es)) (is_eq-slice_cmp q e.0 ∙ h)

pub loop-entry-init : goal.loop-entry-init
loop-entry-init c =
    get-from_entries nat_list_cmp_total _ _
    ∙ ap (find (slice_cmp nat_cmp) c.args.name.now) (sym c.into_iter-entry-iterator.ensures.into_iter_gives.0)

pub returns-then-eq : goal.returns-then-eq
returns-then-eq c =
    sym (c.loop-entry.invariant ∙ ap (find (slice_cmp nat_cmp) c.args.name.now) c.in-Some.ensures.steps
    ∙ one_more _ c.in-Some.entry.now _ true (ap (bytes_eq c.args.name.now) (sym c.as_slice.ensures) ∙ sym c.eq.ensures ∙ c.if-eq.true))

pub loop-entry-preserved : goal.loop-entry-preserved
loop-entry-preserved c =
    c.loop-entry.invariant ∙ ap (find (slice_cmp nat_cmp) c.args.name.now) c.in-Some.ensures.steps
    ∙ one_more _ c.in-Some.entry.now _ false (ap (bytes_eq c.args.name.now) (sym c.as_slice.ensures) ∙ sym c.eq.ensures ∙ c.if-eq.false)
