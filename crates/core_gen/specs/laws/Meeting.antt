-- How a turn of the source is met by steps of Core.
use Rattle.std.specs.Prelude.{◌≡◌, ℕ, ◌+◌, ◌≤◌}
use Rattle.std.proofs.Common.{subst}
use Rattle.pass_core.specs.Semantics.{Met}
use Rattle.pass_core.specs.Meets.{Reaches, Meets as MeetsBy}
use Rattle.pass_core.specs.laws.Meets as shared
use Rattle.clight_sem.specs.Functions.{Linked}
use Rattle.clight_sem.specs.States.{Run}
use Rattle.clight_sem.specs.Turns.{source}
use Rattle.core_lang.specs.Meaning.{Program, Run as CoreRun}
use Rattle.core_lang.specs.Units.{core as language}
use Rattle.core_gen.specs.Relation.{Related, measure}

-- from a state of Core, at most at this price, one that is related to the new state
abbrev pub Meets : Linked → Program → ℕ × ℕ → Run → CoreRun → ℕ → Type 0
Meets c p size new t cost = MeetsBy (language p) (Related c) measure size new t cost

-- by some steps
pub by_steps : (c : Linked) (p : Program) (size : ℕ × ℕ) (new : Run) (t u : CoreRun) (least cost : ℕ) → 1 ≤ least → Reaches (language p) t u least cost → Related c new u → Meets c p size new t cost
by_steps c p size new t u least cost some way related = shared.by_steps (language p) (Related c) measure size new t u least cost some way related

-- some steps more before
pub later : (c : Linked) (p : Program) (size : ℕ × ℕ) (new : Run) (t u : CoreRun) (least cost k most : ℕ) → 1 ≤ least → k + cost ≤ most → Reaches (language p) t u least k → Meets c p size new u cost → Meets c p size new t most
later c p size new t u least cost k most some few way m = shared.later (language p) (Related c) measure size new t u least cost k most some few way m

-- at a greater price, and by another measure of the same number
pub cheaply : (c : Linked) (p : Program) (size size' : ℕ) (new : Run) (t : CoreRun) (cost most : ℕ) → size ≡ size' → cost ≤ most → Meets c p (0, size) new t cost → Meets c p (0, size') new t most
cheaply c p size size' new t cost most same few m = subst (λ (k : ℕ). Meets c p (0, k) new t most) same (shared.cheaply (language p) (Related c) measure (0, size) new t cost most few m)

-- what the law of simulation asks for
pub meets : (c : Linked) (p : Program) (old new : Run) (t : CoreRun) (cost : ℕ) → cost ≤ (source c).price old → Meets c p (measure old) new t cost → Met (source c) (language p) (Related c) measure old new t
meets c p old new t cost h m = shared.met (language p) (Related c) measure (source c) old new t (shared.cheaply (language p) (Related c) measure (measure old) new t cost ((source c).price old) h m)
