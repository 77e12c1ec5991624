-- The maps unit by unit.
use Rattle.std.proofs.Common.{◌≡◌, ℕ, ◌+◌, ◌<◌, ◌≤◌, ◌^◌, List, length, drop, get_or, Option, ◌∙◌, subst}
use Rattle.std.specs.HashMap.{HashMap}
use denote.Ref.{Bor}
use Rattle.clight_unit.specs.declared.unit.ClightUnit.{ClightUnit as TypedUnit}
use Rattle.mean_start.specs.declared.linkage.Linkage.{Linkage}
use Rattle.mean_start.specs.Firsts.{found, Tells, Adds}
use Rattle.mean_start.specs.Linkages.{IsLinkage, first_of, definition_of, function_definition_of, shared_size_of, seen_of, shared_of, shown_of}
use Rattle.mean_start.specs.Noted.{AddsUnit, Lacks, AllLack}
use Rattle.mean_start.specs.Small.{AreSmall}
use Rattle.mean_start.proofs.Told.{asked_more, asked_all}

more : {V S : Type 0} (tells : List ℕ → ℕ → TypedUnit → Option V) (us : List TypedUnit) (i : ℕ) (u : TypedUnit) (mid new : HashMap (Bor (List ℕ)) V S) → i < length us → u ≡ get_or us i u → Adds mid new (λ n. tells n i u) → Lacks mid tells i (drop i us) us → Lacks new tells (i + 1) (drop (i + 1) us) us
more tells us i u mid new h e adds lacks n = asked_more tells us i u (found mid) (found new) h e adds n ∙ lacks n

pub all_more : (us : List TypedUnit) (i : ℕ) (u : TypedUnit) (mid new : Linkage) → i < length us → u ≡ get_or us i u → AddsUnit mid new i u → AllLack mid i (drop i us) us → AllLack new (i + 1) (drop (i + 1) us) us
all_more us i u mid new h e a l = record {
  definitions = more definition_of us i u mid.definitions new.definitions h e a.definitions l.definitions;
  function_definitions = more function_definition_of us i u mid.function_definitions new.function_definitions h e a.function_definitions l.function_definitions;
  shared_sizes = more shared_size_of us i u mid.shared_sizes new.shared_sizes h e a.shared_sizes l.shared_sizes;
  seen = more seen_of us i u mid.seen new.seen h e a.seen l.seen;
  shared = more shared_of us i u mid.shared new.shared h e a.shared l.shared;
  shown = more shown_of us i u mid.shown new.shown h e a.shown l.shown;
}

all : {V S : Type 0} (tells : List ℕ → ℕ → TypedUnit → Option V) (us : List TypedUnit) (i : ℕ) (m : HashMap (Bor (List ℕ)) V S) → length us ≤ i → Lacks m tells i (drop i us) us → Tells m (first_of tells us)
all tells us i m h lacks n = asked_all tells us i (found m) h n ∙ lacks n

-- the maps of all units
pub all_told : (us : List TypedUnit) (i : ℕ) (l : Linkage) → length us ≤ i → length us < 2 ^ 32 → AreSmall us → l.units.now ≡ us → AllLack l i (drop i us) us → IsLinkage l
all_told us i l h few small same lack =
    let P : List TypedUnit → Type 0 = λ vs. length vs ≤ i → length vs < 2 ^ 32 → AreSmall vs → AllLack l i (drop i vs) vs → IsLinkage l in
    subst P same told h few small lack
  where
    told : length l.units.now ≤ i → length l.units.now < 2 ^ 32 → AreSmall l.units.now → AllLack l i (drop i l.units.now) l.units.now → IsLinkage l
    told h few small lack = record {
      few = few;
      small = small;
      definitions = all definition_of l.units.now i l.definitions h lack.definitions;
      function_definitions = all function_definition_of l.units.now i l.function_definitions h lack.function_definitions;
      shared_sizes = all shared_size_of l.units.now i l.shared_sizes h lack.shared_sizes;
      seen = all seen_of l.units.now i l.seen h lack.seen;
      shared = all shared_of l.units.now i l.shared h lack.shared;
      shown = all shown_of l.units.now i l.shown h lack.shown;
    }
