-- Units whose types are checked, and linked units that are run.
use Rattle.std.proofs.Common.{◌≡◌, ℕ, ◌≤◌, List, length, Result, Ok, Err, refl, subst, inl, inr, arith, String}
use Rattle.std.specs.Prelude.{string_bytes}
use Rattle.std.specs.declared.alloc.Global.{Global}
use Rattle.std.proofs.lemmas.List.{length-map}
use Rattle.cc_base.specs.Seen.{FilesSeen, SourceSeen, SinkSeen}
use Rattle.clight_unit.specs.declared.unit.ClightUnit.{ClightUnit as TypedUnit}
use Rattle.mean_run.specs.declared.running.MeanEnd.{MeanEnd}
use Rattle.mean_run.specs.declared.running.MeanEnd.TheVariants as end
use Rattle.mean_source.specs.Means.{Means}
use Rattle.mean_source.specs.declared.meaning.MeanFault.{MeanFault}
use Rattle.mean_source.specs.declared.meaning.MeanFault.TheVariants as fault
use Rattle.command_words.specs.Orders.{texts}
use Rattle.commands.specs.declared.answer.Answer.{Answer}
use Rattle.commands.specs.declared.answer.Answer.TheVariants as answer
use Rattle.commands.specs.Doing.{Outside, outside, Each}
use Rattle.commands.specs.Steps.{Fetched}
use Rattle.commands.specs.Meanings.{Checked, Checks, end_told, fault_told, IsOfNames, room, MeansBy}
use Rattle.commands.proofs.WholeCommands.{each_has}

-- a unit that is got and checked
pub not_got : (name : List ℕ) (input : SourceSeen) (output : SinkSeen) (f f₁ : FilesSeen) (told : Answer) → Fetched f name (Err told) f₁ → Checks name (outside f input output) (Err told) (outside f₁ input output)
not_got name input output f f₁ told h = inl (h, refl)

pub was_checked : (name : List ℕ) (input : SourceSeen) (output : SinkSeen) (f f₁ : FilesSeen) (text shown : List ℕ) → Fetched f name (Ok text) f₁ → shown ≡ text → (r : Result TypedUnit Answer) → Checked name shown r → Checks name (outside f input output) r (outside f₁ input output)
was_checked name input output f f₁ text shown got same (Ok unit) h =
    let P : List ℕ → Type 0 = λ t. Checked name t (Ok unit) in
    record { value = text; between = outside f₁ input output; went = (got, refl); goes_on = (subst P same h, refl) }
was_checked name input output f f₁ text shown got same (Err told) h =
    let P : List ℕ → Type 0 = λ t. Checked name t (Err told) in
    inr (record { value = text; between = outside f₁ input output; went = (got, refl); goes_on = (subst P same h, refl) })

-- where there is no memory to keep a unit, want of memory is the answer
pub not_kept_unit : (name : List ℕ) (unit : TypedUnit) (old new : Outside) → Checks name old (Ok unit) new → Checks name old (Err answer.Memory) new
not_kept_unit name unit old new h = inr (record { value = h.value; between = h.between; went = h.went; goes_on = (tt, h.goes_on.1) })

-- as many units were checked as there are names
pub few_units : (names : List (String Global)) (old : Outside) (units : List TypedUnit) (new : Outside) → Each Checks (texts names) old (Ok units) new → length names ≤ 4096 → length units ≤ 4096
few_units names old units new h few =
    let each = each_has Checks (λ (u : TypedUnit). Unit {0}) (λ name u before after w. tt) (texts names) old units new h in
    let n = each.0 in let m = length-map names string_bytes in
    omega (arith, n, m, few)

-- an end is told
pub end_is_told : (steps : ℕ) (names : List (List ℕ)) (units : List TypedUnit) (files : FilesSeen) (i i' : SourceSeen) (o o' : SinkSeen) (e : MeanEnd) → Means units room steps i o (Ok e) i' o' → MeansBy steps names units (outside files i o) (end_told e) (outside files i' o')
end_is_told steps names units files i i' o o' (end.Ended status) h = (h, refl)
end_is_told steps names units files i i' o o' end.Spent h = (h, refl)
end_is_told steps names units files i i' o o' (end.Wrong turn) h = (h, refl)
end_is_told steps names units files i i' o o' (end.Deep turn) h = (h, refl)

-- a fault is told
pub fault_is_told : (steps : ℕ) (names : List (List ℕ)) (units : List TypedUnit) (files : FilesSeen) (i i' : SourceSeen) (o o' : SinkSeen) (e : MeanFault) → Means units room steps i o (Err e) i' o' → MeansBy steps names units (outside files i o) (fault_told names units e) (outside files i' o')
fault_is_told steps names units files i i' o o' (fault.Doubled unit index) h = (unit, index, (h, refl), refl, refl)
fault_is_told steps names units files i i' o o' (fault.Unresolved unit index) h = (unit, index, (h, refl), refl, refl)
fault_is_told steps names units files i i' o o' (fault.Sized unit index stated defined) h = (unit, index, (h, refl), refl, refl)
fault_is_told steps names units files i i' o o' fault.Read h = (h, refl)
fault_is_told steps names units files i i' o o' fault.Write h = (h, refl)
fault_is_told steps names units files i i' o o' fault.Memory h = (h, refl)

-- there was no memory to tell a fault of the names
pub not_told : (steps : ℕ) (names : List (List ℕ)) (units : List TypedUnit) (files : FilesSeen) (i i' : SourceSeen) (o o' : SinkSeen) (e : MeanFault) → IsOfNames e → Means units room steps i o (Err e) i' o' → MeansBy steps names units (outside files i o) answer.Memory (outside files i' o')
not_told steps names units files i i' o o' (fault.Doubled unit index) n h = (inl (h.1, h.2), refl)
not_told steps names units files i i' o o' (fault.Unresolved unit index) n h = (inl (h.1, h.2), refl)
not_told steps names units files i i' o o' (fault.Sized unit index stated defined) n h = (inl (h.1, h.2), refl)
not_told steps names units files i i' o o' fault.Read n h = absurd n
not_told steps names units files i i' o o' fault.Write n h = absurd n
not_told steps names units files i i' o o' fault.Memory n h = absurd n
