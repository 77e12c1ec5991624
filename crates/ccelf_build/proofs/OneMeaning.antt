-- A status of mean has its reason only where no other status has one.
use Rattle.std.proofs.Common.{◌≡◌, ◌⊎◌, ℕ, List, Option, Some, None, refl, inl, inr, ap, ◌∙◌, sym, subst}
use Rattle.cc_base.specs.Faces.{source_fault}
use Rattle.cc_base.specs.declared.face.SourceFault.{SourceFault}
use Rattle.cc_base.specs.declared.face.SourceFault.TheVariants as source
use Rattle.cc_base.specs.declared.run.Outcome.{Outcome}
use Rattle.cc_base.specs.declared.run.Outcome.TheVariants as outcome
use Rattle.text_grammar.specs.declared.tree.External.{External}
use Rattle.typing_faults.specs.declared.fault.Row.{Row}
use Rattle.clight_unit.specs.declared.unit.ClightUnit.{ClightUnit as TypedUnit}
use Rattle.typing_units.specs.Typing.{unit_of}
use Rattle.mean_source.specs.Means.{faces}
use Rattle.commands.specs.declared.answer.Status.{Status}
use Rattle.commands.specs.declared.answer.Status.TheVariants as status
use Rattle.commands.specs.Steps.{rule_kind, limit_kind, row_at, BreaksRule}
use Rattle.commands.specs.Meanings.{HasUnit}
use Rattle.ccelf_build.specs.Contents.{Contents, AreAll, FirstStop}
use Rattle.ccelf_build.specs.Laws.{Laws}
use Rattle.ccelf_build.specs.Sources.{IsTyped, units_after}
use Rattle.ccelf_build.specs.Causes.{PassesLimit, PassesUnitLimit, HasTypeFault, mean_reason}
use Rattle.ccelf_build.proofs.Listing.{one_all, none_stops, same_stop, stop_for}
use Rattle.ccelf_build.proofs.OneForm.{one_tree, row_status, rule_status, limit_status, breaks_or_typed, one_broken}
use Rattle.ccelf_build.proofs.OneReason.{TextKind, is_absent, is_read, limits_kind, syntax_kind, one_text, one_file}

-- what a unit's text comes to: it breaks a rule, or it has a typed unit
abbrev Tried : List ℕ → Status → Type 0
Tried text s = ((broken : Row) × (s ≡ row_status broken.kind) × BreaksRule text broken) ⊎ ((s ≡ status.Done) × ((unit : TypedUnit) × HasUnit text unit))

-- a unit stops the command for this reason
abbrev Stops : Contents → Status → List ℕ → Type 0
Stops files s name = TextKind name files Tried s × (s ≡ status.Done → ⊥)

-- what is wrong with the names decides, and then how the run stands
abbrev meant_status : Option SourceFault → Outcome → Status
meant_status (Some (source.Doubled unit index)) how = status.Doubled
meant_status (Some (source.Unresolved unit index)) how = status.Unresolved
meant_status (Some (source.Sized unit index stated defined)) how = status.Sized
meant_status None outcome.Running = status.Spent
meant_status None (outcome.Ended code) = status.Done
meant_status None outcome.Wrong = status.Wrong
meant_status None outcome.Deep = status.Deep

data MeanKind (turns : ℕ) (names : List (List ℕ)) (files : Contents) (input : List ℕ) (s : Status) : Type 0 where
  stops : FirstStop (IsTyped files) names (Stops files s) → MeanKind turns names files input s
  all_are : (units : List TypedUnit) → AreAll (IsTyped files) names units → s ≡ meant_status (source_fault (faces units)) (units_after units input turns).outcome → MeanKind turns names files input s

same_unit : (tree : List External) (a b : TypedUnit) → unit_of tree ≡ Some a → unit_of tree ≡ Some b → a ≡ b
same_unit tree a b h k = let e : Some a ≡ Some b = sym h ∙ k in cc

module _ (laws : Laws) where
  one_tried : (text : List ℕ) (s t : Status) → Tried text s → Tried text t → s ≡ t
  one_tried text s t (inl h) (inl k) = h.1 ∙ ap (λ (r : Row). row_status r.kind) (one_broken laws text h.0 k.0 h.2 k.2) ∙ sym k.1
  one_tried text s t (inl h) (inr k) = absurd (breaks_or_typed laws text h.0 k.1.1.tree k.1.0 h.2 k.1.1.parsed k.1.1.typed)
  one_tried text s t (inr h) (inl k) = absurd (breaks_or_typed laws text k.0 h.1.1.tree h.1.0 k.2 h.1.1.parsed h.1.1.typed)
  one_tried text s t (inr h) (inr k) = h.0 ∙ sym k.0

  module _ (turns : ℕ) (names : List (List ℕ)) (files : Contents) (input : List ℕ) where
    one_stop : (s t : Status) (name : List ℕ) → Stops files s name → Stops files t name → s ≡ t
    one_stop s t name h k = one_text laws name files Tried one_tried s t h.0 k.0

    typed_kind : (name : List ℕ) (unit : TypedUnit) → IsTyped files name unit → TextKind name files Tried status.Done
    typed_kind name unit h = is_read h.text h.stands (h.has.tree, h.has.parsed) (inr (refl, (unit, h.has)))

    goes : (s : Status) (name : List ℕ) (unit : TypedUnit) → IsTyped files name unit → Stops files s name → ⊥
    goes s name unit h k = k.1 (one_text laws name files Tried one_tried s status.Done k.0 (typed_kind name unit h))

    one_typed : (name : List ℕ) (a b : TypedUnit) → IsTyped files name a → IsTyped files name b → a ≡ b
    one_typed name a b h k =
        let P : List ℕ → Type 0 = λ text. HasUnit text b in
        let also = subst P (one_file files name k.text h.text k.stands h.stands) k.has in
        let Q : List External → Type 0 = λ tree. unit_of tree ≡ Some b in
        same_unit h.has.tree a b h.has.typed.is_unit (subst Q (one_tree laws h.text also.tree h.has.tree also.parsed h.has.parsed) also.typed.is_unit)

    one_kind : (s t : Status) → MeanKind turns names files input s → MeanKind turns names files input t → s ≡ t
    one_kind s t (stops f) (stops g) = let both = same_stop (IsTyped files) (Stops files s) (Stops files t) (goes s) (goes t) names f g in one_stop s t both.0 both.1 both.2
    one_kind s t (stops f) (all_are units h e) = absurd (none_stops (IsTyped files) (Stops files s) (goes s) names units h f)
    one_kind s t (all_are units h e) (stops g) = absurd (none_stops (IsTyped files) (Stops files t) (goes t) names units h g)
    one_kind s t (all_are units h e) (all_are others k f) =
        e ∙ ap (λ (us : List TypedUnit). meant_status (source_fault (faces us)) (units_after us input turns).outcome) (one_all (IsTyped files) one_typed names units others h k) ∙ sym f

    type_kind : (name : List ℕ) → HasTypeFault files name → Stops files status.Typing name
    type_kind name h = (is_read h.1.1.0 h.1.1.1 (h.1.1.2.tree, h.1.1.2.parsed) (inl (row_at (rule_kind h.0) h.1.0, rule_status h.0, h.1.1.2)), λ e. cc)

    limit_kind_of : (name : List ℕ) → PassesLimit files name ⊎ PassesUnitLimit files name → Stops files status.Limit name
    limit_kind_of name (inl h) = (limits_kind name files Tried h, λ e. cc)
    limit_kind_of name (inr h) = (is_read h.1.1.0 h.1.1.1 (h.1.1.2.tree, h.1.1.2.parsed) (inl (row_at (limit_kind h.0) h.1.0, limit_status h.0, h.1.1.2)), λ e. cc)

    by_fault : (units : List TypedUnit) (f : SourceFault) → source_fault (faces units) ≡ Some f → meant_status (Some f) (units_after units input turns).outcome ≡ meant_status (source_fault (faces units)) (units_after units input turns).outcome
    by_fault units f e = sym (ap (λ (x : Option SourceFault). meant_status x (units_after units input turns).outcome) e)

    by_run : (units : List TypedUnit) (how : Outcome) → source_fault (faces units) ≡ None → (units_after units input turns).outcome ≡ how → meant_status None how ≡ meant_status (source_fault (faces units)) (units_after units input turns).outcome
    by_run units how e f = sym (λ j. meant_status (e j) (f j))

    mean_kind : (s : Status) → mean_reason turns names files input s → MeanKind turns names files input s
    mean_kind status.Missing h = stops (stop_for _ _ _ names (λ name a. (is_absent a refl, λ e. cc)) h)
    mean_kind status.Syntax h = stops (stop_for _ _ _ names (λ name a. (syntax_kind name files Tried a, λ e. cc)) h)
    mean_kind status.Typing h = stops (stop_for _ _ _ names type_kind h)
    mean_kind status.Limit h = stops (stop_for _ _ _ names limit_kind_of h)
    mean_kind status.Doubled h = all_are h.0 h.1 (by_fault h.0 _ h.2.2)
    mean_kind status.Unresolved h = all_are h.0 h.1 (by_fault h.0 _ h.2.2)
    mean_kind status.Sized h = all_are h.0 h.1 (by_fault h.0 _ h.2.4)
    mean_kind status.Done h = all_are h.1.0 h.1.1 (by_run h.1.0 (outcome.Ended h.0) h.1.2.0 h.1.2.1)
    mean_kind status.Spent h = all_are h.0 h.1 (by_run h.0 outcome.Running h.2.0 h.2.1)
    mean_kind status.Wrong h = all_are h.0 h.1 (by_run h.0 outcome.Wrong h.2.0 h.2.1)
    mean_kind status.Deep h = all_are h.0 h.1 (by_run h.0 outcome.Deep h.2.0 h.2.1)
    mean_kind _ h = absurd h

    pub mean_one : (s t : Status) → mean_reason turns names files input s → mean_reason turns names files input t → s ≡ t
    mean_one s t h k = one_kind s t (mean_kind s h) (mean_kind t k)
