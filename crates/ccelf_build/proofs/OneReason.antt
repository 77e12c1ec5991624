-- A status has its reason only where no other status has one.
use Rattle.std.proofs.Common.{◌≡◌, ◌⊎◌, ◌∷◌, [], ℕ, List, Option, Some, None, Result, Ok, Err, length, refl, inl, inr, ap, ◌∙◌, sym, subst, arith}
use Rattle.std.specs.FinMap.{get}
use Rattle.std.proofs.lemmas.Option.{same_Some, none-some}
use Rattle.cc_base.specs.declared.run.Outcome.{Outcome}
use Rattle.cc_base.specs.declared.run.Outcome.TheVariants as outcome
use Rattle.text_grammar.specs.declared.tree.External.{External}
use Rattle.text_grammar.specs.declared.fault.SyntaxFault.{SyntaxFault}
use Rattle.text_grammar.specs.declared.fault.SyntaxFault.TheVariants as syntax
use Rattle.text_parser.specs.Parsing.{HasAnswer, OneAnswer}
use Rattle.second_form.specs.declared.second_items.Item.{Item}
use Rattle.second_form.specs.SecondFaults.{source_fault, SourceFault}
use Rattle.second_form.specs.SecondFaults as source
use Rattle.elf_file.specs.Object.{Object, object_of}
use Rattle.elf_file.specs.Image.{IsImageOf}
use Rattle.elf_file.specs.declared.image.ImageParts.{ImageParts}
use Rattle.elf_linker.specs.Names.{link_fault, too_long}
use Rattle.elf_linker.specs.Runtime.{with_runtime}
use Rattle.elf_linker.specs.declared.fault.LinkFault.{LinkFault}
use Rattle.elf_linker.specs.declared.fault.LinkFault.TheVariants as linking
use Rattle.elf_loader.specs.Load.{load_fault, image_after}
use Rattle.elf_loader.specs.declared.fault.LoadFault.{LoadFault}
use Rattle.second_code.specs.LinkedObjects.{linked_objects}
use Rattle.typing_faults.specs.declared.fault.Row.{Row}
use Rattle.commands.specs.declared.answer.SyntaxKind.TheVariants as kind
use Rattle.commands.specs.declared.answer.Status.{Status}
use Rattle.commands.specs.declared.answer.Status.TheVariants as status
use Rattle.commands.specs.Steps.{rule_kind, limit_kind, row_at, BreaksRule, IsText, HasForm, LacksForm, IsObjectFile, AreObjectFiles, IsFirstNoObject, this, later}
use Rattle.ccelf_build.specs.Contents.{Contents, StandsAt, IsAbsent, IsLong, AreAll, FirstStop}
use Rattle.ccelf_build.specs.Laws.{Laws}
use Rattle.ccelf_build.proofs.OneForm.{row_status, rule_status, limit_status, has_or_lacks, breaks_or_has, breaks_or_lacks, one_broken, one_items}
use Rattle.ccelf_build.specs.Told.{Compiled, IsCompiled, HasFault, HasBroken, AreObjectsAt, IsLoaded, HasNoImage, IsNotLoaded, items_of}
use Rattle.ccelf_build.specs.Causes.{PassesLimit, PassesUnitLimit, PassesAnyLimit, HasSyntaxFault, HasTypeFault, compile_reason, show_reason, link_reason, run_reason, refusal, IsProgram}
use Rattle.ccelf_build.proofs.Listing.{one_all, none_stops, same_stop, stop_for}

both_there : (t : Option (List ℕ)) (a b : List ℕ) → t ≡ Some a → t ≡ Some b → a ≡ b
both_there t a b p q = same_Some a b (sym p ∙ q)

none_there : (t : Option (List ℕ)) (a : List ℕ) → t ≡ None → t ≡ Some a → ⊥
none_there t a p q = none-some a (sym p ∙ q)

module _ (files : Contents) where
  pub one_file : (name a b : List ℕ) → StandsAt files name a → StandsAt files name b → a ≡ b
  one_file name a b h k = both_there (get files name) a b h.there k.there

  stands_absent : (name bytes : List ℕ) → StandsAt files name bytes → IsAbsent files name → ⊥
  stands_absent name bytes h k = none_there (get files name) bytes k h.there

  stands_long : (name bytes : List ℕ) → StandsAt files name bytes → IsLong files name → ⊥
  stands_long name bytes h k = let e = ap length (both_there (get files name) bytes k.0 h.there k.1) in let s = h.short in let l = k.2 in omega arith

  absent_long : (name : List ℕ) → IsAbsent files name → IsLong files name → ⊥
  absent_long name h k = none_there (get files name) k.0 h k.1

-- compile and show: what stands under the unit's name decides the status
abbrev syntax_status : SyntaxFault → Status
syntax_status syntax.Long = status.Limit
syntax_status (syntax.Deep at) = status.Limit
syntax_status syntax.Memory = status.Memory
syntax_status _ = status.Syntax

-- the kinds of reasons, where so says what a unit's text comes to
pub data TextKind (unit : List ℕ) (files : Contents) (so : List ℕ → Status → Type 0) (s : Status) : Type 0 where
  is_absent : IsAbsent files unit → s ≡ status.Missing → TextKind unit files so s
  is_long : IsLong files unit → s ≡ status.Limit → TextKind unit files so s
  is_faulty : (fault : SyntaxFault) → (fault ≡ syntax.Memory → ⊥) → HasFault files unit fault → s ≡ syntax_status fault → TextKind unit files so s
  is_read : (text : List ℕ) → StandsAt files unit text → IsText text → so text s → TextKind unit files so s

module _ (unit : List ℕ) (files : Contents) (so : List ℕ → Status → Type 0) where
  pub limits_kind : PassesLimit files unit → TextKind unit files so status.Limit
  limits_kind (inl h) = is_long h refl
  limits_kind (inr (inl h)) = is_faulty syntax.Long (λ e. cc) h refl
  limits_kind (inr (inr h)) = is_faulty (syntax.Deep h.0) (λ e. cc) h.1 refl

  pub syntax_kind : HasSyntaxFault files unit → TextKind unit files so status.Syntax
  syntax_kind (kind.Char, h) = is_faulty (syntax.Char h.0) (λ e. cc) h.1 refl
  syntax_kind (kind.Literal, h) = is_faulty (syntax.Literal h.0) (λ e. cc) h.1 refl
  syntax_kind (kind.Token, h) = is_faulty (syntax.Token h.0) (λ e. cc) h.1 refl

module _ (laws : Laws) (unit : List ℕ) (files : Contents) where
  one_fault : (f g : SyntaxFault) → (f ≡ syntax.Memory → ⊥) → (g ≡ syntax.Memory → ⊥) → OneAnswer (Err f) (Err g) → f ≡ g
  one_fault f g p q (inl e) = absurd (p (let k : ◌≡◌ {A = Result (List External) SyntaxFault} (Err f) (Err syntax.Memory) = e in cc))
  one_fault f g p q (inr (inl e)) = absurd (q (let k : ◌≡◌ {A = Result (List External) SyntaxFault} (Err g) (Err syntax.Memory) = e in cc))
  one_fault f g p q (inr (inr e)) = let k : ◌≡◌ {A = Result (List External) SyntaxFault} (Err f) (Err g) = e in cc

  no_fault : (f : SyntaxFault) (tree : List External) → (f ≡ syntax.Memory → ⊥) → OneAnswer (Err f) (Ok tree) → ⊥
  no_fault f tree p (inl e) = p (let k : ◌≡◌ {A = Result (List External) SyntaxFault} (Err f) (Err syntax.Memory) = e in cc)
  no_fault f tree p (inr (inl e)) = let k : ◌≡◌ {A = Result (List External) SyntaxFault} (Ok tree) (Err syntax.Memory) = e in absurd (cc (k))
  no_fault f tree p (inr (inr e)) = let k : ◌≡◌ {A = Result (List External) SyntaxFault} (Err f) (Ok tree) = e in absurd (cc (k))

  same_fault : (f g : SyntaxFault) → (f ≡ syntax.Memory → ⊥) → (g ≡ syntax.Memory → ⊥) → HasFault files unit f → HasFault files unit g → f ≡ g
  same_fault f g p q h k =
      let P : List ℕ → Type 0 = λ text. HasAnswer text (Err g) in
      one_fault f g p q (laws.one_answer h.0 (Err f) (Err g) h.2 (subst P (one_file files unit k.0 h.0 k.1 h.1) k.2))

  fault_not_text : (f : SyntaxFault) → (f ≡ syntax.Memory → ⊥) → HasFault files unit f → (text : List ℕ) → StandsAt files unit text → IsText text → ⊥
  fault_not_text f p h text k is =
      let P : List ℕ → Type 0 = λ t. HasAnswer t (Err f) in
      no_fault f is.0 p (laws.one_answer text (Err f) (Ok is.0) (subst P (one_file files unit h.0 text h.1 k) h.2) is.1)

  pub one_text : (so : List ℕ → Status → Type 0) → ((text : List ℕ) (s t : Status) → so text s → so text t → s ≡ t) → (s t : Status) → TextKind unit files so s → TextKind unit files so t → s ≡ t
  one_text so one s t (is_absent h e) (is_absent k f) = e ∙ sym f
  one_text so one s t (is_absent h e) (is_long k f) = absurd (absent_long files unit h k)
  one_text so one s t (is_absent h e) (is_faulty fault q k f) = absurd (stands_absent files unit k.0 k.1 h)
  one_text so one s t (is_absent h e) (is_read text k is r) = absurd (stands_absent files unit text k h)
  one_text so one s t (is_long h e) (is_absent k f) = absurd (absent_long files unit k h)
  one_text so one s t (is_long h e) (is_long k f) = e ∙ sym f
  one_text so one s t (is_long h e) (is_faulty fault q k f) = absurd (stands_long files unit k.0 k.1 h)
  one_text so one s t (is_long h e) (is_read text k is r) = absurd (stands_long files unit text k h)
  one_text so one s t (is_faulty fault p h e) (is_absent k f) = absurd (stands_absent files unit h.0 h.1 k)
  one_text so one s t (is_faulty fault p h e) (is_long k f) = absurd (stands_long files unit h.0 h.1 k)
  one_text so one s t (is_faulty fault p h e) (is_faulty other q k f) = e ∙ ap syntax_status (same_fault fault other p q h k) ∙ sym f
  one_text so one s t (is_faulty fault p h e) (is_read text k is r) = absurd (fault_not_text fault p h text k is)
  one_text so one s t (is_read text h is r) (is_absent k f) = absurd (stands_absent files unit text h k)
  one_text so one s t (is_read text h is r) (is_long k f) = absurd (stands_long files unit text h k)
  one_text so one s t (is_read text h is r) (is_faulty fault q k f) = absurd (fault_not_text fault q k text h is)
  one_text so one s t (is_read text h is r) (is_read other k is' r') =
      let P : List ℕ → Type 0 = λ x. so x t in one text s t r (subst P (one_file files unit other text k h) r')

  -- what a unit's text comes to in compile: it breaks a rule, or its tree is not of the form, or it is
  abbrev Formed : List ℕ → Status → Type 0
  Formed text s =
      ((broken : Row) × (s ≡ row_status broken.kind) × BreaksRule text broken) ⊎ (((s ≡ status.Limit) × LacksForm text) ⊎ ((s ≡ status.Done) × ((items : List Item) × HasForm text items)))

  one_form : (text : List ℕ) (s t : Status) → Formed text s → Formed text t → s ≡ t
  one_form text s t (inl h) (inl k) = h.1 ∙ ap (λ (r : Row). row_status r.kind) (one_broken laws text h.0 k.0 h.2 k.2) ∙ sym k.1
  one_form text s t (inl h) (inr (inl k)) = absurd (breaks_or_lacks laws text h.0 h.2 k.1)
  one_form text s t (inl h) (inr (inr k)) = absurd (breaks_or_has laws text h.0 k.1.0 h.2 k.1.1)
  one_form text s t (inr (inl h)) (inl k) = absurd (breaks_or_lacks laws text k.0 k.2 h.1)
  one_form text s t (inr (inr h)) (inl k) = absurd (breaks_or_has laws text k.0 h.1.0 k.2 h.1.1)
  one_form text s t (inr (inl h)) (inr (inl k)) = h.0 ∙ sym k.0
  one_form text s t (inr (inl h)) (inr (inr k)) = absurd (has_or_lacks laws text k.1.0 k.1.1 h.1)
  one_form text s t (inr (inr h)) (inr (inl k)) = absurd (has_or_lacks laws text h.1.0 h.1.1 k.1)
  one_form text s t (inr (inr h)) (inr (inr k)) = h.0 ∙ sym k.0

  broken_kind : (s : Status) (broken : Row) → s ≡ row_status broken.kind → HasBroken files unit broken → TextKind unit files Formed s
  broken_kind s broken e h = is_read h.0 h.1 (h.2.tree, h.2.parsed) (inl (broken, e, h.2))

  type_kind : HasTypeFault files unit → TextKind unit files Formed status.Typing
  type_kind h = broken_kind status.Typing (row_at (rule_kind h.0) h.1.0) (rule_status h.0) h.1.1

  unit_limit_kind : PassesUnitLimit files unit → TextKind unit files Formed status.Limit
  unit_limit_kind h = broken_kind status.Limit (row_at (limit_kind h.0) h.1.0) (limit_status h.0) h.1.1

  form_limit : PassesAnyLimit files unit → TextKind unit files Formed status.Limit
  form_limit (inl h) = limits_kind unit files Formed h
  form_limit (inr (inl h)) = unit_limit_kind h
  form_limit (inr (inr h)) = is_read h.0 h.1 (h.2.tree, h.2.parsed) (inr (inl (refl, h.2)))

  compile_kind : (s : Status) → compile_reason unit files s → TextKind unit files Formed s
  compile_kind status.Missing h = is_absent h refl
  compile_kind status.Syntax h = syntax_kind unit files Formed h
  compile_kind status.Typing h = type_kind h
  compile_kind status.Limit h = form_limit h
  compile_kind status.Done h = is_read h.1.text h.1.stands (h.1.form.tree, h.1.form.parsed) (inr (inr (refl, (h.0.items, h.1.form))))
  compile_kind _ h = absurd h

  pub compile_one : (s t : Status) → compile_reason unit files s → compile_reason unit files t → s ≡ t
  compile_one s t h k = one_text Formed one_form s t (compile_kind s h) (compile_kind t k)

  -- and in show it is shown
  abbrev IsShown : List ℕ → Status → Type 0
  IsShown text s = s ≡ status.Done

  show_kind : (s : Status) → show_reason unit files s → TextKind unit files IsShown s
  show_kind status.Missing h = is_absent h refl
  show_kind status.Syntax h = syntax_kind unit files IsShown h
  show_kind status.Limit h = limits_kind unit files IsShown h
  show_kind status.Done h = is_read h.1.text h.1.stands (h.0, h.1.parsed) refl
  show_kind _ h = absurd h

  pub show_one : (s t : Status) → show_reason unit files s → show_reason unit files t → s ≡ t
  show_one s t h k = one_text IsShown (λ text a b e f. e ∙ sym f) s t (show_kind s h) (show_kind t k)

-- link: what is so of the files of all names decides the status
abbrev fault_status : Option LinkFault → Status
fault_status None = status.Done
fault_status (Some (linking.Doubled object symbol)) = status.Doubled
fault_status (Some (linking.Unresolved object symbol)) = status.Unresolved
fault_status (Some (linking.Sized object symbol stated defined)) = status.Sized
fault_status (Some (linking.Range end)) = status.Range
fault_status (Some linking.Memory) = status.Memory

abbrev StopOf : Contents → Status → List ℕ → Type 0
StopOf files s name = ((s ≡ status.Missing) × IsAbsent files name) ⊎ ((s ≡ status.Limit) × IsLong files name)

-- the kinds of reasons of link
data LinkKind (names : List (List ℕ)) (files : Contents) (s : Status) : Type 0 where
  stops : FirstStop (StandsAt files) names (StopOf files s) → LinkKind names files s
  has_none : (bytes : List (List ℕ)) → AreAll (StandsAt files) names bytes → (which : List ℕ) → IsFirstNoObject names bytes which → s ≡ status.Object → LinkKind names files s
  are_objects : (objects : List Object) → AreObjectsAt files names objects → s ≡ fault_status (link_fault (with_runtime objects)) → LinkKind names files s

link_kind : (names : List (List ℕ)) (files : Contents) (s : Status) → link_reason names files s → LinkKind names files s
link_kind names files status.Missing h = stops (stop_for _ _ _ names (λ name a. inl (refl, a)) h)
link_kind names files status.Limit h = stops (stop_for _ _ _ names (λ name a. inr (refl, a)) h)
link_kind names files status.Object h = has_none h.0 h.1 h.2.0 h.2.1 refl
link_kind names files status.Doubled h = are_objects h.2.0 h.2.1 (sym (ap fault_status h.2.2))
link_kind names files status.Unresolved h = are_objects h.2.0 h.2.1 (sym (ap fault_status h.2.2))
link_kind names files status.Sized h = are_objects h.4.0 h.4.1 (sym (ap fault_status h.4.2))
link_kind names files status.Range h = are_objects h.1.0 h.1.1 (sym (ap fault_status h.1.2))
link_kind names files status.Done h = are_objects h.0 h.1 (sym (ap fault_status h.2))
link_kind names files _ h = absurd h

-- a file is one object
one_object : Laws → (file : List ℕ) (a b : Object) → IsObjectFile file a → IsObjectFile file b → a ≡ b
one_object laws file a b h k = h.is ∙ ap object_of (laws.one_object h.parts k.parts file h.file_of k.file_of) ∙ sym k.is

same_objects : Laws → (files : List (List ℕ)) (a b : List Object) → AreObjectFiles files a → AreObjectFiles files b → a ≡ b
same_objects laws [] [] [] h k = refl
same_objects laws [] [] (y ∷ b) h k = absurd k
same_objects laws [] (x ∷ a) b h k = absurd h
same_objects laws (file ∷ files) [] b h k = absurd h
same_objects laws (file ∷ files) (x ∷ a) [] h k = absurd k
same_objects laws (file ∷ files) (x ∷ a) (y ∷ b) h k =
    let e : x ≡ y = one_object laws file x y h.0 k.0 in let f : a ≡ b = same_objects laws files a b h.1 k.1 in cc

all_or_none : (names files : List (List ℕ)) (objects : List Object) (which : List ℕ) → AreObjectFiles files objects → IsFirstNoObject names files which → ⊥
all_or_none names files [] which h (this name file ns fs n) = h
all_or_none names files [] which h (later name file w ns fs object o rest) = h
all_or_none names files (x ∷ objects) which h (this name file ns fs n) = n h.0.parts h.0.file_of
all_or_none names files (x ∷ objects) which h (later name file w ns fs object o rest) = all_or_none ns fs objects which h.1 rest

module _ (laws : Laws) (names : List (List ℕ)) (files : Contents) where
  goes : (s : Status) (name bytes : List ℕ) → StandsAt files name bytes → StopOf files s name → ⊥
  goes s name bytes h (inl k) = stands_absent files name bytes h k.1
  goes s name bytes h (inr k) = stands_long files name bytes h k.1

  one_stop : (s t : Status) (name : List ℕ) → StopOf files s name → StopOf files t name → s ≡ t
  one_stop s t name (inl h) (inl k) = h.0 ∙ sym k.0
  one_stop s t name (inl h) (inr k) = absurd (absent_long files name h.1 k.1)
  one_stop s t name (inr h) (inl k) = absurd (absent_long files name k.1 h.1)
  one_stop s t name (inr h) (inr k) = h.0 ∙ sym k.0

  same_bytes : (a b : List (List ℕ)) → AreAll (StandsAt files) names a → AreAll (StandsAt files) names b → a ≡ b
  same_bytes a b h k = one_all (StandsAt files) (one_file files) names a b h k

  objects_or_none : (bytes : List (List ℕ)) → AreAll (StandsAt files) names bytes → (which : List ℕ) → IsFirstNoObject names bytes which → (objects : List Object) → AreObjectsAt files names objects → ⊥
  objects_or_none bytes h which n objects at =
      let P : List (List ℕ) → Type 0 = λ bs. IsFirstNoObject names bs which in
      all_or_none names at.files objects which at.are (subst P (same_bytes bytes at.files h at.stand) n)

  one_list : (a b : List Object) → AreObjectsAt files names a → AreObjectsAt files names b → a ≡ b
  one_list a b h k = let P : List (List ℕ) → Type 0 = λ bs. AreObjectFiles bs b in same_objects laws h.files a b h.are (subst P (same_bytes k.files h.files k.stand h.stand) k.are)

  one_kind : (s t : Status) → LinkKind names files s → LinkKind names files t → s ≡ t
  one_kind s t (stops f) (stops g) = let both = same_stop (StandsAt files) (StopOf files s) (StopOf files t) (goes s) (goes t) names f g in one_stop s t both.0 both.1 both.2
  one_kind s t (stops f) (has_none bytes h which n e) = absurd (none_stops (StandsAt files) (StopOf files s) (goes s) names bytes h f)
  one_kind s t (stops f) (are_objects objects at e) = absurd (none_stops (StandsAt files) (StopOf files s) (goes s) names at.files at.stand f)
  one_kind s t (has_none bytes h which n e) (stops g) = absurd (none_stops (StandsAt files) (StopOf files t) (goes t) names bytes h g)
  one_kind s t (has_none bytes h which n e) (has_none bytes' h' which' n' e') = e ∙ sym e'
  one_kind s t (has_none bytes h which n e) (are_objects objects at e') = absurd (objects_or_none bytes h which n objects at)
  one_kind s t (are_objects objects at e) (stops g) = absurd (none_stops (StandsAt files) (StopOf files t) (goes t) names at.files at.stand g)
  one_kind s t (are_objects objects at e) (has_none bytes h which n e') = absurd (objects_or_none bytes h which n objects at)
  one_kind s t (are_objects objects at e) (are_objects others at' e') = e ∙ ap (λ (os : List Object). fault_status (link_fault (with_runtime os))) (one_list objects others at at') ∙ sym e'

  pub link_one : (s t : Status) → link_reason names files s → link_reason names files t → s ≡ t
  link_one s t h k = one_kind s t (link_kind names files s h) (link_kind names files t k)

-- run: the one file decides the status, and the outcome of its run
abbrev outcome_status : Outcome → Status
outcome_status outcome.Running = status.Spent
outcome_status (outcome.Ended code) = status.Done
outcome_status outcome.Wrong = status.Stuck
outcome_status outcome.Deep = status.Words

data RunKind (steps : ℕ) (name : List ℕ) (files : Contents) (input : List ℕ) (s : Status) : Type 0 where
  absent : IsAbsent files name → s ≡ status.Missing → RunKind steps name files input s
  long : IsLong files name → s ≡ status.Limit → RunKind steps name files input s
  no_image : (bytes : List ℕ) → StandsAt files name bytes → ((image : ImageParts) → ¬ IsImageOf image bytes) → s ≡ status.Image → RunKind steps name files input s
  not_loaded : (bytes : List ℕ) → StandsAt files name bytes → (image : ImageParts) → IsImageOf image bytes → (fault : LoadFault) → load_fault image ≡ Some fault → s ≡ status.Image → RunKind steps name files input s
  runs : (image : ImageParts) → IsLoaded files name image → s ≡ outcome_status (image_after image input steps).outcome → RunKind steps name files input s

module _ (laws : Laws) (steps : ℕ) (name : List ℕ) (files : Contents) (input : List ℕ) where
  image_kind : HasNoImage files name ⊎ ((fault : LoadFault) × IsNotLoaded files name fault) → RunKind steps name files input status.Image
  image_kind (inl h) = no_image h.0 h.1 h.2 refl
  image_kind (inr h) = not_loaded h.1.0 h.1.1 h.1.2.0 h.1.2.1 h.0 h.1.2.2 refl

  run_kind : (s : Status) → run_reason steps name files input s → RunKind steps name files input s
  run_kind status.Missing h = absent h refl
  run_kind status.Limit h = long h refl
  run_kind status.Image h = image_kind h
  run_kind status.Done h = runs h.1.0 h.1.1 (sym (ap outcome_status h.1.2))
  run_kind status.Spent h = runs h.0 h.1 (sym (ap outcome_status h.2))
  run_kind status.Stuck h = runs h.0 h.1 (sym (ap outcome_status h.2))
  run_kind _ h = absurd h

  no_image_here : (bytes other : List ℕ) → StandsAt files name bytes → ((image : ImageParts) → ¬ IsImageOf image bytes) → StandsAt files name other → (image : ImageParts) → IsImageOf image other → ⊥
  no_image_here bytes other h n k image is = let P : List ℕ → Type 0 = λ bs. IsImageOf image bs in n image (subst P (one_file files name other bytes k h) is)

  one_image : (bytes other : List ℕ) (a b : ImageParts) → StandsAt files name bytes → StandsAt files name other → IsImageOf a bytes → IsImageOf b other → a ≡ b
  one_image bytes other a b h k is also = let P : List ℕ → Type 0 = λ bs. IsImageOf b bs in laws.one_image a b bytes is (subst P (one_file files name other bytes k h) also)

  not_both_loaded : (bytes : List ℕ) → StandsAt files name bytes → (image : ImageParts) → IsImageOf image bytes → (fault : LoadFault) → load_fault image ≡ Some fault → (other : ImageParts) → IsLoaded files name other → ⊥
  not_both_loaded bytes h image is fault e other l = none-some fault (sym l.loads ∙ ap load_fault (one_image l.bytes bytes other image l.stands h l.is is) ∙ e)

  one_run : (s t : Status) → RunKind steps name files input s → RunKind steps name files input t → s ≡ t
  one_run s t (absent h e) (absent k f) = e ∙ sym f
  one_run s t (absent h e) (long k f) = absurd (absent_long files name h k)
  one_run s t (absent h e) (no_image bytes k n f) = absurd (stands_absent files name bytes k h)
  one_run s t (absent h e) (not_loaded bytes k image is fault l f) = absurd (stands_absent files name bytes k h)
  one_run s t (absent h e) (runs image k f) = absurd (stands_absent files name k.bytes k.stands h)
  one_run s t (long h e) (absent k f) = absurd (absent_long files name k h)
  one_run s t (long h e) (long k f) = e ∙ sym f
  one_run s t (long h e) (no_image bytes k n f) = absurd (stands_long files name bytes k h)
  one_run s t (long h e) (not_loaded bytes k image is fault l f) = absurd (stands_long files name bytes k h)
  one_run s t (long h e) (runs image k f) = absurd (stands_long files name k.bytes k.stands h)
  one_run s t (no_image bytes h n e) (absent k f) = absurd (stands_absent files name bytes h k)
  one_run s t (no_image bytes h n e) (long k f) = absurd (stands_long files name bytes h k)
  one_run s t (no_image bytes h n e) (no_image bytes' k n' f) = e ∙ sym f
  one_run s t (no_image bytes h n e) (not_loaded bytes' k image is fault l f) = e ∙ sym f
  one_run s t (no_image bytes h n e) (runs image k f) = absurd (no_image_here bytes k.bytes h n k.stands image k.is)
  one_run s t (not_loaded bytes h image is fault l e) (absent k f) = absurd (stands_absent files name bytes h k)
  one_run s t (not_loaded bytes h image is fault l e) (long k f) = absurd (stands_long files name bytes h k)
  one_run s t (not_loaded bytes h image is fault l e) (no_image bytes' k n f) = e ∙ sym f
  one_run s t (not_loaded bytes h image is fault l e) (not_loaded bytes' k image' is' fault' l' f) = e ∙ sym f
  one_run s t (not_loaded bytes h image is fault l e) (runs other k f) = absurd (not_both_loaded bytes h image is fault l other k)
  one_run s t (runs image h e) (absent k f) = absurd (stands_absent files name h.bytes h.stands k)
  one_run s t (runs image h e) (long k f) = absurd (stands_long files name h.bytes h.stands k)
  one_run s t (runs image h e) (no_image bytes k n f) = absurd (no_image_here bytes h.bytes k n h.stands image h.is)
  one_run s t (runs image h e) (not_loaded bytes k other is fault l f) = absurd (not_both_loaded bytes k other is fault l image h)
  one_run s t (runs image h e) (runs other k f) = e ∙ ap (λ (i : ImageParts). outcome_status (image_after i input steps).outcome) (one_image h.bytes k.bytes image other h.stands k.stands h.is k.is) ∙ sym f

  pub run_one : (s t : Status) → run_reason steps name files input s → run_reason steps name files input t → s ≡ t
  run_one s t h k = one_run s t (run_kind s h) (run_kind t k)

-- exec: what is so of the units decides why they are refused
abbrev source_status : Option SourceFault → Option LinkFault → Option Status
source_status (Some (source.Doubled unit name)) size = Some status.Doubled
source_status (Some (source.Unresolved unit name)) size = Some status.Unresolved
source_status None None = None
source_status None (Some fault) = Some status.Range

-- a unit is not compiled, and this is why
abbrev UnitStop : Contents → Status → List ℕ → Type 0
UnitStop files s unit = compile_reason unit files s × (s ≡ status.Done → ⊥)

data UnitKind (units : List (List ℕ)) (files : Contents) (s : Option Status) : Type 0 where
  stops_at : (t : Status) → s ≡ Some t → FirstStop (IsCompiled files) units (UnitStop files t) → UnitKind units files s
  all_are : (all : List Compiled) → AreAll (IsCompiled files) units all → s ≡ source_status (source_fault (items_of all)) (too_long (linked_objects (items_of all))) → UnitKind units files s

unit_kind : (units : List (List ℕ)) (files : Contents) (s : Status) → refusal units files s → UnitKind units files (Some s)
unit_kind units files status.Missing h = stops_at status.Missing refl (stop_for _ _ _ units (λ unit a. (a, λ e. cc)) h)
unit_kind units files status.Syntax h = stops_at status.Syntax refl (stop_for _ _ _ units (λ unit a. (a, λ e. cc)) h)
unit_kind units files status.Typing h = stops_at status.Typing refl (stop_for _ _ _ units (λ unit a. (a, λ e. cc)) h)
unit_kind units files status.Limit h = stops_at status.Limit refl (stop_for _ _ _ units (λ unit a. (a, λ e. cc)) h)
unit_kind units files status.Doubled h = all_are h.0 h.1 (sym (ap (λ (f : Option SourceFault). source_status f (too_long (linked_objects (items_of h.0)))) h.2.2))
unit_kind units files status.Unresolved h = all_are h.0 h.1 (sym (ap (λ (f : Option SourceFault). source_status f (too_long (linked_objects (items_of h.0)))) h.2.2))
unit_kind units files status.Range h = all_are h.0 h.1 (sym ((λ i. source_status (h.2.0 i) (h.2.1.1 i))))
unit_kind units files _ h = absurd h

program_kind : (units : List (List ℕ)) (files : Contents) → IsProgram units files → UnitKind units files None
program_kind units files h = all_are h.0 h.1 (sym ((λ i. source_status (h.2.0 i) (h.2.1 i))))

module _ (laws : Laws) (units : List (List ℕ)) (files : Contents) where
  goes_on : (s : Status) (unit : List ℕ) (made : Compiled) → IsCompiled files unit made → UnitStop files s unit → ⊥
  goes_on s unit made h k = k.1 (compile_one laws unit files s status.Done k.0 (made, h))

  one_unit_stop : (s t : Status) (unit : List ℕ) → UnitStop files s unit → UnitStop files t unit → s ≡ t
  one_unit_stop s t unit h k = compile_one laws unit files s t h.0 k.0

  same_items : (names : List (List ℕ)) (a b : List Compiled) → AreAll (IsCompiled files) names a → AreAll (IsCompiled files) names b → items_of a ≡ items_of b
  same_items [] [] [] h k = refl
  same_items [] [] (y ∷ b) h k = absurd k
  same_items [] (x ∷ a) b h k = absurd h
  same_items (name ∷ names) [] b h k = absurd h
  same_items (name ∷ names) (x ∷ a) [] h k = absurd k
  same_items (name ∷ names) (x ∷ a) (y ∷ b) h k =
      let P : List ℕ → Type 0 = λ text. HasForm text y.items in
      let e : x.items ≡ y.items = one_items laws h.0.text x.items y.items h.0.form (subst P (one_file files name k.0.text h.0.text k.0.stands h.0.stands) k.0.form) in
      let f : items_of a ≡ items_of b = same_items names a b h.1 k.1 in
      cc

  one_unit_kind : (s t : Option Status) → UnitKind units files s → UnitKind units files t → s ≡ t
  one_unit_kind s t (stops_at a e f) (stops_at b d g) =
      let both = same_stop (IsCompiled files) (UnitStop files a) (UnitStop files b) (goes_on a) (goes_on b) units f g in e ∙ ap (λ (x : Status). Some x) (one_unit_stop a b both.0 both.1 both.2) ∙ sym d
  one_unit_kind s t (stops_at a e f) (all_are all h d) = absurd (none_stops (IsCompiled files) (UnitStop files a) (goes_on a) units all h f)
  one_unit_kind s t (all_are all h d) (stops_at b e g) = absurd (none_stops (IsCompiled files) (UnitStop files b) (goes_on b) units all h g)
  one_unit_kind s t (all_are all h d) (all_are others k e) = d ∙ ap (λ (is : List (List Item)). source_status (source_fault is) (too_long (linked_objects is))) (same_items units all others h k) ∙ sym e

  pub refused_one : (s t : Status) → refusal units files s → refusal units files t → s ≡ t
  refused_one s t h k = same_Some s t (one_unit_kind (Some s) (Some t) (unit_kind units files s h) (unit_kind units files t k))

  pub not_refused : (s : Status) → refusal units files s → IsProgram units files → ⊥
  not_refused s h p = none-some s (one_unit_kind None (Some s) (program_kind units files p) (unit_kind units files s h))
