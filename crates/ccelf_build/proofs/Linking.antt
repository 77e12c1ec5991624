-- What link comes to, where the files tell their bytes.
use Rattle.std.proofs.Common.{◌≡◌, ◌∷◌, [], ℕ, List, map, length, None, Result, Ok, Err, inl, inr, refl, ap, ◌∙◌, sym, subst}
use Rattle.cc_base.specs.Seen.{FilesSeen}
use Rattle.clight_unit.specs.declared.unit.ClightUnit.{ClightUnit as TypedUnit}
use Rattle.second_source.specs.laws.Means.{source_refines}
use Rattle.pass_core.specs.Refines.{Refines}
use Rattle.elf_file.specs.Object.{Object}
use Rattle.elf_linker.specs.Linked.{Linked}
use Rattle.elf_linker.specs.Names.{link_fault}
use Rattle.elf_linker.specs.Runtime.{with_runtime}
use Rattle.elf_loader.specs.Load.{image_after}
use Rattle.second_code.specs.LinkedObjects.{unit_object}
use Rattle.commands.specs.declared.answer.Answer.{Answer}
use Rattle.commands.specs.declared.answer.Answer.TheVariants as answer
use Rattle.commands.specs.Doing.{Outside, Then, Each, Says}
use Rattle.commands.specs.Steps.{Fetches, Stores, Links, AreObjectFiles, IsLinkedImage}
use Rattle.commands.specs.Does.{link_does}
use Rattle.ccelf_build.specs.Contents.{Contents, StandsAt, IsAbsent, IsLong, AreAll, FirstStop, DidPut}
use Rattle.ccelf_build.specs.Laws.{Laws}
use Rattle.ccelf_build.specs.Told.{AreMade, AreObjectsAt, link_told}
use Rattle.ccelf_build.proofs.Chains.{rest_failed}
use Rattle.ccelf_build.proofs.Listing.{stop_here, stop_later}
use Rattle.ccelf_build.proofs.Units.{Tells, FetchRow, fetch_row, fetch_same, fetch_stands, none_put, nothing_done, put_one}
use Rattle.ccelf_build.specs.Sources.{units_after}
use Rattle.ccelf_build.proofs.Made.{ItemsMade, items_made}
use Rattle.ccelf_build.proofs.Objects.{are_units, objects_are}

-- what getting files comes to, by the answer
abbrev FilesRow : Contents → List (List ℕ) → Outside → Answer → Outside → Type 0
FilesRow files names old (answer.Missing which) new = FirstStop (StandsAt files) names (λ name. (which ≡ name) × IsAbsent files name) × DidPut files [] old new
FilesRow files names old (answer.LimitFile which) new = FirstStop (StandsAt files) names (λ name. (which ≡ name) × IsLong files name) × DidPut files [] old new
FilesRow files names old answer.ReadFault new = DidPut files [] old new
FilesRow files names old answer.Memory new = DidPut files [] old new
FilesRow files names old _ new = ⊥

module _ (files : Contents) (old : Outside) (there : Tells files old) where
  from_fetch : (name : List ℕ) (names : List (List ℕ)) (new : Outside) (e : Answer) → FetchRow files name old e new → FilesRow files (name ∷ names) old e new
  from_fetch name names new (answer.Missing which) h = (stop_here (StandsAt files) _ name names (h.0, h.1), h.2)
  from_fetch name names new (answer.LimitFile which) h = (stop_here (StandsAt files) _ name names (h.0, h.1), h.2)
  from_fetch name names new answer.ReadFault h = h
  from_fetch name names new answer.Memory h = h
  from_fetch name names new _ h = absurd h

  from_later : (name : List ℕ) (names : List (List ℕ)) (bytes : List ℕ) → StandsAt files name bytes → (new : Outside) (e : Answer) → FilesRow files names old e new → FilesRow files (name ∷ names) old e new
  from_later name names bytes s new (answer.Missing which) h = (stop_later (StandsAt files) _ name names bytes s h.0, h.1)
  from_later name names bytes s new (answer.LimitFile which) h = (stop_later (StandsAt files) _ name names bytes s h.0, h.1)
  from_later name names bytes s new answer.ReadFault h = h
  from_later name names bytes s new answer.Memory h = h
  from_later name names bytes s new _ h = absurd h

  -- all files were got
  pub files_got : (names : List (List ℕ)) (bytes : List (List ℕ)) (new : Outside) → Each Fetches names old (Ok bytes) new → AreAll (StandsAt files) names bytes × (new ≡ old)
  files_got [] bytes new h =
      let P : List (List ℕ) → Type 0 = λ bs. AreAll (StandsAt files) [] bs in
      let none : bytes ≡ [] = (let e : ◌≡◌ {A = Result (List (List ℕ)) Answer} (Ok bytes) (Ok []) = h.0 in cc) in
      (subst P (sym none) tt, h.1)
  files_got (name ∷ names) bytes new h =
      let rest = h.goes_on in
      let same = fetch_same name h.value old h.between h.went in
      let P : Outside → Type 0 = λ from. Each Fetches names from (Ok rest.value) rest.between in
      let more = files_got names rest.value rest.between (subst P same rest.went) in
      let all : bytes ≡ h.value ∷ rest.value = (let e : ◌≡◌ {A = Result (List (List ℕ)) Answer} (Ok bytes) (Ok (h.value ∷ rest.value)) = rest.goes_on.0 in cc) in
      let Q : List (List ℕ) → Type 0 = λ bs. AreAll (StandsAt files) (name ∷ names) bs in
      (subst Q (sym all) (fetch_stands files name h.value old h.between there h.went, more.0), rest.goes_on.1 ∙ more.1)

  pub files_row : (names : List (List ℕ)) (new : Outside) (e : Answer) → Each Fetches names old (Err e) new → FilesRow files names old e new
  files_row [] new e h = let clash : ◌≡◌ {A = Result (List (List ℕ)) Answer} (Err e) (Ok []) = h.0 in cc
  files_row (name ∷ names) new e (inl h) = from_fetch name names new e (fetch_row files name old new e there h)
  files_row (name ∷ names) new e (inr h) =
      let same = fetch_same name h.value old h.between h.went in
      let P : Outside → Type 0 = λ from. Each Fetches names from (Err e) new in
      from_later name names h.value (fetch_stands files name h.value old h.between there h.went) new e (files_row names new e (subst P same (rest_failed Fetches names h.value h.between new e h.goes_on)))

module _ (laws : Laws) (image : List ℕ) (names : List (List ℕ)) (files : Contents) (old : Outside) (there : Tells files old) where
  from_files : (new : Outside) (e : Answer) → FilesRow files names old e new → link_told image names files old e new
  from_files new (answer.Missing which) h = h
  from_files new (answer.LimitFile which) h = h
  from_files new answer.ReadFault h = h
  from_files new answer.Memory h = h
  from_files new _ h = absurd h

  module _ (bytes : List (List ℕ)) (stand : AreAll (StandsAt files) names bytes) where
    abbrev at : (objects : List Object) → AreObjectFiles bytes objects → AreObjectsAt files names objects
    at objects are = record { files = bytes; stand = stand; are = are }

    from_link : (new : Outside) (e : Answer) → Links names bytes old (Err e) new → link_told image names files old e new
    from_link new (answer.ObjectForm which) h = ((bytes, stand, h.0), nothing_done files old new there h.1)
    from_link new (answer.Doubled name file) h = ((h.0.0, at h.0.0 h.0.1, h.0.2), nothing_done files old new there h.1)
    from_link new (answer.Unresolved name file) h = ((h.0.0, at h.0.0 h.0.1, h.0.2), nothing_done files old new there h.1)
    from_link new (answer.Sized name file stated defined) h = ((h.0.0, at h.0.0 h.0.1, h.0.2), nothing_done files old new there h.1)
    from_link new (answer.Range end) h = ((h.0.0, at h.0.0 h.0.1, h.0.2), nothing_done files old new there h.1)
    from_link new answer.Memory h = nothing_done files old new there h.1
    from_link new _ h = absurd h.0.2

    module _ (objects : List Object) (are : AreObjectFiles bytes objects) (made : List ℕ) (linked : IsLinkedImage objects made) where
      refines : (sources : List TypedUnit) → AreMade sources bytes → (input : List ℕ) → Refines (units_after sources input) (image_after linked.image input)
      refines sources h input =
          let made : ItemsMade sources bytes = items_made sources bytes h in
          let same : objects ≡ map unit_object made.units = objects_are laws made.units bytes objects made.are are in
          let P : List Object → Type 0 = λ os. Linked (with_runtime os) linked.image in
          let Q : List Object → Type 0 = λ os. link_fault (with_runtime os) ≡ None in
          source_refines made.units sources made.sources_are input (image_after linked.image input)
          (laws.refine made.units linked.image (are_units made.units bytes made.are) (subst P same linked.linked) (subst Q same linked.no_fault) input)

      from_store : (new : Outside) (e : Answer) → Stores image made old (Err e) new → link_told image names files old e new
      from_store new answer.WriteFault h = none_put files old new there (ap (λ (x : FilesSeen). x.told) h.0.others) h.1
      from_store new answer.Memory h = none_put files old new there (ap (λ (x : FilesSeen). x.told) h.0) h.1
      from_store new _ h = absurd h.0

      stored : (new : Outside) → Stores image made old (Ok tt) new → link_told image names files old (answer.ImageStored (length made)) new
      stored new h = record { objects = objects; at = at objects are; bytes = made; linked = linked; size_is = refl; put = put_one files image made old new there h; refines = refines }

      after_link : (new : Outside) (e : Answer) → Then (Stores image made) (λ _. Says (answer.ImageStored (length made))) old e new → link_told image names files old e new
      after_link new e (inl h) = from_store new e h
      after_link new e (inr h) =
          let P : Answer → Type 0 = λ a. link_told image names files old a new in
          let Q : Outside → Type 0 = λ end. link_told image names files old (answer.ImageStored (length made)) end in
          subst P (sym h.goes_on.0) (subst Q (sym h.goes_on.1) (stored h.between h.went))

    after_files : (new : Outside) (e : Answer) → Then (Links names bytes) (λ made. Then (Stores image made) (λ _. Says (answer.ImageStored (length made)))) old e new → link_told image names files old e new
    after_files new e (inl h) = from_link new e h
    after_files new e (inr h) =
        let P : Outside → Type 0 = λ from. Then (Stores image h.value) (λ _. Says (answer.ImageStored (length h.value))) from e new in
        after_link h.went.0.0 h.went.0.1 h.value h.went.0.2 new e (subst P h.went.1 h.goes_on)

  pub link_row : (new : Outside) (e : Answer) → link_does image names old e new → link_told image names files old e new
  link_row new e (inl h) = from_files new e (files_row files old there names new e h)
  link_row new e (inr h) =
      let got = files_got files old there names h.value h.between h.went in
      let P : Outside → Type 0 = λ from. Then (Links names h.value) (λ made. Then (Stores image made) (λ _. Says (answer.ImageStored (length made)))) from e new in
      after_files h.value got.0 new e (subst P got.1 h.goes_on)
