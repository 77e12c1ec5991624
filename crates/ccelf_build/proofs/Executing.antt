-- What exec comes to, where the files and the input tell their bytes.
use Rattle.std.proofs.Common.{◌≡◌, ◌∷◌, ◌++◌, [], ℕ, List, Some, None, map, Result, Ok, Err, inl, inr, ap, ◌∙◌, sym, subst, append-nil}
use Rattle.cc_base.specs.Seen.{FilesSeen, SourceSeen, SinkSeen}
use Rattle.cc_base.specs.Outside.{grown}
use Rattle.cc_base.specs.Runs.{emitted}
use Rattle.elf_file.specs.Image.{IsImageOf}
use Rattle.elf_file.specs.declared.image.ImageParts.{ImageParts}
use Rattle.elf_linker.specs.Linked.{Linked}
use Rattle.elf_linker.specs.Names.{link_fault}
use Rattle.elf_loader.specs.Load.{load_fault, image_after}
use Rattle.second_code.specs.LinkedObjects.{linked_objects}
use Rattle.command_words.specs.Commands.{AreNames, object_name}
use Rattle.commands.specs.declared.answer.Answer.{Answer}
use Rattle.commands.specs.declared.answer.Answer.TheVariants as answer
use Rattle.commands.specs.Doing.{Outside, Then}
use Rattle.commands.specs.Steps.{Stores, Links, LinkedFrom, Runs}
use Rattle.commands.specs.Does.{exec_does}
use Rattle.ccelf_build.specs.Contents.{Contents, AreAll, put_all, DidPut}
use Rattle.ccelf_build.specs.Laws.{Laws}
use Rattle.ccelf_build.specs.Told.{Compiled, IsCompiled, RanFor, Comes, objects_of, items_of, SomePut, IsBuilt, exec_told}
use Rattle.ccelf_build.proofs.Names.{units_apart}
use Rattle.ccelf_build.proofs.Units.{Tells, put_more, put_one}
use Rattle.second_source.specs.laws.Means.{source_refines}
use Rattle.ccelf_build.proofs.Made.{Sources, sources_of}
use Rattle.ccelf_build.proofs.UnitLists.{files_of, same_first, PutFirst, UnitsRow, units_row, units_done, made_all}
use Rattle.ccelf_build.proofs.Objects.{are_units, units_linked, UnitsLinked, runs_loaded}
use Rattle.ccelf_build.proofs.Running.{comes_so}
use Rattle.ccelf_build.proofs.Untouching.{run_still}

-- what came of a run is told of any outside with this output
ran_from : (image : ImageParts) (input : List ℕ) (n : ℕ) (a b new : Outside) → a.output ≡ b.output → RanFor image input n a new → RanFor image input n b new
ran_from image input n a b new e r = record { emits = r.emits ∙ ap (λ (o : SinkSeen). (grown o (emitted (image_after image input n).acts)).told) e; takes = r.takes }

comes_from : (image : ImageParts) (input : List ℕ) (steps : ℕ) (a b new : Outside) (told : Answer) → a.output ≡ b.output → Comes image input steps a told new → Comes image input steps b told new
comes_from image input steps a b new (answer.Ended status) e h = (ran_from image input steps a b new e h.0, h.1)
comes_from image input steps a b new answer.Spent e h = (ran_from image input steps a b new e h.0, h.1)
comes_from image input steps a b new (answer.Stuck eip cause) e h = (ran_from image input steps a b new e h.0, h.1)
comes_from image input steps a b new answer.ReadFault e h = record { count = h.count; fewer = h.fewer; ran = ran_from image input h.count a b new e h.ran; next = h.next }
comes_from image input steps a b new answer.WriteFault e h = record { count = h.count; fewer = h.fewer; ran = ran_from image input h.count a b new e h.ran; next = h.next }
comes_from image input steps a b new answer.Memory e h = record { count = h.count; fewer = h.fewer; ran = ran_from image input h.count a b new e h.ran; next = h.next }
comes_from image input steps a b new _ e h = absurd h

module _ (laws : Laws) (steps : ℕ) (image : List ℕ) (units : List (List ℕ)) (files : Contents) (input : List ℕ) (old : Outside) (there : Tells files old) (known : old.input.told ≡ Some input) where
  some_put : (new : Outside) → PutFirst files files units old new → SomePut units files old new
  some_put new p = record { done = p.done; left = p.left; order = p.order; all = p.all; are = p.are; put = p.put }

  from_units : (new : Outside) (e : Answer) → UnitsRow files files units old e new → exec_told steps image units files input old e new
  from_units new (answer.Missing which) h = h
  from_units new (answer.LimitFile which) h = h
  from_units new (answer.LimitText which) h = h
  from_units new (answer.LimitDeep which at) h = h
  from_units new (answer.Syntax which kind at) h = h
  from_units new (answer.Typing which broken at) h = h
  from_units new (answer.LimitUnit which limit at) h = h
  from_units new (answer.LimitForm which) h = h
  from_units new answer.ReadFault h = inl (some_put new h)
  from_units new answer.WriteFault h = inl (some_put new h)
  from_units new answer.Memory h = inl (some_put new h)
  from_units new _ h = absurd h

  module _ (all : List Compiled) (are : AreAll (IsCompiled files) units all) (mid : Outside) (put : DidPut files (objects_of units all) old mid) where
    -- nothing was put behind the objects
    objects_put : (new : Outside) → new.files.told ≡ mid.files.told → new.input ≡ mid.input → new.output ≡ mid.output → DidPut files (objects_of units all) old new
    objects_put new f i o = record { put = f ∙ put.put; input = i ∙ put.input; output = o ∙ put.output }

    same_outside : (new : Outside) → new ≡ mid → DidPut files (objects_of units all) old new
    same_outside new e = objects_put new (ap (λ (x : Outside). x.files.told) e) (ap (λ (x : Outside). x.input) e) (ap (λ (x : Outside). x.output) e)

    all_some : (new : Outside) → DidPut files (objects_of units all) old new → SomePut units files old new
    all_some new d = record { done = units; left = []; order = sym (append-nil units); all = all; are = are; put = d }

    from_link : (new : Outside) (e : Answer) → UnitsLinked (map object_name units) (items_of all) (Err e) → new ≡ mid → exec_told steps image units files input old e new
    from_link new (answer.Doubled name file) h s = record { all = all; are = are; is = h; put = same_outside new s }
    from_link new (answer.Unresolved name file) h s = record { all = all; are = are; is = h; put = same_outside new s }
    from_link new (answer.Range end) h s = record { all = all; are = are; is = h; put = same_outside new s }
    from_link new answer.Memory h s = inl (all_some new (same_outside new s))
    from_link new _ h s = absurd h

    from_store : (bytes : List ℕ) (new : Outside) (e : Answer) → Stores image bytes mid (Err e) new → exec_told steps image units files input old e new
    from_store bytes new answer.WriteFault h =
        inl (all_some new (objects_put new (ap (λ (x : FilesSeen). x.told) h.0.others) (ap (λ (x : Outside). x.input) h.1) (ap (λ (x : Outside). x.output) h.1)))
    from_store bytes new answer.Memory h =
        inl (all_some new (objects_put new (ap (λ (x : FilesSeen). x.told) h.0) (ap (λ (x : Outside). x.input) h.1) (ap (λ (x : Outside). x.output) h.1)))
    from_store bytes new _ h = absurd h.0

    texts : Sources files units all
    texts = sources_of files units all are

    module _ (parts : ImageParts) (linked : Linked (linked_objects (items_of all)) parts) (fine : link_fault (linked_objects (items_of all)) ≡ None) (bytes : List ℕ) (written : IsImageOf parts bytes) where
      abbrev built : IsBuilt units files input parts
      built = record {
        all = all;
        are = are;
        linked = linked;
        no_fault = fine;
        bytes = bytes;
        written = written;
        sources = texts.sources;
        typed = texts.typed;
        refines = source_refines (items_of all) texts.sources texts.are input (image_after parts input)
            (laws.refine (items_of all) parts (are_units (items_of all) (files_of all) (made_all files units all are)) linked fine input);
      }

      loads : load_fault parts ≡ None
      loads = laws.load (items_of all) parts (are_units (items_of all) (files_of all) (made_all files units all are)) linked fine

      module _ (end : Outside) (ends : DidPut files (objects_of units all ++ record { name = image; bytes = bytes } ∷ []) old end) where
        from_run : (new : Outside) (e : Answer) → new.files ≡ end.files → Comes parts input steps old e new → exec_told steps image units files input old e new
        from_run new (answer.Ended status) f h = (parts, (built, ap (λ (x : FilesSeen). x.told) f ∙ ends.put), h)
        from_run new answer.Spent f h = (parts, (built, ap (λ (x : FilesSeen). x.told) f ∙ ends.put), h)
        from_run new (answer.Stuck eip cause) f h = (parts, (built, ap (λ (x : FilesSeen). x.told) f ∙ ends.put), h)
        from_run new answer.ReadFault f h = inr (parts, (built, ap (λ (x : FilesSeen). x.told) f ∙ ends.put), h)
        from_run new answer.WriteFault f h = inr (parts, (built, ap (λ (x : FilesSeen). x.told) f ∙ ends.put), h)
        from_run new answer.Memory f h = inr (inr (parts, (built, ap (λ (x : FilesSeen). x.told) f ∙ ends.put), h))
        from_run new _ f h = absurd h

        wanted : (new : Outside) (e : Answer) → e ≡ answer.Memory → new ≡ end → exec_told steps image units files input old e new
        wanted new e m s =
            let P : Answer → Type 0 = λ a. exec_told steps image units files input old a new in
            subst P (sym m) (inr (inl (parts, (built, ap (λ (x : Outside). x.files.told) s ∙ ends.put), (ap (λ (x : Outside). x.input) s ∙ ends.input, ap (λ (x : Outside). x.output) s ∙ ends.output))))

        after_store : (new : Outside) (e : Answer) → Runs steps image bytes end e new → exec_told steps image units files input old e new
        after_store new e h = elim (runs_loaded laws steps image bytes parts written loads end new e h) [
          | inl r ↦ from_run new e (run_still parts steps end new e r)
              (comes_from parts input steps end old new e ends.output (comes_so parts input steps end (ap (λ (x : SourceSeen). x.told) ends.input ∙ known) new e r))
          | inr r ↦ wanted new e r.0 r.1
        ]

      after_link : (new : Outside) (e : Answer) → Then (Stores image bytes) (λ _. Runs steps image bytes) mid e new → exec_told steps image units files input old e new
      after_link new e (inl h) = from_store bytes new e h
      after_link new e (inr h) = after_store h.between (put_more files (objects_of units all) (record { name = image; bytes = bytes } ∷ []) old mid h.between put (put_one (put_all (objects_of units all) files) image bytes mid h.between put.put h.went)) new e h.goes_on

    after_units : (objects : List (List ℕ)) → objects ≡ files_of all → (new : Outside) (e : Answer) → Then (Links (map object_name units) objects) (λ bytes. Then (Stores image bytes) (λ _. Runs steps image bytes)) mid e new
        → exec_told steps image units files input old e new
    after_units objects same new e (inl h) = from_link new e (linked_as (Err e) h.0) h.1
      where
        linked_as : (r : Result (List ℕ) Answer) → LinkedFrom (map object_name units) objects r → UnitsLinked (map object_name units) (items_of all) r
        linked_as r l =
            let P : List (List ℕ) → Type 0 = λ os. LinkedFrom (map object_name units) os r in
            units_linked laws (map object_name units) (files_of all) (items_of all) (made_all files units all are) r (subst P same l)
    after_units objects same new e (inr h) =
        let P : List (List ℕ) → Type 0 = λ os. LinkedFrom (map object_name units) os (Ok h.value) in
        let l = units_linked laws (map object_name units) (files_of all) (items_of all) (made_all files units all are) (Ok h.value) (subst P same h.went.0) in
        let Q : Outside → Type 0 = λ from. Then (Stores image h.value) (λ _. Runs steps image h.value) from e new in
        after_link l.0 l.1 l.2 h.value l.3 new e (subst Q h.went.1 h.goes_on)

  pub exec_row : AreNames (image ∷ units ++ map object_name units) → (new : Outside) (e : Answer) → exec_does steps image units old e new → exec_told steps image units files input old e new
  exec_row names new e (inl h) = from_units new e (units_row files units files old there (same_first files units) (units_apart image units names) new e h)
  exec_row names new e (inr h) =
      let d = units_done files units files old there (same_first files units) (units_apart image units names) h.value h.between h.went in
      after_units d.all d.are h.between d.put h.value d.objects_are new e h.goes_on
