-- What linked units of the second form mean is what `clight_sem` says of their typed units.
use Rattle.std.proofs.Common.{◌≡◌, ℕ, zero, suc, false, ◌||◌, List, [], ◌∷◌, ◌++◌, slice_get, Option, Some, None, refl, sym, ap, ◌∙◌, subst, arith}
use Rattle.std.specs.Prelude.{codes, All}
use Rattle.std.specs.Option.{option_map}
use Rattle.typing_symbols.specs.Names.{is_among}
use Rattle.clight_unit.specs.declared.unit.ClightUnit.{ClightUnit as TypedUnit}
use Rattle.clight_unit.specs.declared.function.Function.{Function}
use Rattle.typing_declarations.specs.Whole.{whole_of}
use Rattle.typing_units.specs.declared.walk.Walk.{Walk}
use Rattle.typing_units.specs.Walk.{walk_before, walk_behind}
use Rattle.typing_units.specs.Typing.{unit_with}
use Rattle.clight_sem.specs.Turns.{source_after}
use Rattle.pass_core.specs.Refines.{Sound, Agrees, Refines}
use Rattle.cc_base.specs.Runs.{State, IsPrefix}
use Rattle.second_form.specs.declared.second_items.Item.{Item}
use Rattle.second_form.specs.SecondForm.{IsItem}
use Rattle.second_form.specs.SecondRun.{stack_room, second_after}
use Rattle.second_runs.specs.Mirrors.{AreFunctions, Mirrors, AllMirror, IsFree}
use Rattle.second_symbols.specs.Sources.{IsSource, AreSources, AllDeclare, all_declare, Each, each_from}
use Rattle.second_symbols.specs.laws.Symbols.{names_behind}
use Rattle.second_symbols.specs.laws.ItemSights.{static_as_told}
use Rattle.second_source.specs.laws.Scopes.{putbyte_not, knows_before}
use Rattle.second_source.specs.laws.Walked.{Fact, Came, walks}
use Rattle.second_runs.specs.laws.Runs.{mirrored_runs}

each_is : (items : List Item) → All IsItem items → (i : ℕ) (item : Item) → slice_get items i ≡ Some item → IsItem item
each_is [] all i item at = let none : slice_get [] i ≡ None = refl in let x = sym none ∙ at in cc
each_is (x ∷ items) all zero item at = let same : x ≡ item = cc in subst IsItem same (all 0 x (omega arith))
each_is (x ∷ items) all (suc i) item at = each_is items (λ k d h. all (suc k) d (omega arith)) i item at

all_free : (items : List Item) → All IsItem items → All IsFree items
all_free items all = λ k d h. (all k d h).name.free

-- `putbyte` is not declared
not_declared : (items : List Item) (done : List (List ℕ)) → All IsFree items → is_among (codes "putbyte") done ≡ false → is_among (codes "putbyte") (names_behind done items) ≡ false
not_declared [] done free h = h
not_declared (item ∷ items) done free h =
    not_declared items (item.name ∷ done) (λ k d h. free (suc k) d (omega arith))
    (ap (λ b. b || is_among (codes "putbyte") done) (putbyte_not item.name (free 0 item (omega arith))) ∙ h)

pub source_mirrors : (items : List Item) (u : TypedUnit) → IsSource items u → Mirrors items u
source_mirrors items u h = by (end.functions) refl
  where
    end : Walk
    end = walk_behind (whole_of h.tree) (walk_before (whole_of h.tree) h.tree) h.tree

    declares : AllDeclare h.tree items
    declares = all_declare h.tree items h.form.are

    facts : Each (Fact h.tree) items
    facts = each_from (Fact h.tree) items (λ i item at. record { is = each_is items h.form.each i item at; static = static_as_told h.tree items declares h.form.rules.alike i item at })

    by : (fs : Option (List Function)) → end.functions ≡ fs → Mirrors items u
    by None e = let none : None ≡ Some u = sym (ap (option_map (unit_with (whole_of h.tree) h.tree end)) e) ∙ h.typed.is_unit in cc
    by (Some fs) e =
        let is : Some (unit_with (whole_of h.tree) h.tree end fs) ≡ Some u = sym (ap (option_map (unit_with (whole_of h.tree) h.tree end)) e) ∙ h.typed.is_unit in
        let same : unit_with (whole_of h.tree) h.tree end fs ≡ u = cc in
        let came : Came h.tree items declares u (ap (λ (u : TypedUnit). u.symbol_names) (sym same)) (ap (λ (u : TypedUnit). u.callees) (sym same)) (walk_before (whole_of h.tree) h.tree) end items fs =
        walks h.tree items declares u (ap (λ (u : TypedUnit). u.symbol_names) (sym same)) (ap (λ (u : TypedUnit). u.callees) (sym same))
        (not_declared items [] (all_free items h.form.each) refl) h.tree items declares facts [] refl (walk_before (whole_of h.tree) h.tree) (knows_before (whole_of h.tree) h.tree) (λ r n s. s) h.typed.unbroken fs e in
        let none : [] ≡ came.before = let s : Some [] ≡ Some came.before = came.began in cc in
        let functions : fs ≡ came.later = came.functions ∙ ap (λ b. b ++ came.later) (sym none) in
        record {
          globals = ap (λ (u : TypedUnit). u.globals) (sym same) ∙ came.globals;
          functions = subst (AreFunctions u items) (sym functions ∙ ap (λ (u : TypedUnit). u.functions) same) came.are;
          free = all_free items h.form.each;
        }

pub sources_mirror : (units : List (List Item)) (us : List TypedUnit) → AreSources units us → AllMirror units us
sources_mirror [] us h = h
sources_mirror (items ∷ units) [] h = h
sources_mirror (items ∷ units) (u ∷ us) h = (source_mirrors items u h.0, sources_mirror units us h.1)

-- the meaning of texts of the second form is that of their typed units, on every input and at each turn
pub second_form_means_source : (units : List (List Item)) (us : List TypedUnit) → AreSources units us → (input : List ℕ) (n : ℕ) → source_after us stack_room input n ≡ second_after units n
second_form_means_source units us h input n = mirrored_runs units us (sources_mirror units us h) input n

-- Runs that are the same at each turn

module _ (a b : ℕ → State) (same : (n : ℕ) → a n ≡ b n) where
  pub sound_alike : Sound b → Sound a
  sound_alike h = record {
    right = λ n e. h.right n (ap (λ (x : State). x.outcome) (sym (same n)) ∙ e);
    shallow = λ n e. h.shallow n (ap (λ (x : State). x.outcome) (sym (same n)) ∙ e);
  }

  pub refines_alike : (c : ℕ → State) → Refines b c → Refines a c
  refines_alike c h sound =
      let there : Sound b = record {
        right = λ n e. sound.right n (ap (λ (x : State). x.outcome) (same n) ∙ e);
        shallow = λ n e. sound.shallow n (ap (λ (x : State). x.outcome) (same n) ∙ e);
      } in
      let agrees : Agrees b c = h there in
      record {
        sound = agrees.sound;
        only = λ n. let o = agrees.only n in (o.0, subst (λ (x : State). IsPrefix (c n).acts x.acts) (sym (same o.0)) o.1);
        reached = λ m. let r = agrees.reached m in (r.0, subst (λ (x : State). IsPrefix x.acts (c r.0).acts) (sym (same m)) r.1);
        ends = λ m status e. let r = agrees.ends m status (ap (λ (x : State). x.outcome) (sym (same m)) ∙ e) in (r.0, r.1 ∙ sym (same m));
        ends_only = λ n status e. let r = agrees.ends_only n status e in (r.0, same r.0 ∙ r.1);
      }

-- what refines the meaning of texts of the second form refines the meaning of their typed units
pub source_refines : (units : List (List Item)) (us : List TypedUnit) → AreSources units us → (input : List ℕ) (image : ℕ → State) → Refines (second_after units) image
    → Refines (source_after us stack_room input) image
source_refines units us h input image refines = refines_alike (source_after us stack_room input) (second_after units) (second_form_means_source units us h input) image refines
