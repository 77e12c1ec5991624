-- Steps of Core by the kind of the first item.
use Rattle.std.specs.Prelude.{◌≡◌, ℕ, ◌+◌, Bool, true, false, List, [], ◌∷◌, ◌++◌, Option, Some}
use Rattle.std.proofs.Common.{refl, ap, ◌∙◌, arith}
use Rattle.cc_base.specs.declared.run.Act.{Act}
use Rattle.block_mem.specs.Blocks.{Blocks}
use Rattle.block_mem.specs.Access.{store}
use Rattle.block_mem.specs.declared.value.Value.{Value}
use Rattle.block_mem.specs.declared.value.Width.{Width}
use Rattle.clight_sem.specs.Values.{truth_of}
use Rattle.core_lang.specs.declared.syntax.Expression.{Expression as Core}
use Rattle.core_lang.specs.declared.syntax.Statement.{Statement as Code, out-Statement}
use Rattle.core_lang.specs.declared.syntax.Statement.TheVariants as code
use Rattle.core_lang.specs.declared.syntax.Statement.TheOpen.{Statement-F}
use Rattle.core_lang.specs.Meaning.{Temporaries, put, Scene, value_of, Program, objects_at, Item, Do, End, to_do, leave, World, Turned, Run, at, statement_step, set_if, store_if, with_memory, branched}
use Rattle.pass_core.specs.Turns.{On, Going, after_turn as after_step}
use Rattle.core_lang.specs.Units.{core}
use Rattle.core_lang.specs.Prices.{expression_price, statement_price}
use Rattle.core_lang.specs.laws.Opened.{out_set, out_store, out_if, out_loop, out_block, out_exit}
use Rattle.pass_core.specs.Meets.{Reaches}
use Rattle.pass_core.specs.laws.Meets.{one}

-- what the newest call of a world finds expressions in, with these temporaries
abbrev pub scene : Program → World → Temporaries → Scene
scene p w t = record { memory = w.memory; temporaries = t; objects = objects_at p w.top.unit; activation = w.top.activation }

module _ (p : Program) (input : List ℕ) (acts : List Act) where
  -- a run whose newest call has these temporaries and this to do
  abbrev pub stand : World → Temporaries → List Item → Run
  stand w t left = Going (at w t left) input acts

  -- one step whose statement is open and goes on
  pub steps : (w : World) (t : Temporaries) (s : Code) (left : List Item) (x : Statement-F Code) (y : Turned) → out-Statement s ≡ x → statement_step p (at w t left) s x ≡ y → Reaches (core p) (stand w t (Do s ∷ left)) (after_step y input acts) 1 (statement_price x)
  steps w t s left x y o h = one (core p) (stand w t (Do s ∷ left)) (after_step y input acts) (statement_price x)
      (ap (λ (z : Statement-F Code). after_step (statement_step p (at w t left) s z) input acts) o ∙ ap (λ (z : Turned). after_step z input acts) h)
      (let e : statement_price (out-Statement s) ≡ statement_price x = ap statement_price o in omega (arith, e))

  pub sets : (w : World) (t : Temporaries) (k : ℕ) (e : Core) (left : List Item) (v : Value) → value_of (scene p w t) e ≡ Some v → Reaches (core p) (stand w t (Do (code.Set k e) ∷ left)) (stand w (put t k v) left) 1 (expression_price e)
  sets w t k e left v h = steps w t (code.Set k e) left (Statement-F.Set k e) (On (at w (put t k v) left)) (out_set k e) (ap (set_if (at w t left) k) h)

  pub stores : (w : World) (t : Temporaries) (width : Width) (e x : Core) (left : List Item) (a v : Value) (m : Blocks) → value_of (scene p w t) e ≡ Some a → value_of (scene p w t) x ≡ Some v → store w.memory a width v ≡ Some m → Reaches (core p) (stand w t (Do (code.Store width e x) ∷ left)) (stand (record w { memory = m }) t left) 1 (4 + expression_price e + expression_price x)
  stores w t width e x left a v m h i j = steps w t (code.Store width e x) left (Statement-F.Store width e x) (On (at (record w { memory = m }) t left)) (out_store width e x)
      (ap (λ (z : Option Value). store_if (at w t left) width z (value_of (scene p w t) x)) h ∙ ap (store_if (at w t left) width (Some a)) i ∙ ap (with_memory (at w t left)) j)

  pub takes : (w : World) (t : Temporaries) (e : Core) (a b : List Code) (left : List Item) → truth_of (value_of (scene p w t) e) ≡ Some true → Reaches (core p) (stand w t (Do (code.If e a b) ∷ left)) (stand w t (to_do a ++ left)) 1 (5 + expression_price e)
  takes w t e a b left h = steps w t (code.If e a b) left (Statement-F.If e a b) (On (at w t (to_do a ++ left))) (out_if e a b) (ap (λ (z : Option Bool). branched (at w t left) z a b) h)

  pub skips : (w : World) (t : Temporaries) (e : Core) (a b : List Code) (left : List Item) → truth_of (value_of (scene p w t) e) ≡ Some false → Reaches (core p) (stand w t (Do (code.If e a b) ∷ left)) (stand w t (to_do b ++ left)) 1 (5 + expression_price e)
  skips w t e a b left h = steps w t (code.If e a b) left (Statement-F.If e a b) (On (at w t (to_do b ++ left))) (out_if e a b) (ap (λ (z : Option Bool). branched (at w t left) z a b) h)

  pub loops : (w : World) (t : Temporaries) (a : List Code) (left : List Item) → Reaches (core p) (stand w t (Do (code.Loop a) ∷ left)) (stand w t ((to_do a ++ Do (code.Loop a) ∷ []) ++ left)) 1 1
  loops w t a left = steps w t (code.Loop a) left (Statement-F.Loop a) (On (at w t ((to_do a ++ Do (code.Loop a) ∷ []) ++ left))) (out_loop a) refl

  pub blocks : (w : World) (t : Temporaries) (a : List Code) (left : List Item) → Reaches (core p) (stand w t (Do (code.Block a) ∷ left)) (stand w t ((to_do a ++ End ∷ []) ++ left)) 1 0
  blocks w t a left = steps w t (code.Block a) left (Statement-F.Block a) (On (at w t ((to_do a ++ End ∷ []) ++ left))) (out_block a) refl

  pub exits : (w : World) (t : Temporaries) (n : ℕ) (left : List Item) → Reaches (core p) (stand w t (Do (code.Exit n) ∷ left)) (stand w t (leave n left)) 1 0
  exits w t n left = steps w t (code.Exit n) left (Statement-F.Exit n) (On (at w t (leave n left))) (out_exit n) refl

  pub passes : (w : World) (t : Temporaries) (left : List Item) → Reaches (core p) (stand w t (End ∷ left)) (stand w t left) 1 0
  passes w t left = one (core p) (stand w t (End ∷ left)) (stand w t left) 0 refl (omega arith)
