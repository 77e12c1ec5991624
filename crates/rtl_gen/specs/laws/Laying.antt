-- What is laid stands.
use Rattle.std.specs.Prelude.{◌≡◌, ℕ, ◌+◌, ◌<◌, ◌≤◌, max, Bool, true, false, List, [], ◌∷◌, ◌++◌, length, set, get_or, Option, Some, None, slice_get}
use Rattle.std.proofs.Common.{zero, suc, ◌∙◌, ap, sym, refl, subst, arith}
use Rattle.rtl_lang.specs.declared.syntax.RtlNode.{RtlNode}
use Rattle.rtl_lang.specs.declared.syntax.RtlNode.TheVariants as node
use Rattle.core_lang.specs.declared.syntax.Ending.{Ending}
use Rattle.core_lang.specs.declared.syntax.Ending.TheVariants as ending
use Rattle.core_lang.specs.declared.syntax.Function.{Function}
use Rattle.core_lang.specs.Bounds.{Size, body_size}
use Rattle.rtl_gen.specs.Trees.{Tree, Constant, Temporary, Address, Local, Load, Unary, Binary, Code, Skip, Then, Set, Store, Call, If, Loop, Block, Exit, Return, body_code}
use Rattle.rtl_gen.specs.Translation.{Laid, push, home, unless_there, takes_one, other_home, lay_zero, lay_into, lay_operand, homes, lay_operands, lay_return, patched, lay, end_value, base_of, lay_end, lay_body, rtl_function}
use Rattle.rtl_gen.specs.Relation.{Graph, operand, Zero, Into, Operand, Operands, Returns, Stands, graph_of}
use Rattle.rtl_gen.specs.laws.Trees.{tree_size, trees_size, return_size, code_size, body_size_is}
use Rattle.rtl_gen.specs.laws.Graphs.{Within, into_more, one_more, all_more, returns_more, stands_more, later, later_in, in_later, get_kept, length_push, get_below, set_get, set_others, set_length, Added, added_none, added_then, added_push, within_later, pushed, widen}

-- Nodes are only added

there : (x : Tree) (old new : Laid) (f : List RtlNode) → Added f old.1 → Added f new.1 → Added f (unless_there x old new).1
there (Constant n) old new f a b = b
there (Temporary j) old new f a b = a
there (Address symbol offset) old new f a b = b
there (Local index) old new f a b = b
there (Load w x) old new f a b = b
there (Unary op x) old new f a b = b
there (Binary op x y) old new f a b = b

operand_added : (r : Laid) (x : Tree) (k : ℕ) → Added r.1 (lay_into r.1 x k k r.0).1 → Added r.1 (lay_operand r x k).1
operand_added r x k a = there x r (lay_into r.1 x k k r.0) r.1 (added_none r.1) a

zero_added : (one : Bool) (r : Laid) (k : ℕ) → Added r.1 (lay_zero one r k).1
zero_added true r k = added_none r.1
zero_added false r k = added_push r.1 _

pub into_added : (g : List RtlNode) (e : Tree) (k d q : ℕ) → Added g (lay_into g e k d q).1
into_added g (Constant n) k d q = added_push g _
into_added g (Temporary j) k d q = added_push g _
into_added g (Address symbol offset) k d q = added_push g _
into_added g (Local index) k d q = added_push g _
into_added g (Load w x) k d q =
    let r = push g (node.Load w (home k x) d q) in
    added_then g r.1 (lay_operand r x k).1 (added_push g _) (operand_added r x k (into_added r.1 x k k r.0))
into_added g (Unary op x) k d q =
    let r = push g (node.Apply op (home k x) (other_home (takes_one op) k x) d q) in
    let s = lay_zero (takes_one op) r (suc k) in
    added_then g s.1 (lay_operand s x k).1 (added_then g r.1 s.1 (added_push g _) (zero_added (takes_one op) r (suc k))) (operand_added s x k (into_added s.1 x k k s.0))
into_added g (Binary op x y) k d q =
    let r = push g (node.Apply op (home k x) (home (suc k) y) d q) in
    let s = lay_operand r y (suc k) in
    added_then g s.1 (lay_operand s x k).1 (added_then g r.1 s.1 (added_push g _) (operand_added r y (suc k) (into_added r.1 y (suc k) (suc k) r.0))) (operand_added s x k (into_added s.1 x k k s.0))

pub one_added : (r : Laid) (x : Tree) (k : ℕ) → Added r.1 (lay_operand r x k).1
one_added r x k = operand_added r x k (into_added r.1 x k k r.0)

pub all_added : (r : Laid) (xs : List Tree) (k : ℕ) → Added r.1 (lay_operands r xs k).1
all_added r [] k = added_none r.1
all_added r (x ∷ xs) k = added_then r.1 (lay_operands r xs (suc k)).1 (lay_operands r (x ∷ xs) k).1 (all_added r xs (suc k)) (one_added (lay_operands r xs (suc k)) x k)

return_added : (g : List RtlNode) (e : Option Tree) (k : ℕ) → Added g (lay_return g e k).1
return_added g None k = added_push g _
return_added g (Some e) k = let r = push g (node.Return (Some (home k e))) in added_then g r.1 (lay_operand r e k).1 (added_push g _) (one_added r e k)

patched_added : (g : List RtlNode) (r : Laid) (x : RtlNode) → Added (g ++ x ∷ []) r.1 → Added g (patched (length g) r).1
patched_added g r x a = record {
  keeps = λ i y e.
      let lt = get_below g i y e in
      set_others r.1 (length g) i (node.Nop r.0) (λ h. absurd (omega (arith, h, lt))) ∙ a.keeps i y (get_kept g x i y e);
  longer = let e = set_length r.1 (length g) (node.Nop r.0) in let l = a.longer in let m = length_push g x in omega (arith, e, l, m);
}

pub lay_added : (g : List RtlNode) (k end : ℕ) (c : Code) (q : ℕ) (es : List ℕ) → Added g (lay g k end c q es).1
lay_added g k end Skip q es = added_none g
lay_added g k end (Then a b) q es = let r = lay g k end b q es in added_then g r.1 (lay r.1 k end a r.0 es).1 (lay_added g k end b q es) (lay_added r.1 k end a r.0 es)
lay_added g k end (Set j e) q es = into_added g e k j q
lay_added g k end (Store w a b) q es =
    let r = push g (node.Store w (home k a) (home (suc k) b) q) in
    let s = lay_operand r b (suc k) in
    added_then g s.1 (lay_operand s a k).1 (added_then g r.1 s.1 (added_push g _) (one_added r b (suc k))) (one_added s a k)
lay_added g k end (Call to callee xs) q es = let r = push g (node.Call callee (homes k xs) to q) in added_then g r.1 (lay_operands r xs k).1 (added_push g _) (all_added r xs k)
lay_added g k end (If e a b) q es =
    let n = lay g k end b q es in
    let y = lay n.1 k end a q es in
    let r = push y.1 (node.Branch (home k e) y.0 n.0) in
    added_then g y.1 (lay_operand r e k).1 (added_then g n.1 y.1 (lay_added g k end b q es) (lay_added n.1 k end a q es)) (added_then y.1 r.1 (lay_operand r e k).1 (added_push y.1 _) (one_added r e k))
lay_added g k end (Loop a) q es = patched_added g (lay (g ++ node.Nop (length g) ∷ []) k end a (length g) es) (node.Nop (length g)) (lay_added (g ++ node.Nop (length g) ∷ []) k end a (length g) es)
lay_added g k end (Block a) q es = lay_added g k end a q (q ∷ es)
lay_added g k end (Exit n) q es = added_none g
lay_added g k end (Return e) q es = return_added g e k

-- What is laid stands among the nodes that were added. What it reads is below `base`

module _ (base : ℕ) where
  abbrev Reads : Tree → Type 0
  Reads e = (tree_size e).reach ≤ base

  there_stands : (x : Tree) (k : ℕ) (old new : Laid) (b : ℕ) → Reads x → b ≤ length old.1 → Into (later (length old.1) new.1) base x k k new.0 old.0 → Operand (later b (unless_there x old new).1) base x k (unless_there x old new).0 old.0
  there_stands (Constant n) k old new b r le h = into_more _ (later b new.1) (λ i y e. widen new.1 (length old.1) b i y le e) base (Constant n) k k new.0 old.0 h
  there_stands (Temporary j) k old new b r le h = (omega (arith, r), refl)
  there_stands (Address symbol offset) k old new b r le h = into_more _ (later b new.1) (λ i y e. widen new.1 (length old.1) b i y le e) base (Address symbol offset) k k new.0 old.0 h
  there_stands (Local index) k old new b r le h = into_more _ (later b new.1) (λ i y e. widen new.1 (length old.1) b i y le e) base (Local index) k k new.0 old.0 h
  there_stands (Load w x) k old new b r le h = into_more _ (later b new.1) (λ i y e. widen new.1 (length old.1) b i y le e) base (Load w x) k k new.0 old.0 h
  there_stands (Unary op x) k old new b r le h = into_more _ (later b new.1) (λ i y e. widen new.1 (length old.1) b i y le e) base (Unary op x) k k new.0 old.0 h
  there_stands (Binary op x z) k old new b r le h = into_more _ (later b new.1) (λ i y e. widen new.1 (length old.1) b i y le e) base (Binary op x z) k k new.0 old.0 h

  zero_stands : (one : Bool) (r : Laid) (k b : ℕ) (h : List RtlNode) → b ≤ length r.1 → Added (lay_zero one r k).1 h → Zero (later b h) one k (lay_zero one r k).0 r.0
  zero_stands true r k b h le a = refl
  zero_stands false r k b h le a = widen h (length r.1) b (length r.1) _ le (pushed r.1 h _ a)

  pub into_stands : (g : List RtlNode) (e : Tree) (k d q : ℕ) → Reads e → Into (later (length g) (lay_into g e k d q).1) base e k d (lay_into g e k d q).0 q
  into_stands g (Constant n) k d q reads = pushed g _ _ (added_none _)
  into_stands g (Temporary j) k d q reads = (omega (arith, reads), pushed g _ _ (added_none _))
  into_stands g (Address symbol offset) k d q reads = pushed g _ _ (added_none _)
  into_stands g (Local index) k d q reads = pushed g _ _ (added_none _)
  into_stands g (Load w x) k d q reads =
      let n = node.Load w (home k x) d q in
      let r = push g n in
      let a = added_push g n in
      let l = a.longer in
      (length g, there_stands x k r (lay_into r.1 x k k r.0) (length g) reads l (into_stands r.1 x k k r.0 reads), pushed g (lay_operand r x k).1 n (one_added r x k))
  into_stands g (Unary op x) k d q reads =
      let n = node.Apply op (home k x) (other_home (takes_one op) k x) d q in
      let r = push g n in
      let s = lay_zero (takes_one op) r (suc k) in
      let f = lay_operand s x k in
      let a = added_push g n in
      let b : Added r.1 s.1 = zero_added (takes_one op) r (suc k) in
      let c : Added s.1 f.1 = one_added s x k in
      let l = a.longer in
      let m : length r.1 ≤ length s.1 = b.longer in (
        s.0,
        there_stands x k s (lay_into s.1 x k k s.0) (length g) reads (omega (arith, l, m)) (into_stands s.1 x k k s.0 reads),
        (length g, zero_stands (takes_one op) r (suc k) (length g) f.1 l c, pushed g f.1 n (added_then r.1 s.1 f.1 b c)),
      )
  into_stands g (Binary op x y) k d q reads =
      let n = node.Apply op (home k x) (home (suc k) y) d q in
      let r = push g n in
      let s = lay_operand r y (suc k) in
      let f = lay_operand s x k in
      let a = added_push g n in
      let b : Added r.1 s.1 = one_added r y (suc k) in
      let c : Added s.1 f.1 = one_added s x k in
      let l = a.longer in
      let m : length r.1 ≤ length s.1 = b.longer in
      let left : Reads x = omega (arith, reads) in
      let right : Reads y = omega (arith, reads) in (
        s.0,
        there_stands x k s (lay_into s.1 x k k s.0) (length g) left (omega (arith, l, m)) (into_stands s.1 x k k s.0 left),
        (
          length g,
          one_more (later (length g) s.1) (later (length g) f.1) (within_later (length g) (length g) s.1 f.1 (omega arith) c) base y (suc k) s.0 (length g) (there_stands y (suc k) r (lay_into r.1 y (suc k) (suc k) r.0) (length g) right l (into_stands r.1 y (suc k) (suc k) r.0 right)),
          pushed g f.1 n (added_then r.1 s.1 f.1 b c),
        ),
      )

  one_stands : (r : Laid) (x : Tree) (k b : ℕ) → Reads x → b ≤ length r.1 → Operand (later b (lay_operand r x k).1) base x k (lay_operand r x k).0 r.0
  one_stands r x k b reads le = there_stands x k r (lay_into r.1 x k k r.0) b reads le (into_stands r.1 x k k r.0 reads)

  all_stand : (r : Laid) (xs : List Tree) (k b : ℕ) → (trees_size xs).reach ≤ base → b ≤ length r.1 → Operands (later b (lay_operands r xs k).1) base xs k (lay_operands r xs k).0 r.0
  all_stand r [] k b reads le = refl
  all_stand r (x ∷ xs) k b reads le =
      let s = lay_operands r xs (suc k) in
      let a : Added r.1 s.1 = all_added r xs (suc k) in
      let l = a.longer in
      let first : Reads x = omega (arith, reads) in
      let others : (trees_size xs).reach ≤ base = omega (arith, reads) in
      (s.0, one_stands s x k b first (omega (arith, l, le)), all_more (later b s.1) (later b (lay_operand s x k).1) (within_later b b s.1 (lay_operand s x k).1 (omega arith) (one_added s x k)) base xs (suc k) s.0 r.0 (all_stand r xs (suc k) b others le))

  return_stands : (g : List RtlNode) (e : Option Tree) → (return_size e).reach ≤ base → Returns (later (length g) (lay_return g e base).1) base e (lay_return g e base).0
  return_stands g None reads = pushed g _ _ (added_none _)
  return_stands g (Some e) reads =
      let n = node.Return (Some (home base e)) in
      let r = push g n in
      let a = added_push g n in
      let l = a.longer in
      (length g, one_stands r e base (length g) reads l, pushed g (lay_operand r e base).1 n (one_added r e base))

  pub lay_stands : (g : List RtlNode) (end : ℕ) (c : Code) (q : ℕ) (es : List ℕ) → (code_size c).reach ≤ base → Stands (later (length g) (lay g base end c q es).1) base end c (lay g base end c q es).0 q es
  lay_stands g end Skip q es reads = refl
  lay_stands g end (Then a b) q es reads =
      let r = lay g base end b q es in
      let s = lay r.1 base end a r.0 es in
      let l : length g ≤ length r.1 = (lay_added g base end b q es).longer in
      let first : (code_size a).reach ≤ base = omega (arith, reads) in
      let second : (code_size b).reach ≤ base = omega (arith, reads) in (
        r.0,
        stands_more (later (length r.1) s.1) (later (length g) s.1) (λ i x h. widen s.1 (length r.1) (length g) i x l h) base end a s.0 r.0 es (lay_stands r.1 end a r.0 es first),
        stands_more (later (length g) r.1) (later (length g) s.1) (within_later (length g) (length g) r.1 s.1 (omega arith) (lay_added r.1 base end a r.0 es)) base end b r.0 q es (lay_stands g end b q es second),
      )
  lay_stands g end (Set j e) q es reads = into_stands g e base j q (omega (arith, reads))
  lay_stands g end (Store w a b) q es reads =
      let n = node.Store w (home base a) (home (suc base) b) q in
      let r = push g n in
      let s = lay_operand r b (suc base) in
      let f = lay_operand s a base in
      let x = added_push g n in
      let y : Added r.1 s.1 = one_added r b (suc base) in
      let z : Added s.1 f.1 = one_added s a base in
      let l = x.longer in
      let m : length r.1 ≤ length s.1 = y.longer in (
        s.0,
        one_stands s a base (length g) (omega (arith, reads)) (omega (arith, l, m)),
        (
          length g,
          one_more (later (length g) s.1) (later (length g) f.1) (within_later (length g) (length g) s.1 f.1 (omega arith) z) base b (suc base) s.0 (length g) (one_stands r b (suc base) (length g) (omega (arith, reads)) l),
          pushed g f.1 n (added_then r.1 s.1 f.1 y z),
        ),
      )
  lay_stands g end (Call to callee xs) q es reads =
      let n = node.Call callee (homes base xs) to q in
      let r = push g n in
      let x = added_push g n in
      let l = x.longer in
      (length g, all_stand r xs base (length g) (omega (arith, reads)) l, pushed g (lay_operands r xs base).1 n (all_added r xs base))
  lay_stands g end (If e a b) q es reads =
      let n = lay g base end b q es in
      let y = lay n.1 base end a q es in
      let br = node.Branch (home base e) y.0 n.0 in
      let r = push y.1 br in
      let f = lay_operand r e base in
      let an : Added g n.1 = lay_added g base end b q es in
      let ay : Added n.1 y.1 = lay_added n.1 base end a q es in
      let ar : Added y.1 r.1 = added_push y.1 br in
      let af : Added r.1 f.1 = one_added r e base in
      let ln = an.longer in
      let ly : length n.1 ≤ length y.1 = ay.longer in
      let lr : length y.1 ≤ length r.1 = ar.longer in
      let gy : length g ≤ length y.1 = omega (arith, ln, ly) in (
        length y.1,
        one_stands r e base (length g) (omega (arith, reads)) (omega (arith, gy, lr)),
        (
          y.0,
          n.0,
          widen f.1 (length y.1) (length g) (length y.1) br gy (pushed y.1 f.1 br af),
          stands_more (later (length n.1) y.1) (later (length g) f.1) (within_later (length n.1) (length g) y.1 f.1 ln (added_then y.1 r.1 f.1 ar af)) base end a y.0 q es (lay_stands n.1 end a q es (omega (arith, reads))),
          stands_more (later (length g) n.1) (later (length g) f.1) (within_later (length g) (length g) n.1 f.1 (omega arith) (added_then n.1 y.1 f.1 ay (added_then y.1 r.1 f.1 ar af))) base end b n.0 q es (lay_stands g end b q es (omega (arith, reads))),
        ),
      )
  lay_stands g end (Loop a) q es reads =
      let h = length g in
      let g1 = g ++ node.Nop h ∷ [] in
      let r = lay g1 base end a h es in
      let f = set r.1 h (node.Nop r.0) in
      let ad : Added g1 r.1 = lay_added g1 base end a h es in
      let l : length g1 ≤ length r.1 = ad.longer in
      let e : length g1 ≡ suc h = length_push g (node.Nop h) in (
        r.0,
        in_later h f h (node.Nop r.0) (omega arith) (set_get r.1 h (node.Nop r.0) (omega (arith, l, e))),
        stands_more (later (length g1) r.1) (later h f) (λ i x found.
            let at = later_in (length g1) r.1 i x found in
            let le : length g1 ≤ i = at.0 in
            in_later h f i x (omega (arith, le, e)) (set_others r.1 h i (node.Nop r.0) (λ same. absurd (omega (arith, same, le, e))) ∙ at.1)) base end a r.0 h es (lay_stands g1 end a h es (omega (arith, reads))),
      )
  lay_stands g end (Block a) q es reads = lay_stands g end a q (q ∷ es) reads
  lay_stands g end (Exit n) q es reads = refl
  lay_stands g end (Return e) q es reads = return_stands g e reads

-- Functions

whole : (b : ℕ) (g : List RtlNode) → Within (later b g) (λ i. slice_get g i)
whole b g i x h = (later_in b g i x h).1

pub body_stands : (f : Function) → Stands (graph_of f) (base_of f) (lay_end f).0 (body_code f.body) (rtl_function f).entry (lay_end f).0 []
unfolding rtl_function
body_stands f =
    let base = base_of f in
    let e = lay_end f in
    let few : (code_size (body_code f.body)).reach ≤ base = let s = ap (λ (x : Size). x.reach) (body_size_is f.body) in omega (arith, s) in
    stands_more (later (length e.1) (lay_body f).1) (λ i. slice_get (lay_body f).1 i) (whole (length e.1) (lay_body f).1) base e.0 (body_code f.body) (lay_body f).0 e.0 []
    (lay_stands base e.1 e.0 (body_code f.body) e.0 [] few)

end_reads : (e : Ending) (base : ℕ) → (return_size (end_value e)).reach ≤ base
end_reads ending.Bare base = omega arith
end_reads ending.Zero base = omega arith
end_reads ending.Stuck base = omega arith

pub end_stands : (f : Function) → Returns (graph_of f) (base_of f) (end_value f.ending) (lay_end f).0
unfolding rtl_function
end_stands f =
    let base = base_of f in
    let e = lay_end f in
    returns_more (later 0 e.1) (λ i. slice_get (lay_body f).1 i) (λ i x h. (lay_added e.1 base e.0 (body_code f.body) e.0 []).keeps i x (later_in 0 e.1 i x h).1) base (end_value f.ending) e.0
    (return_stands base [] (end_value f.ending) (end_reads f.ending base))
