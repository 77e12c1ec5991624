-- One step of a program, where it is known what comes next.
use Rattle.std.proofs.Common.{◌≡◌, List, ◌∷◌, Option, Some, None, refl, sym, ap, ◌∙◌, false, if◌then◌else◌}
use Rattle.text_grammar.specs.declared.kind.Kind.{Kind}
use Rattle.text_grammar.specs.laws.SameKind.{same}
use Rattle.text_grammar.specs.Grammar.{Symbol}
use Rattle.text_grammar.specs.laws.Programs.{head, Out, Rule, Sort, Prog, Ret, Fail, Eat, Call, taken, if_some, try, expect, and_then, walk, runs}
use Rattle.text_grammar.specs.laws.Same.{same_self}

pub taken_some : (kind : Kind) (x : Symbol) → x.kind ≡ kind → taken kind (Some x) ≡ Some x
taken_some kind x h = ap (λ b. if b then Some x else None) (same_self kind x.kind (sym h))

pub not_taken : (kind : Kind) (x : Symbol) → same kind x.kind ≡ false → taken kind (Some x) ≡ None
not_taken kind x h = ap (λ b. if b then Some x else None) h

-- a token of another kind
pub other : (kind its : Kind) (x : Symbol) → x.kind ≡ its → same kind its ≡ false → taken kind (Some x) ≡ None
other kind its x h e = not_taken kind x (ap (same kind) h ∙ e)

pub try_take : {A : Type 0} (kind : Kind) (f : Symbol → Prog A) (p : Prog A) (x : Symbol) (r : List Symbol) → x.kind ≡ kind → walk runs (try kind f p) (x ∷ r) ≡ walk runs (f x) r
try_take kind f p x r h = ap (λ o. walk runs (if_some o (λ x. Eat (f x)) p) (x ∷ r)) (taken_some kind x h)

pub try_no : {A : Type 0} (kind : Kind) (f : Symbol → Prog A) (p : Prog A) (ts : List Symbol) → taken kind (head ts) ≡ None → walk runs (try kind f p) ts ≡ walk runs p ts
try_no kind f p ts h = ap (λ o. walk runs (if_some o (λ x. Eat (f x)) p) ts) h

pub try_other : {A : Type 0} (kind : Kind) (f : Symbol → Prog A) (p : Prog A) (its : Kind) (x : Symbol) (r : List Symbol) → x.kind ≡ its → same kind its ≡ false
    → walk runs (try kind f p) (x ∷ r) ≡ walk runs p (x ∷ r)
try_other kind f p its x r h e = try_no kind f p (x ∷ r) (other kind its x h e)

pub expect_take : {A : Type 0} (kind : Kind) (p : Prog A) (x : Symbol) (r : List Symbol) → x.kind ≡ kind → walk runs (expect kind p) (x ∷ r) ≡ walk runs p r
expect_take kind p x r h = try_take kind (λ x. p) Fail x r h

pub call_ok : {A : Type 0} (m : Rule) (f : Sort m → Prog A) (ts : List Symbol) (v : Sort m) (r : List Symbol)
    → runs m ts ≡ (Some v, r) → walk runs (Call m f) ts ≡ walk runs (f v) r
call_ok m f ts v r h = ap (λ o. and_then o (λ v r. walk runs (f v) r)) h

pub call_last : (m : Rule) (ts : List Symbol) → walk runs (Call m Ret) ts ≡ runs m ts
call_last m ts = go (runs m ts).0 (runs m ts).1
  where
    go : (v : Option (Sort m)) (r : List Symbol) → ◌≡◌ {A = Out (Sort m)} (if_some v (λ a. (Some a, r)) (None, r)) (v, r)
    go None r = refl
    go (Some a) r = refl
