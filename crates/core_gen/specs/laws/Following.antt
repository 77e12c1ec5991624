-- When what Core has still to do follows what the source has still to do.
use Rattle.std.specs.Prelude.{◌≡◌, ℕ, List, [], ◌∷◌, ◌++◌, map}
use Rattle.std.proofs.Common.{suc, refl, ap, sym, subst}
use Rattle.clight_unit.specs.declared.statement.Statement.{Statement}
use Rattle.clight_sem.specs.States.{Item as Left, Whole, whole, behind_loop, from_loop}
use Rattle.core_lang.specs.declared.syntax.Statement.{Statement as Code}
use Rattle.core_lang.specs.Meaning.{Item, Do, End, to_do, leave}
use Rattle.core_gen.specs.Translation.{coded, tested, simple_code, simple_if_any, code_of}
use Rattle.core_gen.specs.laws.Evaluating.{to_do_behind}
use Rattle.core_gen.specs.Relation.{body_code, do_loop, for_loop, Follows, Round, Stands, nothing, at_end, at_exit, statement, simple, for_test, body_end, again, do_test, for_step, among, round}

pub coded_body : (base : ℕ) (ss : List Statement) (depth : ℕ) → coded (map (code_of base) ss) depth ≡ body_code base ss depth
coded_body base [] depth = refl
coded_body base (s ∷ ss) depth = ap (λ (l : List Code). code_of base s depth ++ l) (coded_body base ss depth)

pub leave_to_do : (n : ℕ) (ss : List Code) (rest : List Item) → leave n (to_do ss ++ rest) ≡ leave n rest
leave_to_do n [] rest = refl
leave_to_do n (s ∷ ss) rest = leave_to_do n ss rest

-- a body in front of what follows
pub follows_body : (base depth : ℕ) (ss : List Statement) (left : List Left) (rest : List Item) → Follows base depth left rest → Follows base depth (whole ss ++ left) (to_do (body_code base ss depth) ++ rest)
follows_body base depth [] left rest f = f
follows_body base depth (s ∷ ss) left rest f =
    subst (λ (l : List Item). Follows base depth (Whole s ∷ (whole ss ++ left)) l) (sym (to_do_behind (code_of base s depth) (body_code base ss depth) rest))
    (statement depth s (whole ss ++ left) (to_do (body_code base ss depth) ++ rest) (follows_body base depth ss left rest f))

behind_round : (base : ℕ) (left : List Left) (rest : List Item) → Round base left rest → Stands base (behind_loop left) (leave 0 rest)
behind_round base left rest (again depth t body l r f) = among depth f
behind_round base left rest (do_test depth t body l r f) = subst (λ (x : List Item). Stands base l x) (sym (leave_to_do 0 (tested base t) (Do (do_loop base t body) ∷ End ∷ r))) (among depth f)
behind_round base left rest (for_step depth t step body l r f) = subst (λ (x : List Item). Stands base l x) (sym (leave_to_do 0 (simple_if_any base step) (Do (for_loop base t step body) ∷ End ∷ r))) (among depth f)

-- `break`
pub broken : (base depth : ℕ) (left : List Left) (rest : List Item) → Follows base depth left rest → Stands base (behind_loop left) (leave (suc depth) rest)
broken base depth left rest nothing = among 0 nothing
broken base depth left rest (at_end d l r f) = broken base d l r f
broken base depth left rest (at_exit d l r others f) = subst (λ (x : List Item). Stands base (behind_loop l) x) (sym (leave_to_do (suc (suc d)) others (End ∷ r))) (broken base d l r f)
broken base depth left rest (statement d s l r f) = subst (λ (x : List Item). Stands base (behind_loop l) x) (sym (leave_to_do (suc d) (code_of base s d) r)) (broken base d l r f)
broken base depth left rest (simple d x l r f) = subst (λ (x : List Item). Stands base (behind_loop l) x) (sym (leave_to_do (suc d) (simple_code base x) r)) (broken base d l r f)
broken base depth left rest (for_test d t step body l r f) = broken base d l r f
broken base depth left rest (body_end l r f) = behind_round base l r f

from_round : (base : ℕ) (left : List Left) (rest : List Item) → Round base left rest → Stands base (from_loop left) rest
from_round base left rest (again depth t body l r f) = round (again depth t body l r f)
from_round base left rest (do_test depth t body l r f) = round (do_test depth t body l r f)
from_round base left rest (for_step depth t step body l r f) = round (for_step depth t step body l r f)

-- `continue`
pub continued : (base depth : ℕ) (left : List Left) (rest : List Item) → Follows base depth left rest → Stands base (from_loop left) (leave depth rest)
continued base depth left rest nothing = among 0 nothing
continued base depth left rest (at_end d l r f) = continued base d l r f
continued base depth left rest (at_exit d l r others f) = subst (λ (x : List Item). Stands base (from_loop l) x) (sym (leave_to_do (suc d) others (End ∷ r))) (continued base d l r f)
continued base depth left rest (statement d s l r f) = subst (λ (x : List Item). Stands base (from_loop l) x) (sym (leave_to_do d (code_of base s d) r)) (continued base d l r f)
continued base depth left rest (simple d x l r f) = subst (λ (x : List Item). Stands base (from_loop l) x) (sym (leave_to_do d (simple_code base x) r)) (continued base d l r f)
continued base depth left rest (for_test d t step body l r f) = continued base d l r f
continued base depth left rest (body_end l r f) = from_round base l r f
